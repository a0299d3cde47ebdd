use Rattle.std.proofs.Common.{◌≡◌, ◌<◌, false, refl, sym, subst, arith, take, replicate}
use Rattle.std.proofs.lemmas.Grind.{common_steps}
use Rattle.vm_handle.specs.Handle.{HandleState}
use Rattle.vm_handle.specs.declared.started.Started.TheVariants.{Answered, Send, Wait}
use Rattle.vm_guest.proofs.CallLemmas.{found_at, home_room, own_after, own_long, starts_sent, starts_here}
use Rattle.vm_guest.proofs.calls.start_call.Goals as goal

pub start_on-requires-clause-rests : goal.start_on-requires-clause-rests
start_on-requires-clause-rests c =
    subst (λ (h : HandleState). h.log.unanswered ≡ false) (sym (found_at c.args.handles.now.items c.args.asked.now.handle c.index_mut-handle.result.now c.requires.can.within c.index_mut-handle.ensures.value)) c.requires.can.rests

pub start_on-requires-clause-more : goal.start_on-requires-clause-more
start_on-requires-clause-more c =
    subst (λ (h : HandleState). h.log.begun < h.log.lines) (sym (found_at c.args.handles.now.items c.args.asked.now.handle c.index_mut-handle.result.now c.requires.can.within c.index_mut-handle.ensures.value)) c.requires.can.more

pub start_on-requires-clause-room : goal.start_on-requires-clause-room
start_on-requires-clause-room c = home_room c.requires.chain.0 c.args.chain.now c.requires.chain.1

pub put_len-requires : goal.put_len-requires
put_len-requires c = record { chain = own_after c.args.chain.now c.start_on.new.chain c.requires.chain c.start_on.ensures.chain }

pub put_bytes-requires-clause-chain : goal.put_bytes-requires-clause-chain
put_bytes-requires-clause-chain c =
    own_long c.args.chain.now c.start_on.new.chain c.put_len.new.chain c.in-Send.len c.requires.chain c.start_on.ensures.chain c.put_len.ensures

pub returns-in-Send : goal.returns-in-Send
returns-in-Send c =
    starts_sent c.args.handles.now.items c.args.asked.now c.index_mut-handle.result.now c.start_on.new.handle c.args.chain.now c.start_on.new.chain c.put_len.new.chain c.put_bytes.new.chain
    (Send c.in-Send.len) c.in-Send.len (replicate 4096 0) c.start_on.new.out (take c.in-Send.len c.start_on.new.out) c.requires.can.within c.index_mut-handle.ensures.value c.requires.chain
    c.in-Send.ensures.starts c.start_on.ensures.fits c.start_on.ensures.chain refl c.put_len.ensures refl (grind (arith, common_steps)) c.put_bytes.ensures

pub returns-in-Answered : goal.returns-in-Answered
returns-in-Answered c =
    starts_here c.args.handles.now.items c.args.asked.now c.index_mut-handle.result.now c.start_on.new.handle c.args.chain.now c.start_on.new.chain Answered (replicate 4096 0) c.start_on.new.out
    c.requires.can.within c.index_mut-handle.ensures.value c.in-Answered.ensures.starts c.start_on.ensures.chain (λ len is. cc)

pub returns-in-Wait : goal.returns-in-Wait
returns-in-Wait c =
    starts_here c.args.handles.now.items c.args.asked.now c.index_mut-handle.result.now c.start_on.new.handle c.args.chain.now c.start_on.new.chain Wait (replicate 4096 0) c.start_on.new.out
    c.requires.can.within c.index_mut-handle.ensures.value c.in-Wait.ensures.starts c.start_on.ensures.chain (λ len is. cc)
