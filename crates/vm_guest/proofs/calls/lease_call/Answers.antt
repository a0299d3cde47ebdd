use Rattle.std.proofs.Common.{◌≡◌, ◌<◌, false, sym, subst}
use Rattle.vm_handle.specs.Handle.{HandleState}
use Rattle.vm_guest.proofs.CallLemmas.{found_at, leases_there}
use Rattle.vm_guest.proofs.calls.lease_call.Goals as goal

pub lease-requires-clause-answered : goal.lease-requires-clause-answered
lease-requires-clause-answered c =
    subst (λ (h : HandleState). h.log.unanswered ≡ false) (sym (found_at c.args.handles.now.items c.args.asked.now.handle c.index_mut-handle.result.now c.requires.can.within c.index_mut-handle.ensures.value)) c.requires.can.rests

pub lease-requires-clause-lines : goal.lease-requires-clause-lines
lease-requires-clause-lines c =
    subst (λ (h : HandleState). h.log.begun < h.log.lines) (sym (found_at c.args.handles.now.items c.args.asked.now.handle c.index_mut-handle.result.now c.requires.can.within c.index_mut-handle.ensures.value)) c.requires.can.more

pub returns : goal.returns
returns c =
    leases_there c.args.handles.now.items c.args.asked.now c.index_mut-handle.result.now c.lease.new.self c.lease.result
    (found_at c.args.handles.now.items c.args.asked.now.handle c.index_mut-handle.result.now c.requires.can.within c.index_mut-handle.ensures.value) c.lease.ensures.leases c.lease.ensures.rest
