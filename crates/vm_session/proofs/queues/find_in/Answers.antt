use Rattle.std.proofs.Common.{◌≡◌, ◌<◌, true, false, is_some, length, arith}
use Rattle.std.proofs.lemmas.Grind.{common_steps}
use Rattle.vm_session.proofs.FrameLemmas.{found_here, found_behind}
use Rattle.vm_session.proofs.queues.find_in.Invariants.{frames_in}
use Rattle.vm_session.proofs.queues.find_in.Goals as goal

pub returns-then-is_some : goal.returns-then-is_some
returns-then-is_some c =
    let within : c.loop-kind.kind-index < length c.args.types.now = grind (arith, common_steps) in
    let some : is_some c.find_at-found.result ≡ true = grind (arith, common_steps) in
    found_here c.args.offset (frames_in c.args.queues.now c.args.types.now c.args.id) c.args.types.now c.loop-kind.kind-index c.find_at-found.result
    within c.loop-kind.invariant (rw (← c.place_in.ensures) c.find_at-found.ensures) some

pub loop-kind-preserved : goal.loop-kind-preserved
loop-kind-preserved c =
    let within : c.loop-kind.kind-index < length c.args.types.now = grind (arith, common_steps) in
    let none : is_some c.find_at-found.result ≡ false = grind (arith, common_steps) in
    found_behind c.args.offset (frames_in c.args.queues.now c.args.types.now c.args.id) c.args.types.now c.loop-kind.kind-index c.find_at-found.result
    within c.loop-kind.invariant (rw (← c.place_in.ensures) c.find_at-found.ensures) none
