use Rattle.std.proofs.Common.{◌≡◌, ◌≤◌, length, arith}
use Rattle.std.proofs.lemmas.Bool.Decides.{nat_tests}
use Rattle.vm_link.specs.Queue.{free_count}
use Rattle.vm_guest.proofs.ByHandLemmas.{event_postable, event_fits, few_fresh}
use Rattle.vm_guest.proofs.tests.rig.Rig.new.Goals as goal

pub post-requires-clause-postable : goal.post-requires-clause-postable
post-requires-clause-postable c = event_postable _ _ c.in_ok-chain.ensures

pub post-requires-clause-room : goal.post-requires-clause-room
post-requires-clause-room c =
    let free : 1 ≤ free_count c.loop-k.link.event = grind (arith, nat_tests, c.in_ok-check.ensures, c.free.ensures) in
    event_fits _ _ c.loop-k.link.event c.in_ok-chain.ensures free
