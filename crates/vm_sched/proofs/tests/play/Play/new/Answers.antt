use Rattle.std.proofs.Common.{length, ap, ◌∙◌}
use Rattle.vm_guest.specs.Guest.{GuestState}
use Rattle.vm_sched.specs.Hands.{empty_hands}
use Rattle.vm_sched.proofs.GoLemmas.{has_none}
use Rattle.vm_sched.proofs.tests.play.Play.new.Goals as goal

-- nothing is out yet, and nothing is in hand
pub invariant_of-result : goal.invariant_of-result
invariant_of-result c =
    has_none c.in_ok-world.world c.in_ok-hands.hands c.in_ok-world.ensures
    (c.in_ok-hands.ensures ∙ ap empty_hands (c.process_count.ensures ∙ ap (λ (x : GuestState). length x.processes) c.guest.ensures.guest))
