use Rattle.std.proofs.Common.{length}
use Rattle.vm_guest.proofs.EventReleaseLemmas.{Releasing}
use Rattle.vm_guest.proofs.guest.release.Given as goal

abbrev pub invariant-events : goal.invariant-events
invariant-events l = Releasing l.session l.seat l.fn.callers.items l.fn.held l.callers.items l.held

abbrev pub decreases-events : goal.decreases-events
decreases-events l = length l.held.held
