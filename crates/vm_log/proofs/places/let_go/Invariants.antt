use Rattle.std.proofs.Common.{◌≡◌}
use Rattle.vm_log.specs.Places.{LetsGo}
use Rattle.vm_log.proofs.places.let_go.Given as goal

abbrev pub invariant-loop-number : goal.invariant-loop-number
invariant-loop-number l = LetsGo l.kept.local l.fn.home.places l.home.places × (l.home.room ≡ l.fn.home.room)
