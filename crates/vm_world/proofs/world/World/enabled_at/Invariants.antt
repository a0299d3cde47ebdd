use Rattle.std.proofs.Common.{◌≡◌, drop}
use Rattle.std.specs.Prelude.{slice_get}
use Rattle.vm_realm.specs.Enabled.{enabled}
use Rattle.vm_world.proofs.KindLemmas.{steps_in}
use Rattle.vm_world.proofs.world.World.enabled_at.Given as goal

-- it is in this place among the steps of the kinds that are left
abbrev pub invariant-loop-kind : goal.invariant-loop-kind
invariant-loop-kind g l =
    slice_get (steps_in l.fn.self (drop l.kind-index l.kind-items)) l.place ≡ slice_get (enabled l.fn.self) l.fn.k
