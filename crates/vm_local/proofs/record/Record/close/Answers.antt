use Rattle.std.proofs.Common.{arith, refl, []}
use Rattle.vm_local.specs.State.{LocalState}
use Rattle.vm_local.specs.Calls.{closed}
use Rattle.vm_local.specs.Record.{state_of}
use Rattle.vm_local.proofs.ListedLemmas.{sound_closed}
use Rattle.vm_local.proofs.OrderlyLemmas.{orderly_as}
use Rattle.vm_local.proofs.record.Record.close.Goals as goal

pub invariant_of-self : goal.invariant_of-self
invariant_of-self c =
    let was : LocalState = state_of c.self.inside.model c.self.inside.queues c.self.inside.owed.items in (
      c.self.invariant.0,
      orderly_as (closed was) _ _ _ refl c.stop_all.ensures c.clear.ensures.items (sound_closed was [] refl c.self.invariant.1),
      c.self.invariant.2,
      c.self.invariant.3,
      omega (arith, c.self.invariant.4, c.clear.ensures.len, c.clear.ensures.capacity),
      c.self.invariant.5,
      c.self.invariant.6,
    )
