use Rattle.std.proofs.Common.{ℕ, arith, refl, ap, not, ◌==◌, filter, ◌∙◌}
use Rattle.vm_local.specs.declared.owed.Owed.{Owed}
use Rattle.vm_local.specs.Queue.{stopped_queue}
use Rattle.vm_local.specs.State.{LocalState}
use Rattle.vm_local.specs.Calls.{streamoff_row}
use Rattle.vm_local.specs.declared.call.Call.TheVariants.{StreamOff}
use Rattle.vm_local.specs.Record.{RecordState}
use Rattle.vm_local.proofs.ListedLemmas.{IsSound, sound_row}
use Rattle.vm_local.proofs.OrderlyLemmas.{orderly_as, set_seen, sound_shown}
use Rattle.vm_local.proofs.record.Record.stop.Goals as goal

pub invariant_of-self : goal.invariant_of-self
unfolding streamoff_row
invariant_of-self c =
    let s : LocalState = c.args.self.now.local in
    let t : ℕ = c.args.t in
    let sound : IsSound (streamoff_row s t).next =
    sound_row s 0 0 (StreamOff t) c.requires refl (sound_shown _ _ c.self.view_is c.self.invariant.1) in (
      c.self.invariant.0,
      orderly_as (streamoff_row s t).next _ _ _ (ap (λ (r : RecordState). r.local.model) c.self.view_is)
          (set_seen stopped_queue _ s (ap (λ (r : RecordState). r.local.queues) c.self.view_is) t _ _ c.in-Some.ensures.place c.stop.ensures)
          (c.remove_owed.ensures.items ∙ ap (λ (r : RecordState). filter (λ (o : Owed). not (o.queue == t)) r.local.owed) c.self.view_is) sound,
      c.self.invariant.2,
      c.self.invariant.3,
      omega (arith, c.self.invariant.4, c.remove_owed.ensures.len, c.remove_owed.ensures.capacity),
      c.self.invariant.5,
      c.self.invariant.6,
    )
