use Rattle.std.proofs.Common.{ℕ, ap}
use Rattle.vm_local.specs.Queue.{taken_back}
use Rattle.vm_local.specs.State.{LocalState}
use Rattle.vm_local.specs.Calls.{dqbuf_row}
use Rattle.vm_local.specs.Record.{RecordState}
use Rattle.vm_local.proofs.ListedLemmas.{IsSound, sound_taken_back}
use Rattle.vm_local.proofs.OrderlyLemmas.{orderly_as, set_seen, sound_shown}
use Rattle.vm_local.proofs.record.Record.take_back.Goals as goal

pub invariant_of-self : goal.invariant_of-self
unfolding dqbuf_row
invariant_of-self c =
    let s : LocalState = c.args.self.now.local in
    let t : ℕ = c.args.t in
    let sound : IsSound (dqbuf_row s t).next =
    sound_taken_back s t c.requires (sound_shown _ _ c.self.view_is c.self.invariant.1) in (
      c.self.invariant.0,
      orderly_as (dqbuf_row s t).next _ _ _ (ap (λ (r : RecordState). r.local.model) c.self.view_is)
          (set_seen taken_back _ s (ap (λ (r : RecordState). r.local.queues) c.self.view_is) t _ _ c.in-Some.ensures.place c.take_back.ensures)
          (ap (λ (r : RecordState). r.local.owed) c.self.view_is) sound,
      c.self.invariant.2,
      c.self.invariant.3,
      c.self.invariant.4,
      c.self.invariant.5,
      c.self.invariant.6,
    )
