use Rattle.std.proofs.Common.{ℕ, arith, ap, not, ◌==◌, filter, ◌∙◌}
use Rattle.std.proofs.lemmas.Grind.{common_steps}
use Rattle.vm_local.specs.declared.owed.Owed.{Owed}
use Rattle.vm_local.specs.Queue.{stopped_queue, owed_by_others}
use Rattle.vm_local.specs.State.{QueueState, LocalState, queue_of, with_queue}
use Rattle.vm_local.specs.Record.{RecordState}
use Rattle.vm_local.proofs.OrderlyLemmas.{orderly_as, set_seen, sound_shown, sound_renewed}
use Rattle.vm_local.proofs.record.Record.renew_buffers.Goals as goal

pub invariant_of-self : goal.invariant_of-self
invariant_of-self c =
    let s : LocalState = c.args.self.now.local in
    let t : ℕ = c.args.t in
    let f : QueueState → QueueState = λ q. record (stopped_queue q) { memory = c.memory_kind-kind.result; buffers = c.fresh_buffers-buffers.result.items } in (
      c.self.invariant.0,
      orderly_as (record (with_queue s t (f (queue_of s t))) { owed = owed_by_others s t }) _ _ _ (ap (λ (r : RecordState). r.local.model) c.self.view_is)
          (set_seen f _ s (ap (λ (r : RecordState). r.local.queues) c.self.view_is) t _ _ c.in-Some.ensures.place c.renew.ensures)
          (c.remove_owed.ensures.items ∙ ap (λ (r : RecordState). filter (λ (o : Owed). not (o.queue == t)) r.local.owed) c.self.view_is)
          (sound_renewed s t c.args.m c.args.n _ _ _ _ _ c.requires.passes c.fresh_buffers-buffers.ensures (sound_shown _ _ c.self.view_is c.self.invariant.1)),
      omega (arith, c.self.invariant.2),
      omega (arith, c.self.invariant.3),
      omega (arith, c.self.invariant.4, c.remove_owed.ensures.len, c.remove_owed.ensures.capacity),
      grind (arith, common_steps),
      omega (arith, c.self.invariant.6),
    )
