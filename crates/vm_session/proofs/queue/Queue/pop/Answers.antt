use Rattle.std.proofs.Common.{refl, ◌∙◌}
use Rattle.vm_session.specs.State.{SessionQueue}
use Rattle.vm_session.proofs.HeadLemmas.{popped_over, popped_fits, same_count}
use Rattle.vm_session.proofs.queue.Queue.pop.Goals as goal

pub invariant_of-self : goal.invariant_of-self
invariant_of-self c =
    let b = c.self.inside.buffers in
    let q : SessionQueue = record { format = c.self.inside.format; kind = b.kind; lengths = c.self.inside.lengths.items; first_frame = c.self.inside.first_frame; streaming = c.self.inside.streaming; sequence = c.self.inside.sequence; queued = b.queued; out = b.out } in
    let kept = c.self.invariant in
    rw (c.pop.ensures.queue) (popped_over q b b.queued refl kept.0, kept.1 ∙ same_count b b.queued, kept.2)

pub returns-clause-room : goal.returns-clause-room
returns-clause-room c =
    let b = c.self.inside.buffers in
    let q : SessionQueue = record { format = c.self.inside.format; kind = b.kind; lengths = c.self.inside.lengths.items; first_frame = c.self.inside.first_frame; streaming = c.self.inside.streaming; sequence = c.self.inside.sequence; queued = b.queued; out = b.out } in
    rw (c.pop.ensures.first, ← c.self.view_is) (popped_fits q b c.self.invariant.0)
