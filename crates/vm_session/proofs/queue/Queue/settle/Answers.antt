use Rattle.std.proofs.Common.{◌≤◌, map, subst, arith}
use Rattle.vm_queue.specs.declared.queued.Queued.{Queued}
use Rattle.vm_session.specs.State.{SessionQueue}
use Rattle.vm_mem.specs.Lists.{occurrences}
use Rattle.vm_mem.proofs.OccurrenceLemmas.{occurrences-append}
use Rattle.vm_session.proofs.HeadLemmas.{settled_over}
use Rattle.vm_session.proofs.queue.Queue.settle.Goals as goal

pub invariant_of-self : goal.invariant_of-self
invariant_of-self c =
    let b = c.self.inside.buffers in
    let q : SessionQueue = record { format = c.self.inside.format; kind = b.kind; lengths = c.self.inside.lengths.items; first_frame = c.self.inside.first_frame; streaming = c.self.inside.streaming; sequence = c.self.inside.sequence; queued = b.queued; out = b.out } in
    let kept = c.self.invariant in
    rw (c.settle.ensures.queue) (settled_over q b c.args.index kept.0, kept.1, kept.2)

pub returns-clause-once : goal.returns-clause-once
returns-clause-once c =
    let b = c.self.inside.buffers in
    let once = c.count-count.ensures.sound.apart c.args.index in
    let both = occurrences-append c.args.index (map (λ (x : Queued). x.buffer.index) b.queued) b.out in
    let few : occurrences c.args.index b.out ≤ 1 = omega (arith, once, both) in
    subst (λ (q : SessionQueue). occurrences c.args.index q.out ≤ 1) c.self.view_is few
