use Rattle.std.proofs.Common.{◌≤◌, ◌+◌, length, subst}
use Rattle.vm_queue.specs.Buffers.{Buffers, IsSound}
use Rattle.vm_queue.proofs.SoundLemmas.{few_away}
use Rattle.vm_queue.proofs.buf_queue.BufQueue.count.Goals as goal

pub returns-clause-few : goal.returns-clause-few
returns-clause-few c = subst (λ (q : Buffers). q.count ≤ 32) c.self.view_is c.self.invariant.0.few

pub returns-clause-away : goal.returns-clause-away
returns-clause-away c =
    let q : Buffers = record { kind = c.self.inside.kind; count = c.self.inside.count; length = c.self.inside.length; queued = c.self.inside.queued.items; out = c.self.inside.out.items } in
    subst (λ (q : Buffers). length q.queued + length q.out ≤ q.count) c.self.view_is (few_away q c.self.invariant.0)

pub returns-clause-sound : goal.returns-clause-sound
returns-clause-sound c = subst IsSound c.self.view_is c.self.invariant.0
