use Rattle.std.proofs.Common.{arith}
use Rattle.std.proofs.lemmas.Grind.{common_steps}
use Rattle.vm_queue.specs.Buffers.{Buffers}
use Rattle.vm_queue.proofs.SoundLemmas.{few_away}
use Rattle.vm_queue.proofs.buf_queue.BufQueue.queued.Goals as goal

pub overflow_cast-result : goal.overflow_cast-result
overflow_cast-result c =
    let q : Buffers = record { kind = c.self.inside.kind; count = c.self.inside.count; length = c.self.inside.length; queued = c.self.inside.queued.items; out = c.self.inside.out.items } in
    let few = few_away q c.self.invariant.0 in
    let most = c.self.invariant.0.few in
    grind (arith, common_steps)
