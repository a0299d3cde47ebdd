use Rattle.std.proofs.Common.{arith}
use Rattle.std.proofs.lemmas.Grind.{common_steps}
use Rattle.vm_link.specs.Queue.{Queue}
use Rattle.vm_link.proofs.SoundLemmas.{list_lengths}
use Rattle.vm_link.proofs.plain_queue.PlainQueue.untaken.Goals as goal

pub overflow_cast-result : goal.overflow_cast-result
overflow_cast-result c =
    let q : Queue = record { size = c.self.inside.size; waiting = c.self.inside.waiting.items; out = c.self.inside.out.items; done = c.self.inside.done.items } in
    let sound = c.self.invariant.0 in
    let lengths = list_lengths c.self.inside.free_heads.items q sound in
    let small = sound.small in
    let fits = sound.fits in
    grind (arith, common_steps)
