use Rattle.std.proofs.Common.{◌≤◌, length, arith}
use Rattle.std.proofs.lemmas.Grind.{common_steps}
use Rattle.vm_queue.specs.Buffers.{Buffers}
use Rattle.vm_queue.proofs.SoundLemmas.{few_away, popped_sound}
use Rattle.vm_queue.proofs.buf_queue.BufQueue.pop.Goals as goal

pub push_reserved-requires : goal.push_reserved-requires
push_reserved-requires c =
    let q : Buffers = record { kind = c.self.inside.kind; count = c.self.inside.count; length = c.self.inside.length; queued = c.self.inside.queued.items; out = c.self.inside.out.items } in
    let sound = c.self.invariant.0 in
    let few = few_away q sound in
    let most = sound.few in
    let some : 1 ≤ length c.self.inside.queued.items = rw c.in_ok-buffer.ensures.items (omega arith) in
    let roomy = c.self.invariant.2 in
    grind (arith, common_steps)

pub invariant_of-self-2 : goal.invariant_of-self-2
invariant_of-self-2 c =
    let q : Buffers = record { kind = c.self.inside.kind; count = c.self.inside.count; length = c.self.inside.length; queued = c.self.inside.queued.items; out = c.self.inside.out.items } in
    let sound = popped_sound q c.in_ok-buffer.field-0 c.pop_front.new.self.items c.in_ok-buffer.ensures.items c.self.invariant.0 in
    let roomy = c.self.invariant in
    (rw c.push_reserved.ensures.items sound, grind (arith, common_steps), grind (arith, common_steps))
