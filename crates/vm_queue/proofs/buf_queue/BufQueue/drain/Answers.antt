use Rattle.std.proofs.Common.{◌≡◌, All, true, subst}
use Rattle.vm_queue.specs.declared.queued.Queued.{Queued}
use Rattle.vm_queue.specs.Buffers.{Buffers, is_home, drained}
use Rattle.vm_queue.proofs.SoundLemmas.{drained_sound, drained_home}
use Rattle.vm_queue.proofs.buf_queue.BufQueue.drain.Goals as goal

pub invariant_of-self : goal.invariant_of-self
invariant_of-self c =
    let q : Buffers = record { kind = c.self.inside.kind; count = c.self.inside.count; length = c.self.inside.length; queued = c.self.inside.queued.items; out = c.self.inside.out.items } in
    let sound = drained_sound q c.self.invariant.0 in
    let roomy = c.self.invariant in
    (rw c.give_back.ensures.none sound, rw c.give_back.ensures.capacity roomy.1, roomy.2)

pub returns-clause-home : goal.returns-clause-home
returns-clause-home c =
    let q : Buffers = record { kind = c.self.inside.kind; count = c.self.inside.count; length = c.self.inside.length; queued = c.self.inside.queued.items; out = c.self.inside.out.items } in
    let home = drained_home q c.self.invariant.0 in
    rw c.give_back.ensures.none (subst (λ (now : Buffers). All (λ (b : Queued). is_home (drained q) b.buffer.index ≡ true) now.queued) c.self.view_is home)
