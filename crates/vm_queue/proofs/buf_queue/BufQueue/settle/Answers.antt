use Rattle.std.proofs.Common.{◌≡◌, true, subst, sym}
use Rattle.vm_queue.specs.Buffers.{Buffers, is_out}
use Rattle.vm_queue.proofs.SoundLemmas.{settled_sound, settled_home}
use Rattle.vm_queue.proofs.buf_queue.BufQueue.settle.Goals as goal

pub invariant_of-self : goal.invariant_of-self
invariant_of-self c =
    let q : Buffers = record { kind = c.self.inside.kind; count = c.self.inside.count; length = c.self.inside.length; queued = c.self.inside.queued.items; out = c.self.inside.out.items } in
    let sound = settled_sound q c.args.index c.self.invariant.0 in
    let roomy = c.self.invariant in
    (rw c.remove.ensures.list sound, roomy.1, rw c.remove.ensures.capacity roomy.2)

pub returns-clause-home : goal.returns-clause-home
returns-clause-home c =
    let q : Buffers = record { kind = c.self.inside.kind; count = c.self.inside.count; length = c.self.inside.length; queued = c.self.inside.queued.items; out = c.self.inside.out.items } in
    let out : is_out q c.args.index ≡ true = subst (λ q. is_out q c.args.index ≡ true) (sym c.self.view_is) c.requires in
    rw c.remove.ensures.list (settled_home q c.args.index c.self.invariant.0 out)
