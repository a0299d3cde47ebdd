use Rattle.std.proofs.Common.{◌≡◌, ◌∷◌, [], ◌++◌, true, arith}
use Rattle.std.proofs.lemmas.Grind.{common_steps}
use Rattle.vm_queue.specs.Buffers.{Buffers, is_home, pushed}
use Rattle.vm_queue.proofs.SoundLemmas.{few_away, pushed_sound}
use Rattle.vm_queue.proofs.buf_queue.BufQueue.push.Goals as goal

pub unwrap-requires : goal.unwrap-requires
unwrap-requires c =
    let q : Buffers = record { kind = c.self.inside.kind; count = c.self.inside.count; length = c.self.inside.length; queued = c.self.inside.queued.items; out = c.self.inside.out.items } in
    let home : is_home q c.args.b.index ≡ true = grind (arith, common_steps) in
    let few = few_away (pushed q c.args.b c.args.h) (pushed_sound q c.args.b c.args.h home c.self.invariant.0) in
    let most = c.self.invariant.0.few in
    let roomy = c.self.invariant.1 in
    grind (arith, common_steps)

pub invariant_of-self : goal.invariant_of-self
invariant_of-self c =
    let q : Buffers = record { kind = c.self.inside.kind; count = c.self.inside.count; length = c.self.inside.length; queued = c.self.inside.queued.items; out = c.self.inside.out.items } in
    let home : is_home q c.args.b.index ≡ true = grind (arith, common_steps) in
    let sound = pushed_sound q c.args.b c.args.h home c.self.invariant.0 in
    let pushed : c.push_back.new.self.items ≡ c.self.inside.queued.items ++ record { buffer = c.args.b; held = c.args.h } ∷ [] = grind (arith, common_steps) in
    let roomy = c.self.invariant in
    (rw pushed sound, grind (arith, common_steps), roomy.2)
