use Rattle.std.proofs.Common.{arith, ◌≡◌, ◌++◌, ◌∷◌, [], ◌≤◌, length, subst, sym}
use Rattle.std.proofs.lemmas.Grind.{common_steps}
use Rattle.vm_link.specs.Queue.{Queue, free_count}
use Rattle.vm_link.proofs.SoundLemmas.{posted_sound, list_lengths}
use Rattle.vm_link.proofs.plain_queue.PlainQueue.post.Goals as goal

pub unwrap-requires : goal.unwrap-requires
unwrap-requires c =
    let q : Queue = record { size = c.self.inside.size; waiting = c.self.inside.waiting.items; out = c.self.inside.out.items; done = c.self.inside.done.items } in
    let room : length c.args.parcel.table ≤ free_count q = subst (λ q. length c.args.parcel.table ≤ free_count q) (sym c.self.view_is) c.requires.room in
    let lengths = list_lengths c.self.inside.free_heads.items q c.self.invariant.0 in
    let some = c.requires.postable.0 in
    let roomy = c.self.invariant.1.waiting in
    grind (arith, common_steps)

pub invariant_of-self : goal.invariant_of-self
invariant_of-self c =
    let q : Queue = record { size = c.self.inside.size; waiting = c.self.inside.waiting.items; out = c.self.inside.out.items; done = c.self.inside.done.items } in
    let room : length c.args.parcel.table ≤ free_count q = subst (λ q. length c.args.parcel.table ≤ free_count q) (sym c.self.view_is) c.requires.room in
    let sound = posted_sound c.self.inside.free_heads.items q c.args.parcel c.self.invariant.0 c.requires.postable room in
    let pushed : c.push_back.new.self.items ≡ c.self.inside.waiting.items ++ c.args.parcel ∷ [] = grind (arith, common_steps) in
    let roomy = c.self.invariant.1 in
    (rw pushed sound, record { free = roomy.free; waiting = grind (arith, common_steps); out = roomy.out; done = roomy.done })
