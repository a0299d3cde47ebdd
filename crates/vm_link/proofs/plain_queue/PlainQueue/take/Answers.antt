use Rattle.std.proofs.Common.{◌≡◌, ◌≤◌, ◌++◌, ◌∷◌, [], length, ap, refl, subst, arith}
use Rattle.std.proofs.lemmas.Grind.{common_steps}
use Rattle.vm_link.specs.declared.parcel.Parcel.{Parcel}
use Rattle.vm_link.specs.PlainQueue.{IsSound}
use Rattle.vm_link.specs.Queue.{Queue}
use Rattle.vm_link.proofs.SoundLemmas.{taken_sound, takes_first, some_head_free}
use Rattle.vm_link.proofs.plain_queue.PlainQueue.take.Goals as goal

pub unwrap-head-requires : goal.unwrap-head-requires
unwrap-head-requires c =
    let q : Queue = record { size = c.self.inside.size; waiting = c.self.inside.waiting.items; out = c.self.inside.out.items; done = c.self.inside.done.items } in
    let waits : 1 ≤ length c.self.inside.waiting.items = rw c.in_ok-parcel.ensures.items (omega arith) in
    let free : 1 ≤ length c.self.inside.free_heads.items = some_head_free c.self.inside.free_heads.items q c.self.invariant.0 waits in
    grind (arith, common_steps)

pub invariant_of-self-2 : goal.invariant_of-self-2
invariant_of-self-2 c =
    let q : Queue = record { size = c.self.inside.size; waiting = c.self.inside.waiting.items; out = c.self.inside.out.items; done = c.self.inside.done.items } in
    let popped : c.self.inside.free_heads.items ≡ c.pop.new.self.items ++ c.unwrap-head.result ∷ [] = grind (arith, common_steps) in
    let sound : IsSound (c.pop.new.self.items ++ c.unwrap-head.result ∷ []) q = subst (λ free. IsSound free q) popped c.self.invariant.0 in
    let now = taken_sound c.pop.new.self.items q c.unwrap-head.result c.in_ok-parcel.parcel c.pop_front.new.self.items sound c.in_ok-parcel.ensures.items in
    let table : length c.parcel.inside.table.items ≡ length c.in_ok-parcel.parcel.table = ap (λ (p : Parcel). length p.table) c.parcel.view_is in
    let count : c.len-count.result ≡ length c.in_ok-parcel.parcel.table = grind (arith, common_steps) in
    let roomy = c.self.invariant.1 in
    (rw (c.push_reserved.ensures.items, count) now, record { free = grind (arith, common_steps); waiting = grind (arith, common_steps); out = grind (arith, common_steps); done = roomy.done })

pub returns : goal.returns
returns c =
    let q : Queue = record { size = c.self.inside.size; waiting = c.self.inside.waiting.items; out = c.self.inside.out.items; done = c.self.inside.done.items } in
    let popped : c.self.inside.free_heads.items ≡ c.pop.new.self.items ++ c.unwrap-head.result ∷ [] = grind (arith, common_steps) in
    let sound : IsSound (c.pop.new.self.items ++ c.unwrap-head.result ∷ []) q = subst (λ free. IsSound free q) popped c.self.invariant.0 in
    let table : length c.parcel.inside.table.items ≡ length c.in_ok-parcel.parcel.table = ap (λ (p : Parcel). length p.table) c.parcel.view_is in
    let count : c.len-count.result ≡ length c.in_ok-parcel.parcel.table = grind (arith, common_steps) in
    takes_first c.pop.new.self.items q c.args.self.now _ c.args.chain.now c.walk_parcel-fault.new.chain _ c.pop_front.new.self.items c.self.view_is sound c.in_ok-parcel.ensures.items
    (rw (c.push_reserved.ensures.items, count) refl) c.walk_parcel-fault.ensures.fault c.walk_parcel-fault.ensures.chain
