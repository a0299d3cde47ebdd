use Rattle.std.proofs.Common.{◌≡◌, ℕ, ◌≤◌, ◌++◌, [], ◌∷◌, set, Some, None, refl, ap, sym, ◌∙◌, subst, vec_capacity, arith, rules}
use Rattle.std.proofs.lemmas.Grind.{common_steps}
use Rattle.vm_split.specs.Kept.{Kept, queue_of, IsSound, parcel_at}
use Rattle.vm_split.specs.Stands.{SplitState}
use Rattle.vm_split.proofs.KeptLemmas.{kept_same, all_written, set_same, found, some_same, some_waits, first_head, first_is, with_taken, taken_sound, taken_first, short}
use Rattle.vm_split.proofs.split_queue.SplitQueue.take.Goals as goal

pub take_parcel-requires : goal.take_parcel-requires
take_parcel-requires c =
    let k : Kept = record { size = c.self.inside.ring.size; contents = c.self.inside.ring.contents; taken = c.self.inside.taken; collected = c.self.inside.collected; owners = c.self.inside.owners.items; parcels = c.self.inside.parcels.items; out = c.self.inside.out.items } in
    let queue = ap (λ (s : SplitState). s.queue) c.self.view_is in
    let sound = c.self.invariant.0 in
    let some = some_waits k c.args.self.now.queue c.untaken.result queue c.untaken.ensures c.if-untaken-eq0.false in
    let first = first_is k sound some in
    let head : c.available_head-head.result ≡ first_head k = c.available_head-head.ensures in
    let within = first.within in
    let size = sound.parcels in
    rw (c.as_mut_slice.ensures.value, head) (omega (arith, within, size))

pub unwrap-parcel-requires : goal.unwrap-parcel-requires
unwrap-parcel-requires c =
    let k : Kept = record { size = c.self.inside.ring.size; contents = c.self.inside.ring.contents; taken = c.self.inside.taken; collected = c.self.inside.collected; owners = c.self.inside.owners.items; parcels = c.self.inside.parcels.items; out = c.self.inside.out.items } in
    let queue = ap (λ (s : SplitState). s.queue) c.self.view_is in
    let sound = c.self.invariant.0 in
    let some = some_waits k c.args.self.now.queue c.untaken.result queue c.untaken.ensures c.if-untaken-eq0.false in
    let first = first_is k sound some in
    let head : c.available_head-head.result ≡ first_head k = c.available_head-head.ensures in
    let there : c.take_parcel.result ≡ Some (parcel_at k.parcels (first_head k)) =
    c.take_parcel.ensures.parcel ∙ (found _ _ _ _ c.as_mut_slice.ensures.value head ∙ first.there) in
    rw there (search rules)

pub push_reserved-requires : goal.push_reserved-requires
push_reserved-requires c =
    let k : Kept = record { size = c.self.inside.ring.size; contents = c.self.inside.ring.contents; taken = c.self.inside.taken; collected = c.self.inside.collected; owners = c.self.inside.owners.items; parcels = c.self.inside.parcels.items; out = c.self.inside.out.items } in
    let queue = ap (λ (s : SplitState). s.queue) c.self.view_is in
    let sound = c.self.invariant.0 in
    let some = some_waits k c.args.self.now.queue c.untaken.result queue c.untaken.ensures c.if-untaken-eq0.false in
    let first = first_is k sound some in
    let head : c.available_head-head.result ≡ first_head k = c.available_head-head.ensures in
    let few = short k sound in
    let room = c.self.invariant.1 in
    grind (arith, common_steps, few, room, some)

pub walk_parcel-fault-requires : goal.walk_parcel-fault-requires
walk_parcel-fault-requires c =
    let k : Kept = record { size = c.self.inside.ring.size; contents = c.self.inside.ring.contents; taken = c.self.inside.taken; collected = c.self.inside.collected; owners = c.self.inside.owners.items; parcels = c.self.inside.parcels.items; out = c.self.inside.out.items } in
    let queue = ap (λ (s : SplitState). s.queue) c.self.view_is in
    let sound = c.self.invariant.0 in
    let some = some_waits k c.args.self.now.queue c.untaken.result queue c.untaken.ensures c.if-untaken-eq0.false in
    let first = first_is k sound some in
    let head : c.available_head-head.result ≡ first_head k = c.available_head-head.ensures in
    let there : c.take_parcel.result ≡ Some (parcel_at k.parcels (first_head k)) =
    c.take_parcel.ensures.parcel ∙ (found _ _ _ _ c.as_mut_slice.ensures.value head ∙ first.there) in
    let parcel = some_same _ _ (sym c.unwrap-parcel.ensures ∙ there) in
    rw parcel first.whole.postable.2

pub invariant_of-self : goal.invariant_of-self
invariant_of-self c =
    let k : Kept = record { size = c.self.inside.ring.size; contents = c.self.inside.ring.contents; taken = c.self.inside.taken; collected = c.self.inside.collected; owners = c.self.inside.owners.items; parcels = c.self.inside.parcels.items; out = c.self.inside.out.items } in
    let queue = ap (λ (s : SplitState). s.queue) c.self.view_is in
    let sound = c.self.invariant.0 in
    let some = some_waits k c.args.self.now.queue c.untaken.result queue c.untaken.ensures c.if-untaken-eq0.false in
    let first = first_is k sound some in
    let head : c.available_head-head.result ≡ first_head k = c.available_head-head.ensures in
    let room = c.self.invariant.1 in
    let capacity = c.push_reserved.ensures.capacity in
    let fits : c.self.inside.ring.size ≤ vec_capacity c.push_reserved.new.self = omega (arith, room, capacity) in
    let parcels = all_written c.self.inside.parcels.len k.parcels c.take_parcel.new.parcels (set k.parcels (first_head k) None) (grind (arith, common_steps)) (grind (arith, common_steps))
    (c.take_parcel.ensures.parcels ∙ set_same _ _ _ _ _ c.as_mut_slice.ensures.value head) in
    let out : c.push_reserved.new.self.items ≡ k.out ++ first_head k ∷ [] = c.push_reserved.ensures.items ∙ ap (λ (h : ℕ). k.out ++ h ∷ []) head in
    let same = kept_same _ (with_taken k) refl refl refl refl refl parcels out in
    (subst (λ (k : Kept). IsSound k) (sym same) (taken_sound k sound some), fits)

pub returns-clause-taken : goal.returns-clause-taken
returns-clause-taken c =
    let k : Kept = record { size = c.self.inside.ring.size; contents = c.self.inside.ring.contents; taken = c.self.inside.taken; collected = c.self.inside.collected; owners = c.self.inside.owners.items; parcels = c.self.inside.parcels.items; out = c.self.inside.out.items } in
    let queue = ap (λ (s : SplitState). s.queue) c.self.view_is in
    let sound = c.self.invariant.0 in
    let some = some_waits k c.args.self.now.queue c.untaken.result queue c.untaken.ensures c.if-untaken-eq0.false in
    let first = first_is k sound some in
    let head : c.available_head-head.result ≡ first_head k = c.available_head-head.ensures in
    let there : c.take_parcel.result ≡ Some (parcel_at k.parcels (first_head k)) =
    c.take_parcel.ensures.parcel ∙ (found _ _ _ _ c.as_mut_slice.ensures.value head ∙ first.there) in
    let parcel = some_same _ _ (sym c.unwrap-parcel.ensures ∙ there) in
    let parcels = all_written c.self.inside.parcels.len k.parcels c.take_parcel.new.parcels (set k.parcels (first_head k) None) (grind (arith, common_steps)) (grind (arith, common_steps))
    (c.take_parcel.ensures.parcels ∙ set_same _ _ _ _ _ c.as_mut_slice.ensures.value head) in
    let out : c.push_reserved.new.self.items ≡ k.out ++ first_head k ∷ [] = c.push_reserved.ensures.items ∙ ap (λ (h : ℕ). k.out ++ h ∷ []) head in
    let same = kept_same _ (with_taken k) refl refl refl refl refl parcels out in
    taken_first k c.args.self.now.queue _ c.args.chain.now c.walk_parcel-fault.new.chain _ sound some queue (ap (λ (k : Kept). queue_of k) same) head parcel
    c.walk_parcel-fault.ensures.fault c.walk_parcel-fault.ensures.chain
