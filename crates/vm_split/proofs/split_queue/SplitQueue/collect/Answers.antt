use Rattle.std.proofs.Common.{◌≡◌, ◌≤◌, set, Some, None, refl, ap, sym, ◌∙◌, subst, arith, rules}
use Rattle.std.proofs.lemmas.Grind.{common_steps}
use Rattle.vm_link.specs.Queue.{Queue, used_count, first_finished, collected}
use Rattle.vm_split.specs.declared.entry.UsedEntry.{UsedEntry}
use Rattle.vm_split.specs.Kept.{Kept, queue_of, IsSound, parcel_at}
use Rattle.vm_split.specs.Owners.{taken_back}
use Rattle.vm_split.specs.Stands.{SplitState}
use Rattle.vm_split.proofs.KeptLemmas.{fits, kept_same, all_written, set_same, back_same, found, some_same, some_done, first_entry, done_is, with_collected, collected_sound, collected_first, collected_queue}
use Rattle.vm_split.proofs.OwnerLemmas.{length-taken_back}
use Rattle.vm_split.proofs.RingLemmas.{size_most}
use Rattle.vm_split.proofs.split_queue.SplitQueue.collect.Goals as goal

pub overflow_cast-head : goal.overflow_cast-head
overflow_cast-head c =
    let k : Kept = record { size = c.self.inside.ring.size; contents = c.self.inside.ring.contents; taken = c.self.inside.taken; collected = c.self.inside.collected; owners = c.self.inside.owners.items; parcels = c.self.inside.parcels.items; out = c.self.inside.out.items } in
    let queue = ap (λ (s : SplitState). s.queue) c.self.view_is in
    let sound = c.self.invariant.0 in
    let some = some_done k c.args.self.now.queue c.uncollected.result queue c.uncollected.ensures c.if-uncollected-eq0.false in
    let first = done_is k sound some in
    let entry : c.used_entry-entry.result ≡ first_entry k = c.used_entry-entry.ensures in
    let head : c.used_entry-entry.result.id ≡ (first_entry k).id = ap (λ (e : UsedEntry). e.id) entry in
    let within = first.within in
    let most = (size_most k.size sound.size).1 in
    omega (arith, head, within, most)

pub take_parcel-requires : goal.take_parcel-requires
take_parcel-requires c =
    let k : Kept = record { size = c.self.inside.ring.size; contents = c.self.inside.ring.contents; taken = c.self.inside.taken; collected = c.self.inside.collected; owners = c.self.inside.owners.items; parcels = c.self.inside.parcels.items; out = c.self.inside.out.items } in
    let queue = ap (λ (s : SplitState). s.queue) c.self.view_is in
    let sound = c.self.invariant.0 in
    let some = some_done k c.args.self.now.queue c.uncollected.result queue c.uncollected.ensures c.if-uncollected-eq0.false in
    let first = done_is k sound some in
    let entry : c.used_entry-entry.result ≡ first_entry k = c.used_entry-entry.ensures in
    let head : c.used_entry-entry.result.id ≡ (first_entry k).id = ap (λ (e : UsedEntry). e.id) entry in
    let within = first.within in
    let size = sound.parcels in
    rw (c.as_mut_slice.ensures.value, head) (omega (arith, within, size))

pub unwrap-parcel-requires : goal.unwrap-parcel-requires
unwrap-parcel-requires c =
    let k : Kept = record { size = c.self.inside.ring.size; contents = c.self.inside.ring.contents; taken = c.self.inside.taken; collected = c.self.inside.collected; owners = c.self.inside.owners.items; parcels = c.self.inside.parcels.items; out = c.self.inside.out.items } in
    let queue = ap (λ (s : SplitState). s.queue) c.self.view_is in
    let sound = c.self.invariant.0 in
    let some = some_done k c.args.self.now.queue c.uncollected.result queue c.uncollected.ensures c.if-uncollected-eq0.false in
    let first = done_is k sound some in
    let entry : c.used_entry-entry.result ≡ first_entry k = c.used_entry-entry.ensures in
    let head : c.used_entry-entry.result.id ≡ (first_entry k).id = ap (λ (e : UsedEntry). e.id) entry in
    let there : c.take_parcel.result ≡ Some (parcel_at k.parcels (first_entry k).id) =
    c.take_parcel.ensures.parcel ∙ (found _ _ _ _ c.as_mut_slice.ensures.value head ∙ first.there) in
    rw there (search rules)

pub invariant_of-self : goal.invariant_of-self
invariant_of-self c =
    let k : Kept = record { size = c.self.inside.ring.size; contents = c.self.inside.ring.contents; taken = c.self.inside.taken; collected = c.self.inside.collected; owners = c.self.inside.owners.items; parcels = c.self.inside.parcels.items; out = c.self.inside.out.items } in
    let queue = ap (λ (s : SplitState). s.queue) c.self.view_is in
    let sound = c.self.invariant.0 in
    let some = some_done k c.args.self.now.queue c.uncollected.result queue c.uncollected.ensures c.if-uncollected-eq0.false in
    let first = done_is k sound some in
    let entry : c.used_entry-entry.result ≡ first_entry k = c.used_entry-entry.ensures in
    let head : c.used_entry-entry.result.id ≡ (first_entry k).id = ap (λ (e : UsedEntry). e.id) entry in
    let parcels = all_written c.self.inside.parcels.len k.parcels c.take_parcel.new.parcels (set k.parcels (first_entry k).id None) (grind (arith, common_steps)) (grind (arith, common_steps))
    (c.take_parcel.ensures.parcels ∙ set_same _ _ _ _ _ c.as_mut_slice.ensures.value head) in
    let freed = length-taken_back (first_entry k).id k.owners in
    let owners = all_written c.self.inside.owners.len k.owners c.take_back.new.owners (taken_back (first_entry k).id k.owners) (grind (arith, common_steps)) (grind (arith, common_steps, freed))
    (c.take_back.ensures ∙ back_same _ _ _ _ c.as_mut_slice-2.ensures.value head) in
    let same = kept_same _ (with_collected k) refl refl refl refl owners parcels refl in
    (subst (λ (k : Kept). IsSound k) (sym same) (collected_sound k sound some), c.self.invariant.1)

pub returns-clause-done : goal.returns-clause-done
returns-clause-done c =
    let k : Kept = record { size = c.self.inside.ring.size; contents = c.self.inside.ring.contents; taken = c.self.inside.taken; collected = c.self.inside.collected; owners = c.self.inside.owners.items; parcels = c.self.inside.parcels.items; out = c.self.inside.out.items } in
    let queue = ap (λ (s : SplitState). s.queue) c.self.view_is in
    let sound = c.self.invariant.0 in
    let some = some_done k c.args.self.now.queue c.uncollected.result queue c.uncollected.ensures c.if-uncollected-eq0.false in
    let first = done_is k sound some in
    let entry : c.used_entry-entry.result ≡ first_entry k = c.used_entry-entry.ensures in
    let head : c.used_entry-entry.result.id ≡ (first_entry k).id = ap (λ (e : UsedEntry). e.id) entry in
    let there : c.take_parcel.result ≡ Some (parcel_at k.parcels (first_entry k).id) =
    c.take_parcel.ensures.parcel ∙ (found _ _ _ _ c.as_mut_slice.ensures.value head ∙ first.there) in
    let parcel = some_same _ _ (sym c.unwrap-parcel.ensures ∙ there) in
    let answer : Some (record { head = c.used_entry-entry.result.id; used = c.used_entry-entry.result.len; parcel = c.unwrap-parcel.result })
    ≡ Some (record { head = (first_entry k).id; used = (first_entry k).len; parcel = parcel_at k.parcels (first_entry k).id }) = rw (entry, parcel) refl in
    answer ∙ (sym (collected_first k sound some) ∙ ap (λ (q : Queue). first_finished q.done) queue)

pub returns-clause-queue : goal.returns-clause-queue
returns-clause-queue c =
    let k : Kept = record { size = c.self.inside.ring.size; contents = c.self.inside.ring.contents; taken = c.self.inside.taken; collected = c.self.inside.collected; owners = c.self.inside.owners.items; parcels = c.self.inside.parcels.items; out = c.self.inside.out.items } in
    let queue = ap (λ (s : SplitState). s.queue) c.self.view_is in
    let sound = c.self.invariant.0 in
    let some = some_done k c.args.self.now.queue c.uncollected.result queue c.uncollected.ensures c.if-uncollected-eq0.false in
    let first = done_is k sound some in
    let entry : c.used_entry-entry.result ≡ first_entry k = c.used_entry-entry.ensures in
    let head : c.used_entry-entry.result.id ≡ (first_entry k).id = ap (λ (e : UsedEntry). e.id) entry in
    let parcels = all_written c.self.inside.parcels.len k.parcels c.take_parcel.new.parcels (set k.parcels (first_entry k).id None) (grind (arith, common_steps)) (grind (arith, common_steps))
    (c.take_parcel.ensures.parcels ∙ set_same _ _ _ _ _ c.as_mut_slice.ensures.value head) in
    let freed = length-taken_back (first_entry k).id k.owners in
    let owners = all_written c.self.inside.owners.len k.owners c.take_back.new.owners (taken_back (first_entry k).id k.owners) (grind (arith, common_steps)) (grind (arith, common_steps, freed))
    (c.take_back.ensures ∙ back_same _ _ _ _ c.as_mut_slice-2.ensures.value head) in
    let same = kept_same _ (with_collected k) refl refl refl refl owners parcels refl in
    ap (λ (k : Kept). queue_of k) same ∙ (collected_queue k sound some ∙ ap (λ (q : Queue). collected q) queue)

pub returns-clause-owners : goal.returns-clause-owners
returns-clause-owners c =
    let k : Kept = record { size = c.self.inside.ring.size; contents = c.self.inside.ring.contents; taken = c.self.inside.taken; collected = c.self.inside.collected; owners = c.self.inside.owners.items; parcels = c.self.inside.parcels.items; out = c.self.inside.out.items } in
    let queue = ap (λ (s : SplitState). s.queue) c.self.view_is in
    let sound = c.self.invariant.0 in
    let some = some_done k c.args.self.now.queue c.uncollected.result queue c.uncollected.ensures c.if-uncollected-eq0.false in
    let first = done_is k sound some in
    let entry : c.used_entry-entry.result ≡ first_entry k = c.used_entry-entry.ensures in
    let head : c.used_entry-entry.result.id ≡ (first_entry k).id = ap (λ (e : UsedEntry). e.id) entry in
    let freed = length-taken_back (first_entry k).id k.owners in
    let owners = all_written c.self.inside.owners.len k.owners c.take_back.new.owners (taken_back (first_entry k).id k.owners) (grind (arith, common_steps)) (grind (arith, common_steps, freed))
    (c.take_back.ensures ∙ back_same _ _ _ _ c.as_mut_slice-2.ensures.value head) in
    let before = ap (λ (s : SplitState). s.owners) c.self.view_is in
    owners ∙ back_same _ _ _ _ before (sym head)

pub returns-then-uncollected-eq0-clause-fits : goal.returns-then-uncollected-eq0-clause-fits
returns-then-uncollected-eq0-clause-fits c =
    let k : Kept = record { size = c.self.inside.ring.size; contents = c.self.inside.ring.contents; taken = c.self.inside.taken; collected = c.self.inside.collected; owners = c.self.inside.owners.items; parcels = c.self.inside.parcels.items; out = c.self.inside.out.items } in
    subst (λ (s : SplitState). used_count s.queue ≤ s.queue.size) c.self.view_is (fits k c.self.invariant.0)

pub returns-clause-fits : goal.returns-clause-fits
returns-clause-fits c =
    let k : Kept = record { size = c.self.inside.ring.size; contents = c.self.inside.ring.contents; taken = c.self.inside.taken; collected = c.self.inside.collected; owners = c.self.inside.owners.items; parcels = c.self.inside.parcels.items; out = c.self.inside.out.items } in
    subst (λ (s : SplitState). used_count s.queue ≤ s.queue.size) c.self.view_is (fits k c.self.invariant.0)
