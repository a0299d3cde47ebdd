use Rattle.std.proofs.Common.{◌≡◌, ℕ, ◌≤◌, List, [], ◌∷◌, length, take, set, get_or, slice_get, Option, Some, None, false, true, refl, ap, sym, ◌∙◌, subst, arith}
use Rattle.std.proofs.lemmas.Grind.{common_steps}
use Rattle.vm_chain.specs.declared.desc.Desc.{Desc}
use Rattle.vm_link.specs.declared.parcel.Parcel.{Parcel}
use Rattle.vm_link.specs.Queue.{Queue, free_count, posted}
use Rattle.vm_split.specs.Kept.{Kept, queue_of, IsSound, IsLaid}
use Rattle.vm_split.specs.Owners.{is_free, free_places, handed_out}
use Rattle.vm_split.specs.Ring.{offered}
use Rattle.vm_split.specs.Stands.{SplitState}
use Rattle.vm_split.proofs.KeptLemmas.{kept_same, all_written, set_same, taken_same, handed_same, offered_same, front_same, free_is, lowest, with_posted, posted_sound, posted_queue}
use Rattle.std.proofs.lemmas.Bool.{false≢true}
use Rattle.std.proofs.lemmas.List.{length-take, length-take-le}
use Rattle.vm_split.proofs.OwnerLemmas.{AreFree, lowest_free, length-handed}
use Rattle.vm_split.proofs.split_queue.SplitQueue.post.Goals as goal

pub find_free-requires-clause-room : goal.find_free-requires-clause-room
find_free-requires-clause-room c =
    let k : Kept = record { size = c.self.inside.ring.size; contents = c.self.inside.ring.contents; taken = c.self.inside.taken; collected = c.self.inside.collected; owners = c.self.inside.owners.items; parcels = c.self.inside.parcels.items; out = c.self.inside.out.items } in
    let queue = ap (λ (s : SplitState). s.queue) c.self.view_is in
    let sound = c.self.invariant.0 in
    let posted_len : length c.parcel.inside.table.items ≡ length c.args.parcel.table = ap (λ (p : Parcel). length p.table) c.parcel.view_is in
    let n : c.len.result ≡ length c.args.parcel.table = grind (arith, common_steps) in
    let room : length c.args.parcel.table ≤ free_count (queue_of k) = subst (λ (q : Queue). length c.args.parcel.table ≤ free_count q) (sym queue) c.requires.room in
    let fits : length c.args.parcel.table ≤ length (free_places k.owners) = let free = free_is k sound in omega (arith, room, free) in
    let count = length-take {A = ℕ} c.len.result (0 ∷ 0 ∷ 0 ∷ 0 ∷ []) in
    let free = ap (λ (os : List (Option ℕ)). length (free_places os)) c.as_slice.ensures.value in
    grind (arith, common_steps, count, n, fits, free)

pub lay_chain-requires-clause-within : goal.lay_chain-requires-clause-within
lay_chain-requires-clause-within c =
    let k : Kept = record { size = c.self.inside.ring.size; contents = c.self.inside.ring.contents; taken = c.self.inside.taken; collected = c.self.inside.collected; owners = c.self.inside.owners.items; parcels = c.self.inside.parcels.items; out = c.self.inside.out.items } in
    let queue = ap (λ (s : SplitState). s.queue) c.self.view_is in
    let sound = c.self.invariant.0 in
    let posted_len : length c.parcel.inside.table.items ≡ length c.args.parcel.table = ap (λ (p : Parcel). length p.table) c.parcel.view_is in
    let n : c.len.result ≡ length c.args.parcel.table = grind (arith, common_steps) in
    let room : length c.args.parcel.table ≤ free_count (queue_of k) = subst (λ (q : Queue). length c.args.parcel.table ≤ free_count q) (sym queue) c.requires.room in
    let fits : length c.args.parcel.table ≤ length (free_places k.owners) = let free = free_is k sound in omega (arith, room, free) in
    let four = c.requires.postable.1 in
    let zeros : length (take {A = ℕ} c.len.result (0 ∷ 0 ∷ 0 ∷ 0 ∷ [])) ≡ length c.args.parcel.table =
    let count = length-take {A = ℕ} c.len.result (0 ∷ 0 ∷ 0 ∷ 0 ∷ []) in grind (arith, common_steps, count, n, four) in
    let places : c.find_free.new.places ≡ take (length c.args.parcel.table) (free_places k.owners) =
    c.find_free.ensures ∙ taken_same (length (take {A = ℕ} c.len.result (0 ∷ 0 ∷ 0 ∷ 0 ∷ []))) (length c.args.parcel.table) (free_places c.as_slice.result.now) (free_places k.owners) zeros (ap (λ (os : List (Option ℕ)). free_places os) c.as_slice.ensures.value) in
    let count : length c.find_free.new.places ≡ length c.args.parcel.table = ap (λ (ps : List ℕ). length ps) places ∙ length-take-le _ _ fits in
    let are = subst (λ (ps : List ℕ). AreFree k.owners ps) (sym places) (lowest_free k.owners (length c.args.parcel.table)) in
    let size = sound.owners in
    λ i less. let w = are.within i less in omega (arith, w, size)

pub lay_chain-requires-clause-rising : goal.lay_chain-requires-clause-rising
lay_chain-requires-clause-rising c =
    let k : Kept = record { size = c.self.inside.ring.size; contents = c.self.inside.ring.contents; taken = c.self.inside.taken; collected = c.self.inside.collected; owners = c.self.inside.owners.items; parcels = c.self.inside.parcels.items; out = c.self.inside.out.items } in
    let queue = ap (λ (s : SplitState). s.queue) c.self.view_is in
    let sound = c.self.invariant.0 in
    let posted_len : length c.parcel.inside.table.items ≡ length c.args.parcel.table = ap (λ (p : Parcel). length p.table) c.parcel.view_is in
    let n : c.len.result ≡ length c.args.parcel.table = grind (arith, common_steps) in
    let room : length c.args.parcel.table ≤ free_count (queue_of k) = subst (λ (q : Queue). length c.args.parcel.table ≤ free_count q) (sym queue) c.requires.room in
    let fits : length c.args.parcel.table ≤ length (free_places k.owners) = let free = free_is k sound in omega (arith, room, free) in
    let four = c.requires.postable.1 in
    let zeros : length (take {A = ℕ} c.len.result (0 ∷ 0 ∷ 0 ∷ 0 ∷ [])) ≡ length c.args.parcel.table =
    let count = length-take {A = ℕ} c.len.result (0 ∷ 0 ∷ 0 ∷ 0 ∷ []) in grind (arith, common_steps, count, n, four) in
    let places : c.find_free.new.places ≡ take (length c.args.parcel.table) (free_places k.owners) =
    c.find_free.ensures ∙ taken_same (length (take {A = ℕ} c.len.result (0 ∷ 0 ∷ 0 ∷ 0 ∷ []))) (length c.args.parcel.table) (free_places c.as_slice.result.now) (free_places k.owners) zeros (ap (λ (os : List (Option ℕ)). free_places os) c.as_slice.ensures.value) in
    let count : length c.find_free.new.places ≡ length c.args.parcel.table = ap (λ (ps : List ℕ). length ps) places ∙ length-take-le _ _ fits in
    let are = subst (λ (ps : List ℕ). AreFree k.owners ps) (sym places) (lowest_free k.owners (length c.args.parcel.table)) in
    are.rising

pub put_parcel-requires : goal.put_parcel-requires
put_parcel-requires c =
    let k : Kept = record { size = c.self.inside.ring.size; contents = c.self.inside.ring.contents; taken = c.self.inside.taken; collected = c.self.inside.collected; owners = c.self.inside.owners.items; parcels = c.self.inside.parcels.items; out = c.self.inside.out.items } in
    let queue = ap (λ (s : SplitState). s.queue) c.self.view_is in
    let sound = c.self.invariant.0 in
    let posted_len : length c.parcel.inside.table.items ≡ length c.args.parcel.table = ap (λ (p : Parcel). length p.table) c.parcel.view_is in
    let n : c.len.result ≡ length c.args.parcel.table = grind (arith, common_steps) in
    let room : length c.args.parcel.table ≤ free_count (queue_of k) = subst (λ (q : Queue). length c.args.parcel.table ≤ free_count q) (sym queue) c.requires.room in
    let fits : length c.args.parcel.table ≤ length (free_places k.owners) = let free = free_is k sound in omega (arith, room, free) in
    let four = c.requires.postable.1 in
    let zeros : length (take {A = ℕ} c.len.result (0 ∷ 0 ∷ 0 ∷ 0 ∷ [])) ≡ length c.args.parcel.table =
    let count = length-take {A = ℕ} c.len.result (0 ∷ 0 ∷ 0 ∷ 0 ∷ []) in grind (arith, common_steps, count, n, four) in
    let places : c.find_free.new.places ≡ take (length c.args.parcel.table) (free_places k.owners) =
    c.find_free.ensures ∙ taken_same (length (take {A = ℕ} c.len.result (0 ∷ 0 ∷ 0 ∷ 0 ∷ []))) (length c.args.parcel.table) (free_places c.as_slice.result.now) (free_places k.owners) zeros (ap (λ (os : List (Option ℕ)). free_places os) c.as_slice.ensures.value) in
    let count : length c.find_free.new.places ≡ length c.args.parcel.table = ap (λ (ps : List ℕ). length ps) places ∙ length-take-le _ _ fits in
    let are = subst (λ (ps : List ℕ). AreFree k.owners ps) (sym places) (lowest_free k.owners (length c.args.parcel.table)) in
    let one = c.requires.postable.0 in
    let w = are.within 0 (omega (arith, one, count)) in
    let size = sound.owners in
    let each = sound.parcels in
    rw c.as_mut_slice-2.ensures.value (omega (arith, w, size, each))

pub invariant_of-self : goal.invariant_of-self
invariant_of-self c =
    let k : Kept = record { size = c.self.inside.ring.size; contents = c.self.inside.ring.contents; taken = c.self.inside.taken; collected = c.self.inside.collected; owners = c.self.inside.owners.items; parcels = c.self.inside.parcels.items; out = c.self.inside.out.items } in
    let queue = ap (λ (s : SplitState). s.queue) c.self.view_is in
    let sound = c.self.invariant.0 in
    let posted_len : length c.parcel.inside.table.items ≡ length c.args.parcel.table = ap (λ (p : Parcel). length p.table) c.parcel.view_is in
    let n : c.len.result ≡ length c.args.parcel.table = grind (arith, common_steps) in
    let room : length c.args.parcel.table ≤ free_count (queue_of k) = subst (λ (q : Queue). length c.args.parcel.table ≤ free_count q) (sym queue) c.requires.room in
    let fits : length c.args.parcel.table ≤ length (free_places k.owners) = let free = free_is k sound in omega (arith, room, free) in
    let four = c.requires.postable.1 in
    let zeros : length (take {A = ℕ} c.len.result (0 ∷ 0 ∷ 0 ∷ 0 ∷ [])) ≡ length c.args.parcel.table =
    let count = length-take {A = ℕ} c.len.result (0 ∷ 0 ∷ 0 ∷ 0 ∷ []) in grind (arith, common_steps, count, n, four) in
    let places : c.find_free.new.places ≡ take (length c.args.parcel.table) (free_places k.owners) =
    c.find_free.ensures ∙ taken_same (length (take {A = ℕ} c.len.result (0 ∷ 0 ∷ 0 ∷ 0 ∷ []))) (length c.args.parcel.table) (free_places c.as_slice.result.now) (free_places k.owners) zeros (ap (λ (os : List (Option ℕ)). free_places os) c.as_slice.ensures.value) in
    let count : length c.find_free.new.places ≡ length c.args.parcel.table = ap (λ (ps : List ℕ). length ps) places ∙ length-take-le _ _ fits in
    let are = subst (λ (ps : List ℕ). AreFree k.owners ps) (sym places) (lowest_free k.owners (length c.args.parcel.table)) in
    let one = c.requires.postable.0 in
    let head : get_or c.find_free.new.places 0 0 ≡ lowest k = ap (λ (ps : List ℕ). get_or ps 0 0) places ∙ front_same (length c.args.parcel.table) (free_places k.owners) one in
    let table = c.lay_chain.new.ring.contents.table in
    let parcels = all_written c.self.inside.parcels.len k.parcels c.put_parcel.new.parcels (set k.parcels (lowest k) (Some c.args.parcel)) (grind (arith, common_steps)) (grind (arith, common_steps))
    (c.put_parcel.ensures ∙ set_same _ _ _ _ _ c.as_mut_slice-2.ensures.value head) in
    let handed = length-handed (length c.args.parcel.table) (lowest k) k.owners in
    let owners = all_written c.self.inside.owners.len k.owners c.hand_out.new.owners (handed_out (length c.args.parcel.table) (lowest k) k.owners) (grind (arith, common_steps)) (grind (arith, common_steps, handed))
    (c.hand_out.ensures ∙ handed_same _ _ _ _ _ _ count head c.as_mut_slice.ensures.value) in
    let contents : c.offer.new.self.contents ≡ offered k.size (lowest k) (record k.contents { table = table }) =
    c.offer.ensures.contents ∙ offered_same _ _ _ _ _ _ c.lay_chain.ensures.size head c.lay_chain.ensures.rest in
    let same = kept_same _ (with_posted k c.args.parcel table) (c.offer.ensures.size ∙ c.lay_chain.ensures.size) contents refl refl owners parcels refl in
    let laid : IsLaid table (take (length c.args.parcel.table) (free_places k.owners)) c.args.parcel.table =
    subst (λ (ps : List ℕ). IsLaid table ps c.args.parcel.table) places
    (subst (λ (ds : List Desc). IsLaid table c.find_free.new.places ds) (c.as_slice-2.ensures.value ∙ ap (λ (p : Parcel). p.table) c.parcel.view_is) c.lay_chain.ensures.laid) in
    let kept : (d : ℕ) → is_free (get_or k.owners d None) ≡ false → slice_get table d ≡ slice_get k.contents.table d = λ d owned.
    c.lay_chain.ensures.others d (λ i less equal. false≢true (sym owned ∙ subst (λ (d : ℕ). is_free (get_or k.owners d None) ≡ true) equal (are.free i less))) in
    let size = c.offer.ensures.size ∙ c.lay_chain.ensures.size in
    let capacity = c.self.invariant.1 in
    (subst (λ (k : Kept). IsSound k) (sym same) (posted_sound k c.args.parcel table sound c.requires.postable room laid kept c.lay_chain.ensures.room), omega (arith, size, capacity))

pub returns-clause-queue : goal.returns-clause-queue
returns-clause-queue c =
    let k : Kept = record { size = c.self.inside.ring.size; contents = c.self.inside.ring.contents; taken = c.self.inside.taken; collected = c.self.inside.collected; owners = c.self.inside.owners.items; parcels = c.self.inside.parcels.items; out = c.self.inside.out.items } in
    let queue = ap (λ (s : SplitState). s.queue) c.self.view_is in
    let sound = c.self.invariant.0 in
    let posted_len : length c.parcel.inside.table.items ≡ length c.args.parcel.table = ap (λ (p : Parcel). length p.table) c.parcel.view_is in
    let n : c.len.result ≡ length c.args.parcel.table = grind (arith, common_steps) in
    let room : length c.args.parcel.table ≤ free_count (queue_of k) = subst (λ (q : Queue). length c.args.parcel.table ≤ free_count q) (sym queue) c.requires.room in
    let fits : length c.args.parcel.table ≤ length (free_places k.owners) = let free = free_is k sound in omega (arith, room, free) in
    let four = c.requires.postable.1 in
    let zeros : length (take {A = ℕ} c.len.result (0 ∷ 0 ∷ 0 ∷ 0 ∷ [])) ≡ length c.args.parcel.table =
    let count = length-take {A = ℕ} c.len.result (0 ∷ 0 ∷ 0 ∷ 0 ∷ []) in grind (arith, common_steps, count, n, four) in
    let places : c.find_free.new.places ≡ take (length c.args.parcel.table) (free_places k.owners) =
    c.find_free.ensures ∙ taken_same (length (take {A = ℕ} c.len.result (0 ∷ 0 ∷ 0 ∷ 0 ∷ []))) (length c.args.parcel.table) (free_places c.as_slice.result.now) (free_places k.owners) zeros (ap (λ (os : List (Option ℕ)). free_places os) c.as_slice.ensures.value) in
    let count : length c.find_free.new.places ≡ length c.args.parcel.table = ap (λ (ps : List ℕ). length ps) places ∙ length-take-le _ _ fits in
    let are = subst (λ (ps : List ℕ). AreFree k.owners ps) (sym places) (lowest_free k.owners (length c.args.parcel.table)) in
    let one = c.requires.postable.0 in
    let head : get_or c.find_free.new.places 0 0 ≡ lowest k = ap (λ (ps : List ℕ). get_or ps 0 0) places ∙ front_same (length c.args.parcel.table) (free_places k.owners) one in
    let table = c.lay_chain.new.ring.contents.table in
    let parcels = all_written c.self.inside.parcels.len k.parcels c.put_parcel.new.parcels (set k.parcels (lowest k) (Some c.args.parcel)) (grind (arith, common_steps)) (grind (arith, common_steps))
    (c.put_parcel.ensures ∙ set_same _ _ _ _ _ c.as_mut_slice-2.ensures.value head) in
    let handed = length-handed (length c.args.parcel.table) (lowest k) k.owners in
    let owners = all_written c.self.inside.owners.len k.owners c.hand_out.new.owners (handed_out (length c.args.parcel.table) (lowest k) k.owners) (grind (arith, common_steps)) (grind (arith, common_steps, handed))
    (c.hand_out.ensures ∙ handed_same _ _ _ _ _ _ count head c.as_mut_slice.ensures.value) in
    let contents : c.offer.new.self.contents ≡ offered k.size (lowest k) (record k.contents { table = table }) =
    c.offer.ensures.contents ∙ offered_same _ _ _ _ _ _ c.lay_chain.ensures.size head c.lay_chain.ensures.rest in
    let same = kept_same _ (with_posted k c.args.parcel table) (c.offer.ensures.size ∙ c.lay_chain.ensures.size) contents refl refl owners parcels refl in
    ap (λ (k : Kept). queue_of k) same ∙ (posted_queue k c.args.parcel table sound c.requires.postable room ∙ ap (λ (q : Queue). posted q c.args.parcel) queue)
