-- What a queue over its rings keeps stands for its lists.
use Rattle.std.proofs.Common.{◌≡◌, ℕ, zero, suc, ◌+◌, ◌≤◌, List, [], ◌∷◌, length, map, take, drop, replicate, get_or, Option, None, refl, ap, sym, ◌∙◌, arith, rules}
use Rattle.std.specs.Int.{w16, from_le_bytes}
use Rattle.std.specs.List.{AllZip}
use Rattle.std.proofs.lemmas.Bool.{false≢true}
use Rattle.std.proofs.lemmas.List.{places, same_lists, length-replicate}
use Rattle.std.proofs.lemmas.List.Elements.{All-map}
use Rattle.vm_link.specs.declared.chains.DoneChain.{DoneChain}
use Rattle.vm_link.specs.declared.chains.OutChain.{OutChain}
use Rattle.vm_link.specs.declared.parcel.Parcel.{Parcel}
use Rattle.vm_mem.specs.Lists.{occurrences}
use Rattle.vm_mem.proofs.OccurrenceLemmas.{occurrences-append, occurrences-one}
use Rattle.vm_link.specs.Queue.{empty_queue}
use Rattle.vm_split.specs.declared.entry.UsedEntry.{UsedEntry}
use Rattle.vm_split.specs.Kept.{Kept, waiting_heads, done_entries, parcel_at, out_chain, done_chain, queue_of, HoldsChains, IsSound}
use Rattle.vm_split.specs.Owners.{places_from, places_of, count_of, is_free}
use Rattle.vm_split.specs.Ring.{Contents, contents_of, available_at, used_at, no_entry, IsRingSize}
use Rattle.vm_split.specs.Stands.{StandsFor, IsChainOf, entries_from}
use Rattle.vm_split.proofs.ChainLemmas.{once}
use Rattle.vm_split.proofs.KeptLemmas.{all_heads, free_is, heads_out, heads_done, waiting_length, done_length}
use Rattle.vm_split.proofs.RingLemmas.{lengths, size_most, used_near}
use Rattle.vm_split.proofs.WalkLemmas.{walk_ring}

zip_map : {B : Type 0} (R : ℕ → B → Type 0) (f : ℕ → B) (xs : List ℕ) → ((x : ℕ) → 1 ≤ occurrences x xs → R x (f x)) → AllZip R xs (map f xs)
zip_map R f [] each = tt
zip_map R f (x ∷ xs) each = (each x (first x xs), zip_map R f xs (λ y there. each y (more x y xs there)))
  where
    first : (x : ℕ) (xs : List ℕ) → 1 ≤ occurrences x (x ∷ xs)
    first x xs = let a = occurrences-append x (x ∷ []) xs in let b = occurrences-one x in omega (arith, a, b)

    more : (x y : ℕ) (xs : List ℕ) → 1 ≤ occurrences y xs → 1 ≤ occurrences y (x ∷ xs)
    more x y xs there = let a = occurrences-append y (x ∷ []) xs in omega (arith, a, there)

entries_back : (owners : List (Option ℕ)) (parcels : List (Option Parcel)) (es : List UsedEntry)
    → es ≡ map (λ (d : DoneChain). record { id = d.finished.head; len = d.finished.used }) (map (done_chain owners parcels) es)
entries_back owners parcels [] = refl
entries_back owners parcels (e ∷ es) = ap (λ (xs : List UsedEntry). e ∷ xs) (entries_back owners parcels es)

pub stands_for : (k : Kept) (bytes : List ℕ) → IsSound k → k.contents ≡ contents_of k.size bytes → length bytes ≡ 4096
    → StandsFor (record { bytes = bytes; taken = k.taken; collected = k.collected; owners = k.owners; queue = queue_of k })
stands_for k bytes sound holds page =
    let waits = waiting_length k in
    let done = done_length k in
    let taken = sound.taken in
    let collected = sound.collected in
    let available = sound.available_index in
    let used = sound.used_index in
    let heads : entries_from 0 k.size (contents_of k.size bytes).available k.taken (length (queue_of k).waiting) ≡ waiting_heads k = rw (waits, ← holds) refl in
    let entries : entries_from no_entry k.size (contents_of k.size bytes).used k.collected (length (queue_of k).done) ≡ done_entries k = rw (done, ← holds) refl in
    record {
      page = page;
      available_index = ap (λ (c : Contents). c.available_index) (sym holds) ∙ rw waits (omega (arith, available, taken));
      used_index = ap (λ (c : Contents). c.used_index) (sym holds) ∙ rw done (omega (arith, used, collected));
      waiting = rw (heads, ← holds) (zip_map (IsChainOf k.contents.table k.owners) (parcel_at k.parcels) (waiting_heads k) (λ head there.
          let is = sound.chains.whole head there in
          let most = size_most k.size sound.size in
          let table = sound.table in
          record {
            whole = is.whole;
            walk = λ limit homes. walk_ring k.contents.table (parcel_at k.parcels head).table (places_of head k.owners) head limit homes is.whole (omega (arith, table, most.1)) is.laid is.first;
          }));
      done = entries ∙ entries_back k.owners k.parcels (done_entries k);
      apart = λ head. rw (heads, heads_out k.owners k.out, heads_done k.owners k.parcels (done_entries k)) (once k.owners (all_heads k) head (sound.chains.heads head));
      descriptors = sound.owners;
      free = sym (free_is k sound);
      whole_out = All-map (λ (c : OutChain). count_of k.owners c.head ≡ c.count) (out_chain k.owners) k.out (λ i d less. refl);
      whole_done = All-map (λ (d : DoneChain). count_of k.owners d.finished.head ≡ d.count) (done_chain k.owners k.parcels) (done_entries k) (λ i d less. refl);
    }

-- a new queue
zeros : (at : ℕ) → at + 2 ≤ 4096 → from_le_bytes w16 (take {A = ℕ} 2 (drop at (replicate 4096 0))) ≡ 0
zeros at within =
    let two : take {A = ℕ} 2 (drop at (replicate 4096 0)) ≡ replicate 2 0 = part at 2 4096 within in
    ap (from_le_bytes w16) two ∙ refl
  where
    part : (at n size : ℕ) → at + n ≤ size → take {A = ℕ} n (drop at (replicate size 0)) ≡ replicate n 0
    part at n size within = same_lists _ _ (search (rules, places)) (λ k d h. grind (arith, places))

none_owns : (size head : ℕ) → get_or (replicate {A = Option ℕ} size None) head None ≡ None
none_owns zero head = refl
none_owns (suc size) zero = refl
none_owns (suc size) (suc head) = none_owns size head

all_free : (size at : ℕ) → length (places_from is_free at (replicate {A = Option ℕ} size None)) ≡ size
all_free zero at = refl
all_free (suc size) at = ap suc (all_free size (at + 1))

abbrev pub new_kept : ℕ → Contents → Kept
new_kept size contents = record { size = size; contents = contents; taken = 0; collected = 0; owners = replicate size None; parcels = replicate size None; out = [] }

pub new_indices : (size : ℕ) → IsRingSize size → ((contents_of size (replicate 4096 0)).available_index ≡ 0) × ((contents_of size (replicate 4096 0)).used_index ≡ 0)
unfolding contents_of
new_indices size sized =
    let most = (size_most size sized).1 in
    let near = used_near size in
    (zeros (available_at size + 2) (omega (arith, most)), zeros (used_at size + 2) (omega (arith, most, near)))

pub new_sound : (size : ℕ) (contents : Contents) → IsRingSize size → contents ≡ contents_of size (replicate 4096 0) → IsSound (new_kept size contents)
new_sound size contents sized zero_bytes =
    let indices = new_indices size sized in
    let available : contents.available_index ≡ 0 = ap (λ (c : Contents). c.available_index) zero_bytes ∙ indices.0 in
    let used : contents.used_index ≡ 0 = ap (λ (c : Contents). c.used_index) zero_bytes ∙ indices.1 in
    let counts = lengths size (replicate 4096 0) in
    let owners : List (Option ℕ) = replicate size None in
    let chains : HoldsChains size contents.table owners (replicate size None) [] [] [] = record {
      heads = λ head. rw (none_owns size head) refl;
      owned = λ place head owner. absurd (false≢true (rw (none_owns size place) at owner));
      counted = let all = all_free size 0 in omega (arith, all);
      whole = λ head there. absurd (omega (arith, there));
      there = λ head there. absurd (omega (arith, there));
    } in
    record {
      size = sized;
      table = ap (λ (c : Contents). length c.table) zero_bytes ∙ counts.0;
      available = ap (λ (c : Contents). length c.available) zero_bytes ∙ counts.1;
      used = ap (λ (c : Contents). length c.used) zero_bytes ∙ counts.2;
      owners = length-replicate size None;
      parcels = length-replicate size None;
      taken = omega arith;
      collected = omega arith;
      available_index = omega (arith, available);
      used_index = omega (arith, used);
      chains = rw (available, used) chains;
    }

pub new_queue : (size : ℕ) (contents : Contents) → IsRingSize size → contents ≡ contents_of size (replicate 4096 0) → queue_of (new_kept size contents) ≡ empty_queue size
new_queue size contents sized zero_bytes =
    let indices = new_indices size sized in
    let available : contents.available_index ≡ 0 = ap (λ (c : Contents). c.available_index) zero_bytes ∙ indices.0 in
    let used : contents.used_index ≡ 0 = ap (λ (c : Contents). c.used_index) zero_bytes ∙ indices.1 in
    rw (available, used) refl
