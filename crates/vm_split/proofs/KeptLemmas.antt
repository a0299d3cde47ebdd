-- What a queue over its rings keeps stays sound, and its lists change as the calls say.
use Rattle.std.proofs.Common.{◌≡◌, ◌≢◌, ℕ, zero, suc, ◌+◌, ◌-◌, ◌%◌, ◌^◌, ◌<◌, ◌≤◌, ◌++◌, true, false, List, [], ◌∷◌, length, map, take, drop, set, get_or, slice_get, sum_by, Option, Some, None, Contains, refl, ap, sym, ◌∙◌, subst, arith, rules, inl, inr}
use Rattle.std.specs.Option.{unwrap_or}
use Rattle.std.specs.Result.{result_err, result_unwrap_or}
use Rattle.std.proofs.lemmas.Bool.{cases_eq}
use Rattle.std.proofs.lemmas.Bool.Decides.{nat_tests}
use Rattle.std.proofs.lemmas.List.{map-append, length-append, length-map, length-set, places, same_lists, get_or-take}
use Rattle.std.proofs.lemmas.List.Sums.{sum_by-append}
use Rattle.vm_chain.specs.declared.desc.Desc.{Desc}
use Rattle.vm_chain.specs.Chain.{WalkedChain}
use Rattle.vm_chain.specs.Walk.{walk_of}
use Rattle.vm_link.specs.declared.chains.DoneChain.{DoneChain}
use Rattle.vm_link.specs.declared.chains.OutChain.{OutChain}
use Rattle.vm_link.specs.declared.parcel.Finished.{Finished}
use Rattle.vm_link.specs.declared.parcel.Parcel.{Parcel}
use Rattle.vm_link.specs.declared.parcel.Taken.{Taken}
use Rattle.vm_link.specs.Parcel.{IsPostable, homes_of}
use Rattle.vm_mem.specs.Lists.{occurrences}
use Rattle.vm_mem.proofs.OccurrenceLemmas.{occurrences-append, occurrences-one}
use Rattle.vm_link.specs.Queue.{Queue, free_count, used_count, out_heads, heads_of, posted, rest_of, TakesFirst, without, count_at, finished, first_finished, collected}
use Rattle.vm_split.specs.declared.entry.UsedEntry.{UsedEntry}
use Rattle.vm_split.specs.Kept.{Kept, ahead, waiting_heads, done_entries, done_ids, parcel_at, out_chain, done_chain, queue_of, HoldsChains, IsWhole, IsLaid, IsSound}
use Rattle.vm_split.specs.Owners.{is_free, free_places, count_of, handed_out, taken_back}
use Rattle.vm_split.specs.Ring.{Contents, offered, given_back, no_entry}
use Rattle.vm_split.proofs.ChainLemmas.{in_lists, once, three, unowned_away, parcel_other, parcel_same, head_free, posted_holds}
use Rattle.vm_split.proofs.EntryLemmas.{length-entries, entries_offered, entries_taken}
use Rattle.vm_split.proofs.ListLemmas.{occurs, map_apart, map_key_apart, sum_same, sum_by-map, length_le_sum}
use Rattle.vm_split.proofs.OwnerLemmas.{owner_counts, owner_within, free_unowned, handed_others, length-handed, length-taken_back, taken_back_others}
use Rattle.vm_split.proofs.StepLemmas.{first_waits, taken_holds, others, out_once, finished_holds, collected_holds}

-- the heads of the three lists
abbrev pub all_heads : Kept → List ℕ
all_heads k = waiting_heads k ++ (k.out ++ done_ids k)

pub heads_out : (owners : List (Option ℕ)) (out : List ℕ) → map (λ (c : OutChain). c.head) (map (out_chain owners) out) ≡ out
heads_out owners [] = refl
heads_out owners (h ∷ hs) = ap (λ (xs : List ℕ). h ∷ xs) (heads_out owners hs)

pub heads_done : (owners : List (Option ℕ)) (parcels : List (Option Parcel)) (es : List UsedEntry)
    → map (λ (d : DoneChain). d.finished.head) (map (done_chain owners parcels) es) ≡ map (λ (e : UsedEntry). e.id) es
heads_done owners parcels [] = refl
heads_done owners parcels (e ∷ es) = ap (λ (xs : List ℕ). e.id ∷ xs) (heads_done owners parcels es)

-- the descriptors of the lists are those of their heads
pub used_is : (k : Kept) → IsSound k → used_count (queue_of k) ≡ sum_by (count_of k.owners) (all_heads k)
used_is k sound =
    let f = count_of k.owners in
    let waiting : sum_by (λ (p : Parcel). length p.table) (map (parcel_at k.parcels) (waiting_heads k)) ≡ sum_by f (waiting_heads k) =
    sum_by-map (λ (p : Parcel). length p.table) (parcel_at k.parcels) (waiting_heads k)
    ∙ sum_same (λ h. length (parcel_at k.parcels h).table) f (waiting_heads k) (λ h there. sym (sound.chains.whole h there).whole) in
    let out : sum_by (λ (c : OutChain). c.count) (map (out_chain k.owners) k.out) ≡ sum_by f k.out = sum_by-map (λ (c : OutChain). c.count) (out_chain k.owners) k.out in
    let done : sum_by (λ (d : DoneChain). d.count) (map (done_chain k.owners k.parcels) (done_entries k)) ≡ sum_by f (done_ids k) =
    sum_by-map (λ (d : DoneChain). d.count) (done_chain k.owners k.parcels) (done_entries k) ∙ sym (sum_by-map f (λ (e : UsedEntry). e.id) (done_entries k)) in
    let a = sum_by-append f (waiting_heads k) (k.out ++ done_ids k) in
    let b = sum_by-append f k.out (done_ids k) in
    omega (arith, waiting, out, done, a, b)

pub free_is : (k : Kept) → IsSound k → free_count (queue_of k) ≡ length (free_places k.owners)
free_is k sound = let used = used_is k sound in let all = sound.chains.counted in omega (arith, used, all)

-- the chains fit the queue
pub fits : (k : Kept) → IsSound k → used_count (queue_of k) ≤ k.size
fits k sound = let used = used_is k sound in let all = sound.chains.counted in omega (arith, used, all)

-- the lists are no longer than the descriptors allow
pub short : (k : Kept) → IsSound k → ahead k.taken k.contents.available_index + length k.out + ahead k.collected k.contents.used_index + length (free_places k.owners) ≤ k.size
short k sound =
    let few = length_le_sum (count_of k.owners) (all_heads k) (λ h there. owner_counts h k.owners h (in_lists k.owners (all_heads k) h (sound.chains.heads h) there)) in
    let all = sound.chains.counted in
    let a = length-append (waiting_heads k) (k.out ++ done_ids k) in
    let b = length-append k.out (done_ids k) in
    let waiting = length-entries 0 k.size k.contents.available k.taken (ahead k.taken k.contents.available_index) in
    let done = length-entries no_entry k.size k.contents.used k.collected (ahead k.collected k.contents.used_index) in
    let ids = length-map (done_entries k) (λ (e : UsedEntry). e.id) in
    omega (arith, few, all, a, b, waiting, done, ids)

-- a head of the lists is a descriptor
pub head_within : (k : Kept) (head : ℕ) → IsSound k → 1 ≤ occurrences head (all_heads k) → head < k.size
head_within k head sound there =
    let within = owner_within head k.owners head (in_lists k.owners (all_heads k) head (sound.chains.heads head) there) in
    let size = sound.owners in
    omega (arith, within, size)

-- a parcel is posted
abbrev pub lowest : Kept → ℕ
lowest k = get_or (free_places k.owners) 0 0

abbrev pub with_posted : Kept → Parcel → List Desc → Kept
with_posted k p table = record k {
  contents = offered k.size (lowest k) (record k.contents { table = table });
  owners = handed_out (length p.table) (lowest k) k.owners;
  parcels = set k.parcels (lowest k) (Some p);
}

pub waiting_posted : (k : Kept) (p : Parcel) (table : List Desc) → IsSound k → 1 ≤ length (free_places k.owners)
    → waiting_heads (with_posted k p table) ≡ waiting_heads k ++ lowest k ∷ []
waiting_posted k p table sound some =
    let few = short k sound in
    entries_offered 0 k.size k.contents.available k.taken k.contents.available_index (lowest k) sound.size sound.available sound.taken (omega (arith, few, some))

pub posted_sound : (k : Kept) (p : Parcel) (table : List Desc) → IsSound k → IsPostable p → length p.table ≤ free_count (queue_of k)
    → IsLaid table (take (length p.table) (free_places k.owners)) p.table
    → ((d : ℕ) → is_free (get_or k.owners d None) ≡ false → slice_get table d ≡ slice_get k.contents.table d)
    → length table ≡ length k.contents.table → IsSound (with_posted k p table)
posted_sound k p table sound postable room laid kept whole =
    let free = free_is k sound in
    let fits : length p.table ≤ length (free_places k.owners) = omega (arith, room, free) in
    let one = postable.0 in
    let some : 1 ≤ length (free_places k.owners) = omega (arith, fits, one) in
    let each : length k.parcels ≡ length k.owners = let a = sound.parcels in let b = sound.owners in omega (arith, a, b) in
    let chains = posted_holds k.size k.contents.table table k.owners k.parcels (waiting_heads k) k.out (done_ids k) (lowest k) p sound.chains postable fits refl each laid kept in
    record {
      size = sound.size;
      table = whole ∙ sound.table;
      available = length-set k.contents.available _ _ ∙ sound.available;
      used = sound.used;
      owners = length-handed (length p.table) (lowest k) k.owners ∙ sound.owners;
      parcels = length-set k.parcels _ _ ∙ sound.parcels;
      taken = sound.taken;
      collected = sound.collected;
      available_index = omega arith;
      used_index = sound.used_index;
      chains = subst (λ (hs : List ℕ). HoldsChains k.size table (handed_out (length p.table) (lowest k) k.owners) (set k.parcels (lowest k) (Some p)) hs k.out (done_ids k))
          (sym (waiting_posted k p table sound some)) chains;
    }

pub posted_queue : (k : Kept) (p : Parcel) (table : List Desc) → IsSound k → IsPostable p → length p.table ≤ free_count (queue_of k)
    → queue_of (with_posted k p table) ≡ posted (queue_of k) p
posted_queue k p table sound postable room =
    let free = free_is k sound in
    let one = postable.0 in
    let some : 1 ≤ length (free_places k.owners) = omega (arith, room, free, one) in
    let head = lowest k in
    let place = head_free k.owners some in
    let good : is_free (get_or k.owners head None) ≡ true = let none : head - 0 ≡ head = omega arith in rw none at place.good in
    let within : head < length k.parcels = let w = place.within in let a = sound.parcels in let b = sound.owners in omega (arith, w, a, b) in
    let away = unowned_away k.owners (all_heads k) head (sound.chains.heads head) (free_unowned head _ good) in
    let split = three head (waiting_heads k) k.out (done_ids k) in
    let owners' = handed_out (length p.table) head k.owners in
    let parcels' = set k.parcels head (Some p) in
    let same_count : (h : ℕ) → h ≢ head → count_of owners' h ≡ count_of k.owners h = λ h differs. ap length (handed_others (length p.table) head h 0 k.owners differs) in
    let waiting : map (parcel_at parcels') (waiting_heads (with_posted k p table)) ≡ map (parcel_at k.parcels) (waiting_heads k) ++ p ∷ [] =
    ap (map (parcel_at parcels')) (waiting_posted k p table sound some)
    ∙ (map-append (parcel_at parcels') (waiting_heads k) (head ∷ [])
    ∙ join _ _ _ _ (map_apart (parcel_at parcels') (parcel_at k.parcels) head (waiting_heads k) (λ h differs. parcel_other k.parcels head h (Some p) differs) (omega (arith, away, split)))
    (ap (λ (q : Parcel). q ∷ []) (parcel_same k.parcels head p within))) in
    let out : map (out_chain owners') k.out ≡ map (out_chain k.owners) k.out =
    map_apart (out_chain owners') (out_chain k.owners) head k.out (λ h differs. ap (λ n. record { head = h; count = n }) (same_count h differs)) (omega (arith, away, split)) in
    let done : map (done_chain owners' parcels') (done_entries k) ≡ map (done_chain k.owners k.parcels) (done_entries k) =
    map_key_apart (λ (e : UsedEntry). e.id) (done_chain owners' parcels') (done_chain k.owners k.parcels) head (done_entries k)
    (λ e differs. rw (same_count e.id differs, parcel_other k.parcels head e.id (Some p) differs) refl) (omega (arith, away, split)) in
    rw (waiting, out, done) refl
  where
    join : (a b c d : List Parcel) → a ≡ b → c ≡ d → a ++ c ≡ b ++ d
    join a b c d p q = rw (p, q) refl

-- the first parcel that waits is taken
abbrev pub first_head : Kept → ℕ
first_head k = get_or k.contents.available (k.taken % k.size) 0

abbrev pub with_taken : Kept → Kept
with_taken k = record k { taken = (k.taken + 1) % 2 ^ 16; parcels = set k.parcels (first_head k) None; out = k.out ++ first_head k ∷ [] }

pub waiting_taken : (k : Kept) → IsSound k → 0 < ahead k.taken k.contents.available_index → waiting_heads k ≡ first_head k ∷ waiting_heads (with_taken k)
waiting_taken k sound some = entries_taken 0 k.size k.contents.available k.taken k.contents.available_index sound.size sound.taken some

-- it is whole, it is there, and it is none of the others
pub record IsFirst (k : Kept) : Type 0 where
  pub within : first_head k < k.size
  pub whole : IsWhole k.contents.table k.owners k.parcels (first_head k)
  pub there : get_or k.parcels (first_head k) None ≡ Some (parcel_at k.parcels (first_head k))
  pub unwaiting : occurrences (first_head k) (waiting_heads (with_taken k)) ≡ 0
  pub not_out : occurrences (first_head k) k.out ≡ 0
  pub undone : occurrences (first_head k) (done_ids k) ≡ 0

pub first_is : (k : Kept) → IsSound k → 0 < ahead k.taken k.contents.available_index → IsFirst k
first_is k sound some =
    let head = first_head k in
    let rest = waiting_heads (with_taken k) in
    let first = waiting_taken k sound some in
    let waits : 1 ≤ occurrences head (waiting_heads k) = rw first (first_waits head rest) in
    let split = three head (waiting_heads k) k.out (done_ids k) in
    let one = once k.owners (all_heads k) head (sound.chains.heads head) in
    let both = occurrences-append head (waiting_heads k) (done_ids k) in
    let front = occurrences-append head (head ∷ []) rest in
    let counted : occurrences head (waiting_heads k) ≡ occurrences head (head ∷ rest) = ap (occurrences head) first in
    let here = occurrences-one head in
    record {
      within = head_within k head sound (omega (arith, waits, split));
      whole = sound.chains.whole head waits;
      there = sound.chains.there head (omega (arith, waits, both));
      unwaiting = omega (arith, one, split, front, counted, here);
      not_out = omega (arith, one, split, waits);
      undone = omega (arith, one, split, waits);
    }

pub taken_sound : (k : Kept) → IsSound k → 0 < ahead k.taken k.contents.available_index → IsSound (with_taken k)
taken_sound k sound some =
    let first = waiting_taken k sound some in
    let chains : HoldsChains k.size k.contents.table k.owners k.parcels (first_head k ∷ waiting_heads (with_taken k)) k.out (done_ids k) =
    subst (λ (hs : List ℕ). HoldsChains k.size k.contents.table k.owners k.parcels hs k.out (done_ids k)) first sound.chains in
    record {
      size = sound.size;
      table = sound.table;
      available = sound.available;
      used = sound.used;
      owners = sound.owners;
      parcels = length-set k.parcels _ _ ∙ sound.parcels;
      taken = omega arith;
      collected = sound.collected;
      available_index = sound.available_index;
      used_index = sound.used_index;
      chains = taken_holds k.size k.contents.table k.owners k.parcels (first_head k) (waiting_heads (with_taken k)) k.out (done_ids k) chains;
    }

pub taken_first : (k : Kept) (now new : Queue) (before after : WalkedChain) (taken : Taken)
    → IsSound k → 0 < ahead k.taken k.contents.available_index → queue_of k ≡ now → new ≡ queue_of (with_taken k)
    → taken.head ≡ first_head k → taken.parcel ≡ parcel_at k.parcels (first_head k)
    → taken.fault ≡ result_err (walk_of taken.parcel.table 0 before.limit (homes_of taken.parcel))
    → after ≡ record before { descs = result_unwrap_or (walk_of taken.parcel.table 0 before.limit (homes_of taken.parcel)) [] }
    → TakesFirst now before taken new after
taken_first k now new before after taken sound some same made head parcel fault chain =
    let first = waiting_taken k sound some in
    let is = first_is k sound some in
    let rest = waiting_heads (with_taken k) in
    let parcels' = set k.parcels (first_head k) None in
    let waiting : map (parcel_at k.parcels) (waiting_heads k) ≡ parcel_at k.parcels (first_head k) ∷ map (parcel_at k.parcels) rest = ap (map (parcel_at k.parcels)) first in
    let kept : map (parcel_at parcels') rest ≡ map (parcel_at k.parcels) rest =
    map_apart (parcel_at parcels') (parcel_at k.parcels) (first_head k) rest (λ h differs. parcel_other k.parcels (first_head k) h None differs) is.unwaiting in
    let out : map (out_chain k.owners) (k.out ++ first_head k ∷ []) ≡ map (out_chain k.owners) k.out ++ out_chain k.owners (first_head k) ∷ [] =
    map-append (out_chain k.owners) k.out (first_head k ∷ []) in
    let done : map (done_chain k.owners parcels') (done_entries k) ≡ map (done_chain k.owners k.parcels) (done_entries k) =
    map_key_apart (λ (e : UsedEntry). e.id) (done_chain k.owners parcels') (done_chain k.owners k.parcels) (first_head k) (done_entries k)
    (λ e differs. rw (parcel_other k.parcels (first_head k) e.id None differs) refl) is.undone in
    let count : length taken.parcel.table ≡ count_of k.owners (first_head k) = ap (λ (p : Parcel). length p.table) parcel ∙ sym is.whole.whole in
    let here : TakesFirst (queue_of k) before taken new after = record {
      first = rw (waiting, parcel) refl;
      fresh = λ there.
          let heads : heads_of (queue_of k) ≡ k.out ++ done_ids k = rw (heads_out k.owners k.out, heads_done k.owners k.parcels (done_entries k)) refl in
          let stands = occurs taken.head (heads_of (queue_of k)) there in
          let counted : occurrences taken.head (heads_of (queue_of k)) ≡ occurrences (first_head k) (k.out ++ done_ids k) = rw (heads, head) refl in
          let both = occurrences-append (first_head k) k.out (done_ids k) in
          let a = is.not_out in
          let b = is.undone in
          omega (arith, stands, counted, both, a, b);
      fault = fault;
      chain = chain;
      queue = made ∙ rw (kept, out, done, waiting, head, count) refl;
    } in
    subst (λ (now : Queue). TakesFirst now before taken new after) same here

-- a chain that is out is finished
abbrev pub with_finished : Kept → Finished → Kept
with_finished k done = record k {
  contents = given_back k.size (record { id = done.head; len = done.used }) k.contents;
  parcels = set k.parcels done.head (Some done.parcel);
  out = others done.head k.out;
}

pub is_out : (k : Kept) (now : Queue) (head : ℕ) → queue_of k ≡ now → Contains (out_heads now) head → 1 ≤ occurrences head k.out
is_out k now head same there =
    let here : Contains (out_heads (queue_of k)) head = subst (λ (q : Queue). Contains (out_heads q) head) (sym same) there in
    subst (λ (hs : List ℕ). 1 ≤ occurrences head hs) (heads_out k.owners k.out) (occurs head (out_heads (queue_of k)) here)

pub out_within : (k : Kept) (head : ℕ) → IsSound k → 1 ≤ occurrences head k.out → head < k.size
out_within k head sound there =
    let split = three head (waiting_heads k) k.out (done_ids k) in
    head_within k head sound (omega (arith, there, split))

length-some : (head : ℕ) (hs : List ℕ) → 1 ≤ occurrences head hs → 1 ≤ length hs
length-some head [] there = there
length-some head (h ∷ hs) there = omega arith

pub entries_finished : (k : Kept) (done : Finished) → IsSound k → 1 ≤ occurrences done.head k.out
    → done_entries (with_finished k done) ≡ done_entries k ++ record { id = done.head; len = done.used } ∷ []
entries_finished k done sound there =
    let few = short k sound in
    let some = length-some done.head k.out there in
    entries_offered no_entry k.size k.contents.used k.collected k.contents.used_index (record { id = done.head; len = done.used }) sound.size sound.used sound.collected
    (omega (arith, few, some))

pub finished_sound : (k : Kept) (done : Finished) → IsSound k → 1 ≤ occurrences done.head k.out → IsSound (with_finished k done)
finished_sound k done sound there =
    let within : done.head < length k.parcels = let w = out_within k done.head sound there in let p = sound.parcels in omega (arith, w, p) in
    let ids : done_ids (with_finished k done) ≡ done_ids k ++ done.head ∷ [] =
    ap (map (λ (e : UsedEntry). e.id)) (entries_finished k done sound there) ∙ map-append (λ (e : UsedEntry). e.id) (done_entries k) _ in
    let chains = finished_holds k.size k.contents.table k.owners k.parcels done.head (waiting_heads k) k.out (done_ids k) done.parcel sound.chains there within in
    record {
      size = sound.size;
      table = sound.table;
      available = sound.available;
      used = length-set k.contents.used _ _ ∙ sound.used;
      owners = sound.owners;
      parcels = length-set k.parcels _ _ ∙ sound.parcels;
      taken = sound.taken;
      collected = sound.collected;
      available_index = sound.available_index;
      used_index = omega arith;
      chains = subst (λ (hs : List ℕ). HoldsChains k.size k.contents.table k.owners (set k.parcels done.head (Some done.parcel)) (waiting_heads k) (others done.head k.out) hs) (sym ids) chains;
    }

without_is : (owners : List (Option ℕ)) (head : ℕ) (out : List ℕ) → without head (map (out_chain owners) out) ≡ map (out_chain owners) (others head out)
without_is owners head [] = refl
without_is owners head (h ∷ hs) = elim (cases_eq h head) [
  | inl same ↦ grind (arith, nat_tests, without_is owners head hs)
  | inr differs ↦ grind (arith, nat_tests, without_is owners head hs)
]

count_is : (owners : List (Option ℕ)) (head : ℕ) (out : List ℕ) → 1 ≤ occurrences head out → count_at head (map (out_chain owners) out) ≡ count_of owners head
count_is owners head [] there = absurd (omega (arith, there))
count_is owners head (h ∷ hs) there = elim (cases_eq h head) [
  | inl same ↦ rw same (grind (arith, nat_tests))
  | inr differs ↦
      let rest : count_at head (map (out_chain owners) hs) ≡ count_of owners head = count_is owners head hs (grind (arith, nat_tests, there)) in
      grind (arith, nat_tests, rest)
]

pub finished_queue : (k : Kept) (done : Finished) → IsSound k → 1 ≤ occurrences done.head k.out → queue_of (with_finished k done) ≡ finished (queue_of k) done
finished_queue k done sound there =
    let within : done.head < length k.parcels = let w = out_within k done.head sound there in let p = sound.parcels in omega (arith, w, p) in
    let place = out_once k.size k.contents.table k.owners k.parcels done.head (waiting_heads k) k.out (done_ids k) sound.chains there in
    let parcels' = set k.parcels done.head (Some done.parcel) in
    let entry : UsedEntry = record { id = done.head; len = done.used } in
    let waiting : map (parcel_at parcels') (waiting_heads k) ≡ map (parcel_at k.parcels) (waiting_heads k) =
    map_apart (parcel_at parcels') (parcel_at k.parcels) done.head (waiting_heads k) (λ h differs. parcel_other k.parcels done.head h (Some done.parcel) differs) place.0 in
    let kept : map (done_chain k.owners parcels') (done_entries k) ≡ map (done_chain k.owners k.parcels) (done_entries k) =
    map_key_apart (λ (e : UsedEntry). e.id) (done_chain k.owners parcels') (done_chain k.owners k.parcels) done.head (done_entries k)
    (λ e differs. rw (parcel_other k.parcels done.head e.id (Some done.parcel) differs) refl) place.2 in
    let last : done_chain k.owners parcels' entry ≡ record { finished = done; count = count_at done.head (map (out_chain k.owners) k.out) } =
    rw (parcel_same k.parcels done.head done.parcel within, count_is k.owners done.head k.out there) refl in
    let done_list : map (done_chain k.owners parcels') (done_entries (with_finished k done))
    ≡ map (done_chain k.owners k.parcels) (done_entries k) ++ record { finished = done; count = count_at done.head (map (out_chain k.owners) k.out) } ∷ [] =
    ap (map (done_chain k.owners parcels')) (entries_finished k done sound there)
    ∙ (map-append (done_chain k.owners parcels') (done_entries k) (entry ∷ []) ∙ join _ _ _ _ kept (ap (λ (d : DoneChain). d ∷ []) last)) in
    let out = without_is k.owners done.head k.out in
    rw (waiting, done_list, out) refl
  where
    join : (a b c d : List DoneChain) → a ≡ b → c ≡ d → a ++ c ≡ b ++ d
    join a b c d p q = rw (p, q) refl

-- the first chain that is done is collected
abbrev pub first_entry : Kept → UsedEntry
first_entry k = get_or k.contents.used (k.collected % k.size) no_entry

abbrev pub with_collected : Kept → Kept
with_collected k = record k { collected = (k.collected + 1) % 2 ^ 16; owners = taken_back (first_entry k).id k.owners; parcels = set k.parcels (first_entry k).id None }

pub entries_collected : (k : Kept) → IsSound k → 0 < ahead k.collected k.contents.used_index → done_entries k ≡ first_entry k ∷ done_entries (with_collected k)
entries_collected k sound some = entries_taken no_entry k.size k.contents.used k.collected k.contents.used_index sound.size sound.collected some

pub record IsDone (k : Kept) : Type 0 where
  pub within : (first_entry k).id < k.size
  pub there : get_or k.parcels (first_entry k).id None ≡ Some (parcel_at k.parcels (first_entry k).id)
  pub unwaiting : occurrences (first_entry k).id (waiting_heads k) ≡ 0
  pub not_out : occurrences (first_entry k).id k.out ≡ 0
  pub away : occurrences (first_entry k).id (done_ids (with_collected k)) ≡ 0

pub done_is : (k : Kept) → IsSound k → 0 < ahead k.collected k.contents.used_index → IsDone k
done_is k sound some =
    let head = (first_entry k).id in
    let rest = done_ids (with_collected k) in
    let first : done_ids k ≡ head ∷ rest = ap (map (λ (e : UsedEntry). e.id)) (entries_collected k sound some) in
    let done : 1 ≤ occurrences head (done_ids k) = rw first (first_waits head rest) in
    let split = three head (waiting_heads k) k.out (done_ids k) in
    let one = once k.owners (all_heads k) head (sound.chains.heads head) in
    let both = occurrences-append head (waiting_heads k) (done_ids k) in
    let front = occurrences-append head (head ∷ []) rest in
    let counted : occurrences head (done_ids k) ≡ occurrences head (head ∷ rest) = ap (occurrences head) first in
    let here = occurrences-one head in
    record {
      within = head_within k head sound (omega (arith, done, split));
      there = sound.chains.there head (omega (arith, done, both));
      unwaiting = omega (arith, one, split, done);
      not_out = omega (arith, one, split, done);
      away = omega (arith, one, split, front, counted, here);
    }

pub collected_sound : (k : Kept) → IsSound k → 0 < ahead k.collected k.contents.used_index → IsSound (with_collected k)
collected_sound k sound some =
    let head = (first_entry k).id in
    let first : done_ids k ≡ head ∷ done_ids (with_collected k) = ap (map (λ (e : UsedEntry). e.id)) (entries_collected k sound some) in
    let chains : HoldsChains k.size k.contents.table k.owners k.parcels (waiting_heads k) k.out (head ∷ done_ids (with_collected k)) =
    subst (λ (hs : List ℕ). HoldsChains k.size k.contents.table k.owners k.parcels (waiting_heads k) k.out hs) first sound.chains in
    record {
      size = sound.size;
      table = sound.table;
      available = sound.available;
      used = sound.used;
      owners = length-taken_back head k.owners ∙ sound.owners;
      parcels = length-set k.parcels _ _ ∙ sound.parcels;
      taken = sound.taken;
      collected = omega arith;
      available_index = sound.available_index;
      used_index = sound.used_index;
      chains = collected_holds k.size k.contents.table k.owners k.parcels head (waiting_heads k) k.out (done_ids (with_collected k)) chains;
    }

pub collected_first : (k : Kept) → IsSound k → 0 < ahead k.collected k.contents.used_index
    → first_finished (queue_of k).done ≡ Some (record { head = (first_entry k).id; used = (first_entry k).len; parcel = parcel_at k.parcels (first_entry k).id })
collected_first k sound some = ap (λ (es : List UsedEntry). first_finished (map (done_chain k.owners k.parcels) es)) (entries_collected k sound some)

pub collected_queue : (k : Kept) → IsSound k → 0 < ahead k.collected k.contents.used_index → queue_of (with_collected k) ≡ collected (queue_of k)
collected_queue k sound some =
    let head = (first_entry k).id in
    let is = done_is k sound some in
    let rest = done_entries (with_collected k) in
    let owners' = taken_back head k.owners in
    let parcels' = set k.parcels head None in
    let same_count : (h : ℕ) → h ≢ head → count_of owners' h ≡ count_of k.owners h = λ h differs. ap length (taken_back_others head h 0 k.owners differs) in
    let waiting : map (parcel_at parcels') (waiting_heads k) ≡ map (parcel_at k.parcels) (waiting_heads k) =
    map_apart (parcel_at parcels') (parcel_at k.parcels) head (waiting_heads k) (λ h differs. parcel_other k.parcels head h None differs) is.unwaiting in
    let out : map (out_chain owners') k.out ≡ map (out_chain k.owners) k.out =
    map_apart (out_chain owners') (out_chain k.owners) head k.out (λ h differs. ap (λ n. record { head = h; count = n }) (same_count h differs)) is.not_out in
    let done : map (done_chain owners' parcels') rest ≡ map (done_chain k.owners k.parcels) rest =
    map_key_apart (λ (e : UsedEntry). e.id) (done_chain owners' parcels') (done_chain k.owners k.parcels) head rest
    (λ e differs. rw (same_count e.id differs, parcel_other k.parcels head e.id None differs) refl) is.away in
    let before : rest_of (map (done_chain k.owners k.parcels) (done_entries k)) ≡ map (done_chain k.owners k.parcels) rest =
    ap (λ (es : List UsedEntry). rest_of (map (done_chain k.owners k.parcels) es)) (entries_collected k sound some) in
    rw (waiting, out, done, before) refl

-- what the code keeps is what a step says, part by part
pub kept_same : (a b : Kept) → a.size ≡ b.size → a.contents ≡ b.contents → a.taken ≡ b.taken → a.collected ≡ b.collected → a.owners ≡ b.owners → a.parcels ≡ b.parcels → a.out ≡ b.out → a ≡ b
kept_same a b p q r s t u v =
    let e : record { size = a.size; contents = a.contents; taken = a.taken; collected = a.collected; owners = a.owners; parcels = a.parcels; out = a.out }
    ≡ record { size = b.size; contents = b.contents; taken = b.taken; collected = b.collected; owners = b.owners; parcels = b.parcels; out = b.out } = rw (p, q, r, s, t, u, v) refl in
    e

-- a list of the code after a call that wrote all of it
pub all_written : {A : Type 0} (n : ℕ) (before after now : List A) → length before ≡ n → length now ≡ n → after ≡ now
    → take n (after ++ drop (length after) before) ≡ now
all_written n before after now size same is =
    let whole : take n (now ++ drop (length now) before) ≡ now = same_lists _ _ (search (rules, places)) (λ k d h. grind (arith, places)) in
    rw is whole

pub some_same : {A : Type 0} (a b : A) → Some a ≡ Some b → a ≡ b
some_same {A = A} a b same = ap (λ (o : Option A). unwrap_or o a) same

pub found : (xs ys : List (Option Parcel)) (i k : ℕ) → xs ≡ ys → i ≡ k → get_or xs i None ≡ get_or ys k None
found xs ys i k lists numbers = rw (lists, numbers) refl

-- how much waits and is done
pub waiting_length : (k : Kept) → length (queue_of k).waiting ≡ ahead k.taken k.contents.available_index
waiting_length k = length-map (waiting_heads k) (parcel_at k.parcels) ∙ length-entries 0 k.size k.contents.available k.taken (ahead k.taken k.contents.available_index)

pub done_length : (k : Kept) → length (queue_of k).done ≡ ahead k.collected k.contents.used_index
done_length k = length-map (done_entries k) (done_chain k.owners k.parcels) ∙ length-entries no_entry k.size k.contents.used k.collected (ahead k.collected k.contents.used_index)

positive : (n : ℕ) → (n ≡ 0 → ⊥) → 0 < n
positive zero some = absurd (some refl)
positive (suc n) some = omega arith

pub some_waits : (k : Kept) (now : Queue) (n : ℕ) → queue_of k ≡ now → n ≡ length now.waiting → (n ≡ 0 → ⊥) → 0 < ahead k.taken k.contents.available_index
some_waits k now n same count some =
    let all : n ≡ ahead k.taken k.contents.available_index = count ∙ (ap (λ (q : Queue). length q.waiting) (sym same) ∙ waiting_length k) in
    let p = positive n some in
    omega (arith, all, p)

pub some_done : (k : Kept) (now : Queue) (n : ℕ) → queue_of k ≡ now → n ≡ length now.done → (n ≡ 0 → ⊥) → 0 < ahead k.collected k.contents.used_index
some_done k now n same count some =
    let all : n ≡ ahead k.collected k.contents.used_index = count ∙ (ap (λ (q : Queue). length q.done) (sym same) ∙ done_length k) in
    let p = positive n some in
    omega (arith, all, p)

-- the first of the lowest free descriptors
pub front_same : (n : ℕ) (xs : List ℕ) → 1 ≤ n → get_or (take n xs) 0 0 ≡ get_or xs 0 0
front_same n xs some = get_or-take n xs 0 0 some

-- the same calls of equal lists and numbers
pub set_same : (xs ys : List (Option Parcel)) (i k : ℕ) (o : Option Parcel) → xs ≡ ys → i ≡ k → set xs i o ≡ set ys k o
set_same xs ys i k o lists numbers = rw (lists, numbers) refl

pub back_same : (xs ys : List (Option ℕ)) (i k : ℕ) → xs ≡ ys → i ≡ k → taken_back i xs ≡ taken_back k ys
back_same xs ys i k lists heads = rw (lists, heads) refl

pub taken_same : (i k : ℕ) (xs ys : List ℕ) → i ≡ k → xs ≡ ys → take i xs ≡ take k ys
taken_same i k xs ys counts lists = rw (lists, counts) refl

pub handed_same : (n m : ℕ) (h g : ℕ) (xs ys : List (Option ℕ)) → n ≡ m → h ≡ g → xs ≡ ys → handed_out n h xs ≡ handed_out m g ys
handed_same n m h g xs ys counts heads lists = rw (counts, heads, lists) refl

pub offered_same : (n m : ℕ) (h g : ℕ) (c d : Contents) → n ≡ m → h ≡ g → c ≡ d → offered n h c ≡ offered m g d
offered_same n m h g c d sizes heads contents = rw (sizes, heads, contents) refl
