-- The chains that are held stay so as one is posted, taken, finished and collected.
use Rattle.std.proofs.Common.{◌≡◌, ◌≢◌, ℕ, zero, suc, ◌+◌, ◌-◌, ◌<◌, ◌≤◌, ◌++◌, true, false, if◌then◌else◌, List, [], ◌∷◌, length, take, set, get_or, slice_get, Option, Some, None, refl, ap, sym, ◌∙◌, subst, arith, inl, inr}
use Rattle.std.specs.Option.{unwrap_or}
use Rattle.std.proofs.lemmas.Option.{slice_get_within}
use Rattle.std.proofs.lemmas.Bool.{cases_eq, cases_Bool}
use Rattle.std.proofs.lemmas.List.{length-take-le, get_or-set_same, get_or-set_other, length-drop}
use Rattle.std.proofs.lemmas.List.Sums.{sum_by-append, sum_by_push}
use Rattle.vm_chain.specs.declared.desc.Desc.{Desc}
use Rattle.vm_link.specs.declared.parcel.Parcel.{Parcel}
use Rattle.vm_link.specs.Parcel.{IsPostable}
use Rattle.vm_mem.specs.Lists.{occurrences}
use Rattle.vm_mem.proofs.OccurrenceLemmas.{occurrences-append, occurrences-one, occurrences-other}
use Rattle.vm_split.specs.Kept.{HoldsChains, IsWhole, IsLaid, parcel_at, no_parcel}
use Rattle.vm_split.specs.Owners.{is_of, is_free, places_of, free_places, count_of, handed_out}
use Rattle.vm_split.specs.Stands.{ring_index}
use Rattle.vm_split.proofs.ListLemmas.{sum_apart}
use Rattle.vm_split.proofs.OwnerLemmas.{Passes, place_passes, none_passes, handed_others, handed_places, handed_free, handed_is_of, free_unowned, owned_not_free}

-- a head in one of the lists has an owner, and stands there once
pub in_lists : (owners : List (Option ℕ)) (all : List ℕ) (head : ℕ) → occurrences head all ≡ (if is_of head (get_or owners head None) then 1 else 0)
    → 1 ≤ occurrences head all → is_of head (get_or owners head None) ≡ true
in_lists owners all head heads there = elim (cases_Bool (is_of head (get_or owners head None))) [
  | inl owned ↦ owned
  | inr unowned ↦ absurd (let none : occurrences head all ≡ 0 = rw unowned at heads in omega (arith, none, there))
]

pub once : (owners : List (Option ℕ)) (all : List ℕ) (head : ℕ) → occurrences head all ≡ (if is_of head (get_or owners head None) then 1 else 0) → occurrences head all ≤ 1
once owners all head heads = elim (cases_Bool (is_of head (get_or owners head None))) [
  | inl owned ↦ let one : occurrences head all ≡ 1 = rw owned at heads in omega (arith, one)
  | inr unowned ↦ let none : occurrences head all ≡ 0 = rw unowned at heads in omega (arith, none)
]

pub unowned_away : (owners : List (Option ℕ)) (all : List ℕ) (head : ℕ) → occurrences head all ≡ (if is_of head (get_or owners head None) then 1 else 0)
    → is_of head (get_or owners head None) ≡ false → occurrences head all ≡ 0
unowned_away owners all head heads unowned = rw unowned at heads

-- how often a head stands in the three lists
pub three : (head : ℕ) (waiting out done : List ℕ) → occurrences head (waiting ++ (out ++ done)) ≡ occurrences head waiting + (occurrences head out + occurrences head done)
three head waiting out done = grind (arith, occurrences-append head waiting (out ++ done), occurrences-append head out done)

pub parcel_other : (parcels : List (Option Parcel)) (head h : ℕ) (o : Option Parcel) → h ≢ head → parcel_at (set parcels head o) h ≡ parcel_at parcels h
parcel_other parcels head h o differs = ap (λ o. unwrap_or o no_parcel) (get_or-set_other parcels head h o None differs)

pub parcel_same : (parcels : List (Option Parcel)) (head : ℕ) (p : Parcel) → head < length parcels → parcel_at (set parcels head (Some p)) head ≡ p
parcel_same parcels head p within = ap (λ o. unwrap_or o no_parcel) (get_or-set_same parcels head (Some p) None within)

-- a chain whose descriptors, whose parcel and whose places in the table stay is whole as before
pub still_whole : (table table' : List Desc) (owners owners' : List (Option ℕ)) (parcels parcels' : List (Option Parcel)) (h : ℕ)
    → places_of h owners' ≡ places_of h owners → parcel_at parcels' h ≡ parcel_at parcels h
    → ((d : ℕ) → is_of h (get_or owners d None) ≡ true → slice_get table' d ≡ slice_get table d)
    → IsWhole table owners parcels h → IsWhole table' owners' parcels' h
still_whole table table' owners owners' parcels parcels' h places parcel same w = record {
  whole = ap length places ∙ (w.whole ∙ ap (λ (p : Parcel). length p.table) (sym parcel));
  first = ap (λ (ps : List ℕ). ring_index ps 0) places ∙ w.first;
  postable = subst (λ (p : Parcel). IsPostable p) (sym parcel) w.postable;
  laid = subst (λ (p : Parcel). IsLaid table' (places_of h owners') p.table) (sym parcel)
      (subst (λ (ps : List ℕ). IsLaid table' ps (parcel_at parcels h).table) (sym places) laid_still);
}
  where
    laid_still : IsLaid table' (places_of h owners) (parcel_at parcels h).table
    laid_still k d there =
        let within : k < length (places_of h owners) = let e = w.whole in let s = slice_get_within (parcel_at parcels h).table k d there in omega (arith, e, s) in
        let place = place_passes (is_of h) 0 owners k within in
        let owned : is_of h (get_or owners (get_or (places_of h owners) k 0) None) ≡ true =
        let none : get_or (places_of h owners) k 0 - 0 ≡ get_or (places_of h owners) k 0 = omega arith in rw none at place.good in
        same (get_or (places_of h owners) k 0) owned ∙ w.laid k d there

-- the lowest free descriptor
pub head_free : (owners : List (Option ℕ)) → 1 ≤ length (free_places owners) → Passes is_free 0 owners (get_or (free_places owners) 0 0)
head_free owners some = place_passes is_free 0 owners 0 some

pub posted_holds : (size : ℕ) (table table' : List Desc) (owners : List (Option ℕ)) (parcels : List (Option Parcel)) (waiting out done : List ℕ) (head : ℕ) (p : Parcel)
    → HoldsChains size table owners parcels waiting out done → IsPostable p → length p.table ≤ length (free_places owners)
    → head ≡ get_or (free_places owners) 0 0 → length parcels ≡ length owners
    → IsLaid table' (take (length p.table) (free_places owners)) p.table
    → ((d : ℕ) → is_free (get_or owners d None) ≡ false → slice_get table' d ≡ slice_get table d)
    → HoldsChains size table' (handed_out (length p.table) head owners) (set parcels head (Some p)) (waiting ++ head ∷ []) out done
posted_holds size table table' owners parcels waiting out done head p chains postable room first each laid kept =
    let n = length p.table in
    let some : 1 ≤ length (free_places owners) = let one = postable.0 in omega (arith, one, room) in
    let free_head = head_free owners some in
    let free : is_free (get_or owners head None) ≡ true =
    let none : get_or (free_places owners) 0 0 - 0 ≡ get_or (free_places owners) 0 0 = omega arith in rw first (rw none at free_head.good) in
    let within : head < length parcels = let w = free_head.within in omega (arith, first, w, each) in
    let all = waiting ++ (out ++ done) in
    let away : occurrences head all ≡ 0 = unowned_away owners all head (chains.heads head) (free_unowned head _ free) in
    let three_away = three head waiting out done in
    let none : places_of head owners ≡ [] = none_passes (is_of head) 0 owners (λ k less. elim (cases_Bool (is_of head (get_or owners k None))) [
      | inl owned ↦ absurd (let there = chains.owned k head owned in omega (arith, there, away))
      | inr unowned ↦ unowned
    ]) in
    let owners' = handed_out n head owners in
    let places : places_of head owners' ≡ take n (free_places owners) = handed_places n head 0 owners none in
    let count : count_of owners' head ≡ n = ap length places ∙ length-take-le n (free_places owners) room in
    let now : is_of head (get_or owners' head None) ≡ true =
    let one = postable.0 in
    let there = place_passes (is_of head) 0 owners' 0 (omega (arith, one, count)) in
    let place : get_or (places_of head owners') 0 0 - 0 ≡ head = ap (λ (ps : List ℕ). get_or ps 0 0 - 0) places ∙ front n (free_places owners) one ∙ sym first in
    rw place at there.good in
    let lists : (h : ℕ) → occurrences h ((waiting ++ head ∷ []) ++ (out ++ done)) ≡ occurrences h all + occurrences h (head ∷ []) = λ h.
    let a = three h waiting out done in
    let b = three h (waiting ++ head ∷ []) out done in
    let c = occurrences-append h waiting (head ∷ []) in
    omega (arith, a, b, c) in
    record {
      heads = λ h. elim (cases_eq h head) [
        | inl same ↦ rw (same, now) (let l = lists head in let o = occurrences-one head in omega (arith, l, o, away))
        | inr differs ↦ rw (handed_is_of n head h h owners differs) (lists h ∙ (let o = occurrences-other h head differs in let e = chains.heads h in omega (arith, o) ∙ e))
      ];
      owned = λ place h owner. elim (cases_eq h head) [
        | inl same ↦ rw same (let l = lists head in let o = occurrences-one head in omega (arith, l, o))
        | inr differs ↦
            let l = lists h in
            let before = chains.owned place h (rw (handed_is_of n head h place owners differs) at owner) in
            omega (arith, l, before)
      ];
      counted =
          let same = sum_apart (count_of owners') (count_of owners) head all (λ h differs. ap length (handed_others n head h 0 owners differs)) away in
          let left = sum_by-append (count_of owners') (waiting ++ head ∷ []) (out ++ done) in
          let push = sum_by_push (count_of owners') waiting head in
          let right = sum_by-append (count_of owners') waiting (out ++ done) in
          let rest : length (free_places owners') ≡ length (free_places owners) - n = ap length (handed_free n head 0 owners) ∙ length-drop n (free_places owners) in
          let before = chains.counted in
          omega (arith, same, left, push, right, rest, before, count, room);
      whole = λ h there. elim (cases_eq h head) [
        | inl same ↦ rw same (record {
          whole = count ∙ ap (λ (q : Parcel). length q.table) (sym (parcel_same parcels head p within));
          first = ap (λ (ps : List ℕ). ring_index ps 0) places ∙ (start n (free_places owners) postable.0 room ∙ sym first);
          postable = subst (λ (q : Parcel). IsPostable q) (sym (parcel_same parcels head p within)) postable;
          laid = subst (λ (q : Parcel). IsLaid table' (places_of head owners') q.table) (sym (parcel_same parcels head p within))
              (subst (λ (ps : List ℕ). IsLaid table' ps p.table) (sym places) laid);
        })
        | inr differs ↦
            let before : 1 ≤ occurrences h waiting = let c = occurrences-append h waiting (head ∷ []) in let o = occurrences-other h head differs in omega (arith, there, c, o) in
            still_whole table table' owners owners' parcels (set parcels head (Some p)) h (handed_others n head h 0 owners differs) (parcel_other parcels head h (Some p) differs)
            (λ d owned. kept d (owned_not_free h (get_or owners d None) owned)) (chains.whole h before)
      ];
      there = λ h some. elim (cases_eq h head) [
        | inl same ↦ rw same (get_or-set_same parcels head (Some p) None within ∙ ap Some (sym (parcel_same parcels head p within)))
        | inr differs ↦
            let before : 1 ≤ occurrences h (waiting ++ done) =
            let a = occurrences-append h (waiting ++ head ∷ []) done in
            let b = occurrences-append h waiting (head ∷ []) in
            let c = occurrences-append h waiting done in
            let o = occurrences-other h head differs in
            omega (arith, some, a, b, c, o) in
            get_or-set_other parcels head h (Some p) None differs ∙ (chains.there h before ∙ ap Some (sym (parcel_other parcels head h (Some p) differs)))
      ];
    }
  where
    start : (n : ℕ) (xs : List ℕ) → 1 ≤ n → n ≤ length xs → get_or (take n xs) 0 65535 ≡ get_or xs 0 0
    start zero xs some room = absurd (omega (arith, some))
    start (suc n) [] some room = absurd (omega (arith, room))
    start (suc n) (x ∷ xs) some room = refl

    front : (n : ℕ) (xs : List ℕ) → 1 ≤ n → get_or (take n xs) 0 0 - 0 ≡ get_or xs 0 0
    front zero xs some = absurd (omega (arith, some))
    front (suc n) [] some = omega arith
    front (suc n) (x ∷ xs) some = omega arith
