-- Lemmas on which chain each descriptor lies in.
use Rattle.std.proofs.Common.{◌≡◌, ◌≢◌, ℕ, zero, suc, ◌+◌, ◌-◌, ◌<◌, ◌≤◌, ◌++◌, Bool, true, false, ◌==◌, if◌then◌else◌, List, [], ◌∷◌, length, take, drop, set, get_or, Option, Some, None, is_some, refl, ap, subst, arith, inl, inr}
use Rattle.std.proofs.Math.Seq.{drop-cons}
use Rattle.std.proofs.lemmas.List.{append_assoc, append-nil, get_or-take, length-take}
use Rattle.std.proofs.lemmas.Grind.{common_steps}
use Rattle.std.proofs.lemmas.Bool.{cases_eq, cases_Bool, false≢true, true≢false}
use Rattle.std.proofs.lemmas.Bool.Decides.{nat_tests}
use Rattle.vm_split.specs.Owners.{places_from, free_places, count_of, is_free, is_of, handed_out, taken_back}

-- the lists of places of an element that passes, and of one that doesn't
pub places_yes : (passes : Option ℕ → Bool) (at : ℕ) (o : Option ℕ) (os : List (Option ℕ)) → passes o ≡ true → places_from passes at (o ∷ os) ≡ at ∷ places_from passes (at + 1) os
places_yes passes at o os passed = rw passed refl

pub places_no : (passes : Option ℕ → Bool) (at : ℕ) (o : Option ℕ) (os : List (Option ℕ)) → passes o ≡ false → places_from passes at (o ∷ os) ≡ places_from passes (at + 1) os
places_no passes at o os failed = rw failed refl

-- a place that passes stands in the list, and its element passes
pub record Passes (passes : Option ℕ → Bool) (at : ℕ) (os : List (Option ℕ)) (place : ℕ) : Type 0 where
  pub from : at ≤ place
  pub within : place < at + length os
  pub good : passes (get_or os (place - at) None) ≡ true

later : (passes : Option ℕ → Bool) (at : ℕ) (o : Option ℕ) (os : List (Option ℕ)) (place : ℕ) → Passes passes (at + 1) os place → Passes passes at (o ∷ os) place
later passes at o os place p =
    let one : place - at ≡ suc (place - (at + 1)) = let f = p.from in omega arith in
    record {
      from = let f = p.from in omega arith;
      within = let w = p.within in omega arith;
      good = rw one p.good;
    }

pub place_passes : (passes : Option ℕ → Bool) (at : ℕ) (os : List (Option ℕ)) (k : ℕ) → k < length (places_from passes at os) → Passes passes at os (get_or (places_from passes at os) k 0)
place_passes passes at [] k within = absurd (omega (arith, within))
place_passes passes at (o ∷ os) k within = elim (cases_Bool (passes o)) [
  | inl passed ↦ rw (places_yes passes at o os passed) (head_or_later passed (λ k within. place_passes passes (at + 1) os k within) k (subst (λ (xs : List ℕ). k < length xs) (places_yes passes at o os passed) within))
  | inr failed ↦ rw (places_no passes at o os failed) (later passes at o os _ (place_passes passes (at + 1) os k (subst (λ (xs : List ℕ). k < length xs) (places_no passes at o os failed) within)))
]
  where
    head_or_later : passes o ≡ true → ((k : ℕ) → k < length (places_from passes (at + 1) os) → Passes passes (at + 1) os (get_or (places_from passes (at + 1) os) k 0)) → (k : ℕ) → k < length (at ∷ places_from passes (at + 1) os) → Passes passes at (o ∷ os) (get_or (at ∷ places_from passes (at + 1) os) k 0)
    head_or_later passed rest zero within = record { from = omega arith; within = omega arith; good = let none : at - at ≡ 0 = omega arith in rw none passed }
    head_or_later passed rest (suc k) within = later passes at o os _ (rest k (omega (arith, within)))

-- places rise
pub places_rise : (passes : Option ℕ → Bool) (at : ℕ) (os : List (Option ℕ)) (i k : ℕ) → i < k → k < length (places_from passes at os)
    → get_or (places_from passes at os) i 0 < get_or (places_from passes at os) k 0
places_rise passes at [] i k less within = absurd (omega (arith, within))
places_rise passes at (o ∷ os) i k less within = elim (cases_Bool (passes o)) [
  | inl passed ↦ rw (places_yes passes at o os passed) (from_head (λ i k less within. places_rise passes (at + 1) os i k less within) i k less (subst (λ (xs : List ℕ). k < length xs) (places_yes passes at o os passed) within))
  | inr failed ↦ rw (places_no passes at o os failed) (places_rise passes (at + 1) os i k less (subst (λ (xs : List ℕ). k < length xs) (places_no passes at o os failed) within))
]
  where
    from_head : ((i k : ℕ) → i < k → k < length (places_from passes (at + 1) os) → get_or (places_from passes (at + 1) os) i 0 < get_or (places_from passes (at + 1) os) k 0) → (i k : ℕ) → i < k → k < length (at ∷ places_from passes (at + 1) os) → get_or (at ∷ places_from passes (at + 1) os) i 0 < get_or (at ∷ places_from passes (at + 1) os) k 0
    from_head rest i zero less within = absurd (omega (arith, less))
    from_head rest zero (suc k) less within = let p = (place_passes passes (at + 1) os k (omega (arith, within))).from in omega arith
    from_head rest (suc i) (suc k) less within = rest i k (omega (arith, less)) (omega (arith, within))

-- where none passes there is failed place
pub none_passes : (passes : Option ℕ → Bool) (at : ℕ) (os : List (Option ℕ)) → ((k : ℕ) → k < length os → passes (get_or os k None) ≡ false) → places_from passes at os ≡ []
none_passes passes at [] none = refl
none_passes passes at (o ∷ os) none =
    rw (places_no passes at o os (none 0 (omega arith))) (none_passes passes (at + 1) os (λ k within. none (suc k) (omega (arith, within))))

-- handing out
pub length-handed : (count head : ℕ) (os : List (Option ℕ)) → length (handed_out count head os) ≡ length os
length-handed zero head os = refl
length-handed (suc count) head [] = refl
length-handed (suc count) head (None ∷ os) = ap suc (length-handed count head os)
length-handed (suc count) head (Some owner ∷ os) = ap suc (length-handed (suc count) head os)

pub handed_others : (count head other at : ℕ) (os : List (Option ℕ)) → other ≢ head → places_from (is_of other) at (handed_out count head os) ≡ places_from (is_of other) at os
handed_others zero head other at os differs = refl
handed_others (suc count) head other at [] differs = refl
handed_others (suc count) head other at (None ∷ os) differs = grind (arith, nat_tests, handed_others count head other (at + 1) os differs)
handed_others (suc count) head other at (Some owner ∷ os) differs = grind (arith, nat_tests, handed_others (suc count) head other (at + 1) os differs)

pub handed_places : (count head at : ℕ) (os : List (Option ℕ)) → places_from (is_of head) at os ≡ [] → places_from (is_of head) at (handed_out count head os) ≡ take count (places_from is_free at os)
handed_places zero head at os none = none
handed_places (suc count) head at [] none = refl
handed_places (suc count) head at (None ∷ os) none = grind (arith, nat_tests, handed_places count head (at + 1) os none)
handed_places (suc count) head at (Some owner ∷ os) none = elim (cases_eq owner head) [
  | inl same ↦ absurd (grind (arith, nat_tests, none))
  | inr differs ↦
      let rest : places_from (is_of head) (at + 1) os ≡ [] = grind (arith, nat_tests, none) in
      grind (arith, nat_tests, handed_places (suc count) head (at + 1) os rest)
]

pub handed_free : (count head at : ℕ) (os : List (Option ℕ)) → places_from is_free at (handed_out count head os) ≡ drop count (places_from is_free at os)
handed_free zero head at os = refl
handed_free (suc count) head at [] = refl
handed_free (suc count) head at (None ∷ os) = handed_free count head (at + 1) os
handed_free (suc count) head at (Some owner ∷ os) = handed_free (suc count) head (at + 1) os

-- the owner of a descriptor after handing out
pub handed_owner : (count head d : ℕ) (os : List (Option ℕ)) → is_free (get_or os d None) ≡ false → get_or (handed_out count head os) d None ≡ get_or os d None
handed_owner zero head d os owned = refl
handed_owner (suc count) head d [] owned = refl
handed_owner (suc count) head zero (None ∷ os) owned = absurd (grind (arith, owned))
handed_owner (suc count) head (suc d) (None ∷ os) owned = handed_owner count head d os owned
handed_owner (suc count) head zero (Some owner ∷ os) owned = refl
handed_owner (suc count) head (suc d) (Some owner ∷ os) owned = handed_owner (suc count) head d os owned

-- taking back
pub length-taken_back : (head : ℕ) (os : List (Option ℕ)) → length (taken_back head os) ≡ length os
length-taken_back head [] = refl
length-taken_back head (o ∷ os) = ap suc (length-taken_back head os)

pub taken_back_others : (head other at : ℕ) (os : List (Option ℕ)) → other ≢ head → places_from (is_of other) at (taken_back head os) ≡ places_from (is_of other) at os
taken_back_others head other at [] differs = refl
taken_back_others head other at (None ∷ os) differs = taken_back_others head other (at + 1) os differs
taken_back_others head other at (Some owner ∷ os) differs = elim (cases_eq owner head) [
  | inl same ↦ grind (arith, nat_tests, taken_back_others head other (at + 1) os differs)
  | inr apart ↦ grind (arith, nat_tests, taken_back_others head other (at + 1) os differs)
]

pub taken_back_free : (head at : ℕ) (os : List (Option ℕ)) → length (places_from is_free at (taken_back head os)) ≡ length (places_from is_free at os) + length (places_from (is_of head) at os)
taken_back_free head at [] = refl
taken_back_free head at (None ∷ os) = grind (arith, nat_tests, taken_back_free head (at + 1) os)
taken_back_free head at (Some owner ∷ os) = elim (cases_eq owner head) [
  | inl same ↦ grind (arith, nat_tests, taken_back_free head (at + 1) os)
  | inr apart ↦ grind (arith, nat_tests, taken_back_free head (at + 1) os)
]

-- the owner of a descriptor after taking back
pub taken_back_owner : (head d h : ℕ) (os : List (Option ℕ)) → is_of h (get_or (taken_back head os) d None) ≡ (if h == head then false else is_of h (get_or os d None))
taken_back_owner head d h [] = elim (cases_eq h head) [ inl same ↦ grind (arith, nat_tests) | inr apart ↦ grind (arith, nat_tests) ]
taken_back_owner head zero h (None ∷ os) = elim (cases_eq h head) [ inl same ↦ grind (arith, nat_tests) | inr apart ↦ grind (arith, nat_tests) ]
taken_back_owner head zero h (Some owner ∷ os) = elim (cases_eq owner head) [
  | inl same ↦ elim (cases_eq h head) [ inl equal ↦ grind (arith, nat_tests) | inr other ↦ grind (arith, nat_tests) ]
  | inr apart ↦ elim (cases_eq h head) [ inl equal ↦ grind (arith, nat_tests) | inr other ↦ grind (arith, nat_tests) ]
]
taken_back_owner head (suc d) h (o ∷ os) = taken_back_owner head d h os

-- the places of what is left of a list
abbrev pub rest_of : List (Option ℕ) → ℕ → List ℕ
rest_of os at = places_from is_free at (drop at os)

rest_cons : (os : List (Option ℕ)) (at : ℕ) → at < length os → drop at os ≡ get_or os at None ∷ drop (at + 1) os
rest_cons os at within = let one : at + 1 ≡ suc at = omega arith in rw one (drop-cons os at None within)

pub found_first : (os : List (Option ℕ)) (at : ℕ) → at < length os → get_or os at None ≡ None → rest_of os at ≡ at ∷ rest_of os (at + 1)
found_first os at within free = rw (rest_cons os at within, free) refl

-- a step of the search for free descriptors
pub found_one : (os : List (Option ℕ)) (places whole : List ℕ) (at found : ℕ) → at < length os → found < length places → get_or os at None ≡ None
    → take found places ++ take (length places - found) (rest_of os at) ≡ whole
    → take (found + 1) (set places found at) ++ take (length (set places found at) - (found + 1)) (rest_of os (at + 1)) ≡ whole
found_one os places whole at found within room free so_far =
    let first = found_first os at within free in
    let less : length places - found ≡ suc (length places - (found + 1)) = omega (arith, room) in
    let pushed : take (found + 1) (set places found at) ≡ take found places ++ at ∷ [] = grind (arith, common_steps, room) in
    let same : take found places ++ (at ∷ take (length places - (found + 1)) (rest_of os (at + 1))) ≡ whole = rw (less, first) at so_far in
    let size : length (set places found at) ≡ length places = grind (arith, common_steps) in
    rw (pushed, size, append_assoc) same

pub found_none : (os : List (Option ℕ)) (at : ℕ) → at < length os → is_free (get_or os at None) ≡ false → rest_of os at ≡ rest_of os (at + 1)
found_none os at within owned = rw (rest_cons os at within, owned) refl

-- a step of handing out
pub handed_one : (os whole : List (Option ℕ)) (at left head : ℕ) → at < length os → 0 < left → get_or os at None ≡ None
    → take at os ++ handed_out left head (drop at os) ≡ whole
    → take (at + 1) (set os at (Some head)) ++ handed_out (left - 1) head (drop (at + 1) (set os at (Some head))) ≡ whole
handed_one os whole at zero head within some free so_far = absurd (omega (arith, some))
handed_one os whole at (suc left) head within some free so_far =
    let less : suc left - 1 ≡ left = omega arith in
    let first : handed_out (suc left) head (drop at os) ≡ Some head ∷ handed_out left head (drop (at + 1) os) = rw (rest_cons os at within, free) refl in
    let pushed : take (at + 1) (set os at (Some head)) ≡ take at os ++ Some head ∷ [] = grind (arith, common_steps, within) in
    let behind : drop (at + 1) (set os at (Some head)) ≡ drop (at + 1) os = grind (arith, common_steps, within) in
    rw (less, pushed, behind, append_assoc) (rw first at so_far)

pub handed_none : (os whole : List (Option ℕ)) (at left head owner : ℕ) → at < length os → get_or os at None ≡ Some owner
    → take at os ++ handed_out left head (drop at os) ≡ whole
    → take (at + 1) os ++ handed_out left head (drop (at + 1) os) ≡ whole
handed_none os whole at zero head owner within owned so_far = grind (arith, common_steps, so_far)
handed_none os whole at (suc left) head owner within owned so_far =
    let first : handed_out (suc left) head (drop at os) ≡ Some owner ∷ handed_out (suc left) head (drop (at + 1) os) = rw (rest_cons os at within, owned) refl in
    let pushed : take (at + 1) os ≡ take at os ++ Some owner ∷ [] = grind (arith, common_steps, within, owned) in
    rw (pushed, append_assoc) (rw first at so_far)

-- nothing is handed out of nothing
pub handed_end : (os : List (Option ℕ)) (at left head : ℕ) → length os ≤ at → take at os ++ handed_out left head (drop at os) ≡ os
handed_end os at zero head ends = grind (arith, common_steps)
handed_end os at (suc left) head ends =
    let none : drop at os ≡ [] = grind (arith, common_steps, ends) in
    let all : take at os ≡ os = grind (arith, common_steps, ends) in
    rw (none, all) (append-nil os)

pub none_from : (o : Option ℕ) → is_some o ≡ false → o ≡ None
none_from None none = refl
none_from (Some owner) none = absurd (true≢false none)

pub some_from : (o : Option ℕ) → is_some o ≡ true → (owner : ℕ) × (o ≡ Some owner)
some_from None some = absurd (false≢true some)
some_from (Some owner) some = (owner, refl)

pub owned_from : (o : Option ℕ) → is_some o ≡ true → is_free o ≡ false
owned_from None some = absurd (false≢true some)
owned_from (Some owner) some = refl

-- an element that passes has a place
pub place_there : (passes : Option ℕ → Bool) (at : ℕ) (os : List (Option ℕ)) (k : ℕ) → k < length os → passes (get_or os k None) ≡ true → 1 ≤ length (places_from passes at os)
place_there passes at [] k within passed = absurd (omega (arith, within))
place_there passes at (o ∷ os) zero within passed = rw (places_yes passes at o os passed) (omega arith)
place_there passes at (o ∷ os) (suc k) within passed =
    let rest = place_there passes (at + 1) os k (omega (arith, within)) passed in
    elim (cases_Bool (passes o)) [
      | inl here ↦ rw (places_yes passes at o os here) (omega arith)
      | inr failed ↦ rw (places_no passes at o os failed) rest
    ]

-- a descriptor with an owner is there
pub owner_within : (head : ℕ) (os : List (Option ℕ)) (k : ℕ) → is_of head (get_or os k None) ≡ true → k < length os
owner_within head [] k passed = absurd (false≢true passed)
owner_within head (o ∷ os) zero passed = omega arith
owner_within head (o ∷ os) (suc k) passed = let rest = owner_within head os k passed in omega (arith, rest)

pub owner_counts : (head : ℕ) (os : List (Option ℕ)) (k : ℕ) → is_of head (get_or os k None) ≡ true → 1 ≤ count_of os head
owner_counts head os k passed = place_there (is_of head) 0 os k (owner_within head os k passed) passed

-- a free descriptor has no owner
pub free_unowned : (head : ℕ) (o : Option ℕ) → is_free o ≡ true → is_of head o ≡ false
free_unowned head None free = refl
free_unowned head (Some owner) free = absurd (false≢true free)

-- a descriptor with an owner isn't free
pub owned_not_free : (head : ℕ) (o : Option ℕ) → is_of head o ≡ true → is_free o ≡ false
owned_not_free head None owned = absurd (false≢true owned)
owned_not_free head (Some owner) owned = refl

-- handing out changes no descriptor of another chain
pub handed_is_of : (count head h d : ℕ) (os : List (Option ℕ)) → h ≢ head → is_of h (get_or (handed_out count head os) d None) ≡ is_of h (get_or os d None)
handed_is_of zero head h d os differs = refl
handed_is_of (suc count) head h d [] differs = refl
handed_is_of (suc count) head h zero (None ∷ os) differs = grind (arith, nat_tests, differs)
handed_is_of (suc count) head h (suc d) (None ∷ os) differs = handed_is_of count head h d os differs
handed_is_of (suc count) head h zero (Some owner ∷ os) differs = refl
handed_is_of (suc count) head h (suc d) (Some owner ∷ os) differs = handed_is_of (suc count) head h d os differs

-- the lowest of the free descriptors
pub record AreFree (owners : List (Option ℕ)) (places : List ℕ) : Type 0 where
  pub within : (k : ℕ) → k < length places → get_or places k 0 < length owners
  pub rising : (i k : ℕ) → i < k → k < length places → get_or places i 0 < get_or places k 0
  pub free : (k : ℕ) → k < length places → is_free (get_or owners (get_or places k 0) None) ≡ true

pub lowest_free : (owners : List (Option ℕ)) (n : ℕ) → AreFree owners (take n (free_places owners))
lowest_free owners n =
    let all = free_places owners in
    let below : (k : ℕ) → k < length (take n all) → (k < n) × (k < length all) = λ k less. let count = length-take n all in (omega (arith, less, count), omega (arith, less, count)) in
    record {
      within = λ k less.
          let b = below k less in
          let same = get_or-take n all k 0 b.0 in
          let w = (place_passes is_free 0 owners k b.1).within in
          omega (arith, same, w);
      rising = λ i k before less.
          let b = below k less in
          let left = get_or-take n all i 0 (omega (arith, before, b.0)) in
          let right = get_or-take n all k 0 b.0 in
          let up = places_rise is_free 0 owners i k before b.1 in
          omega (arith, left, right, up);
      free = λ k less.
          let b = below k less in
          let same = get_or-take n all k 0 b.0 in
          let none : get_or all k 0 - 0 ≡ get_or all k 0 = omega arith in
          rw same (rw none at (place_passes is_free 0 owners k b.1).good);
    }
