-- Lemmas on how often an index stands in a list.
use Rattle.std.proofs.Common.{◌≡◌, ℕ, ◌<◌, ◌≤◌, ◌==◌, true, false, not, List, [], ◌∷◌, length, map, filter, refl, arith, inl, inr}
use Rattle.std.specs.List.{list_any, AllByRecursion, IsDistinct}
use Rattle.std.proofs.Math.Dec.{eqb}
use Rattle.std.proofs.lemmas.Bool.{cases_eq}
use Rattle.std.proofs.lemmas.Bool.Decides.{nat_tests}
use Rattle.std.proofs.lemmas.Map.Keys.{IsDistinct-cons}
use Rattle.std.proofs.lemmas.Map.Steps.{length-le_from_distinct_below}
use Rattle.vm_queue.specs.declared.queued.Queued.{Queued}
use Rattle.vm_mem.specs.Lists.{occurrences}

abbrev pub indices : List Queued → List ℕ
indices bs = map (λ (b : Queued). b.buffer.index) bs

-- what isn't found doesn't occur, and what is found does
pub not_found : (n : ℕ) (xs : List ℕ) → list_any (λ x. x == n) xs ≡ false → occurrences n xs ≡ 0
not_found n [] none = refl
not_found n (x ∷ xs) none = elim (cases_eq x n) [
  | inl same ↦ absurd (grind (arith, nat_tests))
  | inr differs ↦ let rest : occurrences n xs ≡ 0 = not_found n xs (grind (arith, nat_tests)) in grind (arith, nat_tests, rest)
]

pub found : (n : ℕ) (xs : List ℕ) → list_any (λ x. x == n) xs ≡ true → 1 ≤ occurrences n xs
found n [] some = cc
found n (x ∷ xs) some = elim (cases_eq x n) [
  | inl same ↦ grind (arith, nat_tests)
  | inr differs ↦ let rest : 1 ≤ occurrences n xs = found n xs (grind (arith, nat_tests)) in grind (arith, nat_tests, rest)
]

-- the same of the buffers that are queued
pub not_queued : (n : ℕ) (bs : List Queued) → list_any (λ (b : Queued). b.buffer.index == n) bs ≡ false → occurrences n (indices bs) ≡ 0
not_queued n [] none = refl
not_queued n (b ∷ bs) none = elim (cases_eq b.buffer.index n) [
  | inl same ↦ absurd (grind (arith, nat_tests))
  | inr differs ↦ let rest : occurrences n (indices bs) ≡ 0 = not_queued n bs (grind (arith, nat_tests)) in grind (arith, nat_tests, rest)
]

pub queued_nowhere : (n : ℕ) (bs : List Queued) → occurrences n (indices bs) ≡ 0 → list_any (λ (b : Queued). b.buffer.index == n) bs ≡ false
queued_nowhere n [] none = refl
queued_nowhere n (b ∷ bs) none = elim (cases_eq b.buffer.index n) [
  | inl same ↦ absurd (grind (arith, nat_tests))
  | inr differs ↦ let rest : list_any (λ (b : Queued). b.buffer.index == n) bs ≡ false = queued_nowhere n bs (grind (arith, nat_tests)) in grind (arith, nat_tests, rest)
]

-- what doesn't occur isn't found
pub found_nowhere : (n : ℕ) (xs : List ℕ) → occurrences n xs ≡ 0 → list_any (λ x. x == n) xs ≡ false
found_nowhere n [] none = refl
found_nowhere n (x ∷ xs) none = elim (cases_eq x n) [
  | inl same ↦ absurd (grind (arith, nat_tests))
  | inr differs ↦ let rest : list_any (λ x. x == n) xs ≡ false = found_nowhere n xs (grind (arith, nat_tests)) in grind (arith, nat_tests, rest)
]

-- an index that is taken out of a list is there no more, and none stands there more often
pub taken_out : (n : ℕ) (xs : List ℕ) → list_any (λ x. x == n) (filter (λ x. not (x == n)) xs) ≡ false
taken_out n [] = refl
taken_out n (x ∷ xs) = elim (cases_eq x n) [
  | inl same ↦ grind (arith, nat_tests, taken_out n xs)
  | inr differs ↦ grind (arith, nat_tests, taken_out n xs)
]

pub no_oftener : (m n : ℕ) (xs : List ℕ) → occurrences m (filter (λ x. not (x == n)) xs) ≤ occurrences m xs
no_oftener m n [] = omega arith
no_oftener m n (x ∷ xs) = elim (cases_eq x n) [
  | inl same ↦ elim (cases_eq x m) [
    | inl alike ↦ grind (arith, nat_tests, no_oftener m n xs)
    | inr other ↦ grind (arith, nat_tests, no_oftener m n xs)
  ]
  | inr differs ↦ elim (cases_eq x m) [
    | inl alike ↦ grind (arith, nat_tests, no_oftener m n xs)
    | inr other ↦ grind (arith, nat_tests, no_oftener m n xs)
  ]
]

-- a number that doesn't occur differs from each
none_alike : (n : ℕ) (xs : List ℕ) → occurrences n xs ≡ 0 → AllByRecursion (λ x. eqb n x ≡ false) xs
none_alike n [] none = tt
none_alike n (x ∷ xs) none = elim (cases_eq x n) [
  | inl same ↦ absurd (grind (arith, nat_tests))
  | inr differs ↦
      let rest : AllByRecursion (λ x. eqb n x ≡ false) xs = none_alike n xs (grind (arith, nat_tests)) in
      let here : eqb n x ≡ false = grind (arith, nat_tests) in
      (here, rest)
]

apart_distinct : (xs : List ℕ) → ((n : ℕ) → occurrences n xs ≤ 1) → IsDistinct eqb xs
unfolding IsDistinct
apart_distinct [] apart = tt
apart_distinct (x ∷ xs) apart =
    let none : occurrences x xs ≡ 0 = let twice = apart x in grind (arith, nat_tests) in
    let rest : (n : ℕ) → occurrences n xs ≤ 1 = λ n. let all = apart n in elim (cases_eq x n) [
      | inl same ↦ grind (arith, nat_tests)
      | inr differs ↦ grind (arith, nat_tests)
    ] in
    IsDistinct-cons eqb x xs (none_alike x xs none) (apart_distinct xs rest)

member_occurs : (n : ℕ) (xs : List ℕ) → list_any (eqb n) xs ≡ true → 1 ≤ occurrences n xs
member_occurs n [] some = cc
member_occurs n (x ∷ xs) some = elim (cases_eq x n) [
  | inl same ↦ grind (arith, nat_tests)
  | inr differs ↦ let rest : 1 ≤ occurrences n xs = member_occurs n xs (grind (arith, nat_tests)) in grind (arith, nat_tests, rest)
]

-- numbers below a bound of which none occurs twice are no more than the bound
pub few_below : (xs : List ℕ) (bound : ℕ) → ((n : ℕ) → 1 ≤ occurrences n xs → n < bound) → ((n : ℕ) → occurrences n xs ≤ 1) → length xs ≤ bound
few_below xs bound below apart = length-le_from_distinct_below xs bound (apart_distinct xs apart) (λ n some. below n (member_occurs n xs some))
