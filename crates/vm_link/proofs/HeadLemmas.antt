-- Lemmas on how often a number stands in a list.
use Rattle.std.proofs.Common.{◌≡◌, ℕ, zero, suc, ◌+◌, ◌<◌, ◌≤◌, List, [], ◌∷◌, ◌++◌, length, get_or, Contains, refl, arith, inl, inr}
use Rattle.std.specs.List.{range_with_len}
use Rattle.std.proofs.lemmas.Grind.{common_steps}
use Rattle.std.proofs.lemmas.Bool.{cases_eq}
use Rattle.std.proofs.lemmas.Bool.Decides.{nat_tests}
use Rattle.vm_mem.specs.Lists.{occurrences}

-- a run of numbers that is longer by one
pub range_more : (a n : ℕ) → range_with_len a (n + 1) ≡ range_with_len a n ++ (a + n) ∷ []
range_more a zero = grind (arith, common_steps)
range_more a (suc n) = grind (arith, common_steps, range_more (a + 1) n)

-- what stands in a list occurs there
pub occurs : (n : ℕ) (xs : List ℕ) → Contains xs n → 1 ≤ occurrences n xs
occurs n xs (k, within, found) = at_place xs k within found
  where
    at_place : (xs : List ℕ) (k : ℕ) → k < length xs → get_or xs k n ≡ n → 1 ≤ occurrences n xs
    at_place [] k within found = omega (arith, within)
    at_place (x ∷ xs) zero within found = grind (arith, nat_tests)
    at_place (x ∷ xs) (suc k) within found = let later : 1 ≤ occurrences n xs = at_place xs k (omega (arith, within)) found in grind (arith, nat_tests, later)

-- what occurs in a list stands there
pub stands : (n : ℕ) (xs : List ℕ) → 1 ≤ occurrences n xs → Contains xs n
stands n [] some = absurd (omega (arith, some))
stands n (x ∷ xs) some = elim (cases_eq x n) [
  | inl same ↦ (zero, omega arith, same)
  | inr differs ↦
      let there : Contains xs n = stands n xs (grind (arith, nat_tests)) in
      (suc there.0, omega (arith, there.1), there.2)
]

-- what doesn't stand in a list doesn't occur there
pub absent : (n : ℕ) (xs : List ℕ) → ¬ Contains xs n → occurrences n xs ≡ 0
absent n [] away = refl
absent n (x ∷ xs) away =
    let later : occurrences n xs ≡ 0 = absent n xs (λ there. away (suc there.0, omega (arith, there.1), there.2)) in
    elim (cases_eq x n) [
      | inl same ↦ absurd (away (zero, omega arith, same))
      | inr differs ↦ grind (arith, nat_tests, later)
    ]

-- a run of numbers has none below it
below : (n a len : ℕ) → n < a → occurrences n (range_with_len a len) ≡ 0
below n a zero less = refl
below n a (suc len) less = let later : occurrences n (range_with_len (a + 1) len) ≡ 0 = below n (a + 1) len (omega (arith, less)) in grind (arith, nat_tests, later)

-- no number occurs twice in a run of numbers
pub once : (n a len : ℕ) → occurrences n (range_with_len a len) ≤ 1
once n a zero = omega arith
once n a (suc len) = elim (cases_eq a n) [
  | inl same ↦ let later : occurrences n (range_with_len (a + 1) len) ≡ 0 = below n (a + 1) len (omega (arith, same)) in grind (arith, nat_tests, later)
  | inr differs ↦ let later : occurrences n (range_with_len (a + 1) len) ≤ 1 = once n (a + 1) len in grind (arith, nat_tests, later)
]
