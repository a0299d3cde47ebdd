-- Lemmas on how often a number stands in a list.
use Rattle.std.proofs.Common.{◌≡◌, ◌≢◌, ℕ, ◌+◌, List, [], ◌∷◌, ◌++◌, arith}
use Rattle.std.proofs.lemmas.Bool.Decides.{nat_tests}
use Rattle.vm_mem.specs.Lists.{occurrences}

pub occurrences-append : (n : ℕ) (xs ys : List ℕ) → occurrences n (xs ++ ys) ≡ occurrences n xs + occurrences n ys
occurrences-append n [] ys = omega arith
occurrences-append n (x ∷ xs) ys = grind (arith, nat_tests, occurrences-append n xs ys)

pub occurrences-one : (n : ℕ) → occurrences n (n ∷ []) ≡ 1
occurrences-one n = grind (arith, nat_tests)

pub occurrences-other : (n m : ℕ) → n ≢ m → occurrences n (m ∷ []) ≡ 0
occurrences-other n m differs = grind (arith, nat_tests)
