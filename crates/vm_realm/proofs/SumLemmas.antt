-- Sums over lists in which one element is exchanged.
use Rattle.std.proofs.Common.{◌≡◌, ℕ, ◌+◌, ◌<◌, ◌≤◌, Bool, true, false, List, [], ◌∷◌, Option, Some, None, length, get_or, set, refl, ap, ◌∙◌, arith, inl, inr}
use Rattle.std.specs.Prelude.{sum_by}
use Rattle.std.specs.List.{filter_map, cons_option}
use Rattle.std.proofs.lemmas.Bool.{cases_lt}
use Rattle.std.proofs.lemmas.List.{set_past, get_or_past}
use Rattle.std.proofs.lemmas.List.Sums.{sum_by-cons, sum_by-set}

-- it rises by no more than the element does
pub sum_set_few : {A : Type 0} (f : A → ℕ) (xs : List A) (i k : ℕ) (y d : A) → f y ≤ f (get_or xs i d) + k → sum_by f (set xs i y) ≤ sum_by f xs + k
sum_set_few f xs i k y d few = elim (cases_lt i (length xs)) [ inl within ↦ omega (arith, few, sum_by-set f xs i y d within) | inr past ↦ omega (arith, ap (sum_by f) (set_past xs i y past)) ]

-- and falls with it
pub sum_set_falls : {A : Type 0} (f : A → ℕ) (xs : List A) (i k : ℕ) (y d : A) → i < length xs → f y + k ≤ f (get_or xs i d) → sum_by f (set xs i y) + k ≤ sum_by f xs
sum_set_falls f xs i k y d within less = omega (arith, less, sum_by-set f xs i y d within)

-- ---- how many there are of what may be there

abbrev pub one_in : {A : Type 0} → Option A → ℕ
one_in None = 0
one_in (Some x) = 1

pub one_most : {A : Type 0} (o : Option A) → one_in o ≤ 1
one_most None = omega arith
one_most (Some x) = omega arith

counted_first : {A : Type 0} (o : Option A) (xs : List A) → length (cons_option o xs) ≡ one_in o + length xs
counted_first None xs = omega arith
counted_first (Some x) xs = omega arith

pub count_mapped : {A B : Type 0} (f : A → Option B) (xs : List A) → length (filter_map f xs) ≡ sum_by (λ x. one_in (f x)) xs
count_mapped f [] = refl
count_mapped f (x ∷ xs) = omega (arith, counted_first (f x) (filter_map f xs), count_mapped f xs, sum_by-cons (λ x. one_in (f x)) x xs)

-- ---- places

pub place_within : {A : Type 0} (test : A → Bool) (xs : List A) (i : ℕ) (d : A) → test d ≡ false → test (get_or xs i d) ≡ true → i < length xs
place_within test xs i d none passes =
    elim (cases_lt i (length xs)) [ inl within ↦ within | inr past ↦ absurd (let not : test (get_or xs i d) ≡ false = ap test (get_or_past xs i d past) ∙ none in cc) ]
