-- Lemmas on lists: an element that is set, and elements by which two lists don't differ.
use Rattle.std.proofs.Common.{◌≡◌, ◌≢◌, ℕ, zero, suc, ◌+◌, ◌<◌, ◌≤◌, List, [], ◌∷◌, length, map, set, get_or, slice_get, sum_by, Some, Contains, refl, ap, sym, ◌∙◌, arith, inl, inr}
use Rattle.std.proofs.lemmas.Bool.{cases_eq}
use Rattle.std.proofs.lemmas.Bool.Decides.{nat_tests}
use Rattle.std.proofs.lemmas.List.Sums.{sum_by-cons}
use Rattle.vm_mem.specs.Lists.{occurrences}

pub get-set_same : {A : Type 0} (xs : List A) (i : ℕ) (v : A) → i < length xs → slice_get (set xs i v) i ≡ Some v
get-set_same [] i v within = absurd (omega (arith, within))
get-set_same (x ∷ xs) zero v within = refl
get-set_same (x ∷ xs) (suc i) v within = get-set_same xs i v (omega (arith, within))

pub get-set_other : {A : Type 0} (xs : List A) (i k : ℕ) (v : A) → k ≢ i → slice_get (set xs i v) k ≡ slice_get xs k
get-set_other [] i k v other = refl
get-set_other (x ∷ xs) zero zero v other = absurd (other refl)
get-set_other (x ∷ xs) zero (suc k) v other = refl
get-set_other (x ∷ xs) (suc i) zero v other = refl
get-set_other (x ∷ xs) (suc i) (suc k) v other = get-set_other xs i k v (λ same. other (ap suc same))

-- how often a number stands in a list
pub occurs : (n : ℕ) (xs : List ℕ) → Contains xs n → 1 ≤ occurrences n xs
occurs n xs (k, within, found) = at_place xs k within found
  where
    at_place : (xs : List ℕ) (k : ℕ) → k < length xs → get_or xs k n ≡ n → 1 ≤ occurrences n xs
    at_place [] k within found = omega (arith, within)
    at_place (x ∷ xs) zero within found = grind (arith, nat_tests)
    at_place (x ∷ xs) (suc k) within found = let later : 1 ≤ occurrences n xs = at_place xs k (omega (arith, within)) found in grind (arith, nat_tests, later)

-- functions that agree but at one number, which doesn't stand in a list, agree on the list
pub map_apart : {B : Type 0} (f g : ℕ → B) (n : ℕ) (xs : List ℕ) → ((x : ℕ) → x ≢ n → f x ≡ g x) → occurrences n xs ≡ 0 → map f xs ≡ map g xs
map_apart f g n [] same none = refl
map_apart f g n (x ∷ xs) same none = elim (cases_eq x n) [
  | inl equal ↦ absurd (grind (arith, nat_tests, none))
  | inr differs ↦
      let rest : occurrences n xs ≡ 0 = grind (arith, nat_tests, none) in
      rw (same x differs, map_apart f g n xs same rest) refl
]

pub sum_apart : (f g : ℕ → ℕ) (n : ℕ) (xs : List ℕ) → ((x : ℕ) → x ≢ n → f x ≡ g x) → occurrences n xs ≡ 0 → sum_by f xs ≡ sum_by g xs
sum_apart f g n [] same none = refl
sum_apart f g n (x ∷ xs) same none = elim (cases_eq x n) [
  | inl equal ↦ absurd (grind (arith, nat_tests, none))
  | inr differs ↦
      let rest : occurrences n xs ≡ 0 = grind (arith, nat_tests, none) in
      let here = same x differs in
      let later = sum_apart f g n xs same rest in
      let left = sum_by-cons f x xs in
      let right = sum_by-cons g x xs in
      omega (arith, here, later, left, right)
]

-- functions that agree on what stands in a list
pub map_same : {B : Type 0} (f g : ℕ → B) (xs : List ℕ) → ((x : ℕ) → 1 ≤ occurrences x xs → f x ≡ g x) → map f xs ≡ map g xs
map_same f g [] same = refl
map_same f g (x ∷ xs) same =
    let here : f x ≡ g x = same x (grind (arith, nat_tests)) in
    rw (here, map_same f g xs (λ y there. same y (more x y xs there))) refl
  where
    more : (x y : ℕ) (xs : List ℕ) → 1 ≤ occurrences y xs → 1 ≤ occurrences y (x ∷ xs)
    more x y xs there = grind (arith, nat_tests, there)

pub sum_same : (f g : ℕ → ℕ) (xs : List ℕ) → ((x : ℕ) → 1 ≤ occurrences x xs → f x ≡ g x) → sum_by f xs ≡ sum_by g xs
sum_same f g [] same = refl
sum_same f g (x ∷ xs) same =
    let here : f x ≡ g x = same x (grind (arith, nat_tests)) in
    let later = sum_same f g xs (λ y there. same y (more x y xs there)) in
    let left = sum_by-cons f x xs in
    let right = sum_by-cons g x xs in
    omega (arith, here, later, left, right)
  where
    more : (x y : ℕ) (xs : List ℕ) → 1 ≤ occurrences y xs → 1 ≤ occurrences y (x ∷ xs)
    more x y xs there = grind (arith, nat_tests, there)

-- numbers that are all positive on what stands in a list
pub length_le_sum : (f : ℕ → ℕ) (xs : List ℕ) → ((x : ℕ) → 1 ≤ occurrences x xs → 1 ≤ f x) → length xs ≤ sum_by f xs
length_le_sum f [] some = omega arith
length_le_sum f (x ∷ xs) some =
    let here : 1 ≤ f x = some x (grind (arith, nat_tests)) in
    let later = length_le_sum f xs (λ y there. some y (more x y xs there)) in
    let left = sum_by-cons f x xs in
    omega (arith, here, later, left)
  where
    more : (x y : ℕ) (xs : List ℕ) → 1 ≤ occurrences y xs → 1 ≤ occurrences y (x ∷ xs)
    more x y xs there = grind (arith, nat_tests, there)

-- the same with a key
pub map_key_apart : {A B : Type 0} (key : A → ℕ) (f g : A → B) (n : ℕ) (xs : List A) → ((x : A) → key x ≢ n → f x ≡ g x) → occurrences n (map key xs) ≡ 0 → map f xs ≡ map g xs
map_key_apart key f g n [] same none = refl
map_key_apart key f g n (x ∷ xs) same none = elim (cases_eq (key x) n) [
  | inl equal ↦ absurd (grind (arith, nat_tests, none))
  | inr differs ↦
      let rest : occurrences n (map key xs) ≡ 0 = grind (arith, nat_tests, none) in
      rw (same x differs, map_key_apart key f g n xs same rest) refl
]

pub sum_by-map : {A B : Type 0} (g : B → ℕ) (f : A → B) (xs : List A) → sum_by g (map f xs) ≡ sum_by (λ x. g (f x)) xs
sum_by-map g f [] = refl
sum_by-map g f (x ∷ xs) = sum_by-cons g (f x) (map f xs) ∙ (ap (λ n. g (f x) + n) (sum_by-map g f xs) ∙ sym (sum_by-cons (λ x. g (f x)) x xs))
