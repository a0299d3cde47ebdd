-- Lemmas on lists: what they contain, and the places of what passes a test.
use Rattle.std.proofs.Common.{◌≡◌, ℕ, zero, suc, ◌+◌, ◌<◌, Bool, true, false, List, [], ◌∷◌, Option, Some, None, is_some, length, get_or, map, refl, sym, ap, ◌∙◌, subst, arith, cond, eqb}
use Rattle.std.specs.List.{All, Contains, filter, find}
use Rattle.std.specs.Prelude.{sum_by}
use Rattle.std.specs.Option.{option_map}
use Rattle.std.proofs.lemmas.Bool.{cond-true, eqb-true, eq-eqb, false≢true}
use Rattle.std.proofs.lemmas.List.{length-map, get_or-map}
use Rattle.std.proofs.lemmas.List.Elements.{All-nil, All-cons}
use Rattle.std.proofs.lemmas.List.Sums.{sum_by-cons}
use Rattle.vm_marks.specs.Marks.{places_from, places_of}

-- ---- what a list contains

pub in_front : {A : Type 0} (x : A) (xs : List A) → Contains (x ∷ xs) x
in_front x xs = (0, omega arith, refl)

pub behind_first : {A : Type 0} (x y : A) (xs : List A) → Contains xs y → Contains (x ∷ xs) y
behind_first x y xs there = (suc there.0, omega (arith, there.1), there.2)

pub contains_map : {A B : Type 0} (f : A → B) (xs : List A) (x : A) → Contains xs x → Contains (map f xs) (f x)
contains_map f xs x there =
    let within : there.0 < length (map f xs) = rw (length-map xs f) there.1 in
    (there.0, within, get_or-map f xs there.0 x (f x) there.1 ∙ ap f there.2)

filter_rest : {A : Type 0} (y x : A) (b : Bool) (ys : List A) → Contains ys x → Contains (cond b (y ∷ ys) ys) x
filter_rest y x true ys rest = behind_first y x ys rest
filter_rest y x false ys rest = rest

pub contains_filter : {A : Type 0} (test : A → Bool) (xs : List A) (x : A) → test x ≡ true → Contains xs x → Contains (filter test xs) x
contains_filter test [] x passes there = absurd (omega (arith, there.1))
contains_filter test (y ∷ ys) x passes (zero, within, is) =
    let here : test y ≡ true = ap test is ∙ passes in
    rw (cond-true (test y) (y ∷ filter test ys) (filter test ys) here) (subst (λ z. Contains (y ∷ filter test ys) z) is (in_front y (filter test ys)))
contains_filter test (y ∷ ys) x passes (suc k, within, is) =
    filter_rest y x (test y) (filter test ys) (contains_filter test ys x passes (k, omega (arith, within), is))

-- ---- what is found

found_first : {A : Type 0} (number : A → ℕ) (n : ℕ) (x : A) (xs : List A) (b : Bool) → eqb (number x) n ≡ b → is_some (cond b (Some x) (find (λ y. eqb (number y) n) xs)) ≡ true
    → (is_some (find (λ y. eqb (number y) n) xs) ≡ true → Contains (map number xs) n) → Contains (number x ∷ map number xs) n
found_first number n x xs true is found rest = subst (λ z. Contains (number x ∷ map number xs) z) (eqb-true (number x) n is) (in_front (number x) (map number xs))
found_first number n x xs false is found rest = behind_first (number x) n (map number xs) (rest found)

pub found_in : {A : Type 0} (number : A → ℕ) (n : ℕ) (xs : List A) → is_some (find (λ x. eqb (number x) n) xs) ≡ true → Contains (map number xs) n
found_in number n [] found = absurd (false≢true found)
found_in number n (x ∷ xs) found = found_first number n x xs (eqb (number x) n) refl found (found_in number n xs)

find_rest : {A : Type 0} (x : A) (b : Bool) (o : Option A) → is_some o ≡ true → is_some (cond b (Some x) o) ≡ true
find_rest x true o rest = refl
find_rest x false o rest = rest

pub finds_in : {A : Type 0} (number : A → ℕ) (n : ℕ) (xs : List A) → Contains (map number xs) n → is_some (find (λ x. eqb (number x) n) xs) ≡ true
finds_in number n [] there = absurd (omega (arith, there.1))
finds_in number n (x ∷ xs) (zero, within, is) = ap is_some (cond-true (eqb (number x) n) (Some x) (find (λ y. eqb (number y) n) xs) (eq-eqb (number x) n is))
finds_in number n (x ∷ xs) (suc k, within, is) =
    find_rest x (eqb (number x) n) (find (λ y. eqb (number y) n) xs) (finds_in number n xs (k, omega (arith, within), is))

pub some_mapped : {A B : Type 0} (f : A → B) (o : Option A) → is_some (option_map f o) ≡ is_some o
some_mapped f None = refl
some_mapped f (Some x) = refl

-- ---- the places of what passes a test

pub tested_at : {A : Type 0} (test : A → Bool) (d : A) → test d ≡ false → (xs : List A) (i : ℕ) → get_or (map test xs) i false ≡ test (get_or xs i d)
tested_at test d fails [] i = sym fails
tested_at test d fails (x ∷ xs) zero = refl
tested_at test d fails (x ∷ xs) (suc i) = tested_at test d fails xs i

place_in : (n : ℕ) (fs : List Bool) (i : ℕ) → get_or fs i false ≡ true → Contains (places_from n fs) (n + i)
place_in n [] i flag = absurd (false≢true flag)
place_in n (true ∷ fs) zero flag =
    let here : n ≡ n + 0 = omega arith in
    subst (λ k. Contains (n ∷ places_from (n + 1) fs) k) here (in_front n (places_from (n + 1) fs))
place_in n (false ∷ fs) zero flag = absurd (false≢true flag)
place_in n (true ∷ fs) (suc i) flag =
    let same : (n + 1) + i ≡ n + suc i = omega arith in
    behind_first n (n + suc i) (places_from (n + 1) fs) (subst (λ k. Contains (places_from (n + 1) fs) k) same (place_in (n + 1) fs i flag))
place_in n (false ∷ fs) (suc i) flag =
    let same : (n + 1) + i ≡ n + suc i = omega arith in
    subst (λ k. Contains (places_from (n + 1) fs) k) same (place_in (n + 1) fs i flag)

all_places : (P : ℕ → Type 0) (n : ℕ) (fs : List Bool) → ((i : ℕ) → get_or fs i false ≡ true → P (n + i)) → All P (places_from n fs)
all_places P n [] each = All-nil P
all_places P n (true ∷ fs) each =
    let here : n + 0 ≡ n = omega arith in
    let next : (i : ℕ) → n + suc i ≡ (n + 1) + i = λ i. omega arith in
    All-cons P n (places_from (n + 1) fs) (subst P here (each 0 refl)) (all_places P (n + 1) fs (λ i flag. subst P (next i) (each (suc i) flag)))
all_places P n (false ∷ fs) each =
    let next : (i : ℕ) → n + suc i ≡ (n + 1) + i = λ i. omega arith in
    all_places P (n + 1) fs (λ i flag. subst P (next i) (each (suc i) flag))

pub placed : (fs : List Bool) (i : ℕ) → get_or fs i false ≡ true → Contains (places_of fs) i
placed fs i flag = let same : 0 + i ≡ i = omega arith in subst (λ k. Contains (places_of fs) k) same (place_in 0 fs i flag)

pub all_placed : (P : ℕ → Type 0) (fs : List Bool) → ((i : ℕ) → get_or fs i false ≡ true → P i) → All P (places_of fs)
all_placed P fs each = all_places P 0 fs (λ i flag. let same : i ≡ 0 + i = omega arith in subst P same (each i flag))

-- ---- sums

pub sums_alike : {A B : Type 0} (f : A → ℕ) (g : B → ℕ) (xs : List A) (ys : List B) (d : A) (e : B) → length xs ≡ length ys
    → ((n : ℕ) → n < length xs → f (get_or xs n d) ≡ g (get_or ys n e)) → sum_by f xs ≡ sum_by g ys
sums_alike f g [] [] d e same each = refl
sums_alike f g [] (y ∷ ys) d e same each = absurd (omega (arith, same))
sums_alike f g (x ∷ xs) [] d e same each = absurd (omega (arith, same))
sums_alike f g (x ∷ xs) (y ∷ ys) d e same each =
    let rest = sums_alike f g xs ys d e (omega (arith, same)) (λ n within. each (suc n) (omega (arith, within))) in
    omega (arith, sum_by-cons f x xs, sum_by-cons g y ys, rest, each 0 (omega arith))
