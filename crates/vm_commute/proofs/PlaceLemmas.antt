-- Lists of which one element is changed, by its place.
use Rattle.std.proofs.Common.{◌≡◌, ℕ, zero, suc, ◌<◌, Bool, true, false, ◌||◌, List, [], ◌∷◌, length, get_or, set, map, refl, ap, arith, true≢false}
use Rattle.std.specs.List.{list_any}

-- the element in place p, changed
abbrev pub changed : {A : Type 0} → A → (A → A) → ℕ → List A → List A
changed d f p xs = set xs p (f (get_or xs p d))

-- two changes, of which each is the same after the other
pub changed_twice : {A : Type 0} (d : A) (f g : A → A) (p k : ℕ) (xs : List A) → (p ≡ k → f (g (get_or xs p d)) ≡ g (f (get_or xs p d))) →
    changed d f p (changed d g k xs) ≡ changed d g k (changed d f p xs)
changed_twice d f g p k [] h = refl
changed_twice d f g zero zero (x ∷ xs) h = ap (λ y. y ∷ xs) (h refl)
changed_twice d f g zero (suc k) (x ∷ xs) h = refl
changed_twice d f g (suc p) zero (x ∷ xs) h = refl
changed_twice d f g (suc p) (suc k) (x ∷ xs) h = ap (λ ys. x ∷ ys) (changed_twice d f g p k xs (λ e. h (ap suc e)))

-- a change of all elements and one of an element, of which each is the same after the other
pub map_changed : {A : Type 0} (d : A) (f g : A → A) (p : ℕ) (xs : List A) → f (g (get_or xs p d)) ≡ g (f (get_or xs p d)) →
    map f (changed d g p xs) ≡ changed d g p (map f xs)
map_changed d f g p [] h = refl
map_changed d f g zero (x ∷ xs) h = ap (λ y. y ∷ map f xs) h
map_changed d f g (suc p) (x ∷ xs) h = ap (λ ys. f x ∷ ys) (map_changed d f g p xs h)

-- what a change of an element keeps of it, it keeps of all
pub changed_keeps : {A B : Type 0} (d : A) (view : A → B) (f : A → A) (p k : ℕ) (xs : List A) → view (f (get_or xs p d)) ≡ view (get_or xs p d) →
    view (get_or (changed d f p xs) k d) ≡ view (get_or xs k d)
changed_keeps d view f p k [] h = refl
changed_keeps d view f zero zero (x ∷ xs) h = h
changed_keeps d view f zero (suc k) (x ∷ xs) h = refl
changed_keeps d view f (suc p) zero (x ∷ xs) h = refl
changed_keeps d view f (suc p) (suc k) (x ∷ xs) h = changed_keeps d view f p k xs h

-- the lists that two functions make of one are the same where their values are
pub map_alike : {A B : Type 0} (f g : A → B) (xs : List A) → ((x : A) → f x ≡ g x) → map f xs ≡ map g xs
map_alike f g [] h = refl
map_alike f g (x ∷ xs) h = rw (h x, map_alike f g xs h) refl

-- a test of some element of a list that a function made
pub any_map : {A B : Type 0} (f : A → B) (test : B → Bool) (other : A → Bool) (xs : List A) → ((x : A) → test (f x) ≡ other x) →
    list_any test (map f xs) ≡ list_any other xs
any_map f test other [] h = refl
any_map f test other (x ∷ xs) h = rw (h x, any_map f test other xs h) refl

neither : (a b : Bool) → (a || b) ≡ false → (a ≡ false) × (b ≡ false)
neither true b h = absurd (true≢false h)
neither false b h = (refl, h)

-- where no element passes, each fails
pub any_none : {A : Type 0} (test : A → Bool) (xs : List A) (k : ℕ) (d : A) → list_any test xs ≡ false → k < length xs → test (get_or xs k d) ≡ false
any_none test [] k d none within = absurd (omega (arith, within))
any_none test (x ∷ xs) zero d none within = (neither (test x) (list_any test xs) none).0
any_none test (x ∷ xs) (suc k) d none within = any_none test xs k d (neither (test x) (list_any test xs) none).1 (omega (arith, within))
