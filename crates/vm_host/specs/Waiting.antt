-- Lists in which each element has a number, kept by rising number.
use Rattle.std.specs.Prelude.{ℕ, ◌==◌, nat_lt, if◌then◌else◌, List, [], ◌∷◌, find, Option}

-- with one element more, behind those with lower numbers
abbrev pub put_in : {A : Type 0} → (A → ℕ) → A → List A → List A
put_in number x [] = x ∷ []
put_in number x (y ∷ ys) =
    if nat_lt (number y) (number x) then y ∷ put_in number x ys else x ∷ (y ∷ ys)

-- the first element with a number
abbrev pub found : {A : Type 0} → (A → ℕ) → ℕ → List A → Option A
found number n xs = find (λ x. number x == n) xs

-- without that one
abbrev pub taken_out : {A : Type 0} → (A → ℕ) → ℕ → List A → List A
taken_out number n [] = []
taken_out number n (x ∷ xs) = if number x == n then xs else x ∷ taken_out number n xs
