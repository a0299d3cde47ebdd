-- What is asked of lists by the crates above.
use Rattle.std.specs.Prelude.{ℕ, ◌+◌, ◌==◌, if◌then◌else◌, Option, Some, None, List, [], ◌∷◌}

abbrev pub first_of : {A : Type 0} → List A → Option A
first_of [] = None
first_of (x ∷ xs) = Some x

-- how often a number stands in a list
abbrev pub occurrences : ℕ → List ℕ → ℕ
occurrences n [] = 0
occurrences n (x ∷ xs) = if x == n then occurrences n xs + 1 else occurrences n xs
