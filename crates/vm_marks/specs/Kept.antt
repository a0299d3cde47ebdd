-- How marks are kept: the count of the numbers, and the marked ones in rising order.
use Rattle.std.specs.Prelude.{ℕ, zero, suc, ◌≡◌, ◌<◌, ◌≤◌, ◌+◌, ◌==◌, if◌then◌else◌, Bool, true, false, List, [], ◌∷◌, length, slice_index}
use Rattle.vm_marks.specs.Marks.{places_from}

-- the flags of so many numbers, from n on, of which these are marked
abbrev pub flags_from : ℕ → ℕ → List ℕ → List Bool
flags_from n zero marked = []
flags_from n (suc count) [] = false ∷ flags_from (n + 1) count []
flags_from n (suc count) (m ∷ marked) =
    if m == n then true ∷ flags_from (n + 1) count marked
    else false ∷ flags_from (n + 1) count (m ∷ marked)

-- the marked numbers rise, and are below the count: they are the places of their own flags
abbrev pub AreMarks : ℕ → List ℕ → Type 0
AreMarks count marked = places_from 0 (flags_from 0 count marked) ≡ marked

-- numbers rise
abbrev pub Rise : List ℕ → Type 0
Rise ms = (i j : ℕ) → i ≤ j → j < length ms → slice_index ms i ≤ slice_index ms j

-- A number stands at a place; or it would stand there, between those below it and those above.
abbrev pub IsAt : List ℕ → ℕ → ℕ → Type 0
IsAt ms number place = (place < length ms) × (slice_index ms place ≡ number)

abbrev pub IsBetween : List ℕ → ℕ → ℕ → Type 0
IsBetween ms number place =
    (place ≤ length ms)
    × ((k : ℕ) → k < place → slice_index ms k < number)
    × ((k : ℕ) → place ≤ k → k < length ms → number < slice_index ms k)
