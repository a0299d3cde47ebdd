-- Which of the numbers below a count are marked. Source: own.
use Rattle.std.specs.Prelude.{ℕ, ◌+◌, Bool, true, false, List, [], ◌∷◌}

-- A flag for each number from 0 on, true where the number is marked, and for how many further
-- numbers there is memory.
pub record MarkState : Type 0 where
  pub flags : List Bool
  pub room : ℕ

-- the places of the flags that are true, where the first flag's place is n
abbrev pub places_from : ℕ → List Bool → List ℕ
places_from n [] = []
places_from n (true ∷ flags) = n ∷ places_from (n + 1) flags
places_from n (false ∷ flags) = places_from (n + 1) flags

-- the marked numbers, in rising order
abbrev pub places_of : List Bool → List ℕ
places_of flags = places_from 0 flags
