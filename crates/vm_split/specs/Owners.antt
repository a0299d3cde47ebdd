-- The driver's record of which chain each descriptor lies in: for each descriptor its chain's head,
-- or none. So no descriptor lies in two chains.
use Rattle.std.specs.Prelude.{ℕ, suc, zero, ◌+◌, Bool, false, ◌==◌, if◌then◌else◌, List, [], ◌∷◌, length, map, slice_index, Option, Some, None, is_none}
use Rattle.vm_link.specs.declared.parcel.Finished.{Finished}

-- the places of those that pass, where the first stands at `at`
abbrev pub places_from : (Option ℕ → Bool) → ℕ → List (Option ℕ) → List ℕ
places_from passes at [] = []
places_from passes at (o ∷ os) =
    if passes o then at ∷ places_from passes (at + 1) os
    else places_from passes (at + 1) os

abbrev pub is_free : Option ℕ → Bool
is_free o = is_none o

abbrev pub is_of : ℕ → Option ℕ → Bool
is_of head None = false
is_of head (Some owner) = owner == head

-- the free descriptors, the lowest first
abbrev pub free_places : List (Option ℕ) → List ℕ
free_places owners = places_from is_free 0 owners

-- the descriptors of the chain with this head, the lowest first
abbrev pub places_of : ℕ → List (Option ℕ) → List ℕ
places_of head owners = places_from (is_of head) 0 owners

-- how many descriptors the chain with this head has
abbrev pub count_of : List (Option ℕ) → ℕ → ℕ
count_of owners head = length (places_of head owners)

-- the lowest `count` free descriptors lie in the chain with this head
abbrev pub handed_out : ℕ → ℕ → List (Option ℕ) → List (Option ℕ)
handed_out zero head owners = owners
handed_out (suc count) head [] = []
handed_out (suc count) head (None ∷ os) = Some head ∷ handed_out count head os
handed_out (suc count) head (Some owner ∷ os) = Some owner ∷ handed_out (suc count) head os

-- the descriptors of the chain with this head are free
abbrev pub taken_back : ℕ → List (Option ℕ) → List (Option ℕ)
taken_back head owners = map (λ o. if is_of head o then None else o) owners

-- where a chain is collected, its descriptors are free
abbrev pub freed : Option Finished → List (Option ℕ) → List (Option ℕ)
freed None owners = owners
freed (Some done) owners = taken_back done.head owners

-- The lowest `count` free descriptors lie in a chain of their own, and the lowest of them is its
-- head.
abbrev pub lowest_handed_out : ℕ → List (Option ℕ) → List (Option ℕ)
lowest_handed_out count owners = handed_out count (slice_index (free_places owners) 0) owners
