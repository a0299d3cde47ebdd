-- The places of what passes a test, one after the other.
use Rattle.std.proofs.Common.{ℕ, Bool, List, drop, map}
use Rattle.vm_marks.specs.Marks.{places_from}

-- the places, from a number on, of those that are left
abbrev pub left_places : {A : Type 0} → (A → Bool) → List A → ℕ → List ℕ
left_places test xs n = places_from n (map test (drop n xs))
