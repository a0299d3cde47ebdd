-- The places of names, and how they are found: each by a key of its own.
use Rattle.std.specs.Prelude.{ℕ, ◌≡◌, ◌<◌, ◌≤◌, ◌+◌, ◌-◌, ◌++◌, List, [], ◌∷◌, length, replicate, slice_index_or, Option, Some, None, if◌then◌else◌}
use Rattle.std.specs.BTreeMap.{is_at}
use Rattle.std.specs.Int.{from_le_bytes, w64}
use Rattle.std.specs.Map.{lookup}
use Rattle.std.specs.Ordering.{nat_cmp, ordering_then}
use Rattle.std.specs.Str.{bytes_eq}
use Rattle.std.specs.declared.cmp.Ordering.{Ordering}

-- the place of the first name that is the word, from this place on
abbrev pub place_from : ℕ → List ℕ → List (List ℕ) → Option ℕ
place_from at word [] = None
place_from at word (name ∷ names) =
    if bytes_eq name word then Some at else place_from (at + 1) word names

-- at most 8 bytes
pub record IsShort (word : List ℕ) : Type 0 where
  pub within : length word ≤ 8
  pub bytes : (i : ℕ) → slice_index_or word i 0 < 256

-- a name's bytes with zeros behind them, as a little-endian number, and its length
abbrev pub key_of : List ℕ → ℕ × ℕ
key_of name = (from_le_bytes w64 (name ++ replicate (8 - length name) 0), length name)

-- by the first number, and by the second where the first are equal
abbrev pub key_cmp : ℕ × ℕ → ℕ × ℕ → Ordering
key_cmp k l = ordering_then (nat_cmp k.0 l.0) (nat_cmp k.1 l.1)

-- the table has, at the key of each word of at most 8 bytes, the place of the first name that is
-- the word, and nothing where there is none
abbrev pub FindsPlaces : List (List ℕ) → List ((ℕ × ℕ) × ℕ) → Type 0
FindsPlaces names places =
    (word : List ℕ) → IsShort word →
    lookup (is_at (key_cmp (key_of word))) places ≡ place_from 0 word names
