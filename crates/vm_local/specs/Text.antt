-- The short texts that calls carry, as lists of bytes.
use Rattle.std.specs.Prelude.{ℕ, List, length, Option, None, Some, if◌then◌else◌, ◌||◌, nat_lt, ◌==◌}

-- the name with these bytes: there is one where they are 1 to 8
abbrev pub name_of : List ℕ → Option (List ℕ)
name_of bytes = if (length bytes == 0) || nat_lt 8 (length bytes) then None else Some bytes

-- the payload of a read or a write with these bytes: there is one where they are at most 256
abbrev pub small_of : List ℕ → Option (List ℕ)
small_of bytes = if nat_lt 256 (length bytes) then None else Some bytes
