-- The bytes of a record, which is a list of fields, each with its offset, its width and what it
-- holds.
use Rattle.std.specs.Prelude.{◌≡◌, ◌≤◌, ◌<◌, ◌+◌, ◌-◌, ◌^◌, ℕ, List, [], ◌∷◌, ◌++◌, length, take, drop, replicate}
use Rattle.std.specs.Int.{to_le_bytes, from_le_bytes, w32, w64}
use Rattle.v4l_layout.specs.declared.field.Field.{Field}
use Rattle.v4l_layout.specs.declared.field.Value.{Value}
use Rattle.v4l_layout.specs.declared.field.Value.TheVariants.{Byte, Le32, Le64, Bytes16, Bytes32, Bytes64}

-- how many bytes a value takes
abbrev pub width : Value → ℕ
width (Byte n) = 1
width (Le32 n) = 4
width (Le64 n) = 8
width (Bytes16 bs) = 16
width (Bytes32 bs) = 32
width (Bytes64 bs) = 64

-- these bytes; those of a number are the lowest first
abbrev pub bytes_of : Value → List ℕ
bytes_of (Byte n) = n ∷ []
bytes_of (Le32 n) = to_le_bytes w32 n
bytes_of (Le64 n) = to_le_bytes w64 n
bytes_of (Bytes16 bs) = bs
bytes_of (Bytes32 bs) = bs
bytes_of (Bytes64 bs) = bs

-- a record's bytes from a place to its end: those of the fields, and zero elsewhere
abbrev pub layout_from : ℕ → ℕ → List Field → List ℕ
layout_from size at [] = replicate (size - at) 0
layout_from size at (f ∷ fs) =
    replicate (f.at - at) 0 ++ (bytes_of f.value ++ layout_from size (f.at + width f.value) fs)

-- the bytes of a record of a size
abbrev pub layout_bytes : ℕ → List Field → List ℕ
layout_bytes size fields = layout_from size 0 fields

-- bytes that hold a value
abbrev pub Holds : List ℕ → Value → Type 0
Holds piece (Byte n) = piece ≡ n ∷ []
Holds piece (Le32 n) = from_le_bytes w32 piece ≡ n
Holds piece (Le64 n) = from_le_bytes w64 piece ≡ n
Holds piece (Bytes16 bs) = piece ≡ bs
Holds piece (Bytes32 bs) = piece ≡ bs
Holds piece (Bytes64 bs) = piece ≡ bs

-- bytes read as a record where each of its fields has its value, whatever the other bytes are
abbrev pub ReadsAs : List ℕ → List Field → Type 0
ReadsAs bytes [] = Unit
ReadsAs bytes (f ∷ fs) = Holds (take (width f.value) (drop f.at bytes)) f.value × ReadsAs bytes fs

-- a value has the range of its type
abbrev pub IsInType : Value → Type 0
IsInType (Byte n) = n < 2 ^ 8
IsInType (Le32 n) = n < 2 ^ 32
IsInType (Le64 n) = n < 2 ^ 64
IsInType (Bytes16 bs) = length bs ≡ 16
IsInType (Bytes32 bs) = length bs ≡ 32
IsInType (Bytes64 bs) = length bs ≡ 64

-- the fields stand in order behind a place, none over another, all in the record
abbrev pub IsLaid : ℕ → ℕ → List Field → Type 0
IsLaid size at [] = at ≤ size
IsLaid size at (f ∷ fs) = (at ≤ f.at) × IsInType f.value × IsLaid size (f.at + width f.value) fs

-- bytes read as at most one record of a kind
abbrev pub HasOneReading : {R : Type 0} → (R → List Field) → Type 0
HasOneReading {R} fields =
    (bytes : List ℕ) (r s : R) → ReadsAs bytes (fields r) → ReadsAs bytes (fields s) → r ≡ s
