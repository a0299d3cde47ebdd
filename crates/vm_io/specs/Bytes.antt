-- What became of the bytes that a source had left and a sink held. An outside that doesn't tell its
-- bytes has None there, before and after.
use Rattle.std.specs.Prelude.{◌≡◌, ℕ, ◌-◌, ◌<◌, List, [], ◌++◌, length, take, Option, None, Some, IfSome}

-- known bytes with more of them in front
abbrev pub preceded_by : Option (List ℕ) → List ℕ → Option (List ℕ)
preceded_by None bytes = None
preceded_by (Some known) bytes = Some (bytes ++ known)

-- known bytes with more of them behind
abbrev pub followed_by : Option (List ℕ) → List ℕ → Option (List ℕ)
followed_by None bytes = None
followed_by (Some known) bytes = Some (known ++ bytes)

-- the bytes came: they stood at the front of what was left, and the rest is left
abbrev pub WasRead : Option (List ℕ) → Option (List ℕ) → List ℕ → Type 0
WasRead old new bytes = old ≡ preceded_by new bytes

-- some bytes came, or none: what is left now is the end of what was left
abbrev pub SomeRead : Option (List ℕ) → Option (List ℕ) → Type 0
SomeRead old new = (bytes : List ℕ) × WasRead old new bytes

-- no byte is left, where the source tells
abbrev pub NothingLeft : Option (List ℕ) → Type 0
NothingLeft left = IfSome left (λ bytes. bytes ≡ [])

-- how many bytes came: what is left shrank by so many
abbrev pub count_read : Option (List ℕ) → Option (List ℕ) → ℕ
count_read (Some old) (Some new) = length old - length new
count_read (Some old) None = 0
count_read None new = 0

-- the bytes went out: they stand behind what was held
abbrev pub WasAppended : Option (List ℕ) → Option (List ℕ) → List ℕ → Type 0
WasAppended old new bytes = new ≡ followed_by old bytes

-- a part of the bytes went out: some from their front, or none, and never all
abbrev pub PartAppended : Option (List ℕ) → Option (List ℕ) → List ℕ → Type 0
PartAppended old new bytes = (n : ℕ) × (n < length bytes) × WasAppended old new (take n bytes)
