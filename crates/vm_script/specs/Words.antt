-- Lines and words, and what a word may be: a name, a number, a picture format's code.
use Rattle.std.specs.Prelude.{ℕ, ◌≡◌, ◌==◌, ◌&&◌, ◌||◌, ◌+◌, ◌-◌, ◌*◌, not, nat_le, Bool, true, false, List, [], ◌∷◌, length, filter, Option, Some, None, if◌then◌else◌}
use Rattle.std.specs.Int.{from_le_bytes, w32}
use Rattle.std.specs.List.{join_with_byte, list_all}

-- ---- lines and words

abbrev pub onto_first : ℕ → List (List ℕ) → List (List ℕ)
onto_first b [] = (b ∷ []) ∷ []
onto_first b (piece ∷ pieces) = (b ∷ piece) ∷ pieces

-- the pieces between the bytes that part them
abbrev pub pieces_by : (ℕ → Bool) → List ℕ → List (List ℕ)
pieces_by parts [] = [] ∷ []
pieces_by parts (b ∷ bs) =
    if parts b then [] ∷ pieces_by parts bs else onto_first b (pieces_by parts bs)

-- a newline
abbrev pub ends_line : ℕ → Bool
ends_line b = b == 10

-- a space, a tab or a carriage return
abbrev pub parts_words : ℕ → Bool
parts_words b = (b == 32) || (b == 9) || (b == 13)

abbrev pub is_empty : List ℕ → Bool
is_empty [] = true
is_empty (b ∷ bs) = false

-- The lines of bytes. Where the last one ends at a newline, an empty one follows, which has no
-- words.
abbrev pub lines_in : List ℕ → List (List ℕ)
lines_in bytes = pieces_by ends_line bytes

abbrev pub words_in : List ℕ → List (List ℕ)
words_in line = filter (λ w. not (is_empty w)) (pieces_by parts_words line)

-- the words of one line, joined by one space
abbrev pub IsEcho : List ℕ → Type 0
IsEcho text = (lines_in text ≡ text ∷ []) × (join_with_byte 32 (words_in text) ≡ text)

-- the line begins with a number sign
abbrev pub is_comment : List ℕ → Bool
is_comment [] = false
is_comment (b ∷ bs) = b == 35

-- a line without words, and one that begins with a number sign, is skipped
abbrev pub is_skipped : List ℕ → Bool
is_skipped line = is_comment line || is_no_words (words_in line)
  where
    is_no_words : List (List ℕ) → Bool
    is_no_words [] = true
    is_no_words (w ∷ ws) = false

-- ---- names

abbrev pub is_lower : ℕ → Bool
is_lower b = nat_le 97 b && nat_le b 122

abbrev pub is_digit : ℕ → Bool
is_digit b = nat_le 48 b && nat_le b 57

abbrev pub begins_lower : List ℕ → Bool
begins_lower [] = false
begins_lower (b ∷ bs) = is_lower b

-- 1 to 8 lower-case letters and digits, a letter first
abbrev pub is_name : List ℕ → Bool
is_name word =
    begins_lower word && list_all (λ b. is_lower b || is_digit b) word && nat_le (length word) 8

abbrev pub name_in : List ℕ → Option (List ℕ)
name_in word = if is_name word then Some word else None

-- ---- numbers

-- a number with these digits behind its own
abbrev pub number_after : ℕ → List ℕ → ℕ
number_after n [] = n
number_after n (b ∷ bs) = number_after (10 * n + (b - 48)) bs

-- 1 to so many decimal digits
abbrev pub is_digits : ℕ → List ℕ → Bool
is_digits most word = nat_le 1 (length word) && nat_le (length word) most && list_all is_digit word

-- the number that a word of 1 to so many decimal digits writes, where it is at most the limit
abbrev pub number_in : ℕ → ℕ → List ℕ → Option ℕ
number_in most limit word =
    if is_digits most word && nat_le (number_after 0 word) limit then Some (number_after 0 word)
    else None

-- ---- codes

abbrev pub is_visible : ℕ → Bool
is_visible b = nat_le 33 b && nat_le b 126

-- a picture format's code: four visible bytes, as a little-endian number
abbrev pub code_in : List ℕ → Option ℕ
code_in word =
    if (length word == 4) && list_all is_visible word then Some (from_le_bytes w32 word) else None
