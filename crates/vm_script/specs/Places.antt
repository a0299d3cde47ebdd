-- What words stand for in their places, and how the forms of a line judge its words.
use Rattle.std.specs.Prelude.{ℕ, ◌-◌, ◌^◌, ◌&&◌, nat_le, List, [], ◌∷◌, ◌++◌, length, map, Option, Some, None, Result, Ok, Err, if◌then◌else◌, codes}
use Rattle.std.specs.Option.{option_map, ok_or}
use Rattle.std.specs.Str.{bytes_eq}
use Rattle.hex.specs.Hex.{decode_of}
use Rattle.hex.specs.declared.error.FromHexError.{FromHexError}
use Rattle.v4l_const.specs.declared.numbers.TheConstants.{BUF_TYPE_CAPTURE, BUF_TYPE_OUTPUT, MEMORY_MMAP, MEMORY_USERPTR}
use Rattle.vm_script.specs.declared.fault.ScriptKind.{ScriptKind}
use Rattle.vm_script.specs.declared.fault.ScriptKind.TheVariants.{Word, Name, Number}
use Rattle.vm_script.specs.Words.{name_in, number_in, code_in}

-- ---- places

-- What a word is wanted for: the name of a mapping or of user memory, a buffer type, a kind of
-- memory, any number, a number from one to another, a picture format's code, bytes, or just this
-- word.
pub data Place : Type 0 where
  Memory : Place
  BufType : Place
  MemoryKind : Place
  Count : Place
  Between : (least most : ℕ) → Place
  Code : Place
  Hex : Place
  This : (word : List ℕ) → Place

pub data Value : Type 0 where
  Named : (name : List ℕ) → Value
  Counts : (number : ℕ) → Value
  Holds : (bytes : List ℕ) → Value
  Is : (word : List ℕ) → Value

-- 1 to 10 decimal digits, at most 4,294,967,295
abbrev pub count_in : List ℕ → Option ℕ
count_in word = number_in 10 (2 ^ 32 - 1) word

-- a number for one of two words, any other number for itself
abbrev pub either_in : List ℕ → ℕ → List ℕ → ℕ → List ℕ → Option ℕ
either_in one m two n word =
    if bytes_eq word one then Some m
    else (if bytes_eq word two then Some n else count_in word)

abbrev pub type_in : List ℕ → Option ℕ
type_in word = either_in (codes "cap") BUF_TYPE_CAPTURE (codes "out") BUF_TYPE_OUTPUT word

abbrev pub memory_kind_in : List ℕ → Option ℕ
memory_kind_in word = either_in (codes "mmap") MEMORY_MMAP (codes "userptr") MEMORY_USERPTR word

abbrev pub within : ℕ → ℕ → Option ℕ → Option ℕ
within least most None = None
within least most (Some n) = if nat_le least n && nat_le n most then Some n else None

-- a number from the least to the most
abbrev pub between_in : ℕ → ℕ → List ℕ → Option ℕ
between_in least most word = within least most (count_in word)

-- 1 to 256 bytes
abbrev pub few : Result (List ℕ) FromHexError → Option (List ℕ)
few (Ok bytes) = if nat_le 1 (length bytes) && nat_le (length bytes) 256 then Some bytes else None
few (Err e) = None

-- two hexadecimal digits of either case for each of 1 to 256 bytes, the high half first
abbrev pub bytes_in : List ℕ → Option (List ℕ)
bytes_in word = few (decode_of word)

-- the value of a word in its place, or what is wrong with it there
abbrev pub value_in : Place → List ℕ → Result Value ScriptKind
value_in Memory word = ok_or (option_map Named (name_in word)) Name
value_in BufType word = ok_or (option_map Counts (type_in word)) Number
value_in MemoryKind word = ok_or (option_map Counts (memory_kind_in word)) Number
value_in Count word = ok_or (option_map Counts (count_in word)) Number
value_in (Between least most) word = ok_or (option_map Counts (between_in least most word)) Number
value_in Code word = ok_or (option_map Counts (code_in word)) Word
value_in Hex word = ok_or (option_map Holds (bytes_in word)) Word
value_in (This it) word = if bytes_eq word it then Ok (Is it) else Err Word

-- ---- forms

abbrev pub and_then : {T U E : Type 0} → Result T E → (T → Result U E) → Result U E
and_then (Ok x) next = next x
and_then (Err e) next = Err e

-- a word's value, and the places behind it of each form that has a value for the word
pub record Taken : Type 0 where
  pub value : Value
  pub left : List (List Place)

-- one form more, of which the word has this outcome and which has these places behind it
abbrev pub or_taken : Result Value ScriptKind → List Place → Result Taken ScriptKind →
    Result Taken ScriptKind
or_taken (Ok v) places (Ok taken) = Ok (record { value = v; left = places ∷ taken.left })
or_taken (Ok v) places (Err kind) = Ok (record { value = v; left = places ∷ [] })
or_taken (Err kind) places (Ok taken) = Ok taken
or_taken (Err kind) places (Err other) = Err kind

-- A word by the forms that are left. Where none of them has a value for it, the fault is what the
-- first finds.
abbrev pub taken_by : List (List Place) → List ℕ → Result Taken ScriptKind
taken_by [] word = Err Word
taken_by ([] ∷ forms) word = taken_by forms word
taken_by ((place ∷ places) ∷ forms) word =
    or_taken (value_in place word) places (taken_by forms word)

-- the values of words by forms: each word is judged by those that have a value for every word
-- before it
abbrev pub values_by : List (List Place) → List (List ℕ) → Result (List Value) ScriptKind
values_by forms [] = Ok []
values_by forms (word ∷ words) =
    and_then (taken_by forms word)
    (λ taken. and_then (values_by taken.left words) (λ vs. Ok (taken.value ∷ vs)))

-- the parts in their order, each there or not
abbrev pub each_optional : List (List Place) → List (List Place)
each_optional [] = [] ∷ []
each_optional (part ∷ parts) =
    map (λ more. part ++ more) (each_optional parts) ++ each_optional parts
