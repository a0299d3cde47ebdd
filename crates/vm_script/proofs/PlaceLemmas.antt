-- What is known of the values of words.
use Rattle.std.proofs.Common.{◌≡◌, ℕ, ◌-◌, ◌^◌, ◌<◌, ◌≤◌, ◌==◌, Bool, true, false, ◌&&◌, List, [], ◌∷◌, length, refl, arith, Option, Some, None, Result, Ok, Err, if◌then◌else◌}
use Rattle.std.specs.Prelude.{nat_le, codes}
use Rattle.std.specs.Int.{from_le_bytes, w32}
use Rattle.std.specs.List.{list_all}
use Rattle.std.specs.Option.{option_map, ok_or}
use Rattle.std.specs.Str.{bytes_eq}
use Rattle.std.proofs.lemmas.Bool.Decides.{nat_tests}
use Rattle.hex.specs.Hex.{decode_of}
use Rattle.hex.specs.declared.error.FromHexError.{FromHexError}
use Rattle.v4l_const.specs.declared.numbers.TheConstants.{BUF_TYPE_CAPTURE, BUF_TYPE_OUTPUT, MEMORY_MMAP, MEMORY_USERPTR}
use Rattle.vm_script.specs.declared.fault.ScriptKind.{ScriptKind}
use Rattle.vm_script.specs.declared.fault.ScriptKind.TheVariants.{Word, Name, Number}
use Rattle.vm_script.specs.Reading.{Fits32, IsName}
use Rattle.vm_script.specs.Words.{is_name, name_in, is_digits, number_after, code_in, is_visible}
use Rattle.vm_script.specs.Places.{Place, Memory, BufType, MemoryKind, Count, Between, Code, Hex, This, Value, Named, Counts, Holds, Is, count_in, type_in, memory_kind_in, within, between_in, few, bytes_in, value_in, and_then, Taken, or_taken, taken_by, values_by}

-- P of what is there
abbrev pub IfThere : {T : Type 0} → (T → Type 0) → Option T → Type 0
IfThere P None = Unit {0}
IfThere P (Some x) = P x

abbrev pub IfFine : {T : Type 0} → (T → Type 0) → Result T ScriptKind → Type 0
IfFine P (Ok x) = P x
IfFine P (Err kind) = Unit {0}

-- what holds of the first outcome's value and then of the second's
pub then_fine : {T U : Type 0} → (P : T → Type 0) (Q : U → Type 0) (r : Result T ScriptKind) (next : T → Result U ScriptKind) → IfFine P r → ((x : T) → P x → IfFine Q (next x)) → IfFine Q (and_then r next)
then_fine P Q (Ok x) next h k = k x h
then_fine P Q (Err kind) next h k = tt

pub there_fine : {T : Type 0} → (P : T → Type 0) (o : Option T) (kind : ScriptKind) → IfThere P o → IfFine P (ok_or o kind)
there_fine P None kind h = tt
there_fine P (Some x) kind h = h

-- ---- numbers, names and bytes

tested : (a b : Bool) (n : ℕ) → (b ≡ true → Fits32 n) → IfThere Fits32 (if a && b then Some n else None)
tested true true n small = small refl
tested true false n small = tt
tested false b n small = tt

count_small : (word : List ℕ) → IfThere Fits32 (count_in word)
count_small word = tested (is_digits 10 word) (nat_le (number_after 0 word) (2 ^ 32 - 1)) (number_after 0 word) (λ fits. grind (arith, nat_tests))

either_small : (one two : Bool) (m n : ℕ) (o : Option ℕ) → Fits32 m → Fits32 n → IfThere Fits32 o → IfThere Fits32 (if one then Some m else (if two then Some n else o))
either_small true two m n o first second small = first
either_small false true m n o first second small = second
either_small false false m n o first second small = small

pub both : (a b : Bool) → (a && b) ≡ true → (a ≡ true) × (b ≡ true)
both true b h = (refl, h)
both false b h = absurd (cc)

-- the number lies from the least to the most
abbrev pub LiesIn : ℕ → ℕ → ℕ → Type 0
LiesIn least most n = (least ≤ n) × (n ≤ most)

within_test : (least most n : ℕ) (test : Bool) → (nat_le least n && nat_le n most) ≡ test → IfThere (LiesIn least most) (if test then Some n else None)
within_test least most n true e =
    let parted = both (nat_le least n) (nat_le n most) e in
    (grind (arith, nat_tests, parted.0), grind (arith, nat_tests, parted.1))
within_test least most n false e = tt

within_fine : (least most : ℕ) (o : Option ℕ) → IfThere (LiesIn least most) (within least most o)
within_fine least most None = tt
within_fine least most (Some n) = within_test least most n (nat_le least n && nat_le n most) refl

visible_small : (b : ℕ) → is_visible b ≡ true → b ≤ 126
visible_small b seen = let high = (both (nat_le 33 b) (nat_le b 126) seen).1 in grind (arith, nat_tests)

four_small : (word : List ℕ) → (length word == 4) ≡ true → list_all is_visible word ≡ true → from_le_bytes w32 word < 2 ^ 32
four_small [] four seen = absurd (cc)
four_small (a ∷ []) four seen = absurd (cc)
four_small (a ∷ b ∷ []) four seen = absurd (cc)
four_small (a ∷ b ∷ c ∷ []) four seen = absurd (cc)
four_small (a ∷ b ∷ c ∷ d ∷ []) four seen =
    let first = both (is_visible a) (list_all is_visible (b ∷ c ∷ d ∷ [])) seen in
    let second = both (is_visible b) (list_all is_visible (c ∷ d ∷ [])) first.1 in
    let third = both (is_visible c) (list_all is_visible (d ∷ [])) second.1 in
    let fourth = both (is_visible d) true third.1 in
    omega (arith, visible_small a first.0, visible_small b second.0, visible_small c third.0, visible_small d fourth.0)
four_small (a ∷ b ∷ c ∷ d ∷ e ∷ word) four seen = absurd (grind (arith, nat_tests))

code_by : (four seen : Bool) (n : ℕ) → (four ≡ true → seen ≡ true → Fits32 n) → IfThere Fits32 (if four && seen then Some n else None)
code_by true true n small = small refl refl
code_by true false n small = tt
code_by false seen n small = tt

code_small : (word : List ℕ) → IfThere Fits32 (code_in word)
code_small word = code_by (length word == 4) (list_all is_visible word) (from_le_bytes w32 word) (four_small word)

name_by : (word : List ℕ) (test : Bool) → is_name word ≡ test → IfThere IsName (if test then Some word else None)
name_by word true e = e
name_by word false e = tt

name_fine : (word : List ℕ) → IfThere IsName (name_in word)
name_fine word = name_by word (is_name word) refl

-- bytes of one write
abbrev pub AreFew : List ℕ → Type 0
AreFew bytes = LiesIn 1 256 (length bytes)

few_test : (bytes : List ℕ) (test : Bool) → (nat_le 1 (length bytes) && nat_le (length bytes) 256) ≡ test → IfThere AreFew (if test then Some bytes else None)
few_test bytes true e =
    let parted = both (nat_le 1 (length bytes)) (nat_le (length bytes) 256) e in
    (grind (arith, nat_tests, parted.0), grind (arith, nat_tests, parted.1))
few_test bytes false e = tt

few_fine : (r : Result (List ℕ) FromHexError) → IfThere AreFew (few r)
few_fine (Ok bytes) = few_test bytes (nat_le 1 (length bytes) && nat_le (length bytes) 256) refl
few_fine (Err e) = tt

-- ---- values

-- the value is one of this place
abbrev pub IsOf : Place → Value → Type 0
IsOf Memory (Named name) = IsName name
IsOf BufType (Counts n) = Fits32 n
IsOf MemoryKind (Counts n) = Fits32 n
IsOf Count (Counts n) = Fits32 n
IsOf (Between least most) (Counts n) = Fits32 n × LiesIn least most n
IsOf Code (Counts n) = Fits32 n
IsOf Hex (Holds bytes) = AreFew bytes
IsOf (This it) (Is word) = Unit {0}
IsOf place v = ⊥

mapped : {T : Type 0} → (P : T → Type 0) (Q : Value → Type 0) (f : T → Value) (o : Option T) (kind : ScriptKind) → IfThere P o → ((x : T) → P x → Q (f x)) → IfFine Q (ok_or (option_map f o) kind)
mapped P Q f None kind h k = tt
mapped P Q f (Some x) kind h k = k x h

within_small : (least most : ℕ) (o : Option ℕ) → IfThere Fits32 o → IfThere Fits32 (within least most o)
within_small least most None small = tt
within_small least most (Some n) small = by_test (nat_le least n && nat_le n most) n small
  where
    by_test : (test : Bool) (n : ℕ) → Fits32 n → IfThere Fits32 (if test then Some n else None)
    by_test true n small = small
    by_test false n small = tt

paired : {T : Type 0} → (P Q : T → Type 0) (o : Option T) → IfThere P o → IfThere Q o → IfThere (λ x. P x × Q x) o
paired P Q None h k = tt
paired P Q (Some x) h k = (h, k)

this_fine : (it : List ℕ) (test : Bool) → IfFine (IsOf (This it)) (if test then Ok (Is it) else Err Word)
this_fine it true = tt
this_fine it false = tt

pub value_fine : (place : Place) (word : List ℕ) → IfFine (IsOf place) (value_in place word)
value_fine Memory word = mapped IsName (IsOf Memory) Named (name_in word) Name (name_fine word) (λ x h. h)
value_fine BufType word = mapped Fits32 (IsOf BufType) Counts (type_in word) Number (either_small (bytes_eq word (codes "cap")) (bytes_eq word (codes "out")) BUF_TYPE_CAPTURE BUF_TYPE_OUTPUT (count_in word) (omega arith) (omega arith) (count_small word)) (λ x h. h)
value_fine MemoryKind word = mapped Fits32 (IsOf MemoryKind) Counts (memory_kind_in word) Number (either_small (bytes_eq word (codes "mmap")) (bytes_eq word (codes "userptr")) MEMORY_MMAP MEMORY_USERPTR (count_in word) (omega arith) (omega arith) (count_small word)) (λ x h. h)
value_fine Count word = mapped Fits32 (IsOf Count) Counts (count_in word) Number (count_small word) (λ x h. h)
value_fine (Between least most) word = mapped (λ n. Fits32 n × LiesIn least most n) (IsOf (Between least most)) Counts (between_in least most word) Number (paired Fits32 (LiesIn least most) (between_in least most word) (within_small least most (count_in word) (count_small word)) (within_fine least most (count_in word))) (λ x h. h)
value_fine Code word = mapped Fits32 (IsOf Code) Counts (code_in word) Word (code_small word) (λ x h. h)
value_fine Hex word = mapped AreFew (IsOf Hex) Holds (bytes_in word) Word (few_fine (decode_of word)) (λ x h. h)
value_fine (This it) word = this_fine it (bytes_eq word it)

-- ---- the values of one form

-- the values are those of a form's places
abbrev pub AreOf : List Place → List Value → Type 0
AreOf [] [] = Unit {0}
AreOf (place ∷ places) (v ∷ vs) = IsOf place v × AreOf places vs
AreOf places vs = ⊥

first_fine : (place : Place) (places : List Place) (words : List (List ℕ)) (r : Result Value ScriptKind) → IfFine (IsOf place) r → IfFine (AreOf places) (values_by (places ∷ []) words)
    → IfFine (AreOf (place ∷ places)) (and_then (or_taken r places (Err Word)) (λ taken. and_then (values_by taken.left words) (λ vs. Ok (taken.value ∷ vs))))
first_fine place places words (Ok v) h more = then_fine (AreOf places) (AreOf (place ∷ places)) (values_by (places ∷ []) words) _ more (λ vs k. (h, k))
first_fine place places words (Err kind) h more = tt

pub form_fine : (form : List Place) (words : List (List ℕ)) → length form ≡ length words → IfFine (AreOf form) (values_by (form ∷ []) words)
form_fine [] [] e = tt
form_fine [] (word ∷ words) e = absurd (omega arith)
form_fine (place ∷ places) [] e = absurd (omega arith)
form_fine (place ∷ places) (word ∷ words) e = first_fine place places words (value_in place word) (value_fine place word) (form_fine places words (omega arith))

-- ---- the values of any forms

abbrev pub IsSmall : Value → Type 0
IsSmall (Named name) = IsName name
IsSmall (Counts n) = Fits32 n
IsSmall (Holds bytes) = AreFew bytes
IsSmall (Is word) = Unit {0}

abbrev pub AreSmall : List Value → Type 0
AreSmall [] = Unit {0}
AreSmall (v ∷ vs) = IsSmall v × AreSmall vs

small_of : (place : Place) (v : Value) → IsOf place v → IsSmall v
small_of Memory (Named name) h = h
small_of BufType (Counts n) h = h
small_of MemoryKind (Counts n) h = h
small_of Count (Counts n) h = h
small_of (Between least most) (Counts n) h = h.0
small_of Code (Counts n) h = h
small_of Hex (Holds bytes) h = h
small_of (This it) (Is word) h = tt
small_of place v h = absurd h

value_small : (place : Place) (word : List ℕ) → IfFine IsSmall (value_in place word)
value_small place word = by_outcome (value_in place word) (value_fine place word)
  where
    by_outcome : (r : Result Value ScriptKind) → IfFine (IsOf place) r → IfFine IsSmall r
    by_outcome (Ok v) h = small_of place v h
    by_outcome (Err kind) h = tt

abbrev IsSmallTaken : Taken → Type 0
IsSmallTaken taken = IsSmall taken.value

or_small : (r : Result Value ScriptKind) (places : List Place) (more : Result Taken ScriptKind) → IfFine IsSmall r → IfFine IsSmallTaken more → IfFine IsSmallTaken (or_taken r places more)
or_small (Ok v) places (Ok taken) h k = h
or_small (Ok v) places (Err kind) h k = h
or_small (Err kind) places (Ok taken) h k = k
or_small (Err kind) places (Err other) h k = tt

taken_small : (forms : List (List Place)) (word : List ℕ) → IfFine IsSmallTaken (taken_by forms word)
taken_small [] word = tt
taken_small ([] ∷ forms) word = taken_small forms word
taken_small ((place ∷ places) ∷ forms) word = or_small (value_in place word) places (taken_by forms word) (value_small place word) (taken_small forms word)

pub values_small : (forms : List (List Place)) (words : List (List ℕ)) → IfFine AreSmall (values_by forms words)
values_small forms [] = tt
values_small forms (word ∷ words) =
    then_fine IsSmallTaken AreSmall (taken_by forms word) _ (taken_small forms word) (λ taken h. then_fine AreSmall AreSmall (values_by taken.left words) _ (values_small taken.left words) (λ vs k. (h, k)))

pub values_length : (forms : List (List Place)) (words : List (List ℕ)) → IfFine (λ vs. length vs ≡ length words) (values_by forms words)
values_length forms [] = refl
values_length forms (word ∷ words) =
    then_fine (λ taken. Unit {0}) (λ vs. length vs ≡ length (word ∷ words)) (taken_by forms word) _ (nothing (taken_by forms word))
    (λ taken h. then_fine (λ vs. length vs ≡ length words) (λ vs. length vs ≡ length (word ∷ words)) (values_by taken.left words) _ (values_length taken.left words) (λ vs k. omega (arith, k)))
  where
    nothing : (r : Result Taken ScriptKind) → IfFine (λ taken. Unit {0}) r
    nothing (Ok taken) = tt
    nothing (Err kind) = tt
