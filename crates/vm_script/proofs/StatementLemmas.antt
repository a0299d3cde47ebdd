-- A statement that was read asks a call in range, and a text reads as one call.
use Rattle.std.proofs.Common.{◌≡◌, ℕ, ◌==◌, Bool, true, false, List, [], ◌∷◌, length, refl, sym, ◌∙◌, subst, arith, Option, Some, None, Result, Ok, Err, if◌then◌else◌}
use Rattle.std.specs.Prelude.{IfSome, codes}
use Rattle.std.specs.Option.{ok_or}
use Rattle.std.specs.Str.{bytes_eq}
use Rattle.std.proofs.lemmas.Bool.Decides.{nat_tests}
use Rattle.std.proofs.lemmas.Slice.Eq.{bytes_eq-Decides}
use Rattle.vm_local.specs.declared.call.Call.{Call}
use Rattle.vm_script.specs.declared.fault.ScriptKind.{ScriptKind}
use Rattle.vm_script.specs.declared.fault.ScriptKind.TheVariants.{Word, Name, NotBuilt}
use Rattle.vm_script.specs.declared.statement.Statement.{Statement}
use Rattle.vm_script.specs.declared.verb.Verb.{Verb}
use Rattle.vm_script.specs.declared.verb.Verb.TheVariants.{Open, Close, QueryCap, EnumFmt, GFmt, TryFmt, SFmt, EnumInput, GInput, SInput, ReqBufs, QueryBuf, UAlloc, QBuf, StreamOn, StreamOff, DqBuf, Mmap, Munmap, Read, Hash, Write, Fill, Subscribe, Unsubscribe, DqEvent}
use Rattle.vm_script.specs.Places.{Place, Memory, Count, Between, Value, Named, Counts, Holds, Is, and_then, values_by}
use Rattle.vm_script.specs.Reading.{InRange, IsName, Fits32}
use Rattle.vm_script.specs.Statements.{forms_with, name_among, number_behind, asked, call_in, statement_by, statement_in, built_statement_in, call_numbers, is_statement, reads_as}
use Rattle.vm_script.specs.Verbs.{verb_of, is_built_line}
use Rattle.vm_script.specs.Words.{words_in, name_in, is_name}
use Rattle.vm_script.proofs.CallLemmas.{same_call}
use Rattle.vm_script.proofs.PlaceLemmas.{IfThere, IfFine, then_fine, there_fine, both, AreOf, form_fine, AreSmall, values_small}

-- ---- what stands behind the index of a `qbuf`

number_small : (word : List ℕ) (vs : List Value) → AreSmall vs → Fits32 (number_behind word vs)
number_small word [] s = omega arith
number_small word (Is key ∷ Counts n ∷ vs) s = by_test (bytes_eq key word) s.1.0 (number_small word vs s.1.1)
  where
    by_test : {n m : ℕ} → (test : Bool) → Fits32 n → Fits32 m → Fits32 (if test then n else m)
    by_test true h k = h
    by_test false h k = k
number_small word (Is key ∷ []) s = omega arith
number_small word (Is key ∷ v ∷ vs) s = number_small word (v ∷ vs) s.1
number_small word (v ∷ vs) s = number_small word vs s.1

name_small : (vs : List Value) → AreSmall vs → IfSome (name_among vs) IsName
name_small [] s = tt
name_small (Named name ∷ vs) s = s.0
name_small (Counts n ∷ vs) s = name_small vs s.1
name_small (Holds bytes ∷ vs) s = name_small vs s.1
name_small (Is word ∷ vs) s = name_small vs s.1

-- ---- most verbs ask calls in range where their values are small

-- the call is in range, unless more is to be known of the verb's values
abbrev Known : Verb → Call → Type 0
Known Read call = Unit {0}
Known Fill call = Unit {0}
Known verb call = InRange call

known : (verb : Verb) (vs : List Value) → AreSmall vs → IfThere (Known verb) (asked verb vs)
known Open [] s = tt
known Open (Is word ∷ []) s = tt
known Close [] s = tt
known QueryCap [] s = tt
known EnumFmt (Counts t ∷ Counts i ∷ []) s = (s.0, s.1.0)
known GFmt (Counts t ∷ []) s = s.0
known TryFmt (Counts t ∷ Counts f ∷ Counts w ∷ Counts h ∷ []) s = (s.0, s.1.0, s.1.1.0, s.1.1.1.0)
known SFmt (Counts t ∷ Counts f ∷ Counts w ∷ Counts h ∷ []) s = (s.0, s.1.0, s.1.1.0, s.1.1.1.0)
known EnumInput (Counts i ∷ []) s = s.0
known GInput [] s = tt
known SInput (Counts i ∷ []) s = s.0
known ReqBufs (Counts t ∷ Counts m ∷ Counts n ∷ []) s = (s.0, s.1.0, s.1.1.0)
known QueryBuf (Counts t ∷ Counts i ∷ []) s = (s.0, s.1.0)
known UAlloc (Named u ∷ Counts len ∷ Counts off ∷ []) s = (s.0, s.1.0, s.1.1.0)
known QBuf (Counts t ∷ Counts i ∷ vs) s =
    (s.0, s.1.0, name_small vs s.1.1, number_small (codes "used") vs s.1.1, number_small (codes "ts") vs s.1.1)
known StreamOn (Counts t ∷ []) s = s.0
known StreamOff (Counts t ∷ []) s = s.0
known DqBuf (Counts t ∷ []) s = s.0
known Mmap (Named m ∷ Counts t ∷ Counts i ∷ []) s = (s.0, s.1.0, s.1.1.0)
known Mmap (Named m ∷ Counts t ∷ Counts i ∷ Is word ∷ []) s = (s.0, s.1.0, s.1.1.0)
known Munmap (Named m ∷ []) s = s.0
known Hash (Named m ∷ []) s = s.0
known Write (Named m ∷ Counts off ∷ Holds bytes ∷ []) s = (s.0, s.1.0, s.1.1.0.0, s.1.1.0.1)
known Subscribe (Counts n ∷ []) s = s.0
known Unsubscribe (Counts n ∷ []) s = s.0
known DqEvent [] s = tt
known Read (Named m ∷ Counts off ∷ Counts len ∷ []) s = tt
known Fill (Named m ∷ Counts seed ∷ []) s = tt
known verb vs s = tt

known_call : (verb : Verb) (words : List (List ℕ)) → IfFine (Known verb) (call_in verb words)
known_call verb words =
    then_fine AreSmall (Known verb) (values_by (forms_with (length words) verb) words) _ (values_small (forms_with (length words) verb) words) (λ vs s. there_fine (Known verb) (asked verb vs) Word (known verb vs s))

-- ---- `read` and `fill`

-- the call that a verb asks by its only form, where the number of words is the form's
form_call : (verb : Verb) (form : List Place) (words : List (List ℕ)) (test : Bool) → (length form == length words) ≡ test → ((vs : List Value) → AreOf form vs → IfThere InRange (asked verb vs))
    → (asked verb [] ≡ None) → IfFine InRange (and_then (values_by (if test then form ∷ [] else []) words) (λ vs. ok_or (asked verb vs) Word))
form_call verb form words true e asks none =
    then_fine (AreOf form) InRange (values_by (form ∷ []) words) _ (form_fine form words (grind (arith, nat_tests))) (λ vs h. there_fine InRange (asked verb vs) Word (asks vs h))
form_call verb form [] false e asks none = rw none tt
form_call verb form (word ∷ words) false e asks none = tt

read_asked : (vs : List Value) → AreOf (Memory ∷ Count ∷ Between 1 256 ∷ []) vs → IfThere InRange (asked Read vs)
read_asked (Named m ∷ Counts off ∷ Counts len ∷ []) h = (h.0, h.1.0, h.1.1.0.1.0, h.1.1.0.1.1)
read_asked vs h = tt

fill_asked : (vs : List Value) → AreOf (Memory ∷ Between 0 255 ∷ []) vs → IfThere InRange (asked Fill vs)
fill_asked (Named m ∷ Counts seed ∷ []) h = (h.0, h.1.0.1.1)
fill_asked vs h = tt

-- ---- statements

-- each call that words ask is in range
call_range : (verb : Verb) (words : List (List ℕ)) → IfFine InRange (call_in verb words)
call_range Read words = form_call Read (Memory ∷ Count ∷ Between 1 256 ∷ []) words _ refl read_asked refl
call_range Fill words = form_call Fill (Memory ∷ Between 0 255 ∷ []) words _ refl fill_asked refl
call_range Open words = known_call Open words
call_range Close words = known_call Close words
call_range QueryCap words = known_call QueryCap words
call_range EnumFmt words = known_call EnumFmt words
call_range GFmt words = known_call GFmt words
call_range TryFmt words = known_call TryFmt words
call_range SFmt words = known_call SFmt words
call_range EnumInput words = known_call EnumInput words
call_range GInput words = known_call GInput words
call_range SInput words = known_call SInput words
call_range ReqBufs words = known_call ReqBufs words
call_range QueryBuf words = known_call QueryBuf words
call_range UAlloc words = known_call UAlloc words
call_range QBuf words = known_call QBuf words
call_range StreamOn words = known_call StreamOn words
call_range StreamOff words = known_call StreamOff words
call_range DqBuf words = known_call DqBuf words
call_range Mmap words = known_call Mmap words
call_range Munmap words = known_call Munmap words
call_range Hash words = known_call Hash words
call_range Write words = known_call Write words
call_range Subscribe words = known_call Subscribe words
call_range Unsubscribe words = known_call Unsubscribe words
call_range DqEvent words = known_call DqEvent words

abbrev AsksInRange : Statement → Type 0
AsksInRange s = InRange s.call

on_range : (name : Result (List ℕ) ScriptKind) (call : Result Call ScriptKind) → IfFine InRange call → IfFine AsksInRange (and_then name (λ h. and_then call (λ c. Ok (record { handle = h; call = c }))))
on_range (Ok name) (Ok call) h = h
on_range (Ok name) (Err kind) h = tt
on_range (Err kind) call h = tt

fine_unless : (P : Statement → Type 0) (b : Bool) (r : Result Statement ScriptKind) (kind : ScriptKind) → IfFine P r → IfFine P (if b then Err kind else r)
fine_unless P true r kind h = tt
fine_unless P false r kind h = h

by_range : (verb : Verb) (words : List (List ℕ)) → IfFine AsksInRange (statement_by verb words)
by_range verb [] = tt
by_range verb (handle ∷ words) = fine_unless AsksInRange (length (forms_with (length words) verb) == 0) _ Word (on_range (ok_or (name_in handle) Name) (call_in verb words) (call_range verb words))

some_verb : (o : Option Verb) (words : List (List ℕ)) → IfFine AsksInRange (and_then (ok_or o Word) (λ verb. statement_by verb words))
some_verb None words = tt
some_verb (Some verb) words = by_range verb words

fine_where : (P : Statement → Type 0) (b : Bool) (r : Result Statement ScriptKind) (kind : ScriptKind) → IfFine P r → IfFine P (if b then r else Err kind)
fine_where P true r kind h = h
fine_where P false r kind h = tt

in_range : (words : List (List ℕ)) → IfFine AsksInRange (statement_in words)
in_range [] = tt
in_range (first ∷ words) = some_verb (verb_of first) words

built_range : (words : List (List ℕ)) → IfFine AsksInRange (built_statement_in words)
built_range words = fine_where AsksInRange (is_built_line words) (statement_in words) NotBuilt (in_range words)

-- a statement that was read asks a call in range
pub statement_range : (words : List (List ℕ)) (s : Statement) → built_statement_in words ≡ Ok s → InRange s.call
statement_range words s e = subst (IfFine AsksInRange) e (built_range words)

-- ---- the handle's name

abbrev IsOnName : Statement → Type 0
IsOnName s = IsName s.handle

fine_name : (word : List ℕ) → IfFine IsName (ok_or (name_in word) Name)
fine_name word = by_test (is_name word) refl
  where
    by_test : (test : Bool) → is_name word ≡ test → IfFine IsName (ok_or (if test then Some word else None) Name)
    by_test true is = is
    by_test false is = tt

on_name : (name : Result (List ℕ) ScriptKind) (call : Result Call ScriptKind) → IfFine IsName name → IfFine IsOnName (and_then name (λ h. and_then call (λ c. Ok (record { handle = h; call = c }))))
on_name (Ok name) (Ok call) h = h
on_name (Ok name) (Err kind) h = tt
on_name (Err kind) call h = tt

by_name : (verb : Verb) (words : List (List ℕ)) → IfFine IsOnName (statement_by verb words)
by_name verb [] = tt
by_name verb (handle ∷ words) = fine_unless IsOnName (length (forms_with (length words) verb) == 0) _ Word (on_name (ok_or (name_in handle) Name) (call_in verb words) (fine_name handle))

some_name : (o : Option Verb) (words : List (List ℕ)) → IfFine IsOnName (and_then (ok_or o Word) (λ verb. statement_by verb words))
some_name None words = tt
some_name (Some verb) words = by_name verb words

with_name : (words : List (List ℕ)) → IfFine IsOnName (statement_in words)
with_name [] = tt
with_name (first ∷ words) = some_name (verb_of first) words

-- a statement that was read is on a handle whose name is one
pub statement_name : (words : List (List ℕ)) (s : Statement) → built_statement_in words ≡ Ok s → IsName s.handle
statement_name words s e = subst (IfFine IsOnName) e (fine_where IsOnName (is_built_line words) (statement_in words) NotBuilt (with_name words))

-- ---- texts

is_it : (name : List ℕ) (call : Call) (s : Statement) → is_statement name call (Ok s) ≡ true → (s.handle ≡ name) × (s.call ≡ call)
is_it name call s h =
    let parted = both (bytes_eq s.handle name) (bytes_eq (call_numbers s.call) (call_numbers call)) h in
    ((bytes_eq-Decides s.handle name).0 parted.0, same_call s.call call ((bytes_eq-Decides (call_numbers s.call) (call_numbers call)).0 parted.1))

range_by : (name : List ℕ) (call : Call) (r : Result Statement ScriptKind) → IfFine AsksInRange r → is_statement name call r ≡ true → InRange call
range_by name call (Ok s) range h = subst InRange (is_it name call s h).1 range
range_by name call (Err kind) range h = absurd (cc)

-- a text reads as calls in range
pub reads_range : (text name : List ℕ) (call : Call) → reads_as text name call ≡ true → InRange call
reads_range text name call h = range_by name call (built_statement_in (words_in text)) (built_range (words_in text)) h

one_by : (name other : List ℕ) (call next : Call) (r : Result Statement ScriptKind) → is_statement name call r ≡ true → is_statement other next r ≡ true → (name ≡ other) × (call ≡ next)
one_by name other call next (Ok s) h k =
    let one = is_it name call s h in
    let two = is_it other next s k in
    (sym one.0 ∙ two.0, sym one.1 ∙ two.1)
one_by name other call next (Err kind) h k = absurd (cc)

-- a text reads as one call on one handle
pub reads_one : (text name other : List ℕ) (call next : Call) → reads_as text name call ≡ true → reads_as text other next ≡ true → (name ≡ other) × (call ≡ next)
reads_one text name other call next h k = one_by name other call next (built_statement_in (words_in text)) h k

same_bytes : (xs : List ℕ) → bytes_eq xs xs ≡ true
same_bytes xs = (bytes_eq-Decides xs xs).1 refl

-- the words of a statement read as it
pub statement_is : (words : List (List ℕ)) (s : Statement) → built_statement_in words ≡ Ok s → is_statement s.handle s.call (built_statement_in words) ≡ true
statement_is words s e = rw (e, same_bytes s.handle) (same_bytes (call_numbers s.call))
