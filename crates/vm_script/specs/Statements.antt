-- The statements of scripts: what a line's words ask, and their first fault.
use Rattle.std.specs.Prelude.{ℕ, ◌==◌, ◌&&◌, Bool, true, false, List, [], ◌∷◌, ◌++◌, length, map, filter, Option, Some, None, Result, Ok, Err, if◌then◌else◌, codes}
use Rattle.std.specs.Option.{ok_or}
use Rattle.std.specs.Str.{bytes_eq}
use Rattle.vm_local.specs.declared.call.Call.{Call}
use Rattle.vm_local.specs.declared.call.Call.TheVariants as Asks
use Rattle.vm_script.specs.declared.extras.Extras.{Extras}
use Rattle.vm_script.specs.declared.fault.ScriptKind.{ScriptKind}
use Rattle.vm_script.specs.declared.fault.ScriptKind.TheVariants.{Word, Name, Number, NotBuilt}
use Rattle.vm_script.specs.declared.statement.Statement.{Statement}
use Rattle.vm_script.specs.declared.verb.Verb.{Verb}
use Rattle.vm_script.specs.declared.verb.Verb.TheVariants.{Open, Close, QueryCap, EnumFmt, GFmt, TryFmt, SFmt, EnumInput, GInput, SInput, ReqBufs, QueryBuf, UAlloc, QBuf, StreamOn, StreamOff, DqBuf, Mmap, Munmap, Read, Hash, Write, Fill, Subscribe, Unsubscribe, DqEvent}
use Rattle.vm_script.specs.Places.{Place, Memory, BufType, MemoryKind, Count, Between, Code, Hex, This, Value, Named, Counts, Holds, Is, count_in, type_in, and_then, values_by, each_optional}
use Rattle.vm_script.specs.Verbs.{verb_of, is_built_line}
use Rattle.vm_script.specs.Words.{words_in, name_in}

-- ---- the table of statements

-- what may stand behind the index of a `qbuf`
abbrev pub number_extras : List (List Place)
number_extras = (This (codes "used") ∷ Count ∷ []) ∷ (This (codes "ts") ∷ Count ∷ []) ∷ []

abbrev pub extras : List (List Place)
extras = (This (codes "user") ∷ Memory ∷ []) ∷ number_extras

-- the forms of each verb: the places of the words behind the handle's name
abbrev pub forms_of : Verb → List (List Place)
forms_of Open = [] ∷ (This (codes "nonblock") ∷ []) ∷ []
forms_of Close = [] ∷ []
forms_of QueryCap = [] ∷ []
forms_of EnumFmt = (BufType ∷ Count ∷ []) ∷ []
forms_of GFmt = (BufType ∷ []) ∷ []
forms_of TryFmt = (BufType ∷ Code ∷ Count ∷ Count ∷ []) ∷ []
forms_of SFmt = (BufType ∷ Code ∷ Count ∷ Count ∷ []) ∷ []
forms_of EnumInput = (Count ∷ []) ∷ []
forms_of GInput = [] ∷ []
forms_of SInput = (Count ∷ []) ∷ []
forms_of ReqBufs = (BufType ∷ MemoryKind ∷ Count ∷ []) ∷ []
forms_of QueryBuf = (BufType ∷ Count ∷ []) ∷ []
forms_of UAlloc = (Memory ∷ Count ∷ Count ∷ []) ∷ []
forms_of QBuf = map (λ more. BufType ∷ Count ∷ more) (each_optional extras)
forms_of StreamOn = (BufType ∷ []) ∷ []
forms_of StreamOff = (BufType ∷ []) ∷ []
forms_of DqBuf = (BufType ∷ []) ∷ []
forms_of Mmap =
    (Memory ∷ BufType ∷ Count ∷ []) ∷ (Memory ∷ BufType ∷ Count ∷ This (codes "ro") ∷ []) ∷ []
forms_of Munmap = (Memory ∷ []) ∷ []
forms_of Read = (Memory ∷ Count ∷ Between 1 256 ∷ []) ∷ []
forms_of Hash = (Memory ∷ []) ∷ []
forms_of Write = (Memory ∷ Count ∷ Hex ∷ []) ∷ []
forms_of Fill = (Memory ∷ Between 0 255 ∷ []) ∷ []
forms_of Subscribe = (Count ∷ []) ∷ []
forms_of Unsubscribe = (Count ∷ []) ∷ []
forms_of DqEvent = [] ∷ []

-- the name among these values, if there is one
abbrev pub name_among : List Value → Option (List ℕ)
name_among [] = None
name_among (Named name ∷ vs) = Some name
name_among (v ∷ vs) = name_among vs

-- the number behind this word, or 0 where the word isn't there
abbrev pub number_behind : List ℕ → List Value → ℕ
number_behind word [] = 0
number_behind word (Is this ∷ Counts n ∷ vs) =
    if bytes_eq this word then n else number_behind word vs
number_behind word (v ∷ vs) = number_behind word vs

-- what stands behind the index of a `qbuf`
abbrev pub extras_of : List Value → Extras
extras_of vs = record {
  user = name_among vs;
  used = number_behind (codes "used") vs;
  ts = number_behind (codes "ts") vs;
}

-- a `qbuf` of a buffer of this type and index
abbrev pub queued : ℕ → ℕ → Extras → Call
queued t i more = Asks.QBuf t i more.user more.used more.ts

-- what each verb asks with the values of one of its forms
abbrev pub asked : Verb → List Value → Option Call
asked Open [] = Some (Asks.OpenHandle false)
asked Open (Is word ∷ []) = Some (Asks.OpenHandle true)
asked Close [] = Some Asks.CloseHandle
asked QueryCap [] = Some Asks.QueryCap
asked EnumFmt (Counts t ∷ Counts i ∷ []) = Some (Asks.EnumFmt t i)
asked GFmt (Counts t ∷ []) = Some (Asks.GFmt t)
asked TryFmt (Counts t ∷ Counts f ∷ Counts w ∷ Counts h ∷ []) =
    Some (Asks.TryFmt t (record { 0 = f }) w h)
asked SFmt (Counts t ∷ Counts f ∷ Counts w ∷ Counts h ∷ []) =
    Some (Asks.SFmt t (record { 0 = f }) w h)
asked EnumInput (Counts i ∷ []) = Some (Asks.EnumInput i)
asked GInput [] = Some Asks.GInput
asked SInput (Counts i ∷ []) = Some (Asks.SInput i)
asked ReqBufs (Counts t ∷ Counts m ∷ Counts n ∷ []) = Some (Asks.ReqBufs t m n)
asked QueryBuf (Counts t ∷ Counts i ∷ []) = Some (Asks.QueryBuf t i)
asked UAlloc (Named u ∷ Counts len ∷ Counts off ∷ []) = Some (Asks.UAlloc u len off)
asked QBuf (Counts t ∷ Counts i ∷ vs) = Some (queued t i (extras_of vs))
asked StreamOn (Counts t ∷ []) = Some (Asks.StreamOn t)
asked StreamOff (Counts t ∷ []) = Some (Asks.StreamOff t)
asked DqBuf (Counts t ∷ []) = Some (Asks.DqBuf t)
asked Mmap (Named m ∷ Counts t ∷ Counts i ∷ []) = Some (Asks.Mmap m t i false)
asked Mmap (Named m ∷ Counts t ∷ Counts i ∷ Is word ∷ []) = Some (Asks.Mmap m t i true)
asked Munmap (Named m ∷ []) = Some (Asks.Munmap m)
asked Read (Named m ∷ Counts off ∷ Counts len ∷ []) = Some (Asks.Peek m off len)
asked Hash (Named m ∷ []) = Some (Asks.Hash m)
asked Write (Named m ∷ Counts off ∷ Holds bytes ∷ []) = Some (Asks.Poke m off bytes)
asked Fill (Named m ∷ Counts seed ∷ []) = Some (Asks.Fill m seed)
asked Subscribe (Counts e ∷ []) = Some (Asks.Subscribe e)
asked Unsubscribe (Counts e ∷ []) = Some (Asks.Unsubscribe e)
asked DqEvent [] = Some Asks.DqEvent
asked verb vs = None

-- ---- statements

-- the forms of a verb that have so many places
abbrev pub forms_with : ℕ → Verb → List (List Place)
forms_with n verb = filter (λ form. length form == n) (forms_of verb)

-- the call that a verb asks with the words behind the handle's name
abbrev pub call_in : Verb → List (List ℕ) → Result Call ScriptKind
call_in verb words =
    and_then (values_by (forms_with (length words) verb) words) (λ vs. ok_or (asked verb vs) Word)

-- what the words behind the index of a `qbuf` are, where these may stand there
abbrev pub extras_in : List (List Place) → List (List ℕ) → Result Extras ScriptKind
extras_in parts words =
    and_then (values_by (filter (λ form. length form == length words) (each_optional parts)) words)
    (λ vs. Ok (extras_of vs))

-- a `qbuf` of the buffer that these words name, with what stands behind them
abbrev pub queued_in : List ℕ → List ℕ → Result Extras ScriptKind → Result Call ScriptKind
queued_in type index more =
    and_then (ok_or (type_in type) Number)
    (λ t. and_then (ok_or (count_in index) Number) (λ i. and_then more (λ e. Ok (queued t i e))))

-- a call on the handle of this name, which is judged first
abbrev pub on : List ℕ → Result Call ScriptKind → Result Statement ScriptKind
on handle call =
    and_then (ok_or (name_in handle) Name)
    (λ h. and_then call (λ c. Ok (record { handle = h; call = c })))

-- The statement of a verb and the words behind it, or the first fault. How many words there are
-- comes before what they are.
abbrev pub statement_by : Verb → List (List ℕ) → Result Statement ScriptKind
statement_by verb [] = Err Word
statement_by verb (handle ∷ words) =
    if length (forms_with (length words) verb) == 0 then Err Word
    else on handle (call_in verb words)

-- the statement that a line's words are, or the first fault that the line has by itself
abbrev pub statement_in : List (List ℕ) → Result Statement ScriptKind
statement_in [] = Err Word
statement_in (first ∷ words) =
    and_then (ok_or (verb_of first) Word) (λ verb. statement_by verb words)

-- the same, where a line that isn't built has that fault before any other
abbrev pub built_statement_in : List (List ℕ) → Result Statement ScriptKind
built_statement_in words = if is_built_line words then statement_in words else Err NotBuilt

-- ---- echoes

abbrev pub flag : Bool → ℕ
flag true = 1
flag false = 0

abbrev pub optional_name : Option (List ℕ) → List ℕ
optional_name None = 0 ∷ []
optional_name (Some name) = 1 ∷ name

-- a call as a list of numbers: one for its kind, and then what it carries
abbrev pub call_numbers : Call → List ℕ
call_numbers (Asks.OpenHandle nonblock) = 1 ∷ flag nonblock ∷ []
call_numbers Asks.CloseHandle = 2 ∷ []
call_numbers Asks.QueryCap = 3 ∷ []
call_numbers (Asks.EnumFmt t i) = 4 ∷ t ∷ i ∷ []
call_numbers (Asks.GFmt t) = 5 ∷ t ∷ []
call_numbers (Asks.TryFmt t f w h) = 6 ∷ t ∷ f.0 ∷ w ∷ h ∷ []
call_numbers (Asks.SFmt t f w h) = 7 ∷ t ∷ f.0 ∷ w ∷ h ∷ []
call_numbers (Asks.EnumInput i) = 8 ∷ i ∷ []
call_numbers Asks.GInput = 9 ∷ []
call_numbers (Asks.SInput i) = 10 ∷ i ∷ []
call_numbers (Asks.ReqBufs t m n) = 11 ∷ t ∷ m ∷ n ∷ []
call_numbers (Asks.QueryBuf t i) = 12 ∷ t ∷ i ∷ []
call_numbers (Asks.UAlloc u len off) = 13 ∷ len ∷ off ∷ u
call_numbers (Asks.QBuf t i user used ts) = 14 ∷ t ∷ i ∷ used ∷ ts ∷ optional_name user
call_numbers (Asks.StreamOn t) = 15 ∷ t ∷ []
call_numbers (Asks.StreamOff t) = 16 ∷ t ∷ []
call_numbers (Asks.DqBuf t) = 17 ∷ t ∷ []
call_numbers (Asks.Mmap m t i ro) = 18 ∷ t ∷ i ∷ flag ro ∷ m
call_numbers (Asks.Munmap m) = 19 ∷ m
call_numbers (Asks.Peek m off len) = 20 ∷ off ∷ len ∷ m
call_numbers (Asks.Hash m) = 21 ∷ m
call_numbers (Asks.Poke m off bytes) = 22 ∷ off ∷ length m ∷ (m ++ bytes)
call_numbers (Asks.Fill m seed) = 23 ∷ seed ∷ m
call_numbers (Asks.Subscribe e) = 24 ∷ e ∷ []
call_numbers (Asks.Unsubscribe e) = 25 ∷ e ∷ []
call_numbers Asks.DqEvent = 26 ∷ []

-- the statement is this call on the handle of this name
abbrev pub is_statement : List ℕ → Call → Result Statement ScriptKind → Bool
is_statement name call (Ok s) =
    bytes_eq s.handle name && bytes_eq (call_numbers s.call) (call_numbers call)
is_statement name call (Err kind) = false

-- the text reads as this call on the handle of this name
abbrev pub reads_as : List ℕ → List ℕ → Call → Bool
reads_as echo name call = is_statement name call (built_statement_in (words_in echo))
