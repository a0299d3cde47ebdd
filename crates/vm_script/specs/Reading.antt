-- What a reader of scripts gives, and what each process of a script that was read has.
use Rattle.std.specs.Prelude.{ℕ, ◌≡◌, ◌<◌, ◌≤◌, ◌+◌, ◌^◌, true, List, [], ◌∷◌, ◌++◌, length, slice_index_or, All, IfSome, Result, Ok, Err}
use Rattle.std.specs.List.{AllByRecursion}
use Rattle.vm_local.specs.declared.call.Call.{Call}
use Rattle.vm_local.specs.declared.call.Call.TheVariants.{OpenHandle, CloseHandle, QueryCap, EnumFmt, GFmt, TryFmt, SFmt, EnumInput, GInput, SInput, ReqBufs, QueryBuf, UAlloc, QBuf, StreamOn, StreamOff, DqBuf, Mmap, Munmap, Peek, Hash, Poke, Fill, Subscribe, Unsubscribe, DqEvent}
use Rattle.vm_script.specs.declared.fault.ScriptError.{ScriptError}
use Rattle.vm_script.specs.declared.fault.ScriptError.TheVariants.{Fault, Memory}
use Rattle.vm_script.specs.declared.fault.ScriptFault.{ScriptFault}
use Rattle.vm_script.specs.declared.line.Line.{Line}
use Rattle.vm_script.specs.declared.line.LineKind.{LineKind}
use Rattle.vm_script.specs.declared.line.LineKind.TheVariants.{OnHandle, Raw}
use Rattle.vm_script.specs.Drafts.{process_limit}
use Rattle.vm_script.specs.Grammar.{statement_limit}
use Rattle.vm_script.specs.Memory.{mention, memories_of, mention_check}
use Rattle.vm_script.specs.Script.{ProcessLines, ScriptLines}
use Rattle.vm_script.specs.Statements.{reads_as}
use Rattle.vm_script.specs.Words.{IsEcho, is_name}

-- the outcome is the expected one, unless memory ran out
abbrev pub Gives : Result ScriptLines ScriptFault → Result ScriptLines ScriptError → Type 0
Gives expected (Ok s) = expected ≡ Ok s
Gives expected (Err (Fault f)) = expected ≡ Err f
Gives expected (Err Memory) = Unit {0}

-- what is read becomes the expected, unless memory ran out
abbrev pub Becomes : {T : Type 0} → Result T ScriptFault → T → Result (Unit {0}) ScriptError →
    Type 0
Becomes expected x (Ok done) = expected ≡ Ok x
Becomes expected x (Err (Fault f)) = expected ≡ Err f
Becomes expected x (Err Memory) = Unit {0}

-- the number fits a word of 32 bits
abbrev pub Fits32 : ℕ → Type 0
Fits32 n = n < 2 ^ 32

-- the word is one that may be a name
abbrev pub IsName : List ℕ → Type 0
IsName word = is_name word ≡ true

-- the numbers and names of a call are in range
abbrev pub InRange : Call → Type 0
InRange (OpenHandle nonblock) = Unit {0}
InRange CloseHandle = Unit {0}
InRange QueryCap = Unit {0}
InRange (EnumFmt t i) = Fits32 t × Fits32 i
InRange (GFmt t) = Fits32 t
InRange (TryFmt t f w h) = Fits32 t × Fits32 f.0 × Fits32 w × Fits32 h
InRange (SFmt t f w h) = Fits32 t × Fits32 f.0 × Fits32 w × Fits32 h
InRange (EnumInput i) = Fits32 i
InRange GInput = Unit {0}
InRange (SInput i) = Fits32 i
InRange (ReqBufs t m n) = Fits32 t × Fits32 m × Fits32 n
InRange (QueryBuf t i) = Fits32 t × Fits32 i
InRange (UAlloc u len off) = IsName u × Fits32 len × Fits32 off
InRange (QBuf t i user used ts) =
    Fits32 t × Fits32 i × IfSome user IsName × Fits32 used × Fits32 ts
InRange (StreamOn t) = Fits32 t
InRange (StreamOff t) = Fits32 t
InRange (DqBuf t) = Fits32 t
InRange (Mmap m t i ro) = IsName m × Fits32 t × Fits32 i
InRange (Munmap m) = IsName m
InRange (Peek m off len) = IsName m × Fits32 off × (1 ≤ len) × (len ≤ 256)
InRange (Hash m) = IsName m
InRange (Poke m off bytes) = IsName m × Fits32 off × (1 ≤ length bytes) × (length bytes ≤ 256)
InRange (Fill m seed) = IsName m × (seed ≤ 255)
InRange (Subscribe e) = Fits32 e
InRange (Unsubscribe e) = Fits32 e
InRange DqEvent = Unit {0}

-- the call is in range and on a handle that has a name, and the echo reads as it
pub record IsReadCall (names : List (List ℕ)) (echo : List ℕ) (h : ℕ) (call : Call) : Type 0 where
  pub within : h < length names
  pub range : InRange call
  pub reads : reads_as echo (slice_index_or names h []) call ≡ true

abbrev pub IsReadKind : List (List ℕ) → List ℕ → LineKind → Type 0
IsReadKind names echo (OnHandle h call) = IsReadCall names echo h call
IsReadKind names echo (Raw chain) = ⊥

-- the line is of a script, its words are joined by one space, and its number fits 32 bits
pub record IsReadLine (names : List (List ℕ)) (l : Line) : Type 0 where
  pub number : Fits32 l.number
  pub echo : IsEcho l.echo
  pub what : IsReadKind names l.echo l.what

-- how many handles a line opens
abbrev pub opens : LineKind → ℕ
opens (OnHandle h (OpenHandle nonblock)) = 1
opens k = 0

-- how many of the lines open a handle
abbrev pub opens_in : List Line → ℕ
opens_in [] = 0
opens_in (l ∷ ls) = opens l.what + opens_in ls

-- behind lines that opened so many handles: an open line opens the next, any other line is on one
-- of them
abbrev pub Fits : ℕ → LineKind → Type 0
Fits opened (OnHandle h (OpenHandle nonblock)) = h ≡ opened
Fits opened (OnHandle h call) = h < opened
Fits opened (Raw chain) = ⊥

-- the lines, behind lines that opened so many handles, open one after the other, and ask of those
-- that are opened
abbrev pub InOrder : ℕ → List Line → Type 0
InOrder opened [] = Unit {0}
InOrder opened (l ∷ ls) = Fits opened l.what × InOrder (opened + opens l.what) ls

-- Behind these lines, the name of memory in a call on a handle: one that the call declares is new
-- in the handle, any other was declared there.
abbrev pub FitsNames : List Line → LineKind → Type 0
FitsNames before (OnHandle h call) = mention_check (mention call) (memories_of h before) ≡ Ok tt
FitsNames before (Raw chain) = Unit {0}

-- the lines, behind these, declare each name of memory once in its handle, and before any line that
-- wants it
abbrev pub DeclareInOrder : List Line → List Line → Type 0
DeclareInOrder before [] = Unit {0}
DeclareInOrder before (l ∷ ls) = FitsNames before l.what × DeclareInOrder (before ++ l ∷ []) ls

-- a process as the lines of a script give it
pub record IsReadProcess (p : ProcessLines) : Type 0 where
  pub limit : length p.lines ≤ statement_limit
  pub handles : AllByRecursion IsName p.handles
  pub each : All (IsReadLine p.handles) p.lines
  pub order : InOrder 0 p.lines
  pub opened : length p.handles ≡ opens_in p.lines
  pub names : DeclareInOrder [] p.lines

-- a script that was read
pub record IsReadScript (script : ScriptLines) : Type 0 where
  pub some : 1 ≤ length script.processes
  pub few : length script.processes ≤ process_limit
  pub each : All IsReadProcess script.processes
