-- The grammar of scripts, by lines: which bytes are a script, and which line is faulty first.
use Rattle.std.specs.Prelude.{ℕ, ◌+◌, nat_le, Bool, true, false, List, [], ◌∷◌, ◌++◌, length, Option, Some, None, Result, Ok, Err, if◌then◌else◌, codes}
use Rattle.std.specs.List.{join_with_byte}
use Rattle.vm_local.specs.declared.call.Call.{Call}
use Rattle.vm_local.specs.declared.call.Call.TheVariants.{OpenHandle}
use Rattle.vm_script.specs.declared.fault.ScriptFault.{ScriptFault}
use Rattle.vm_script.specs.declared.fault.ScriptKind.{ScriptKind}
use Rattle.vm_script.specs.declared.fault.ScriptKind.TheVariants.{TooManyLines, OpenTwice, NotDeclared, NotBuilt}
use Rattle.vm_script.specs.declared.line.LineKind.TheVariants.{OnHandle}
use Rattle.vm_script.specs.declared.statement.Statement.{Statement}
use Rattle.vm_script.specs.Drafts.{ScriptDraft, no_script, with_device, with_process, with_own}
use Rattle.vm_script.specs.Memory.{mention, memories_of, mention_check}
use Rattle.vm_script.specs.Names.{place_from}
use Rattle.vm_script.specs.Script.{ProcessLines, ScriptLines}
use Rattle.vm_script.specs.Verbs.{begins, is_built_line}
pub use Rattle.vm_script.specs.Drafts.{no_lines}
pub use Rattle.vm_script.specs.Words.{lines_in, words_in, is_skipped, is_name, name_in, is_digit, number_in, code_in}
pub use Rattle.vm_script.specs.Places.{and_then}
pub use Rattle.vm_script.specs.Statements.{statement_in, reads_as}

-- ---- processes

-- how many statements a process has at most
abbrev pub statement_limit : ℕ
statement_limit = 1024

-- the call declares its handle's name
abbrev pub declares : Call → Bool
declares (OpenHandle nonblock) = true
declares call = false

-- The handle that a name stands for, by whether the line declares it, and by its place among the
-- names that are declared: a new name is that of the next handle.
abbrev pub handle_by : ℕ → Bool → Option ℕ → Result ℕ ScriptKind
handle_by next true None = Ok next
handle_by next true (Some h) = Err OpenTwice
handle_by next false None = Err NotDeclared
handle_by next false (Some h) = Ok h

-- The handle that a statement is on. Its name of memory is judged by those that earlier lines
-- declare in that handle.
abbrev pub handle_of : ProcessLines → Statement → Result ℕ ScriptKind
handle_of p s =
    and_then (handle_by (length p.handles) (declares s.call) (place_from 0 s.handle p.handles))
    (λ h. and_then (mention_check (mention s.call) (memories_of h p.lines)) (λ fine. Ok h))

-- the handle that a statement is on, or the first fault that it has by the lines before it
abbrev pub handle_for : ProcessLines → Statement → Result ℕ ScriptKind
handle_for p s = if nat_le statement_limit (length p.lines) then Err TooManyLines else handle_of p s

-- the process with the line of a statement on this handle
abbrev pub with_statement : ProcessLines → ℕ → List ℕ → Statement → ℕ → ProcessLines
with_statement p number echo s h = record {
  handles = if declares s.call then p.handles ++ s.handle ∷ [] else p.handles;
  lines = p.lines ++ record { number = number; echo = echo; what = OnHandle h s.call } ∷ [];
}

-- the process with the line of a statement, or the first fault that it has by the lines before it
abbrev pub with_asked : ProcessLines → ℕ → List ℕ → Statement → Result ProcessLines ScriptKind
with_asked p number echo s = and_then (handle_for p s) (λ h. Ok (with_statement p number echo s h))

-- the process with the line of these words, or the line's first fault
abbrev pub with_words : ProcessLines → ℕ → List (List ℕ) → Result ProcessLines ScriptKind
with_words p number words =
    and_then (statement_in words) (λ s. with_asked p number (join_with_byte 32 words) s)

-- ---- scripts

-- the draft with the line of these words, or the line's first fault
abbrev pub with_any : ScriptDraft → ℕ → List (List ℕ) → Result ScriptDraft ScriptKind
with_any d number words =
    if begins (codes "device") words then with_device d words
    else (if begins (codes "proc") words then with_process d words
    else with_own d (with_words d.process number words))

-- the same, where a line that isn't built has that fault before any other
abbrev pub with_built : ScriptDraft → ℕ → List (List ℕ) → Result ScriptDraft ScriptKind
with_built d number words = if is_built_line words then with_any d number words else Err NotBuilt

-- the outcome of the line of this number
abbrev pub at_line : {T : Type 0} → ℕ → Result T ScriptKind → Result T ScriptFault
at_line number (Ok x) = Ok x
at_line number (Err kind) = Err (record { line = number; kind = kind })

-- the draft with the line of this number, or the line's fault
abbrev pub with_line : ScriptDraft → ℕ → List ℕ → Result ScriptDraft ScriptFault
with_line d number line =
    if is_skipped line then Ok d else at_line number (with_built d number (words_in line))

-- the draft with these lines, numbered from this number on, or the first faulty line's fault
abbrev pub with_lines : ScriptDraft → ℕ → List (List ℕ) → Result ScriptDraft ScriptFault
with_lines d number [] = Ok d
with_lines d number (line ∷ lines) =
    and_then (with_line d number line) (λ e. with_lines e (number + 1) lines)

-- the script of a draft
abbrev pub drafted : ScriptDraft → ScriptLines
drafted d = record { model = d.model; processes = d.before ++ d.process ∷ [] }

abbrev pub as_script : Result ScriptDraft ScriptFault → Result ScriptLines ScriptFault
as_script (Ok d) = Ok (drafted d)
as_script (Err f) = Err f

-- the script that the bytes are, or their first fault
abbrev pub script_of : List ℕ → Result ScriptLines ScriptFault
script_of bytes = as_script (with_lines no_script 1 (lines_in bytes))
