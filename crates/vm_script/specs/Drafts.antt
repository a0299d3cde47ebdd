-- A script while its lines are read, and the lines that are no statements.
use Rattle.std.specs.Prelude.{ℕ, ◌+◌, ◌==◌, nat_le, Bool, true, false, List, [], ◌∷◌, ◌++◌, length, Option, Some, None, Result, Ok, Err, if◌then◌else◌, codes}
use Rattle.std.specs.Option.{ok_or}
use Rattle.std.specs.Str.{bytes_eq}
use Rattle.v4l_const.specs.declared.model.Model.{Model}
use Rattle.v4l_const.specs.declared.model.Model.TheVariants.{Capture, Convert}
use Rattle.vm_script.specs.declared.fault.ScriptKind.{ScriptKind}
use Rattle.vm_script.specs.declared.fault.ScriptKind.TheVariants.{Word, TooManyProcesses}
use Rattle.vm_script.specs.Places.{and_then}
use Rattle.vm_script.specs.Script.{ProcessLines}

-- What has been read of a script so far: whether a line with words was, the model, the processes
-- before the one that the next line is of, and that process.
pub record ScriptDraft : Type 0 where
  pub begun : Bool
  pub model : Model
  pub before : List ProcessLines
  pub process : ProcessLines

-- a process without lines
abbrev pub no_lines : ProcessLines
no_lines = record { handles = []; lines = [] }

-- nothing was read
abbrev pub no_script : ScriptDraft
no_script = record { begun = false; model = Capture; before = []; process = no_lines }

-- how many processes a script has at most
abbrev pub process_limit : ℕ
process_limit = 16

-- the model of this name
abbrev pub model_in : List ℕ → Option Model
model_in word =
    if bytes_eq word (codes "capture") then Some Capture
    else (if bytes_eq word (codes "convert") then Some Convert else None)

-- the model that the words of a `device` line name
abbrev pub device_in : List (List ℕ) → Option Model
device_in (first ∷ word ∷ []) = model_in word
device_in words = None

-- the draft with a `device` line of these words, which is the first line that has words
abbrev pub with_device : ScriptDraft → List (List ℕ) → Result ScriptDraft ScriptKind
with_device d words =
    if d.begun then Err Word
    else and_then (ok_or (device_in words) Word)
    (λ model. Ok (record d { begun = true; model = model }))

-- the draft with one process more
abbrev pub with_more : ScriptDraft → Result ScriptDraft ScriptKind
with_more d =
    if nat_le process_limit (length d.before + 1) then Err TooManyProcesses
    else Ok (record d { begun = true; before = d.before ++ d.process ∷ []; process = no_lines })

-- the draft with a `proc` line of these words, behind which the next process begins
abbrev pub with_process : ScriptDraft → List (List ℕ) → Result ScriptDraft ScriptKind
with_process d words = if length words == 1 then with_more d else Err Word

-- the draft with a statement of its process
abbrev pub with_own : ScriptDraft → Result ProcessLines ScriptKind →
    Result ScriptDraft ScriptKind
with_own d r = and_then r (λ p. Ok (record d { begun = true; process = p }))
