-- What the top call answers and writes.
use Rattle.std.specs.Prelude.{ℕ, ◌≡◌, true, ◌<◌, ◌≤◌, ◌⊎◌, ◌++◌, List, length, codes, Option, None, Some, Ok, Err, IsSome, IfSome}
use Rattle.std.specs.Fmt.{decimal}
use Rattle.vm_io.specs.Bytes.{NothingLeft, WasAppended, PartAppended}
use Rattle.vm_io.specs.Faults.{Rose}
use Rattle.vm_script.specs.declared.fault.ScriptFault.{ScriptFault}
use Rattle.vm_script.specs.declared.fault.ScriptKind.{ScriptKind}
use Rattle.vm_script.specs.declared.fault.ScriptKind.TheVariants.{Word, Name, Number, TooManyProcesses, TooManyLines, OpenTwice, NotDeclared, WellFormedRaw, NotBuilt}
use Rattle.vm_script.specs.Script.{ScriptLines}
use Rattle.vm_script.specs.Grammar.{script_of}
use Rattle.vmedia.specs.declared.ending.Ending.{Ending}
use Rattle.vmedia.specs.declared.ending.Ending.TheVariants.{Ran, BadWords, BadScript, SourceFailed, SinkFailed, NoMemory}
use Rattle.vm_words.specs.declared.command.Command.{Command}
use Rattle.vm_words.specs.declared.command.Command.TheVariants.{OnScript, Bulk}
use Rattle.vm_words.specs.declared.command.Task.{Task}
use Rattle.vm_words.specs.declared.command.Task.TheVariants.{Check, Run}
use Rattle.vmedia.specs.Bulk.{IsBulk, IsCounted}
use Rattle.vm_words.specs.Command.{command_in, reads_script}
use Rattle.vmedia.specs.Run.{Failures, failures, IsRun}

-- how many bytes a script has at most
abbrev pub script_limit : ℕ
script_limit = 4194304

-- the line that says which command lines there are
abbrev pub usage_line : List ℕ
usage_line = codes "usage: vmedia check | step SEED | bulk N | run W\n"

abbrev pub kind_text : ScriptKind → List ℕ
kind_text Word = codes "Word"
kind_text Name = codes "Name"
kind_text Number = codes "Number"
kind_text TooManyProcesses = codes "TooManyProcesses"
kind_text TooManyLines = codes "TooManyLines"
kind_text OpenTwice = codes "OpenTwice"
kind_text NotDeclared = codes "NotDeclared"
kind_text WellFormedRaw = codes "WellFormedRaw"
kind_text NotBuilt = codes "NotBuilt"

-- the line that tells a faulty line and what is wrong with it
abbrev pub fault_line : ℕ → List ℕ → List ℕ
fault_line line kind = codes "script " ++ decimal line ++ codes " " ++ kind ++ codes "\n"

-- the line for too many bytes
abbrev pub too_long_line : List ℕ
too_long_line = fault_line 0 (codes "TooLong")

-- ---- what is told

-- The bytes are no script, and the line tells the first fault; too many bytes are told as line 0.
abbrev pub TellsFault : List ℕ → List ℕ → Type 0
TellsFault bytes text =
    ((script_limit < length bytes) × (text ≡ too_long_line))
    ⊎ ((length bytes ≤ script_limit)
    × ((f : ScriptFault) × (script_of bytes ≡ Err f) ×
    (text ≡ fault_line f.line (kind_text f.kind))))

-- The bytes are a script, and the text is that of its run under the seed's schedule, while the
-- engine failed so often.
abbrev pub TellsRun : ℕ → Failures → List ℕ → List ℕ → Type 0
TellsRun seed fails bytes text =
    (length bytes ≤ script_limit) ×
    ((s : ScriptLines) × (script_of bytes ≡ Ok s) × IsRun seed fails s text)

-- The bytes are a script, and the text tells how many processes and statements it has.
abbrev pub TellsCheck : List ℕ → List ℕ → Type 0
TellsCheck bytes text =
    (length bytes ≤ script_limit) ×
    ((s : ScriptLines) × (script_of bytes ≡ Ok s) × IsCounted s text)

-- the text is what is told of a script's bytes
abbrev pub TellsTask : Task → Failures → List ℕ → List ℕ → Type 0
TellsTask Check fails bytes text = TellsCheck bytes text
TellsTask (Run seed) fails bytes text = TellsRun seed fails bytes text

-- The text is what is told where the command is done: of the source's bytes, where it tells them, or
-- of the script that is made.
abbrev pub TellsDone : Command → Failures → Option (List ℕ) → List ℕ → Type 0
TellsDone (OnScript task) fails left text = IfSome left (λ bytes. TellsTask task fails bytes text)
TellsDone (Bulk n) fails left text = IsBulk n fails text

-- The text is what is told where the script is faulty. A script that is made is not.
abbrev pub TellsBad : Command → Option (List ℕ) → List ℕ → Type 0
TellsBad (OnScript task) left text = IfSome left (λ bytes. TellsFault bytes text)
TellsBad (Bulk n) left text = ⊥

-- The text answers the source's bytes, where it tells them, to this command.
abbrev pub Answers : Command → Failures → Option (List ℕ) → Ending → List ℕ → Type 0
Answers command fails left Ran text = TellsDone command fails left text
Answers command fails left BadScript text = TellsBad command left text
Answers command fails left ending text = ⊥

-- The text answers these words and the source's bytes, and this ending goes with it. Three endings
-- have no text.
abbrev pub Tells :
    List (List ℕ) → Failures → Option (List ℕ) → Ending → List ℕ → Type 0
Tells words fails left BadWords text = (command_in words ≡ None) × (text ≡ usage_line)
Tells words fails left ending text =
    (command : Command) × (command_in words ≡ Some command) × Answers command fails left ending text

-- ---- the outside

-- a source: the bytes that it has left, where it tells them, and how many of its calls failed
pub record SourceView : Type 0 where
  pub left : Option (List ℕ)
  pub faults : ℕ

-- a sink: the bytes that it holds, where it tells them, and how many of its calls failed
pub record SinkView : Type 0 where
  pub held : Option (List ℕ)
  pub faults : ℕ

-- what a call sees of its outside, with how many of the engine's calls failed
pub record Outside : Type 0 where
  pub source : SourceView
  pub sink : SinkView
  pub engine : ℕ

abbrev pub sink_view : Option (List ℕ) → ℕ → SinkView
sink_view held faults = record { held = held; faults = faults }

abbrev pub outside : Option (List ℕ) → ℕ → Option (List ℕ) → ℕ → ℕ → Outside
outside left read_faults held write_faults engine_faults = record {
  source = record { left = left; faults = read_faults };
  sink = record { held = held; faults = write_faults };
  engine = engine_faults;
}

-- how often the engine failed
abbrev pub failed : Outside → Outside → Failures
failed before after = failures before.engine after.engine

-- The text went out whole, and no write failed.
abbrev pub WroteAll : SinkView → SinkView → List ℕ → Type 0
WroteAll before after text =
    WasAppended before.held after.held text × (after.faults ≡ before.faults)

-- A write failed, and a front of the text had gone out before.
abbrev pub WrotePart : SinkView → SinkView → List ℕ → Type 0
WrotePart before after text =
    Rose before.faults after.faults × PartAppended before.held after.held text

-- The text was written whole, and then the ending is the one that was to be told; or the sink
-- failed.
abbrev pub IsWritten : SinkView → SinkView → List ℕ → Ending → Ending → Type 0
IsWritten before after text told ending =
    ((ending ≡ told) × WroteAll before after text) ⊎
    ((ending ≡ SinkFailed) × WrotePart before after text)

-- ---- the endings

-- the status with which the program ends
abbrev pub status_of : Ending → ℕ
status_of Ran = 0
status_of BadWords = 2
status_of BadScript = 3
status_of SourceFailed = 4
status_of SinkFailed = 5
status_of NoMemory = 6

-- no read failed
abbrev pub ReadsWell : Outside → Outside → Type 0
ReadsWell before after = after.source.faults ≡ before.source.faults

-- What goes with the ending was written whole, and no call failed.
abbrev pub IsTold : List (List ℕ) → Outside → Outside → Ending → Type 0
IsTold words before after ending =
    ReadsWell before after
    × ((text : List ℕ) × Tells words (failed before after) before.source.left ending text ×
    WroteAll before.sink after.sink text)

-- a script that the words read was read to its end
abbrev pub ReadToEnd : List (List ℕ) → Outside → Type 0
ReadToEnd words after = reads_script (command_in words) ≡ true → NothingLeft after.source.left

-- How the program ends: what each ending says of the words, and of the outside before and after.
abbrev pub Ends : List (List ℕ) → Outside → Outside → Ending → Type 0
Ends words before after Ran = IsTold words before after Ran × ReadToEnd words after
Ends words before after BadWords =
    IsTold words before after BadWords × (after.source.left ≡ before.source.left)
Ends words before after BadScript = IsTold words before after BadScript
Ends words before after SourceFailed =
    (reads_script (command_in words) ≡ true) × Rose before.source.faults after.source.faults ×
    (after.sink ≡ before.sink)
Ends words before after SinkFailed =
    ReadsWell before after
    × ((told : Ending) × (text : List ℕ)
    × Tells words (failed before after) before.source.left told text
    × WrotePart before.sink after.sink text)
Ends words before after NoMemory =
    IsSome (command_in words) × ReadsWell before after × (after.sink ≡ before.sink)

-- The program ends with this status.
abbrev pub EndsWith : List (List ℕ) → Outside → Outside → ℕ → Type 0
EndsWith words before after status =
    (ending : Ending) × (status ≡ status_of ending) × Ends words before after ending

-- a text of this kind was written whole
abbrev pub Wrote : Option (List ℕ) → Option (List ℕ) → (List ℕ → Type 0) → Type 0
Wrote held held' P = (text : List ℕ) × P text × WasAppended held held' text
