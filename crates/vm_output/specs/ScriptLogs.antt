-- The logs of a script's lines: each line is answered by its own handle, and each log is a legal run
-- of a local one.
use Rattle.std.specs.Prelude.{ℕ, ◌≡◌, ◌<◌, ◌+◌, true, false, List, [], ◌∷◌, ◌++◌, Option, Some, None, map, is_some, All, slice_index_or}
use Rattle.v4l_const.specs.declared.model.Model.{Model}
use Rattle.v4l_const.specs.declared.errno.Errno.{Errno}
use Rattle.vm_local.specs.Log.{IsLegal}
use Rattle.vm_handle.specs.Handle.{has_opened}
use Rattle.vm_guest.specs.Raw.{raw_errno}
use Rattle.vm_region.specs.Region.{IsSoundJournal}
use Rattle.vm_script.specs.Grammar.{declares}
use Rattle.vm_script.specs.Script.{ProcessLines, ScriptLines}
use Rattle.vm_script.specs.Lines.{Numbered, lines_of, calls_of}
use Rattle.vm_script.specs.declared.line.Line.{Line}
use Rattle.vm_script.specs.declared.line.LineKind.{LineKind}
use Rattle.vm_script.specs.declared.line.LineKind.TheVariants.{OnHandle, Raw}
use Rattle.vm_realm.specs.Mapped.{Deals, mappings_of}
use Rattle.vm_realm.specs.World.{WorldState}
use Rattle.vm_report.specs.Logs.{HandleLog, RawLog, Logs, ids_of}
use Rattle.vm_report.specs.Digest.{digest_of}
use Rattle.vm_output.specs.Printing.{logs_of_run, raw_log}

-- ---- what is asked of each handle

-- one handle of a script: its process, its name, and the calls of the lines on it, in order
pub record Part : Type 0 where
  pub process : ℕ
  pub name : List ℕ
  pub calls : List Numbered

-- the handles of a process from this one on, in the order of their names
abbrev pub parts_from : ℕ → ℕ → List (List ℕ) → List Line → List Part
parts_from process h [] lines = []
parts_from process h (name ∷ names) lines =
    record { process = process; name = name; calls = lines_of h lines } ∷
    parts_from process (h + 1) names lines

-- the handles of the processes from this number on
abbrev pub parts_of : ℕ → List ProcessLines → List Part
parts_of process [] = []
parts_of process (p ∷ ps) = parts_from process 0 p.handles p.lines ++ parts_of (process + 1) ps

-- a log answers these calls, under this process and name
abbrev pub part_answered : HandleLog → Part
part_answered log = record { process = log.process; name = log.name; calls = calls_of log.entries }

-- the first of these calls opens the handle, and no later one does
abbrev pub OpensFirst : List Numbered → Type 0
OpensFirst [] = ⊥
OpensFirst (c ∷ cs) = (declares c.call ≡ true) × All (λ d. declares d.call ≡ false) cs

-- ---- what is asked by raw lines

-- a raw line's answer is a function of the line alone
abbrev pub errno_due : LineKind → Option Errno
errno_due (OnHandle h call) = None
errno_due (Raw chain) = Some (raw_errno chain)

-- the raw lines of a process, each with the answer that is due
abbrev pub raws_due : ℕ → List Line → List RawLog
raws_due process [] = []
raws_due process (l ∷ ls) =
    raw_log process l.number l.what (errno_due l.what) ++ raws_due process ls

-- those of the processes from this number on
abbrev pub raws_of : ℕ → List ProcessLines → List RawLog
raws_of process [] = []
raws_of process (p ∷ ps) = raws_due process p.lines ++ raws_of (process + 1) ps

-- ---- the logs

-- The log is a legal run of one local handle, on that handle's own lines alone; an id is printed
-- exactly where its open was answered ok.
pub record IsLocalRun (model : Model) (log : HandleLog) : Type 0 where
  pub legal : IsLegal model log.entries
  pub session : is_some log.session ≡ has_opened log.entries

-- the ids that are there are the numbers below their count, each once
pub record AreNumbersBelow (count : ℕ) (ids : List (Option ℕ)) : Type 0 where
  pub below : (h id : ℕ) → slice_index_or ids h None ≡ Some id → id < count
  pub there : (id : ℕ) → id < count → (h : ℕ) × (slice_index_or ids h None ≡ Some id)
  pub once : (h k id : ℕ) → slice_index_or ids h None ≡ Some id →
      slice_index_or ids k None ≡ Some id → h ≡ k

-- the logs of a script's lines
pub record AreLogsOf (script : ScriptLines) (logs : Logs) : Type 0 where
  -- every line is answered, and by its own handle: there is one log for each, in order
  pub answers : map part_answered logs.handles ≡ parts_of 0 script.processes
  pub raws : logs.raws ≡ raws_of 0 script.processes
  pub runs : All (IsLocalRun script.model) logs.handles
  -- the ids are the numbers below their count, each once
  pub ids : (n : ℕ) × AreNumbersBelow n (ids_of logs)
  -- the journal is sound and is a merge of the handles' own mappings, and no live range is given to
  -- the memory of another buffer
  pub sound : IsSoundJournal logs.journal
  pub deals : Deals logs.journal
      (map (λ log. mappings_of script.model log.entries None) logs.handles)
  -- the digest is that of what crossed
  pub wire : logs.wire ≡ digest_of script.model logs.handles

-- the logs of a world: its driver's, and its region's journal
abbrev pub logs_of_world : ScriptLines → WorldState → Logs
logs_of_world script w = logs_of_run script w.guest w.host.device.region.journal
