-- What is printed of a run: the logs that its driver and its device leave, in the script's words.
use Rattle.std.specs.Prelude.{ℕ, ◌+◌, List, [], ◌∷◌, ◌++◌, map, filter, flat_map, Option, Some, None}
use Rattle.v4l_const.specs.declared.errno.Errno.{Errno}
use Rattle.vm_script.specs.Lines.{echoes_by_handle}
use Rattle.vm_script.specs.Script.{ProcessLines, ScriptLines}
use Rattle.vm_script.specs.declared.line.Line.{Line}
use Rattle.vm_script.specs.declared.line.LineKind.{LineKind}
use Rattle.vm_script.specs.declared.line.LineKind.TheVariants.{OnHandle, Raw}
use Rattle.vm_handle.specs.Handle.{HandleState}
use Rattle.vm_guest.specs.Guest.{GuestState}
use Rattle.vm_guest.specs.Orderly.{is_raw}
use Rattle.vm_guest.specs.Process.{ProcessState}
use Rattle.vm_region.specs.declared.entry.RegionEntry.{RegionEntry}
use Rattle.vm_report.specs.Digest.{digest_of}
use Rattle.vm_report.specs.Logs.{HandleLog, RawLog, Logs}
use Rattle.vm_report.specs.Text.{Words}

-- ---- handles

-- a handle's log with its process and its name
abbrev pub handle_log : ℕ → List ℕ → HandleState → HandleLog
handle_log process name h =
    record { process = process; name = name; session = h.session; entries = h.log.entries }

-- a process's handles with their names, in order
abbrev pub handle_logs : ℕ → List (List ℕ) → List HandleState → List HandleLog
handle_logs process [] handles = []
handle_logs process (name ∷ names) [] = []
handle_logs process (name ∷ names) (h ∷ hs) =
    handle_log process name h ∷ handle_logs process names hs

-- the handles of the processes from this number on, in order
abbrev pub process_logs : ℕ → List ProcessLines → List ProcessState → List HandleLog
process_logs process [] states = []
process_logs process (p ∷ ps) [] = []
process_logs process (p ∷ ps) (s ∷ ss) =
    handle_logs process p.handles s.handles ++ process_logs (process + 1) ps ss

-- ---- raw lines

-- a line with its answer, if it is raw and answered
abbrev pub raw_log : ℕ → ℕ → LineKind → Option Errno → List RawLog
raw_log process line (OnHandle h call) answer = []
raw_log process line (Raw chain) None = []
raw_log process line (Raw chain) (Some errno) =
    record { process = process; line = line; chain = chain; errno = errno } ∷ []

-- the raw lines of a process that are answered
abbrev pub raw_logs : ℕ → List Line → List (Option Errno) → List RawLog
raw_logs process [] answers = []
raw_logs process (l ∷ ls) [] = []
raw_logs process (l ∷ ls) (answer ∷ answers) =
    raw_log process l.number l.what answer ++ raw_logs process ls answers

-- those of the processes from this number on
abbrev pub process_raws : ℕ → List ProcessLines → List ProcessState → List RawLog
process_raws process [] states = []
process_raws process (p ∷ ps) [] = []
process_raws process (p ∷ ps) (s ∷ ss) =
    raw_logs process p.lines s.raws ++ process_raws (process + 1) ps ss

-- ---- the logs

-- what is left of a script's run by its driver, and by its device, whose region has this journal
abbrev pub logs_of_run : ScriptLines → GuestState → List RegionEntry → Logs
logs_of_run script g journal = record {
  handles = process_logs 0 script.processes g.processes;
  raws = process_raws 0 script.processes g.processes;
  journal = journal;
  wire = digest_of script.model (process_logs 0 script.processes g.processes);
}

-- ---- the words

-- the words of a process's raw lines, in order
abbrev pub raw_echoes : ProcessLines → List (List ℕ)
raw_echoes p = map (λ l. l.echo) (filter (λ l. is_raw l.what) p.lines)

-- the script's own words, handle by handle, and of each raw line
abbrev pub words_of : ScriptLines → Words
words_of script = record {
  calls = flat_map echoes_by_handle script.processes;
  raws = flat_map raw_echoes script.processes;
}
