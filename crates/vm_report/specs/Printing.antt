-- What the parts of the printer write. What all of it writes is told by `IsPrintedWith` alone.
use Rattle.std.specs.Prelude.{ℕ, List, [], ◌++◌, ◌==◌, map, IfSome, if◌then◌else◌}
use Rattle.std.specs.List.{AllByRecursion}
use Rattle.vm_script.specs.Reading.{Fits32}
use Rattle.vm_report.specs.declared.lent.HandleText.{HandleText}
use Rattle.vm_report.specs.declared.lent.RawText.{RawText}
use Rattle.vm_report.specs.Lent.{log_in, echoes_in, raw_log_in, raw_echo_in}
use Rattle.vm_report.specs.Printed.{FitsEntry}
use Rattle.vm_report.specs.Text.{handle_text, handles_text, raw_text, raws_text}

-- a handle where it is of this process, and a raw line where it is
abbrev pub own_handle : ℕ → HandleText → List ℕ
own_handle process h = if h.process == process then handle_text (log_in h) (echoes_in h) else []

abbrev pub own_raw : ℕ → RawText → List ℕ
own_raw process r =
    if r.process == process then raw_text (raw_log_in r) (raw_echo_in r) else []

-- a process's handles, and then its raw lines
abbrev pub own_text : List HandleText → List RawText → ℕ → List ℕ
own_text handles raws process =
    handles_text process (map log_in handles) (map echoes_in handles) ++
    raws_text process (map raw_log_in raws) (map raw_echo_in raws)

-- the numbers of a handle's log are in their ranges
pub record NumbersFit (h : HandleText) : Type 0 where
  pub session : IfSome h.session Fits32
  pub entries : AllByRecursion FitsEntry h.entries.now
