-- What `check` and `bulk` tell.
use Rattle.std.specs.Prelude.{ℕ, ◌≡◌, Bool, true, false, List, length, filter, ◌++◌, codes, sum_by, Ok}
use Rattle.std.specs.Fmt.{decimal}
use Rattle.hex.specs.Hex.{encode_lower}
use Rattle.sha2.specs.Sha256.{sha256}
use Rattle.vm_local.specs.declared.call.Call.TheVariants.{DqBuf}
use Rattle.vm_local.specs.declared.entry.Entry.{Entry}
use Rattle.vm_local.specs.declared.entry.Entry.TheVariants.{Called}
use Rattle.vm_local.specs.declared.reply.Reply.TheVariants.{Frame}
use Rattle.vm_script.specs.Script.{ScriptLines}
use Rattle.vm_script.specs.Grammar.{script_of}
use Rattle.vm_bulk.specs.Bulk.{bulk_text}
use Rattle.vm_realm.specs.World.{statement_count}
use Rattle.vm_report.specs.Logs.{Logs}
use Rattle.vm_report.specs.Printed.{IsPrinted}
use Rattle.vmedia.specs.Run.{Failures, IsRun}

-- ---- what is counted

-- a `dqbuf` that was answered ok
abbrev pub is_frame : Entry → Bool
is_frame (Called line (DqBuf t) (Frame index used seq ts flags)) = true
is_frame entry = false

-- how many frames a log took
abbrev pub frames_in : List Entry → ℕ
frames_in entries = length (filter is_frame entries)

-- how many frames all logs took
abbrev pub frames_among : Logs → ℕ
frames_among logs = sum_by (λ log. frames_in log.entries) logs.handles

-- ---- the lines that are written

-- the line of `check`: how many processes and statements there are
abbrev pub check_line : ℕ → ℕ → List ℕ
check_line processes lines =
    codes "ok " ++ (decimal processes ++ (codes " " ++ (decimal lines ++ codes "\n")))

-- the line of `bulk`: how many processes, statements and frames there are, and a digest
abbrev pub bulk_line : ℕ → ℕ → ℕ → List ℕ → List ℕ
bulk_line n lines frames digest =
    codes "bulk " ++ (decimal n ++ (codes " lines " ++ (decimal lines ++ (codes " frames "
    ++ (decimal frames ++ (codes " digest " ++ (encode_lower digest ++ codes "\n")))))))

-- ---- what they tell

-- the line tells what the script has
abbrev pub IsCounted : ScriptLines → List ℕ → Type 0
IsCounted script text = text ≡ check_line (length script.processes) (statement_count script)

-- The line tells of the run of the script that is made of so many processes, under the seed of that
-- number: the frames of the run's logs, and the digest of its text. No other logs have this text.
pub record IsBulk (n : ℕ) (fails : Failures) (text : List ℕ) : Type 0 where
  pub script : ScriptLines
  pub printed : List ℕ
  pub logs : Logs
  pub made : script_of (bulk_text n) ≡ Ok script
  pub runs : IsRun n fails script printed
  pub told : IsPrinted printed logs
  pub line : text ≡ bulk_line n (statement_count script) (frames_among logs) (sha256 printed)
