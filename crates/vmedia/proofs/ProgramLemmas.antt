-- Lemmas on a script that is made, and on what `check` and `bulk` tell.
use Rattle.std.proofs.Common.{◌≡◌, ◌≤◌, ◌<◌, ◌-◌, ◌^◌, ℕ, List, Ok, Err, length, refl, sym, ap, ◌∙◌, subst, arith}
use Rattle.std.specs.Prelude.{sum_by}
use Rattle.sha2.specs.Sha256.{sha256}
use Rattle.vm_script.specs.declared.fault.ScriptError.{ScriptError}
use Rattle.vm_script.specs.declared.fault.ScriptError.TheVariants.{Fault}
use Rattle.vm_script.specs.declared.fault.ScriptFault.{ScriptFault}
use Rattle.vm_script.specs.Grammar.{script_of}
use Rattle.vm_script.specs.Reading.{Gives}
use Rattle.vm_script.specs.Script.{ScriptLines}
use Rattle.vm_bulk.specs.Bulk.{bulk_text}
use Rattle.vm_realm.specs.World.{statement_count}
use Rattle.vm_report.specs.Logs.{Logs}
use Rattle.vm_report.specs.Printed.{IsPrinted}
use Rattle.vm_words.specs.declared.command.Task.{Task}
use Rattle.vm_words.specs.declared.command.Task.TheVariants.{Check, Run}
use Rattle.vmedia.specs.Bulk.{IsBulk, IsCounted, bulk_line, frames_in}
use Rattle.vmedia.specs.Run.{Failures, IsRun}
use Rattle.vmedia.specs.Top.{TellsTask, script_limit}

-- ---- a script that is made

-- a text that may be a script's fits 32 bits
pub fits : (n limit : ℕ) → limit ≡ 4194304 → n ≤ limit → n < 2 ^ 32 - 1
fits n limit is short = omega (arith, is, short)

-- bytes that are a text are as few
pub as_few : (bytes text : List ℕ) → bytes ≡ text → length text ≤ 4194304 → length bytes < 2 ^ 32 - 1
as_few bytes text same few = let P : List ℕ → Type 0 = λ b. length b ≤ 4194304 in fits (length bytes) 4194304 refl (subst P (sym same) few)

-- bytes that are a script's text have no fault
pub no_fault : (bytes text : List ℕ) (s : ScriptLines) (e : ScriptError) (f : ScriptFault) → bytes ≡ text → script_of text ≡ Ok s → e ≡ Fault f → Gives (script_of bytes) (Err e) → ⊥
no_fault bytes text s e f same reads is gives =
    let P : ScriptError → Type 0 = λ x. Gives (script_of bytes) (Err x) in
    let both : Ok s ≡ Err f = sym reads ∙ (ap script_of (sym same) ∙ subst P is gives) in cc

pub same_script : (bytes text : List ℕ) (s : ScriptLines) → bytes ≡ text → script_of bytes ≡ Ok s → script_of text ≡ Ok s
same_script bytes text s same reads = ap script_of (sym same) ∙ reads

-- ---- a bulk run

-- a run's text is printed of logs
pub run_printed : (seed : ℕ) (fails : Failures) (s : ScriptLines) (text : List ℕ) → IsRun seed fails s text → (logs : Logs) × IsPrinted text logs
run_printed seed fails s text runs = (_, runs.2.told.printed)

-- the line tells of a run, where it has its counts and its digest
pub tells_bulk : (n : ℕ) (fails : Failures) (s : ScriptLines) (printed : List ℕ) (logs : Logs) (lines frames : ℕ) (digest text : List ℕ)
    → script_of (bulk_text n) ≡ Ok s → IsRun n fails s printed → IsPrinted printed logs → lines ≡ statement_count s → frames ≡ sum_by (λ log. frames_in log.entries) logs.handles → digest ≡ sha256 printed
    → text ≡ bulk_line n lines frames digest → IsBulk n fails text
tells_bulk n fails s printed logs lines frames digest text made runs told count taken hashed line = record {
  script = s;
  printed = printed;
  logs = logs;
  made = made;
  runs = runs;
  told = told;
  line = line ∙ (rw (count, taken, hashed) refl);
}

-- ---- what is told of a script that is read

pub tells_check : (task : Task) (fails : Failures) (s : ScriptLines) (bytes text : List ℕ) → task ≡ Check → length bytes ≤ script_limit → script_of bytes ≡ Ok s → IsCounted s text → TellsTask task fails bytes text
tells_check task fails s bytes text is short reads counted = let P : Task → Type 0 = λ t. TellsTask t fails bytes text in subst P (sym is) (short, (s, reads, counted))

pub tells_run : (task : Task) (seed : ℕ) (fails : Failures) (s : ScriptLines) (bytes text : List ℕ) → task ≡ Run seed → length bytes ≤ script_limit → script_of bytes ≡ Ok s → IsRun seed fails s text → TellsTask task fails bytes text
tells_run task seed fails s bytes text is short reads runs = let P : Task → Type 0 = λ t. TellsTask t fails bytes text in subst P (sym is) (short, (s, reads, runs))
