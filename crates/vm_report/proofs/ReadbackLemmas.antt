-- What a reader gives that gives what is read of a text.
use Rattle.std.proofs.Common.{◌≡◌, ℕ, List, Some, None, Result, Ok, Err, sym, ◌∙◌}
use Rattle.std.specs.Prelude.{IfOk, IsErrOf}
use Rattle.vm_report.specs.declared.errors.LogsError.{LogsError}
use Rattle.vm_report.specs.declared.errors.LogsError.TheVariants.{NotPrinted, Memory}
use Rattle.vm_report.specs.Logs.{Logs}
use Rattle.vm_report.specs.Printed.{IsPrinted}
use Rattle.vm_report.specs.Reading.{Gives, read}
use Rattle.vm_report.proofs.SoundLemmas.{read_printed}
use Rattle.vm_report.proofs.CompleteLemmas.{printed_read}

pub gives_printed : (text : List ℕ) (r : Result Logs LogsError) → Gives (read text) r → IfOk r (λ logs. IsPrinted text logs)
gives_printed text (Ok logs) h = read_printed text logs h
gives_printed text (Err e) h = tt

pub gives_none : (text : List ℕ) (r : Result Logs LogsError) → Gives (read text) r → IsErrOf r NotPrinted → (logs : Logs) → IsPrinted text logs → ⊥
gives_none text (Ok other) h is logs p = cc
gives_none text (Err NotPrinted) h is logs p = let e : None ≡ Some logs = sym h ∙ printed_read text logs p in cc
gives_none text (Err Memory) h is logs p = cc
