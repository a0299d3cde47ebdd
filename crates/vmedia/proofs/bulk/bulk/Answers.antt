-- The line's counts and its digest are those of the run.
use Rattle.std.proofs.Common.{◌≡◌, ◌∙◌, List, ℕ, ap, subst, sym}
use Rattle.std.specs.Prelude.{sum_by}
use Rattle.std.proofs.lemmas.Result.{IfOk-weaker}
use Rattle.vm_report.specs.Logs.{HandleLog, Logs}
use Rattle.vm_report.specs.Printed.{IsPrinted}
use Rattle.vmedia.specs.Bulk.{IsBulk, bulk_line, frames_in}
use Rattle.vmedia.specs.Run.{IsRun, failures}
use Rattle.vmedia.proofs.ProgramLemmas.{run_printed, tells_bulk}
use Rattle.vmedia.proofs.bulk.bulk.Goals as goal

pub logs_told-requires : goal.logs_told-requires
logs_told-requires g c =
    let fails = failures (g.E.Engine.faults c.args.engine.now) (g.E.Engine.faults c.run.new.engine) in
    let P : List ℕ → Type 0 = λ b. (logs : Logs) × IsPrinted b logs in
    let runs = subst (λ seed. IsRun seed fails c.in_ok-script.script c.in_ok-printed.printed.items) c.from.ensures c.in_ok-printed.ensures in
    subst P (sym c.deref.ensures.value) (run_printed c.args.n fails c.in_ok-script.script c.in_ok-printed.printed.items runs)

pub returns : goal.returns
returns g c =
    let fails = failures (g.E.Engine.faults c.args.engine.now) (g.E.Engine.faults c.run.new.engine) in
    let runs = subst (λ seed. IsRun seed fails c.in_ok-script.script c.in_ok-printed.printed.items) c.from.ensures c.in_ok-printed.ensures in
    let told : IsPrinted c.in_ok-printed.printed.items c.in_ok-logs.logs = (let P : List ℕ → Type 0 = λ b. IsPrinted b c.in_ok-logs.logs in subst P c.deref.ensures.value c.in_ok-logs.ensures) in
    let taken = c.in_ok-frames.ensures ∙ ap (λ (hs : List HandleLog). sum_by (λ log. frames_in log.entries) hs) (c.deref-2.ensures.value ∙ ap (λ (ls : Logs). ls.handles) c.logs.view_is) in
    IfOk-weaker c.bulk_line.result (λ text. text.items ≡ bulk_line c.args.n c.in_ok-lines.lines c.in_ok-frames.frames c.digest-digest.result) (λ text. IsBulk c.args.n fails text.items)
    (λ text line. tells_bulk c.args.n fails c.in_ok-script.script c.in_ok-printed.printed.items c.in_ok-logs.logs c.in_ok-lines.lines c.in_ok-frames.frames c.digest-digest.result text.items
    c.in_ok-script.ensures.made runs told c.in_ok-lines.ensures taken c.digest-digest.ensures line) c.bulk_line.ensures
