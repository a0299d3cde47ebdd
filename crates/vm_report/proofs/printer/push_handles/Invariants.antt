use Rattle.std.proofs.Common.{◌≡◌, ◌++◌, drop, map}
use Rattle.std.specs.List.{AllByRecursion}
use Rattle.vm_report.specs.Lent.{CanPrintHandle, log_in, echoes_in}
use Rattle.vm_report.specs.Printing.{NumbersFit}
use Rattle.vm_report.specs.Text.{handles_text}
use Rattle.vm_report.proofs.printer.push_handles.Given as goal

abbrev pub invariant-loop-handle : goal.invariant-loop-handle
invariant-loop-handle l = record {
  printed : l.fn.text.items ++ handles_text l.process (map log_in l.handles) (map echoes_in l.handles) ≡ l.text.items ++ handles_text l.process (map log_in (drop l.handle-index l.handles)) (map echoes_in (drop l.handle-index l.handles));
  can : AllByRecursion CanPrintHandle (drop l.handle-index l.handles);
  fits : AllByRecursion (λ h. h.process ≡ l.process → NumbersFit h) (drop l.handle-index l.handles) → AllByRecursion (λ h. h.process ≡ l.process → NumbersFit h) l.handles;
}
