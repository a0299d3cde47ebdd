use Rattle.std.proofs.Common.{◌≡◌, ◌<◌, ◌++◌, flat_map}
use Rattle.std.specs.List.{AllByRecursion, range_with_len}
use Rattle.vm_script.specs.Reading.{Fits32}
use Rattle.vm_report.specs.Printing.{NumbersFit, own_text}
use Rattle.vm_report.proofs.printer.push_processes.Given as goal

abbrev pub invariant-loop-process : goal.invariant-loop-process
invariant-loop-process l = record {
  printed : l.text.items ≡ l.fn.text.items ++ flat_map (own_text l.handles l.raws) (range_with_len 0 l.process);
  handles : AllByRecursion (λ h. h.process < l.process → NumbersFit h) l.handles;
  raws : AllByRecursion (λ r. r.process < l.process → Fits32 r.line) l.raws;
}
