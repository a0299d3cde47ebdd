use Rattle.std.proofs.Common.{◌≡◌, length, drop}
use Rattle.vm_script.specs.Words.{lines_in}
use Rattle.vm_report.specs.Reading.{nothing, with_lines}
use Rattle.vm_report.proofs.readback.read.Given as goal

abbrev pub invariant-loop-line : goal.invariant-loop-line
invariant-loop-line l = record {
  can_next : (goal.iterator-loop-line).can_next l.line-iterator;
  is_finite : (goal.iterator-loop-line).is_finite l.line-iterator;
  reads : with_lines l.draft (drop (length l.yielded) (lines_in l.text)) ≡ with_lines nothing (lines_in l.text);
}
