use Rattle.std.proofs.Common.{◌≡◌, ◌+◌, length, drop}
use Rattle.vm_script.specs.Drafts.{no_script}
use Rattle.vm_script.specs.Grammar.{lines_in, with_lines}
use Rattle.vm_script.proofs.reader.read_script.Given as goal

abbrev pub invariant-loop-line : goal.invariant-loop-line
invariant-loop-line l = record {
  can_next : (goal.iterator-loop-line).can_next l.line-iterator;
  is_finite : (goal.iterator-loop-line).is_finite l.line-iterator;
  counted : l.number ≡ length l.yielded;
  reads : with_lines l.script (l.number + 1) (drop l.number (lines_in l.bytes)) ≡ with_lines no_script 1 (lines_in l.bytes);
}
