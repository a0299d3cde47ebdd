use Rattle.std.proofs.Common.{◌≡◌, ◌++◌, codes, drop, flat_map}
use Rattle.std.specs.List.{AllByRecursion}
use Rattle.vm_report.specs.Printed.{FitsJournal}
use Rattle.vm_report.specs.Text.{journal_line}
use Rattle.vm_report.proofs.printer.push_journal.Given as goal

abbrev pub invariant-loop-entry : goal.invariant-loop-entry
invariant-loop-entry l = record {
  printed : l.fn.text.items ++ codes "region\n" ++ flat_map journal_line l.journal ≡ l.text.items ++ flat_map journal_line (drop l.entry-index l.journal);
  fits : AllByRecursion FitsJournal (drop l.entry-index l.journal) → AllByRecursion FitsJournal l.journal;
}
