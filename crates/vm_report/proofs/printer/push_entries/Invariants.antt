use Rattle.std.proofs.Common.{◌≡◌, ℕ, List, true, ◌++◌, drop, map}
use Rattle.std.specs.List.{AllByRecursion}
use Rattle.vm_report.specs.Lent.{IsLettered}
use Rattle.vm_report.specs.Printed.{FitsEntry}
use Rattle.vm_report.specs.Text.{entries_text, reads}
use Rattle.vm_report.proofs.printer.push_entries.Given as goal

abbrev pub invariant-loop-entry : goal.invariant-loop-entry
invariant-loop-entry l = record {
  printed : l.fn.text.items ++ entries_text l.entries (map (λ e. e.now) l.echoes) ≡ l.text.items ++ entries_text (drop l.entry-index l.entries) (map (λ e. e.now) (drop l.calls l.echoes));
  reads : (name : List ℕ) × (reads name (drop l.entry-index l.entries) (map (λ e. e.now) (drop l.calls l.echoes)) ≡ true);
  letters : AllByRecursion IsLettered (drop l.entry-index l.entries);
  fits : AllByRecursion FitsEntry (drop l.entry-index l.entries) → AllByRecursion FitsEntry l.entries;
}
