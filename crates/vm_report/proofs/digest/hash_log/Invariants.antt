use Rattle.std.proofs.Common.{drop}
use Rattle.std.specs.List.{AllByRecursion}
use Rattle.vm_exchange.specs.Range.{HasWords}
use Rattle.vm_report.proofs.DigestLemmas.{Follows}
use Rattle.vm_report.proofs.digest.hash_log.Given as goal

abbrev pub invariant-loop-entry : goal.invariant-loop-entry
invariant-loop-entry l = record {
  follows : Follows l.fn.model l.session l.log (drop l.entry-index l.log) l.kept l.fn.hasher l.hasher;
  words : AllByRecursion HasWords (drop l.entry-index l.log) → AllByRecursion HasWords l.log;
}
