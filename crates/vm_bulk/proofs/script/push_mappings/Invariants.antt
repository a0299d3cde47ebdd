use Rattle.std.proofs.Common.{◌≡◌, ◌++◌}
use Rattle.vm_bulk.specs.Bulk.{ended, below, mapping}
use Rattle.vm_bulk.proofs.script.push_mappings.Given as goal

abbrev pub invariant-loop-k : goal.invariant-loop-k
invariant-loop-k l = l.text.items ≡ l.fn.text.items ++ ended (below l.k mapping)
