use Rattle.std.proofs.Common.{◌≡◌, ◌++◌}
use Rattle.vm_bulk.specs.Bulk.{ended, below, numbered}
use Rattle.vm_bulk.proofs.script.push_each.Given as goal

abbrev pub invariant-loop-k : goal.invariant-loop-k
invariant-loop-k l = l.text.items ≡ l.fn.text.items ++ ended (below l.k (numbered l.words))
