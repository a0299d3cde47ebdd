use Rattle.std.proofs.Common.{◌≡◌, ◌++◌, ◌%◌}
use Rattle.vm_bulk.specs.Bulk.{ended, below, taking}
use Rattle.vm_bulk.proofs.script.push_frames.Given as goal

abbrev pub invariant-loop-r : goal.invariant-loop-r
invariant-loop-r l = l.text.items ≡ l.fn.text.items ++ ended (below l.r (λ r. taking (r % 4)))
