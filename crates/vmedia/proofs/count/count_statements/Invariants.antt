use Rattle.std.proofs.Common.{◌≡◌, length, take}
use Rattle.std.specs.Prelude.{sum_by}
use Rattle.vmedia.proofs.count.count_statements.Given as goal

-- the statements of the processes so far
abbrev pub invariant-loop-process : goal.invariant-loop-process
invariant-loop-process l = l.count ≡ sum_by (λ p. length p.lines) (take l.process-index l.process-items)
