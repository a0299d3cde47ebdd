use Rattle.std.proofs.Common.{◌≡◌, length, take}
use Rattle.std.specs.Prelude.{sum_by}
use Rattle.vm_world.proofs.world.count_handles.Given as goal

-- the handles of the processes so far
abbrev pub invariant-loop-process : goal.invariant-loop-process
invariant-loop-process l = l.count ≡ sum_by (λ p. length p.handles) (take l.process-index l.process-items)
