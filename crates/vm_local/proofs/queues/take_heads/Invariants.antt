use Rattle.std.proofs.Common.{◌≡◌, ◌++◌, map, take, drop}
use Rattle.vm_local.specs.Steps.{taken}
use Rattle.vm_local.proofs.queues.take_heads.Given as goal

abbrev pub invariant-loop-queue : goal.invariant-loop-queue
invariant-loop-queue l = l.queues ≡ map (taken l.good l.timestamp) (take l.queue-index l.fn.queues) ++ drop l.queue-index l.fn.queues
