use Rattle.std.proofs.Common.{◌≡◌, ◌++◌, map, take, drop}
use Rattle.vm_local.specs.Queue.{stopped_queue}
use Rattle.vm_local.proofs.queues.stop_all.Given as goal

abbrev pub invariant-loop-queue : goal.invariant-loop-queue
invariant-loop-queue l = l.queues ≡ map stopped_queue (take l.queue-index l.fn.queues) ++ drop l.queue-index l.fn.queues
