use Rattle.std.proofs.Common.{◌≡◌, ◌++◌, map, take, drop}
use Rattle.vm_local.specs.Sizes.{resized}
use Rattle.vm_local.proofs.queues.resize.Given as goal

abbrev pub invariant-loop-queue : goal.invariant-loop-queue
invariant-loop-queue l = l.queues ≡ map (resized l.format) (take l.queue-index l.fn.queues) ++ drop l.queue-index l.fn.queues
