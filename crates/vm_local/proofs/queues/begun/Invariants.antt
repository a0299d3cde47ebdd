use Rattle.std.proofs.Common.{◌≡◌, replicate}
use Rattle.vm_local.specs.State.{opening_queue}
use Rattle.vm_local.proofs.queues.begun.Given as goal

abbrev pub invariant-loop-k : goal.invariant-loop-k
invariant-loop-k l = l.queues.items ≡ replicate l._k opening_queue
