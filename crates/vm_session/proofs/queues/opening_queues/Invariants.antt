use Rattle.std.proofs.Common.{◌≡◌, replicate}
use Rattle.vm_session.specs.State.{opening_queue}
use Rattle.vm_session.proofs.queues.opening_queues.Given as goal

abbrev pub invariant-loop-k : goal.invariant-loop-k
invariant-loop-k l = l.queues.items ≡ replicate l._k opening_queue
