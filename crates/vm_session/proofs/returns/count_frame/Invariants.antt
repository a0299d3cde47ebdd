use Rattle.std.proofs.Common.{◌≡◌, ◌≤◌, ◌++◌, All, length, map, take, drop}
use Rattle.vm_session.specs.State.{SessionQueue}
use Rattle.vm_session.specs.Streaming.{counted}
use Rattle.vm_session.proofs.returns.count_frame.Given as goal

abbrev pub invariant-loop-queue : goal.invariant-loop-queue
invariant-loop-queue l = record {
  queues : l.queues ≡ map counted (take l.queue-index l.fn.queues) ++ drop l.queue-index l.fn.queues;
  few : All (λ (q : SessionQueue). length q.out ≤ 32) (take l.queue-index l.queues);
}
