use Rattle.std.proofs.Common.{◌≡◌, ◌+◌, ◌*◌, ◌≤◌, ◌++◌, map, take, drop, vec_len, vec_capacity}
use Rattle.vm_session.specs.Buffers.{stopped_queue, queued_memories}
use Rattle.vm_session.proofs.queues.stop_all.Given as goal

abbrev pub invariant-loop-queue : goal.invariant-loop-queue
invariant-loop-queue l = record {
  queues : l.queues ≡ map stopped_queue (take l.queue-index l.fn.queues) ++ drop l.queue-index l.fn.queues;
  memories : l.back.items ≡ l.fn.back.items ++ queued_memories (take l.queue-index l.fn.queues);
  few : vec_len l.back ≤ vec_len l.fn.back + 32 * l.queue-index;
  room : vec_capacity l.back ≡ vec_capacity l.fn.back;
}
