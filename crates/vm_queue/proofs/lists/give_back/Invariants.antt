use Rattle.std.proofs.Common.{◌≡◌, ◌+◌, ◌≤◌, ◌++◌, length, vec_len, vec_capacity}
use Rattle.std.specs.VecDeque.{deque_capacity}
use Rattle.vm_queue.specs.Buffers.{memories}
use Rattle.vm_queue.proofs.lists.give_back.Given as goal

abbrev pub invariant-buffers : goal.invariant-buffers
invariant-buffers l = record {
  memories : l.back.items ++ memories l.queued.items ≡ l.fn.back.items ++ memories l.fn.queued.items;
  room : vec_len l.back + length l.queued.items ≤ vec_capacity l.back;
  back_room : vec_capacity l.back ≡ vec_capacity l.fn.back;
  capacity : deque_capacity l.queued ≡ deque_capacity l.fn.queued;
}

abbrev pub decreases-buffers : goal.decreases-buffers
decreases-buffers l = length l.queued.items
