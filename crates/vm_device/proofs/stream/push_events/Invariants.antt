use Rattle.std.proofs.Common.{◌≡◌, ◌++◌, replicate}
use Rattle.std.specs.VecDeque.{deque_capacity}
use Rattle.vm_device.proofs.stream.push_events.Given as goal

abbrev pub invariant-loop-event : goal.invariant-loop-event
invariant-loop-event l = record {
  events : l.unsent.items ≡ l.fn.unsent.items ++ replicate l._event l.session;
  capacity : deque_capacity l.unsent ≡ deque_capacity l.fn.unsent;
}
