use Rattle.std.proofs.Common.{◌≡◌, replicate, vec_capacity}
use Rattle.vm_session.proofs.lists.set_all.Given as goal

abbrev pub invariant-loop-k : goal.invariant-loop-k
invariant-loop-k l = record {
  items : l.numbers.items ≡ replicate l._k l.value;
  capacity : vec_capacity l.numbers ≡ vec_capacity l.fn.numbers;
}
