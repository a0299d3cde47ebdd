use Rattle.std.proofs.Common.{◌≡◌, ◌+◌, ◌++◌, replicate, vec_len, vec_capacity}
use Rattle.vm_local.proofs.fresh.push_lengths.Given as goal

abbrev pub invariant-loop-k : goal.invariant-loop-k
invariant-loop-k l = record {
  items : l.lengths.items ≡ l.fn.lengths.items ++ replicate l._k l.size;
  len : vec_len l.lengths ≡ vec_len l.fn.lengths + l._k;
  capacity : vec_capacity l.lengths ≡ vec_capacity l.fn.lengths;
}
