use Rattle.std.proofs.Common.{◌≡◌, ◌≤◌, None, replicate, vec_len, vec_capacity}
use Rattle.vm_split.proofs.parcels.no_parcels.Given as goal

abbrev pub invariant-loop-head : goal.invariant-loop-head
invariant-loop-head l = record {
  parcels : l.parcels.items ≡ replicate l._head None;
  count : vec_len l.parcels ≡ l._head;
  room : l.size ≤ vec_capacity l.parcels;
}
