use Rattle.std.proofs.Common.{◌≡◌, ◌≤◌, vec_len, vec_capacity}
use Rattle.std.specs.List.{range_with_len}
use Rattle.vm_link.proofs.heads.all_heads.Given as goal

abbrev pub invariant-loop-head : goal.invariant-loop-head
invariant-loop-head l = record {
  heads : l.heads.items ≡ range_with_len 0 l.head;
  count : vec_len l.heads ≡ l.head;
  room : l.size ≤ vec_capacity l.heads;
}
