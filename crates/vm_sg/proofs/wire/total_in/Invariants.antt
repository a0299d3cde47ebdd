use Rattle.std.proofs.Common.{◌≡◌, ◌≤◌, ◌*◌, ◌-◌, ◌^◌, map, sum_by}
use Rattle.std.specs.List.{range_with_len}
use Rattle.vm_sg.specs.Wire.{entry_at}
use Rattle.vm_sg.proofs.wire.total_in.Given as goal

abbrev pub invariant-loop-i : goal.invariant-loop-i
invariant-loop-i l = record {
  sum : l.bytes ≡ sum_by (λ e. e.len) (map (entry_at l.wire) (range_with_len 0 l.i));
  most : l.bytes ≤ l.i * (2 ^ 32 - 1);
}
