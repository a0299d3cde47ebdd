use Rattle.std.proofs.Common.{◌≡◌, ◌≤◌, ◌*◌, ◌-◌, ◌^◌, take, sum_by}
use Rattle.vm_sg.proofs.faults.total.Given as goal

abbrev pub invariant-loop-entry : goal.invariant-loop-entry
invariant-loop-entry l = record {
  sum : l.bytes ≡ sum_by (λ e. e.len) (take l.entry-index l.entries);
  most : l.bytes ≤ l.entry-index * (2 ^ 32 - 1);
}
