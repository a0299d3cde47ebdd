use Rattle.std.proofs.Common.{◌≡◌, ◌≤◌, ◌-◌, ◌++◌, take, drop, length}
use Rattle.vm_split.specs.Owners.{handed_out}
use Rattle.vm_split.proofs.owners.hand_out.Given as goal

abbrev pub invariant-loop-left : goal.invariant-loop-left
invariant-loop-left l = record {
  within : l.at ≤ length l.owners;
  owners : take l.at l.owners ++ handed_out l.left l.head (drop l.at l.owners) ≡ handed_out l.fn.count l.head l.fn.owners;
}

abbrev pub decreases-loop-left : goal.decreases-loop-left
decreases-loop-left l = length l.owners - l.at
