use Rattle.std.proofs.Common.{◌≡◌, ◌++◌, take, drop, length}
use Rattle.vm_split.specs.Owners.{taken_back}
use Rattle.vm_split.proofs.owners.take_back.Given as goal

abbrev pub invariant-loop-at : goal.invariant-loop-at
invariant-loop-at l = record {
  owners : take l.at l.owners ++ taken_back l.head (drop l.at l.owners) ≡ taken_back l.head l.fn.owners;
  size : length l.owners ≡ length l.fn.owners;
}
