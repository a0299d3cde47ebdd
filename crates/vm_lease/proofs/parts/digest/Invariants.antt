use Rattle.std.proofs.Common.{◌-◌, ◌≤◌, take}
use Rattle.sha2.specs.Hashers.{Holds256}
use Rattle.vm_frame.specs.Mem.{mem_bytes}
use Rattle.vm_lease.proofs.parts.digest.Given as goal

abbrev pub invariant-loop-at : goal.invariant-loop-at
invariant-loop-at l = (l.at ≤ l.size) × Holds256 l.hasher (take l.at (mem_bytes l.mem))

abbrev pub decreases-loop-at : goal.decreases-loop-at
decreases-loop-at l = l.size - l.at
