use Rattle.std.proofs.Common.{◌≡◌, drop}
use Rattle.vm_region.specs.Region.{range_at}
use Rattle.vm_region.proofs.live_range.range_at.Given as goal

abbrev pub invariant-loop-range : goal.invariant-loop-range
invariant-loop-range l = range_at l.addr l.ranges ≡ range_at l.addr (drop l.range-index l.ranges)
