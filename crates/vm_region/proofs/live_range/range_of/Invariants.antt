use Rattle.std.proofs.Common.{◌≡◌, drop}
use Rattle.vm_region.specs.Region.{range_of}
use Rattle.vm_region.proofs.live_range.range_of.Given as goal

abbrev pub invariant-loop-range : goal.invariant-loop-range
invariant-loop-range l = range_of l.tag l.ranges ≡ range_of l.tag (drop l.range-index l.ranges)
