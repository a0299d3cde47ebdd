use Rattle.std.proofs.Common.{◌≡◌, ◌++◌, map, take, drop}
use Rattle.vm_region.specs.Region.{with_count}
use Rattle.vm_region.proofs.live_range.recount.Given as goal

abbrev pub invariant-loop-range : goal.invariant-loop-range
invariant-loop-range l = l.ranges ≡ map (with_count l.addr l.count) (take l.range-index l.fn.ranges) ++ drop l.range-index l.fn.ranges
