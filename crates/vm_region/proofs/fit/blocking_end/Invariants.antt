use Rattle.std.proofs.Common.{◌≡◌, ◌≤◌, ◌*◌, drop}
use Rattle.vm_region.specs.Region.{blocking_end, top_of}
use Rattle.vm_region.proofs.fit.blocking_end.Given as goal

abbrev pub invariant-loop-range : goal.invariant-loop-range
invariant-loop-range l = record {
  rest : blocking_end l.addr l.pages l.ranges ≡ blocking_end l.addr l.pages (drop l.range-index l.ranges);
  tops : top_of (drop l.range-index l.ranges) ≤ 4096 * (225 * 16384);
}
