use Rattle.std.proofs.Common.{◌≡◌, ℕ, ◌<◌, ◌≤◌, ◌-◌, ◌%◌, false, map}
use Rattle.vm_region.specs.Region.{is_free, placed, top_of}
use Rattle.vm_region.proofs.fit.first_fit.Given as goal

abbrev pub invariant-places : goal.invariant-places
invariant-places l = record {
  page : l.addr % 4096 ≡ 0;
  within : l.addr ≤ top_of l.ranges;
  least : (lower : ℕ) → lower < l.addr → is_free lower l.pages (map placed l.ranges) ≡ false;
}

abbrev pub decreases-places : goal.decreases-places
decreases-places l = top_of l.ranges - l.addr
