use Rattle.std.proofs.Common.{◌≡◌, ◌≤◌, ◌+◌, drop, length}
use Rattle.vm_split.specs.Owners.{places_from, free_places, is_free}
use Rattle.vm_split.proofs.owners.count_free.Given as goal

abbrev pub invariant-loop-owner : goal.invariant-loop-owner
invariant-loop-owner l = record {
  few : l.count ≤ l.owner-index;
  count : l.count + length (places_from is_free l.owner-index (drop l.owner-index l.owners)) ≡ length (free_places l.owners);
}
