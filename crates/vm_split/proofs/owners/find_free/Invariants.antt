use Rattle.std.proofs.Common.{◌≡◌, ◌≤◌, ◌-◌, ◌++◌, take, drop, length}
use Rattle.vm_split.specs.Owners.{places_from, free_places, is_free}
use Rattle.vm_split.proofs.owners.find_free.Given as goal

abbrev pub invariant-loop-found : goal.invariant-loop-found
invariant-loop-found l = record {
  within : l.at ≤ length l.owners;
  size : length l.places ≡ length l.fn.places;
  found : l.found ≤ length l.places;
  room : length l.places - l.found ≤ length (places_from is_free l.at (drop l.at l.owners));
  places : take l.found l.places ++ take (length l.places - l.found) (places_from is_free l.at (drop l.at l.owners)) ≡ take (length l.fn.places) (free_places l.owners);
}

abbrev pub decreases-loop-found : goal.decreases-loop-found
decreases-loop-found l = length l.owners - l.at
