use Rattle.std.proofs.Common.{◌≡◌, ◌≤◌, ◌+◌, length, map}
use Rattle.vm_marks.specs.Marks.{places_of}
use Rattle.vm_world.specs.Kinds.{may}
use Rattle.vm_world.proofs.PlaceLemmas.{left_places}
use Rattle.vm_world.proofs.offers.count_processes.Given as goal

-- those that are counted, and those of the processes that are left
abbrev pub invariant-loop-p : goal.invariant-loop-p
invariant-loop-p l =
    (l.count + length (left_places (may l.fn.offer) l.fn.guest.processes l.p) ≡ length (places_of (map (may l.fn.offer) l.fn.guest.processes))) × (l.count ≤ l.p)
