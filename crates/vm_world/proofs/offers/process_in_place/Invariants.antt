use Rattle.std.proofs.Common.{◌≡◌, map}
use Rattle.std.specs.Prelude.{slice_get}
use Rattle.vm_marks.specs.Marks.{places_of}
use Rattle.vm_world.specs.Kinds.{may}
use Rattle.vm_world.proofs.PlaceLemmas.{left_places}
use Rattle.vm_world.proofs.offers.process_in_place.Given as goal

-- it is in this place among those that are left
abbrev pub invariant-loop-p : goal.invariant-loop-p
invariant-loop-p l =
    slice_get (left_places (may l.fn.offer) l.fn.guest.processes l.p) l.left ≡ slice_get (places_of (map (may l.fn.offer) l.fn.guest.processes)) l.fn.place
