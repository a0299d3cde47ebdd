use Rattle.std.proofs.Common.{◌≡◌, drop}
use Rattle.std.specs.Prelude.{slice_get}
use Rattle.std.specs.List.{filter}
use Rattle.vm_device.specs.Device.{ready_ids}
use Rattle.vm_host.specs.Host.{can_begin}
use Rattle.vm_world.proofs.offers.begin_in_place.Given as goal

-- it is in this place among those that are left
abbrev pub invariant-loop-session : goal.invariant-loop-session
invariant-loop-session l =
    slice_get (filter (λ id. can_begin l.fn.host id) (drop l.session-index l.session-items)) l.left ≡ slice_get (filter (λ id. can_begin l.fn.host id) (ready_ids l.fn.host.device)) l.fn.place
