use Rattle.std.proofs.Common.{◌≡◌, ◌≤◌, ◌*◌, ◌^◌, length, take}
use Rattle.vm_world.proofs.KindLemmas.{steps_in}
use Rattle.vm_world.proofs.world.World.enabled_len.Given as goal

-- the steps of the kinds so far are counted
abbrev pub invariant-loop-kind : goal.invariant-loop-kind
invariant-loop-kind g l =
    (l.count ≡ length (steps_in l.fn.self (take l.kind-index l.kind-items))) × (l.count ≤ l.kind-index * 2 ^ 32)
