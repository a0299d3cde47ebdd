use Rattle.std.proofs.Common.{◌≡◌, ◌+◌, ◌≤◌, ◌++◌, map, length, Some, vec_capacity}
use Rattle.vm_frame.specs.declared.mem.Held.{Held}
use Rattle.vm_log.proofs.places.add_all.Given as goal

abbrev pub invariant-loop-held : goal.invariant-loop-held
invariant-loop-held l =
    (length l.home.places + length l.held.items ≤ l.home.room) × (l.home.room ≡ l.fn.home.room)
    × (l.home.places ++ map (λ (h : Held). Some h.mem) l.held.items ≡ l.fn.home.places ++ map (λ (h : Held). Some h.mem) l.fn.held.items)
    × (vec_capacity l.held ≡ vec_capacity l.fn.held)

abbrev pub decreases-loop-held : goal.decreases-loop-held
decreases-loop-held l = length l.held.items
