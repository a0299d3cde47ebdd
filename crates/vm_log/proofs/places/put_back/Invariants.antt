use Rattle.std.proofs.Common.{◌≡◌, ◌-◌, take, drop, length, vec_capacity}
use Rattle.vm_home.specs.Moves.{put_back}
use Rattle.vm_log.proofs.places.put_back.Given as goal

abbrev pub invariant-loop-held : goal.invariant-loop-held
invariant-loop-held l =
    (put_back l.kept.local (take (length l.held.items - l.fresh) l.held.items) l.home.places
    ≡ put_back l.kept.local (take (length l.fn.held.items - l.fresh) l.fn.held.items) l.fn.home.places)
    × (drop (length l.held.items - l.fresh) l.held.items ≡ drop (length l.fn.held.items - l.fresh) l.fn.held.items)
    × (l.home.room ≡ l.fn.home.room)
    × (vec_capacity l.held ≡ vec_capacity l.fn.held)

abbrev pub decreases-loop-held : goal.decreases-loop-held
decreases-loop-held l = length l.held.items
