use Rattle.std.proofs.Common.{◌≡◌, ℕ, subst}
use Rattle.std.specs.Option.{option_map}
use Rattle.vm_region.specs.Region.{AreApart, RegionState, live_ranges, placed, placed_at, range_at}
use Rattle.vm_region.proofs.LookUpLemmas.{orderly_apart, placed_found}
use Rattle.vm_region.proofs.region.Region.journal.Goals as goal

pub returns-clause-live : goal.returns-clause-live
returns-clause-live c =
    let all : (addr : ℕ) → placed_at addr (live_ranges c.self.inside.journal.items) ≡ option_map placed (range_at addr c.self.inside.ranges.items) =
    λ addr. rw c.self.invariant.live (placed_found addr c.self.inside.ranges.items) in
    rw c.as_slice.ensures.value
    (subst (λ (s : RegionState). (addr : ℕ) → placed_at addr (live_ranges c.self.inside.journal.items) ≡ option_map placed (range_at addr s.ranges)) c.self.view_is all)

pub returns-clause-apart : goal.returns-clause-apart
returns-clause-apart c = subst (λ (s : RegionState). AreApart s.ranges) c.self.view_is (orderly_apart c.self.inside.ranges.items c.self.invariant.orderly)
