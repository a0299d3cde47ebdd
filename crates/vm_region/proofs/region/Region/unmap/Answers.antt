use Rattle.std.proofs.Common.{◌≡◌, Some, IfSome, subst, arith}
use Rattle.std.proofs.lemmas.Grind.{common_steps}
use Rattle.vm_region.specs.Region.{RegionState, Unmaps, range_at, range_of}
use Rattle.vm_region.proofs.LookUpLemmas.{found_by_tag, unmaps_counted}
use Rattle.vm_region.proofs.OrderLemmas.{found}
use Rattle.vm_region.proofs.SoundLemmas.{lowered}
use Rattle.vm_region.proofs.region.Region.unmap.Goals as goal

pub overflow_sub-count : goal.overflow_sub-count
overflow_sub-count c =
    let at : range_at c.args.addr c.self.inside.ranges.items ≡ Some c.in-Some.range = grind (arith, common_steps) in
    (found c.args.addr c.in-Some.range c.self.inside.ranges.items c.self.invariant.orderly at).some

pub push_reserved-requires : goal.push_reserved-requires
push_reserved-requires c =
    let at : range_at c.args.addr c.self.inside.ranges.items ≡ Some c.in-Some.range = grind (arith, common_steps) in
    let place = found c.args.addr c.in-Some.range c.self.inside.ranges.items c.self.invariant.orderly at in
    let some = place.some in
    let within = place.within in
    let roomy = c.self.invariant.roomy in
    grind (arith, common_steps, some, within, roomy)

pub invariant_of-self : goal.invariant_of-self
invariant_of-self c =
    let at : range_at c.args.addr c.self.inside.ranges.items ≡ Some c.in-Some.range = grind (arith, common_steps) in
    let kept = lowered c.self.inside.journal.items c.self.inside.ranges.items _ c.args.addr c.in-Some.range c.self.invariant at in
    rw (c.push_reserved.ensures.items, c.set_count.ensures, c.push_reserved.ensures.capacity) kept

pub returns-clause-ok : goal.returns-clause-ok
returns-clause-ok c =
    let at : range_at c.args.addr c.self.inside.ranges.items ≡ Some c.in-Some.range = grind (arith, common_steps) in
    let old : RegionState = record { journal = c.self.inside.journal.items; ranges = c.self.inside.ranges.items } in
    let new : RegionState = record { journal = c.push_reserved.new.self.items; ranges = c.set_count.new.ranges.items } in
    let done : Unmaps old c.args.addr c.in-Some.range new =
    rw (c.push_reserved.ensures.items, c.set_count.ensures) (unmaps_counted old c.args.addr c.in-Some.range c.self.invariant.orderly at) in
    let here : IfSome (range_at c.args.addr old.ranges) (λ r. Unmaps old c.args.addr r new) = rw at done in
    subst (λ (s : RegionState). IfSome (range_at c.args.addr s.ranges) (λ r. Unmaps s c.args.addr r new)) c.self.view_is here

pub returns-clause-own : goal.returns-clause-own
returns-clause-own c =
    let at : range_at c.args.addr c.self.inside.ranges.items ≡ Some c.in-Some.range = grind (arith, common_steps) in
    let own = found_by_tag c.args.addr c.in-Some.range c.self.inside.ranges.items c.self.invariant.orderly at in
    let here : IfSome (range_at c.args.addr c.self.inside.ranges.items) (λ r. range_of r.tag c.self.inside.ranges.items ≡ Some r) = rw at own in
    subst (λ (s : RegionState). IfSome (range_at c.args.addr s.ranges) (λ r. range_of r.tag s.ranges ≡ Some r)) c.self.view_is here
