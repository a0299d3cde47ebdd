use Rattle.std.proofs.Common.{◌≡◌, ◌+◌, ◌<◌, ◌≤◌, ◌++◌, ◌∷◌, [], IfSome, length, vec_capacity, refl, sym, subst, arith}
use Rattle.std.proofs.lemmas.Grind.{common_steps}
use Rattle.vm_region.specs.declared.entry.RegionEntry.TheVariants.{Map}
use Rattle.vm_region.specs.Region.{Maps, RegionState, map_count, mapping_count, range_of}
use Rattle.vm_region.proofs.LookUpLemmas.{grants_maps}
use Rattle.vm_region.proofs.SoundLemmas.{granted, granted_within}
use Rattle.vm_region.proofs.region.Region.map.Goals as goal

pub invariant_of-self-2 : goal.invariant_of-self-2
invariant_of-self-2 c =
    let journal = c.self.inside.journal.items in
    let ranges = c.self.inside.ranges.items in
    let few : map_count journal < 16384 = subst (λ (s : RegionState). map_count s.journal < 16384) (sym c.self.view_is) c.requires.few in
    let size : IfSome (range_of c.args.tag ranges) (λ r. r.pages ≡ c.args.pages) =
    subst (λ (s : RegionState). IfSome (range_of c.args.tag s.ranges) (λ r. r.pages ≡ c.args.pages)) (sym c.self.view_is) c.requires.same in
    let roomy : length journal + mapping_count ranges + 2 ≤ vec_capacity c.push_reserved.new.self = grind (arith, common_steps) in
    let items : c.push_reserved.new.self.items ≡ journal ++ Map c.in_ok-range.range.addr c.args.pages c.in_ok-range.range.count ∷ [] = grind (arith, common_steps) in
    rw items (granted journal ranges c.grant.new.ranges.items _ _ c.args.tag c.args.pages c.in_ok-range.range _ c.self.invariant refl size c.requires.some c.requires.small few roomy c.in_ok-range.ensures.ok)

pub returns-clause-within : goal.returns-clause-within
returns-clause-within c =
    let journal = c.self.inside.journal.items in
    let ranges = c.self.inside.ranges.items in
    let few : map_count journal < 16384 = subst (λ (s : RegionState). map_count s.journal < 16384) (sym c.self.view_is) c.requires.few in
    let size : IfSome (range_of c.args.tag ranges) (λ r. r.pages ≡ c.args.pages) =
    subst (λ (s : RegionState). IfSome (range_of c.args.tag s.ranges) (λ r. r.pages ≡ c.args.pages)) (sym c.self.view_is) c.requires.same in
    granted_within journal ranges c.grant.new.ranges.items _ c.args.tag c.args.pages c.in_ok-range.range _ c.self.invariant refl size c.requires.small few c.in_ok-range.ensures.ok

pub returns-clause-ok : goal.returns-clause-ok
returns-clause-ok c =
    let old : RegionState = record { journal = c.self.inside.journal.items; ranges = c.self.inside.ranges.items } in
    let new : RegionState = record { journal = c.push_reserved.new.self.items; ranges = c.grant.new.ranges.items } in
    let items : c.push_reserved.new.self.items ≡ old.journal ++ Map c.in_ok-range.range.addr c.args.pages c.in_ok-range.range.count ∷ [] = grind (arith, common_steps) in
    let done = grants_maps old c.args.tag c.args.pages c.in_ok-range.range c.grant.new.ranges.items _ c.self.invariant.orderly refl c.requires.some c.in_ok-range.ensures.ok in
    let all : Maps (range_of c.args.tag old.ranges) old c.args.tag c.args.pages c.in_ok-range.range.addr new = rw items done in
    subst (λ (s : RegionState). Maps (range_of c.args.tag s.ranges) s c.args.tag c.args.pages c.in_ok-range.range.addr new) c.self.view_is all
