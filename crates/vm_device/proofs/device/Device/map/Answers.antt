use Rattle.std.proofs.Common.{◌≡◌, ◌∙◌, ℕ, IfOk, IfSome, sym, subst, arith}
use Rattle.vm_region.specs.Region.{Maps, range_of}
use Rattle.vm_device.specs.Mappings.{pages_of}
use Rattle.vm_device.specs.Perform.{EachMadeFew}
use Rattle.vm_device.proofs.FoundLemmas.{IsFound, is_found}
use Rattle.vm_device.proofs.MappingLemmas.{map_fits, few_made}
use Rattle.vm_device.proofs.StepLemmas.{region_sound}
use Rattle.vm_device.proofs.device.Device.map.Goals as goal

-- the frame that was found
found : (c : goal.After-pages_of) → IsFound c.self.inside.sessions c.self.inside.region.ranges c.args.session c.in-Ok.frame
found c =
    is_found c.self.inside.sessions c.self.inside.region.ranges c.args.session c.args.offset c.in-Ok.frame
    c.self.invariant.0.ids c.self.invariant.0.fits (sym c.find_frame.ensures ∙ c.in-Ok.is)

pub map-requires-clause-some : goal.map-requires-clause-some
map-requires-clause-some c = let some = (found c).some in let holds = c.pages_of.ensures.holds in omega (arith, holds, some)

pub map-requires-clause-small : goal.map-requires-clause-small
map-requires-clause-small c = let small = (found c).small in c.pages_of.ensures.least 225 (omega (arith, small))

pub map-requires-clause-same : goal.map-requires-clause-same
map-requires-clause-same c =
    let P : ℕ → Type 0 = λ n. IfSome (range_of c.in-Ok.frame.0 c.self.inside.region.ranges) (λ r. r.pages ≡ n) in
    subst P (sym c.pages_of.ensures.value) (found c).pages

pub invariant_of-self : goal.invariant_of-self
invariant_of-self c =
    let ss = c.self.inside.sessions in
    let own : IsFound ss c.self.inside.region.ranges c.args.session c.in-Ok.frame =
    is_found ss c.self.inside.region.ranges c.args.session c.args.offset c.in-Ok.frame
    c.self.invariant.0.ids c.self.invariant.0.fits (sym c.find_frame.ensures ∙ c.in-Ok.is) in
    let P : ℕ → Type 0 = λ n. IfOk c.map.result (λ addr. Maps (range_of c.in-Ok.frame.0 c.self.inside.region.ranges) c.self.inside.region c.in-Ok.frame.0 n addr c.map.new.self) in
    let Q : ℕ → Type 0 = λ t. IfOk c.map.result (λ addr. Maps (range_of t c.self.inside.region.ranges) c.self.inside.region t (pages_of c.in-Ok.frame.1) addr c.map.new.self) in (
      region_sound _ c.map.new.self c.self.invariant.0
          (map_fits ss c.self.inside.region c.map.new.self c.args.session own.k c.in-Ok.frame.1 own.session c.map.result c.self.invariant.0.fits
          (few_made ss (subst EachMadeFew (sym c.self.view_is) c.requires.frames)) own.live own.has (subst Q own.tag (subst P c.pages_of.ensures.value c.map.ensures.ok)) c.map.ensures.err),
      c.self.invariant.1,
      c.self.invariant.2,
      c.self.invariant.3,
    )
