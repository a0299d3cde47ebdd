use Rattle.std.proofs.Common.{◌≡◌, Some, arith}
use Rattle.std.proofs.lemmas.Grind.{common_steps}
use Rattle.vm_region.specs.Region.{range_of}
use Rattle.vm_region.proofs.SoundLemmas.{count_fits}
use Rattle.vm_region.proofs.live_range.grant.Goals as goal

pub overflow_add-count : goal.overflow_add-count
overflow_add-count c =
    let of : range_of c.args.tag c.args.ranges.now.items ≡ Some c.in-Some.range = grind (arith, common_steps) in
    let fits = count_fits c.args.tag c.in-Some.range c.args.ranges.now.items c.requires.orderly c.requires.few of in
    omega (arith, fits)
