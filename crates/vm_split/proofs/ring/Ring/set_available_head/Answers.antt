use Rattle.std.proofs.Common.{◌%◌, arith}
use Rattle.std.proofs.lemmas.Grind.{common_steps}
use Rattle.vm_split.proofs.RingLemmas.{available_set, place_below}
use Rattle.vm_split.proofs.ring.Ring.set_available_head.Goals as goal

pub returns-clause-contents : goal.returns-clause-contents
returns-clause-contents c =
    let within = place_below c.args.number c.self.inside.size c.self.invariant.0 in
    let set = available_set c.self.inside.size c.self.inside.page.bytes (c.args.number % c.self.inside.size) c.args.head c.self.invariant.0 c.self.invariant.1 within c.ranges.head.fits in
    grind (arith, common_steps, set)
