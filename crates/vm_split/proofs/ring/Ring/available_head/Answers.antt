use Rattle.std.proofs.Common.{◌%◌, arith}
use Rattle.std.proofs.lemmas.Grind.{common_steps}
use Rattle.vm_split.proofs.RingLemmas.{available_get, place_below}
use Rattle.vm_split.proofs.ring.Ring.available_head.Goals as goal

pub returns : goal.returns
returns c =
    let within = place_below c.args.number c.self.inside.size c.self.invariant.0 in
    let get = available_get c.self.inside.size c.self.inside.page.bytes (c.args.number % c.self.inside.size) within in
    grind (arith, common_steps, get)
