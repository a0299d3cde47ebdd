use Rattle.std.proofs.Common.{arith}
use Rattle.std.proofs.lemmas.Grind.{common_steps}
use Rattle.vm_split.proofs.RingLemmas.{used_index_set}
use Rattle.vm_split.proofs.ring.Ring.set_used_index.Goals as goal

pub returns-clause-contents : goal.returns-clause-contents
returns-clause-contents c =
    let set = used_index_set c.self.inside.size c.self.inside.page.bytes c.args.index c.self.invariant.0 c.self.invariant.1 c.ranges.index.fits in
    grind (arith, common_steps, set)
