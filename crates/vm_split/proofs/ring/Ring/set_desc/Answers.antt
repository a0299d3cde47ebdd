use Rattle.std.proofs.Common.{◌≡◌, ◌<◌, length, refl, ap, ◌∙◌, arith}
use Rattle.std.proofs.lemmas.Grind.{common_steps}
use Rattle.vm_split.proofs.RingLemmas.{table_set}
use Rattle.vm_split.proofs.ring.Ring.set_desc.Goals as goal

pub returns-clause-contents : goal.returns-clause-contents
returns-clause-contents c =
    let sixteen : length c.desc_bytes.result ≡ 16 = ap length c.desc_bytes.ensures.bytes ∙ refl in
    let within : c.args.place < c.self.inside.size = grind (arith, common_steps) in
    let set = table_set c.self.inside.size c.self.inside.page.bytes c.args.place c.desc_bytes.result c.args.desc c.self.invariant.0 c.self.invariant.1 within sixteen c.desc_bytes.ensures.reads in
    grind (arith, common_steps, set)
