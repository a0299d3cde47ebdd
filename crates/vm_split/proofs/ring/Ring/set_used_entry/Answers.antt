use Rattle.std.proofs.Common.{◌≡◌, ◌%◌, length, refl, ap, ◌∙◌, arith}
use Rattle.std.proofs.lemmas.Grind.{common_steps}
use Rattle.vm_split.proofs.RingLemmas.{used_set, place_below}
use Rattle.vm_split.proofs.ring.Ring.set_used_entry.Goals as goal

pub returns-clause-contents : goal.returns-clause-contents
returns-clause-contents c =
    let within = place_below c.args.number c.self.inside.size c.self.invariant.0 in
    let eight : length c.entry_bytes.result ≡ 8 = ap length c.entry_bytes.ensures.bytes ∙ refl in
    let set = used_set c.self.inside.size c.self.inside.page.bytes (c.args.number % c.self.inside.size) c.entry_bytes.result c.args.entry c.self.invariant.0 c.self.invariant.1 within eight c.entry_bytes.ensures.reads in
    grind (arith, common_steps, set)
