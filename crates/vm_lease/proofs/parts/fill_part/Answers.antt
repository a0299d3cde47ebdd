use Rattle.std.proofs.Common.{arith, ◌+◌, ◌*◌, ◌%◌, ap}
use Rattle.vm_local.proofs.BytesLemmas.{seeded_more}
use Rattle.vm_lease.proofs.parts.fill_part.Goals as goal

pub loop-i-preserved : goal.loop-i-preserved
loop-i-preserved c =
    seeded_more c.loop-i.part c.loop-i.i c.args.seed _ (ap (λ s. (7 * c.loop-i.i + s) % 256) c.from.ensures) (omega arith) c.loop-i.invariant
