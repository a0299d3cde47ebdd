use Rattle.vm_local.proofs.PaddedLemmas.{padded_sound}
use Rattle.vm_local.proofs.small.Small.new.Goals as goal
use Rattle.std.proofs.Common.{arith}

pub invariant_of-result : goal.invariant_of-result
invariant_of-result c = rw c.copy_from_slice.ensures.after (padded_sound c.args.bytes.now 256 (omega arith))
