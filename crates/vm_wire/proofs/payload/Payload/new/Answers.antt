use Rattle.std.proofs.Common.{arith}
use Rattle.vm_wire.proofs.PaddedLemmas.{padded_sound}
use Rattle.vm_wire.proofs.payload.Payload.new.Goals as goal

pub invariant_of-result : goal.invariant_of-result
invariant_of-result c = rw c.copy_from_slice.ensures.after (padded_sound c.args.bytes.now 208 (omega arith))
