use Rattle.std.proofs.Common.{arith}
use Rattle.vm_chain.proofs.ChainLemmas.{readable_fits}
use Rattle.vm_chain.proofs.chain.Chain.readable.Goals as goal

pub readable_in-requires : goal.readable_in-requires
readable_in-requires c = rw c.as_slice.ensures.value (readable_fits _ c.self.invariant.in_one_page (omega arith))
