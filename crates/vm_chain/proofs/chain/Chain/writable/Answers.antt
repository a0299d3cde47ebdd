use Rattle.std.proofs.Common.{arith}
use Rattle.vm_chain.proofs.ChainLemmas.{writable_fits}
use Rattle.vm_chain.proofs.chain.Chain.writable.Goals as goal

pub writable_in-requires : goal.writable_in-requires
writable_in-requires c = rw c.as_slice.ensures.value (writable_fits _ c.self.invariant.in_one_page (omega arith))
