use Rattle.std.proofs.Common.{refl}
use Rattle.vm_local.specs.Steps.{taken}
use Rattle.vm_local.proofs.SizesLemmas.{sizes_kept_refill}
use Rattle.vm_local.proofs.queues.Queues.take_heads.Goals as goal

pub invariant_of-self : goal.invariant_of-self
invariant_of-self c =
    sizes_kept_refill (taken c.args.good c.args.timestamp) (λ q. refl) _ _ _ c.as_mut_slice.ensures.value c.take_heads.ensures c.self.invariant
