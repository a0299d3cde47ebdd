use Rattle.std.proofs.Common.{refl}
use Rattle.vm_local.specs.Queue.{stopped_queue}
use Rattle.vm_local.proofs.SizesLemmas.{sizes_kept_refill}
use Rattle.vm_local.proofs.queues.Queues.stop_all.Goals as goal

pub invariant_of-self : goal.invariant_of-self
invariant_of-self c =
    sizes_kept_refill stopped_queue (λ q. refl) _ _ _ c.as_mut_slice.ensures.value c.stop_all.ensures c.self.invariant
