use Rattle.std.proofs.Common.{refl}
use Rattle.vm_local.proofs.SizesLemmas.{sizes_agree_refilled}
use Rattle.vm_local.proofs.queues.Queues.set_format.Goals as goal

pub invariant_of-self : goal.invariant_of-self
invariant_of-self c =
    sizes_agree_refilled c.args.format _ _ _ c.args.place _ refl c.as_mut_slice.ensures.value c.reformat.ensures
