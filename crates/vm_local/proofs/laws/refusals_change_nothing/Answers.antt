use Rattle.vm_local.proofs.KeptLemmas.{refused_call}
use Rattle.vm_local.proofs.laws.refusals_change_nothing.Goals as goal

pub returns : goal.returns
returns c = refused_call
