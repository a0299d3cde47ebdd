use Rattle.vm_commute.proofs.OrderLemmas.{refused_law}
use Rattle.vm_commute.proofs.laws.refusals_come_before_steps.Goals as goal

pub returns : goal.returns
returns c = refused_law
