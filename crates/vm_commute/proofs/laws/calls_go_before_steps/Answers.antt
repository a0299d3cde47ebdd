use Rattle.vm_commute.proofs.OrderLemmas.{order_law}
use Rattle.vm_commute.proofs.laws.calls_go_before_steps.Goals as goal

pub returns : goal.returns
returns c = order_law
