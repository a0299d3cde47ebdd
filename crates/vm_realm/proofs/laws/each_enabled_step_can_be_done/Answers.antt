use Rattle.vm_realm.proofs.CanBeDoneLemmas.{enabled_can}
use Rattle.vm_realm.proofs.laws.each_enabled_step_can_be_done.Goals as goal

pub returns : goal.returns
returns c = enabled_can
