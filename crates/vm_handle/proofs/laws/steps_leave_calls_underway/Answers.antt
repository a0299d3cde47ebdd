use Rattle.vm_handle.proofs.StageLemmas.{crossing_still}
use Rattle.vm_handle.proofs.laws.steps_leave_calls_underway.Goals as goal

pub returns : goal.returns
returns c = λ id s t e call is step goes crosses. crossing_still id s t e is step goes call crosses
