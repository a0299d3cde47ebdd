use Rattle.vm_log.proofs.StepLemmas.{steps_leave_touched, steps_leave_along}
use Rattle.vm_log.proofs.laws.steps_leave_what_is_out.Goals as goal

pub returns-clause-touched : goal.returns-clause-touched
returns-clause-touched c = steps_leave_touched

pub returns-clause-along : goal.returns-clause-along
returns-clause-along c = steps_leave_along
