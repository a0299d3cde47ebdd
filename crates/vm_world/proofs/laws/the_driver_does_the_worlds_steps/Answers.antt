use Rattle.vm_world.proofs.DriverLemmas.{issues_over, collects_over, pumps_over}
use Rattle.vm_world.proofs.laws.the_driver_does_the_worlds_steps.Goals as goal

pub returns-clause-issue : goal.returns-clause-issue
returns-clause-issue c = issues_over

pub returns-clause-collect : goal.returns-clause-collect
returns-clause-collect c = collects_over

pub returns-clause-pump : goal.returns-clause-pump
returns-clause-pump c = pumps_over
