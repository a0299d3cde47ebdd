use Rattle.vm_world.proofs.DeviceLemmas.{executes_over, resumes_over, announces_over}
use Rattle.vm_world.proofs.laws.the_device_does_the_worlds_steps.Goals as goal

pub returns-clause-execute : goal.returns-clause-execute
returns-clause-execute c = executes_over

pub returns-clause-resume : goal.returns-clause-resume
returns-clause-resume c = resumes_over

pub returns-clause-announce : goal.returns-clause-announce
returns-clause-announce c = announces_over
