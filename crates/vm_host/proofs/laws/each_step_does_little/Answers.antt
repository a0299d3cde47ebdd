use Rattle.vm_host.proofs.DoneLemmas.{executes_done, resumes_done, begins_done, finishes_done, announces_done}
use Rattle.vm_host.proofs.laws.each_step_does_little.Goals as goal

pub returns-clause-executes : goal.returns-clause-executes
returns-clause-executes c = executes_done

pub returns-clause-resumes : goal.returns-clause-resumes
returns-clause-resumes c = resumes_done

pub returns-clause-begins : goal.returns-clause-begins
returns-clause-begins c = begins_done

pub returns-clause-finishes : goal.returns-clause-finishes
returns-clause-finishes c = finishes_done

pub returns-clause-announces : goal.returns-clause-announces
returns-clause-announces c = announces_done
