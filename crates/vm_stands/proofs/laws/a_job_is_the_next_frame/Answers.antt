use Rattle.vm_stands.proofs.BegunLemmas.{begins_alike}
use Rattle.vm_stands.proofs.NextLemmas.{begins_next}
use Rattle.vm_stands.proofs.laws.a_job_is_the_next_frame.Goals as goal

pub returns-clause-can : goal.returns-clause-can
returns-clause-can c = begins_alike

pub returns-clause-begins : goal.returns-clause-begins
returns-clause-begins c = begins_next
