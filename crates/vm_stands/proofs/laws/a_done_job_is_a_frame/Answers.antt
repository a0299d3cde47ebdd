use Rattle.vm_stands.proofs.LawLemmas.{finishes}
use Rattle.vm_stands.proofs.laws.a_done_job_is_a_frame.Goals as goal

pub returns : goal.returns
returns c = finishes
