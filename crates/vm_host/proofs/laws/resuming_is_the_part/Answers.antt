use Rattle.vm_host.proofs.PartLemmas.{resumes_part}
use Rattle.vm_host.proofs.laws.resuming_is_the_part.Goals as goal

pub returns : goal.returns
returns c = resumes_part
