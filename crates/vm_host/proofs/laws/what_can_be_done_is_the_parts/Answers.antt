use Rattle.vm_host.proofs.OfferLemmas.{part_begins, part_resumes, part_ready, part_resumable}
use Rattle.vm_host.proofs.laws.what_can_be_done_is_the_parts.Goals as goal

pub returns-clause-begin : goal.returns-clause-begin
returns-clause-begin c = part_begins

pub returns-clause-resume : goal.returns-clause-resume
returns-clause-resume c = part_resumes

pub returns-clause-ready : goal.returns-clause-ready
returns-clause-ready c = part_ready

pub returns-clause-resumable : goal.returns-clause-resumable
returns-clause-resumable c = part_resumable
