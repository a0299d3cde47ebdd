use Rattle.vm_guest.proofs.PartLemmas.{issues_part}
use Rattle.vm_guest.proofs.laws.what_is_issued_is_the_part.Goals as goal

pub returns : goal.returns
returns c = issues_part
