use Rattle.vm_guest.proofs.PartLemmas.{pumps_part}
use Rattle.vm_guest.proofs.laws.what_is_pumped_is_the_part.Goals as goal

pub returns : goal.returns
returns c = pumps_part
