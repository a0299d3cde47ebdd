use Rattle.vm_guest.proofs.PartLemmas.{collects_part}
use Rattle.vm_guest.proofs.laws.what_is_collected_is_the_part.Goals as goal

pub returns : goal.returns
returns c = collects_part
