use Rattle.vm_host.proofs.PartLemmas.{announces_part}
use Rattle.vm_host.proofs.laws.announcing_is_the_part.Goals as goal

pub returns : goal.returns
returns c = announces_part
