use Rattle.vm_home.proofs.FactLemmas.{one_owner}
use Rattle.vm_home.proofs.laws.each_memory_has_one_owner.Goals as goal

pub returns : goal.returns
returns c = one_owner
