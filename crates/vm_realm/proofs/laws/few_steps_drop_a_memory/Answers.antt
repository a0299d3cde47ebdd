use Rattle.vm_realm.proofs.PlaceDropLemmas.{drops_only}
use Rattle.vm_realm.proofs.laws.few_steps_drop_a_memory.Goals as goal

pub returns : goal.returns
returns c = λ w w' s n h m v v' sound does before goes live gone. drops_only w w' s n h m v v' sound does before goes live gone
