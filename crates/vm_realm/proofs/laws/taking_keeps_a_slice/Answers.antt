use Rattle.vm_realm.proofs.KeepTakeLemmas.{taking_keeps}
use Rattle.vm_realm.proofs.laws.taking_keeps_a_slice.Goals as goal

pub returns : goal.returns
returns c = λ x x' v sound does. taking_keeps x x' v sound does
