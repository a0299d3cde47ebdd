use Rattle.vm_realm.proofs.LeftLemmas.{left_falls}
use Rattle.vm_realm.proofs.laws.left_falls.Goals as goal

pub returns : goal.returns
returns c = left_falls
