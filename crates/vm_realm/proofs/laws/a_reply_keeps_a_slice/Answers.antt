use Rattle.vm_realm.proofs.KeepCollectLemmas.{collect_keeps}
use Rattle.vm_realm.proofs.laws.a_reply_keeps_a_slice.Goals as goal

pub returns : goal.returns
returns c = λ x x' v sound does whole. collect_keeps x x' v sound does
