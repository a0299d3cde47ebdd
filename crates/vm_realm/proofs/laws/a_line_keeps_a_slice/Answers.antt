use Rattle.vm_realm.proofs.KeepIssueLemmas.{issue_keeps}
use Rattle.vm_realm.proofs.laws.a_line_keeps_a_slice.Goals as goal

pub returns : goal.returns
returns c = λ n x x' v sound does whole. issue_keeps x x' v sound does whole
