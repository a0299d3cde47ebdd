use Rattle.vm_realm.proofs.BadLemmas.{finish_counts, others_count_none}
use Rattle.vm_realm.proofs.laws.frames_that_fail_are_counted.Goals as goal

pub returns-clause-finish : goal.returns-clause-finish
returns-clause-finish c = λ w w' number done sound does. finish_counts w w' number done sound does

pub returns-clause-others : goal.returns-clause-others
returns-clause-others c = λ w w' s sound does other. others_count_none w w' s sound does other
