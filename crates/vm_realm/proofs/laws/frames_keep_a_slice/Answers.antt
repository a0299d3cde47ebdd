use Rattle.vm_realm.proofs.KeepFrameLemmas.{announce_keeps, begin_keeps, finish_keeps}
use Rattle.vm_realm.proofs.laws.frames_keep_a_slice.Goals as goal

pub returns-clause-announce : goal.returns-clause-announce
returns-clause-announce c = λ x x' v sound does whole. announce_keeps x x' v sound does whole

pub returns-clause-begin : goal.returns-clause-begin
returns-clause-begin c = λ session x x' v sound does whole. begin_keeps x x' v sound does whole

pub returns-clause-finish : goal.returns-clause-finish
returns-clause-finish c = λ number x x' v sound does whole. finish_keeps x x' v sound does whole
