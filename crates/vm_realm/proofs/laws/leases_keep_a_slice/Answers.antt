use Rattle.vm_realm.proofs.KeepLendLemmas.{lease_keeps, give_back_keeps}
use Rattle.vm_realm.proofs.laws.leases_keep_a_slice.Goals as goal

pub returns-clause-lease : goal.returns-clause-lease
returns-clause-lease c = λ n x x' v sound does whole. lease_keeps x x' v sound does whole

pub returns-clause-give_back : goal.returns-clause-give_back
returns-clause-give_back c = λ n x x' v sound does whole. give_back_keeps x x' v sound does whole
