use Rattle.vm_realm.proofs.PlaceLemmas.{owners_agree, driver_once, driver_none}
use Rattle.vm_realm.proofs.laws.owners_have_their_memories.Goals as goal

pub returns-clause-agree : goal.returns-clause-agree
returns-clause-agree c = λ x v sound. owners_agree x v sound

pub returns-clause-once : goal.returns-clause-once
returns-clause-once c = λ x v m sound kept free never. driver_once x v m sound kept free never

pub returns-clause-away : goal.returns-clause-away
returns-clause-away c = λ x v m sound lent. driver_none x v m sound lent
