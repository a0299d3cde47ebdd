use Rattle.vm_realm.proofs.GrowLemmas.{script_stays, log_grows}
use Rattle.vm_realm.proofs.laws.logs_grow.Goals as goal

pub returns : goal.returns
returns c = λ w w' s sound does. record { script = script_stays w w' s does; logs = λ n h is_handle. log_grows w w' s n h does }
