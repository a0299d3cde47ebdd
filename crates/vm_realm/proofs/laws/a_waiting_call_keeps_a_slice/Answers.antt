use Rattle.vm_realm.proofs.KeepServeLemmas.{waiting_keeps}
use Rattle.vm_realm.proofs.laws.a_waiting_call_keeps_a_slice.Goals as goal

pub returns : goal.returns
returns c = waiting_keeps
