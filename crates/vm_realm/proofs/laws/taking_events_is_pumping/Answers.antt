use Rattle.vm_realm.proofs.PumpingLemmas.{taking_is_pumping}
use Rattle.vm_realm.proofs.laws.taking_events_is_pumping.Goals as goal

pub returns : goal.returns
returns c = taking_is_pumping
