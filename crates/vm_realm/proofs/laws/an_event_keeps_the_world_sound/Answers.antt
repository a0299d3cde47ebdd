use Rattle.vm_realm.proofs.PumpLiftLemmas.{pump_keeps}
use Rattle.vm_realm.proofs.laws.an_event_keeps_the_world_sound.Goals as goal

pub returns : goal.returns
returns c = pump_keeps
