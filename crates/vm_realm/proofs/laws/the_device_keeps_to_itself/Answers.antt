use Rattle.vm_realm.proofs.DeviceNextLemmas.{device_next}
use Rattle.vm_realm.proofs.laws.the_device_keeps_to_itself.Goals as goal

pub returns : goal.returns
returns c = device_next
