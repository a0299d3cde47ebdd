use Rattle.vm_wire.proofs.EventLemmas.{event_again}
use Rattle.vm_wire.proofs.laws.events_are_read_again.Goals as goal

pub returns : goal.returns
returns c = event_again
