use Rattle.vm_wire.proofs.DecidedLemmas.{decided}
use Rattle.vm_wire.proofs.laws.commands_are_decided.Goals as goal

pub returns : goal.returns
returns c = decided
