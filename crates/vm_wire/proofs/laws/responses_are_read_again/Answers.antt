use Rattle.vm_wire.proofs.WireLemmas.{response_again}
use Rattle.vm_wire.proofs.laws.responses_are_read_again.Goals as goal

pub returns : goal.returns
returns c = response_again
