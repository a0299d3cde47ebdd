use Rattle.vm_exchange.proofs.AgainLemmas.{again}
use Rattle.vm_exchange.proofs.laws.entries_are_read_again.Goals as goal

pub returns : goal.returns
returns c = again
