use Rattle.vm_guest.proofs.RawLemmas.{asks_by_chain}
use Rattle.vm_guest.proofs.laws.raw_lines_ask_by_their_chains.Goals as goal

pub returns : goal.returns
returns c = asks_by_chain
