use Rattle.vm_local.proofs.WithoutBytesLemmas.{same_moves}
use Rattle.vm_local.proofs.laws.records_move_as_states.Goals as goal

pub returns : goal.returns
returns c = same_moves
