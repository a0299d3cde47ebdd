use Rattle.vm_local.proofs.KeptLemmas.{still_owner}
use Rattle.vm_local.proofs.laws.owners_move_at_few_entries.Goals as goal

pub returns : goal.returns
returns c = still_owner
