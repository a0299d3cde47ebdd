use Rattle.vm_home.proofs.StillLemmas.{still}
use Rattle.vm_home.proofs.laws.other_entries_leave_memories_in_place.Goals as goal

pub returns : goal.returns
returns c = still
