use Rattle.vm_home.proofs.ComeLemmas.{stop_home}
use Rattle.vm_home.proofs.laws.stopped_queues_give_their_memories_back.Goals as goal

pub returns : goal.returns
returns c = stop_home
