use Rattle.vm_stands.proofs.OwnCallLemmas.{own_calls}
use Rattle.vm_stands.proofs.laws.the_drivers_own_calls_keep_sessions.Goals as goal

pub returns : goal.returns
returns c = own_calls
