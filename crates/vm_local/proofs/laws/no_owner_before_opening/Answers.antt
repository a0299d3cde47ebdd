use Rattle.vm_local.proofs.ShutLemmas.{never_owned}
use Rattle.vm_local.proofs.laws.no_owner_before_opening.Goals as goal

pub returns : goal.returns
returns c = never_owned
