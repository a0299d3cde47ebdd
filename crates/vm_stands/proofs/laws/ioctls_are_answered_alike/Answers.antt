use Rattle.vm_stands.proofs.IoctlLemmas.{ioctls_are_answered}
use Rattle.vm_stands.proofs.laws.ioctls_are_answered_alike.Goals as goal

pub returns : goal.returns
returns c = ioctls_are_answered
