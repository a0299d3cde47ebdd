use Rattle.vm_local.proofs.SameLemmas.{same_reply_decides}
use Rattle.vm_local.proofs.laws.same_replies_are_equal.Goals as goal

pub returns : goal.returns
returns c = same_reply_decides
