use Rattle.vm_output.proofs.DoneLemmas.{logs_are}
use Rattle.vm_output.proofs.laws.done_worlds_have_their_logs.Goals as goal

pub returns : goal.returns
returns c = logs_are
