use Rattle.vm_report.proofs.CompleteLemmas.{one_run}
use Rattle.vm_report.proofs.laws.texts_tell_one_run.Goals as goal

pub returns : goal.returns
returns c = one_run
