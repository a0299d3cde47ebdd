use Rattle.vm_realm.proofs.RunnableLemmas.{read_runnable}
use Rattle.vm_realm.proofs.laws.scripts_that_are_read_run.Goals as goal

pub returns : goal.returns
returns c = read_runnable
