use Rattle.vm_realm.proofs.RunnableLemmas.{read_runnable}
use Rattle.vmedia.proofs.run.run.Goals as goal

pub new-requires-2-clause-read : goal.new-requires-2-clause-read
new-requires-2-clause-read g c = read_runnable c.args.script c.requires
