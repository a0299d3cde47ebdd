use Rattle.std.proofs.Common.{rules}
use Rattle.vm_host.proofs.RigLemmas.{takes_event}
use Rattle.vm_host.proofs.tests.rig.event_chain.Goals as goal

pub returns-clause-takes : goal.returns-clause-takes
returns-clause-takes c = takes_event _ _ (search rules) (search rules)
