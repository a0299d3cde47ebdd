use Rattle.vm_across.proofs.ServeLemmas.{is_served, is_resumed, is_announced}
use Rattle.vm_across.proofs.laws.chains_are_served.Goals as goal

pub returns-clause-served : goal.returns-clause-served
returns-clause-served c = is_served

pub returns-clause-resumed : goal.returns-clause-resumed
returns-clause-resumed c = is_resumed

pub returns-clause-announced : goal.returns-clause-announced
returns-clause-announced c = is_announced
