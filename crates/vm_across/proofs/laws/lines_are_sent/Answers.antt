use Rattle.vm_across.proofs.LineLemmas.{fit_to_send, collected_chain}
use Rattle.vm_across.proofs.laws.lines_are_sent.Goals as goal

pub returns-clause-fit : goal.returns-clause-fit
returns-clause-fit c = fit_to_send

pub returns-clause-collected : goal.returns-clause-collected
returns-clause-collected c = collected_chain
