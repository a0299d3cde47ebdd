use Rattle.vm_across.proofs.BackLemmas.{returned, returned_empty}
use Rattle.vm_across.proofs.laws.replies_are_returned.Goals as goal

pub returns-clause-written : goal.returns-clause-written
returns-clause-written c = returned

pub returns-clause-empty : goal.returns-clause-empty
returns-clause-empty c = returned_empty
