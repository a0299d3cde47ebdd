use Rattle.vm_across.proofs.EventLemmas.{takes_event, brought_back, posted_again}
use Rattle.vm_across.proofs.laws.events_are_delivered.Goals as goal

pub returns-clause-takes : goal.returns-clause-takes
returns-clause-takes c = takes_event

pub returns-clause-brings : goal.returns-clause-brings
returns-clause-brings c = brought_back

pub returns-clause-again : goal.returns-clause-again
returns-clause-again c = posted_again
