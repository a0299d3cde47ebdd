use Rattle.vm_world.proofs.HandOverLemmas.{begins_over, finishes_over, leases_over, gives_back_over}
use Rattle.vm_world.proofs.laws.what_goes_out_leaves_the_link.Goals as goal

pub returns-clause-begin : goal.returns-clause-begin
returns-clause-begin c = begins_over

pub returns-clause-finish : goal.returns-clause-finish
returns-clause-finish c = finishes_over

pub returns-clause-lease : goal.returns-clause-lease
returns-clause-lease c = leases_over

pub returns-clause-give_back : goal.returns-clause-give_back
returns-clause-give_back c = gives_back_over
