use Rattle.vm_sched.proofs.GoLemmas.{opening_out}
use Rattle.vm_sched.proofs.laws.nothing_is_out_at_first.Goals as goal

pub returns : goal.returns
returns c = opening_out
