use Rattle.vm_sched.proofs.GoLemmas.{opening_out}
use Rattle.vm_sched.proofs.tests.play.world_of.Goals as goal

pub returns : goal.returns
returns c = opening_out c.args.script c.in_ok-new.field-0 c.in_ok-new.ensures
