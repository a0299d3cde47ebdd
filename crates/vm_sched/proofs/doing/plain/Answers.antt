use Rattle.vm_sched.proofs.GoLemmas.{plain_goes}
use Rattle.vm_sched.proofs.doing.plain.Goals as goal

pub returns-clause-goes : goal.returns-clause-goes
returns-clause-goes g c = plain_goes c.step.result c.args.hands.now c.args.world.now c.step.new.self c.args.step c.requires.may c.requires.none c.requires.all c.step.ensures.steps
