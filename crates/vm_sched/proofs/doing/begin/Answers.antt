use Rattle.vm_sched.proofs.GoLemmas.{begins_some, begins_goes, begins_script, when_ok}
use Rattle.vm_sched.proofs.doing.begin.Goals as goal

pub unwrap-job-requires : goal.unwrap-job-requires
unwrap-job-requires g c = begins_some c.args.session c.args.world.now c.begin_job.new.self c.begin_job.result c.requires.may c.begin_job.ensures.begins

pub returns-clause-goes : goal.returns-clause-goes
returns-clause-goes g c = when_ok c.put_job.result
    (begins_goes c.args.hands.now c.put_job.new.self c.args.world.now c.begin_job.new.self c.args.session c.begin_job.result c.unwrap-job.result c.unwrap-job.ensures c.requires.all c.requires.sound c.begin_job.ensures.begins)
    c.put_job.ensures

pub returns-clause-script : goal.returns-clause-script
returns-clause-script g c = begins_script c.args.session c.args.world.now c.begin_job.new.self c.begin_job.result c.begin_job.ensures.begins
