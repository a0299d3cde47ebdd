use Rattle.vm_realm.specs.Steps.{DoesFinishWith}
use Rattle.vm_sched.proofs.GoLemmas.{takes_some, back_as_it_went, taken_back, finish_goes, finish_fails, finish_script, on_ok}
use Rattle.vm_sched.proofs.doing.finish.Goals as goal

pub unwrap-job-requires : goal.unwrap-job-requires
unwrap-job-requires g c = takes_some c.args.hands.now c.args.world.now c.args.number c.take_job.result c.requires.may c.requires.all c.take_job.ensures.job

pub finish_job-taken-requires : goal.finish_job-taken-requires
finish_job-taken-requires g c =
    back_as_it_went c.args.hands.now c.args.world.now c.args.number c.take_job.result c.unwrap-job.result c.work-done.result c.requires.may c.requires.all c.take_job.ensures.job c.unwrap-job.ensures c.work-done.ensures.back c.work-done.ensures.good

pub unwrap-requires : goal.unwrap-requires
unwrap-requires g c =
    taken_back c.args.hands.now c.args.world.now c.args.number c.take_job.result c.unwrap-job.result c.work-done.result c.finish_job-taken.result c.requires.may c.requires.all c.take_job.ensures.job c.unwrap-job.ensures
    c.work-done.ensures.back c.finish_job-taken.ensures.stranger

pub returns-clause-goes : goal.returns-clause-goes
returns-clause-goes g c =
    let ok = taken_back c.args.hands.now c.args.world.now c.args.number c.take_job.result c.unwrap-job.result c.work-done.result c.finish_job-taken.result c.requires.may c.requires.all c.take_job.ensures.job c.unwrap-job.ensures
    c.work-done.ensures.back c.finish_job-taken.ensures.stranger in
    finish_goes c.args.hands.now c.take_job.new.self c.args.world.now c.finish_job-taken.new.self c.args.number c.take_job.result c.unwrap-job.result c.work-done.result c.requires.may c.requires.all c.requires.sound
    c.take_job.ensures.job c.unwrap-job.ensures c.work-done.ensures.back
    (on_ok (DoesFinishWith c.work-done.result c.work-done.result.job.spec.number c.args.world.now c.finish_job-taken.new.self) c.finish_job-taken.result ok c.finish_job-taken.ensures.finished) c.take_job.ensures.taken

pub returns-clause-fails : goal.returns-clause-fails
returns-clause-fails g c =
    let ok = taken_back c.args.hands.now c.args.world.now c.args.number c.take_job.result c.unwrap-job.result c.work-done.result c.finish_job-taken.result c.requires.may c.requires.all c.take_job.ensures.job c.unwrap-job.ensures
    c.work-done.ensures.back c.finish_job-taken.ensures.stranger in
    finish_fails c.args.world.now c.finish_job-taken.new.self c.work-done.result (g.E.Engine.faults c.args.engine.now) (g.E.Engine.faults c.work-done.new.engine) c.requires.sound
    (on_ok (DoesFinishWith c.work-done.result c.work-done.result.job.spec.number c.args.world.now c.finish_job-taken.new.self) c.finish_job-taken.result ok c.finish_job-taken.ensures.finished)
    c.work-done.ensures.count c.work-done.ensures.bad

pub returns-clause-script : goal.returns-clause-script
returns-clause-script g c =
    let ok = taken_back c.args.hands.now c.args.world.now c.args.number c.take_job.result c.unwrap-job.result c.work-done.result c.finish_job-taken.result c.requires.may c.requires.all c.take_job.ensures.job c.unwrap-job.ensures
    c.work-done.ensures.back c.finish_job-taken.ensures.stranger in
    finish_script c.args.world.now c.finish_job-taken.new.self c.work-done.result
    (on_ok (DoesFinishWith c.work-done.result c.work-done.result.job.spec.number c.args.world.now c.finish_job-taken.new.self) c.finish_job-taken.result ok c.finish_job-taken.ensures.finished)
