use Rattle.std.proofs.Common.{true, refl, subst, arith}
use Rattle.vm_job.specs.Job.{JobParts, CameBack}
use Rattle.vm_work.proofs.WorkLemmas.{made_job, made_picture, made_behind}
use Rattle.vm_work.proofs.working.with_picture.Goals as goal

pub invariant_of-result : goal.invariant_of-result
invariant_of-result c =
    made_job _ _ c.job.inside.dst _ c.job.invariant c.make_picture.ensures.bytes

pub returns-clause-back : goal.returns-clause-back
returns-clause-back c =
    let back : JobParts → Type 0 = λ job. CameBack job (record { job = record { spec = c.job.inside.spec; src = c.job.inside.src; dst = c.make_picture.new.dst }; good = true }) in
    subst back c.job.view_is (record {
      spec = refl;
      src = refl;
      dst = made_behind c.job.inside.spec c.job.inside.src c.job.inside.dst c.make_picture.new.dst c.job.invariant.room c.make_picture.ensures.bytes c.make_picture.ensures.rest c.make_picture.ensures.queue c.make_picture.ensures.index;
      bad = λ bad. grind arith;
    })

pub returns-clause-picture : goal.returns-clause-picture
returns-clause-picture c =
    made_picture c.job.inside.spec c.job.inside.src c.job.inside.dst c.make_picture.new.dst c.make_picture.ensures.bytes
