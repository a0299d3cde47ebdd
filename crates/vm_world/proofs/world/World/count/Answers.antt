use Rattle.std.proofs.Common.{length, map, ap, ◌∙◌, arith}
use Rattle.vm_host.specs.Host.{ready_ids, resumable_ids}
use Rattle.vm_host.proofs.OfferLemmas.{part_resumable}
use Rattle.vm_realm.specs.declared.step.Step.TheVariants.{Resume as Resumes, Begin as Begins}
use Rattle.vm_world.proofs.KindLemmas.{seen, so_many, few_calls, few_jobs, few_sessions}
use Rattle.vm_world.proofs.OfferLemmas.{ready_beginning}
use Rattle.vm_world.proofs.world.World.count.Goals as goal

pub returns-in-Resume-clause-count : goal.returns-in-Resume-clause-count
returns-in-Resume-clause-count g c =
    so_many Resumes (resumable_ids c.self.inside.host) c.resumable_len.result _ c.resumable_len.ensures
    (seen _ _ _ _ c.in-Resume.is c.self.view_is ∙ ap (map Resumes) (part_resumable c.self.inside.host))

pub returns-in-Resume-clause-few : goal.returns-in-Resume-clause-few
returns-in-Resume-clause-few g c =
    omega (arith, few_calls _ c.self.invariant.0, c.resumable_len.ensures, ap (λ ns. length ns) (part_resumable c.self.inside.host))

pub returns-in-Begin-clause-count : goal.returns-in-Begin-clause-count
returns-in-Begin-clause-count g c =
    so_many Begins (ready_ids c.self.inside.host) c.ready_len.result _ c.ready_len.ensures
    (seen _ _ _ _ c.in-Begin.is c.self.view_is ∙ ap (map Begins) (ready_beginning c.self.inside.host))

pub returns-in-Begin-clause-few : goal.returns-in-Begin-clause-few
returns-in-Begin-clause-few g c =
    omega (arith, few_sessions _ c.self.invariant.0, c.ready_len.ensures, ap (λ ns. length ns) (ready_beginning c.self.inside.host))

pub returns-in-Finish-clause-few : goal.returns-in-Finish-clause-few
returns-in-Finish-clause-few g c = omega (arith, few_jobs _ c.self.invariant.0, ap (λ js. length js) c.jobs_out.ensures.jobs)
