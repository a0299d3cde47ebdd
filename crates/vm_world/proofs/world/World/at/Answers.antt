use Rattle.std.proofs.Common.{map, sym, ap, ◌∙◌}
use Rattle.vm_host.specs.Host.{resumable_ids}
use Rattle.vm_host.specs.Part.{part_of}
use Rattle.vm_host.proofs.OfferLemmas.{part_resumable}
use Rattle.vm_job.specs.declared.job_out.JobOut.{JobOut}
use Rattle.vm_marks.specs.Marks.{places_of}
use Rattle.vm_realm.specs.Enabled.{beginning_ids}
use Rattle.vm_realm.specs.declared.step.Step.TheVariants.{Issue as Issues, Resume as Resumes, Begin as Begins, Finish as Finishes, Lease as Leases, GiveBack as GivesBack}
use Rattle.vm_world.specs.Kinds.{may}
use Rattle.vm_world.specs.declared.offers.Offer.TheVariants.{Issue as ToIssue, Lease as ToLease, GiveBack as ToGiveBack}
use Rattle.vm_world.proofs.KindLemmas.{seen, some_step, no_step}
use Rattle.vm_world.proofs.world.World.at.Goals as goal

pub returns-in_ok-process_in_place-in-Issue : goal.returns-in_ok-process_in_place-in-Issue
returns-in_ok-process_in_place-in-Issue g c =
    some_step Issues (places_of (map (may ToIssue) c.self.inside.guest.processes)) c.args.place _ _ c.in_ok-process_in_place-in-Issue.ensures
    (seen _ _ _ _ c.in-Issue.is c.self.view_is)

pub returns-in_err-resumable_at-in-Resume : goal.returns-in_err-resumable_at-in-Resume
returns-in_err-resumable_at-in-Resume g c =
    no_step Resumes (resumable_ids c.self.inside.host) c.args.place _ _ c.from_residual-in_err-resumable_at-in-Resume.ensures c.in_err-resumable_at-in-Resume.ensures
    (seen _ _ _ _ c.in-Resume.is c.self.view_is ∙ ap (map Resumes) (part_resumable c.self.inside.host))

pub returns-in_ok-resumable_at-in-Resume : goal.returns-in_ok-resumable_at-in-Resume
returns-in_ok-resumable_at-in-Resume g c =
    some_step Resumes (resumable_ids c.self.inside.host) c.args.place _ _ c.in_ok-resumable_at-in-Resume.ensures
    (seen _ _ _ _ c.in-Resume.is c.self.view_is ∙ ap (map Resumes) (part_resumable c.self.inside.host))

pub returns-in_err-begin_in_place-in-Begin : goal.returns-in_err-begin_in_place-in-Begin
returns-in_err-begin_in_place-in-Begin g c =
    no_step Begins (beginning_ids (part_of c.self.inside.host)) c.args.place _ _ c.from_residual-in_err-begin_in_place-in-Begin.ensures c.in_err-begin_in_place-in-Begin.ensures
    (seen _ _ _ _ c.in-Begin.is c.self.view_is)

pub returns-in_ok-begin_in_place-in-Begin : goal.returns-in_ok-begin_in_place-in-Begin
returns-in_ok-begin_in_place-in-Begin g c =
    some_step Begins (beginning_ids (part_of c.self.inside.host)) c.args.place _ _ c.in_ok-begin_in_place-in-Begin.ensures
    (seen _ _ _ _ c.in-Begin.is c.self.view_is)

pub returns-in_err-job_in_place-in-Finish : goal.returns-in_err-job_in_place-in-Finish
returns-in_err-job_in_place-in-Finish g c =
    no_step Finishes (map (λ (e : JobOut). e.spec.number) c.jobs_out.result.now) c.args.place _ _ c.from_residual-in_err-job_in_place-in-Finish.ensures c.in_err-job_in_place-in-Finish.ensures
    (seen _ _ _ _ c.in-Finish.is c.self.view_is ∙ ap (λ js. map Finishes (map (λ (e : JobOut). e.spec.number) js)) (sym c.jobs_out.ensures.jobs))

pub returns-in_ok-job_in_place-in-Finish : goal.returns-in_ok-job_in_place-in-Finish
returns-in_ok-job_in_place-in-Finish g c =
    some_step Finishes (map (λ (e : JobOut). e.spec.number) c.jobs_out.result.now) c.args.place _ _ c.in_ok-job_in_place-in-Finish.ensures
    (seen _ _ _ _ c.in-Finish.is c.self.view_is ∙ ap (λ js. map Finishes (map (λ (e : JobOut). e.spec.number) js)) (sym c.jobs_out.ensures.jobs))

pub returns-in_err-process_in_place-in-Lease : goal.returns-in_err-process_in_place-in-Lease
returns-in_err-process_in_place-in-Lease g c =
    no_step Leases (places_of (map (may ToLease) c.self.inside.guest.processes)) c.args.place _ _ c.from_residual-in_err-process_in_place-in-Lease.ensures c.in_err-process_in_place-in-Lease.ensures
    (seen _ _ _ _ c.in-Lease.is c.self.view_is)

pub returns-in_ok-process_in_place-in-Lease : goal.returns-in_ok-process_in_place-in-Lease
returns-in_ok-process_in_place-in-Lease g c =
    some_step Leases (places_of (map (may ToLease) c.self.inside.guest.processes)) c.args.place _ _ c.in_ok-process_in_place-in-Lease.ensures
    (seen _ _ _ _ c.in-Lease.is c.self.view_is)

pub returns-in_err-process_in_place-in-GiveBack : goal.returns-in_err-process_in_place-in-GiveBack
returns-in_err-process_in_place-in-GiveBack g c =
    no_step GivesBack (places_of (map (may ToGiveBack) c.self.inside.guest.processes)) c.args.place _ _ c.from_residual-in_err-process_in_place-in-GiveBack.ensures c.in_err-process_in_place-in-GiveBack.ensures
    (seen _ _ _ _ c.in-GiveBack.is c.self.view_is)

pub returns-in_ok-process_in_place-in-GiveBack : goal.returns-in_ok-process_in_place-in-GiveBack
returns-in_ok-process_in_place-in-GiveBack g c =
    some_step GivesBack (places_of (map (may ToGiveBack) c.self.inside.guest.processes)) c.args.place _ _ c.in_ok-process_in_place-in-GiveBack.ensures
    (seen _ _ _ _ c.in-GiveBack.is c.self.view_is)
