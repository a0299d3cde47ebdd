-- The steps that may come next, kind by kind.
use Rattle.std.specs.Prelude.{Bool, List, [], ◌∷◌, is_some, map}
use Rattle.vm_guest.specs.Process.{ProcessState, issuing, leasing, lease_out}
use Rattle.vm_realm.specs.Enabled.{is_some_of, can_announce, listed, processes_that, resumable_ids, beginning_ids}
use Rattle.vm_realm.specs.World.{WorldState, jobs_out}
use Rattle.vm_realm.specs.declared.step.Step.{Step}
use Rattle.vm_realm.specs.declared.step.Step.TheVariants.{Issue as Issues, Execute as Executes, Resume as Resumes, Begin as Begins, Finish as Finishes, Announce as Announces, Collect as Collects, Pump as Pumps, Lease as Leases, GiveBack as GivesBack}
use Rattle.vm_world.specs.declared.kind.Kind.{Kind}
use Rattle.vm_world.specs.declared.kind.Kind.TheVariants.{Issue, Execute, Resume, Begin, Finish, Announce, Collect, Pump, Lease, GiveBack}
use Rattle.vm_world.specs.declared.offers.Offer.{Offer}
use Rattle.vm_world.specs.declared.offers.Offer.TheVariants.{Issue as ToIssue, Lease as ToLease, GiveBack as ToGiveBack}

-- what a process may do
abbrev pub may : Offer → ProcessState → Bool
may ToIssue p = is_some (issuing p)
may ToLease p = is_some (leasing p)
may ToGiveBack p = is_some (lease_out p)

-- The steps of a kind that may come next, in order: by rising number of the process, the session or
-- the job.
abbrev pub steps_of : Kind → WorldState → List Step
steps_of Issue w = map Issues (processes_that (may ToIssue) w)
steps_of Execute w = listed (is_some_of w.requests) Executes
steps_of Resume w = map Resumes (resumable_ids w.host)
steps_of Begin w = map Begins (beginning_ids w.host)
steps_of Finish w = map Finishes (map (λ e. e.spec.number) (jobs_out w))
steps_of Announce w = listed (can_announce w) Announces
steps_of Collect w = listed (is_some_of w.replies) Collects
steps_of Pump w = listed (is_some_of w.events) Pumps
steps_of Lease w = map Leases (processes_that (may ToLease) w)
steps_of GiveBack w = map GivesBack (processes_that (may ToGiveBack) w)

-- all kinds, in order
abbrev pub kinds : List Kind
kinds =
    Issue ∷ Execute ∷ Resume ∷ Begin ∷ Finish ∷ Announce ∷ Collect ∷ Pump ∷ Lease ∷ GiveBack ∷ []
