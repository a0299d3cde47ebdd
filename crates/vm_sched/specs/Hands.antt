-- The jobs and the leases that are out of a world, in the hands of who does them.
use Rattle.std.specs.Prelude.{ℕ, ◌≡◌, ◌≢◌, ◌≤◌, ◌+◌, ◌-◌, ◌^◌, ◌⊎◌, List, [], All, length, replicate, Option, Some, None, slice_index_or, slice_set}
use Rattle.std.specs.BTreeMap.{is_at}
use Rattle.std.specs.Map.{lookup}
use Rattle.std.specs.Ordering.{nat_cmp}
use Rattle.vm_guest.specs.Guest.{process_at}
use Rattle.vm_guest.specs.Process.{lease_out}
use Rattle.vm_job.specs.Entry.{IsOf as IsOfJob}
use Rattle.vm_job.specs.Job.{JobParts}
use Rattle.vm_job.specs.declared.job_out.JobOut.{JobOut}
use Rattle.vm_lease.specs.Lease.{LeaseParts, IsOf as IsOfLease}
use Rattle.vm_lease.specs.declared.lease_out.LeaseOut.{LeaseOut}
use Rattle.vm_realm.specs.Left.{bad_count}
use Rattle.vm_realm.specs.Steps.{Steps}
use Rattle.vm_realm.specs.World.{WorldState, jobs_out, leases_out}
use Rattle.vm_realm.specs.declared.step.Step.{Step}

-- the jobs by their numbers, and process by process the lease
pub record HandsState : Type 0 where
  pub jobs : List (ℕ × JobParts)
  pub leases : List (Option LeaseParts)

-- the job of a number
abbrev pub job_held : HandsState → ℕ → Option JobParts
job_held hands number = lookup (is_at (nat_cmp number)) hands.jobs

-- the lease of a process
abbrev pub lease_held : HandsState → ℕ → Option LeaseParts
lease_held hands n = slice_index_or hands.leases n None

-- nothing is in hand, of so many processes
abbrev pub empty_hands : ℕ → HandsState
empty_hands n = record { jobs = []; leases = replicate n None }

-- The hands differ in the job of this number alone, which is this one now.
pub record ChangesJob (old new : HandsState) (number : ℕ) (now : Option JobParts) : Type 0 where
  pub changed : job_held new number ≡ now
  pub others : (other : ℕ) → other ≢ number → job_held new other ≡ job_held old other
  pub leases : new.leases ≡ old.leases

abbrev pub with_lease : HandsState → ℕ → Option LeaseParts → HandsState
with_lease hands n lease = record hands { leases = slice_set hands.leases n lease }

-- ---- what is out of the world

-- the job is in hand as it went out
abbrev pub HasJob : HandsState → JobOut → Type 0
HasJob hands entry =
    (job : JobParts) × (job_held hands entry.spec.number ≡ Some job) × IsOfJob entry job

-- and so is the lease of a process
abbrev pub HasLease : HandsState → ℕ → LeaseOut → Type 0
HasLease hands n entry =
    (lease : LeaseParts) × (lease_held hands n ≡ Some lease) × IsOfLease entry lease

-- Each job and each lease that is out of the world is in hand, as it went out.
pub record HasAll (hands : HandsState) (w : WorldState) : Type 0 where
  pub jobs : All (HasJob hands) (jobs_out w)
  pub leases : (n : ℕ) (entry : LeaseOut) → lease_out (process_at w.guest n) ≡ Some entry →
      HasLease hands n entry
  pub places : length hands.leases ≡ length w.guest.processes

-- No job and no lease is out of the world.
pub record HasNoneOut (w : WorldState) : Type 0 where
  pub jobs : jobs_out w ≡ []
  pub leases : leases_out w ≡ []

-- ---- a step

-- The step leads from the one world to the other, and what is out of it is in hand then.
pub record Goes (s : Step) (hands : HandsState) (w : WorldState) (hands' : HandsState)
    (w' : WorldState) : Type 0 where
  pub steps : Steps w s w'
  pub all : HasAll hands' w'

-- ---- frames that fail

-- Meanwhile no more frames failed than runs of the engine, of which these counts tell, unless the
-- count has come to its type's end.
abbrev pub FailsWithin : WorldState → WorldState → ℕ → ℕ → Type 0
FailsWithin w w' before now =
    (bad_count w' + before ≤ bad_count w + now) ⊎ (2 ^ 64 - 1 ≤ now)
