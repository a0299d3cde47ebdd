-- What the device keeps to.
use Rattle.std.specs.Prelude.{ℕ, ◌≡◌, ◌≤◌, ◌<◌, ◌^◌, ◌==◌, List, [], ◌∷◌, length, map, filter, All, sum_by, Option, Some, None, ⊤}
use Rattle.std.specs.Option.{option_map, option_to_list}
use Rattle.vm_job.specs.declared.job_out.JobOut.{JobOut}
use Rattle.vm_job.specs.declared.spec.JobSpec.{JobSpec}
use Rattle.vm_mem.specs.Lists.{occurrences}
use Rattle.vm_session.specs.State.{SessionState}
use Rattle.vm_device.specs.Device.{DeviceState, session_of}
use Rattle.vm_device.specs.Mappings.{FitsSessions}

-- ---- jobs

-- what the jobs that are out for the session of this id are to make
abbrev pub specs_for : ℕ → List JobOut → List JobSpec
specs_for id jobs = map (λ e. e.spec) (filter (λ e. e.spec.session == id) jobs)

-- what the running job of a session is to make, if the session is live and one runs
abbrev pub specs_in : Option SessionState → List JobSpec
specs_in None = []
specs_in (Some s) = option_to_list (option_map (λ r. r.spec) s.running)

-- the numbers of jobs rise, and stay below a number
abbrev pub RiseBelow : ℕ → List JobOut → Type 0
RiseBelow n [] = ⊤
RiseBelow n (e ∷ es) =
    (e.spec.number < n) × All (λ f. e.spec.number < f.spec.number) es × RiseBelow n es

-- ---- events

-- how many events a session has to send, if it is live
abbrev pub unsent_in : Option SessionState → ℕ
unsent_in None = 0
unsent_in (Some s) = length s.unsent

-- ---- the whole

-- No more sessions were opened than may be, and their ids fit into four bytes. A session's id is
-- its place. The jobs that are out are the running ones of the sessions, at most one for each;
-- their numbers rise, and are below that of the next job. For each session there are as many events
-- to be sent as it has, at most 64. What is mapped fits the sessions.
pub record IsSound (d : DeviceState) : Type 0 where
  pub few : length d.sessions ≤ d.opens
  pub small : d.opens < 2 ^ 32
  pub ids : (id : ℕ) (s : SessionState) → session_of d id ≡ Some s → s.id ≡ id
  pub jobs : (id : ℕ) → specs_for id d.jobs ≡ specs_in (session_of d id)
  pub job_count : length d.jobs ≡ sum_by (λ o. length (specs_in o)) d.sessions
  pub numbers : RiseBelow d.begun d.jobs
  pub events : (id : ℕ) → occurrences id d.unsent ≡ unsent_in (session_of d id)
  pub event_count : length d.unsent ≡ sum_by unsent_in d.sessions
  pub few_events : (id : ℕ) → unsent_in (session_of d id) ≤ 64
  pub fits : FitsSessions d.sessions d.region.ranges
