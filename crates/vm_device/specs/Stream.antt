-- The frames of the device: a job begins for a session, comes back, and its events are sent one by
-- one. Source: own, after the events of the VIRTIO 1.4 draft's media device.
use Rattle.std.specs.Prelude.{ℕ, ◌+◌, ◌-◌, ◌≡◌, ◌==◌, true, false, not, List, [], ◌∷◌, ◌++◌, length, replicate, find, filter, Option, Some, None, is_some}
use Rattle.std.specs.Option.{option_map}
use Rattle.vm_frame.specs.declared.mem.Held.{Held}
use Rattle.vm_job.specs.Entry.{IsOf}
use Rattle.vm_job.specs.Job.{JobParts, DoneParts}
use Rattle.vm_job.specs.declared.done_job.Stranger.{Stranger}
use Rattle.vm_job.specs.declared.job_out.JobOut.{JobOut}
use Rattle.vm_job.specs.declared.spec.JobSpec.{JobSpec}
use Rattle.vm_wire.specs.declared.event.EventMsg.{EventMsg}
use Rattle.vm_session.specs.State.{SessionState}
use Rattle.vm_session.specs.Streaming.{next_job, begun, finished, oldest, sent}
use Rattle.vm_device.specs.Device.{DeviceState, session_of, with_session, is_ready}

-- ---- a job begins

-- the session's next job is out, as this entry tells it
abbrev pub with_job : DeviceState → ℕ → SessionState → JobOut → DeviceState
with_job d id s entry =
    record (with_session d id (begun s d.begun)) {
      jobs = d.jobs ++ entry ∷ [];
      begun = d.begun + 1;
    }

-- The job is the session's next one, under the number of jobs that were begun before, and it is out
-- from then on.
abbrev pub BeginsJob : DeviceState → ℕ → JobParts → DeviceState → Type 0
BeginsJob d id job d' =
    (s : SessionState) × (entry : JobOut) × (session_of d id ≡ Some s) ×
    (next_job s d.begun ≡ Some job)
    × IsOf entry job × (d' ≡ with_job d id s entry)

-- None begins exactly where the session isn't live or has no frame to make.
abbrev pub Begins : DeviceState → ℕ → Option JobParts → DeviceState → Type 0
Begins d id None d' = (is_ready (session_of d id) ≡ false) × (d' ≡ d)
Begins d id (Some job) d' = (is_ready (session_of d id) ≡ true) × BeginsJob d id job d'

-- ---- a job comes back

-- the spec of the job that is out under a number
abbrev pub outstanding : DeviceState → ℕ → Option JobSpec
outstanding d number = option_map (λ e. e.spec) (find (λ e. e.spec.number == number) d.jobs)

-- The done job isn't one that is out: none of its number is, or one with another spec. It is handed
-- back with that one's spec.
pub record IsStranger (d : DeviceState) (done : DoneParts) (stranger : Stranger) : Type 0 where
  pub back : stranger.done ≡ done
  pub spec : stranger.spec ≡ outstanding d done.job.spec.number
  pub differs : ¬ (stranger.spec ≡ Some done.job.spec)

-- how many events the session has to send once the job is back
abbrev pub events_more : SessionState → DoneParts → ℕ
events_more s done = length (finished s done).unsent - length s.unsent

-- the session's job is out no more, and the session's events are unsent behind those of others
abbrev pub with_done : DeviceState → ℕ → SessionState → DoneParts → DeviceState
with_done d id s done = record (with_session d id (finished s done)) {
  jobs = filter (λ e. not (e.spec.session == id)) d.jobs;
  unsent = d.unsent ++ replicate (events_more s done) id;
}

-- The done job is the one that is out under its number, and its session has it.
abbrev pub Finishes : DeviceState → DoneParts → DeviceState → Type 0
Finishes d done d' =
    (s : SessionState) × (outstanding d done.job.spec.number ≡ Some done.job.spec)
    × (session_of d done.job.spec.session ≡ Some s) ×
    (d' ≡ with_done d done.job.spec.session s done)

-- ---- an event is sent

-- the session of this id sent its oldest event, and the events of these sessions are left
abbrev pub with_sent : DeviceState → ℕ → SessionState → List ℕ → DeviceState
with_sent d id s ids = record (with_session d id (sent s)) { unsent = ids }

-- The oldest event that is unsent leaves the device, with the memory that goes along. None does
-- exactly where none is unsent.
abbrev pub Sends : DeviceState → List ℕ → Option (EventMsg × Option Held) → DeviceState → Type 0
Sends d [] event d' = (event ≡ None) × (d' ≡ d)
Sends d (id ∷ ids) event d' =
    (s : SessionState) × (session_of d id ≡ Some s) × (is_some event ≡ true) × (event ≡ oldest s)
    × (d' ≡ with_sent d id s ids)
