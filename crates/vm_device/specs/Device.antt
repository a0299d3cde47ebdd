-- What the device keeps, in plain lists and numbers. It is this project's own, after the sessions
-- of the VIRTIO 1.4 draft's media device.
use Rattle.std.specs.Prelude.{ℕ, Bool, true, false, List, [], map, slice_index_or, slice_set, Option, Some, None}
use Rattle.v4l_const.specs.declared.model.Model.{Model}
use Rattle.vm_job.specs.declared.job_out.JobOut.{JobOut}
use Rattle.vm_marks.specs.Marks.{places_of}
use Rattle.vm_region.specs.Region.{RegionState}
use Rattle.vm_session.specs.State.{SessionState, is_quiet}
use Rattle.vm_session.specs.Streaming.{can_begin}

pub record DeviceState : Type 0 where
  pub model : Model
  -- how many sessions may be opened
  pub opens : ℕ
  -- by id each session that was opened, until it is closed
  pub sessions : List (Option SessionState)
  -- the jobs that are out, as they went out, by rising number
  pub jobs : List JobOut
  -- how many jobs were begun: the number of the next one
  pub begun : ℕ
  -- for each event that is yet to be sent, the oldest first, the id of its session; the session has
  -- the event, and sends its own oldest
  pub unsent : List ℕ
  -- the region that is shared with the driver
  pub region : RegionState

abbrev pub fresh_device : Model → ℕ → DeviceState
fresh_device model opens = record {
  model = model;
  opens = opens;
  sessions = [];
  jobs = [];
  begun = 0;
  unsent = [];
  region = record { journal = []; ranges = [] };
}

-- ---- sessions by their ids

-- the session of this id, while it is live
abbrev pub session_of : DeviceState → ℕ → Option SessionState
session_of d id = slice_index_or d.sessions id None

abbrev pub with_session : DeviceState → ℕ → SessionState → DeviceState
with_session d id s = record d { sessions = slice_set d.sessions id (Some s) }

abbrev pub without_session : DeviceState → ℕ → DeviceState
without_session d id = record d { sessions = slice_set d.sessions id None }

-- ---- what can be done

-- a job of the session can begin: no job begins where none is live
abbrev pub is_ready : Option SessionState → Bool
is_ready None = false
is_ready (Some s) = can_begin s

-- no job runs for the session, and none of its events is unsent, as where none is live
abbrev pub is_at_rest : Option SessionState → Bool
is_at_rest None = true
is_at_rest (Some s) = is_quiet s

-- the sessions for which a job can begin, by rising id
abbrev pub ready_ids : DeviceState → List ℕ
ready_ids d = places_of (map is_ready d.sessions)
