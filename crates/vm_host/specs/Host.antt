-- What the device's end of the link keeps, in plain lists and numbers: the device, and the calls
-- that wait for their sessions. It is this project's own, after the sessions of the VIRTIO 1.4
-- draft's media device.
use Rattle.std.specs.Prelude.{ℕ, ◌==◌, ◌&&◌, Bool, not, List, [], map, Option}
use Rattle.std.specs.List.{filter, list_any}
use Rattle.v4l_const.specs.declared.model.Model.{Model}
use Rattle.vm_device.specs.Device.{DeviceState, fresh_device, session_of, is_ready, is_at_rest, ready_ids as ready_in}
use Rattle.vm_host.specs.Waiting.{put_in, found, taken_out}
use Rattle.vm_host.specs.declared.waiting.Waiting.{Waiting}

pub record HostState : Type 0 where
  pub device : DeviceState
  -- the calls that wait until their sessions are quiet, by rising session, at most one for each
  pub waiting : List Waiting

abbrev pub fresh_host : Model → ℕ → HostState
fresh_host model opens = record { device = fresh_device model opens; waiting = [] }

-- ---- calls that wait

-- the call of this session that waits
abbrev pub waiting_for : ℕ → List Waiting → Option Waiting
waiting_for session calls = found (λ w. w.session) session calls

-- one call more waits
abbrev pub with_call : Waiting → List Waiting → List Waiting
with_call call calls = put_in (λ w. w.session) call calls

-- the call of this session waits no more
abbrev pub without_call : ℕ → List Waiting → List Waiting
without_call session calls = taken_out (λ w. w.session) session calls

-- one of these calls is of the session
abbrev pub is_waited_in : List Waiting → ℕ → Bool
is_waited_in calls session = list_any (λ w. w.session == session) calls

-- a call of this session waits
abbrev pub waits : HostState → ℕ → Bool
waits h session = is_waited_in h.waiting session

-- ---- what can be done

-- a job of the session can begin: none does while a call of it waits
abbrev pub can_begin : HostState → ℕ → Bool
can_begin h session = not (waits h session) && is_ready (session_of h.device session)

-- a call of the session waits, and the session is quiet
abbrev pub can_resume : HostState → ℕ → Bool
can_resume h session = waits h session && is_at_rest (session_of h.device session)

-- the sessions for which a job can begin, by rising id
abbrev pub ready_ids : HostState → List ℕ
ready_ids h = filter (λ session. not (waits h session)) (ready_in h.device)

-- the sessions whose waiting call can go on, by rising id
abbrev pub resumable_ids : HostState → List ℕ
resumable_ids h =
    filter (λ session. is_at_rest (session_of h.device session)) (map (λ w. w.session) h.waiting)
