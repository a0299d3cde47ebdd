-- The state of a session of the device, in plain lists and numbers. It is this project's own, after
-- the sessions of the VIRTIO 1.4 draft's media device.
use Rattle.std.specs.Prelude.{ℕ, Bool, false, not, ◌&&◌, nat_lt, List, [], length, Option, None, is_some}
use Rattle.std.specs.List.{list_any}
use Rattle.v4l_const.specs.declared.four_cc.FourCc.{FourCc}
use Rattle.v4l_const.specs.declared.model.Model.{Model}
use Rattle.v4l_const.specs.Model.{picture_queue}
use Rattle.v4l_format.specs.declared.fmt.Fmt.{Fmt}
use Rattle.v4l_rules.specs.Formats.{first_format, taken_format, with_set_format_at}
use Rattle.v4l_rules.specs.Queues.{QueueKind, opening_queues, queue_at, with_queue_at}
use Rattle.vm_queue.specs.declared.queued.Queued.{Queued}
use Rattle.vm_session.specs.declared.running.Running.{Running}
use Rattle.vm_session.specs.declared.unsent.Unsent.{Unsent}

-- one queue of a session
pub record SessionQueue : Type 0 where
  pub format : Fmt
  -- the memory kind of its buffers by its number, as it was asked for last; 0 before
  pub kind : ℕ
  -- how long each buffer is, by its index
  pub lengths : List ℕ
  -- how many frames the session had made before those of these buffers: where the device gives the
  -- memory, buffer i has the frame that was made after first_frame + i others
  pub first_frame : ℕ
  pub streaming : Bool
  -- the number of its next frame
  pub sequence : ℕ
  -- The buffers that are queued, the first one first, and the indices of those that are out, the
  -- one that is out longest first. A buffer is out while the running job has it or its event is
  -- unsent.
  pub queued : List Queued
  pub out : List ℕ

pub record SessionState : Type 0 where
  -- the device's model, which never changes
  pub model : Model
  -- the number by which the wire names the session
  pub id : ℕ
  pub input : ℕ
  -- the queues of the model, in its order
  pub queues : List SessionQueue
  -- how many frames the session made
  pub made : ℕ
  -- the job that runs, with the records of the buffers that it took
  pub running : Option Running
  -- the events that are yet to be sent, the oldest first
  pub unsent : List Unsent

abbrev pub opening_queue : SessionQueue
opening_queue = record {
  format = first_format;
  kind = 0;
  lengths = [];
  first_frame = 0;
  streaming = false;
  sequence = 0;
  queued = [];
  out = [];
}

-- what the rules of models and formats ask of a queue
abbrev pub queue_kind : QueueKind SessionQueue
queue_kind = record {
  opening = opening_queue;
  format = λ q. q.format;
  reformatted = λ q f. record q { format = f };
}

-- a session as it is opened
abbrev pub opening_session : Model → ℕ → SessionState
opening_session m id = record {
  model = m;
  id = id;
  input = 0;
  queues = opening_queues queue_kind m;
  made = 0;
  running = None;
  unsent = [];
}

-- ---- the queue of a buffer type

abbrev pub queue_of : SessionState → ℕ → SessionQueue
queue_of s t = queue_at queue_kind s.model s.queues t

abbrev pub with_queue : SessionState → ℕ → SessionQueue → SessionState
with_queue s t q = record s { queues = with_queue_at s.model s.queues t q }

-- the queue of the pictures that the device makes
abbrev pub pictures : SessionState → SessionQueue
pictures s = queue_of s (picture_queue s.model)

-- the format that a queue takes where it is asked for this one
abbrev pub adjusted_for : SessionState → ℕ → FourCc → ℕ → ℕ → Fmt
adjusted_for s t f w h = taken_format queue_kind s.model s.queues t f w h

abbrev pub with_set_format : SessionState → ℕ → Fmt → SessionState
with_set_format s t f = record s { queues = with_set_format_at queue_kind s.model s.queues t f }

-- ---- what is asked of the whole session

abbrev pub queue_has_buffers : SessionQueue → Bool
queue_has_buffers q = nat_lt 0 (length q.lengths)

-- a queue of the session has buffers
abbrev pub has_buffers : SessionState → Bool
has_buffers s = list_any queue_has_buffers s.queues

-- a queue of the session streams
abbrev pub is_streaming : SessionState → Bool
is_streaming s = list_any (λ q. q.streaming) s.queues

-- no job runs, and no event is unsent
abbrev pub is_quiet : SessionState → Bool
is_quiet s = not (is_some s.running) && not (nat_lt 0 (length s.unsent))
