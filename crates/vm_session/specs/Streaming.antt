-- The frames of a session: a job begins, comes back, and its events are sent one by one. A camera's
-- frames are this project's own; for the rest see the Linux V4L2 interface, "Streaming I/O" and the
-- memory to memory devices.
use Rattle.std.specs.Prelude.{ℕ, ◌+◌, ◌*◌, ◌/◌, ◌%◌, ◌^◌, ◌≡◌, ◌==◌, ◌&&◌, Bool, not, nat_lt, if◌then◌else◌, List, [], ◌∷◌, ◌++◌, length, map, take, drop, Option, Some, None, is_some}
use Rattle.std.specs.List.{filter, list_all}
use Rattle.std.specs.Option.{option_map, option_and_then, option_to_list, unwrap_or}
use Rattle.v4l_const.specs.Model.{source_queue, has_events}
use Rattle.v4l_format.specs.Fmt.{picture_size}
use Rattle.v4l_layout.specs.declared.buffer_rec.BufferRec.{BufferRec}
use Rattle.v4l_rules.specs.Formats.{source_format}
use Rattle.vm_frame.specs.declared.mem.Held.{Held}
use Rattle.vm_job.specs.declared.done_job.Stranger.{Stranger}
use Rattle.vm_job.specs.declared.spec.JobSpec.{JobSpec}
use Rattle.vm_job.specs.Job.{JobParts, DoneParts}
use Rattle.vm_mem.specs.Lists.{first_of}
use Rattle.vm_queue.specs.declared.queued.Queued.{Queued}
use Rattle.vm_wire.specs.Buffers.{dequeued_buffer, frame_event}
use Rattle.vm_wire.specs.declared.buffers.PictureNote.{PictureNote}
use Rattle.vm_wire.specs.declared.event.EventMsg.{EventMsg}
use Rattle.vm_wire.specs.declared.event.EventMsg.TheVariants.{Dequeued, Happened}
use Rattle.vm_session.specs.declared.events.TheConstants.{FRAME_MICROS, SECOND_MICROS}
use Rattle.vm_session.specs.declared.running.Running.{Running}
use Rattle.vm_session.specs.declared.unsent.Unsent.{Unsent}
use Rattle.vm_session.specs.State.{SessionQueue, SessionState, queue_kind, queue_of, with_queue, pictures}

-- ---- a job begins

-- the queue streams and has a buffer queued
abbrev pub is_ready : SessionQueue → Bool
is_ready q = q.streaming && nat_lt 0 (length q.queued)

-- no job runs, and all queues are ready
abbrev pub can_begin : SessionState → Bool
can_begin s = not (is_some s.running) && list_all is_ready s.queues

-- the buffer that the next frame is made from, where the device reads one, and the one that the
-- frame's picture goes to
abbrev pub next_src : SessionState → Option Queued
next_src s = option_and_then (λ t. first_of (queue_of s t).queued) (source_queue s.model)

abbrev pub next_dst : SessionState → Option Queued
next_dst s = first_of (pictures s).queued

-- what the next frame is to be, under this number; where nothing is read the format of the picture
-- stands for that of the source
abbrev pub next_spec : SessionState → ℕ → JobSpec
next_spec s number = record {
  session = s.id;
  number = number;
  model = s.model;
  input = s.input;
  seq = (pictures s).sequence;
  src = unwrap_or (source_format queue_kind s.model s.queues) (pictures s).format;
  dst = (pictures s).format;
}

-- the job of these buffers, and what is kept of it while it runs
abbrev pub job_with : JobSpec → Option Queued → Queued → JobParts
job_with spec src dst = record { spec = spec; src = option_map (λ b. b.held) src; dst = dst.held }

abbrev pub running_with : JobSpec → Option Queued → Queued → Running
running_with spec src dst =
    record { spec = spec; src = option_map (λ b. b.buffer) src; dst = dst.buffer }

abbrev pub next_job : SessionState → ℕ → Option JobParts
next_job s number = option_map (job_with (next_spec s number) (next_src s)) (next_dst s)

-- the buffer that is queued first leaves the queue, and is out
abbrev pub headless : SessionQueue → SessionQueue
headless q = record q {
  queued = drop 1 q.queued;
  out = q.out ++ map (λ b. b.buffer.index) (take 1 q.queued);
}

-- the job of this number runs
abbrev pub begun : SessionState → ℕ → SessionState
begun s number = record s {
  queues = map headless s.queues;
  running = option_map (running_with (next_spec s number) (next_src s)) (next_dst s);
}

-- ---- a job comes back

-- the spec of the running job, if it has this number
abbrev pub spec_under : ℕ → Option Running → Option JobSpec
spec_under number None = None
spec_under number (Some r) = if r.spec.number == number then Some r.spec else None

abbrev pub outstanding : SessionState → ℕ → Option JobSpec
outstanding s number = spec_under number s.running

-- The done job isn't the one that runs: none of its number does, or one with another spec. It is
-- handed back with that one's spec.
pub record IsStranger (s : SessionState) (handed : DoneParts) (stranger : Stranger) : Type 0 where
  pub done : stranger.done ≡ handed
  pub spec : stranger.spec ≡ outstanding s handed.job.spec.number
  pub differs : ¬ (stranger.spec ≡ Some handed.job.spec)

-- the number behind another one
abbrev pub next_number : ℕ → ℕ
next_number n = (n + 1) % 2 ^ 32

-- a frame of the queue is done
abbrev pub counted : SessionQueue → SessionQueue
counted q = record q { sequence = next_number q.sequence }

-- when a frame that is made from nothing began, in microseconds
abbrev pub frame_time : ℕ → ℕ
frame_time sequence = sequence * FRAME_MICROS

-- a timestamp: whole seconds, and microseconds past them
pub record Stamp : Type 0 where
  pub seconds : ℕ
  pub micros : ℕ

-- the timestamp of a frame: that of the buffer that it was made from, else that of its number
abbrev pub stamp_of : Option BufferRec → ℕ → Stamp
stamp_of None sequence = record {
  seconds = frame_time sequence / SECOND_MICROS;
  micros = frame_time sequence % SECOND_MICROS;
}
stamp_of (Some src) sequence = record { seconds = src.seconds; micros = src.micros }

-- What is told of a buffer of the job that comes back. It has so many bytes in use, the number of
-- its own queue, and the timestamp of the frame.
abbrev pub note_of : SessionState → Running → Bool → BufferRec → ℕ → PictureNote
note_of s r good b bytesused =
    let stamp : Stamp = stamp_of r.src (pictures s).sequence in
    record {
      bytesused = bytesused;
      seconds = stamp.seconds;
      micros = stamp.micros;
      sequence = (queue_of s b.kind).sequence;
      is_bad = not good;
    }

-- the buffer goes back to the driver with its memory
abbrev pub returned : SessionState → Running → Bool → BufferRec → ℕ → Option Held → Unsent
returned s r good b bytesused held = record {
  msg = Dequeued s.id (dequeued_buffer s.model b (note_of s r good b bytesused));
  held = held;
}

-- A good frame is told of before its buffers, where the model has events.
abbrev pub sync_events : SessionState → Bool → List Unsent
sync_events s good =
    let n : ℕ = (pictures s).sequence in
    if has_events s.model && good
    then (record { msg = Happened s.id (frame_event n (frame_time n)); held = None }) ∷ []
    else []

-- the buffer that was read, if one was, keeps the bytes in use that it was queued with
abbrev pub src_events : SessionState → Running → DoneParts → List Unsent
src_events s r done =
    option_to_list (option_map (λ b. returned s r done.good b b.bytesused done.job.src) r.src)

-- the buffer of the picture has the picture, or nothing
abbrev pub dst_event : SessionState → Running → DoneParts → Unsent
dst_event s r done =
    returned s r done.good r.dst
    (if done.good then picture_size (pictures s).format else 0)
    (Some done.job.dst)

-- all events of a job, in the order in which they are sent
abbrev pub events_of : SessionState → Running → DoneParts → List Unsent
events_of s r done =
    sync_events s done.good ++ (src_events s r done ++ dst_event s r done ∷ [])

-- the running job came back like this
abbrev pub finished_by : Option Running → SessionState → DoneParts → SessionState
finished_by None s done = s
finished_by (Some r) s done = record s {
  queues = map counted s.queues;
  running = None;
  unsent = s.unsent ++ events_of s r done;
}

abbrev pub finished : SessionState → DoneParts → SessionState
finished s done = finished_by s.running s done

-- ---- an event is sent

-- the oldest event, with the memory that goes along
abbrev pub oldest : SessionState → Option (EventMsg × Option Held)
oldest s = option_map (λ e. (e.msg, e.held)) (first_of s.unsent)

-- the buffer is out no more
abbrev pub settled : SessionQueue → ℕ → SessionQueue
settled q index = record q { out = filter (λ i. not (i == index)) q.out }

-- the buffer that an event gives back is at home
abbrev pub with_returned : SessionState → EventMsg → SessionState
with_returned s (Dequeued session b) = with_queue s b.kind (settled (queue_of s b.kind) b.index)
with_returned s (Happened session event) = s

-- the oldest event was sent, if there is one
abbrev pub sent_of : List Unsent → SessionState → SessionState
sent_of [] s = s
sent_of (e ∷ es) s = with_returned (record s { unsent = es }) e.msg

abbrev pub sent : SessionState → SessionState
sent s = sent_of s.unsent s
