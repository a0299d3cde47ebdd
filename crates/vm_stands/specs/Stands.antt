-- When a session of the device stands for a handle: it has all that the handle's state says of it,
-- but for what the guest alone keeps, which are subscription, events, the done lists, and what is
-- owed.
use Rattle.std.specs.Prelude.{ℕ, ◌≡◌, ◌+◌, ◌/◌, ◌%◌, ◌<◌, ◌==◌, true, false, List, ◌++◌, All, Option, Some, None, IfSome, length, map, slice_get}
use Rattle.std.specs.List.{list_any, filter}
use Rattle.v4l_const.specs.declared.numbers.TheConstants.{MEMORY_MMAP}
use Rattle.v4l_const.specs.Model.{queues as types_of, source_queue, picture_queue}
use Rattle.v4l_format.specs.Fmt.{picture_size}
use Rattle.v4l_layout.specs.declared.buffer_rec.BufferRec.{BufferRec}
use Rattle.v4l_rules.specs.Formats.{is_source}
use Rattle.vm_frame.specs.declared.mem.Held.{Held}
use Rattle.vm_job.specs.Job.{JobParts, picture_of}
use Rattle.vm_wire.specs.Buffers.{buffer_offset}
use Rattle.vm_local.specs.declared.buffer.Buffer.{Buffer}
use Rattle.vm_local.specs.State.{LocalState, queue_of, buffer_of}
use Rattle.vm_local.specs.Kinds.{is_idle}
use Rattle.vm_local.specs.Queue.{is_empty, is_user_ptr, can_finish}
use Rattle.vm_local.specs.Steps.{head, target, next_picture}
use Rattle.vm_home.specs.Home.{IsMemory}
use Rattle.vm_home.specs.Moves.{memory_at}
use Rattle.vm_exchange.specs.Exchange.{memory_number}
use Rattle.vm_session.specs.State.{SessionState, queue_of as session_queue}
use Rattle.vm_session.specs.Sound.{taken_by}

-- ---- timestamps

-- the whole seconds of a time in microseconds, and the microseconds past them
abbrev pub seconds_of : ℕ → ℕ
seconds_of time = time / 1000000

abbrev pub micros_of : ℕ → ℕ
micros_of time = time % 1000000

-- ---- the buffers that wait for their frame

-- those of these records that are of type t
abbrev pub of_type : ℕ → List BufferRec → List BufferRec
of_type t records = filter (λ r. r.kind == t) records

-- the records with which they were queued, of one type: in front those that the running job took,
-- and then those that the session has queued
abbrev pub waiting : SessionState → ℕ → List BufferRec
waiting session t = of_type t (taken_by session.running) ++ map (λ b. b.buffer)
    (session_queue session t).queued

-- the record tells of the picture that the device is to read from the buffer
pub record IsPictureTold (r : BufferRec) (b : Buffer) : Type 0 where
  pub used : r.bytesused ≡ b.used
  pub seconds : r.seconds ≡ seconds_of b.timestamp
  pub micros : r.micros ≡ micros_of b.timestamp

-- It is the record of a buffer that is queued on the queue of type t, and whose last frame didn't
-- fail.
pub record IsRecordOf (s : LocalState) (t : ℕ) (r : BufferRec) : Type 0 where
  pub kind : r.kind ≡ t
  pub memory : r.memory ≡ memory_number (queue_of s t).memory
  pub place : r.memory ≡ MEMORY_MMAP → r.m ≡ buffer_offset t r.index
  pub size : r.length ≡ (buffer_of (queue_of s t) r.index).length
  pub told : is_source s.model t ≡ true → IsPictureTold r (buffer_of (queue_of s t) r.index)
  pub unmarked : (buffer_of (queue_of s t) r.index).is_bad ≡ false

-- what is held is the memory of the i-th buffer of type t
pub record IsMemoryAt (s : LocalState) (t i : ℕ) (h : Held) : Type 0 where
  pub queue : h.queue ≡ t
  pub index : h.index ≡ i
  pub memory : IsMemory s (memory_at s t i) h.mem

-- ---- a queue

-- The queue of type t has the format, the lengths of the buffers, the streaming and the next number
-- of the state's queue, and where there are buffers its memory kind. The state's queued list has
-- the buffers that wait, in their order; of those that the session has queued it has the memories.
-- A buffer that is out isn't Idle. `frames` are the numbers of the memories of all frames that the
-- session made, in the order in which it made them.
pub record StandsOn (frames : List ℕ) (session : SessionState) (s : LocalState)
    (t : ℕ) : Type 0 where
  pub format : (session_queue session t).format ≡ (queue_of s t).format
  pub kind : is_empty (queue_of s t).buffers ≡ false →
      (session_queue session t).kind ≡ memory_number (queue_of s t).memory
  pub lengths : (session_queue session t).lengths ≡ map (λ b. b.length) (queue_of s t).buffers
  pub streaming : (session_queue session t).streaming ≡ (queue_of s t).streaming
  pub sequence : (session_queue session t).sequence ≡ (queue_of s t).next_sequence
  pub order : map (λ r. r.index) (waiting session t) ≡ (queue_of s t).queued
  pub records : All (IsRecordOf s t) (waiting session t)
  pub memories : All (λ b. IsMemoryAt s t b.buffer.index b.held) (session_queue session t).queued
  pub out : (i : ℕ) → list_any (λ j. j == i) (session_queue session t).out ≡ true →
      is_idle (buffer_of (queue_of s t) i).state ≡ false
  pub numbered : is_user_ptr (queue_of s t).memory ≡ false → (i : ℕ) →
      i < length (queue_of s t).buffers
      → (buffer_of (queue_of s t) i).memory
      ≡ slice_get frames ((session_queue session t).first_frame + i)

-- ---- a session

-- The session stands for an open handle in this state: model, input and queues agree, and a job
-- that runs took a buffer of each queue.
pub record Stands (frames : List ℕ) (session : SessionState) (s : LocalState) : Type 0 where
  pub opened : s.opened ≡ true
  pub model : session.model ≡ s.model
  pub input : session.input ≡ s.input
  pub count : length session.queues ≡ length s.queues
  pub made : length frames ≡ session.made
  pub took : IfSome session.running (λ r. map (λ b. b.kind) (taken_by (Some r)) ≡ types_of s.model)
  pub each : (t : ℕ) → StandsOn frames session s t

-- ---- a job

-- it is the memory of the first buffer that is queued on the queue of type t
abbrev pub IsHead : LocalState → ℕ → Held → Type 0
IsHead s t h = IsMemoryAt s t (head (queue_of s t)) h

abbrev pub IsHeadIf : LocalState → Option ℕ → Option Held → Type 0
IsHeadIf s None h = h ≡ None
IsHeadIf s (Some t) None = ⊥
IsHeadIf s (Some t) (Some h) = IsHead s t h

-- The job is the frame that is possible in the state: it has the memories of the buffers that the
-- frame takes, and makes its picture.
pub record IsNext (s : LocalState) (job : JobParts) : Type 0 where
  pub possible : can_finish s ≡ true
  pub picture : picture_of job.spec job.src ≡ next_picture s
  pub size : picture_size job.spec.dst ≡ picture_size (target s).format
  pub src : IsHeadIf s (source_queue s.model) job.src
  pub dst : IsHead s (picture_queue s.model) job.dst

-- the same of a session's running job, if one runs
abbrev pub IsNextIf : LocalState → Option JobParts → Type 0
IsNextIf s None = Unit {0}
IsNextIf s (Some job) = IsNext s job
