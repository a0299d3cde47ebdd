-- Buffers of a session's queues: how they are made and freed, queued and stopped.
-- Source: own, after the Linux V4L2 interface, "Streaming I/O".
use Rattle.std.specs.Prelude.{ℕ, zero, suc, ◌≡◌, ◌+◌, ◌*◌, ◌^◌, ◌==◌, ◌&&◌, Bool, true, false, not, min, if◌then◌else◌, List, [], ◌∷◌, ◌++◌, length, map, replicate, slice_get, slice_set, IfSome, All}
use Rattle.std.specs.List.{list_any, flat_map}
use Rattle.v4l_const.specs.declared.numbers.TheConstants.{MEMORY_MMAP, MEMORY_USERPTR}
use Rattle.v4l_format.specs.Fmt.{picture_size}
use Rattle.v4l_layout.specs.declared.buffer_rec.BufferRec.{BufferRec}
use Rattle.vm_frame.specs.declared.mem.Held.{Held}
use Rattle.vm_frame.specs.declared.mem.Mem.{Mem}
use Rattle.vm_frame.specs.declared.mem.Mem.TheVariants.{OfFrame, OfUser}
use Rattle.vm_frame.specs.Mem.{mem_bytes}
use Rattle.vm_queue.specs.Buffers.{memories}
use Rattle.vm_session.specs.State.{SessionQueue, SessionState, queue_of, with_queue}

-- ---- frames that are made

-- how many buffers a queue gets where it is asked for n
abbrev pub granted : ℕ → ℕ
granted n = min n 32

-- the tag of the frame that a session made after so many others
abbrev pub frame_tag : ℕ → ℕ → ℕ
frame_tag id before = id * 2 ^ 32 + before

-- the zeroed frame of a tag and size, for the buffer of a type and index
abbrev pub fresh_frame : ℕ → ℕ → ℕ → ℕ → Held
fresh_frame t i tag size =
    record { queue = t; index = i; mem = OfFrame (record { tag = tag; bytes = replicate size 0 }) }

-- n such frames, by their index, with the tags from `first` on
abbrev pub fresh_frames : ℕ → ℕ → ℕ → ℕ → List Held
fresh_frames t first size zero = []
fresh_frames t first size (suc n) =
    fresh_frames t first size n ++ fresh_frame t n (first + n) size ∷ []

-- how many frames are made for n buffers of a memory kind
abbrev pub frame_count : ℕ → ℕ → ℕ
frame_count m n = if m == MEMORY_MMAP then n else 0

-- the fresh memories of n buffers of a memory kind, where the queue of type t gets them
abbrev pub fresh_memories : SessionState → ℕ → ℕ → ℕ → List Held
fresh_memories s t m n =
    fresh_frames t (frame_tag s.id s.made) (picture_size (queue_of s t).format) (frame_count m n)

-- ---- stopping, and other buffers

-- not streaming, and nothing queued
abbrev pub stopped_queue : SessionQueue → SessionQueue
stopped_queue q = record q { streaming = false; queued = [] }

-- the queue stopped and its buffers freed, with n others of a picture's size, all at home
abbrev pub renewed_queue : SessionQueue → ℕ → ℕ → ℕ → SessionQueue
renewed_queue q kind n made =
    record (stopped_queue q) {
      kind = kind;
      lengths = replicate n (picture_size q.format);
      first_frame = made;
      out = [];
    }

-- the same of the queue of type t
abbrev pub with_buffers : SessionState → ℕ → ℕ → ℕ → SessionState
with_buffers s t m n =
    let q : SessionQueue = renewed_queue (queue_of s t) m n s.made in
    record (with_queue s t q) { made = s.made + frame_count m n }

-- all queues stopped
abbrev pub stopped : SessionState → SessionState
stopped s = record s { queues = map stopped_queue s.queues }

-- the memories that are queued, queue by queue, each queue's in their order
abbrev pub queued_memories : List SessionQueue → List Held
queued_memories queues = flat_map (λ q. memories q.queued) queues

-- ---- a buffer that is queued

-- the buffer is neither queued nor out
abbrev pub is_at_home : SessionQueue → ℕ → Bool
is_at_home q index =
    not (list_any (λ b. b.buffer.index == index) q.queued) && not (list_any (λ i. i == index) q.out)

-- the kind of a memory, by its number
abbrev pub memory_kind : Mem → ℕ
memory_kind (OfFrame frame) = MEMORY_MMAP
memory_kind (OfUser user) = MEMORY_USERPTR

-- The memory is the one that the record tells of: for the buffer of its type and index, of its kind
-- and of its length.
pub record IsTold (b : BufferRec) (h : Held) : Type 0 where
  pub queue : h.queue ≡ b.kind
  pub index : h.index ≡ b.index
  pub kind : memory_kind h.mem ≡ b.memory
  pub size : length (mem_bytes h.mem) ≡ b.length

-- The record of a QBUF comes with its memory alone. A frame that comes has the length that the
-- buffer has.
pub record ComesWith (s : SessionState) (b : BufferRec) (held : List Held) : Type 0 where
  pub one : length held ≡ 1
  pub told : All (IsTold b) held
  pub frame :
      (queue_of s b.kind).kind ≡ MEMORY_MMAP →
      IfSome (slice_get (queue_of s b.kind).lengths b.index) (λ n. n ≡ b.length)

-- What is kept of the record: with a bytesused of 0 all bytes of the buffer are in use. What it
-- tells of a picture that the device is to make is never read.
abbrev pub kept_record : BufferRec → BufferRec
kept_record b = record b { bytesused = if b.bytesused == 0 then b.length else b.bytesused }

-- the queue with the buffer behind the others, which has the length of its memory from then on
abbrev pub queue_with : SessionQueue → BufferRec → List Held → SessionQueue
queue_with q b held = record q {
  lengths = slice_set q.lengths b.index b.length;
  queued = q.queued ++ map (λ h. record { buffer = kept_record b; held = h }) held;
}

-- the same of the queue that the record names
abbrev pub with_queued : SessionState → BufferRec → List Held → SessionState
with_queued s b held = with_queue s b.kind (queue_with (queue_of s b.kind) b held)

-- ---- streaming

-- the queue streams; where it didn't, its frames are counted from 0
abbrev pub started : SessionQueue → SessionQueue
started q = record q { streaming = true; sequence = if q.streaming then q.sequence else 0 }
