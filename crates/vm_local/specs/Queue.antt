-- What the calls do to the queues of a handle.
use Rattle.std.specs.Prelude.{ℕ, Bool, true, false, not, ◌&&◌, List, [], ◌∷◌, ◌++◌, map, length, drop, min, replicate, ◌+◌, ◌==◌, if◌then◌else◌, slice_index, Option, Some, None}
use Rattle.std.specs.List.{list_any, list_all, filter, range_with_len}
use Rattle.v4l_const.specs.Model.{timestamp_flag}
use Rattle.v4l_const.specs.declared.four_cc.FourCc.{FourCc}
use Rattle.v4l_format.specs.declared.fmt.Fmt.{Fmt}
use Rattle.v4l_format.specs.Fmt.{picture_size}
use Rattle.v4l_rules.specs.Formats.{is_source, taken_format, with_set_format_at}
use Rattle.vm_local.specs.declared.bound.MemoryKind.{MemoryKind}
use Rattle.vm_local.specs.declared.bound.MemoryKind.TheVariants.{Mmap, UserPtr}
use Rattle.vm_local.specs.declared.buffer.Buffer.{Buffer}
use Rattle.vm_local.specs.declared.buffer.BufferState.TheVariants.{Idle, Queued}
use Rattle.vm_local.specs.declared.owed.Owed.{Owed}
use Rattle.vm_local.specs.State.{QueueState, LocalState, queue_kind, queue_of, with_queue, no_buffer, buffer_of, with_buffer}
use Rattle.vm_local.specs.Memory.{is_mapped, bytes_of, memory_of, named}
use Rattle.vm_local.specs.Kinds.{is_away, is_done}

abbrev pub is_empty : {A : Type 0} → List A → Bool
is_empty [] = true
is_empty (x ∷ xs) = false

-- ---- formats

-- a queue of the handle has buffers
abbrev pub has_buffers : LocalState → Bool
has_buffers s = list_any (λ q. not (is_empty q.buffers)) s.queues

-- a queue of the handle streams
abbrev pub is_streaming : LocalState → Bool
is_streaming s = list_any (λ q. q.streaming) s.queues

-- the format that a queue takes where it is asked for this one
abbrev pub adjusted_for : LocalState → ℕ → FourCc → ℕ → ℕ → Fmt
adjusted_for s t f w h = taken_format queue_kind s.model s.queues t f w h

abbrev pub with_set_format : LocalState → ℕ → Fmt → LocalState
with_set_format s t f = record s { queues = with_set_format_at queue_kind s.model s.queues t f }

-- ---- stopping

abbrev pub made_idle : Buffer → Buffer
made_idle b = record b { state = Idle }

abbrev pub stopped_queue : QueueState → QueueState
stopped_queue q =
    record q { streaming = false; buffers = map made_idle q.buffers; queued = []; done = [] }

-- what is owed of other queues
abbrev pub owed_by_others : LocalState → ℕ → List Owed
owed_by_others s t = filter (λ o. not (o.queue == t)) s.owed

-- not streaming, all buffers Idle, and the queued, done and owed entries gone
abbrev pub stopped : LocalState → ℕ → LocalState
stopped s t = record (with_queue s t (stopped_queue (queue_of s t))) { owed = owed_by_others s t }

-- ---- buffers made and freed

abbrev pub is_user_ptr : MemoryKind → Bool
is_user_ptr Mmap = false
is_user_ptr UserPtr = true

-- the kind of memory with this number; Source: Linux V4L2, enum v4l2_memory
abbrev pub memory_kind : ℕ → MemoryKind
memory_kind m = if m == 2 then UserPtr else Mmap

-- a fresh buffer whose length is a picture's size
abbrev pub fresh_buffer : ℕ → Option ℕ → Buffer
fresh_buffer size memory = record no_buffer { length = size; memory = memory }

-- n fresh buffers; those of the device have the memories with the numbers from `first` on
abbrev pub fresh_buffers : MemoryKind → ℕ → ℕ → ℕ → List Buffer
fresh_buffers Mmap size first n = map (λ m. fresh_buffer size (Some m)) (range_with_len first n)
fresh_buffers UserPtr size first n = replicate n (fresh_buffer size None)

-- their memories' bytes, which are zero
abbrev pub fresh_memories : MemoryKind → ℕ → ℕ → List (List ℕ)
fresh_memories Mmap size n = replicate n (replicate size 0)
fresh_memories UserPtr size n = []

-- how many buffers a queue gets where it is asked for n
abbrev pub granted : ℕ → ℕ
granted n = min n 32

-- the queue stopped, its buffers freed, and n others made
unfoldable pub with_buffers : LocalState → ℕ → MemoryKind → ℕ → LocalState
with_buffers s t kind n =
    let size : ℕ = picture_size (queue_of s t).format in
    let q : QueueState = record (stopped_queue (queue_of s t)) {
      memory = kind;
      buffers = fresh_buffers kind size (length s.memories) n;
    } in
    record (with_queue s t q) {
      owed = owed_by_others s t;
      memories = s.memories ++
          fresh_memories kind size n;
    }

-- ---- queueing

-- the number of the user memory that a qbuf names
abbrev pub brought : LocalState → Option (List ℕ) → Option ℕ
brought s None = None
brought s (Some u) = Some (memory_of (named s u))

-- the length that a buffer has from its qbuf on: that of the user memory that the qbuf brings, else
-- as before
abbrev pub length_from : LocalState → Option ℕ → Buffer → ℕ
length_from s None b = b.length
length_from s (Some m) b = length (bytes_of s m)

abbrev pub memory_from : Option ℕ → Buffer → Option ℕ
memory_from None b = b.memory
memory_from (Some m) b = Some m

-- the buffer as its qbuf leaves it, without the mark of a failed frame. A source's buffer takes the
-- words `used` and `ts`, where a `used` of 0 means the buffer's length
unfoldable pub queued_buffer : LocalState → ℕ → Option ℕ → ℕ → ℕ → Buffer → Buffer
queued_buffer s t memory used ts b =
    let len : ℕ = length_from s memory b in
    record b {
      state = Queued;
      is_bad = false;
      length = len;
      memory = memory_from memory b;
      used = if is_source s.model t then (if used == 0 then len else used) else b.used;
      timestamp = if is_source s.model t then ts else b.timestamp;
    }

abbrev pub with_queued : LocalState → ℕ → ℕ → Option ℕ → ℕ → ℕ → LocalState
with_queued s t i memory used ts =
    let q : QueueState = queue_of s t in
    with_queue s t (record
    (with_buffer q i (queued_buffer s t memory used ts (buffer_of q i))) {
      queued = q.queued ++
          i ∷ [];
    })

-- ---- streaming

abbrev pub started : QueueState → QueueState
started q =
    record q { streaming = true; next_sequence = if q.streaming then q.next_sequence else 0 }

-- ---- taking a done buffer

-- the index of the first done buffer
abbrev pub first_done : QueueState → ℕ
first_done q = slice_index q.done 0

abbrev pub taken_back : QueueState → QueueState
taken_back q =
    record (with_buffer q (first_done q)
    (made_idle (buffer_of q (first_done q)))) { done = drop 1 q.done }

-- an entry of this queue is owed
abbrev pub is_owed : LocalState → ℕ → Bool
is_owed s t = list_any (λ o. o.queue == t) s.owed

-- a frame can be finished: all queues of the model stream, and each has a queued buffer
abbrev pub can_finish : LocalState → Bool
can_finish s = list_all (λ q. q.streaming && not (is_empty q.queued)) s.queues

-- ---- flags

abbrev pub flag : ℕ → Bool → ℕ
flag bit on = if on then bit else 0

-- MAPPED 1, QUEUED 2, DONE 4, ERROR 0x40 and the model's timestamp flag; Source: Linux V4L2,
-- "Buffer Flags"
unfoldable pub flags_of : LocalState → Buffer → ℕ
flags_of s b =
    flag 1 (is_mapped s b.memory) + flag 2 (is_away b.state) + flag 4
    (is_done b.state) + flag 64 b.is_bad +
    timestamp_flag s.model
