-- The steps that the device makes of its own.
use Rattle.std.specs.Prelude.{ℕ, Bool, true, false, not, List, [], ◌∷◌, ◌++◌, map, drop, ◌+◌, ◌*◌, ◌%◌, ◌^◌, if◌then◌else◌, slice_index, Option, Some, None, ◌||◌}
use Rattle.std.specs.Option.{unwrap_or}
use Rattle.v4l_const.specs.Model.{queues as types_of, source_queue, picture_queue, has_events}
use Rattle.v4l_format.specs.Fmt.{picture_size}
use Rattle.v4l_format.specs.Picture.{pattern_picture, converted_picture}
use Rattle.vm_local.specs.declared.buffer.Buffer.{Buffer}
use Rattle.vm_local.specs.declared.buffer.BufferState.TheVariants.{Owed as AsOwed, Done}
use Rattle.vm_local.specs.declared.owed.Owed.{Owed}
use Rattle.vm_local.specs.declared.owed.OwedItem.{OwedItem}
use Rattle.vm_local.specs.declared.owed.OwedItem.TheVariants.{Buffer as OwedBuffer, Sync}
use Rattle.vm_local.specs.State.{QueueState, LocalState, queue_of, with_queue, buffer_of, with_buffer}
use Rattle.vm_local.specs.Memory.{bytes_of, with_bytes}
use Rattle.vm_local.specs.Queue.{can_finish}

-- the number after this one; frames and events count modulo 2 ^ 32
abbrev pub counted : ℕ → ℕ
counted n = (n + 1) % 2 ^ 32

-- ---- a frame

-- the index of the buffer that the next frame takes
abbrev pub head : QueueState → ℕ
head q = slice_index q.queued 0

abbrev pub head_buffer : QueueState → Buffer
head_buffer q = buffer_of q (head q)

-- the number of a buffer's memory
abbrev pub number_of : Buffer → ℕ
number_of b = unwrap_or b.memory 0

-- the queue of the pictures
abbrev pub target : LocalState → QueueState
target s = queue_of s (picture_queue s.model)

-- the picture of the next frame: that of the source, converted, or where there is no source the
-- input's pattern
abbrev pub picture_from : Option ℕ → LocalState → List ℕ
picture_from None s = pattern_picture s.input (target s).next_sequence (target s).format
picture_from (Some t) s =
    converted_picture (queue_of s t).format (bytes_of s (number_of (head_buffer (queue_of s t))))
    (target s).format

abbrev pub next_picture : LocalState → List ℕ
next_picture s = picture_from (source_queue s.model) s

-- the timestamp of the next frame in microseconds: that of the source's buffer, or where there is
-- no source 40,000 for each frame before it
abbrev pub timestamp_from : Option ℕ → LocalState → ℕ
timestamp_from None s = (target s).next_sequence * 40000
timestamp_from (Some t) s = (head_buffer (queue_of s t)).timestamp

abbrev pub next_timestamp : LocalState → ℕ
next_timestamp s = timestamp_from (source_queue s.model) s

-- a buffer that a frame took: it has the frame's number in its queue and the frame's timestamp, the
-- mark of a failed frame where this one failed, and is owed
abbrev pub taken_buffer : Bool → ℕ → ℕ → Buffer → Buffer
taken_buffer good sequence timestamp b =
    record b {
      state = AsOwed;
      sequence = sequence;
      timestamp = timestamp;
      is_bad = b.is_bad ||
          not good;
    }

-- a queue whose first queued buffer a frame took
abbrev pub taken : Bool → ℕ → QueueState → QueueState
taken good timestamp q =
    record (with_buffer q (head q) (taken_buffer good q.next_sequence timestamp (head_buffer q)))
    { queued = drop 1 q.queued; next_sequence = counted q.next_sequence }

-- the bytes in use of a queue's buffer
abbrev pub with_used : QueueState → ℕ → ℕ → QueueState
with_used q i n = with_buffer q i (record (buffer_of q i) { used = n })

-- the event that tells of a frame, where the model has events
abbrev pub sync_of : LocalState → List Owed
sync_of s =
    if has_events s.model
    then (record { queue = picture_queue s.model; item = Sync (target s).next_sequence }) ∷ []
    else []

-- the buffers that a frame takes, one of each queue
abbrev pub buffer_taken : LocalState → ℕ → Owed
buffer_taken s t = record { queue = t; item = OwedBuffer (head (queue_of s t)) }

abbrev pub buffers_taken : LocalState → List Owed
buffers_taken s = map (buffer_taken s) (types_of s.model)

-- a frame took the head of each queue, and what it leaves is owed behind what was owed before
abbrev pub heads_taken : LocalState → Bool → List Owed → LocalState
heads_taken s good entries =
    record s { queues = map (taken good (next_timestamp s)) s.queues; owed = s.owed ++ entries }

-- the bytes in use of the buffer that the frame took for its picture
abbrev pub with_target_used : LocalState → ℕ → LocalState → LocalState
with_target_used s n next =
    with_queue next (picture_queue s.model)
    (with_used (queue_of next (picture_queue s.model)) (head (target s)) n)

-- the picture in the first bytes of that buffer, and the bytes behind it as they were
abbrev pub with_picture : LocalState → LocalState → LocalState
with_picture s next =
    let m : ℕ = number_of (head_buffer (target s)) in
    with_bytes next m (next_picture s ++ drop (picture_size (target s).format) (bytes_of s m))

-- a frame is finished; none where it can't be
unfoldable pub finished : LocalState → Option LocalState
finished s =
    if can_finish s then
    Some (with_picture s (with_target_used s (picture_size (target s).format)
    (heads_taken s true (sync_of s ++ buffers_taken s))))
    else None

-- a frame fails: the contents stay, no byte is in use, and there is no event; none where no frame
-- can be finished
unfoldable pub marked_bad : LocalState → Option LocalState
marked_bad s =
    if can_finish s then Some (with_target_used s 0 (heads_taken s false (buffers_taken s)))
    else None

-- ---- handing over

abbrev pub with_done : QueueState → ℕ → QueueState
with_done q i =
    record (with_buffer q i (record (buffer_of q i) { state = Done })) { done = q.done ++ i ∷ [] }

abbrev pub buffer_given : LocalState → ℕ → ℕ → LocalState
buffer_given s t i = with_queue s t (with_done (queue_of s t) i)

abbrev pub event_given : LocalState → ℕ → LocalState
event_given s frame =
    if s.subscribed then
    record s {
      events = s.events ++ (record { frame = frame; number = s.next_event }) ∷ [];
      next_event = counted s.next_event;
    }
    else s

abbrev pub item_given : LocalState → ℕ → OwedItem → LocalState
item_given s t (OwedBuffer i) = buffer_given s t i
item_given s t (Sync frame) = event_given s frame

abbrev pub given_from : LocalState → List Owed → Option LocalState
given_from s [] = None
given_from s (o ∷ rest) = Some (item_given (record s { owed = rest }) o.queue o.item)

-- the first owed entry is handed over: a buffer to its queue's done list, an event to the event
-- list, or away where events aren't wanted; none where nothing is owed
unfoldable pub given : LocalState → Option LocalState
given s = given_from s s.owed
