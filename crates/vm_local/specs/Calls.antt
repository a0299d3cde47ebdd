-- The calls of a handle: for each its refusals in the order in which they are tried, and else its
-- reply and the state after it. What they do is this project's own, after the Linux V4L2 interface.
use Rattle.std.specs.Prelude.{ℕ, Bool, true, false, not, List, [], ◌∷◌, ◌++◌, map, length, take, drop, replicate, ◌+◌, ◌&&◌, ◌||◌, ◌==◌, nat_lt, slice_index_or, Option, Some, None, is_some}
use Rattle.std.specs.Option.{unwrap_or}
use Rattle.sha2.specs.Sha256.{sha256}
use Rattle.v4l_const.specs.declared.errno.Errno.{Errno}
use Rattle.v4l_const.specs.declared.errno.Errno.TheVariants.{Enoent, Ebadf, Eagain, Eacces, Efault, Ebusy, Einval, Edeadlk}
use Rattle.v4l_const.specs.declared.four_cc.FourCc.{FourCc}
use Rattle.v4l_const.specs.Model.{capabilities, device_capabilities, has_events}
use Rattle.v4l_format.specs.declared.fmt.Fmt.{Fmt}
use Rattle.v4l_format.specs.Fmt.{line_length, picture_size}
use Rattle.v4l_format.specs.FormatRow.{formats_of, grey}
use Rattle.vm_mem.specs.Seeded.{seeded}
use Rattle.v4l_rules.specs.Formats.{is_source}
use Rattle.v4l_rules.specs.Refusals.{no_type, no_inputs, no_input}
use Rattle.vm_local.specs.declared.bound.BoundKind.TheVariants.{Mapping, User}
use Rattle.vm_local.specs.declared.buffer.Buffer.{Buffer}
use Rattle.vm_local.specs.declared.call.Call.{Call}
use Rattle.vm_local.specs.declared.call.Call.TheVariants.{OpenHandle, CloseHandle, QueryCap, EnumFmt, GFmt, TryFmt, SFmt, EnumInput, GInput, SInput, ReqBufs, QueryBuf, UAlloc, QBuf, StreamOn, StreamOff, DqBuf, Mmap, Munmap, Peek, Hash, Poke, Fill, Subscribe, Unsubscribe, DqEvent}
use Rattle.vm_local.specs.declared.owed.SyncEvent.{SyncEvent}
use Rattle.vm_local.specs.declared.reply.Reply.{Reply}
use Rattle.vm_local.specs.declared.reply.Reply.TheVariants.{Done, Caps, Code, Format, InputName, InputIs, Count, Buf, Pages, Frame, Mapped, Bytes, Digest, Event}
use Rattle.vm_local.specs.State.{QueueState, LocalState, opening, queue_of, with_queue, buffer_of}
use Rattle.vm_local.specs.Memory.{named, is_mapping, is_user, is_writable, memory_of, unbound, with_bound, bytes_of, with_bytes, pages_of, is_lent, is_in_use}
use Rattle.vm_local.specs.Kinds.{is_idle}
use Rattle.vm_local.specs.Queue.{is_empty, has_buffers, is_streaming, adjusted_for, with_set_format, stopped_queue, stopped, is_user_ptr, memory_kind, granted, with_buffers, brought, length_from, with_queued, started, made_idle, first_done, taken_back, is_owed, can_finish, flags_of}

-- a row of the table of calls
pub record Row : Type 0 where
  -- the refusals in order, each with the test by which it applies
  pub refusals : List (Bool × Errno)
  -- whether the call may answer ENOMEM where no refusal applies
  pub may_lack_memory : Bool
  -- whether the call waits where no refusal applies: it has no reply yet
  pub waits : Bool
  pub reply : Reply
  pub next : LocalState

abbrev pub row : List (Bool × Errno) → Reply → LocalState → Row
row refusals reply next =
    record {
      refusals = refusals;
      may_lack_memory = false;
      waits = false;
      reply = reply;
      next = next;
    }

-- a row whose last refusal is ENOMEM, where the test says so
abbrev pub row_with_memory : Bool → List (Bool × Errno) → Reply → LocalState → Row
row_with_memory may refusals reply next = record (row refusals reply next) { may_lack_memory = may }

-- ---- refusals that several rows have

abbrev pub not_open : LocalState → Bool × Errno
not_open s = (not s.opened, Ebadf)

-- i isn't below the count of the buffers of t
abbrev pub no_index : LocalState → ℕ → ℕ → Bool × Errno
no_index s t i = (not (nat_lt i (length (queue_of s t).buffers)), Einval)

abbrev pub not_bound : LocalState → List ℕ → Bool × Errno
not_bound s m = (not (is_some (named s m)), Efault)

-- ---- open and close

-- the opening state, opened
abbrev pub opened_anew : LocalState → Bool → LocalState
opened_anew s nonblock = record (opening s.model) { opened = true; blocking = not nonblock }

abbrev pub open_row : LocalState → Bool → Row
open_row s nonblock = row_with_memory true [] Done (opened_anew s nonblock)

-- all queues stop, and the handle is closed; names stay bound
abbrev pub closed : LocalState → LocalState
closed s = record s { opened = false; queues = map stopped_queue s.queues; owed = [] }

abbrev pub close_row : LocalState → Row
close_row s = row (not_open s ∷ []) Done (closed s)

-- ---- what the device is, formats and inputs

unfoldable pub querycap_row : LocalState → Row
querycap_row s = row (not_open s ∷ []) (Caps (capabilities s.model) (device_capabilities s.model)) s

unfoldable pub enumfmt_row : LocalState → ℕ → ℕ → Row
enumfmt_row s t i =
    row
    (not_open s ∷ no_type s.model t ∷ (not (nat_lt i (length (formats_of s.model))), Einval) ∷ [])
    (Code (slice_index_or (formats_of s.model) i grey).code) s

abbrev pub format_reply : Fmt → Reply
format_reply f = Format f (line_length f) (picture_size f)

unfoldable pub gfmt_row : LocalState → ℕ → Row
gfmt_row s t = row (not_open s ∷ no_type s.model t ∷ []) (format_reply (queue_of s t).format) s

unfoldable pub tryfmt_row : LocalState → ℕ → FourCc → ℕ → ℕ → Row
tryfmt_row s t f w h =
    row (not_open s ∷ no_type s.model t ∷ []) (format_reply (adjusted_for s t f w h)) s

unfoldable pub sfmt_row : LocalState → ℕ → FourCc → ℕ → ℕ → Row
sfmt_row s t f w h =
    row
    (not_open s ∷ no_type s.model t ∷ (has_buffers s, Ebusy) ∷ [])
    (format_reply (adjusted_for s t f w h)) (with_set_format s t (adjusted_for s t f w h))

unfoldable pub enuminput_row : LocalState → ℕ → Row
enuminput_row s i = row (not_open s ∷ no_inputs s.model ∷ no_input i ∷ []) (InputName i) s

unfoldable pub ginput_row : LocalState → Row
ginput_row s = row (not_open s ∷ no_inputs s.model ∷ []) (InputIs s.input) s

unfoldable pub sinput_row : LocalState → ℕ → Row
sinput_row s i =
    row (not_open s ∷ no_inputs s.model ∷ no_input i ∷ (is_streaming s, Ebusy) ∷ []) (InputIs i)
    (record s { input = i })

-- ---- buffers

unfoldable pub reqbufs_row : LocalState → ℕ → ℕ → ℕ → Row
reqbufs_row s t m n =
    row_with_memory
    (nat_lt 0 n)
    (not_open s ∷ no_type s.model t ∷ (not (m == 1 || m == 2), Einval) ∷
    (nat_lt 0 n && (queue_of s t).streaming, Ebusy) ∷ [])
    (Count (granted n)) (with_buffers s t (memory_kind m) (granted n))

unfoldable pub querybuf_row : LocalState → ℕ → ℕ → Row
querybuf_row s t i =
    let b : Buffer = buffer_of (queue_of s t) i in
    row (not_open s ∷ no_type s.model t ∷ no_index s t i ∷ []) (Buf b.length (flags_of s b)) s

unfoldable pub ualloc_row : LocalState → ℕ → List ℕ → ℕ → ℕ → Row
ualloc_row s line u len off =
    row_with_memory
    true
    (not_open s ∷ (len == 0 || nat_lt 925696 len, Einval) ∷ (nat_lt 4095 off, Einval) ∷ [])
    (Pages (pages_of (len + off)))
    (with_bound (record s { memories = s.memories ++ replicate len 0 ∷ [] })
    (record { name = u; memory = length s.memories; kind = User line off }))

-- the user memory that a qbuf names isn't bound
abbrev pub names_no_user : LocalState → Option (List ℕ) → Bool
names_no_user s None = false
names_no_user s (Some u) = not (is_user (named s u))

-- the user memory that a qbuf brings belongs to a buffer that isn't Idle
abbrev pub brings_used : LocalState → Option ℕ → Bool
brings_used s None = false
brings_used s (Some m) = is_in_use s m

unfoldable pub qbuf_row : LocalState → ℕ → ℕ → Option (List ℕ) → ℕ → ℕ → Row
qbuf_row s t i user used ts =
    let q : QueueState = queue_of s t in
    let b : Buffer = buffer_of q i in
    let memory : Option ℕ = brought s user in
    row
    (not_open s ∷
    no_type s.model t ∷
    no_index s t i ∷
    (not (is_idle b.state), Einval) ∷
    (is_some user && not (is_user_ptr q.memory), Einval) ∷
    (not (is_some user) && is_user_ptr q.memory, Einval) ∷
    (names_no_user s user, Efault) ∷
    (is_some user && nat_lt (length_from s memory b) (picture_size q.format), Einval) ∷
    (brings_used s memory, Einval) ∷
    (is_source s.model t && nat_lt (length_from s memory b) used, Einval) ∷ [])
    Done (with_queued s t i memory used ts)

unfoldable pub streamon_row : LocalState → ℕ → Row
streamon_row s t =
    row
    (not_open s ∷ no_type s.model t ∷ (is_empty (queue_of s t).buffers, Einval) ∷ [])
    Done (with_queue s t (started (queue_of s t)))

unfoldable pub streamoff_row : LocalState → ℕ → Row
streamoff_row s t = row (not_open s ∷ no_type s.model t ∷ []) Done (stopped s t)

-- the buffer that a dqbuf gives back, Idle
abbrev pub given_back : QueueState → Buffer
given_back q = made_idle (buffer_of q (first_done q))

unfoldable pub dqbuf_row : LocalState → ℕ → Row
dqbuf_row s t =
    let q : QueueState = queue_of s t in
    let b : Buffer = given_back q in
    record (row
    (not_open s ∷
    no_type s.model t ∷
    (not q.streaming, Einval) ∷
    (not s.blocking && is_empty q.done, Eagain) ∷
    (s.blocking && is_empty q.done && not (is_owed s t) && not (can_finish s), Edeadlk) ∷ [])
    (Frame (first_done q) b.used b.sequence b.timestamp (flags_of s b))
    (with_queue s t (taken_back q))) { waits = is_empty q.done }

-- ---- mappings and bytes

unfoldable pub mmap_row : LocalState → ℕ → List ℕ → ℕ → ℕ → Bool → Row
mmap_row s addr m t i ro =
    let b : Buffer = buffer_of (queue_of s t) i in
    row_with_memory
    true
    (not_open s ∷ no_type s.model t ∷ no_index s t i ∷ (is_user_ptr (queue_of s t).memory, Einval) ∷
    [])
    (Mapped addr b.length)
    (with_bound s (record {
      name = m;
      memory = unwrap_or b.memory 0;
      kind = Mapping addr b.length (not ro);
    }))

unfoldable pub munmap_row : LocalState → List ℕ → Row
munmap_row s m = row ((not (is_mapping (named s m)), Einval) ∷ []) Done (unbound s m)

unfoldable pub read_row : LocalState → List ℕ → ℕ → ℕ → Row
read_row s m off len =
    let memory : ℕ = memory_of (named s m) in
    let bytes : List ℕ = bytes_of s memory in
    row
    (not_bound s m ∷ (nat_lt (length bytes) (off + len), Efault) ∷ (is_lent s memory, Ebusy) ∷ [])
    (Bytes (take len (drop off bytes))) s

unfoldable pub hash_row : LocalState → List ℕ → Row
hash_row s m =
    let memory : ℕ = memory_of (named s m) in
    row (not_bound s m ∷ (is_lent s memory, Ebusy) ∷ []) (Digest (sha256 (bytes_of s memory))) s

unfoldable pub write_row : LocalState → List ℕ → ℕ → List ℕ → Row
write_row s m off bytes =
    let memory : ℕ = memory_of (named s m) in
    let old : List ℕ = bytes_of s memory in
    row
    (not_bound s m ∷
    (nat_lt (length old) (off + length bytes), Efault) ∷
    (not (is_writable (named s m)), Eacces) ∷
    (is_in_use s memory, Ebusy) ∷ [])
    Done (with_bytes s memory (take off old ++ (bytes ++ drop (off + length bytes) old)))

unfoldable pub fill_row : LocalState → List ℕ → ℕ → Row
fill_row s m seed =
    let memory : ℕ = memory_of (named s m) in
    row
    (not_bound s m ∷ (not (is_writable (named s m)), Eacces) ∷ (is_in_use s memory, Ebusy) ∷ [])
    Done (with_bytes s memory (seeded seed (length (bytes_of s memory))))

-- ---- events: FRAME_SYNC is 4, and 0 stands for all; Source: Linux V4L2, struct
-- v4l2_event_subscription

unfoldable pub subscribe_row : LocalState → ℕ → Row
subscribe_row s e =
    row (not_open s ∷ (not (has_events s.model) || not (e == 4), Einval) ∷ []) Done
    (record s { subscribed = true })

unfoldable pub unsubscribe_row : LocalState → ℕ → Row
unsubscribe_row s e =
    row
    (not_open s ∷ (not (has_events s.model) || not (e == 0 || e == 4), Einval) ∷ [])
    Done (record s { subscribed = false })

abbrev pub first_event : LocalState → SyncEvent
first_event s = slice_index_or s.events 0 (record { frame = 0; number = 0 })

unfoldable pub dqevent_row : LocalState → Row
dqevent_row s =
    row
    (not_open s ∷ (is_empty s.events, Enoent) ∷ [])
    (Event 4 (first_event s).frame (length (drop 1 s.events)) (first_event s).number)
    (record s { events = drop 1 s.events })

-- ---- the table

-- The row of a call on a script's line, where a successful mmap answers this address
abbrev pub row_of : LocalState → ℕ → ℕ → Call → Row
row_of s line addr (OpenHandle nonblock) = open_row s nonblock
row_of s line addr CloseHandle = close_row s
row_of s line addr QueryCap = querycap_row s
row_of s line addr (EnumFmt t i) = enumfmt_row s t i
row_of s line addr (GFmt t) = gfmt_row s t
row_of s line addr (TryFmt t f w h) = tryfmt_row s t f w h
row_of s line addr (SFmt t f w h) = sfmt_row s t f w h
row_of s line addr (EnumInput i) = enuminput_row s i
row_of s line addr GInput = ginput_row s
row_of s line addr (SInput i) = sinput_row s i
row_of s line addr (ReqBufs t m n) = reqbufs_row s t m n
row_of s line addr (QueryBuf t i) = querybuf_row s t i
row_of s line addr (UAlloc u len off) = ualloc_row s line u len off
row_of s line addr (QBuf t i user used ts) = qbuf_row s t i user used ts
row_of s line addr (StreamOn t) = streamon_row s t
row_of s line addr (StreamOff t) = streamoff_row s t
row_of s line addr (DqBuf t) = dqbuf_row s t
row_of s line addr (Mmap m t i ro) = mmap_row s addr m t i ro
row_of s line addr (Munmap m) = munmap_row s m
row_of s line addr (Peek m off len) = read_row s m off len
row_of s line addr (Hash m) = hash_row s m
row_of s line addr (Poke m off bytes) = write_row s m off bytes
row_of s line addr (Fill m seed) = fill_row s m seed
row_of s line addr (Subscribe e) = subscribe_row s e
row_of s line addr (Unsubscribe e) = unsubscribe_row s e
row_of s line addr DqEvent = dqevent_row s
