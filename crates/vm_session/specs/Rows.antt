-- What a session answers to the calls that are sent to it. What they do is this project's own,
-- after the Linux V4L2 interface.
use Rattle.std.specs.Prelude.{ℕ, ◌≡◌, ◌==◌, ◌&&◌, ◌||◌, Bool, true, false, not, nat_lt, if◌then◌else◌, List, [], ◌∷◌, ◌++◌, length, slice_index_or, Option, Some, None, is_some, Result, Ok, Err, ⊤}
use Rattle.v4l_const.specs.declared.errno.Errno.{Errno}
use Rattle.v4l_const.specs.declared.errno.Errno.TheVariants.{Einval, Ebusy, Enomem}
use Rattle.v4l_const.specs.declared.four_cc.FourCc.{FourCc}
use Rattle.v4l_const.specs.declared.ioctl_code.IoctlCode.{IoctlCode}
use Rattle.v4l_const.specs.declared.ioctl_code.IoctlCode.TheVariants.{QueryCap, EnumFmt, GFmt, SFmt, TryFmt, ReqBufs, QueryBuf, QBuf, StreamOn, StreamOff, EnumInput, GInput, SInput, SubscribeEvent, UnsubscribeEvent}
use Rattle.v4l_const.specs.declared.numbers.TheConstants.{EVENT_ALL, EVENT_FRAME_SYNC, MEMORY_MMAP, MEMORY_USERPTR}
use Rattle.v4l_const.specs.Model.{has_events}
use Rattle.v4l_format.specs.Fmt.{picture_size}
use Rattle.v4l_format.specs.FormatRow.{formats_of, grey}
use Rattle.v4l_layout.specs.declared.buffer_rec.BufferRec.{BufferRec}
use Rattle.v4l_layout.specs.Records.{capability_bytes, fmtdesc_bytes, format_bytes, input_bytes, request_bytes, buffer_bytes, subscription_bytes}
use Rattle.v4l_rules.specs.Formats.{is_source}
use Rattle.v4l_rules.specs.Refusals.{first_refusal, no_type, no_inputs, no_input}
use Rattle.vm_frame.specs.declared.mem.Held.{Held}
use Rattle.vm_queue.specs.Buffers.{memories}
use Rattle.vm_wire.specs.Buffers.{reqbufs_answer, querybuf_answer, qbuf_answer, buffer_in, subscription_request}
use Rattle.vm_wire.specs.Records.{capability_of, fmt_desc_answer, format_answer, input_answer}
use Rattle.vm_wire.specs.Wire.{le, number_at}
use Rattle.vm_session.specs.State.{SessionQueue, SessionState, queue_of, with_queue, queue_has_buffers, has_buffers, is_streaming, adjusted_for, with_set_format}
use Rattle.vm_session.specs.Buffers.{granted, fresh_memories, with_buffers, stopped_queue, is_at_home, ComesWith, with_queued, started}

-- ---- the table of calls

-- what a call answers
pub record IoctlRow : Type 0 where
  -- its refusals in the order in which they are tried, each with the test by which it applies
  pub refusals : List (Bool × Errno)
  -- whether it may answer ENOMEM where no refusal applies
  pub may_lack_memory : Bool
  -- and else the payload of its reply, the memories that it puts back, and the state after it
  pub payload : List ℕ
  pub back : List Held
  pub next : SessionState

abbrev pub row : List (Bool × Errno) → List ℕ → SessionState → IoctlRow
row refusals payload next = record {
  refusals = refusals;
  may_lack_memory = false;
  payload = payload;
  back = [];
  next = next;
}

unfoldable pub querycap_row : SessionState → IoctlRow
querycap_row s = row [] (capability_bytes (capability_of s.model)) s

unfoldable pub enumfmt_row : SessionState → ℕ → ℕ → IoctlRow
enumfmt_row s t i =
    row
    (no_type s.model t ∷ (not (nat_lt i (length (formats_of s.model))), Einval) ∷ [])
    (fmtdesc_bytes (fmt_desc_answer t i (slice_index_or (formats_of s.model) i grey).code)) s

unfoldable pub gfmt_row : SessionState → ℕ → IoctlRow
gfmt_row s t = row (no_type s.model t ∷ []) (format_bytes (format_answer t (queue_of s t).format)) s

unfoldable pub tryfmt_row : SessionState → ℕ → FourCc → ℕ → ℕ → IoctlRow
tryfmt_row s t f w h =
    row (no_type s.model t ∷ []) (format_bytes (format_answer t (adjusted_for s t f w h))) s

unfoldable pub sfmt_row : SessionState → ℕ → FourCc → ℕ → ℕ → IoctlRow
sfmt_row s t f w h =
    row
    (no_type s.model t ∷ (has_buffers s, Ebusy) ∷ [])
    (format_bytes (format_answer t (adjusted_for s t f w h)))
    (with_set_format s t (adjusted_for s t f w h))

unfoldable pub enuminput_row : SessionState → ℕ → IoctlRow
enuminput_row s i = row (no_inputs s.model ∷ no_input i ∷ []) (input_bytes (input_answer i)) s

unfoldable pub ginput_row : SessionState → IoctlRow
ginput_row s = row (no_inputs s.model ∷ []) (le s.input) s

unfoldable pub sinput_row : SessionState → ℕ → IoctlRow
sinput_row s i =
    row
    (no_inputs s.model ∷ no_input i ∷ (is_streaming s, Ebusy) ∷ [])
    (le i) (record s { input = i })

-- m is none of the memory kinds
abbrev pub no_memory_kind : ℕ → Bool × Errno
no_memory_kind m = (not (m == MEMORY_MMAP || m == MEMORY_USERPTR), Einval)

-- i isn't below the count of the buffers of t
abbrev pub no_index : SessionState → ℕ → ℕ → Bool × Errno
no_index s t i = (not (nat_lt i (length (queue_of s t).lengths)), Einval)

-- the memories that were queued come back first, and then the fresh ones
unfoldable pub reqbufs_row : SessionState → ℕ → ℕ → ℕ → IoctlRow
reqbufs_row s t m n = record {
  refusals =
      no_type s.model t ∷
      no_memory_kind m ∷
      (nat_lt 0 n && (queue_of s t).streaming, Ebusy) ∷ [];
  may_lack_memory = nat_lt 0 n;
  payload = request_bytes (reqbufs_answer s.model t m (granted n));
  back = memories (queue_of s t).queued ++ fresh_memories s t m (granted n);
  next = with_buffers s t m (granted n);
}

unfoldable pub querybuf_row : SessionState → ℕ → ℕ → IoctlRow
querybuf_row s t i =
    let q : SessionQueue = queue_of s t in
    row
    (no_type s.model t ∷ no_index s t i ∷ [])
    (buffer_bytes (querybuf_answer s.model t i q.kind (slice_index_or q.lengths i 0))) s

-- The buffer of the record is queued with the memory that comes with it. The driver has seen to
-- what is about the names of a user's memories.
unfoldable pub qbuf_row : SessionState → BufferRec → List Held → IoctlRow
qbuf_row s b held =
    let q : SessionQueue = queue_of s b.kind in
    row
    (no_type s.model b.kind ∷
    no_index s b.kind b.index ∷
    (not (is_at_home q b.index), Einval) ∷
    (not (b.memory == q.kind), Einval) ∷
    (b.memory == MEMORY_USERPTR && nat_lt b.length (picture_size q.format), Einval) ∷
    (is_source s.model b.kind && nat_lt b.length b.bytesused, Einval) ∷ [])
    (buffer_bytes (qbuf_answer b)) (with_queued s b held)

unfoldable pub streamon_row : SessionState → ℕ → IoctlRow
streamon_row s t =
    row
    (no_type s.model t ∷ (not (queue_has_buffers (queue_of s t)), Einval) ∷ [])
    (le t) (with_queue s t (started (queue_of s t)))

-- the memories that were queued come back
unfoldable pub streamoff_row : SessionState → ℕ → IoctlRow
streamoff_row s t = record {
  refusals = no_type s.model t ∷ [];
  may_lack_memory = false;
  payload = le t;
  back = memories (queue_of s t).queued;
  next = with_queue s t (stopped_queue (queue_of s t));
}

-- Which handle wants events is the guest's own to keep: the device sends its event with each good
-- frame, and says here which events there are. Source: Linux V4L2, struct v4l2_event_subscription.
unfoldable pub subscribe_row : SessionState → ℕ → IoctlRow
subscribe_row s e =
    row
    ((not (has_events s.model) || not (e == EVENT_FRAME_SYNC), Einval) ∷ [])
    (subscription_bytes (subscription_request e)) s

unfoldable pub unsubscribe_row : SessionState → ℕ → IoctlRow
unsubscribe_row s e =
    row
    ((not (has_events s.model) || not (e == EVENT_ALL || e == EVENT_FRAME_SYNC), Einval) ∷ [])
    (subscription_bytes (subscription_request e)) s

-- the code of a format at a place of a payload
abbrev pub code_at : ℕ → List ℕ → FourCc
code_at at payload = record { 0 = number_at at payload }

-- The row of a call with this payload and these memories, which QBUF alone looks at. The payload's
-- fields are read at their offsets in its record: of a v4l2_fmtdesc the index at 0 and the type at
-- 4; of a v4l2_format the type at 0, the width at 8, the height at 12 and the code at 16; of a
-- v4l2_input the index at 0; of a v4l2_requestbuffers the count at 0, the type at 4 and the memory
-- kind at 8; of a v4l2_buffer that is asked for the index at 0 and the type at 4, and of one that
-- is queued all fields (`buffer_in`); of a v4l2_event_subscription the type at 0. S_INPUT carries
-- the index alone, and STREAMON and STREAMOFF the type.
abbrev pub ioctl_row : SessionState → IoctlCode → List ℕ → List Held → IoctlRow
ioctl_row s QueryCap p held = querycap_row s
ioctl_row s EnumFmt p held = enumfmt_row s (number_at 4 p) (number_at 0 p)
ioctl_row s GFmt p held = gfmt_row s (number_at 0 p)
ioctl_row s TryFmt p held =
    tryfmt_row s (number_at 0 p) (code_at 16 p) (number_at 8 p) (number_at 12 p)
ioctl_row s SFmt p held =
    sfmt_row s (number_at 0 p) (code_at 16 p) (number_at 8 p) (number_at 12 p)
ioctl_row s EnumInput p held = enuminput_row s (number_at 0 p)
ioctl_row s GInput p held = ginput_row s
ioctl_row s SInput p held = sinput_row s (number_at 0 p)
ioctl_row s ReqBufs p held = reqbufs_row s (number_at 4 p) (number_at 8 p) (number_at 0 p)
ioctl_row s QueryBuf p held = querybuf_row s (number_at 4 p) (number_at 0 p)
ioctl_row s QBuf p held = qbuf_row s (buffer_in p) held
ioctl_row s StreamOn p held = streamon_row s (number_at 0 p)
ioctl_row s StreamOff p held = streamoff_row s (number_at 0 p)
ioctl_row s SubscribeEvent p held = subscribe_row s (number_at 0 p)
ioctl_row s UnsubscribeEvent p held = unsubscribe_row s (number_at 0 p)

-- ---- the memories of a call

-- the call is a stopping one, which puts memories back
abbrev pub puts_back : IoctlCode → Bool
puts_back ReqBufs = true
puts_back StreamOff = true
puts_back code = false

-- the call has to do with memories
abbrev pub moves_memories : IoctlCode → Bool
moves_memories QBuf = true
moves_memories code = puts_back code

-- A QBUF comes with the memory that its record tells of.
abbrev pub Comes : SessionState → IoctlCode → List ℕ → List Held → Type 0
Comes s QBuf p held = ComesWith s (buffer_in p) held
Comes s code p held = ⊤

-- What is held after a call that isn't refused. QBUF takes the memory that comes with it; what
-- another call puts back goes behind the others.
abbrev pub held_after : IoctlCode → List Held → List Held → List Held
held_after QBuf held back = []
held_after code held back = held ++ back

-- ---- a call that stops

-- The call is a stopping one that isn't refused at once, so that it waits until the session is
-- quiet. That memory may lack for it shows only then.
abbrev pub stops : SessionState → IoctlCode → List ℕ → Bool
stops s code p = puts_back code && not (is_some (first_refusal (ioctl_row s code p []).refusals))

-- ---- the outcome of a call

-- what a call that isn't refused leaves: the payload of its reply, the memories that it puts back,
-- and the state after it
pub record IoctlAnswer : Type 0 where
  pub payload : List ℕ
  pub back : List Held
  pub next : SessionState

abbrev pub refused_or : {A : Type 0} → Option Errno → A → Result A Errno
refused_or None a = Ok a
refused_or (Some e) a = Err e

-- want of memory comes last
abbrev pub or_no_memory : Option Errno → Bool → Option Errno
or_no_memory (Some e) lacks = Some e
or_no_memory None lacks = if lacks then Some Enomem else None

-- what refuses a row, where memory comes and where it doesn't
abbrev pub refusal_of : Bool → IoctlRow → Option Errno
refusal_of memory r = or_no_memory (first_refusal r.refusals) (r.may_lack_memory && not memory)

-- What a row comes to. Whether memory came is free.
abbrev pub outcome_of : Bool → IoctlRow → Result IoctlAnswer Errno
outcome_of memory r =
    refused_or (refusal_of memory r) (record { payload = r.payload; back = r.back; next = r.next })

abbrev pub ioctl_outcome :
    Bool → SessionState → IoctlCode → List ℕ → List Held → Result IoctlAnswer Errno
ioctl_outcome memory s code payload held = outcome_of memory (ioctl_row s code payload held)

-- ---- what a call does with a row

-- it leaves this payload and this state
abbrev pub Answers : IoctlRow → List ℕ → SessionState → Type 0
Answers r payload next =
    outcome_of true r ≡ Ok (record { payload = payload; back = r.back; next = next })

-- its first refusal is this
abbrev pub Refuses : IoctlRow → Errno → Type 0
Refuses r e = first_refusal r.refusals ≡ Some e

-- it is refused, by its first refusal or for want of memory
abbrev pub MayRefuse : IoctlRow → Errno → Type 0
MayRefuse r e = (memory : Bool) × (outcome_of memory r ≡ Err e)
