-- What of a state decides the calls that cross, and is the same after steps of the device.
use Rattle.std.proofs.Common.{◌≡◌, ℕ, Bool, true, false, not, ◌&&◌, nat_lt, List, [], ◌∷◌, length, map, Option, Some, None, refl, sym, ap}
use Rattle.std.specs.Prelude.{is_some}
use Rattle.std.specs.List.{list_any}
use Rattle.std.proofs.lemmas.Bool.{false≢true}
use Rattle.std.proofs.lemmas.List.{length-map}
use Rattle.std.proofs.Math.ListN.{get_or-map}
use Rattle.v4l_const.specs.declared.errno.Errno.{Errno}
use Rattle.v4l_const.specs.declared.errno.Errno.TheVariants.{Efault, Einval}
use Rattle.v4l_const.specs.Model.{source_queue, queues as types_of}
use Rattle.v4l_const.specs.declared.four_cc.FourCc.{FourCc}
use Rattle.v4l_format.specs.Fmt.{picture_size}
use Rattle.v4l_rules.specs.Formats.{is_source}
use Rattle.v4l_rules.specs.Queues.{place_in}
use Rattle.v4l_rules.specs.Refusals.{no_type}
use Rattle.vm_local.specs.declared.buffer.Buffer.{Buffer}
use Rattle.vm_local.specs.declared.buffer.BufferState.{BufferState}
use Rattle.vm_local.specs.declared.buffer.BufferState.TheVariants.{Idle, Queued, Owed, Done}
use Rattle.vm_local.specs.declared.call.Call.{Call}
use Rattle.vm_local.specs.declared.call.Call.TheVariants.{OpenHandle, CloseHandle, QueryCap, EnumFmt, GFmt, TryFmt, SFmt, EnumInput, GInput, SInput, ReqBufs, QueryBuf, UAlloc, QBuf, StreamOn, StreamOff, DqBuf, Mmap as MapCall, Munmap, Peek, Hash, Poke, Fill, Subscribe, Unsubscribe, DqEvent}
use Rattle.vm_local.specs.State.{QueueState, LocalState, opening_queue, queue_of, no_buffer, buffer_of}
use Rattle.vm_local.specs.Kinds.{is_idle}
use Rattle.vm_local.specs.Memory.{is_just, is_in_use}
use Rattle.vm_local.specs.Queue.{is_empty, has_buffers, is_streaming, is_user_ptr, brought, adjusted_for, length_from}
use Rattle.vm_local.specs.Calls.{row_of, not_open, no_index, names_no_user, brings_used, querycap_row, enumfmt_row, gfmt_row, tryfmt_row, sfmt_row, enuminput_row, ginput_row, sinput_row, reqbufs_row, querybuf_row, ualloc_row, qbuf_row, streamon_row, streamoff_row, dqbuf_row, mmap_row, munmap_row, read_row, hash_row, write_row, fill_row, subscribe_row, unsubscribe_row, dqevent_row}
use Rattle.vm_commute.specs.Commute.{may_cross, without_flags}
use Rattle.vm_commute.proofs.PlaceLemmas.{any_map}

-- ---- the outline

-- Idle, or not
abbrev pub drawn_state : BufferState → BufferState
drawn_state Idle = Idle
drawn_state Queued = Queued
drawn_state Owed = Queued
drawn_state Done = Queued

-- a buffer's length and memory, and whether it is Idle
abbrev pub drawn : Buffer → Buffer
drawn b = record no_buffer { state = drawn_state b.state; length = b.length; memory = b.memory }

-- a queue with its buffers drawn, and without its lists
abbrev pub outlined : QueueState → QueueState
outlined q = record q { buffers = map drawn q.buffers; queued = []; done = []; next_sequence = 0 }

abbrev pub outline : LocalState → LocalState
outline s = record s {
  subscribed = false;
  events = [];
  next_event = 0;
  owed = [];
  queues = map outlined s.queues;
  memories = [];
}

pub queue_drawn : (s : LocalState) (t : ℕ) → queue_of (outline s) t ≡ outlined (queue_of s t)
queue_drawn s t = get_or-map outlined s.queues (place_in (types_of s.model) t) opening_queue

pub buffer_drawn : (q : QueueState) (i : ℕ) → buffer_of (outlined q) i ≡ drawn (buffer_of q i)
buffer_drawn q i = get_or-map drawn q.buffers i no_buffer

many_drawn : (q : QueueState) → length (map drawn q.buffers) ≡ length q.buffers
many_drawn q = length-map q.buffers drawn

idle_drawn : (st : BufferState) → is_idle (drawn_state st) ≡ is_idle st
idle_drawn Idle = refl
idle_drawn Queued = refl
idle_drawn Owed = refl
idle_drawn Done = refl

empty_drawn : (bs : List Buffer) → is_empty (map drawn bs) ≡ is_empty bs
empty_drawn [] = refl
empty_drawn (b ∷ bs) = refl

pub has_drawn : (s : LocalState) → has_buffers (outline s) ≡ has_buffers s
has_drawn s = any_map outlined (λ q. not (is_empty q.buffers)) (λ q. not (is_empty q.buffers)) s.queues (λ q. ap not (empty_drawn q.buffers))

pub streams_drawn : (s : LocalState) → is_streaming (outline s) ≡ is_streaming s
streams_drawn s = any_map outlined (λ q. q.streaming) (λ q. q.streaming) s.queues (λ q. refl)

pub used_drawn : (s : LocalState) (m : ℕ) → is_in_use (outline s) m ≡ is_in_use s m
used_drawn s m =
    let test : Buffer → Bool = λ b. is_just b.memory m && not (is_idle b.state) in
    any_map outlined (λ q. list_any test q.buffers) (λ q. list_any test q.buffers) s.queues
    (λ q. any_map drawn test test q.buffers (λ b. ap (λ i. is_just b.memory m && not i) (idle_drawn b.state)))

brings_drawn : (s : LocalState) (memory : Option ℕ) → brings_used (outline s) memory ≡ brings_used s memory
brings_drawn s None = refl
brings_drawn s (Some m) = used_drawn s m

-- ---- what it decides

abbrev pub is_qbuf : Call → Bool
is_qbuf (QBuf t i user used ts) = true
is_qbuf call = false

pub same_refusals : (s : LocalState) (line addr : ℕ) (call : Call) → may_cross call ≡ true → is_qbuf call ≡ false →
    (row_of (outline s) line addr call).refusals ≡ (row_of s line addr call).refusals
unfolding querycap_row enumfmt_row gfmt_row tryfmt_row sfmt_row enuminput_row ginput_row sinput_row reqbufs_row querybuf_row ualloc_row qbuf_row streamon_row streamoff_row dqbuf_row mmap_row munmap_row read_row hash_row write_row fill_row subscribe_row unsubscribe_row dqevent_row
same_refusals s line addr (OpenHandle nonblock) may other = refl
same_refusals s line addr CloseHandle may other = refl
same_refusals s line addr QueryCap may other = refl
same_refusals s line addr (EnumFmt t i) may other = refl
same_refusals s line addr (GFmt t) may other = refl
same_refusals s line addr (TryFmt t f w h) may other = refl
same_refusals s line addr (SFmt t f w h) may other = rw (has_drawn s) refl
same_refusals s line addr (EnumInput i) may other = refl
same_refusals s line addr GInput may other = refl
same_refusals s line addr (SInput i) may other = rw (streams_drawn s) refl
same_refusals s line addr (ReqBufs t m n) may other = rw (queue_drawn s t) refl
same_refusals s line addr (QueryBuf t i) may other = rw (queue_drawn s t, many_drawn (queue_of s t)) refl
same_refusals s line addr (UAlloc u len off) may other = absurd (false≢true may)
same_refusals s line addr (QBuf t i user used ts) may other = absurd (false≢true (sym other))
same_refusals s line addr (StreamOn t) may other = rw (queue_drawn s t, empty_drawn (queue_of s t).buffers) refl
same_refusals s line addr (StreamOff t) may other = refl
same_refusals s line addr (DqBuf t) may other = absurd (false≢true may)
same_refusals s line addr (MapCall m t i ro) may other = rw (queue_drawn s t, many_drawn (queue_of s t)) refl
same_refusals s line addr (Munmap m) may other = refl
same_refusals s line addr (Peek m off len) may other = absurd (false≢true may)
same_refusals s line addr (Hash m) may other = absurd (false≢true may)
same_refusals s line addr (Poke m off bytes) may other = absurd (false≢true may)
same_refusals s line addr (Fill m seed) may other = absurd (false≢true may)
same_refusals s line addr (Subscribe v) may other = refl
same_refusals s line addr (Unsubscribe v) may other = refl
same_refusals s line addr DqEvent may other = absurd (false≢true may)

-- the refusals of a qbuf by which the buffer would have this length
abbrev pub qbuf_tests : LocalState → ℕ → ℕ → Option (List ℕ) → ℕ → ℕ → List (Bool × Errno)
qbuf_tests s t i user used long =
    let q : QueueState = queue_of s t in
    not_open s ∷
    no_type s.model t ∷
    no_index s t i ∷
    (not (is_idle (buffer_of q i).state), Einval) ∷
    (is_some user && not (is_user_ptr q.memory), Einval) ∷
    (not (is_some user) && is_user_ptr q.memory, Einval) ∷
    (names_no_user s user, Efault) ∷
    (is_some user && nat_lt long (picture_size q.format), Einval) ∷
    (brings_used s (brought s user), Einval) ∷
    (is_source s.model t && nat_lt long used, Einval) ∷ []

pub qbuf_refusals : (s : LocalState) (t i : ℕ) (user : Option (List ℕ)) (used ts : ℕ) →
    (qbuf_row s t i user used ts).refusals ≡ qbuf_tests s t i user used (length_from s (brought s user) (buffer_of (queue_of s t) i))
unfolding qbuf_row
qbuf_refusals s t i user used ts = refl

pub qbuf_drawn : (s : LocalState) (t i : ℕ) (user : Option (List ℕ)) (used long : ℕ) →
    qbuf_tests (outline s) t i user used long ≡ qbuf_tests s t i user used long
qbuf_drawn s t i user used long =
    rw (brings_drawn s (brought s user), queue_drawn s t, buffer_drawn (queue_of s t) i, many_drawn (queue_of s t), idle_drawn (buffer_of (queue_of s t) i).state) refl

-- ---- what it tells in replies

same_adjusted : (source : Option ℕ) (s : LocalState) (t : ℕ) (f : FourCc) (w h : ℕ) → source_queue s.model ≡ source →
    adjusted_for (outline s) t f w h ≡ adjusted_for s t f w h
same_adjusted None s t f w h is = rw is refl
same_adjusted (Some u) s t f w h is = rw (is, queue_drawn s u) refl

pub same_adjusted_for : (s : LocalState) (t : ℕ) (f : FourCc) (w h : ℕ) → adjusted_for (outline s) t f w h ≡ adjusted_for s t f w h
same_adjusted_for s t f w h = same_adjusted (source_queue s.model) s t f w h refl

pub same_replies : (s : LocalState) (line addr : ℕ) (call : Call) → may_cross call ≡ true →
    without_flags (row_of (outline s) line addr call).reply ≡ without_flags (row_of s line addr call).reply
unfolding querycap_row enumfmt_row gfmt_row tryfmt_row sfmt_row enuminput_row ginput_row sinput_row reqbufs_row querybuf_row ualloc_row qbuf_row streamon_row streamoff_row dqbuf_row mmap_row munmap_row read_row hash_row write_row fill_row subscribe_row unsubscribe_row dqevent_row
same_replies s line addr (OpenHandle nonblock) may = refl
same_replies s line addr CloseHandle may = refl
same_replies s line addr QueryCap may = refl
same_replies s line addr (EnumFmt t i) may = refl
same_replies s line addr (GFmt t) may = rw (queue_drawn s t) refl
same_replies s line addr (TryFmt t f w h) may = rw (same_adjusted_for s t f w h) refl
same_replies s line addr (SFmt t f w h) may = rw (same_adjusted_for s t f w h) refl
same_replies s line addr (EnumInput i) may = refl
same_replies s line addr GInput may = refl
same_replies s line addr (SInput i) may = refl
same_replies s line addr (ReqBufs t m n) may = refl
same_replies s line addr (QueryBuf t i) may = rw (queue_drawn s t, buffer_drawn (queue_of s t) i) refl
same_replies s line addr (UAlloc u len off) may = absurd (false≢true may)
same_replies s line addr (QBuf t i user used ts) may = refl
same_replies s line addr (StreamOn t) may = refl
same_replies s line addr (StreamOff t) may = refl
same_replies s line addr (DqBuf t) may = absurd (false≢true may)
same_replies s line addr (MapCall m t i ro) may = rw (queue_drawn s t, buffer_drawn (queue_of s t) i) refl
same_replies s line addr (Munmap m) may = refl
same_replies s line addr (Peek m off len) may = absurd (false≢true may)
same_replies s line addr (Hash m) may = absurd (false≢true may)
same_replies s line addr (Poke m off bytes) may = absurd (false≢true may)
same_replies s line addr (Fill m seed) may = absurd (false≢true may)
same_replies s line addr (Subscribe v) may = refl
same_replies s line addr (Unsubscribe v) may = refl
same_replies s line addr DqEvent may = absurd (false≢true may)

-- ---- the rest of the rows

-- the call never waits, and may lack memory as it may from any other state
pub same_ways : (s u : LocalState) (line addr : ℕ) (call : Call) → may_cross call ≡ true →
    ((row_of s line addr call).waits ≡ false) × ((row_of s line addr call).may_lack_memory ≡ (row_of u line addr call).may_lack_memory)
unfolding querycap_row enumfmt_row gfmt_row tryfmt_row sfmt_row enuminput_row ginput_row sinput_row reqbufs_row querybuf_row ualloc_row qbuf_row streamon_row streamoff_row dqbuf_row mmap_row munmap_row read_row hash_row write_row fill_row subscribe_row unsubscribe_row dqevent_row
same_ways s u line addr (OpenHandle nonblock) may = (refl, refl)
same_ways s u line addr CloseHandle may = (refl, refl)
same_ways s u line addr QueryCap may = (refl, refl)
same_ways s u line addr (EnumFmt t i) may = (refl, refl)
same_ways s u line addr (GFmt t) may = (refl, refl)
same_ways s u line addr (TryFmt t f w h) may = (refl, refl)
same_ways s u line addr (SFmt t f w h) may = (refl, refl)
same_ways s u line addr (EnumInput i) may = (refl, refl)
same_ways s u line addr GInput may = (refl, refl)
same_ways s u line addr (SInput i) may = (refl, refl)
same_ways s u line addr (ReqBufs t m n) may = (refl, refl)
same_ways s u line addr (QueryBuf t i) may = (refl, refl)
same_ways s u line addr (UAlloc v len off) may = (refl, refl)
same_ways s u line addr (QBuf t i user used ts) may = (refl, refl)
same_ways s u line addr (StreamOn t) may = (refl, refl)
same_ways s u line addr (StreamOff t) may = (refl, refl)
same_ways s u line addr (DqBuf t) may = absurd (false≢true may)
same_ways s u line addr (MapCall m t i ro) may = (refl, refl)
same_ways s u line addr (Munmap m) may = (refl, refl)
same_ways s u line addr (Peek m off len) may = (refl, refl)
same_ways s u line addr (Hash m) may = (refl, refl)
same_ways s u line addr (Poke m off bytes) may = (refl, refl)
same_ways s u line addr (Fill m seed) may = (refl, refl)
same_ways s u line addr (Subscribe v) may = (refl, refl)
same_ways s u line addr (Unsubscribe v) may = (refl, refl)
same_ways s u line addr DqEvent may = (refl, refl)
