-- How many buffers are queued in the sessions of the device, over what it does.
use Rattle.std.proofs.Common.{◌≡◌, ℕ, ◌+◌, ◌-◌, ◌<◌, ◌≤◌, Bool, true, not, List, [], ◌∷◌, Option, Some, None, Ok, is_some, length, map, refl, ap, ◌∙◌, arith, length-append}
use Rattle.std.specs.Prelude.{sum_by}
use Rattle.std.specs.List.{list_all}
use Rattle.std.proofs.lemmas.Bool.{cond_both, and_parts, ltb-true}
use Rattle.std.proofs.lemmas.List.{length-map, length-drop}
use Rattle.std.proofs.lemmas.List.Sums.{sum_by-cons}
use Rattle.v4l_const.specs.declared.errno.Errno.{Errno}
use Rattle.v4l_const.specs.declared.ioctl_code.IoctlCode.{IoctlCode}
use Rattle.v4l_const.specs.declared.ioctl_code.IoctlCode.TheVariants.{QueryCap, EnumFmt, GFmt, SFmt, ReqBufs, QueryBuf, QBuf, StreamOn, StreamOff, EnumInput, GInput, SInput, TryFmt, SubscribeEvent, UnsubscribeEvent}
use Rattle.v4l_const.specs.declared.model.Model.{Model}
use Rattle.v4l_const.specs.Model.{queues as types_of, picture_queue}
use Rattle.v4l_format.specs.declared.fmt.Fmt.{Fmt}
use Rattle.v4l_layout.specs.declared.buffer_rec.BufferRec.{BufferRec}
use Rattle.v4l_rules.specs.Formats.{sized_as, is_source, with_format_at, with_source_format, with_set_format_at}
use Rattle.v4l_rules.specs.Queues.{place_in, queue_at, with_queue_at, opening_queues}
use Rattle.vm_frame.specs.declared.mem.Held.{Held}
use Rattle.vm_job.specs.Job.{DoneParts}
use Rattle.vm_wire.specs.Buffers.{buffer_in}
use Rattle.vm_wire.specs.declared.event.EventMsg.{EventMsg}
use Rattle.vm_wire.specs.declared.event.EventMsg.TheVariants.{Dequeued, Happened}
use Rattle.vm_wire.specs.Wire.{number_at}
use Rattle.vm_session.specs.State.{SessionQueue, SessionState, queue_kind, opening_queue, queue_of, with_queue, adjusted_for}
use Rattle.vm_session.specs.Buffers.{granted, renewed_queue, stopped_queue, queue_with, started, kept_record}
use Rattle.vm_session.specs.Rows.{IoctlRow, IoctlAnswer, querycap_row, enumfmt_row, gfmt_row, tryfmt_row, sfmt_row, enuminput_row, ginput_row, sinput_row, reqbufs_row, querybuf_row, qbuf_row, streamon_row, streamoff_row, subscribe_row, unsubscribe_row, ioctl_row, code_at, refused_or, refusal_of, ioctl_outcome}
use Rattle.vm_session.specs.Streaming.{is_ready, can_begin, headless, begun, counted, finished, finished_by, settled, with_returned, sent, sent_of}
use Rattle.vm_session.specs.declared.running.Running.{Running}
use Rattle.vm_session.specs.declared.unsent.Unsent.{Unsent}
use Rattle.vm_realm.proofs.SumLemmas.{sum_set_few}

abbrev pub count : SessionQueue → ℕ
count q = length q.queued

abbrev pub queued : SessionState → ℕ
queued s = sum_by (λ q. length q.queued) s.queues

-- ---- one queue is exchanged

queue_few : (m : Model) (qs : List SessionQueue) (t k : ℕ) (q : SessionQueue) → count q ≤ count (queue_at queue_kind m qs t) + k → sum_by count (with_queue_at m qs t q) ≤ sum_by count qs + k
queue_few m qs t k q few = sum_set_few count qs (place_in (types_of m) t) k q opening_queue few

pub with_queue_few : (s : SessionState) (t k : ℕ) (q : SessionQueue) → count q ≤ count (queue_of s t) + k → queued (with_queue s t q) ≤ queued s + k
with_queue_few s t k q few = queue_few s.model s.queues t k q few

formatted : (m : Model) (qs : List SessionQueue) (t : ℕ) (f : Fmt) → sum_by count (with_format_at queue_kind m qs t f) ≤ sum_by count qs
formatted m qs t f =
    let few = queue_few m qs t 0 (record (queue_at queue_kind m qs t) { format = f }) (omega arith) in
    omega (arith, few)

source_formatted : (m : Model) (qs : List SessionQueue) (t : ℕ) (f : Fmt) → sum_by count (with_source_format queue_kind m qs t f) ≤ sum_by count qs
source_formatted m qs t f =
    omega (arith, formatted m qs t f, formatted m (with_format_at queue_kind m qs t f) (picture_queue m) (sized_as f (queue_at queue_kind m qs (picture_queue m)).format))

set_formatted : (m : Model) (qs : List SessionQueue) (t : ℕ) (f : Fmt) → sum_by count (with_set_format_at queue_kind m qs t f) ≤ sum_by count qs
unfolding with_set_format_at
set_formatted m qs t f =
    cond_both (is_source m t) (with_source_format queue_kind m qs t f) (with_format_at queue_kind m qs t f) (λ rs. sum_by count rs ≤ sum_by count qs)
    (λ is. source_formatted m qs t f) (λ is. formatted m qs t f)

-- ---- calls

-- how many buffers a call of this code queues that comes with these memories
abbrev pub queues_by : IoctlCode → List Held → ℕ
queues_by QBuf held = length held
queues_by code held = 0

row_few : (s : SessionState) (code : IoctlCode) (p : List ℕ) (held : List Held) → queued (ioctl_row s code p held).next ≤ queued s + queues_by code held
unfolding querycap_row enumfmt_row gfmt_row tryfmt_row sfmt_row enuminput_row ginput_row sinput_row reqbufs_row querybuf_row qbuf_row streamon_row streamoff_row subscribe_row unsubscribe_row
row_few s QueryCap p held = omega arith
row_few s EnumFmt p held = omega arith
row_few s GFmt p held = omega arith
row_few s SFmt p held =
    let few = set_formatted s.model s.queues (number_at 0 p) (adjusted_for s (number_at 0 p) (code_at 16 p) (number_at 8 p) (number_at 12 p)) in
    omega (arith, few)
row_few s ReqBufs p held =
    let t : ℕ = number_at 4 p in
    let few = with_queue_few s t 0 (renewed_queue (queue_of s t) (number_at 8 p) (granted (number_at 0 p)) s.made) (omega arith) in
    omega (arith, few)
row_few s QueryBuf p held = omega arith
row_few s QBuf p held =
    let b : BufferRec = buffer_in p in
    let q : SessionQueue = queue_of s b.kind in
    let long : count (queue_with q b held) ≡ count q + length held =
    length-append q.queued (map (λ h. record { buffer = kept_record b; held = h }) held)
    ∙ ap (λ n. count q + n) (length-map held (λ h. record { buffer = kept_record b; held = h })) in
    with_queue_few s b.kind (length held) (queue_with q b held) (omega (arith, long))
row_few s StreamOn p held = with_queue_few s (number_at 0 p) 0 (started (queue_of s (number_at 0 p))) (omega arith)
row_few s StreamOff p held = with_queue_few s (number_at 0 p) 0 (stopped_queue (queue_of s (number_at 0 p))) (omega arith)
row_few s EnumInput p held = omega arith
row_few s GInput p held = omega arith
row_few s SInput p held = omega arith
row_few s TryFmt p held = omega arith
row_few s SubscribeEvent p held = omega arith
row_few s UnsubscribeEvent p held = omega arith

answer_next : (o : Option Errno) (r : IoctlAnswer) (a : IoctlAnswer) → refused_or o r ≡ Ok a → a.next ≡ r.next
answer_next None r a is = cc
answer_next (Some e) r a is = cc

pub outcome_few : (memory : Bool) (s : SessionState) (code : IoctlCode) (p : List ℕ) (held : List Held) (a : IoctlAnswer) →
    ioctl_outcome memory s code p held ≡ Ok a → queued a.next ≤ queued s + queues_by code held
outcome_few memory s code p held a is =
    let r : IoctlRow = ioctl_row s code p held in
    let next : a.next ≡ r.next = answer_next (refusal_of memory r) (record { payload = r.payload; back = r.back; next = r.next }) a is in
    omega (arith, ap queued next, row_few s code p held)

-- ---- a session as it is opened

none_opened : (m : Model) (ts : List ℕ) → sum_by count (map (λ t. opening_queue) ts) ≡ 0
none_opened m [] = refl
none_opened m (t ∷ ts) = omega (arith, sum_by-cons count opening_queue (map (λ t. opening_queue) ts), none_opened m ts)

pub opening_none : (m : Model) → sum_by count (opening_queues queue_kind m) ≡ 0
opening_none m = none_opened m (types_of m)

-- ---- frames

heads_taken : (qs : List SessionQueue) → list_all is_ready qs ≡ true → sum_by count (map headless qs) + length qs ≡ sum_by count qs
heads_taken [] ready = refl
heads_taken (q ∷ qs) ready =
    let parts = and_parts (is_ready q) (list_all is_ready qs) ready in
    let some : 0 < count q = ltb-true 0 (count q) (and_parts q.streaming _ parts.0).1 in
    let less : count (headless q) ≡ count q - 1 = length-drop 1 q.queued in
    omega (arith, some, less, heads_taken qs parts.1, sum_by-cons count q qs, sum_by-cons count (headless q) (map headless qs))

pub begun_falls : (s : SessionState) (number : ℕ) → can_begin s ≡ true → queued (begun s number) + length s.queues ≡ queued s
begun_falls s number can = heads_taken s.queues (and_parts (not (is_some s.running)) (list_all is_ready s.queues) can).1

counted_same : (qs : List SessionQueue) → sum_by count (map counted qs) ≡ sum_by count qs
counted_same [] = refl
counted_same (q ∷ qs) = omega (arith, sum_by-cons count q qs, sum_by-cons count (counted q) (map counted qs), counted_same qs)

finished_by_same : (o : Option Running) (s : SessionState) (done : DoneParts) → queued (finished_by o s done) ≡ queued s
finished_by_same None s done = refl
finished_by_same (Some r) s done = counted_same s.queues

pub finished_same : (s : SessionState) (done : DoneParts) → queued (finished s done) ≡ queued s
finished_same s done = finished_by_same s.running s done

returned_few : (s : SessionState) (msg : EventMsg) → queued (with_returned s msg) ≤ queued s
returned_few s (Dequeued session b) =
    let few = with_queue_few s b.kind 0 (settled (queue_of s b.kind) b.index) (omega arith) in
    omega (arith, few)
returned_few s (Happened session event) = omega arith

sent_of_few : (es : List Unsent) (s : SessionState) → queued (sent_of es s) ≤ queued s
sent_of_few [] s = omega arith
sent_of_few (e ∷ es) s = returned_few (record s { unsent = es }) e.msg

pub sent_few : (s : SessionState) → queued (sent s) ≤ queued s
sent_few s = sent_of_few s.unsent s
