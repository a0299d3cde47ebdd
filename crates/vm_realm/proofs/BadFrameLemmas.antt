-- How many frames failed by the device's unsent messages: what commands, jobs and events add to that.
use Rattle.std.proofs.Common.{◌≡◌, ℕ, ◌+◌, Bool, true, false, not, List, [], ◌∷◌, ◌++◌, Option, Some, None, Result, Ok, Err, length, map, refl, sym, ap, ◌∙◌, arith, inl, inr, if◌then◌else◌}
use Rattle.std.specs.Prelude.{sum_by, ◌&&◌, ◌==◌}
use Rattle.std.specs.Option.{option_map, option_to_list}
use Rattle.std.proofs.lemmas.Bool.{cond_both}
use Rattle.std.proofs.lemmas.List.Sums.{sum_by-cons, sum_by-append}
use Rattle.v4l_const.specs.declared.errno.Errno.{Errno}
use Rattle.v4l_const.specs.declared.ioctl_code.IoctlCode.{IoctlCode}
use Rattle.v4l_const.specs.declared.ioctl_code.IoctlCode.TheVariants.{QueryCap, EnumFmt, GFmt, SFmt, ReqBufs, QueryBuf, QBuf, StreamOn, StreamOff, EnumInput, GInput, SInput, TryFmt, SubscribeEvent, UnsubscribeEvent}
use Rattle.v4l_const.specs.declared.model.Model.{Model}
use Rattle.v4l_const.specs.declared.model.Model.TheVariants.{Capture, Convert}
use Rattle.v4l_const.specs.declared.numbers.TheConstants.{BUF_TYPE_OUTPUT}
use Rattle.v4l_const.specs.Model.{source_queue, has_events}
use Rattle.v4l_format.specs.Fmt.{picture_size}
use Rattle.v4l_layout.specs.declared.buffer_rec.BufferRec.{BufferRec}
use Rattle.vm_frame.specs.declared.mem.Held.{Held}
use Rattle.vm_job.specs.Job.{DoneParts}
use Rattle.vm_region.specs.declared.live_range.LiveRange.{LiveRange}
use Rattle.vm_region.specs.Region.{range_at}
use Rattle.vm_wire.specs.Buffers.{dequeued_buffer}
use Rattle.vm_wire.specs.declared.command.Command.{Command}
use Rattle.vm_wire.specs.declared.command.Command.TheVariants.{OpenSession, CloseSession, Ioctl, Map, Unmap}
use Rattle.vm_wire.specs.declared.event.EventMsg.{EventMsg}
use Rattle.vm_wire.specs.declared.event.EventMsg.TheVariants.{Dequeued, Happened}
use Rattle.vm_local.specs.declared.entry.Entry.TheVariants.{Bad, Give}
use Rattle.vm_exchange.specs.Messages.{is_marked}
use Rattle.vm_session.specs.declared.running.Running.{Running}
use Rattle.vm_session.specs.declared.unsent.Unsent.{Unsent}
use Rattle.vm_session.specs.State.{SessionState, pictures, opening_session}
use Rattle.vm_session.specs.Sound.{taken_by}
use Rattle.vm_session.specs.Rows.{IoctlRow, IoctlAnswer, querycap_row, enumfmt_row, gfmt_row, tryfmt_row, sfmt_row, enuminput_row, ginput_row, sinput_row, reqbufs_row, querybuf_row, qbuf_row, streamon_row, streamoff_row, subscribe_row, unsubscribe_row, ioctl_row, refused_or, refusal_of, ioctl_outcome}
use Rattle.vm_session.specs.Streaming.{note_of, returned, sync_events, src_events, dst_event, events_of, with_returned, sent, sent_of}
use Rattle.vm_device.specs.Brought.{comes_with}
use Rattle.vm_device.specs.Device.{DeviceState, session_of, is_at_rest}
use Rattle.vm_device.specs.Mappings.{frame_in}
use Rattle.vm_device.specs.Perform.{Answer, opened, closed, called, called_with, in_session, MapsFound, UnmapsAt, Performs}
use Rattle.vm_stands.proofs.ReturnLemmas.{marked_is, kind_is, step_by, made_alone, made_first, made_second}
use Rattle.vm_stands.proofs.StopLemmas.{quiet_is}
use Rattle.vm_stands.proofs.TookLemmas.{OneEach, took_one, took_two}
use Rattle.vm_realm.specs.Laws.{one_unless}
use Rattle.vm_realm.specs.Left.{bad_in, unsent_in}
use Rattle.vm_realm.proofs.BadLogLemmas.{marks, sum_mapped, set_same}

-- ---- a session's unsent messages

abbrev pub of_unsent : Model → List Unsent → ℕ
of_unsent m es = sum_by (λ e. marks m e.msg) es

abbrev pub in_session_of : Model → Option SessionState → ℕ
in_session_of m o = sum_by (marks m) (unsent_in o)

pub of_session : (m : Model) (s : SessionState) → in_session_of m (Some s) ≡ of_unsent m s.unsent
of_session m s = sum_mapped (marks m) (λ (e : Unsent). e.msg) s.unsent

pub same_unsent : (m : Model) (s t : SessionState) → t.unsent ≡ s.unsent → in_session_of m (Some t) ≡ in_session_of m (Some s)
same_unsent m s t is = ap (λ es. sum_by (marks m) (map (λ (e : Unsent). e.msg) es)) is

abbrev pub in_sessions : Model → List (Option SessionState) → ℕ
in_sessions m ss = sum_by (in_session_of m) ss

-- ---- commands

row_unsent : (s : SessionState) (code : IoctlCode) (p : List ℕ) (held : List Held) → (ioctl_row s code p held).next.unsent ≡ s.unsent
unfolding querycap_row enumfmt_row gfmt_row tryfmt_row sfmt_row enuminput_row ginput_row sinput_row reqbufs_row querybuf_row qbuf_row streamon_row streamoff_row subscribe_row unsubscribe_row
row_unsent s QueryCap p held = refl
row_unsent s EnumFmt p held = refl
row_unsent s GFmt p held = refl
row_unsent s SFmt p held = refl
row_unsent s ReqBufs p held = refl
row_unsent s QueryBuf p held = refl
row_unsent s QBuf p held = refl
row_unsent s StreamOn p held = refl
row_unsent s StreamOff p held = refl
row_unsent s EnumInput p held = refl
row_unsent s GInput p held = refl
row_unsent s SInput p held = refl
row_unsent s TryFmt p held = refl
row_unsent s SubscribeEvent p held = refl
row_unsent s UnsubscribeEvent p held = refl

answer_next : (o : Option Errno) (r : IoctlAnswer) (a : IoctlAnswer) → refused_or o r ≡ Ok a → a.next ≡ r.next
answer_next None r a is = cc
answer_next (Some e) r a is = cc

outcome_unsent : (memory : Bool) (s : SessionState) (code : IoctlCode) (p : List ℕ) (held : List Held) (a : IoctlAnswer) → ioctl_outcome memory s code p held ≡ Ok a → a.next.unsent ≡ s.unsent
outcome_unsent memory s code p held a is =
    let r : IoctlRow = ioctl_row s code p held in
    ap (λ (x : SessionState). x.unsent) (answer_next (refusal_of memory r) (record { payload = r.payload; back = r.back; next = r.next }) a is) ∙ row_unsent s code p held

open_none : (m : Model) (memory : Bool) (held : List Held) (d : DeviceState) → in_sessions m (opened memory held d).device.sessions ≡ in_sessions m d.sessions
open_none m false held d = refl
open_none m true held d =
    let fresh : Option SessionState = Some (opening_session d.model (length d.sessions)) in
    omega (arith, sum_by-append (in_session_of m) d.sessions (fresh ∷ []), sum_by-cons (in_session_of m) fresh [], of_session m (opening_session d.model (length d.sessions)))

-- a session that is closed has sent all
close_none : (m : Model) (d : DeviceState) (id : ℕ) (held : List Held) (o : Option SessionState) → session_of d id ≡ o → is_at_rest o ≡ true → in_sessions m (closed d id held o).device.sessions ≡ in_sessions m d.sessions
close_none m d id held None is rest = refl
close_none m d id held (Some s) is rest =
    let bare : in_session_of m (Some s) ≡ 0 = of_session m s ∙ ap (of_unsent m) (quiet_is s rest).sent in
    set_same (in_session_of m) d.sessions id None None (sym (ap (in_session_of m) is ∙ bare))

done_none : (m : Model) (d : DeviceState) (id : ℕ) (s : SessionState) (code : IoctlCode) (held : List Held) (r : Result IoctlAnswer Errno) → session_of d id ≡ Some s → ((a : IoctlAnswer) → r ≡ Ok a → a.next.unsent ≡ s.unsent) →
    in_sessions m (called d id code held r).device.sessions ≡ in_sessions m d.sessions
done_none m d id s code held (Err errno) is same = refl
done_none m d id s code held (Ok a) is same = set_same (in_session_of m) d.sessions id (Some a.next) None (same_unsent m s a.next (same a refl) ∙ sym (ap (in_session_of m) is))

come_none : (m : Model) (memory : Bool) (d : DeviceState) (id : ℕ) (s : SessionState) (code : IoctlCode) (p : List ℕ) (held : List Held) (r : Result (List Held) Errno) → session_of d id ≡ Some s →
    in_sessions m (called_with memory d id s code p held r).device.sessions ≡ in_sessions m d.sessions
come_none m memory d id s code p held (Err errno) is = refl
come_none m memory d id s code p held (Ok come) is = done_none m d id s code come (ioctl_outcome memory s code p come) is (λ a out. outcome_unsent memory s code p come a out)

call_none : (m : Model) (memory : Bool) (d : DeviceState) (id : ℕ) (code : IoctlCode) (p wire : List ℕ) (held : List Held) (o : Option SessionState) → session_of d id ≡ o →
    in_sessions m (in_session memory d id o code p wire held).device.sessions ≡ in_sessions m d.sessions
call_none m memory d id code p wire held None is = refl
call_none m memory d id code p wire held (Some s) is = come_none m memory d id s code p held (comes_with s code p wire held) is

map_none : (d : DeviceState) (held : List Held) (r : Result (ℕ × ℕ) Errno) (a : Answer) → MapsFound d held r a → a.device.sessions ≡ d.sessions
map_none d held (Err errno) a is = ap (λ (x : Answer). x.device.sessions) is
map_none d held (Ok frame) a maps = elim maps [ inl is ↦ ap (λ (x : Answer). x.device.sessions) is | inr goes ↦ ap (λ (x : Answer). x.device.sessions) goes.3 ]

unmap_none : (d : DeviceState) (held : List Held) (addr : ℕ) (o : Option LiveRange) (a : Answer) → UnmapsAt d held addr o a → a.device.sessions ≡ d.sessions
unmap_none d held addr None a is = ap (λ (x : Answer). x.device.sessions) is
unmap_none d held addr (Some r) a (region, unmaps, is) = ap (λ (x : Answer). x.device.sessions) is

-- a session that the command closes is quiet
abbrev pub ClosesQuiet : DeviceState → Command → Type 0
ClosesQuiet d (CloseSession id) = is_at_rest (session_of d id) ≡ true
ClosesQuiet d c = Unit {0}

pub performs_none : (m : Model) (d : DeviceState) (c : Command) (wire : List ℕ) (held : List Held) (a : Answer) → ClosesQuiet d c → Performs d c wire held a → in_sessions m a.device.sessions ≡ in_sessions m d.sessions
performs_none m d OpenSession wire held a quiet (memory, is) = ap (λ (x : Answer). in_sessions m x.device.sessions) is ∙ open_none m memory held d
performs_none m d (CloseSession id) wire held a quiet is = ap (λ (x : Answer). in_sessions m x.device.sessions) is ∙ close_none m d id held (session_of d id) refl quiet
performs_none m d (Ioctl id code p) wire held a quiet (memory, is) =
    ap (λ (x : Answer). in_sessions m x.device.sessions) is ∙ call_none m memory d id code p wire held (session_of d id) refl
performs_none m d (Map id writable offset) wire held a quiet maps = ap (in_sessions m) (map_none d held (frame_in (session_of d id) offset) a maps)
performs_none m d (Unmap addr) wire held a quiet unmaps = ap (in_sessions m) (unmap_none d held addr (range_at addr d.region.ranges) a unmaps)

-- ---- an event is sent

returned_unsent : (s : SessionState) (msg : EventMsg) → (with_returned s msg).unsent ≡ s.unsent
returned_unsent s (Dequeued session b) = refl
returned_unsent s (Happened session event) = refl

pub sent_unsent : (s : SessionState) (e : Unsent) (es : List Unsent) → s.unsent ≡ e ∷ es → (sent s).unsent ≡ es
sent_unsent s e es is = ap (λ us. (sent_of us s).unsent) is ∙ returned_unsent (record s { unsent = es }) e.msg

-- ---- a frame

happened_none : (m : Model) (s : SessionState) (good : Bool) → of_unsent m (sync_events s good) ≡ 0
happened_none m s good = cond_both (has_events s.model && good) _ [] (λ (es : List Unsent). of_unsent m es ≡ 0) (λ t. refl) (λ t. refl)

by_good : (good : Bool) → bad_in ((if good then [] else Bad ∷ []) ++ Give ∷ []) ≡ one_unless good
by_good true = refl
by_good false = refl

by_step : (good : Bool) → bad_in ((step_by good ∷ []) ++ Give ∷ []) ≡ one_unless good
by_step true = refl
by_step false = refl

-- a buffer that comes back has the mark of its frame
has_mark : (m : Model) (s : SessionState) (r : Running) (good : Bool) (b : BufferRec) (n : ℕ) → s.model ≡ m → is_marked m (dequeued_buffer s.model b (note_of s r good b n)) ≡ not good
has_mark m s r good b n is = ap (λ k. is_marked k (dequeued_buffer s.model b (note_of s r good b n))) (sym is) ∙ marked_is s.model b (note_of s r good b n) good refl

alone_marks : (m : Model) (s : SessionState) (r : Running) (good : Bool) (b : BufferRec) (n : ℕ) (held : Option Held) → s.model ≡ m → source_queue m ≡ None → marks m (returned s r good b n held).msg ≡ one_unless good
alone_marks m s r good b n held is none =
    ap (λ es. bad_in (es ++ Give ∷ [])) (made_alone m s.id (dequeued_buffer s.model b (note_of s r good b n)) good none (has_mark m s r good b n is)) ∙ by_good good

first_marks : (m : Model) (s : SessionState) (r : Running) (good : Bool) (b : BufferRec) (n : ℕ) (held : Option Held) → s.model ≡ m → m ≡ Convert → b.kind ≡ BUF_TYPE_OUTPUT → marks m (returned s r good b n held).msg ≡ one_unless good
first_marks m s r good b n held is convert kind =
    let rec : BufferRec = dequeued_buffer s.model b (note_of s r good b n) in
    ap (λ es. bad_in (es ++ Give ∷ []))
    (made_first m s.id BUF_TYPE_OUTPUT rec good (ap source_queue convert) (kind_is s.model b (note_of s r good b n) ∙ kind) refl (has_mark m s r good b n is))
    ∙ by_step good

second_marks : (m : Model) (s : SessionState) (r : Running) (good : Bool) (b : BufferRec) (n : ℕ) (held : Option Held) → m ≡ Convert → (b.kind == BUF_TYPE_OUTPUT) ≡ false → marks m (returned s r good b n held).msg ≡ 0
second_marks m s r good b n held convert other =
    let rec : BufferRec = dequeued_buffer s.model b (note_of s r good b n) in
    ap (λ es. bad_in (es ++ Give ∷ []))
    (made_second m s.id BUF_TYPE_OUTPUT rec (ap source_queue convert) (ap (λ k. k == BUF_TYPE_OUTPUT) (kind_is s.model b (note_of s r good b n)) ∙ other))

parts_marks : (m : Model) (s : SessionState) (r : Running) (done : DoneParts) → of_unsent m (events_of s r done) ≡ of_unsent m (src_events s r done) + marks m (dst_event s r done).msg
parts_marks m s r done =
    let f : Unsent → ℕ = λ e. marks m e.msg in
    omega (arith, sum_by-append f (sync_events s done.good) (src_events s r done ++ dst_event s r done ∷ []), happened_none m s done.good, sum_by-append f (src_events s r done) (dst_event s r done ∷ []), sum_by-cons f (dst_event s r done) [])

-- the messages of a frame tell once whether it failed
pub frame_marks : (m : Model) (s : SessionState) (r : Running) (done : DoneParts) → s.model ≡ m → OneEach m (taken_by (Some r)) → of_unsent m (events_of s r done) ≡ one_unless done.good
frame_marks Capture s r done is took =
    let each : _ = took_one r took in
    let none : of_unsent Capture (src_events s r done) ≡ 0 = ap (λ o. of_unsent Capture (option_to_list (option_map (λ (b : BufferRec). returned s r done.good b b.bytesused done.job.src) o))) each.0 in
    omega (arith, parts_marks Capture s r done, none, alone_marks Capture s r done.good r.dst (if done.good then picture_size (pictures s).format else 0) (Some done.job.dst) is refl)
frame_marks Convert s r done is took =
    let each : _ = took_two r took in
    let b : BufferRec = each.0 in
    let e : Unsent = returned s r done.good b b.bytesused done.job.src in
    let one : of_unsent Convert (src_events s r done) ≡ of_unsent Convert (e ∷ []) = ap (λ o. of_unsent Convert (option_to_list (option_map (λ (x : BufferRec). returned s r done.good x x.bytesused done.job.src) o))) each.1 in
    let first : marks Convert e.msg ≡ one_unless done.good = first_marks Convert s r done.good b b.bytesused done.job.src is refl each.2 in
    let second : marks Convert (dst_event s r done).msg ≡ 0 = second_marks Convert s r done.good r.dst (if done.good then picture_size (pictures s).format else 0) (Some done.job.dst) refl (ap (λ k. k == BUF_TYPE_OUTPUT) each.3) in
    omega (arith, parts_marks Convert s r done, one, sum_by-cons (λ (x : Unsent). marks Convert x.msg) e [], first, second)
