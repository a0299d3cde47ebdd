-- Which session a handle's command names, and what the device's other sessions are after it.
use Rattle.std.proofs.Common.{◌≡◌, ◌⊎◌, ℕ, ◌*◌, ◌<◌, ◌≤◌, Bool, true, false, not, List, [], ◌∷◌, ◌++◌, Option, Some, None, Result, Ok, Err, is_some, length, get_or, replicate, refl, sym, ap, ◌∙◌, subst, arith, inl, inr, eqb, if◌then◌else◌}
use Rattle.std.specs.Prelude.{◌&&◌, IsSome, IfSome}
use Rattle.std.specs.List.{All, filter}
use Rattle.std.specs.Option.{option_and_then, option_map}
use Rattle.std.proofs.lemmas.Bool.{false≢true, cases_Bool, cases_lt, not-false, or_parts, cond-false, ne_eqb}
use Rattle.std.proofs.lemmas.List.{get_or_past, get_or_append_left, get_or-set_other, length-map, nil_from_length}
use Rattle.std.proofs.lemmas.List.Elements.{All-head, All-tail, All-get_or}
use Rattle.std.proofs.lemmas.List.Sums.{sum_by-le}
use Rattle.std.proofs.lemmas.Option.{none-some, same_Some}
use Rattle.v4l_const.specs.IoctlCode.{payload_size}
use Rattle.v4l_const.specs.declared.errno.Errno.{Errno}
use Rattle.v4l_const.specs.declared.ioctl_code.IoctlCode.{IoctlCode}
use Rattle.v4l_const.specs.declared.ioctl_code.IoctlCode.TheVariants.{QueryCap as QueryCapCode, EnumFmt as EnumFmtCode, GFmt as GFmtCode, TryFmt as TryFmtCode, SFmt as SFmtCode, EnumInput as EnumInputCode, GInput as GInputCode, SInput as SInputCode, ReqBufs as ReqBufsCode, QueryBuf as QueryBufCode, StreamOn as StreamOnCode, StreamOff as StreamOffCode, SubscribeEvent as SubscribeCode, UnsubscribeEvent as UnsubscribeCode}
use Rattle.v4l_layout.specs.Records.{fmtdesc_bytes, format_bytes, input_bytes, request_bytes, buffer_bytes, subscription_bytes}
use Rattle.v4l_rules.specs.Refusals.{first_refusal}
use Rattle.vm_frame.specs.declared.mem.Held.{Held}
use Rattle.vm_job.specs.Entry.{parts_of}
use Rattle.vm_job.specs.declared.job_out.JobOut.{JobOut}
use Rattle.vm_mem.specs.Lists.{first_of}
use Rattle.vm_local.specs.declared.call.Call.{Call}
use Rattle.vm_local.specs.declared.call.Call.TheVariants.{OpenHandle, CloseHandle, QueryCap, EnumFmt, GFmt, TryFmt, SFmt, EnumInput, GInput, SInput, ReqBufs, QueryBuf, UAlloc, QBuf, StreamOn, StreamOff, DqBuf, Mmap, Munmap, Peek, Hash, Poke, Fill, Subscribe, Unsubscribe, DqEvent}
use Rattle.vm_local.specs.declared.entry.Entry.{Entry}
use Rattle.vm_local.specs.declared.entry.Entry.TheVariants.{Called, Finish, Bad, Give}
use Rattle.vm_local.specs.declared.owed.OwedItem.{OwedItem}
use Rattle.vm_local.specs.declared.owed.OwedItem.TheVariants.{Buffer as OwedBuffer, Sync}
use Rattle.vm_local.specs.declared.reply.Reply.{Reply}
use Rattle.vm_local.specs.declared.reply.Reply.TheVariants.{Done}
use Rattle.vm_local.specs.State.{LocalState, opening}
use Rattle.vm_local.specs.Memory.{named}
use Rattle.vm_local.specs.Queue.{with_buffers}
use Rattle.vm_local.specs.Same.{address_in, same_reply}
use Rattle.vm_local.specs.Calls.{row_of, querycap_row, enumfmt_row, gfmt_row, tryfmt_row, sfmt_row, enuminput_row, ginput_row, sinput_row, reqbufs_row, querybuf_row, ualloc_row, qbuf_row, streamon_row, streamoff_row, dqbuf_row, mmap_row, munmap_row, read_row, hash_row, write_row, fill_row, subscribe_row, unsubscribe_row, dqevent_row}
use Rattle.vm_local.specs.Steps.{counted, item_given}
use Rattle.vm_local.specs.Log.{row_for, called, after, replay_from}
use Rattle.vm_local.proofs.StepLemmas.{passes, answered_by, Went, finished_by, failed_by, given_by}
use Rattle.vm_local.proofs.KeptLemmas.{some_same}
use Rattle.vm_log.specs.LegalLog.{state_of}
use Rattle.vm_region.specs.declared.live_range.LiveRange.{LiveRange}
use Rattle.vm_region.specs.Region.{range_at}
use Rattle.vm_wire.specs.Buffers.{buffer_offset, reqbufs_request, querybuf_request, subscription_request}
use Rattle.vm_wire.specs.Records.{fmt_desc_request, format_type_request, format_request, input_request}
use Rattle.vm_wire.specs.Wire.{le}
use Rattle.vm_wire.specs.declared.command.Command.{Command}
use Rattle.vm_wire.specs.declared.command.Command.TheVariants.{OpenSession, CloseSession, Ioctl, Map, Unmap}
use Rattle.vm_wire.specs.declared.delivery.Delivery.{Delivery}
use Rattle.vm_exchange.specs.Exchange.{sends, from_open, unless_by, once_answered, qbuf_crossing, crossing, crossing_of, address_of}
use Rattle.vm_exchange.specs.declared.crossing.Crossing.{Crossing}
use Rattle.vm_exchange.specs.declared.way.Way.{Way}
use Rattle.vm_exchange.specs.declared.way.Way.TheVariants.{Crosses, AnsweredHere, Waits}
use Rattle.vm_handle.specs.Handle.{HandleState, Keeps, id_of, opens_session, has_opened}
use Rattle.vm_session.specs.State.{SessionState}
use Rattle.vm_session.specs.Rows.{IoctlAnswer, ioctl_outcome}
use Rattle.vm_device.specs.Brought.{comes_with}
use Rattle.vm_device.specs.Device.{DeviceState, session_of}
use Rattle.vm_device.specs.Keeps.{specs_for, specs_in}
use Rattle.vm_device.specs.Mappings.{frame_in}
use Rattle.vm_device.specs.Perform.{Answer, Performs, opened, closed, called as called_in, called_with, in_session, MapsFound, UnmapsAt, is_busy, stops_in, must_wait}
use Rattle.vm_host.specs.Chains.{named_session}
use Rattle.vm_guest.specs.Guest.{seat_of, handle_seated}
use Rattle.vm_guest.specs.Events.{events_of}
use Rattle.vm_guest.specs.Orderly.{IsFitProcess, IsSeat}
use Rattle.vm_guest.specs.declared.seat.Seat.{Seat}
use Rattle.vm_script.specs.Script.{ProcessLines}
use Rattle.vm_realm.specs.World.{WorldState}
use Rattle.vm_realm.specs.Inner.{Inner}
use Rattle.vm_realm.specs.Slice.{Slice, job_in, events_for, slice_at}
use Rattle.vm_realm.specs.Sound.{IsSoundBy, IsHandle, id_at, inner_at, NamesNone}
use Rattle.vm_realm.proofs.FrameLemmas.{handle_there}
use Rattle.vm_realm.proofs.MoveLemmas.{find_first}
use Rattle.vm_realm.proofs.TakeLemmas.{id_kept}
use Rattle.vm_realm.proofs.ShareLemmas.{log_state}

-- ---- a handle that is open has a session

row_shut : (s : LocalState) (line addr : ℕ) (call : Call) → s.opened ≡ false → ((row_of s line addr call).next.opened ≡ false) ⊎ ((nonblock : Bool) × (call ≡ OpenHandle nonblock))
unfolding querycap_row enumfmt_row gfmt_row tryfmt_row sfmt_row enuminput_row ginput_row sinput_row reqbufs_row querybuf_row ualloc_row qbuf_row streamon_row streamoff_row dqbuf_row mmap_row munmap_row read_row hash_row write_row fill_row subscribe_row unsubscribe_row dqevent_row with_buffers
row_shut s line addr (OpenHandle nonblock) shut = inr (nonblock, refl)
row_shut s line addr CloseHandle shut = inl refl
row_shut s line addr QueryCap shut = inl shut
row_shut s line addr (EnumFmt t i) shut = inl shut
row_shut s line addr (GFmt t) shut = inl shut
row_shut s line addr (TryFmt t f w h) shut = inl shut
row_shut s line addr (SFmt t f w h) shut = inl shut
row_shut s line addr (EnumInput i) shut = inl shut
row_shut s line addr GInput shut = inl shut
row_shut s line addr (SInput i) shut = inl shut
row_shut s line addr (ReqBufs t m n) shut = inl shut
row_shut s line addr (QueryBuf t i) shut = inl shut
row_shut s line addr (UAlloc u len off) shut = inl shut
row_shut s line addr (QBuf t i user used ts) shut = inl shut
row_shut s line addr (StreamOn t) shut = inl shut
row_shut s line addr (StreamOff t) shut = inl shut
row_shut s line addr (DqBuf t) shut = inl shut
row_shut s line addr (Mmap m t i ro) shut = inl shut
row_shut s line addr (Munmap m) shut = inl shut
row_shut s line addr (Peek m off len) shut = inl shut
row_shut s line addr (Hash m) shut = inl shut
row_shut s line addr (Poke m off bytes) shut = inl shut
row_shut s line addr (Fill m seed) shut = inl shut
row_shut s line addr (Subscribe e) shut = inl shut
row_shut s line addr (Unsubscribe e) shut = inl shut
row_shut s line addr DqEvent shut = inl shut

-- an open is done alone with its reply
open_done : (line : ℕ) (nonblock : Bool) (reply : Reply) → same_reply Done reply ≡ true → opens_session (Called line (OpenHandle nonblock) reply) ≡ true
open_done line nonblock Done same = refl
open_done line nonblock reply same = absurd (false≢true same)

open_reply : (s : LocalState) (line at : ℕ) (nonblock : Bool) → (row_of s line at (OpenHandle nonblock)).reply ≡ Done
open_reply s line at nonblock = refl

item_opened : (s : LocalState) (t : ℕ) (item : OwedItem) → (item_given s t item).opened ≡ s.opened
item_opened s t (OwedBuffer i) = refl
item_opened s t (Sync frame) =
    elim s.subscribed as (λ b. (if b then record s { events = s.events ++ (record { frame = frame; number = s.next_event }) ∷ []; next_event = counted s.next_event } else s).opened ≡ s.opened) [
      | true ↦ refl
      | false ↦ refl
    ]

went_shut : (s t : LocalState) (line : ℕ) (call : Call) (reply : Reply) → s.opened ≡ false → opens_session (Called line call reply) ≡ false →
    Went (first_refusal (row_for s line call reply).refusals) (row_for s line call reply) reply t → t.opened ≡ false
went_shut s t line call reply shut none went = by_call (row_shut s line (address_in reply) call shut)
  where
    by_call : ((row_of s line (address_in reply) call).next.opened ≡ false) ⊎ ((nonblock : Bool) × (call ≡ OpenHandle nonblock)) → t.opened ≡ false
    by_call (inl closed) = ap (λ (x : LocalState). x.opened) went.3 ∙ closed
    by_call (inr (nonblock, is)) =
        let same : same_reply Done reply ≡ true = ap (λ c. same_reply (row_of s line (address_in reply) c).reply reply) (sym is) ∙ went.2 in
        absurd (false≢true (sym none ∙ (ap (λ c. opens_session (Called line c reply)) is ∙ open_done line nonblock reply same)))

after_shut : (s t : LocalState) (e : Entry) → s.opened ≡ false → opens_session e ≡ false → after s e ≡ Some t → t.opened ≡ false
unfolding called
after_shut s t (Called line call reply) shut none goes =
    elim (answered_by (first_refusal (row_for s line call reply).refusals) (row_for s line call reply) s reply t goes) as (λ _. t.opened ≡ false) [
      | inl same ↦ ap (λ (x : LocalState). x.opened) same ∙ shut
      | inr went ↦ went_shut s t line call reply shut none went
    ]
after_shut s t Finish shut none goes = ap (λ (x : LocalState). x.opened) (finished_by s t goes).1 ∙ shut
after_shut s t Bad shut none goes = ap (λ (x : LocalState). x.opened) (failed_by s t goes).1 ∙ shut
after_shut s t Give shut none goes =
    let gave = given_by s t goes in
    ap (λ (x : LocalState). x.opened) gave.3 ∙ (item_opened (record s { owed = gave.1 }) gave.0.queue gave.0.item ∙ shut)

never_opened : (es : List Entry) (s t : LocalState) → s.opened ≡ false → has_opened es ≡ false → replay_from s es ≡ Some t → t.opened ≡ false
never_opened [] s t shut none goes = ap (λ (x : LocalState). x.opened) (sym (some_same s t t goes)) ∙ shut
never_opened (e ∷ es) s t shut none goes = by_after (after s e) refl goes (λ u closed rest. never_opened es u t closed (or_parts (opens_session e) (has_opened es) none).1 rest)
  where
    by_after : (o : Option LocalState) → after s e ≡ o → option_and_then (λ u. replay_from u es) o ≡ Some t → ((u : LocalState) → u.opened ≡ false → replay_from u es ≡ Some t → t.opened ≡ false) → t.opened ≡ false
    by_after None is goes more = absurd (none-some t goes)
    by_after (Some u) is goes more = more u (after_shut s u e shut (or_parts (opens_session e) (has_opened es) none).0 is) goes

pub open_has : (h : HandleState) → Keeps h.log h.session h.stage → (state_of h.log).opened ≡ true → is_some h.session ≡ true
open_has h keeps live = elim (cases_Bool (has_opened h.log.entries)) [
  | inl has ↦ keeps.opened ∙ has
  | inr never ↦ absurd (false≢true (sym (never_opened h.log.entries (opening h.log.model) (state_of h.log) refl never (log_state h.log keeps.legal)) ∙ live))
]

-- ---- a handle's command names its own session, or none

abbrev pub NamesOwn : Option ℕ → Command → Type 0
NamesOwn session c = (named_session c ≡ None) ⊎ ((id : ℕ) × (session ≡ Some id) × (named_session c ≡ Some id))

own_id : (session : Option ℕ) (c : Command) → is_some session ≡ true → named_session c ≡ Some (id_of session) → NamesOwn session c
own_id None c some names = absurd (false≢true some)
own_id (Some id) c some names = inr (id, refl, names)

abbrev sending : Command → Crossing
sending c = record { command = c; user = None }

opened_way : (s : LocalState) (session : Option ℕ) (c : Command) (x : Crossing) → (s.opened ≡ true → is_some session ≡ true) → named_session c ≡ Some (id_of session) → crossing (from_open s (sends c)) ≡ Some x → NamesOwn session x.command
opened_way s session c x some names is = by_open s.opened refl is
  where
    by_open : (b : Bool) → s.opened ≡ b → crossing (if b then sends c else AnsweredHere) ≡ Some x → NamesOwn session x.command
    by_open true live is = subst (λ (y : Crossing). NamesOwn session y.command) (same_Some (sending c) x is) (own_id session c (some live) names)
    by_open false live is = absurd (none-some x is)

pub passed_way : (o : Option Errno) (way : Way) (x : Crossing) → crossing (unless_by o way) ≡ Some x → (o ≡ None) × (crossing way ≡ Some x)
passed_way None way x is = (refl, is)
passed_way (Some e) way x is = absurd (none-some x is)

pub never_crosses : (s : LocalState) (call : Call) (x : Crossing) → crossing (once_answered s call) ≡ Some x → ⊥
never_crosses s call x is = by_wait (row_of s 0 0 call).waits is
  where
    by_wait : (b : Bool) → crossing (if b then Waits else AnsweredHere) ≡ Some x → ⊥
    by_wait true is = none-some x is
    by_wait false is = none-some x is

qbuf_own : (s : LocalState) (session : Option ℕ) (t i : ℕ) (user : Option (List ℕ)) (used ts : ℕ) (x : Crossing) → (s.opened ≡ true → is_some session ≡ true) →
    crossing (unless_by (first_refusal (qbuf_row s t i user used ts).refusals) (Crosses (qbuf_crossing (id_of session) s t i user used ts))) ≡ Some x → NamesOwn session x.command
unfolding qbuf_row qbuf_crossing
qbuf_own s session t i user used ts x some is =
    let passed = passed_way (first_refusal (qbuf_row s t i user used ts).refusals) (Crosses (qbuf_crossing (id_of session) s t i user used ts)) x is in
    let live : s.opened ≡ true = not-false s.opened (passes (qbuf_row s t i user used ts).refusals passed.0 0) in
    subst (λ (y : Crossing). NamesOwn session y.command) (same_Some (qbuf_crossing (id_of session) s t i user used ts) x passed.1)
    (own_id session (qbuf_crossing (id_of session) s t i user used ts).command (some live) refl)

mmap_own : (s : LocalState) (session : Option ℕ) (m : List ℕ) (t i : ℕ) (ro : Bool) (x : Crossing) → (s.opened ≡ true → is_some session ≡ true) →
    crossing (unless_by (first_refusal (mmap_row s 0 m t i ro).refusals) (sends (Map (id_of session) (not ro) (buffer_offset t i)))) ≡ Some x → NamesOwn session x.command
unfolding mmap_row
mmap_own s session m t i ro x some is =
    let passed = passed_way (first_refusal (mmap_row s 0 m t i ro).refusals) (sends (Map (id_of session) (not ro) (buffer_offset t i))) x is in
    let live : s.opened ≡ true = not-false s.opened (passes (mmap_row s 0 m t i ro).refusals passed.0 0) in
    subst (λ (y : Crossing). NamesOwn session y.command) (same_Some (sending (Map (id_of session) (not ro) (buffer_offset t i))) x passed.1)
    (own_id session (Map (id_of session) (not ro) (buffer_offset t i)) (some live) refl)

pub names_own : (s : LocalState) (session : Option ℕ) (call : Call) (x : Crossing) → (s.opened ≡ true → is_some session ≡ true) → crossing_of (id_of session) s call ≡ Some x → NamesOwn session x.command
names_own s session (OpenHandle nonblock) x some is = subst (λ (y : Crossing). NamesOwn session y.command) (same_Some (sending OpenSession) x is) (inl refl)
names_own s session CloseHandle x some is = opened_way s session (CloseSession (id_of session)) x some refl is
names_own s session QueryCap x some is = opened_way s session (Ioctl (id_of session) QueryCapCode (replicate (payload_size QueryCapCode) 0)) x some refl is
names_own s session (EnumFmt t i) x some is = opened_way s session (Ioctl (id_of session) EnumFmtCode (fmtdesc_bytes (fmt_desc_request t i))) x some refl is
names_own s session (GFmt t) x some is = opened_way s session (Ioctl (id_of session) GFmtCode (format_bytes (format_type_request t))) x some refl is
names_own s session (TryFmt t f w h) x some is = opened_way s session (Ioctl (id_of session) TryFmtCode (format_bytes (format_request t f w h))) x some refl is
names_own s session (SFmt t f w h) x some is = opened_way s session (Ioctl (id_of session) SFmtCode (format_bytes (format_request t f w h))) x some refl is
names_own s session (EnumInput i) x some is = opened_way s session (Ioctl (id_of session) EnumInputCode (input_bytes (input_request i))) x some refl is
names_own s session GInput x some is = opened_way s session (Ioctl (id_of session) GInputCode (replicate (payload_size GInputCode) 0)) x some refl is
names_own s session (SInput i) x some is = opened_way s session (Ioctl (id_of session) SInputCode (le i)) x some refl is
names_own s session (ReqBufs t m n) x some is = opened_way s session (Ioctl (id_of session) ReqBufsCode (request_bytes (reqbufs_request t m n))) x some refl is
names_own s session (QueryBuf t i) x some is = opened_way s session (Ioctl (id_of session) QueryBufCode (buffer_bytes (querybuf_request t i))) x some refl is
names_own s session (UAlloc u len off) x some is = absurd (none-some x is)
names_own s session (QBuf t i user used ts) x some is = qbuf_own s session t i user used ts x some is
names_own s session (StreamOn t) x some is = opened_way s session (Ioctl (id_of session) StreamOnCode (le t)) x some refl is
names_own s session (StreamOff t) x some is = opened_way s session (Ioctl (id_of session) StreamOffCode (le t)) x some refl is
names_own s session (DqBuf t) x some is =
    absurd (never_crosses s (DqBuf t) x (passed_way (first_refusal (row_of s 0 0 (DqBuf t)).refusals) (once_answered s (DqBuf t)) x is).1)
names_own s session (Mmap m t i ro) x some is = mmap_own s session m t i ro x some is
names_own s session (Munmap m) x some is =
    let passed = passed_way (first_refusal (row_of s 0 0 (Munmap m)).refusals) (sends (Unmap (address_of (named s m)))) x is in
    subst (λ (y : Crossing). NamesOwn session y.command) (same_Some (sending (Unmap (address_of (named s m)))) x passed.1) (inl refl)
names_own s session (Peek m off len) x some is = absurd (none-some x is)
names_own s session (Hash m) x some is = absurd (none-some x is)
names_own s session (Poke m off bytes) x some is = absurd (none-some x is)
names_own s session (Fill m seed) x some is = absurd (none-some x is)
names_own s session (Subscribe e) x some is = opened_way s session (Ioctl (id_of session) SubscribeCode (subscription_bytes (subscription_request e))) x some refl is
names_own s session (Unsubscribe e) x some is = opened_way s session (Ioctl (id_of session) UnsubscribeCode (subscription_bytes (subscription_request e))) x some refl is
names_own s session DqEvent x some is = absurd (none-some x is)

-- ---- the device's other sessions

open_stays : (memory : Bool) (held : List Held) (d : DeviceState) (i : ℕ) → i < length d.sessions → session_of (opened memory held d).device i ≡ session_of d i
open_stays true held d i within = get_or_append_left d.sessions _ None i within
open_stays false held d i within = refl

close_stays : (d : DeviceState) (id : ℕ) (held : List Held) (o : Option SessionState) (i : ℕ) → ¬ (i ≡ id) → session_of (closed d id held o).device i ≡ session_of d i
close_stays d id held None i other = refl
close_stays d id held (Some s) i other = get_or-set_other d.sessions id i None None other

done_stays : (d : DeviceState) (id : ℕ) (code : IoctlCode) (held : List Held) (r : Result IoctlAnswer Errno) (i : ℕ) → ¬ (i ≡ id) → session_of (called_in d id code held r).device i ≡ session_of d i
done_stays d id code held (Err errno) i other = refl
done_stays d id code held (Ok a) i other = get_or-set_other d.sessions id i (Some a.next) None other

come_stays : (memory : Bool) (d : DeviceState) (id : ℕ) (s : SessionState) (code : IoctlCode) (p : List ℕ) (held : List Held) (r : Result (List Held) Errno) (i : ℕ) → ¬ (i ≡ id) →
    session_of (called_with memory d id s code p held r).device i ≡ session_of d i
come_stays memory d id s code p held (Err errno) i other = refl
come_stays memory d id s code p held (Ok come) i other = done_stays d id code come (ioctl_outcome memory s code p come) i other

call_stays : (memory : Bool) (d : DeviceState) (id : ℕ) (code : IoctlCode) (p wire : List ℕ) (held : List Held) (o : Option SessionState) (i : ℕ) → ¬ (i ≡ id) →
    session_of (in_session memory d id o code p wire held).device i ≡ session_of d i
call_stays memory d id code p wire held None i other = refl
call_stays memory d id code p wire held (Some s) i other = come_stays memory d id s code p held (comes_with s code p wire held) i other

map_stays : (d : DeviceState) (held : List Held) (r : Result (ℕ × ℕ) Errno) (a : Answer) → MapsFound d held r a → a.device.sessions ≡ d.sessions
map_stays d held (Err errno) a is = ap (λ (x : Answer). x.device.sessions) is
map_stays d held (Ok frame) a maps = elim maps [ inl is ↦ ap (λ (x : Answer). x.device.sessions) is | inr goes ↦ ap (λ (x : Answer). x.device.sessions) goes.3 ]

unmap_stays : (d : DeviceState) (held : List Held) (addr : ℕ) (o : Option LiveRange) (a : Answer) → UnmapsAt d held addr o a → a.device.sessions ≡ d.sessions
unmap_stays d held addr None a is = ap (λ (x : Answer). x.device.sessions) is
unmap_stays d held addr (Some r) a (region, unmaps, is) = ap (λ (x : Answer). x.device.sessions) is

-- a command leaves each session that was there but the one that it names
pub stays_elsewhere : (d : DeviceState) (c : Command) (wire : List ℕ) (held : List Held) (a : Answer) → Performs d c wire held a → (i : ℕ) → i < length d.sessions → ¬ (named_session c ≡ Some i) → session_of a.device i ≡ session_of d i
stays_elsewhere d OpenSession wire held a (memory, is) i within other = ap (λ (x : Answer). session_of x.device i) is ∙ open_stays memory held d i within
stays_elsewhere d (CloseSession id) wire held a is i within other =
    ap (λ (x : Answer). session_of x.device i) is ∙ close_stays d id held (session_of d id) i (λ same. other (ap Some (sym same)))
stays_elsewhere d (Ioctl id code p) wire held a (memory, is) i within other =
    ap (λ (x : Answer). session_of x.device i) is ∙ call_stays memory d id code p wire held (session_of d id) i (λ same. other (ap Some (sym same)))
stays_elsewhere d (Map id writable offset) wire held a maps i within other = ap (λ ss. get_or ss i None) (map_stays d held (frame_in (session_of d id) offset) a maps)
stays_elsewhere d (Unmap addr) wire held a unmaps i within other = ap (λ ss. get_or ss i None) (unmap_stays d held addr (range_at addr d.region.ranges) a unmaps)

-- ---- a command that names no session is refused

past_none : (d : DeviceState) (id : ℕ) → length d.sessions ≤ id → session_of d id ≡ None
past_none d id past = get_or_past d.sessions id None past

pub refused_leaves : (d : DeviceState) (c : Command) (wire : List ℕ) (held : List Held) (a : Answer) → length d.sessions ≤ 16384 → NamesNone c → Performs d c wire held a → a.device ≡ d
refused_leaves d OpenSession wire held a few none does = absurd none
refused_leaves d (CloseSession id) wire held a few none is =
    ap (λ (x : Answer). x.device) (is ∙ ap (closed d id held) (past_none d id (omega (arith, few, none))))
refused_leaves d (Ioctl id code p) wire held a few none (memory, is) =
    ap (λ (x : Answer). x.device) (is ∙ ap (λ o. in_session memory d id o code p wire held) (past_none d id (omega (arith, few, none))))
refused_leaves d (Map id writable offset) wire held a few none maps =
    ap (λ (x : Answer). x.device) (subst (λ o. MapsFound d held (frame_in o offset) a) (past_none d id (omega (arith, few, none))) maps)
refused_leaves d (Unmap addr) wire held a few none does = absurd none

pub refused_goes : (d : DeviceState) (c : Command) → length d.sessions ≤ 16384 → NamesNone c → must_wait d c ≡ false
refused_goes d OpenSession few none = refl
refused_goes d (CloseSession id) few none = ap is_busy (past_none d id (omega (arith, few, none)))
refused_goes d (Ioctl id code p) few none = ap (λ o. stops_in o code p && is_busy o) (past_none d id (omega (arith, few, none)))
refused_goes d (Map id writable offset) few none = refl
refused_goes d (Unmap addr) few none = refl

-- ---- how many sessions there are

few_handles : (p : ProcessLines) → IsFitProcess p → length p.handles ≤ 1024
few_handles p fit = omega (arith, fit.limit, fit.named)

each_few : (ps : List ProcessLines) → All IsFitProcess ps → All (λ p. length p.handles ≤ 1024) ps
each_few ps all = λ k d within. few_handles _ (all k d within)

pub few_sessions : (w : WorldState) (rows : List (List Inner)) → IsSoundBy w rows → length w.host.device.sessions ≤ 16384
few_sessions w rows sound =
    let ps : List ProcessLines = w.script.processes in
    let most = sum_by-le (λ (p : ProcessLines). length p.handles) 1024 ps (each_few ps sound.script.fit.each) in
    let few : length ps ≤ 16 = sound.script.fit.few in
    let fewer : length ps * 1024 ≤ 16384 = omega (arith, few) in
    omega (arith, most, fewer, sound.device.sound.few, sound.device.opens)

-- ---- a session that isn't there yet

pub seat_some : (o : Option Seat) → is_some o ≡ true → (s : Seat) × (o ≡ Some s)
seat_some None some = absurd (false≢true some)
seat_some (Some s) some = (s, refl)

seat_within : (seats : List (Option Seat)) (id : ℕ) (seat : Seat) → get_or seats id None ≡ Some seat → id < length seats
seat_within seats id seat is = elim (cases_lt id (length seats)) [ inl within ↦ within | inr past ↦ absurd (none-some seat (sym (get_or_past seats id None past) ∙ is)) ]

-- a handle that has an id has that of a session
pub seated_below : (w : WorldState) (rows : List (List Inner)) (id : ℕ) → IsSoundBy w rows → IsSome (seat_of w.guest id) → id < length w.host.device.sessions
seated_below w rows id sound some =
    let at : _ = seat_some (seat_of w.guest id) some in
    let seat : Seat = at.0 in
    let place : id < length w.guest.seats = seat_within w.guest.seats id seat at.1 in
    let sits : IfSome (seat_of w.guest id) (IsSeat w.guest.processes) = All-get_or (λ o. IfSome o (IsSeat w.guest.processes)) w.guest.seats id None place sound.lines.seats in
    let within : IsSeat w.guest.processes seat = subst (λ o. IfSome o (IsSeat w.guest.processes)) at.1 sits in
    let session : (handle_seated w.guest seat).session ≡ Some id = sound.ids.seated id seat at.1 in
    let named : IsHandle w seat.process seat.handle = handle_there w.guest seat.process seat.handle within.0 within.1 in
    let x : Slice = slice_at w seat.process seat.handle in
    let own : id_at w seat.process seat.handle ≡ Some id = id_kept x (inner_at w rows seat.process seat.handle) x.out id (sound.slices seat.process seat.handle named).out session in
    sound.ids.below seat.process seat.handle id named own

none_of : (w : WorldState) (rows : List (List Inner)) (k : ℕ) (ds : List Delivery) → IsSoundBy w rows → length w.host.device.sessions ≤ k → All (λ d. IsSome (seat_of w.guest d.session)) ds → events_of k ds ≡ []
none_of w rows k [] sound past all = refl
none_of w rows k (d ∷ ds) sound past all =
    let below = seated_below w rows d.session sound (All-head (λ (x : Delivery). IsSome (seat_of w.guest x.session)) d ds all) in
    cond-false (eqb d.session k) (d ∷ events_of k ds) (events_of k ds) (ne_eqb d.session k (λ same. omega (arith, below, past, same)))
    ∙ none_of w rows k ds sound past (All-tail (λ (x : Delivery). IsSome (seat_of w.guest x.session)) d ds all)

-- nothing is of it
pub record IsNew (w : WorldState) (k : ℕ) : Type 0 where
  pub held : events_for (Some k) w.guest.pump.held ≡ []
  pub events : events_for (Some k) w.events ≡ []
  pub job : job_in w.host.device.jobs (Some k) ≡ None

no_job : (d : DeviceState) (k : ℕ) → specs_for k d.jobs ≡ [] → job_in d.jobs (Some k) ≡ None
no_job d k none =
    let p : JobOut → Bool = λ e. eqb e.spec.session k in
    let empty : filter p d.jobs ≡ [] = nil_from_length (filter p d.jobs) (let long = sym (length-map (filter p d.jobs) (λ (e : JobOut). e.spec)) ∙ ap length none in omega (arith, long)) in
    ap (option_map parts_of) (find_first p d.jobs ∙ ap first_of empty)

pub is_new : (w : WorldState) (rows : List (List Inner)) (k : ℕ) → IsSoundBy w rows → length w.host.device.sessions ≤ k → IsNew w k
is_new w rows k sound past = record {
  held = none_of w rows k w.guest.pump.held sound past sound.said.held;
  events = none_of w rows k w.events sound past sound.said.sent;
  job = no_job w.host.device k (sound.device.sound.jobs k ∙ ap specs_in (past_none w.host.device k past));
}
