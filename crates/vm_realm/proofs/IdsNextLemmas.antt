-- The ids of the sessions after each step: they are those that were, or one more by an open that was done.
use Rattle.std.proofs.Common.{◌≡◌, ◌⊎◌, ℕ, ◌+◌, ◌<◌, ◌≤◌, ◌^◌, Bool, true, false, List, [], ◌∷◌, ◌++◌, Option, Some, None, Ok, is_some, length, refl, sym, ap, ◌∙◌, subst, arith, inl, inr, eqb, if◌then◌else◌, lit<}
use Rattle.std.specs.Option.{option_to_list}
use Rattle.std.proofs.lemmas.Bool.{false≢true, cases_eq, eq-eqb, ne_eqb}
use Rattle.std.proofs.lemmas.List.{append-nil, length_push, length-set, nil_from_length}
use Rattle.std.proofs.lemmas.Option.{none-some, same_Some}
use Rattle.v4l_const.specs.Errno.{errno_number}
use Rattle.v4l_const.specs.declared.errno.Errno.TheVariants.{Enomem}
use Rattle.v4l_rules.specs.Refusals.{first_refusal}
use Rattle.vm_frame.specs.declared.mem.Held.{Held}
use Rattle.vm_local.specs.State.{LocalState}
use Rattle.vm_local.specs.Calls.{row_of}
use Rattle.vm_local.specs.declared.call.Call.{Call}
use Rattle.vm_local.specs.declared.call.Call.TheVariants.{OpenHandle, CloseHandle, QueryCap, EnumFmt, GFmt, TryFmt, SFmt, EnumInput, GInput, SInput, ReqBufs, QueryBuf, UAlloc, QBuf, StreamOn, StreamOff, DqBuf, Mmap, Munmap, Peek, Hash, Poke, Fill, Subscribe, Unsubscribe, DqEvent}
use Rattle.vm_local.specs.declared.reply.Reply.TheVariants.{Done}
use Rattle.vm_log.specs.Answers.{given_back}
use Rattle.vm_log.specs.LegalLog.{LogState, state_of}
use Rattle.vm_script.specs.declared.line.LineKind.{LineKind}
use Rattle.vm_script.specs.declared.line.LineKind.TheVariants.{OnHandle, Raw}
use Rattle.vm_wire.specs.Message.{Posting, Returning}
use Rattle.vm_wire.specs.Message.Ask.{Judged}
use Rattle.vm_wire.specs.Wire.{response_bytes, response_of}
use Rattle.vm_wire.specs.declared.command.Command.{Command}
use Rattle.vm_wire.specs.declared.command.Command.TheVariants.{OpenSession}
use Rattle.vm_wire.specs.declared.response.Response.TheVariants.{Opened, Refused as Denied}
use Rattle.vm_wire.proofs.WireLemmas.{response_again}
use Rattle.vm_exchange.specs.declared.crossing.Crossing.{Crossing}
use Rattle.vm_exchange.specs.declared.way.Way.{Way}
use Rattle.vm_exchange.specs.declared.way.Way.TheVariants.{Crosses, AnsweredHere, Waits, TouchesMemory}
use Rattle.vm_exchange.specs.Exchange.{crossing, crossing_of, qbuf_crossing}
use Rattle.vm_exchange.proofs.FitLemmas.{crossed_open, crossed_unrefused}
use Rattle.vm_handle.specs.Answers.{session_from, with_reply}
use Rattle.vm_handle.specs.Handle.{HandleState, id_of, crossing_from, way_from}
use Rattle.vm_handle.proofs.StageLemmas.{dqbuf_stays}
use Rattle.vm_device.specs.Device.{DeviceState}
use Rattle.vm_device.specs.Perform.{Answer, Performs, opened, must_wait}
use Rattle.vm_host.specs.Part.{Part, Call as WaitingCall, ExecutedCommand, ExecutedAsk, Executed}
use Rattle.vm_host.specs.Waiting.{put_in, taken_out}
use Rattle.vm_guest.specs.Guest.{process_at}
use Rattle.vm_guest.specs.Lines.{waiting}
use Rattle.vm_guest.specs.Process.{crossing_call, handle_at}
use Rattle.vm_realm.specs.declared.step.Step.{Step}
use Rattle.vm_realm.specs.declared.step.Step.TheVariants.{Issue, Execute, Resume, Begin, Finish, Announce, Collect, Pump, Lease, GiveBack}
use Rattle.vm_realm.specs.World.{WorldState}
use Rattle.vm_realm.specs.Inner.{Inner}
use Rattle.vm_realm.specs.Steps.{Steps, after_device}
use Rattle.vm_realm.specs.Slice.{Slice, Out, id_told, id_ahead, session_in, requests_of, calls_of, replies_of, out_from, out_of, is_on, slice_at}
use Rattle.vm_realm.specs.Slice.Out.{Nowhere, Asked, Kept, Told, Astray}
use Rattle.vm_realm.specs.SliceSteps.{told_by, SliceDoes, StartsBy, Starts, Lends, GetsBack, holds_back, taken, Takes, Collects, IsFirst, TakesNone}
use Rattle.vm_realm.specs.Sound.{IsPosted, IsSoundBy, IsHandle, id_at}
use Rattle.vm_realm.proofs.TakeLemmas.{delivered_session, delivered_ahead}
use Rattle.vm_realm.proofs.CollectLemmas.{all_delivered_session, session_told}
use Rattle.vm_realm.proofs.WaitingLemmas.{command_same}
use Rattle.vm_realm.proofs.CommandLemmas.{commanded, Commands, command_others, own_more, others_more, others_first, put_off, put_own, out_off, out_own, others_stay, kept_session, open_or_not, told_id, IsFirstAsked, asked_first, IsHandleAsked, handle_asked, IsOneKept, one_kept}
use Rattle.vm_realm.proofs.DeviceLemmas.{performs_adds}
use Rattle.vm_realm.proofs.AfterLemmas.{is_issued, is_collected, is_leased_to, is_given_back, IsExecuted, is_executed, IsResumed, is_resumed, IsJobBegun, is_job_begun, IsFinished, is_finished, IsAnnounced, is_announced}
use Rattle.vm_realm.proofs.ShellNextLemmas.{SameShell, same_shell, command_shell}
use Rattle.vm_realm.proofs.LiftNextLemmas.{Stayed, Lifts, execute_raw}

-- ---- what the ids come to

-- each handle has the id that it had, and no session is new
pub record StayIds (w u : WorldState) : Type 0 where
  pub ids : (n h : ℕ) → IsHandle u n h → id_at u n h ≡ id_at w n h
  pub count : length u.host.device.sessions ≡ length w.host.device.sessions

-- this handle, which had none, has that of the new session
pub record OpenIds (w u : WorldState) : Type 0 where
  pub process : ℕ
  pub handle : ℕ
  pub named : IsHandle w process handle
  pub before : id_at w process handle ≡ None
  pub own : id_at u process handle ≡ Some (length w.host.device.sessions)
  pub others : (n h : ℕ) → ¬ ((n ≡ process) × (h ≡ handle)) → id_at u n h ≡ id_at w n h
  pub count : length u.host.device.sessions ≡ length w.host.device.sessions + 1

abbrev pub IdsStep : WorldState → WorldState → Type 0
IdsStep w u = StayIds w u ⊎ OpenIds w u

-- ---- a call that opens a session is an open

abbrev pub is_opening : Command → Bool
is_opening OpenSession = true
is_opening c = false

open_sends : (b : Bool) (x c : Crossing) → crossing (if b then Crosses x else AnsweredHere) ≡ Some c → is_opening c.command ≡ true → is_opening x.command ≡ true
open_sends b x c is opens = subst (λ (k : Crossing). is_opening k.command ≡ true) (sym (crossed_open b x c is)) opens

qbuf_opens : (id : ℕ) (s : LocalState) (t i : ℕ) (user : Option (List ℕ)) (used ts : ℕ) → is_opening (qbuf_crossing id s t i user used ts).command ≡ true → ⊥
unfolding qbuf_crossing
qbuf_opens id s t i user used ts opens = false≢true opens

pub only_opens : (id : ℕ) (s : LocalState) (call : Call) (c : Crossing) → crossing_of id s call ≡ Some c → is_opening c.command ≡ true → (nonblock : Bool) × (call ≡ OpenHandle nonblock)
only_opens id s (OpenHandle nonblock) c is opens = (nonblock, refl)
only_opens id s CloseHandle c is opens = absurd (false≢true (open_sends s.opened _ c is opens))
only_opens id s QueryCap c is opens = absurd (false≢true (open_sends s.opened _ c is opens))
only_opens id s (EnumFmt t i) c is opens = absurd (false≢true (open_sends s.opened _ c is opens))
only_opens id s (GFmt t) c is opens = absurd (false≢true (open_sends s.opened _ c is opens))
only_opens id s (TryFmt t f w h) c is opens = absurd (false≢true (open_sends s.opened _ c is opens))
only_opens id s (SFmt t f w h) c is opens = absurd (false≢true (open_sends s.opened _ c is opens))
only_opens id s (EnumInput i) c is opens = absurd (false≢true (open_sends s.opened _ c is opens))
only_opens id s GInput c is opens = absurd (false≢true (open_sends s.opened _ c is opens))
only_opens id s (SInput i) c is opens = absurd (false≢true (open_sends s.opened _ c is opens))
only_opens id s (ReqBufs t m n) c is opens = absurd (false≢true (open_sends s.opened _ c is opens))
only_opens id s (QueryBuf t i) c is opens = absurd (false≢true (open_sends s.opened _ c is opens))
only_opens id s (StreamOn t) c is opens = absurd (false≢true (open_sends s.opened _ c is opens))
only_opens id s (StreamOff t) c is opens = absurd (false≢true (open_sends s.opened _ c is opens))
only_opens id s (Subscribe e) c is opens = absurd (false≢true (open_sends s.opened _ c is opens))
only_opens id s (Unsubscribe e) c is opens = absurd (false≢true (open_sends s.opened _ c is opens))
only_opens id s (QBuf t i user used ts) c is opens =
    absurd (qbuf_opens id s t i user used ts (subst (λ (k : Crossing). is_opening k.command ≡ true) (sym (crossed_unrefused (first_refusal (row_of s 0 0 (QBuf t i user used ts)).refusals) _ c is).1) opens))
only_opens id s (Mmap m t i ro) c is opens =
    absurd (false≢true (subst (λ (k : Crossing). is_opening k.command ≡ true) (sym (crossed_unrefused (first_refusal (row_of s 0 0 (Mmap m t i ro)).refusals) _ c is).1) opens))
only_opens id s (Munmap m) c is opens =
    absurd (false≢true (subst (λ (k : Crossing). is_opening k.command ≡ true) (sym (crossed_unrefused (first_refusal (row_of s 0 0 (Munmap m)).refusals) _ c is).1) opens))
only_opens id s (DqBuf t) c is opens =
    absurd (dqbuf_stays (first_refusal (row_of s 0 0 (DqBuf t)).refusals) (row_of s 0 0 (DqBuf t)).waits (subst (λ o. is_some o ≡ true) (sym is) refl))
only_opens id s (UAlloc u len off) c is opens = absurd (none-some c is)
only_opens id s (Peek m off len) c is opens = absurd (none-some c is)
only_opens id s (Hash m) c is opens = absurd (none-some c is)
only_opens id s (Poke m off bytes) c is opens = absurd (none-some c is)
only_opens id s (Fill m seed) c is opens = absurd (none-some c is)
only_opens id s DqEvent c is opens = absurd (none-some c is)

-- ---- a command is done

-- the id that an open tells
open_told : (d : DeviceState) (nonblock : Bool) (held : List Held) → length d.sessions < 2 ^ 32 →
    session_from None (OpenHandle nonblock) Done (response_of OpenSession (response_bytes (opened true held d).response)) ≡ Some (length d.sessions)
open_told d nonblock held small = ap (session_from None (OpenHandle nonblock) Done) (response_again OpenSession (Opened (length d.sessions)) small).1

-- that of an open for which there was no memory
denied_told : (d : DeviceState) (nonblock : Bool) (held : List Held) → session_from None (OpenHandle nonblock) Done (response_of OpenSession (response_bytes (opened false held d).response)) ≡ None
denied_told d nonblock held = ap (session_from None (OpenHandle nonblock) Done) (response_again OpenSession (Denied (errno_number Enomem)) (lit< tt, lit< tt)).1

few_small : (a b k : ℕ) → a ≤ b → b < k → a < k
few_small a b k le lt = omega (arith, le, lt)

-- the command that a handle posted is done, and told
served_ids : (w : WorldState) (rows : List (List Inner)) (n h : ℕ) (m : Posting) (c : Command) (a : Answer) (host : Part) (ms : List Posting) (rs : List Returning) → IsSoundBy w rows → IsHandle w n h → IsPosted (slice_at w n h) m →
    id_at w n h ≡ (handle_at (process_at w.guest n) h).session → m.request.asks ≡ Judged (Ok c) → Performs w.host.device c m.behind m.held a → host.device ≡ a.device → is_on (crossing_call (process_at w.guest n)) h ≡ true →
    out_of (commanded w host ms rs) n ≡ Told (told_by m a) → ((i : ℕ) → ¬ (i ≡ n) → out_of (commanded w host ms rs) i ≡ out_of w i) → IdsStep w (commanded w host ms rs)
served_ids w rows n h m c a host ms rs sound named posted own asks does is on out others = by_call (open_or_not posted.call)
  where
    hd : HandleState
    hd = handle_at (process_at w.guest n) h

    r : Returning
    r = told_by m a

    moves : Commands w n h host ms rs (Told (told_by m a))
    moves = record {
      on = on;
      out = out;
      others = others;
      sessions = λ i k other. ap (λ d. session_in d (id_at w i k)) is ∙ others_stay w rows n h m c a sound named posted own asks does i k other;
      jobs = ap (λ (d : DeviceState). d.jobs) is ∙ (performs_adds w.host.device c m.behind m.held a does).jobs;
    }

    elsewhere : (i k : ℕ) → ¬ ((i ≡ n) × (k ≡ h)) → id_at (commanded w host ms rs) i k ≡ id_at w i k
    elsewhere i k other = ap (λ (x : Slice). id_ahead x.handle x.out) (command_others w n h host ms rs (Told (told_by m a)) moves i k other)

    told : id_at (commanded w host ms rs) n h ≡ session_from (handle_at (process_at w.guest n) h).session posted.call Done (response_of OpenSession (response_bytes a.response))
    told =
        ap (λ b. id_ahead hd (if b then out_of (commanded w host ms rs) n else Nowhere)) on
        ∙ (ap (id_ahead hd) out ∙ told_id hd posted.line posted.call r posted.underway)

    count : SameShell w.host.device a.device → length host.device.sessions ≡ length w.host.device.sessions
    count same = ap (λ (d : DeviceState). length d.sessions) is ∙ same.count

    same_ids : id_at (commanded w host ms rs) n h ≡ id_at w n h → SameShell w.host.device a.device → IdsStep w (commanded w host ms rs)
    same_ids here same = inl (record {
      ids = λ i k there. elim (cases_eq i n) [
        | inr apart ↦ elsewhere i k (λ both. apart both.0)
        | inl first ↦ elim (cases_eq k h) [
          | inr apart ↦ elsewhere i k (λ both. apart both.1)
          | inl second ↦ subst (λ x. id_at (commanded w host ms rs) x k ≡ id_at w x k) (sym first) (subst (λ y. id_at (commanded w host ms rs) n y ≡ id_at w n y) (sym second) here)
        ]
      ];
      count = count same;
    })

    opens : (nonblock : Bool) → posted.call ≡ OpenHandle nonblock → IdsStep w (commanded w host ms rs)
    opens nonblock open_is = by_memory does_open.0 does_open.1
      where
        none : (handle_at (process_at w.guest n) h).session ≡ None
        none = subst (IsFirst hd) open_is posted.first

        live : c ≡ OpenSession
        live =
            command_same c posted.crossing.command (sym asks ∙ ap (λ (y : Posting). y.request.asks) posted.says)
            ∙ sym (ap (λ (y : Crossing). y.command) (same_Some (record { command = OpenSession; user = None }) posted.crossing (subst (λ k. crossing_from hd k ≡ Some posted.crossing) open_is posted.crosses)))

        does_open : Performs w.host.device OpenSession m.behind m.held a
        does_open = subst (λ k. Performs w.host.device k m.behind m.held a) live does

        reads : (memory : Bool) → a ≡ opened memory m.held w.host.device →
            id_at (commanded w host ms rs) n h ≡ session_from None (OpenHandle nonblock) Done (response_of OpenSession (response_bytes (opened memory m.held w.host.device).response))
        reads memory same = told ∙ (λ j. session_from (none j) (open_is j) Done (response_of OpenSession (response_bytes (same j).response)))

        by_memory : (memory : Bool) → a ≡ opened memory m.held w.host.device → IdsStep w (commanded w host ms rs)
        by_memory true same = inr (record {
          process = n;
          handle = h;
          named = named;
          before = own ∙ none;
          own = reads true same ∙ open_told w.host.device nonblock m.held (few_small (length w.host.device.sessions) w.host.device.opens (2 ^ 32) sound.device.sound.few sound.device.sound.small);
          others = elsewhere;
          count = ap (λ (d : DeviceState). length d.sessions) is ∙ (ap (λ (x : Answer). length x.device.sessions) same ∙ length_push w.host.device.sessions _);
        })
        by_memory false same = same_ids (reads false same ∙ (denied_told w.host.device nonblock m.held ∙ sym (own ∙ none))) (same_shell w.host.device a.device (ap (λ (x : Answer). x.device) same))

    not_open : ((nonblock : Bool) → ¬ (posted.call ≡ OpenHandle nonblock)) → SameShell w.host.device a.device ⊎ ((c ≡ OpenSession) × (a ≡ opened true m.held w.host.device)) → IdsStep w (commanded w host ms rs)
    not_open other (inl same) = same_ids (told ∙ (kept_session hd.session posted.call (response_of OpenSession (response_bytes a.response)) other ∙ sym own)) same
    not_open other (inr (is_open, same)) =
        let command : posted.crossing.command ≡ OpenSession = sym (command_same c posted.crossing.command (sym asks ∙ ap (λ (y : Posting). y.request.asks) posted.says)) ∙ is_open in
        let one : _ = only_opens (id_of hd.session) (state_of hd.log) posted.call posted.crossing posted.crosses (ap is_opening command) in
        absurd (other one.0 one.1)

    by_call : ((nonblock : Bool) × (posted.call ≡ OpenHandle nonblock)) ⊎ ((nonblock : Bool) → ¬ (posted.call ≡ OpenHandle nonblock)) → IdsStep w (commanded w host ms rs)
    by_call (inl is) = opens is.0 is.1
    by_call (inr other) = not_open other (command_shell w.host.device c m.behind m.held a does)

-- ---- Execute

-- where it waits
waits_ids : (w : WorldState) (rows : List (List Inner)) (m : Posting) (ms : List Posting) (h session : ℕ) → w.requests ≡ m ∷ ms → IsFirstAsked w m ms → IsHandleAsked w rows h m →
    StayIds w (commanded w (record w.host { calls = put_in (λ (y : WaitingCall). y.session) (record { session = session; posting = m }) w.host.calls }) ms w.replies)
waits_ids w rows m ms h session is first a = record {
  ids = λ i k named. elim (cases_eq i m.request.who) [
    | inr apart ↦ elsewhere i k (λ both. apart both.0)
    | inl one ↦ elim (cases_eq k h) [
      | inr apart ↦ elsewhere i k (λ both. apart both.1)
      | inl two ↦ subst (λ x. id_at v x k ≡ id_at w x k) (sym one) (subst (λ y. id_at v m.request.who y ≡ id_at w m.request.who y) (sym two) here)
    ]
  ];
  count = refl;
}
  where
    call : WaitingCall
    call = record { session = session; posting = m }

    host : Part
    host = record w.host { calls = put_in (λ (y : WaitingCall). y.session) (record { session = session; posting = m }) w.host.calls }

    v : WorldState
    v = commanded w (record w.host { calls = put_in (λ (y : WaitingCall). y.session) (record { session = session; posting = m }) w.host.calls }) ms w.replies

    calls : calls_of v m.request.who ≡ call ∷ []
    calls = put_own (λ (y : WaitingCall). eqb y.posting.request.who m.request.who) (λ (y : WaitingCall). y.session) call w.host.calls (eq-eqb m.request.who m.request.who refl) first.calls

    moves : Commands w m.request.who h host ms w.replies (Kept m)
    moves = record {
      on = a.on;
      out = λ j. out_from (first.requests j) (calls j) (first.replies j);
      others = λ i apart. λ j. out_from (others_first w m ms i is apart j)
          (put_off (λ (y : WaitingCall). eqb y.posting.request.who i) (λ (y : WaitingCall). y.session) call w.host.calls (ne_eqb m.request.who i (λ same. apart (sym same))) j) (replies_of w i);
      sessions = λ i k other. refl;
      jobs = refl;
    }

    elsewhere : (i k : ℕ) → ¬ ((i ≡ m.request.who) × (k ≡ h)) → id_at v i k ≡ id_at w i k
    elsewhere i k other = ap (λ (x : Slice). id_ahead x.handle x.out) (command_others w m.request.who h host ms w.replies (Kept m) moves i k other)

    hd : HandleState
    hd = handle_at (process_at w.guest m.request.who) h

    here : id_at v m.request.who h ≡ id_at w m.request.who h
    here = ap (λ b. id_ahead hd (if b then out_of v m.request.who else Nowhere)) a.on ∙ (ap (id_ahead hd) moves.out ∙ sym a.own)

command_ids : (w : WorldState) (rows : List (List Inner)) (m : Posting) (ms : List Posting) (h : ℕ) (c : Command) (b : Bool) (out : Option Returning) (host : Part) → IsSoundBy w rows → w.requests ≡ m ∷ ms → IsFirstAsked w m ms → IsHandleAsked w rows h m →
    m.request.asks ≡ Judged (Ok c) → must_wait w.host.device c ≡ b → ExecutedCommand b m c w.host out host → IdsStep w (after_device (record w { requests = ms }) host out)
command_ids w rows m ms h c true out host sound is first a asks waits (none, (session, named, after)) =
    let rs : w.replies ++ option_to_list out ≡ w.replies = ap (λ o. w.replies ++ option_to_list o) none ∙ append-nil w.replies in
    let ends : after_device (record w { requests = ms }) host out ≡ commanded w (record w.host { calls = put_in (λ (y : WaitingCall). y.session) (record { session = session; posting = m }) w.host.calls }) ms w.replies =
    λ j. commanded w (after j) ms (rs j) in
    subst (IdsStep w) (sym ends) (inl (waits_ids w rows m ms h session is first a))
command_ids w rows m ms h c false out host sound is first at asks goes (r, d, completed, told, after) =
    let n : ℕ = m.request.who in
    let a : Answer = completed.0 in
    let own : Returning = told_by m a in
    let part : Part = record w.host { device = a.device } in
    let rs : List Returning = w.replies ++ own ∷ [] in
    let v : WorldState = commanded w part ms rs in
    let ends : after_device (record w { requests = ms }) host out ≡ v =
    (λ j. commanded w (after j) ms (w.replies ++ option_to_list (told j))) ∙ (λ j. commanded w (record w.host { device = completed.3 j }) ms (w.replies ++ completed.2 j ∷ [])) in
    let replies : replies_of v n ≡ own ∷ [] = own_more w.replies n own refl ∙ ap (λ ys. ys ++ own ∷ []) first.replies in
    let here : out_of v n ≡ Told own = λ j. out_from (first.requests j) (first.calls j) (replies j) in
    let others : (i : ℕ) → ¬ (i ≡ n) → out_of v i ≡ out_of w i = λ i apart. λ j. out_from (others_first w m ms i is apart j) (calls_of w i) (others_more w.replies n i own refl apart j) in
    subst (IdsStep w) (sym ends) (served_ids w rows n h m c a part ms rs sound at.named at.posted at.own asks completed.1 refl at.on here others)

-- no handle has a new id where a raw line is answered
stayed_ids : (w u : WorldState) → Stayed w u → StayIds w u
stayed_ids w u stays = record {
  ids = λ n h named. ap (λ (x : Slice). id_ahead x.handle x.out) (stays.slices n h named);
  count = ap (λ (d : DeviceState). length d.sessions) stays.device;
}

execute_ids : (w : WorldState) (rows : List (List Inner)) (m : Posting) (ms : List Posting) (what : LineKind) (out : Option Returning) (host : Part) → IsSoundBy w rows → w.requests ≡ m ∷ ms → (first : IsFirstAsked w m ms) → first.statement.what ≡ what →
    Executed m w.host out host → IdsStep w (after_device (record w { requests = ms }) host out)
execute_ids w rows m ms (Raw chain) out host sound is first what does = inl (stayed_ids w (after_device (record w { requests = ms }) host out) (execute_raw w rows m ms chain out host sound is first what does))
execute_ids w rows m ms (OnHandle h call) out host sound is first what does =
    let a : IsHandleAsked w rows h m = handle_asked w rows m ms h call sound is first what in
    let c : Command = a.posted.crossing.command in
    let asks : m.request.asks ≡ Judged (Ok c) = ap (λ (y : Posting). y.request.asks) a.posted.says in
    command_ids w rows m ms h c (must_wait w.host.device c) out host sound is first a asks refl (subst (λ k. ExecutedAsk k m w.host out host) asks does)

-- ---- Resume

resume_ids : (w u : WorldState) (rows : List (List Inner)) (session : ℕ) → IsSoundBy w rows → IsResumed w session u → IdsStep w u
resume_ids w u rows session sound x =
    let call : WaitingCall = x.call in
    let one : _ = one_kept w rows call sound x.there in
    let n : ℕ = one.0 in
    let h : ℕ = one.1 in
    let k : IsOneKept w rows n h call = one.2 in
    let m : Posting = call.posting in
    let a : Answer = x.answer in
    let r : Returning = told_by m a in
    let host : Part = record { device = a.device; calls = taken_out (λ (y : WaitingCall). y.session) call.session w.host.calls } in
    let rs : List Returning = w.replies ++ r ∷ [] in
    let v : WorldState = commanded w host w.requests rs in
    let replies : replies_of v n ≡ r ∷ [] = own_more w.replies n r k.who ∙ ap (λ ys. ys ++ r ∷ []) k.replies in
    let fewer = out_own (λ (y : WaitingCall). eqb y.posting.request.who n) (λ (y : WaitingCall). y.session) call.session call w.host.calls x.finds (eq-eqb m.request.who n k.who) in
    let calls : calls_of v n ≡ [] = nil_from_length (calls_of v n) (omega (arith, fewer, k.calls)) in
    let out : out_of v n ≡ Told r = λ j. out_from (k.requests j) (calls j) (replies j) in
    let others : (i : ℕ) → ¬ (i ≡ n) → out_of v i ≡ out_of w i = λ i apart. λ j. out_from (requests_of w i)
    (out_off (λ (y : WaitingCall). eqb y.posting.request.who i) (λ (y : WaitingCall). y.session) call.session call w.host.calls x.finds (ne_eqb m.request.who i (λ same. apart (sym same ∙ k.who))) j)
    (others_more w.replies n i r k.who apart j) in
    subst (IdsStep w) (sym x.after) (served_ids w rows n h m x.command a host w.requests rs sound k.named k.posted k.own x.asks x.does refl k.on out others)

-- ---- the driver's steps

-- the id and the session of the handle that moves
pub record SameId (x x' : Slice) : Type 0 where
  pub id : id_ahead x'.handle x'.out ≡ id_ahead x.handle x.out
  pub session : x'.handle.session ≡ x.handle.session

log_ahead : (h : HandleState) (log : LogState) (o : Out) → id_ahead (record h { log = log }) o ≡ id_ahead h o
log_ahead h log Nowhere = refl
log_ahead h log (Asked m) = refl
log_ahead h log (Kept m) = refl
log_ahead h log (Told r) = refl
log_ahead h log Astray = refl

-- where nothing is out before, it is that of the session
start_id : (x x' : Slice) → x.out ≡ Nowhere → id_ahead x'.handle x'.out ≡ x.handle.session → x'.handle.session ≡ x.handle.session → SameId x x'
start_id x x' none now same = record { id = now ∙ sym (ap (id_ahead x.handle) none); session = same }

starts_by : (way : Way) (line : ℕ) (call : Call) (x x' : Slice) → x.out ≡ Nowhere → StartsBy way line call x x' → SameId x x'
starts_by (Crosses c) line call x x' none (along, handle, goes, after) =
    let same : handle.session ≡ x.handle.session = ap (λ (y : HandleState). y.session) goes.after in
    start_id x x' none (ap (λ (y : Slice). id_ahead y.handle y.out) after ∙ same) (ap (λ (y : Slice). y.handle.session) after ∙ same)
starts_by AnsweredHere line call x x' none (handle, answers, after) =
    let same : handle.session ≡ x.handle.session = ap (λ (y : HandleState). y.session) answers.after in
    start_id x x' none (ap (λ (y : Slice). id_ahead y.handle y.out) after ∙ (ap (id_ahead handle) none ∙ same)) (ap (λ (y : Slice). y.handle.session) after ∙ same)
starts_by Waits line call x x' none after =
    start_id x x' none (ap (λ (y : Slice). id_ahead y.handle y.out) after ∙ ap (id_ahead (waiting x.handle line call)) none) (ap (λ (y : Slice). y.handle.session) after)
starts_by TouchesMemory line call x x' none does = absurd does

pub starts_id : (x x' : Slice) → Starts x x' → SameId x x'
starts_id x x' (line, call, may, words, first, by) = starts_by (way_from x.handle call) line call x x' may.out by

pub lends_id : (x x' : Slice) → Lends x x' → SameId x x'
lends_id x x' (line, call, leased, log, may, leases, after) = record {
  id = ap (λ (y : Slice). id_ahead y.handle y.out) after ∙ log_ahead x.handle log x.out;
  session = ap (λ (y : Slice). y.handle.session) after;
}

pub gets_id : (x x' : Slice) → GetsBack x x' → SameId x x'
gets_id x x' (entry, lease, away, back, after) = record {
  id = ap (λ (y : Slice). id_ahead y.handle y.out) after ∙ log_ahead x.handle (given_back x.handle.log lease) x.out;
  session = ap (λ (y : Slice). y.handle.session) after;
}

takes_id : (x x' : Slice) → Takes x x' → SameId x x'
takes_id x x' (d, ds, first, after) = by_holding (holds_back x.handle.stage) after
  where
    by_holding : (b : Bool) → x' ≡ taken b d ds x → SameId x x'
    by_holding true is = record { id = ap (λ (y : Slice). id_ahead y.handle y.out) is; session = ap (λ (y : Slice). y.handle.session) is }
    by_holding false is = record {
      id = ap (λ (y : Slice). id_ahead y.handle y.out) is ∙ delivered_ahead x.handle d.msg d.held x.out;
      session = ap (λ (y : Slice). y.handle.session) is ∙ delivered_session x.handle d.msg d.held;
    }

collects_id : (x x' : Slice) → Collects x x' → id_ahead x'.handle x'.out ≡ id_ahead x.handle x.out
collects_id x x' (line, call, c, r, reply, stage, out, crosses, quiet, may, answer, after) =
    let y : HandleState = with_reply x.handle line call reply (response_of c r.reply.bytes) r.held in
    let before : id_ahead x.handle x.out ≡ y.session =
    ap (id_ahead x.handle) out ∙ (ap (λ t. id_told t x.handle.session r) stage ∙ session_told x.handle call c line r.reply.bytes reply crosses answer) in
    ap (λ (z : Slice). id_ahead z.handle z.out) after ∙ (all_delivered_session y x.held ∙ sym before)

-- ---- each step

-- what a step that moves a handle so leaves of the ids
moved_ids : (s : Step) (w u : WorldState) (rows : List (List Inner)) → u.host.device ≡ w.host.device → ((x x' : Slice) → SliceDoes s x x' → id_ahead x'.handle x'.out ≡ id_ahead x.handle x.out) → Lifts s w u rows → StayIds w u
moved_ids s w u rows device same (inr stays) = stayed_ids w u stays
moved_ids s w u rows device same (inl m) = record {
  ids = λ n h named. elim (cases_eq n m.process) [
    | inr apart ↦ ap (λ (x : Slice). id_ahead x.handle x.out) (m.others n h (λ both. apart both.0))
    | inl one ↦ elim (cases_eq h m.handle) [
      | inr apart ↦ ap (λ (x : Slice). id_ahead x.handle x.out) (m.others n h (λ both. apart both.1))
      | inl two ↦ subst (λ i. id_at u i h ≡ id_at w i h) (sym one) (subst (λ j. id_at u m.process j ≡ id_at w m.process j) (sym two) (same (slice_at w m.process m.handle) (slice_at u m.process m.handle) m.does))
    ]
  ];
  count = ap (λ (d : DeviceState). length d.sessions) device;
}

pub collected_ids : (w u : WorldState) (rows : List (List Inner)) → TakesNone w Collect → Steps w Collect u → Lifts Collect w u rows → StayIds w u
collected_ids w u rows none does l = moved_ids Collect w u rows (ap (λ (y : WorldState). y.host.device) (is_collected w u none does).after) collects_id l

pub ids_step : (w u : WorldState) (rows : List (List Inner)) (s : Step) → IsSoundBy w rows → TakesNone w s → Steps w s u → Lifts s w u rows → IdsStep w u
ids_step w u rows (Issue n) sound none does l =
    inl (moved_ids (Issue n) w u rows (ap (λ (y : WorldState). y.host.device) (is_issued w u n none does).after) (λ x x' starts. (starts_id x x' starts).id) l)
ids_step w u rows Execute sound none does l =
    let e : IsExecuted w u = is_executed w u does in
    let first : IsFirstAsked w e.posting e.rest = asked_first w rows e.posting e.rest sound e.first in
    subst (IdsStep w) (sym e.after) (execute_ids w rows e.posting e.rest first.statement.what e.out e.host sound e.first first refl e.does)
ids_step w u rows (Resume session) sound none does l = resume_ids w u rows session sound (is_resumed w u session does)
ids_step w u rows (Begin session) sound none does l =
    let b : IsJobBegun w session u = is_job_begun w u session does in
    inl (record { ids = λ n h named. ap (λ (y : WorldState). id_at y n h) b.after; count = ap (λ (y : WorldState). length y.host.device.sessions) b.after ∙ length-set w.host.device.sessions session _ })
ids_step w u rows (Finish number) sound none does l =
    let f : IsFinished w u = is_finished w u number does in
    inl (record { ids = λ n h named. ap (λ (y : WorldState). id_at y n h) f.after; count = ap (λ (y : WorldState). length y.host.device.sessions) f.after ∙ length-set w.host.device.sessions f.session _ })
ids_step w u rows Announce sound none does l =
    let a : IsAnnounced w u = is_announced w u does in
    inl (record { ids = λ n h named. ap (λ (y : WorldState). id_at y n h) a.after; count = ap (λ (y : WorldState). length y.host.device.sessions) a.after ∙ length-set w.host.device.sessions a.delivery.session _ })
ids_step w u rows Collect sound none does l = inl (collected_ids w u rows none does l)
ids_step w u rows Pump sound none (may, (g, left, posted, does, after)) l = inl (moved_ids Pump w u rows (ap (λ (y : WorldState). y.host.device) after) (λ x x' takes. (takes_id x x' takes).id) l)
ids_step w u rows (Lease n) sound none does l =
    inl (moved_ids (Lease n) w u rows (ap (λ (y : WorldState). y.host.device) (is_leased_to w u n does).after) (λ x x' lends. (lends_id x x' lends).id) l)
ids_step w u rows (GiveBack n) sound none does l =
    inl (moved_ids (GiveBack n) w u rows (ap (λ (y : WorldState). y.host.device) (is_given_back w u n does).after) (λ x x' gets. (gets_id x x' gets).id) l)
