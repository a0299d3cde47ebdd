-- In a sound world the first reply answers its line, once the events that come first are taken.
use Rattle.std.proofs.Common.{◌≡◌, ◌≢◌, ℕ, zero, suc, ◌<◌, ◌≤◌, ◌^◌, Bool, true, false, not, List, [], ◌∷◌, ◌++◌, Option, Some, None, length, get_or, set, map, replicate, is_some, refl, sym, ap, ◌∙◌, subst, arith, eqb, if◌then◌else◌, lit<, lit≤}
use Rattle.std.specs.Prelude.{IsSome}
use Rattle.std.specs.List.{filter}
use Rattle.std.specs.Option.{option_and_then}
use Rattle.std.proofs.lemmas.Bool.{false≢true, cond-true, eq-eqb}
use Rattle.std.proofs.lemmas.List.{append-nil, append_assoc, map-append, nil_from_length, get_or-set_same, length-set}
use Rattle.std.proofs.lemmas.Option.{same_Some}
use Rattle.v4l_const.specs.declared.errno.Errno.{Errno}
use Rattle.v4l_const.specs.declared.errno.Errno.TheVariants.{Enoent, Eio, Ebadf, Eagain, Enomem, Eacces, Efault, Ebusy, Einval, Enotty, Edeadlk, Emsgsize, Eopnotsupp}
use Rattle.vm_home.specs.Moves.{ComeWith, is_refusal, is_stopping}
use Rattle.vm_home.specs.Reached.{IsReached}
use Rattle.vm_local.specs.declared.call.Call.{Call}
use Rattle.vm_local.specs.declared.call.Call.TheVariants.{OpenHandle, CloseHandle, QueryCap, EnumFmt, GFmt, TryFmt, SFmt, EnumInput, GInput, SInput, ReqBufs, QueryBuf, UAlloc, QBuf, StreamOn, StreamOff, DqBuf, Mmap, Munmap, Peek, Hash, Poke, Fill, Subscribe, Unsubscribe, DqEvent}
use Rattle.vm_local.specs.declared.entry.Entry.{Entry}
use Rattle.vm_local.specs.declared.entry.Entry.TheVariants.{Called}
use Rattle.vm_local.specs.declared.reply.Reply.{Reply}
use Rattle.vm_local.specs.declared.reply.Reply.TheVariants.{Done, Refused, Caps, Code, Format, InputName, InputIs, Count, Buf, Mapped}
use Rattle.vm_local.specs.State.{LocalState, opening}
use Rattle.vm_local.specs.Log.{IsCall, IsLegal, after, replay, replay_from}
use Rattle.vm_local.proofs.LogLemmas.{replay_from_append}
use Rattle.vm_log.specs.LegalLog.{LogState, state_of, state_after}
use Rattle.vm_script.specs.declared.line.LineKind.{LineKind}
use Rattle.vm_script.specs.declared.line.LineKind.TheVariants.{OnHandle, Raw}
use Rattle.vm_script.specs.declared.line.RawChain.{RawChain}
use Rattle.vm_wire.specs.Message.{Returning}
use Rattle.vm_wire.specs.Wire.{response_bytes, response_of, response_len, Answers, ReadsBack}
use Rattle.vm_wire.specs.declared.delivery.Delivery.{Delivery}
use Rattle.vm_wire.specs.declared.response.Response.{Response}
use Rattle.vm_wire.specs.declared.response.Response.TheVariants.{Opened}
use Rattle.vm_wire.proofs.WireLemmas.{response_again}
use Rattle.vm_exchange.specs.Exchange.{response_to, IsAnswer, command_in}
use Rattle.vm_exchange.specs.Messages.{flight_of}
use Rattle.vm_exchange.specs.declared.crossing.Crossing.{Crossing as CrossingOf}
use Rattle.vm_exchange.proofs.ReplyLemmas.{answer_fits}
use Rattle.vm_handle.specs.Answers.{awoken, with_reply, delivered}
use Rattle.vm_handle.specs.Handle.{HandleState, crossing_from, id_of}
use Rattle.vm_handle.specs.declared.stage.Stage.TheVariants.{AtRest as Resting, Underway}
use Rattle.vm_session.specs.State.{SessionState}
use Rattle.vm_session.specs.declared.unsent.Unsent.{Unsent}
use Rattle.vm_stands.specs.Flight.{LeadAll, stops_queues}
use Rattle.vm_stands.specs.Slice.{LeadAhead, LeadWith}
use Rattle.vm_stands.proofs.AheadLemmas.{collects_refused}
use Rattle.vm_stands.proofs.FlightLemmas.{all_replay, leads_replay}
use Rattle.vm_guest.specs.Asking.{asked_by, asked_in, ends_with_events}
use Rattle.vm_guest.specs.Events.{told, told_at, all_taken, CanTellAll, CanCatchUp, CanSettle, events_of}
use Rattle.vm_guest.specs.Guest.{GuestState, no_process, process_in, process_at, with_process}
use Rattle.vm_guest.specs.Lines.{CallAnswered, AnsweredFor, AnswersRaw, CanAnswer}
use Rattle.vm_guest.specs.Orderly.{IsOutAt}
use Rattle.vm_guest.specs.Process.{ProcessState, is_blocked, is_crossing, current, current_call, some_if, crossing, crossing_call, handle_at, with_handle, no_handle, rested}
use Rattle.vm_guest.specs.Raw.{errno_told, raw_errno}
use Rattle.vm_guest.specs.Steps.{all_if}
use Rattle.vm_guest.specs.declared.asked.Asked.{Asked as AskedCall}
use Rattle.vm_guest.specs.declared.asked.Statement.{Statement}
use Rattle.vm_guest.specs.declared.seat.Seat.{Seat}
use Rattle.vm_guest.specs.declared.status.Status.TheVariants.{Crossing}
use Rattle.vm_realm.specs.declared.step.Step.TheVariants.{Pump}
use Rattle.vm_realm.specs.World.{WorldState}
use Rattle.vm_realm.specs.Inner.{Inner, driver_state, id_in, under_way, unsent_in}
use Rattle.vm_realm.specs.Laws.{CanCollect, behind_events}
use Rattle.vm_realm.specs.Steps.{Leads}
use Rattle.vm_realm.specs.Slice.{Slice, id_told, id_ahead, events_for, requests_of, calls_of, replies_of, out_from, out_of, is_on, out_at, slice_at, unsent_by, earlier_of}
use Rattle.vm_realm.specs.Slice.Out.{Nowhere, Told}
use Rattle.vm_realm.specs.SliceSteps.{holds_back}
use Rattle.vm_realm.specs.Sound.{IsTold, IsBefore, IsOut, IsSeated, IsSoundSlice, HoldsFew, raw_reply, IsRawOut, IsLineOut, IsSoundBy, IsSound, IsHandle, id_at, inner_at, out_count, one_if}
use Rattle.vm_realm.proofs.SumLemmas.{place_within}
use Rattle.vm_realm.proofs.FrameLemmas.{handle_there}
use Rattle.vm_realm.proofs.ProcessLemmas.{some_where, Stays}
use Rattle.vm_realm.proofs.GuestLemmas.{taken_stays}
use Rattle.vm_realm.proofs.PumpingLemmas.{pumped, pumps_all, crossing_stays}
use Rattle.vm_realm.proofs.TakeLemmas.{woken_handles}
use Rattle.vm_realm.proofs.LendLemmas.{call_there}
use Rattle.vm_realm.proofs.CollectLemmas.{session_told, none_for}
use Rattle.vm_realm.proofs.ShareLemmas.{log_state}
use Rattle.vm_realm.proofs.CommandLemmas.{one_is, one_most, crossing_status, crossing_now}
use Rattle.vm_realm.proofs.KeepTakeLemmas.{leads_deliver, told_log, told_state_is, told_legal, state_behind}
use Rattle.vm_realm.proofs.PumpLiftLemmas.{pump_keeps}

-- ---- the first reply

-- it alone is out of its process, which is crossing
pub record IsFirstTold (w : WorldState) (r : Returning) : Type 0 where
  pub within : r.reply.who < length w.guest.processes
  pub status : (process_at w.guest r.reply.who).status ≡ Crossing
  pub statement : Statement
  pub now : current (process_at w.guest r.reply.who) ≡ Some statement
  pub out : out_of w r.reply.who ≡ Told r

pub told_first : (w : WorldState) (rows : List (List Inner)) (r : Returning) (rs : List Returning) → IsSoundBy w rows → w.replies ≡ r ∷ rs → IsFirstTold w r
told_first w rows r rs sound is =
    let n : ℕ = r.reply.who in
    let p : ProcessState = process_at w.guest n in
    let rest : List Returning = filter (λ (y : Returning). eqb y.reply.who n) rs in
    let mine : replies_of w n ≡ r ∷ rest =
    ap (filter (λ (y : Returning). eqb y.reply.who n)) is ∙ cond-true (eqb n n) (r ∷ rest) rest (eq-eqb n n refl) in
    let long = ap length mine in
    let one : out_count w n ≡ one_if (is_crossing p.status) = sound.quiet.one n in
    let crosses : is_crossing p.status ≡ true = one_is (is_crossing p.status) (omega (arith, one, long)) in
    let few = one_most (is_crossing p.status) in
    let status : p.status ≡ Crossing = crossing_status p.status crosses in
    let within : n < length w.guest.processes = place_within (λ (y : ProcessState). is_crossing y.status) w.guest.processes n no_process refl crosses in
    let at : _ = crossing_now w rows n sound within status in
    let requests : requests_of w n ≡ [] = nil_from_length (requests_of w n) (omega (arith, one, few, long)) in
    let calls : calls_of w n ≡ [] = nil_from_length (calls_of w n) (omega (arith, one, few, long)) in
    let alone : rest ≡ [] = nil_from_length rest (omega (arith, one, few, long)) in
    let replies : replies_of w n ≡ r ∷ [] = mine ∙ ap (λ ys. r ∷ ys) alone in
    record { within = within; status = status; statement = at.0; now = at.1; out = λ j. out_from (requests j) (calls j) (replies j) }

-- ---- a raw line

raw_answers : (errno : Errno) → (length (raw_reply errno) ≢ 0 → 8 ≤ length (raw_reply errno)) × IsSome (errno_told (raw_reply errno))
raw_answers Enoent = (λ some. lit≤ tt, refl)
raw_answers Eio = (λ some. absurd (some refl), refl)
raw_answers Ebadf = (λ some. lit≤ tt, refl)
raw_answers Eagain = (λ some. lit≤ tt, refl)
raw_answers Enomem = (λ some. lit≤ tt, refl)
raw_answers Eacces = (λ some. lit≤ tt, refl)
raw_answers Efault = (λ some. lit≤ tt, refl)
raw_answers Ebusy = (λ some. lit≤ tt, refl)
raw_answers Einval = (λ some. lit≤ tt, refl)
raw_answers Enotty = (λ some. lit≤ tt, refl)
raw_answers Edeadlk = (λ some. lit≤ tt, refl)
raw_answers Emsgsize = (λ some. lit≤ tt, refl)
raw_answers Eopnotsupp = (λ some. lit≤ tt, refl)

raw_can : (w : WorldState) (rows : List (List Inner)) (r : Returning) (chain : RawChain) → IsSoundBy w rows → (first : IsFirstTold w r) → first.statement.what ≡ Raw chain → AnswersRaw r
raw_can w rows r chain sound first what =
    let n : ℕ = r.reply.who in
    let crosses : crossing (process_at w.guest n) ≡ Some first.statement = ap (λ t. some_if (is_crossing t) (current (process_at w.guest n))) first.status ∙ first.now in
    let line : IsLineOut w n (Some first.statement) = subst (IsLineOut w n) crosses (sound.raws.out n) in
    let is : IsRawOut (Told r) n chain = subst (λ o. IsRawOut o n chain) first.out (line chain what) in
    subst AnswersRaw (sym is) (raw_answers (raw_errno chain))

-- ---- a handle's call

-- a handle's reply is first
pub record IsHandleTold (w : WorldState) (rows : List (List Inner)) (h : ℕ) (r : Returning) : Type 0 where
  pub there : h < length (process_at w.guest r.reply.who).handles
  pub named : IsHandle w r.reply.who h
  pub out : out_at w r.reply.who h ≡ Told r
  pub told : IsTold (slice_at w r.reply.who h) (inner_at w rows r.reply.who h) r

pub handle_told : (w : WorldState) (rows : List (List Inner)) (r : Returning) (h : ℕ) (call : Call) → IsSoundBy w rows → (first : IsFirstTold w r) → first.statement.what ≡ OnHandle h call → IsHandleTold w rows h r
handle_told w rows r h call sound first what =
    let n : ℕ = r.reply.who in
    let s : Statement = first.statement in
    let asked : AskedCall = record { line = s.line; handle = h; call = call } in
    let called : asked_by s ≡ Some asked = ap (asked_in s.line) what in
    let there : h < length (process_at w.guest n).handles = call_there w n s asked sound.lines first.within first.now called in
    let named : IsHandle w n h = handle_there w.guest n h first.within there in
    let crosses : crossing_call (process_at w.guest n) ≡ Some asked =
    ap (λ t. some_if (is_crossing t) (current_call (process_at w.guest n))) first.status ∙ (ap (λ o. option_and_then asked_by o) first.now ∙ called) in
    let on : is_on (crossing_call (process_at w.guest n)) h ≡ true = ap (λ o. is_on o h) crosses ∙ eq-eqb h h refl in
    let out : out_at w n h ≡ Told r = ap (λ b. if b then out_of w n else Nowhere) on ∙ first.out in
    record { there = there; named = named; out = out; told = subst (λ o. IsOut o (slice_at w n h) (inner_at w rows n h)) out (sound.slices n h named).out }

same_under : (line other : ℕ) (call another : Call) → Underway line call ≡ Underway other another → (line ≡ other) × (call ≡ another)
same_under line other call another same = (cc, cc)

-- the reply is that of the statement's call
pub own_call : (w : WorldState) (rows : List (List Inner)) (r : Returning) (h : ℕ) (call : Call) → IsSoundBy w rows → (first : IsFirstTold w r) → first.statement.what ≡ OnHandle h call → (t : IsHandleTold w rows h r) →
    (t.told.line ≡ first.statement.line) × (t.told.call ≡ call)
own_call w rows r h call sound first what t =
    let n : ℕ = r.reply.who in
    let s : Statement = first.statement in
    let p : ProcessState = process_at w.guest n in
    let asked : AskedCall = record { line = s.line; handle = h; call = call } in
    let called : current_call p ≡ Some asked = ap (λ o. option_and_then asked_by o) first.now ∙ ap (asked_in s.line) what in
    let out : IsOutAt Crossing (Some asked) h (handle_at p h) =
    subst (λ st. IsOutAt st (Some asked) h (handle_at p h)) first.status (subst (λ o. IsOutAt p.status o h (handle_at p h)) called ((sound.lines.orderly n first.within).out h t.there)) in
    same_under t.told.line s.line t.told.call call (sym t.told.underway ∙ out.0 refl)

-- ---- the call is one from the driver's state

-- it leads on from there, with its memories
pub record FromDriver (x : Slice) (v : Inner) (r : Returning) (told : IsTold x v r) : Type 0 where
  pub next : LocalState
  pub is_call : IsCall (driver_state x) told.line told.call told.reply next
  pub memories : ComeWith (driver_state x) next told.call told.reply r.held

refused_is : (reply : Reply) → is_refusal reply ≡ true → (errno : Errno) × (reply ≡ Refused errno)
refused_is (Refused errno) is = (errno, refl)
refused_is reply is = absurd (false≢true is)

-- behind a stopping call nothing is under way but what is unsent
stop_under : (x : Slice) → x.held ≡ [] → x.events ≡ [] → under_way x ≡ unsent_in x.session
stop_under x held events = λ j. map unsent_by (held j ++ events j) ++ unsent_in x.session

-- what a refused stopping call comes behind, its refusal doesn't need
refused_call : (x : Slice) (v : Inner) (r : Returning) (errno : Errno) (told : IsTold x v r) → IsReached (driver_state x) → is_stopping told.call ≡ true → told.reply ≡ Refused errno → LeadAll (id_in x) (driver_state x) (under_way x) v.before →
    IsCall (driver_state x) told.line told.call (Refused errno) (driver_state x)
refused_call x v r errno told reached stops is before =
    let s : LocalState = driver_state x in
    let e : Entry = Called told.line told.call (Refused errno) in
    let msgs = map (λ (u : Unsent). u.msg) (under_way x) in
    let first : replay_from s (flight_of s.model msgs) ≡ Some v.before = all_replay (id_in x) s v.before (under_way x) before in
    let last : after v.before e ≡ Some told.next = subst (λ q. IsCall v.before told.line told.call q told.next) is told.is_call in
    let all : replay_from s (flight_of s.model msgs ++ e ∷ []) ≡ Some told.next =
    replay_from_append s (flight_of s.model msgs) (e ∷ []) ∙ (ap (λ o. option_and_then (λ t. replay_from t (e ∷ [])) o) first ∙ ap (λ o. option_and_then (λ t. replay_from t []) o) last) in
    let ahead = ap (λ b. replay_from s (if b then flight_of s.model msgs ++ e ∷ [] else e ∷ flight_of s.model msgs)) stops ∙ all in
    (collects_refused s told.next told.line told.call errno msgs reached stops ahead).0

from_driver : (x : Slice) (v : Inner) (r : Returning) → IsSoundSlice x v → (told : IsTold x v r) → (is_stopping told.call ≡ true → x.events ≡ []) → FromDriver x v r told
from_driver x v r sound told quiet = by_stopping (is_stopping told.call) refl
  where
    reached : IsReached (driver_state x)
    reached = (x.handle.log.model, x.handle.log.entries, log_state x.handle.log sound.log.legal)

    of_before : v.before ≡ driver_state x → FromDriver x v r told
    of_before same = record {
      next = told.next;
      is_call = subst (λ s. IsCall s told.line told.call told.reply told.next) same told.is_call;
      memories = subst (λ s. ComeWith s told.next told.call told.reply r.held) same told.memories;
    }

    of_refusal : is_stopping told.call ≡ true → (errno : Errno) → told.reply ≡ Refused errno → FromDriver x v r told
    of_refusal stops errno is =
        let before : LeadAll (id_in x) (driver_state x) (under_way x) v.before = subst (λ b. IsBefore b x v.before) stops told.before in
        let none : r.held ≡ [] = subst (λ q. ComeWith v.before told.next told.call q r.held) is told.memories in
        record {
          next = driver_state x;
          is_call = subst (λ q. IsCall (driver_state x) told.line told.call q (driver_state x)) (sym is) (refused_call x v r errno told reached stops is before);
          memories = subst (λ q. ComeWith (driver_state x) (driver_state x) told.call q r.held) (sym is) none;
        }

    of_stop : is_stopping told.call ≡ true → (b : Bool) → is_refusal told.reply ≡ b → FromDriver x v r told
    of_stop stops true refusal = (let errno : _ = refused_is told.reply refusal in of_refusal stops errno.0 errno.1)
    of_stop stops false done =
        let before : LeadAll (id_in x) (driver_state x) (under_way x) v.before = subst (λ b. IsBefore b x v.before) stops told.before in
        let free : holds_back x.handle.stage ≡ false = ap holds_back told.underway ∙ ap not stops in
        let none : x.held ≡ [] = subst (λ b. HoldsFew b x.held) free sound.held in
        let under : under_way x ≡ [] = stop_under x none (quiet stops) ∙ (told.quiet stops done).0 in
        of_before (subst (λ es. LeadAll (id_in x) (driver_state x) es v.before) under before)

    by_stopping : (b : Bool) → is_stopping told.call ≡ b → FromDriver x v r told
    by_stopping true stops = of_stop stops (is_refusal told.reply) refl
    by_stopping false free = of_before (subst (λ b. IsBefore b x v.before) free told.before)

-- ---- the response is read back

opened_only : (session : ℕ) (s : LocalState) (call : Call) (reply : Reply) (k : ℕ) → response_to session s call reply ≡ Opened k → k ≡ session
opened_only session s (OpenHandle nonblock) (Refused errno) k is = cc
opened_only session s (OpenHandle nonblock) Done k is = cc
opened_only session s (OpenHandle nonblock) reply k is = cc
opened_only session s CloseHandle (Refused errno) k is = cc
opened_only session s CloseHandle reply k is = cc
opened_only session s QueryCap (Refused errno) k is = cc
opened_only session s QueryCap (Caps all device) k is = cc
opened_only session s QueryCap reply k is = cc
opened_only session s (EnumFmt t i) (Refused errno) k is = cc
opened_only session s (EnumFmt t i) (Code f) k is = cc
opened_only session s (EnumFmt t i) reply k is = cc
opened_only session s (GFmt t) (Refused errno) k is = cc
opened_only session s (GFmt t) (Format f line size) k is = cc
opened_only session s (GFmt t) reply k is = cc
opened_only session s (TryFmt t code w h) (Refused errno) k is = cc
opened_only session s (TryFmt t code w h) (Format f line size) k is = cc
opened_only session s (TryFmt t code w h) reply k is = cc
opened_only session s (SFmt t code w h) (Refused errno) k is = cc
opened_only session s (SFmt t code w h) (Format f line size) k is = cc
opened_only session s (SFmt t code w h) reply k is = cc
opened_only session s (EnumInput i) (Refused errno) k is = cc
opened_only session s (EnumInput i) (InputName n) k is = cc
opened_only session s (EnumInput i) reply k is = cc
opened_only session s GInput (Refused errno) k is = cc
opened_only session s GInput (InputIs n) k is = cc
opened_only session s GInput reply k is = cc
opened_only session s (SInput i) (Refused errno) k is = cc
opened_only session s (SInput i) (InputIs n) k is = cc
opened_only session s (SInput i) reply k is = cc
opened_only session s (ReqBufs t m n) (Refused errno) k is = cc
opened_only session s (ReqBufs t m n) (Count count) k is = cc
opened_only session s (ReqBufs t m n) reply k is = cc
opened_only session s (QueryBuf t i) (Refused errno) k is = cc
opened_only session s (QueryBuf t i) (Buf len flags) k is = cc
opened_only session s (QueryBuf t i) reply k is = cc
opened_only session s (UAlloc u len off) (Refused errno) k is = cc
opened_only session s (UAlloc u len off) reply k is = cc
opened_only session s (QBuf t i user used ts) (Refused errno) k is = cc
opened_only session s (QBuf t i user used ts) Done k is = cc
opened_only session s (QBuf t i user used ts) reply k is = cc
opened_only session s (StreamOn t) (Refused errno) k is = cc
opened_only session s (StreamOn t) Done k is = cc
opened_only session s (StreamOn t) reply k is = cc
opened_only session s (StreamOff t) (Refused errno) k is = cc
opened_only session s (StreamOff t) Done k is = cc
opened_only session s (StreamOff t) reply k is = cc
opened_only session s (DqBuf t) (Refused errno) k is = cc
opened_only session s (DqBuf t) reply k is = cc
opened_only session s (Mmap m t i ro) (Refused errno) k is = cc
opened_only session s (Mmap m t i ro) (Mapped addr len) k is = cc
opened_only session s (Mmap m t i ro) reply k is = cc
opened_only session s (Munmap m) (Refused errno) k is = cc
opened_only session s (Munmap m) Done k is = cc
opened_only session s (Munmap m) reply k is = cc
opened_only session s (Peek m off len) (Refused errno) k is = cc
opened_only session s (Peek m off len) reply k is = cc
opened_only session s (Hash m) (Refused errno) k is = cc
opened_only session s (Hash m) reply k is = cc
opened_only session s (Poke m off bytes) (Refused errno) k is = cc
opened_only session s (Poke m off bytes) reply k is = cc
opened_only session s (Fill m seed) (Refused errno) k is = cc
opened_only session s (Fill m seed) reply k is = cc
opened_only session s (Subscribe e) (Refused errno) k is = cc
opened_only session s (Subscribe e) Done k is = cc
opened_only session s (Subscribe e) reply k is = cc
opened_only session s (Unsubscribe e) (Refused errno) k is = cc
opened_only session s (Unsubscribe e) Done k is = cc
opened_only session s (Unsubscribe e) reply k is = cc
opened_only session s DqEvent (Refused errno) k is = cc
opened_only session s DqEvent reply k is = cc

some_crossing : (o : Option CrossingOf) → IsSome o → (c : CrossingOf) × (o ≡ Some c)
some_crossing None some = absurd (false≢true some)
some_crossing (Some c) some = (c, refl)

small_id : (w : WorldState) (rows : List (List Inner)) (n h : ℕ) → IsSoundBy w rows → IsHandle w n h → id_of (id_at w n h) < 2 ^ 32
small_id w rows n h sound named = by_id (id_at w n h) refl
  where
    few_small : (a b k : ℕ) → a ≤ b → b < k → (i : ℕ) → i < a → i < k
    few_small a b k le lt i below = omega (arith, le, lt, below)

    by_id : (o : Option ℕ) → id_at w n h ≡ o → id_of o < 2 ^ 32
    by_id None is = lit< tt
    by_id (Some id) is = few_small (length w.host.device.sessions) w.host.device.opens (2 ^ 32) sound.device.sound.few sound.device.sound.small id (sound.ids.below n h id named is)

-- the reply can be collected
pub record Reads (x : Slice) (v : Inner) (r : Returning) (told : IsTold x v r) : Type 0 where
  pub crossing : CrossingOf
  pub crosses : crossing_from x.handle told.call ≡ Some crossing
  pub from : FromDriver x v r told
  pub enough : response_len crossing.command r.reply.bytes ≤ length r.reply.bytes
  pub read : response_of crossing.command r.reply.bytes ≡ response_to (id_in x) (driver_state x) told.call told.reply

pub reads : (w : WorldState) (rows : List (List Inner)) (h : ℕ) (r : Returning) → IsSoundBy w rows → (t : IsHandleTold w rows h r) → (is_stopping t.told.call ≡ true → (slice_at w r.reply.who h).events ≡ []) →
    Reads (slice_at w r.reply.who h) (inner_at w rows r.reply.who h) r t.told
reads w rows h r sound t quiet =
    let n : ℕ = r.reply.who in
    let x : Slice = slice_at w n h in
    let v : Inner = inner_at w rows n h in
    let s : LocalState = driver_state x in
    let slice : IsSoundSlice x v = sound.slices n h t.named in
    let told : IsTold x v r = t.told in
    let c : _ = some_crossing (crossing_from x.handle told.call) told.crosses in
    let from : FromDriver x v r told = from_driver x v r slice told quiet in
    let response : Response = response_to (id_in x) s told.call told.reply in
    let small : id_in x < 2 ^ 32 = small_id w rows n h sound t.named in
    let fits : Answers c.0.command response = answer_fits (id_of x.handle.session) s told.line told.call c.0 response told.reply slice.handle.range c.1
    (from.next, id_in x, (from.is_call, refl)) (λ id is. subst (λ k. k < 2 ^ 32) (sym (opened_only (id_in x) s told.call told.reply id is)) small) told.address in
    let back : ReadsBack c.0.command response (response_bytes response) = response_again c.0.command response fits in
    record {
      crossing = c.0;
      crosses = c.1;
      from = from;
      enough = subst (λ bytes. response_len c.0.command bytes ≤ length bytes) (sym told.bytes) back.0;
      read = ap (response_of c.0.command) told.bytes ∙ back.1;
    }

pub call_can : (w : WorldState) (rows : List (List Inner)) (h : ℕ) (r : Returning) → IsSoundBy w rows → (t : IsHandleTold w rows h r) → Reads (slice_at w r.reply.who h) (inner_at w rows r.reply.who h) r t.told →
    CanAnswer t.told.line (OnHandle h t.told.call) (process_at w.guest r.reply.who) r
call_can w rows h r sound t reading = (
  reading.crossing.command,
  ap command_in reading.crosses,
  record {
    enough = reading.enough;
    may = record {
      reply = t.told.reply;
      next = reading.from.next;
      session = id_in (slice_at w r.reply.who h);
      is_call = reading.from.is_call;
      told = reading.read;
      memories = reading.from.memories;
    };
  },
)

-- ---- what was held back is delivered

-- to a handle at rest, one event after the other
deliver_all : (ds : List Delivery) (ps : List ProcessState) (n h id : ℕ) (t : LocalState) (rest : List Unsent) → n < length ps → h < length (process_in ps n).handles → (handle_at (process_in ps n) h).stage ≡ Resting →
    IsLegal (handle_at (process_in ps n) h).log.model (handle_at (process_in ps n) h).log.entries → LeadAll id (state_of (handle_at (process_in ps n) h).log) (map unsent_by ds ++ rest) t → CanTellAll ps (record { process = n; handle = h }) ds
deliver_all [] ps n h id t rest within there stage legal leads = tt
deliver_all (d ∷ ds) ps n h id t rest within there stage legal (u, first, more) =
    let seat : Seat = record { process = n; handle = h } in
    let p : ProcessState = process_in ps n in
    let z : HandleState = handle_at p h in
    let y : HandleState = delivered z d.msg d.held in
    let qs : List ProcessState = told_at ps seat d in
    let q : process_in qs n ≡ told p h d = get_or-set_same ps n (told p h d) no_process within in
    let handles : (process_in qs n).handles ≡ set p.handles h y = ap (λ (x : ProcessState). x.handles) q ∙ woken_handles (with_handle p h y) in
    let now : handle_at (process_in qs n) h ≡ y = ap (λ hs. get_or hs h no_handle) handles ∙ get_or-set_same p.handles h y no_handle there in
    let still : y ≡ record z { log = told_log z.log d.msg d.held } = ap (λ st. awoken st (record z { log = told_log z.log d.msg d.held })) stage in
    let is : handle_at (process_in qs n) h ≡ record z { log = told_log z.log d.msg d.held } = now ∙ still in
    let replays = leads_replay id (state_of z.log) u (unsent_by d) first in
    let state : state_of (told_log z.log d.msg d.held) ≡ u = told_state_is z.log d.msg d.held u legal replays in (
      leads_deliver id (state_of z.log) u (unsent_by d) first,
      deliver_all ds qs n h id t rest (omega (arith, within, length-set ps n (told p h d))) (let long = ap length handles in omega (arith, there, long, length-set p.handles h y))
          (ap (λ (x : HandleState). x.stage) is ∙ stage)
          (subst (λ (x : HandleState). IsLegal x.log.model x.log.entries) (sym is) (told_legal z.log d.msg d.held u legal replays))
          (subst (λ s. LeadAll id s (map unsent_by ds ++ rest) t) (sym (ap (λ (x : HandleState). state_of x.log) is ∙ state)) more),
    )

-- what is under way leads on from the state after a call that stops nothing
pub record LeadsOn (x : Slice) (s : LocalState) : Type 0 where
  pub id : ℕ
  pub rest : List Unsent
  pub ahead : LocalState
  pub leads : LeadAll id s (map unsent_by x.held ++ rest) ahead

leads_on : (x : Slice) (s t ahead : LocalState) (e : Entry) (id : ℕ) (more : List Unsent) → stops_queues e ≡ false → after s e ≡ Some t → LeadAhead id s (Some e) (earlier_of x ++ more) ahead → LeadsOn x t
leads_on x s t ahead e id more free goes leads =
    let by : LeadWith false id s e (earlier_of x ++ more) ahead = subst (λ b. LeadWith b id s e (earlier_of x ++ more) ahead) free leads in
    let same : by.0 ≡ t = same_Some by.0 t (sym by.1 ∙ goes) in
    let split : earlier_of x ++ more ≡ map unsent_by x.held ++ (map unsent_by x.events ++ more) =
    ap (λ es. es ++ more) (map-append unsent_by x.held x.events) ∙ append_assoc (map unsent_by x.held) (map unsent_by x.events) more in
    record {
      id = id;
      rest = map unsent_by x.events ++ more;
      ahead = ahead;
      leads = subst (λ es. LeadAll id t es ahead) split (subst (λ z. LeadAll id z (earlier_of x ++ more) ahead) same by.2);
    }

seated_leads : (o : Option SessionState) (x : Slice) (v : Inner) (r : Returning) (told : IsTold x v r) → is_stopping told.call ≡ false → (from : FromDriver x v r told) → IsSeated o x v → LeadsOn x from.next
seated_leads None x v r told free from shut =
    let e : Entry = Called told.line told.call told.reply in
    let leads : LeadAhead (id_in x) (driver_state x) (Some e) (earlier_of x ++ []) v.ahead =
    subst (λ es. LeadAhead (id_in x) (driver_state x) (Some e) es v.ahead) (sym (append-nil (earlier_of x))) (subst (λ o. LeadAhead (id_in x) (driver_state x) o (earlier_of x) v.ahead) told.executed shut.leads) in
    leads_on x (driver_state x) from.next v.ahead e (id_in x) [] free from.is_call leads
seated_leads (Some s) x v r told free from slice =
    let e : Entry = Called told.line told.call told.reply in
    leads_on x (driver_state x) from.next v.ahead e s.id s.unsent free from.is_call (subst (λ o. LeadAhead s.id (driver_state x) o (earlier_of x ++ s.unsent) v.ahead) told.executed slice.leads)

-- the log once the reply is in it
record Logged (l : LogState) (e : Entry) (t : LocalState) (new : LogState) : Type 0 where
  legal : IsLegal new.model new.entries
  state : state_of new ≡ t

logged : (l : LogState) (e : Entry) (t : LocalState) (new : LogState) → IsLegal l.model l.entries → after (state_of l) e ≡ Some t → new.model ≡ l.model → new.entries ≡ l.entries ++ e ∷ [] → Logged l e t new
logged l e t new legal goes model entries =
    let one : replay_from (state_of l) (e ∷ []) ≡ Some t = ap (λ o. option_and_then (λ u. Some u) o) goes in
    let whole : replay l.model (l.entries ++ e ∷ []) ≡ Some t =
    replay_from_append (opening l.model) l.entries (e ∷ []) ∙ (ap (λ o. option_and_then (λ u. replay_from u (e ∷ [])) o) (log_state l legal) ∙ one) in
    let all : replay new.model new.entries ≡ Some t = (λ j. replay (model j) (entries j)) ∙ whole in
    record { legal = ap is_some all; state = (λ j. state_after (model j) (entries j)) ∙ state_behind l.model l.entries (e ∷ []) t legal one }

call_settles : (w : WorldState) (rows : List (List Inner)) (h : ℕ) (r : Returning) → IsSoundBy w rows → r.reply.who < length w.guest.processes → (t : IsHandleTold w rows h r) → Reads (slice_at w r.reply.who h) (inner_at w rows r.reply.who h) r t.told →
    (p' : ProcessState) → CallAnswered t.told.line h t.told.call (process_at w.guest r.reply.who) r p' → CanSettle (OnHandle h t.told.call) (with_process w.guest r.reply.who p') r.reply.who
call_settles w rows h r sound within t reading p' a =
    subst (λ (z : ProcessState). CanSettle (OnHandle h told.call) (with_process w.guest n z) n) (sym (a.after told.reply answer))
    (subst (λ (z : HandleState). CanCatchUp z.session g1 seat) (sym handle) (by_session y.session refl))
  where
    n : ℕ
    n = r.reply.who

    p : ProcessState
    p = process_at w.guest r.reply.who

    hd : HandleState
    hd = handle_at (process_at w.guest r.reply.who) h

    x : Slice
    x = slice_at w r.reply.who h

    v : Inner
    v = inner_at w rows r.reply.who h

    told : IsTold (slice_at w r.reply.who h) (inner_at w rows r.reply.who h) r
    told = t.told

    slice : IsSoundSlice (slice_at w r.reply.who h) (inner_at w rows r.reply.who h)
    slice = sound.slices r.reply.who h t.named

    seat : Seat
    seat = record { process = r.reply.who; handle = h }

    same : reading.crossing.command ≡ a.command
    same = same_Some reading.crossing.command a.command (sym (ap command_in reading.crosses) ∙ a.crossed)

    answer : IsAnswer (driver_state (slice_at w r.reply.who h)) t.told.line t.told.call (response_of a.command r.reply.bytes) t.told.reply
    answer = (reading.from.next, id_in (slice_at w r.reply.who h), (reading.from.is_call, ap (λ c. response_of c r.reply.bytes) (sym same) ∙ reading.read))

    y : HandleState
    y = with_reply (handle_at (process_at w.guest r.reply.who) h) t.told.line t.told.call t.told.reply (response_of a.command r.reply.bytes) r.held

    g1 : GuestState
    g1 = with_process w.guest r.reply.who (rested (with_handle (process_at w.guest r.reply.who) h y))

    process : process_at g1 r.reply.who ≡ rested (with_handle (process_at w.guest r.reply.who) h y)
    process = get_or-set_same w.guest.processes r.reply.who (rested (with_handle (process_at w.guest r.reply.who) h y)) no_process within

    handle : handle_at (process_at g1 r.reply.who) h ≡ y
    handle = ap (λ (z : ProcessState). handle_at z h) process ∙ get_or-set_same (process_at w.guest r.reply.who).handles h y no_handle t.there

    own : id_at w r.reply.who h ≡ y.session
    own = ap (id_ahead hd) t.out ∙ (ap (λ st. id_told st hd.session r) t.told.underway ∙ session_told hd t.told.call a.command t.told.line r.reply.bytes t.told.reply a.crossed answer)

    by_stopping : (b : Bool) → is_stopping t.told.call ≡ b → CanTellAll g1.processes seat (slice_at w r.reply.who h).held
    by_stopping true stops =
        let free : holds_back x.handle.stage ≡ false = ap holds_back t.told.underway ∙ ap not stops in
        let none : x.held ≡ [] = subst (λ b. HoldsFew b x.held) free slice.held in
        subst (CanTellAll g1.processes seat) (sym none) tt
    by_stopping false free =
        let on : LeadsOn x reading.from.next = seated_leads x.session x v r t.told free reading.from slice.seated in
        let e : Entry = Called t.told.line t.told.call t.told.reply in
        let log : Logged hd.log e reading.from.next y.log = logged hd.log e reading.from.next y.log slice.log.legal reading.from.is_call refl refl in
        let long : length (process_at g1 n).handles ≡ length p.handles = ap (λ (z : ProcessState). length z.handles) process ∙ length-set p.handles h y in
        deliver_all x.held g1.processes n h on.id on.ahead on.rest (omega (arith, within, length-set w.guest.processes n (rested (with_handle p h y)))) (let there = t.there in omega (arith, there, long))
        (ap (λ (z : HandleState). z.stage) handle)
        (subst (λ (z : HandleState). IsLegal z.log.model z.log.entries) (sym handle) log.legal)
        (subst (λ s. LeadAll on.id s (map unsent_by x.held ++ on.rest) on.ahead) (sym (ap (λ (z : HandleState). state_of z.log) handle ∙ log.state)) on.leads)

    by_session : (o : Option ℕ) → y.session ≡ o → CanCatchUp y.session g1 seat
    by_session None is = subst (λ o. CanCatchUp o g1 seat) (sym is) tt
    by_session (Some id) is =
        let held : events_of id w.guest.pump.held ≡ x.held = sym (ap (λ o. events_for o w.guest.pump.held) (own ∙ is)) in
        subst (λ o. CanCatchUp o g1 seat) (sym is) (subst (CanTellAll g1.processes seat) (sym held) (by_stopping (is_stopping t.told.call) refl))

-- ---- the reply, where no event comes first

answers_now : (w : WorldState) (rows : List (List Inner)) (r : Returning) (what : LineKind) → IsSoundBy w rows → (first : IsFirstTold w r) → first.statement.what ≡ what → (ends_with_events what ≡ true → w.events ≡ []) →
    CanAnswer first.statement.line what (process_at w.guest r.reply.who) r
    × ((p : ProcessState) → AnsweredFor first.statement.line what (process_at w.guest r.reply.who) r p → CanSettle what (with_process w.guest r.reply.who p) r.reply.who)
answers_now w rows r (Raw chain) sound first what quiet = (raw_can w rows r chain sound first what, λ p answered. tt)
answers_now w rows r (OnHandle h call) sound first what quiet =
    let n : ℕ = r.reply.who in
    let t : IsHandleTold w rows h r = handle_told w rows r h call sound first what in
    let own : _ = own_call w rows r h call sound first what t in
    let none : is_stopping t.told.call ≡ true → (slice_at w n h).events ≡ [] =
    λ stops. ap (events_for (id_at w n h)) (quiet (ap is_stopping (sym own.1) ∙ stops)) ∙ none_for (id_at w n h) in
    let reading : Reads (slice_at w n h) (inner_at w rows n h) r t.told = reads w rows h r sound t none in
    let P : ℕ → Call → Type 0 = λ line c. CanAnswer line (OnHandle h c) (process_at w.guest n) r
    × ((p : ProcessState) → AnsweredFor line (OnHandle h c) (process_at w.guest n) r p → CanSettle (OnHandle h c) (with_process w.guest n p) n) in
    let can : P t.told.line t.told.call = (call_can w rows h r sound t reading, λ p answered. call_settles w rows h r sound first.within t reading p answered) in
    subst (λ c. P first.statement.line c) own.1 (subst (λ line. P line t.told.call) own.0 can)

-- ---- behind the events that come first

pub pumps_sound : (k : ℕ) (w u : WorldState) → IsSound w → Leads w (replicate k Pump) u → IsSound u
pumps_sound zero w u sound same = subst IsSound (sym same) sound
pumps_sound (suc k) w u sound (next, steps, rest) = pumps_sound k next u (pump_keeps w next sound steps) rest

pub can_collect : (w : WorldState) (rows : List (List Inner)) (r : Returning) (rs : List Returning) → IsSoundBy w rows → w.replies ≡ r ∷ rs → CanCollect w r
can_collect w rows r rs sound is = by_events (ends_with_events first.statement.what) refl
  where
    first : IsFirstTold w r
    first = told_first w rows r rs sound is

    under_way_is : crossing (process_at w.guest r.reply.who) ≡ Some first.statement
    under_way_is = ap (λ t. some_if (is_crossing t) (current (process_at w.guest r.reply.who))) first.status ∙ first.now

    collects : (g : GuestState) → behind_events w first.statement.what ≡ g →
        CanAnswer first.statement.line first.statement.what (process_at g r.reply.who) r
        × ((p : ProcessState) → AnsweredFor first.statement.line first.statement.what (process_at g r.reply.who) r p → CanSettle first.statement.what (with_process g r.reply.who p) r.reply.who) → CanCollect w r
    collects g same can =
        let P : GuestState → Type 0 = λ g. CanAnswer first.statement.line first.statement.what (process_at g r.reply.who) r
        × ((p : ProcessState) → AnsweredFor first.statement.line first.statement.what (process_at g r.reply.who) r p → CanSettle first.statement.what (with_process g r.reply.who p) r.reply.who) in
        let here : P (behind_events w first.statement.what) = subst P (sym same) can in
        record { statement = first.statement; under_way = under_way_is; answers = here.0; settles = here.1 }

    by_events : (b : Bool) → ends_with_events first.statement.what ≡ b → CanCollect w r
    by_events false none = collects w.guest (ap (λ b. all_taken w.guest (all_if b w.events)) none) (answers_now w rows r first.statement.what sound first refl (λ ends. absurd (false≢true (sym none ∙ ends))))
    by_events true ends =
        let u : WorldState = pumped w w.events in
        let after : IsSound u = pumps_sound (length w.events) w u (rows, sound) (pumps_all w w.events refl) in
        let stays : Stays (process_at w.guest r.reply.who) (process_at u.guest r.reply.who) = taken_stays w.guest w.events r.reply.who (ap is_blocked first.status) in
        let crosses : crossing (process_at u.guest r.reply.who) ≡ Some first.statement = crossing_stays (process_at w.guest r.reply.who) (process_at u.guest r.reply.who) stays ∙ under_way_is in
        let again : IsFirstTold u r = told_first u after.0 r rs after.1 is in
        let then_first : IsFirstTold u r = record {
          within = again.within;
          status = again.status;
          statement = first.statement;
          now = (some_where (is_crossing (process_at u.guest r.reply.who).status) (current (process_at u.guest r.reply.who)) first.statement crosses).1;
          out = again.out;
        } in
        collects u.guest (ap (λ b. all_taken w.guest (all_if b w.events)) ends) (answers_now u after.0 r first.statement.what after.1 then_first refl (λ ends. refl))
