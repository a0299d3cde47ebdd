-- After each step each event is of a handle's session, and each call waits in its own.
use Rattle.std.proofs.Common.{All, Bool, IsSome, List, None, Ok, Option, Some, [], ap, arith, cond, eqb, false, get_or, if◌then◌else◌, inl, inr, is_some, length, nat_lt, not, refl, set, subst, sym, true, true≢false, ℕ, ◌++◌, ◌+◌, ◌<◌, ◌∙◌, ◌∷◌, ◌≡◌, ◌≤◌, ◌⊎◌}
use Rattle.std.proofs.lemmas.Bool.{cases_Bool, cases_eq, cases_lt, eq-eqb, eqb-true, false≢true, ne_eqb}
use Rattle.std.proofs.lemmas.Bool.Decides.{nat_tests}
use Rattle.std.proofs.lemmas.List.{append-nil, get_or-set_other, get_or-set_same, nil_from_length, set_past}
use Rattle.std.proofs.lemmas.List.Elements.{All-cons, All-filter, All-head, All-nil, All-push, All-tail, All-weaker, filter-append}
use Rattle.std.proofs.lemmas.Option.{none-some, same_Some}
use Rattle.std.specs.List.{filter, find}
use Rattle.std.specs.Option.{IfSome, option_map}
use Rattle.v4l_const.specs.declared.model.Model.{Model}
use Rattle.v4l_const.specs.declared.model.Model.TheVariants.{Capture, Convert}
use Rattle.v4l_rules.specs.Refusals.{first_refusal}
use Rattle.vm_commute.proofs.EventsLemmas.{by_first}
use Rattle.vm_commute.specs.Commute.{AreSteps, is_step}
use Rattle.vm_device.specs.Device.{DeviceState}
use Rattle.vm_frame.specs.declared.mem.Held.{Held}
use Rattle.vm_guest.specs.Events.{caught_up, settled}
use Rattle.vm_guest.specs.Guest.{GuestState, no_process, process_at, seat_of, with_process}
use Rattle.vm_guest.specs.Lines.{returned_to}
use Rattle.vm_guest.specs.Message.{OfRaw, posting_of}
use Rattle.vm_guest.specs.Part.{postings}
use Rattle.vm_guest.specs.Process.{ProcessState, crossing_call, current_call, handle_at, is_crossing, some_if}
use Rattle.vm_guest.specs.Raw.{raw_ask}
use Rattle.vm_guest.specs.declared.asked.Asked.{Asked as AskedCall}
use Rattle.vm_guest.specs.declared.seat.Seat.{Seat}
use Rattle.vm_handle.specs.Handle.{HandleState}
use Rattle.vm_host.specs.Chains.{named_session}
use Rattle.vm_host.specs.Part.{Call as WaitingCall}
use Rattle.vm_host.specs.Waiting.{put_in, taken_out}
use Rattle.vm_local.proofs.KeptLemmas.{some_same}
use Rattle.vm_local.proofs.StepLemmas.{answered_by}
use Rattle.vm_local.specs.Calls.{Row, opened_anew}
use Rattle.vm_local.specs.Log.{after, called, replay_from, row_for}
use Rattle.vm_local.specs.State.{LocalState, opening}
use Rattle.vm_local.specs.declared.call.Call.TheVariants.{OpenHandle}
use Rattle.vm_local.specs.declared.entry.Entry.{Entry}
use Rattle.vm_local.specs.declared.entry.Entry.TheVariants.{Called}
use Rattle.vm_local.specs.declared.reply.Reply.{Reply}
use Rattle.vm_log.specs.LegalLog.{state_of}
use Rattle.vm_mem.specs.Lists.{first_of}
use Rattle.vm_script.specs.declared.line.LineKind.{LineKind}
use Rattle.vm_script.specs.declared.line.LineKind.TheVariants.{OnHandle, Raw}
use Rattle.vm_session.specs.State.{SessionState}
use Rattle.vm_session.specs.Streaming.{oldest}
use Rattle.vm_session.specs.declared.unsent.Unsent.{Unsent}
use Rattle.vm_stands.proofs.FlightLemmas.{made_steps}
use Rattle.vm_stands.specs.Flight.{LeadAll}
use Rattle.vm_stands.specs.Slice.{IsSlice, LeadAhead}
use Rattle.vm_wire.specs.Message.{Posting, Returning}
use Rattle.vm_wire.specs.Message.Ask.{Judged}
use Rattle.vm_wire.specs.Wire.{response_of}
use Rattle.vm_wire.specs.declared.command.Command.{Command}
use Rattle.vm_wire.specs.declared.command.Command.TheVariants.{OpenSession}
use Rattle.vm_wire.specs.declared.delivery.Delivery.{Delivery}
use Rattle.vm_wire.specs.declared.event.EventMsg.{EventMsg}
use Rattle.vm_realm.proofs.AfterLemmas.{HasCollected, IsAnnounced, IsAnsweredFirst, IsCollected, IsExecuted, IsGivenBack, IsIssued, IsKeptFirst, IsLeased, IsResumed, has_collected, is_announced, is_collected, is_executed, is_finished, is_given_back, is_issued, is_job_begun, is_leased_to, is_resumed, line_begun, reply_collected}
use Rattle.vm_realm.proofs.CanCollectLemmas.{IsFirstTold, told_first}
use Rattle.vm_realm.proofs.CollectLemmas.{others_told}
use Rattle.vm_realm.proofs.CommandLemmas.{IsFirstAsked, IsHandleAsked, IsOneKept, asked_first, asked_out, handle_asked, kept_session, one_kept, open_or_not, others_more, out_off, put_own, raw_posted, raw_refused}
use Rattle.vm_realm.proofs.FrameLemmas.{has_handle}
use Rattle.vm_realm.proofs.FramesLemmas.{SeatedAt, seated_at}
use Rattle.vm_realm.proofs.KeepShutLemmas.{IsBare, no_step, none_first, shut_bare}
use Rattle.vm_realm.proofs.LendLemmas.{with_one}
use Rattle.vm_realm.proofs.MoveLemmas.{at_of, on_one}
use Rattle.vm_realm.proofs.PumpLiftLemmas.{pump_keeps}
use Rattle.vm_realm.proofs.QuietNextLemmas.{posted_other}
use Rattle.vm_realm.proofs.RawsNextLemmas.{execute_others}
use Rattle.vm_realm.proofs.RoomLemmas.{is_alone}
use Rattle.vm_realm.proofs.SessionLemmas.{NamesOwn, few_sessions, names_own, open_has, refused_goes}
use Rattle.vm_realm.proofs.WaitingLemmas.{command_same}
use Rattle.vm_realm.specs.Enabled.{waits}
use Rattle.vm_realm.specs.Inner.{Inner, driver_state}
use Rattle.vm_realm.specs.Slice.{Out, Slice, calls_of, earlier_of, id_ahead, id_told, is_on, out_at, out_from, out_of, replies_of, requests_of, slice_at}
use Rattle.vm_realm.specs.Slice.Out.{Asked, Astray, Kept, Nowhere, Told}
use Rattle.vm_realm.specs.SliceSteps.{IsFirst, TakesNone, told_by}
use Rattle.vm_realm.specs.Sound.{AreOfHandles, IsHandle, IsOut, IsSaid, IsSeated, IsSound, IsSoundBy, IsSoundSlice, NamesNone, RiseFrom, WaitInOwn, id_at, inner_at}
use Rattle.vm_realm.specs.Steps.{Steps, with_device}
use Rattle.vm_realm.specs.World.{WorldState}
use Rattle.vm_realm.specs.declared.step.Step.{Step}
use Rattle.vm_realm.specs.declared.step.Step.TheVariants.{Announce, Begin, Collect, Execute, Finish, GiveBack, Issue, Lease, Pump, Resume}

-- ---- a handle that was opened alone has no messages

bare_steps : (s t : LocalState) (es : List Entry) → IsBare s → AreSteps es → replay_from s es ≡ Some t → t ≡ s
bare_steps s t [] bare steps leads = sym (some_same s t s leads)
bare_steps s t (e ∷ es) bare steps leads =
    let by : _ = by_first s t e es leads in
    absurd (no_step s by.0 e (All-head (λ d. is_step d ≡ true) e es steps) bare by.1)

bare_leads : (id : ℕ) (r s : LocalState) (es : List Unsent) → IsBare r → LeadAll id r es s → es ≡ []
bare_leads id r s [] bare leads = refl
bare_leads id r s (e ∷ es) bare (u, first, rest) =
    let same : first.made ≡ r = bare_steps r first.made _ bare (made_steps r.model e.msg) first.making in
    absurd (none_first id first.made first.made.owed e (ap (λ (x : LocalState). x.owed) same ∙ bare.0) first.gives)

opened_bare : (m : Model) (s : LocalState) (nonblock : Bool) → s.model ≡ m → IsBare (opened_anew s nonblock)
opened_bare Capture s nonblock is = subst (λ k. IsBare (record (opening k) { opened = true; blocking = not nonblock })) (sym is) (refl, refl)
opened_bare Convert s nonblock is = subst (λ k. IsBare (record (opening k) { opened = true; blocking = not nonblock })) (sym is) (refl, refl)

open_bare : (s t : LocalState) (line : ℕ) (nonblock : Bool) (reply : Reply) → IsBare s → after s (Called line (OpenHandle nonblock) reply) ≡ Some t → IsBare t
unfolding called
open_bare s t line nonblock reply bare leads =
    let r : Row = row_for s line (OpenHandle nonblock) reply in
    elim (answered_by (first_refusal r.refusals) r s reply t leads) as (λ _. IsBare t) [
      | inl same ↦ subst IsBare (sym same) bare
      | inr w ↦ subst IsBare (sym w.3) (opened_bare s.model s nonblock refl)
    ]

behind_none : {A : Type 0} (xs ys : List A) → xs ++ ys ≡ [] → ys ≡ []
behind_none [] ys none = none
behind_none (x ∷ xs) ys none = cc

none_oldest : (s : SessionState) (e : EventMsg × Option Held) → Some e ≡ oldest s → s.unsent ≡ [] → ⊥
none_oldest s e is none = none-some e (sym (is ∙ ap (λ es. option_map (λ (u : Unsent). (u.msg, u.held)) (first_of es)) none))

-- so a session that has something to tell is the handle's already
told_own : (w : WorldState) (rows : List (List Inner)) (n h k : ℕ) (s : SessionState) (o : Out) → IsSoundBy w rows → IsHandle w n h → (slice_at w n h).session ≡ Some s → IsOut o (slice_at w n h) (inner_at w rows n h) →
    id_ahead (handle_at (process_at w.guest n) h) o ≡ Some k → (s.unsent ≡ [] → ⊥) → (handle_at (process_at w.guest n) h).session ≡ Some k
told_own w rows n h k s Nowhere sound named there out id some = id
told_own w rows n h k s (Asked m) sound named there out id some = id
told_own w rows n h k s (Kept m) sound named there out id some = id
told_own w rows n h k s Astray sound named there out id some = absurd out
told_own w rows n h k s (Told r) sound named there out id some = elim (open_or_not out.call) [
  | inr other ↦ sym (kept_session (handle_at (process_at w.guest n) h).session out.call (response_of OpenSession r.reply.bytes) other)
      ∙ (sym (ap (λ t. id_told t (handle_at (process_at w.guest n) h).session r) out.underway) ∙ id)
  | inl is ↦ absurd (some (opens is.0 is.1))
]
  where
    opens : (nonblock : Bool) → out.call ≡ OpenHandle nonblock → s.unsent ≡ []
    opens nonblock is =
        let x : Slice = slice_at w n h in
        let v : Inner = inner_at w rows n h in
        let slice : IsSoundSlice x v = sound.slices n h named in
        let r0 : LocalState = driver_state x in
        let none : x.handle.session ≡ None = subst (IsFirst x.handle) is out.first in
        let seated : IsSlice v.frames s x.job (earlier_of x) v.executed r0 v.ahead = subst (λ z. IsSeated z x v) there slice.seated in
        let shut : r0.opened ≡ false = elim (cases_Bool r0.opened) [
          | inl live ↦ absurd (false≢true (sym (ap is_some none) ∙ open_has x.handle slice.handle live))
          | inr closed ↦ closed
        ] in
        let executed : v.executed ≡ Some (Called out.line (OpenHandle nonblock) out.reply) = out.executed ∙ ap (λ c. Some (Called out.line c out.reply)) is in
        let ahead : LeadAhead s.id r0 (Some (Called out.line (OpenHandle nonblock) out.reply)) (earlier_of x ++ s.unsent) v.ahead =
        subst (λ e. LeadAhead s.id r0 e (earlier_of x ++ s.unsent) v.ahead) executed seated.leads in
        behind_none (earlier_of x) s.unsent (bare_leads s.id ahead.0 v.ahead (earlier_of x ++ s.unsent) (open_bare r0 ahead.0 out.line nonblock out.reply (shut_bare r0 seated.reached shut) ahead.1) ahead.2)

announced_seat : (w w' : WorldState) (rows : List (List Inner)) → IsSoundBy w rows → (a : IsAnnounced w w') → IsSome (seat_of w.guest a.delivery.session)
announced_seat w w' rows sound a =
    let k : ℕ = a.delivery.session in
    let at : SeatedAt w k a.state = seated_at w rows k a.state sound a.is in
    let n : ℕ = at.process in
    let h : ℕ = at.handle in
    let session : (handle_at (process_at w.guest n) h).session ≡ Some k =
    told_own w rows n h k a.state (out_at w n h) sound at.is_handle at.session (sound.slices n h at.is_handle).out at.id_is (none_oldest a.state (a.delivery.msg, a.delivery.held) a.told) in
    ap is_some (sound.ids.seats n h k at.is_handle session)

-- ---- seats

seats_grow : (seats : List (Option Seat)) (k id : ℕ) (seat : Seat) → is_some (get_or seats id None) ≡ true → is_some (get_or (set seats k (Some seat)) id None) ≡ true
seats_grow seats k id seat some = elim (cases_eq id k) [
  | inr other ↦ ap is_some (get_or-set_other seats k id (Some seat) None other) ∙ some
  | inl same ↦ elim (cases_lt k (length seats)) [
    | inl within ↦ ap (λ i. is_some (get_or (set seats k (Some seat)) i None)) same ∙ ap is_some (get_or-set_same seats k (Some seat) None within)
    | inr past ↦ ap (λ ss. is_some (get_or ss id None)) (set_past seats k (Some seat) past) ∙ some
  ]
]

-- what is settled keeps the seats, and holds back no more
record Settles (g g' : GuestState) : Type 0 where
  seats : (id : ℕ) → IsSome (seat_of g id) → IsSome (seat_of g' id)
  held : (p : Delivery → Bool) → All (λ d. p d ≡ true) g.pump.held → All (λ d. p d ≡ true) g'.pump.held

caught_up_settles : (o : Option ℕ) (g : GuestState) (seat : Seat) → Settles g (caught_up o g seat)
caught_up_settles None g seat = record { seats = λ id some. some; held = λ p all. all }
caught_up_settles (Some k) g seat = record {
  seats = λ id some. seats_grow g.seats k id seat some;
  held = λ p all. All-filter (λ (d : Delivery). not (eqb d.session k)) (λ (d : Delivery). p d ≡ true) g.pump.held all;
}

settles : (what : LineKind) (g : GuestState) (n : ℕ) → Settles g (settled what g n)
settles (OnHandle h call) g n = caught_up_settles (handle_at (process_at g n) h).session g (record { process = n; handle = h })
settles (Raw chain) g n = record { seats = λ id some. some; held = λ p all. all }

-- ---- calls that wait, by rising session

abbrev session_in_call : WaitingCall → ℕ
session_in_call c = c.session

differs : (m n : ℕ) → eqb m n ≡ false → m ≡ n → ⊥
differs m n is same = false≢true (sym is ∙ eq-eqb m n same)

rise_put : (from : ℕ) (x : WaitingCall) (cs : List WaitingCall) → from ≤ x.session → is_some (find (λ (y : WaitingCall). eqb y.session x.session) cs) ≡ false → RiseFrom from cs → RiseFrom from (put_in session_in_call x cs)
rise_put from x [] least none rise = (least, tt)
rise_put from x (c ∷ cs) least none rise = by_test (nat_lt c.session x.session) refl (λ above. rise_put (c.session + 1) x cs above (later (eqb c.session x.session) none) rise.1)
  where
    head : (b : Bool) (o : Option WaitingCall) → is_some (cond b (Some c) o) ≡ false → b ≡ false
    head true o none = absurd (true≢false none)
    head false o none = refl

    later : (b : Bool) → is_some (cond b (Some c) (find (λ (y : WaitingCall). eqb y.session x.session) cs)) ≡ false → is_some (find (λ (y : WaitingCall). eqb y.session x.session) cs) ≡ false
    later true none = absurd (true≢false none)
    later false none = none

    by_test : (b : Bool) → nat_lt c.session x.session ≡ b → (c.session + 1 ≤ x.session → RiseFrom (c.session + 1) (put_in session_in_call x cs)) → RiseFrom from (if b then c ∷ put_in session_in_call x cs else x ∷ (c ∷ cs))
    by_test true is rest = (rise.0, rest (grind (arith, nat_tests, is)))
    by_test false is rest =
        let other : c.session ≡ x.session → ⊥ = differs c.session x.session (head (eqb c.session x.session) (find (λ (y : WaitingCall). eqb y.session x.session) cs) none) in
        (least, (above c.session x.session is other, rise.1))
      where
        above : (a b : ℕ) → nat_lt a b ≡ false → (a ≡ b → ⊥) → b + 1 ≤ a
        above a b is other = elim (cases_eq a b) [ inl same ↦ absurd (other same) | inr apart ↦ grind (arith, nat_tests, is, apart) ]

rise_lower : (from lower : ℕ) (cs : List WaitingCall) → lower ≤ from → RiseFrom from cs → RiseFrom lower cs
rise_lower from lower [] low rise = tt
rise_lower from lower (c ∷ cs) low rise = ((let least = rise.0 in omega (arith, low, least)), rise.1)

rise_out : (from k : ℕ) (cs : List WaitingCall) → RiseFrom from cs → RiseFrom from (taken_out session_in_call k cs)
rise_out from k [] rise = tt
rise_out from k (c ∷ cs) rise = by_test (eqb c.session k) (rise_out (c.session + 1) k cs rise.1)
  where
    by_test : (b : Bool) → RiseFrom (c.session + 1) (taken_out session_in_call k cs) → RiseFrom from (if b then cs else c ∷ taken_out session_in_call k cs)
    by_test true rest = rise_lower (c.session + 1) from cs (let least = rise.0 in omega (arith, least)) rise.1
    by_test false rest = (rise.0, rest)

abbrev IsNotOf : ℕ → WaitingCall → Type 0
IsNotOf k c = c.session ≡ k → ⊥

rise_apart : (from k : ℕ) (cs : List WaitingCall) → k < from → RiseFrom from cs → All (IsNotOf k) cs
rise_apart from k [] above rise = All-nil (IsNotOf k)
rise_apart from k (c ∷ cs) above rise =
    let least = rise.0 in
    All-cons (IsNotOf k) c cs (λ same. omega (arith, least, above, same)) (rise_apart (c.session + 1) k cs (omega (arith, least, above)) rise.1)

-- the call that is taken out was the only one of its session
out_apart : (from k : ℕ) (cs : List WaitingCall) → RiseFrom from cs → All (IsNotOf k) (taken_out session_in_call k cs)
out_apart from k [] rise = All-nil (IsNotOf k)
out_apart from k (c ∷ cs) rise = by_test (eqb c.session k) refl (out_apart (c.session + 1) k cs rise.1)
  where
    by_test : (b : Bool) → eqb c.session k ≡ b → All (IsNotOf k) (taken_out session_in_call k cs) → All (IsNotOf k) (if b then cs else c ∷ taken_out session_in_call k cs)
    by_test true is rest = (let same : c.session ≡ k = eqb-true c.session k is in rise_apart (c.session + 1) k cs (omega (arith, same)) rise.1)
    by_test false is rest = All-cons (IsNotOf k) c (taken_out session_in_call k cs) (differs c.session k is) rest

all_out : (P : WaitingCall → Type 0) (k : ℕ) (cs : List WaitingCall) → All P cs → All P (taken_out session_in_call k cs)
all_out P k [] all = all
all_out P k (c ∷ cs) all = by_test (eqb c.session k) (all_out P k cs (All-tail P c cs all))
  where
    by_test : (b : Bool) → All P (taken_out session_in_call k cs) → All P (if b then cs else c ∷ taken_out session_in_call k cs)
    by_test true rest = All-tail P c cs all
    by_test false rest = All-cons P c (taken_out session_in_call k cs) (All-head P c cs all) rest

all_put : (P : WaitingCall → Type 0) (x : WaitingCall) (cs : List WaitingCall) → P x → All P cs → All P (put_in session_in_call x cs)
all_put P x [] here all = All-cons P x [] here all
all_put P x (c ∷ cs) here all = by_test (nat_lt c.session x.session) (all_put P x cs here (All-tail P c cs all))
  where
    by_test : (b : Bool) → All P (put_in session_in_call x cs) → All P (if b then c ∷ put_in session_in_call x cs else x ∷ (c ∷ cs))
    by_test true rest = All-cons P c (put_in session_in_call x cs) (All-head P c cs all) rest
    by_test false rest = All-cons P x (c ∷ cs) here all

-- ---- a call that waits is a handle's

abbrev WaitsIn : WorldState → WaitingCall → Type 0
WaitsIn w c = (n : ℕ) × (h : ℕ) × IsHandle w n h × (out_at w n h ≡ Kept c.posting) × (id_at w n h ≡ Some c.session)

waits_on : (w w' : WorldState) (c : WaitingCall) (at : WaitsIn w c) → process_at w'.guest at.0 ≡ process_at w.guest at.0 → out_of w' at.0 ≡ out_of w at.0 → WaitsIn w' c
waits_on w w' c (n, h, named, out, id) process same =
    let out_now : out_at w' n h ≡ out_at w n h = λ j. if is_on (crossing_call (process j)) h then same j else Nowhere in
    let id_now : id_at w' n h ≡ Some c.session = (λ j. id_ahead (handle_at (process j) h) (out_now j)) ∙ id in
    (n, h, has_handle w' n h c.session id_now, out_now ∙ out, id_now)

-- its process is crossing, and has it alone
waits_crosses : (w : WorldState) (c : WaitingCall) (at : WaitsIn w c) → (is_on (crossing_call (process_at w.guest at.0)) at.1 ≡ true) × (out_of w at.0 ≡ Kept c.posting)
waits_crosses w c (n, h, named, out, id) = at_of (is_on (crossing_call (process_at w.guest n)) h) (out_of w n) c.posting out

on_crosses : (b : Bool) (o : Option AskedCall) (h : ℕ) → is_on (some_if b o) h ≡ true → b ≡ true
on_crosses true o h on = refl
on_crosses false o h on = absurd (false≢true on)

not_free : (w : WorldState) (c : WaitingCall) (at : WaitsIn w c) (n : ℕ) → at.0 ≡ n → is_crossing (process_at w.guest n).status ≡ false → ⊥
not_free w c at n same free =
    let on : is_crossing (process_at w.guest at.0).status ≡ true = on_crosses (is_crossing (process_at w.guest at.0).status) (current_call (process_at w.guest at.0)) at.1 (waits_crosses w c at).0 in
    false≢true (sym free ∙ (ap (λ i. is_crossing (process_at w.guest i).status) (sym same) ∙ on))

all_waits : (w w' : WorldState) → WaitInOwn w → w'.host.calls ≡ w.host.calls → ((c : WaitingCall) (at : WaitsIn w c) → (process_at w'.guest at.0 ≡ process_at w.guest at.0) × (out_of w' at.0 ≡ out_of w at.0)) → WaitInOwn w'
all_waits w w' all calls stay =
    subst (All (WaitsIn w')) (sym calls) (All-weaker (WaitsIn w) (WaitsIn w') (λ c at. waits_on w w' c at (stay c at).0 (stay c at).1) w.host.calls all)

-- ---- the driver's steps

guest_said : (w w' : WorldState) → IsSaid w → w'.host.calls ≡ w.host.calls → w'.events ≡ w.events → ((p : Delivery → Bool) → All (λ d. p d ≡ true) w.guest.pump.held → All (λ d. p d ≡ true) w'.guest.pump.held) → ((id : ℕ) → IsSome (seat_of w.guest id) → IsSome (seat_of w'.guest id)) →
    ((c : WaitingCall) (at : WaitsIn w c) → (process_at w'.guest at.0 ≡ process_at w.guest at.0) × (out_of w' at.0 ≡ out_of w at.0)) → IsSaid w'
guest_said w w' said calls events held seats stay = record {
  sent = subst (AreOfHandles w') (sym events) (later w.events said.sent);
  held = held (λ (d : Delivery). is_some (seat_of w'.guest d.session)) (later w.guest.pump.held said.held);
  rising = subst (RiseFrom 0) (sym calls) said.rising;
  waiting = all_waits w w' said.waiting calls stay;
}
  where
    later : (ds : List Delivery) → AreOfHandles w ds → AreOfHandles w' ds
    later ds all = All-weaker (λ (d : Delivery). IsSome (seat_of w.guest d.session)) (λ (d : Delivery). IsSome (seat_of w'.guest d.session)) (λ d some. seats d.session some) ds all

-- one process is exchanged, of which nothing crossed
free_said : (w : WorldState) (n : ℕ) (q : ProcessState) (ms : List Posting) → IsSaid w → is_crossing (process_at w.guest n).status ≡ false → ((m : ℕ) → ¬ (m ≡ n) → filter (λ (y : Posting). eqb y.request.who m) (w.requests ++ ms) ≡ requests_of w m) →
    IsSaid (line_begun w n q ms)
free_said w n q ms said free others = guest_said w (line_begun w n q ms) said refl refl (λ p all. all) (λ id some. some) (λ c at.
    let apart : ¬ (at.0 ≡ n) = λ same. not_free w c at n same free in
    (get_or-set_other w.guest.processes n at.0 q no_process apart, ap (λ xs. out_from xs (calls_of w at.0) (replies_of w at.0)) (others at.0 apart)))

issue_said : (w w' : WorldState) (n : ℕ) → IsSaid w → IsIssued w n w' → IsSaid w'
issue_said w w' n said i =
    subst IsSaid (sym i.after) (free_said w n i.process (postings n i.sends) said (ap is_crossing i.rest) (λ m other.
    let none : filter (λ (y : Posting). eqb y.request.who m) (postings n i.sends) ≡ [] = nil_from_length (filter (λ (y : Posting). eqb y.request.who m) (postings n i.sends)) (posted_other n m i.sends other) in
    filter-append (λ (y : Posting). eqb y.request.who m) w.requests (postings n i.sends) ∙ (ap (λ ms. requests_of w m ++ ms) none ∙ append-nil (requests_of w m))))

exchange_said : (w : WorldState) (n : ℕ) (q : ProcessState) → IsSaid w → is_crossing (process_at w.guest n).status ≡ false → IsSaid (with_one w n q)
exchange_said w n q said free = guest_said w (with_one w n q) said refl refl (λ p all. all) (λ id some. some) (λ c at.
    (get_or-set_other w.guest.processes n at.0 q no_process (λ same. not_free w c at n same free), refl))

collect_said : (w w' : WorldState) (rows : List (List Inner)) → IsSoundBy w rows → IsCollected w w' → IsSaid w'
collect_said w w' rows sound c =
    let n : ℕ = c.told.reply.who in
    let g1 : GuestState = with_process w.guest n c.process in
    let g : GuestState = settled c.statement.what g1 n in
    let has : HasCollected w n c.process g = has_collected w w' c in
    let settles_all : Settles g1 g = settles c.statement.what g1 n in
    let first : IsFirstTold w c.told = told_first w rows c.told c.rest sound c.first in
    subst IsSaid (sym c.after) (guest_said w (reply_collected w g c.rest) sound.said refl refl (λ p all. settles_all.held p all) (λ id some. settles_all.seats id some) (λ k at.
    let apart : ¬ (at.0 ≡ n) = λ same. told_kept (k.posting) c.told (sym first.out ∙ (ap (out_of w) (sym same) ∙ (waits_crosses w k at).1)) in
    (has.others at.0 apart, ap (λ rs. out_from (requests_of w at.0) (calls_of w at.0) rs) (others_told w c.told c.rest at.0 c.first apart))))
  where
    told_kept : (m : Posting) (r : Returning) → Told r ≡ Kept m → ⊥
    told_kept m r same = cc

-- ---- the device's steps

device_said : (w w' : WorldState) → IsSaid w → w'.guest ≡ w.guest → w'.events ≡ w.events → RiseFrom 0 w'.host.calls → WaitInOwn w' → IsSaid w'
device_said w w' said guest events rising waiting = record {
  sent = subst (AreOfHandles w') (sym events) (subst (λ (g : GuestState). All (λ (d : Delivery). IsSome (seat_of g d.session)) w.events) (sym guest) said.sent);
  held = subst (λ (g : GuestState). All (λ (d : Delivery). IsSome (seat_of g d.session)) g.pump.held) (sym guest) said.held;
  rising = rising;
  waiting = waiting;
}

-- where calls and messages stay
frames_said : (w w' : WorldState) → IsSaid w → w'.guest ≡ w.guest → w'.host.calls ≡ w.host.calls → ((n : ℕ) → out_of w' n ≡ out_of w n) → WaitInOwn w'
frames_said w w' said guest calls out = all_waits w w' said.waiting calls (λ c at. (ap (λ (g : GuestState). process_at g at.0) guest, out at.0))

asked_kept : (m k : Posting) → Asked m ≡ Kept k → ⊥
asked_kept m k same = cc

-- a call that waited stays so, as another process's request is taken
execute_waits : (w w' : WorldState) (rows : List (List Inner)) (e : IsExecuted w w') (c : WaitingCall) → IsSoundBy w rows → WaitsIn w c → WaitsIn w' c
execute_waits w w' rows e c sound at =
    let first : IsFirstAsked w e.posting e.rest = asked_first w rows e.posting e.rest sound e.first in
    let apart : ¬ (at.0 ≡ e.posting.request.who) = λ same. asked_kept e.posting c.posting (sym (asked_out w e.posting e.rest e.first first) ∙ (ap (out_of w) (sym same) ∙ (waits_crosses w c at).1)) in
    waits_on w w' c at (ap (λ (v : WorldState). process_at v.guest at.0) e.after) (execute_others w w' e at.0 apart)

-- the call that waits then is that of the handle
kept_waits : (w w' : WorldState) (rows : List (List Inner)) (m : Posting) (ms : List Posting) (k : IsKeptFirst w m ms w') (h : ℕ) → IsSoundBy w rows → w.requests ≡ m ∷ ms → IsFirstAsked w m ms → IsHandleAsked w rows h m →
    WaitsIn w' (record { session = k.session; posting = m })
kept_waits w w' rows m ms k h sound is first a =
    let n : ℕ = m.request.who in
    let hd : HandleState = handle_at (process_at w.guest n) h in
    let call : WaitingCall = record { session = k.session; posting = m } in
    let calls : filter (λ (y : WaitingCall). eqb y.posting.request.who n) (put_in session_in_call call w.host.calls) ≡ call ∷ [] =
    put_own (λ (y : WaitingCall). eqb y.posting.request.who n) session_in_call call w.host.calls (eq-eqb n n refl) first.calls in
    let all : out_of w' n ≡ Kept m = ap (λ v. out_of v n) k.after ∙ (λ j. out_from (first.requests j) (calls j) (first.replies j)) in
    let process : process_at w'.guest n ≡ process_at w.guest n = ap (λ (v : WorldState). process_at v.guest n) k.after in
    let out : out_at w' n h ≡ Kept m = (λ j. if is_on (crossing_call (process j)) h then all j else Nowhere) ∙ ap (λ b. if b then Kept m else Nowhere) a.on in
    let judged : k.command ≡ a.posted.crossing.command = command_same k.command a.posted.crossing.command (sym k.asks ∙ ap (λ (y : Posting). y.request.asks) a.posted.says) in
    let own : hd.session ≡ Some k.session = of_own hd.session k.command k.session
    (subst (NamesOwn hd.session) (sym judged) (names_own (state_of hd.log) hd.session a.posted.call a.posted.crossing (open_has hd (sound.slices n h a.named).handle) a.posted.crosses)) k.named in
    let id : id_at w' n h ≡ Some k.session = (λ j. id_ahead (handle_at (process j) h) (out j)) ∙ own in
    (n, h, has_handle w' n h k.session id, out, id)
  where
    of_own : (session : Option ℕ) (c : Command) (id : ℕ) → NamesOwn session c → named_session c ≡ Some id → session ≡ Some id
    of_own session c id (inl none) names = absurd (none-some id (sym none ∙ names))
    of_own session c id (inr (k, own, named_k)) names = own ∙ (sym named_k ∙ names)

-- a raw line never waits
kept_first : (w w' : WorldState) (rows : List (List Inner)) (m : Posting) (ms : List Posting) (k : IsKeptFirst w m ms w') (what : LineKind) → IsSoundBy w rows → w.requests ≡ m ∷ ms → (first : IsFirstAsked w m ms) → first.statement.what ≡ what →
    WaitsIn w' (record { session = k.session; posting = m })
kept_first w w' rows m ms k (OnHandle h call) sound is first what = kept_waits w w' rows m ms k h sound is first (handle_asked w rows m ms h call sound is first what)
kept_first w w' rows m ms k (Raw chain) sound is first what =
    let posted : m ≡ posting_of m.request.who (OfRaw chain) = raw_posted w rows m ms chain sound is first what in
    let asks : raw_ask chain ≡ Judged (Ok k.command) = sym (ap (λ (y : Posting). y.request.asks) posted) ∙ k.asks in
    let none : NamesNone k.command = raw_refused w rows m.request.who first.statement chain sound first.within first.now what k.command asks in
    absurd (true≢false (sym k.waits ∙ refused_goes w.host.device k.command (few_sessions w rows sound) none))

execute_said : (w w' : WorldState) (rows : List (List Inner)) → IsSoundBy w rows → IsExecuted w w' → IsSaid w'
execute_said w w' rows sound e = by_shape e.shape
  where
    guest : w'.guest ≡ w.guest
    guest = ap (λ (v : WorldState). v.guest) e.after

    events : w'.events ≡ w.events
    events = ap (λ (v : WorldState). v.events) e.after

    old : All (WaitsIn w') w.host.calls
    old = All-weaker (WaitsIn w) (WaitsIn w') (λ c at. execute_waits w w' rows e c sound at) w.host.calls sound.said.waiting

    by_shape : IsAnsweredFirst w e.posting e.rest w' ⊎ IsKeptFirst w e.posting e.rest w' → IsSaid w'
    by_shape (inl a) =
        let calls : w'.host.calls ≡ w.host.calls = ap (λ (v : WorldState). v.host.calls) a.after in
        device_said w w' sound.said guest events (subst (RiseFrom 0) (sym calls) sound.said.rising) (subst (All (WaitsIn w')) (sym calls) old)
    by_shape (inr k) =
        let first : IsFirstAsked w e.posting e.rest = asked_first w rows e.posting e.rest sound e.first in
        let call : WaitingCall = record { session = k.session; posting = e.posting } in
        let calls : w'.host.calls ≡ put_in session_in_call call w.host.calls = ap (λ (v : WorldState). v.host.calls) k.after in
        let alone : waits w.host k.session ≡ false = subst (λ o. IfSome o (λ id. waits w.host id ≡ false)) k.named (is_alone w rows e.posting e.rest k.command sound e.first k.asks) in
        let here : WaitsIn w' call = kept_first w w' rows e.posting e.rest k first.statement.what sound e.first first refl in
        device_said w w' sound.said guest events
        (subst (RiseFrom 0) (sym calls) (rise_put 0 call w.host.calls (omega arith) alone sound.said.rising))
        (subst (All (WaitsIn w')) (sym calls) (all_put (WaitsIn w') call w.host.calls here old))

resume_said : (w w' : WorldState) (rows : List (List Inner)) (session : ℕ) → IsSoundBy w rows → IsResumed w session w' → IsSaid w'
resume_said w w' rows session sound r =
    let one : _ = one_kept w rows r.call sound r.there in
    let who : r.call.posting.request.who ≡ one.0 = one.2.who in
    let left : List WaitingCall = taken_out session_in_call r.call.session w.host.calls in
    let calls : w'.host.calls ≡ left = ap (λ (v : WorldState). v.host.calls) r.after in
    let apart_all : All (IsNotOf r.call.session) left = out_apart 0 r.call.session w.host.calls sound.said.rising in
    let were : All (WaitsIn w) left = all_out (WaitsIn w) r.call.session w.host.calls sound.said.waiting in
    device_said w w' sound.said (ap (λ (v : WorldState). v.guest) r.after) (ap (λ (v : WorldState). v.events) r.after)
    (subst (RiseFrom 0) (sym calls) (rise_out 0 r.call.session w.host.calls sound.said.rising))
    (subst (All (WaitsIn w')) (sym calls) (λ i c within. stays one.0 one.1 one.2 (get_or left i c) (were i c within) (apart_all i c within)))
  where
    stays : (n h : ℕ) → IsOneKept w rows n h r.call → (c : WaitingCall) → WaitsIn w c → IsNotOf r.call.session c → WaitsIn w' c
    stays n h one c at other =
        let on : is_on (crossing_call (process_at w.guest at.0)) at.1 ≡ true = (waits_crosses w c at).0 in
        let apart : ¬ (at.0 ≡ n) = λ same.
        (let handle : at.1 ≡ h = on_one (crossing_call (process_at w.guest n)) at.1 h (subst (λ i. is_on (crossing_call (process_at w.guest i)) at.1 ≡ true) same on) one.on in
        let id : id_at w n h ≡ Some c.session = (λ j. id_at w (sym same j) (sym handle j)) ∙ at.4 in
        other (same_Some c.session r.call.session (sym id ∙ one.id))) in
        waits_on w w' c at (ap (λ (v : WorldState). process_at v.guest at.0) r.after) (ap (λ v. out_of v at.0) r.after ∙ (λ j. out_from (requests_of w at.0)
        (out_off (λ (y : WaitingCall). eqb y.posting.request.who at.0) session_in_call r.call.session r.call w.host.calls r.finds (ne_eqb r.call.posting.request.who at.0 (λ is. apart (sym is ∙ one.who))) j)
        (others_more w.replies n at.0 (told_by r.call.posting r.answer) one.who apart j)))

announce_said : (w w' : WorldState) (rows : List (List Inner)) → IsSoundBy w rows → IsAnnounced w w' → IsSaid w'
announce_said w w' rows sound a =
    let guest : w'.guest ≡ w.guest = ap (λ (v : WorldState). v.guest) a.after in
    let calls : w'.host.calls ≡ w.host.calls = ap (λ (v : WorldState). v.host.calls) a.after in
    let events : w'.events ≡ w.events ++ a.delivery ∷ [] = ap (λ (v : WorldState). v.events) a.after in
    let P : GuestState → Delivery → Type 0 = λ g d. IsSome (seat_of g d.session) in
    record {
      sent = subst (AreOfHandles w') (sym events) (subst (λ g. All (P g) (w.events ++ a.delivery ∷ [])) (sym guest) (All-push (P w.guest) w.events a.delivery sound.said.sent (announced_seat w w' rows sound a)));
      held = subst (λ (g : GuestState). All (P g) g.pump.held) (sym guest) sound.said.held;
      rising = subst (RiseFrom 0) (sym calls) sound.said.rising;
      waiting = frames_said w w' sound.said guest calls (λ n. ap (λ v. out_of v n) a.after);
    }

job_said : (w w' : WorldState) (d : DeviceState) → IsSaid w → w' ≡ with_device w d → IsSaid w'
job_said w w' d said after = subst IsSaid (sym after) (record {
  sent = said.sent;
  held = said.held;
  rising = said.rising;
  waiting = frames_said w (with_device w d) said refl refl (λ n. refl);
})

-- ---- each step

pub said_next : (w w' : WorldState) (s : Step) → IsSound w → TakesNone w s → Steps w s w' → IsSaid w'
said_next w w' (Issue n) (rows, sound) none does = issue_said w w' n sound.said (is_issued w w' n none does)
said_next w w' Execute (rows, sound) none does = execute_said w w' rows sound (is_executed w w' does)
said_next w w' (Resume session) (rows, sound) none does = resume_said w w' rows session sound (is_resumed w w' session does)
said_next w w' (Begin session) (rows, sound) none does = job_said w w' _ sound.said (is_job_begun w w' session does).after
said_next w w' (Finish number) (rows, sound) none does = job_said w w' _ sound.said (is_finished w w' number does).after
said_next w w' Announce (rows, sound) none does = announce_said w w' rows sound (is_announced w w' does)
said_next w w' Collect (rows, sound) none does = collect_said w w' rows sound (is_collected w w' none does)
said_next w w' Pump sound none does = (pump_keeps w w' sound does).1.said
said_next w w' (Lease n) (rows, sound) none does =
    let l : IsLeased w n w' = is_leased_to w w' n does in
    subst IsSaid (sym l.after) (exchange_said w n l.process sound.said (ap is_crossing l.rest))
said_next w w' (GiveBack n) (rows, sound) none does =
    let b : IsGivenBack w n w' = is_given_back w w' n does in
    subst IsSaid (sym b.after) (exchange_said w n (returned_to (process_at w.guest n) (Some b.call) b.lease) sound.said (ap is_crossing b.lent))
