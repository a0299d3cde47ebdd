-- The driver finds the handle of each session by its id after each step.
use Rattle.std.proofs.Common.{◌≡◌, ◌⊎◌, ℕ, ◌<◌, true, false, List, [], ◌∷◌, Option, Some, None, is_some, length, get_or, set, refl, sym, ap, ◌∙◌, subst, arith, inl, inr}
use Rattle.std.proofs.lemmas.Bool.{cases_eq, cases_lt}
use Rattle.std.proofs.lemmas.List.{length-set, get_or-set_same, get_or-set_other, set_past}
use Rattle.std.proofs.lemmas.Option.{none-some, same_Some}
use Rattle.vm_local.specs.declared.call.Call.{Call}
use Rattle.vm_local.specs.declared.reply.Reply.{Reply}
use Rattle.vm_script.specs.declared.line.LineKind.{LineKind}
use Rattle.vm_script.specs.declared.line.LineKind.TheVariants.{OnHandle, Raw}
use Rattle.vm_wire.specs.Wire.{response_of}
use Rattle.vm_wire.specs.Message.{Returning}
use Rattle.vm_wire.specs.declared.delivery.Delivery.{Delivery}
use Rattle.vm_handle.specs.Answers.{delivered, with_reply}
use Rattle.vm_handle.specs.Handle.{HandleState}
use Rattle.vm_guest.specs.Events.{told, told_at, all_told, events_of, caught_up, settled}
use Rattle.vm_guest.specs.Guest.{GuestState, no_process, process_in, process_at, with_process, handle_named, seat_of, handle_seated}
use Rattle.vm_guest.specs.Lines.{AnsweredFor}
use Rattle.vm_guest.specs.Process.{ProcessState, is_crossing, handle_at, with_handle, no_handle}
use Rattle.vm_guest.specs.declared.seat.Seat.{Seat}
use Rattle.vm_realm.specs.declared.step.Step.{Step}
use Rattle.vm_realm.specs.declared.step.Step.TheVariants.{Issue, Execute, Resume, Begin, Finish, Announce, Collect, Pump, Lease, GiveBack}
use Rattle.vm_realm.specs.World.{WorldState, handle_count}
use Rattle.vm_realm.specs.Inner.{Inner}
use Rattle.vm_realm.specs.Steps.{Steps}
use Rattle.vm_realm.specs.Slice.{Slice, id_ahead, slice_at, out_at}
use Rattle.vm_realm.specs.SliceSteps.{SliceDoes, TakesNone}
use Rattle.vm_realm.specs.Sound.{IsSoundBy, IsHandle, AgreeOnIds, id_at, inner_at, IsWhole}
use Rattle.vm_realm.proofs.FrameLemmas.{has_handle, missing}
use Rattle.vm_realm.proofs.GrowLemmas.{script_stays}
use Rattle.vm_realm.proofs.LendLemmas.{nowhere}
use Rattle.vm_realm.proofs.TakeLemmas.{id_kept, delivered_session, woken_handles}
use Rattle.vm_realm.proofs.PumpLiftLemmas.{pump_keeps}
use Rattle.vm_realm.proofs.LiftLemmas.{handles_stay}
use Rattle.vm_realm.proofs.AfterLemmas.{is_issued, IsCollected, is_collected, HasCollected, has_collected, is_leased_to, is_given_back, is_executed, is_resumed, is_job_begun, is_finished, is_announced}
use Rattle.vm_realm.proofs.LiftNextLemmas.{Lifts, same_driver}
use Rattle.vm_realm.proofs.IdsNextLemmas.{StayIds, OpenIds, starts_id, lends_id, gets_id, collected_ids, ids_step}

-- the session of a handle of the driver
abbrev pub session_at : GuestState → ℕ → ℕ → Option ℕ
session_at g n h = (handle_at (process_at g n) h).session

-- ---- events bring no session

told_session : (p : ProcessState) (h : ℕ) (d : Delivery) (k : ℕ) → (handle_at (told p h d) k).session ≡ (handle_at p k).session
told_session p h d k =
    let y : HandleState = delivered (handle_at p h) d.msg d.held in
    ap (λ hs. (get_or hs k no_handle).session) (woken_handles (with_handle p h y)) ∙ elim (cases_eq k h) [
      | inr apart ↦ ap (λ (x : HandleState). x.session) (get_or-set_other p.handles h k y no_handle apart)
      | inl same ↦ subst (λ j. (get_or (set p.handles h y) j no_handle).session ≡ (get_or p.handles j no_handle).session) (sym same) (elim (cases_lt h (length p.handles)) [
        | inl within ↦ ap (λ (x : HandleState). x.session) (get_or-set_same p.handles h y no_handle within) ∙ delivered_session (handle_at p h) d.msg d.held
        | inr past ↦ ap (λ hs. (get_or hs h no_handle).session) (set_past p.handles h y past)
      ])
    ]

told_at_session : (ps : List ProcessState) (seat : Seat) (d : Delivery) (m k : ℕ) → (handle_at (process_in (told_at ps seat d) m) k).session ≡ (handle_at (process_in ps m) k).session
told_at_session ps seat d m k =
    let q : ProcessState = told (process_in ps seat.process) seat.handle d in
    elim (cases_eq m seat.process) [
      | inr apart ↦ ap (λ (p : ProcessState). (handle_at p k).session) (get_or-set_other ps seat.process m q no_process apart)
      | inl same ↦ subst (λ i. (handle_at (process_in (set ps seat.process q) i) k).session ≡ (handle_at (process_in ps i) k).session) (sym same) (elim (cases_lt seat.process (length ps)) [
        | inl within ↦ ap (λ (p : ProcessState). (handle_at p k).session) (get_or-set_same ps seat.process q no_process within) ∙ told_session (process_in ps seat.process) seat.handle d k
        | inr past ↦ ap (λ qs. (handle_at (process_in qs seat.process) k).session) (set_past ps seat.process q past)
      ])
    ]

all_told_session : (ds : List Delivery) (ps : List ProcessState) (seat : Seat) (m k : ℕ) → (handle_at (process_in (all_told ps seat ds) m) k).session ≡ (handle_at (process_in ps m) k).session
all_told_session [] ps seat m k = refl
all_told_session (d ∷ ds) ps seat m k = all_told_session ds (told_at ps seat d) seat m k ∙ told_at_session ps seat d m k

caught_session : (o : Option ℕ) (g : GuestState) (seat : Seat) (m k : ℕ) → session_at (caught_up o g seat) m k ≡ session_at g m k
caught_session None g seat m k = refl
caught_session (Some id) g seat m k = all_told_session (events_of id g.pump.held) g.processes seat m k

-- ---- what becomes of the seats

-- none changes
pub record SameSeats (w u : WorldState) : Type 0 where
  pub seats : u.guest.seats ≡ w.guest.seats
  pub sessions : (n h : ℕ) → IsHandle u n h → session_at u.guest n h ≡ session_at w.guest n h

-- the seat of one session is that of the handle whose call was collected, if it has one
abbrev pub seats_with : Option ℕ → Seat → List (Option Seat) → List (Option Seat)
seats_with None seat seats = seats
seats_with (Some id) seat seats = set seats id (Some seat)

pub record OneSeat (w u : WorldState) : Type 0 where
  pub process : ℕ
  pub handle : ℕ
  pub session : Option ℕ
  pub own : session_at u.guest process handle ≡ session
  pub id : id_at u process handle ≡ session
  pub seats : u.guest.seats ≡ seats_with session (record { process = process; handle = handle }) w.guest.seats
  pub others : (n h : ℕ) → ¬ ((n ≡ process) × (h ≡ handle)) → session_at u.guest n h ≡ session_at w.guest n h

-- ---- Collect

abbrev after_reply : WorldState → ℕ → ProcessState → GuestState
after_reply w n p = with_process w.guest n p

caught_seats : (o : Option ℕ) (g : GuestState) (seat : Seat) → (caught_up o g seat).seats ≡ seats_with o seat g.seats
caught_seats None g seat = refl
caught_seats (Some id) g seat = refl

answered_others : (line h : ℕ) (call : Call) (p p' : ProcessState) (r : Returning) (k : ℕ) → AnsweredFor line (OnHandle h call) p r p' → ¬ (k ≡ h) → handle_at p' k ≡ handle_at p k
answered_others line h call p p' r k answers apart =
    let may = answers.may.may in
    let reply : Reply = may.reply in
    let y : HandleState = with_reply (handle_at p h) line call reply (response_of answers.command r.reply.bytes) r.held in
    ap (λ (q : ProcessState). handle_at q k) (answers.after reply (may.next, may.session, (may.is_call, may.told))) ∙ get_or-set_other p.handles h k y no_handle apart

collect_by : (w u : WorldState) (c : IsCollected w u) (what : LineKind) → c.statement.what ≡ what → SameSeats w u ⊎ OneSeat w u
collect_by w u c (Raw chain) what =
    let n : ℕ = c.told.reply.who in
    let p : ProcessState = process_at w.guest n in
    let answers : AnsweredFor c.statement.line (Raw chain) p c.told c.process = subst (λ k. AnsweredFor c.statement.line k p c.told c.process) what c.answers in
    let guest : u.guest ≡ after_reply w n c.process = ap (λ (y : WorldState). y.guest) c.after ∙ ap (λ k. settled k (after_reply w n c.process) n) what in
    let handles : c.process.handles ≡ p.handles = ap (λ (q : ProcessState). q.handles) answers.2 in
    inl (record {
      seats = ap (λ (g : GuestState). g.seats) guest;
      sessions = λ m k named. ap (λ g. session_at g m k) guest ∙ elim (cases_eq m n) [
        | inr apart ↦ ap (λ (q : ProcessState). (handle_at q k).session) (get_or-set_other w.guest.processes n m c.process no_process apart)
        | inl same ↦ subst (λ i. session_at (after_reply w n c.process) i k ≡ session_at w.guest i k) (sym same)
            (ap (λ (q : ProcessState). (handle_at q k).session) (get_or-set_same w.guest.processes n c.process no_process c.within) ∙ ap (λ hs. (get_or hs k no_handle).session) handles)
      ];
    })
collect_by w u c (OnHandle h call) what = inr (record {
  process = n;
  handle = h;
  session = o;
  own = own;
  id = id;
  seats = ap (λ (g : GuestState). g.seats) guest ∙ caught_seats o g (record { process = n; handle = h });
  others = λ m k other. sessions m k ∙ elim (cases_eq m n) [
    | inr apart ↦ ap (λ (q : ProcessState). (handle_at q k).session) (get_or-set_other w.guest.processes n m c.process no_process apart)
    | inl same ↦ subst (λ i. session_at g i k ≡ session_at w.guest i k) (sym same)
        (ap (λ (q : ProcessState). (handle_at q k).session) (get_or-set_same w.guest.processes n c.process no_process c.within)
        ∙ ap (λ (x : HandleState). x.session) (answered_others c.statement.line h call (process_at w.guest n) c.process c.told k answers (λ is. other (same, is))))
  ];
})
  where
    n : ℕ
    n = c.told.reply.who

    g : GuestState
    g = with_process w.guest c.told.reply.who c.process

    o : Option ℕ
    o = (handle_at (process_at (with_process w.guest c.told.reply.who c.process) c.told.reply.who) h).session

    answers : AnsweredFor c.statement.line (OnHandle h call) (process_at w.guest n) c.told c.process
    answers = subst (λ k. AnsweredFor c.statement.line k (process_at w.guest n) c.told c.process) what c.answers

    guest : u.guest ≡ caught_up o g (record { process = n; handle = h })
    guest = ap (λ (y : WorldState). y.guest) c.after ∙ ap (λ k. settled k g n) what

    sessions : (m k : ℕ) → session_at u.guest m k ≡ session_at g m k
    sessions m k = ap (λ x. session_at x m k) guest ∙ caught_session o g (record { process = n; handle = h }) m k

    own : session_at u.guest n h ≡ o
    own = sessions n h

    collected : HasCollected w n c.process (settled c.statement.what g n)
    collected = has_collected w u c

    rest : is_crossing (process_at u.guest n).status ≡ false
    rest = ap (λ (y : WorldState). is_crossing (process_at y.guest n).status) c.after ∙ ap is_crossing collected.rest

    id : id_at u n h ≡ o
    id = ap (id_ahead (handle_at (process_at u.guest n) h)) (nowhere u n h (process_at u.guest n) rest) ∙ own

-- ---- the other steps

lifted_seats : (s : Step) (w u : WorldState) (rows : List (List Inner)) → u.guest.seats ≡ w.guest.seats → ((x x' : Slice) → SliceDoes s x x' → x'.handle.session ≡ x.handle.session) → Lifts s w u rows → SameSeats w u
lifted_seats s w u rows seats same (inr stays) = record { seats = seats; sessions = λ n h named. ap (λ (x : Slice). x.handle.session) (stays.slices n h named) }
lifted_seats s w u rows seats same (inl m) = record {
  seats = seats;
  sessions = λ n h named. elim (cases_eq n m.process) [
    | inr apart ↦ ap (λ (x : Slice). x.handle.session) (m.others n h (λ both. apart both.0))
    | inl one ↦ elim (cases_eq h m.handle) [
      | inr apart ↦ ap (λ (x : Slice). x.handle.session) (m.others n h (λ both. apart both.1))
      | inl two ↦ subst (λ i. session_at u.guest i h ≡ session_at w.guest i h) (sym one)
          (subst (λ j. session_at u.guest m.process j ≡ session_at w.guest m.process j) (sym two) (same (slice_at w m.process m.handle) (slice_at u m.process m.handle) m.does))
    ]
  ];
}

guest_seats : (w u : WorldState) → u.guest ≡ w.guest → SameSeats w u
guest_seats w u is = record { seats = ap (λ (g : GuestState). g.seats) is; sessions = λ n h named. ap (λ g. session_at g n h) is }

-- of all but an event that is taken; where a seat is new, each handle has the id that it had
seats_step : (w u : WorldState) (rows : List (List Inner)) (s : Step) → IsSoundBy w rows → TakesNone w s → Steps w s u → Lifts s w u rows → (SameSeats w u ⊎ (OneSeat w u × StayIds w u)) ⊎ (s ≡ Pump)
seats_step w u rows (Issue n) sound none does l =
    inl (inl (lifted_seats (Issue n) w u rows (ap (λ (y : WorldState). y.guest.seats) (is_issued w u n none does).after) (λ x x' starts. (starts_id x x' starts).session) l))
seats_step w u rows Execute sound none does l = inl (inl (guest_seats w u (ap (λ (y : WorldState). y.guest) (is_executed w u does).after)))
seats_step w u rows (Resume session) sound none does l = inl (inl (guest_seats w u (ap (λ (y : WorldState). y.guest) (is_resumed w u session does).after)))
seats_step w u rows (Begin session) sound none does l = inl (inl (guest_seats w u (ap (λ (y : WorldState). y.guest) (is_job_begun w u session does).after)))
seats_step w u rows (Finish number) sound none does l = inl (inl (guest_seats w u (ap (λ (y : WorldState). y.guest) (is_finished w u number does).after)))
seats_step w u rows Announce sound none does l = inl (inl (guest_seats w u (ap (λ (y : WorldState). y.guest) (is_announced w u does).after)))
seats_step w u rows Collect sound none does l =
    let c : IsCollected w u = is_collected w u none does in
    inl (elim (collect_by w u c c.statement.what refl) [ inl same ↦ inl same | inr one ↦ inr (one, collected_ids w u rows none does l) ])
seats_step w u rows Pump sound none does l = inr refl
seats_step w u rows (Lease n) sound none does l =
    inl (inl (lifted_seats (Lease n) w u rows (ap (λ (y : WorldState). y.guest.seats) (is_leased_to w u n does).after) (λ x x' lends. (lends_id x x' lends).session) l))
seats_step w u rows (GiveBack n) sound none does l =
    inl (inl (lifted_seats (GiveBack n) w u rows (ap (λ (y : WorldState). y.guest.seats) (is_given_back w u n does).after) (λ x x' gets. (gets_id x x' gets).session) l))

-- ---- the ids agree

-- a handle that has a session is one of the script's
session_has : (w : WorldState) (n h id : ℕ) → session_at w.guest n h ≡ Some id → IsHandle w n h
session_has w n h id is = by_name (handle_named w.guest n h) refl
  where
    by_name : (o : Option HandleState) → handle_named w.guest n h ≡ o → is_some (handle_named w.guest n h) ≡ true
    by_name (Some x) named = ap is_some named
    by_name None named = absurd (none-some id (sym (ap (λ (x : HandleState). x.session) (missing w.guest n h named)) ∙ is))

-- which it has ahead too
session_ahead : (w : WorldState) (rows : List (List Inner)) (n h id : ℕ) → IsSoundBy w rows → session_at w.guest n h ≡ Some id → id_at w n h ≡ Some id
session_ahead w rows n h id sound is = id_kept (slice_at w n h) (inner_at w rows n h) (out_at w n h) id (sound.slices n h (session_has w n h id is)).out is

-- what the sessions are numbered by
record Numbers (u : WorldState) : Type 0 where
  below : (n h id : ℕ) → IsHandle u n h → id_at u n h ≡ Some id → id < length u.host.device.sessions
  there : (id : ℕ) → id < length u.host.device.sessions → (n : ℕ) × (h : ℕ) × IsHandle u n h × (id_at u n h ≡ Some id)
  once : (n h m k id : ℕ) → IsHandle u n h → IsHandle u m k → id_at u n h ≡ Some id → id_at u m k ≡ Some id → (n ≡ m) × (h ≡ k)

stay_numbers : (w u : WorldState) → AgreeOnIds w → ((n h : ℕ) → IsHandle u n h → IsHandle w n h) → ((n h : ℕ) → IsHandle w n h → IsHandle u n h) → StayIds w u → Numbers u
stay_numbers w u old stay back s = record {
  below = λ n h id named own. subst (λ k. id < k) (sym s.count) (old.below n h id (stay n h named) (sym (s.ids n h named) ∙ own));
  there = λ id within. (
      let at : _ = old.there id (subst (λ k. id < k) s.count within) in
      let named : IsHandle u at.0 at.1 = back at.0 at.1 at.2 in
      (at.0, at.1, named, s.ids at.0 at.1 named ∙ at.3));
  once = λ n h m k id one two own other. old.once n h m k id (stay n h one) (stay m k two) (sym (s.ids n h one) ∙ own) (sym (s.ids m k two) ∙ other);
}

open_numbers : (w u : WorldState) → AgreeOnIds w → ((n h : ℕ) → IsHandle u n h → IsHandle w n h) → ((n h : ℕ) → IsHandle w n h → IsHandle u n h) → OpenIds w u → Numbers u
open_numbers w u old stay back s = record {
  below = λ n h id named own. elim (place n h) [
    | inl here ↦ (let same = same_Some (length w.host.device.sessions) id (sym (mine n h here) ∙ own) in omega (arith, same, s.count))
    | inr other ↦ (let few = old.below n h id (stay n h named) (sym (s.others n h other) ∙ own) in omega (arith, few, s.count))
  ];
  there = λ id within. elim (cases_lt id (length w.host.device.sessions)) [
    | inl few ↦ (
        let at : _ = old.there id few in
        let other : ¬ ((at.0 ≡ s.process) × (at.1 ≡ s.handle)) = λ here. none-some id (sym s.before ∙ subst (λ j. id_at w s.process j ≡ Some id) here.1 (subst (λ i. id_at w i at.1 ≡ Some id) here.0 at.3)) in
        (at.0, at.1, back at.0 at.1 at.2, s.others at.0 at.1 other ∙ at.3))
    | inr past ↦ (
        let last : length w.host.device.sessions ≡ id = (let count = s.count in omega (arith, past, within, count)) in
        (s.process, s.handle, back s.process s.handle s.named, s.own ∙ ap Some last))
  ];
  once = λ n h m k id one two own other. elim (place n h) [
    | inl first ↦ elim (place m k) [
      | inl second ↦ (first.0 ∙ sym second.0, first.1 ∙ sym second.1)
      | inr apart ↦ absurd (never m k id two apart other (mine n h first) own)
    ]
    | inr away ↦ elim (place m k) [
      | inl second ↦ absurd (never n h id one away own (mine m k second) other)
      | inr apart ↦ old.once n h m k id (stay n h one) (stay m k two) (sym (s.others n h away) ∙ own) (sym (s.others m k apart) ∙ other)
    ]
  ];
}
  where
    place : (n h : ℕ) → ((n ≡ s.process) × (h ≡ s.handle)) ⊎ ¬ ((n ≡ s.process) × (h ≡ s.handle))
    place n h = elim (cases_eq n s.process) [
      | inr apart ↦ inr (λ both. apart both.0)
      | inl same ↦ elim (cases_eq h s.handle) [ inl is ↦ inl (same, is) | inr apart ↦ inr (λ both. apart both.1) ]
    ]

    mine : (n h : ℕ) → (n ≡ s.process) × (h ≡ s.handle) → id_at u n h ≡ Some (length w.host.device.sessions)
    mine n h here = (λ j. id_at u (here.0 j) (here.1 j)) ∙ s.own

    never : (n h id : ℕ) → IsHandle u n h → ¬ ((n ≡ s.process) × (h ≡ s.handle)) → id_at u n h ≡ Some id → {o : Option ℕ} → o ≡ Some (length w.host.device.sessions) → o ≡ Some id → ⊥
    never n h id named other own is same =
        let few = old.below n h id (stay n h named) (sym (s.others n h other) ∙ own) in
        let last = same_Some (length w.host.device.sessions) id (sym is ∙ same) in
        omega (arith, few, last)

-- how the driver finds them
record Finds (u : WorldState) : Type 0 where
  seats : (n h id : ℕ) → IsHandle u n h → session_at u.guest n h ≡ Some id → seat_of u.guest id ≡ Some (record { process = n; handle = h })
  seated : (id : ℕ) (seat : Seat) → seat_of u.guest id ≡ Some seat → (handle_seated u.guest seat).session ≡ Some id
  places : length u.guest.seats ≡ handle_count u.script

same_finds : (w u : WorldState) → AgreeOnIds w → u.script ≡ w.script → ((n h : ℕ) → IsHandle u n h → IsHandle w n h) → ((n h : ℕ) → IsHandle w n h → IsHandle u n h) → SameSeats w u → Finds u
same_finds w u old script stay back s = record {
  seats = λ n h id named own. ap (λ ss. get_or ss id None) s.seats ∙ old.seats n h id (stay n h named) (sym (s.sessions n h named) ∙ own);
  seated = λ id seat at. (
      let was : session_at w.guest seat.process seat.handle ≡ Some id = old.seated id seat (sym (ap (λ ss. get_or ss id None) s.seats) ∙ at) in
      s.sessions seat.process seat.handle (back seat.process seat.handle (session_has w seat.process seat.handle id was)) ∙ was);
  places = ap length s.seats ∙ (old.places ∙ sym (ap handle_count script));
}

seats_long : (o : Option ℕ) (seat : Seat) (ss : List (Option Seat)) → length (seats_with o seat ss) ≡ length ss
seats_long None seat ss = refl
seats_long (Some id) seat ss = length-set ss id (Some seat)

same_seat : (a b : Seat) → Some a ≡ Some b → a ≡ b
same_seat a b is = same_Some a b is

one_finds : (w u : WorldState) (rows : List (List Inner)) → IsSoundBy w rows → u.script ≡ w.script → ((n h : ℕ) → IsHandle u n h → IsHandle w n h) → ((n h : ℕ) → IsHandle w n h → IsHandle u n h) → StayIds w u → OneSeat w u → Finds u
one_finds w u rows sound script stay back ids s = record {
  seats = seats;
  seated = seated;
  places = ap length s.seats ∙ (seats_long s.session (record { process = s.process; handle = s.handle }) w.guest.seats ∙ (sound.ids.places ∙ sym (ap handle_count script)));
}
  where
    mine : Seat
    mine = record { process = s.process; handle = s.handle }

    place : (n h : ℕ) → ((n ≡ s.process) × (h ≡ s.handle)) ⊎ ¬ ((n ≡ s.process) × (h ≡ s.handle))
    place n h = elim (cases_eq n s.process) [
      | inr apart ↦ inr (λ both. apart both.0)
      | inl same ↦ elim (cases_eq h s.handle) [ inl is ↦ inl (same, is) | inr apart ↦ inr (λ both. apart both.1) ]
    ]

    -- the handle had the id before
    before : (id : ℕ) → s.session ≡ Some id → id_at w s.process s.handle ≡ Some id
    before id is = (let now : id_at u s.process s.handle ≡ Some id = s.id ∙ is in sym (ids.ids s.process s.handle (has_handle u s.process s.handle id now)) ∙ now)

    -- there is a seat for it
    within : (id : ℕ) → s.session ≡ Some id → id < length w.guest.seats
    within id is =
        let was : id_at w s.process s.handle ≡ Some id = before id is in
        let below = sound.ids.below s.process s.handle id (has_handle w s.process s.handle id was) was in
        let few = sound.device.sound.few in
        let opens = sound.device.opens in
        let places = sound.ids.places in
        omega (arith, below, few, opens, places)

    -- the seat of another id stays
    other_seat : (id : ℕ) → ¬ (s.session ≡ Some id) → seat_of u.guest id ≡ seat_of w.guest id
    other_seat id apart = ap (λ ss. get_or ss id None) s.seats ∙ by_session s.session apart
      where
        by_session : (o : Option ℕ) → ¬ (o ≡ Some id) → get_or (seats_with o mine w.guest.seats) id None ≡ get_or w.guest.seats id None
        by_session None apart = refl
        by_session (Some k) apart = get_or-set_other w.guest.seats k id (Some mine) None (λ same. apart (ap Some (sym same)))

    own_seat : (id : ℕ) → s.session ≡ Some id → seat_of u.guest id ≡ Some mine
    own_seat id is =
        ap (λ ss. get_or ss id None) s.seats
        ∙ (ap (λ o. get_or (seats_with o mine w.guest.seats) id None) is ∙ get_or-set_same w.guest.seats id (Some mine) None (within id is))

    seats : (n h id : ℕ) → IsHandle u n h → session_at u.guest n h ≡ Some id → seat_of u.guest id ≡ Some (record { process = n; handle = h })
    seats n h id named own = elim (place n h) [
      | inl here ↦ own_seat id (sym s.own ∙ (sym (λ j. session_at u.guest (here.0 j) (here.1 j)) ∙ own)) ∙ sym (λ j. Some (record { process = here.0 j; handle = here.1 j }))
      | inr other ↦ (
          let was : session_at w.guest n h ≡ Some id = sym (s.others n h other) ∙ own in
          let ahead : id_at w n h ≡ Some id = session_ahead w rows n h id sound was in
          other_seat id (λ is. (
          let first : id_at w s.process s.handle ≡ Some id = before id is in
          other (sound.ids.once n h s.process s.handle id (stay n h named) (has_handle w s.process s.handle id first) ahead first)))
          ∙ sound.ids.seats n h id (stay n h named) was)
    ]

    is_some_id : (o : Option ℕ) (id : ℕ) → (o ≡ Some id) ⊎ ¬ (o ≡ Some id)
    is_some_id None id = inr (λ is. none-some id is)
    is_some_id (Some k) id = elim (cases_eq k id) [ inl same ↦ inl (ap Some same) | inr apart ↦ inr (λ is. apart (same_Some k id is)) ]

    seated : (id : ℕ) (seat : Seat) → seat_of u.guest id ≡ Some seat → (handle_seated u.guest seat).session ≡ Some id
    seated id seat at = elim (is_some_id s.session id) [
      | inl is ↦ subst (λ x. (handle_seated u.guest x).session ≡ Some id) (same_seat mine seat (sym (own_seat id is) ∙ at)) (s.own ∙ is)
      | inr apart ↦ (
          let was : session_at w.guest seat.process seat.handle ≡ Some id = sound.ids.seated id seat (sym (other_seat id apart) ∙ at) in
          let ahead : id_at w seat.process seat.handle ≡ Some id = session_ahead w rows seat.process seat.handle id sound was in
          let other : ¬ ((seat.process ≡ s.process) × (seat.handle ≡ s.handle)) = λ here. apart (mine_is here ahead) in
          s.others seat.process seat.handle other ∙ was)
    ]
      where
        mine_is : (seat.process ≡ s.process) × (seat.handle ≡ s.handle) → id_at w seat.process seat.handle ≡ Some id → s.session ≡ Some id
        mine_is here ahead =
            let first : id_at w s.process s.handle ≡ Some id = sym (λ j. id_at w (here.0 j) (here.1 j)) ∙ ahead in
            let named : IsHandle u s.process s.handle = back s.process s.handle (has_handle w s.process s.handle id first) in
            sym s.id ∙ (ids.ids s.process s.handle named ∙ first)

pub ids_next : (w u : WorldState) (rows : List (List Inner)) (s : Step) → IsSoundBy w rows → TakesNone w s → Steps w s u → IsWhole u → Lifts s w u rows → AgreeOnIds u
ids_next w u rows s sound none does whole l = elim (seats_step w u rows s sound none does l) [
  | inr pump ↦ (pump_keeps w u (rows, sound) (subst (λ t. Steps w t u) pump does)).1.ids
  | inl seats ↦ by_seats seats
]
  where
    script : u.script ≡ w.script
    script = script_stays w u s does

    stay : (n h : ℕ) → IsHandle u n h → IsHandle w n h
    stay n h named = handles_stay w.script w u sound.lines (same_driver w u s does whole) n h named

    back : (n h : ℕ) → IsHandle w n h → IsHandle u n h
    back n h named = handles_stay w.script u w (same_driver w u s does whole) sound.lines n h named

    both : Numbers u → Finds u → AgreeOnIds u
    both n f = record { below = n.below; there = n.there; once = n.once; seats = f.seats; seated = f.seated; places = f.places }

    by_seats : SameSeats w u ⊎ (OneSeat w u × StayIds w u) → AgreeOnIds u
    by_seats (inr (one, ids)) = both (stay_numbers w u sound.ids stay back ids) (one_finds w u rows sound script stay back ids one)
    by_seats (inl same) = elim (ids_step w u rows s sound none does l) [
      | inl ids ↦ both (stay_numbers w u sound.ids stay back ids) (same_finds w u sound.ids script stay back same)
      | inr opens ↦ both (open_numbers w u sound.ids stay back opens) (same_finds w u sound.ids script stay back same)
    ]
