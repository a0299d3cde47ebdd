-- An event that is taken moves the slice of the handle that has its session.
use Rattle.std.proofs.Common.{◌≡◌, ℕ, ◌+◌, ◌<◌, Bool, true, false, not, List, [], ◌∷◌, ◌++◌, Option, Some, None, is_some, length, get_or, set, refl, sym, ap, ◌∙◌, subst, inl, inr, eqb, if◌then◌else◌}
use Rattle.std.specs.Prelude.{◌&&◌, IsSome, IfSome, slice_get}
use Rattle.std.specs.List.{All}
use Rattle.std.specs.Option.{option_and_then}
use Rattle.std.proofs.lemmas.Bool.{false≢true, cases_eq, cases_lt, cond_both, eq-eqb, ne_eqb, and_left, and_parts}
use Rattle.std.proofs.lemmas.List.{append-nil, get_or_past, get_or-set_same, get_or-set_other}
use Rattle.std.proofs.lemmas.List.Elements.{All-head, All-get_or}
use Rattle.std.proofs.lemmas.Option.{none-some, slice_get-get_or}
use Rattle.vm_home.specs.Moves.{is_stopping}
use Rattle.vm_lease.specs.declared.lease_out.LeaseOut.{LeaseOut}
use Rattle.vm_local.specs.declared.call.Call.{Call}
use Rattle.vm_local.specs.declared.call.Call.TheVariants.{OpenHandle}
use Rattle.vm_local.specs.declared.reply.Reply.TheVariants.{Done}
use Rattle.vm_local.specs.State.{LocalState}
use Rattle.vm_log.specs.LegalLog.{lease_in}
use Rattle.vm_log.specs.declared.away.Away.{Away}
use Rattle.vm_link.specs.declared.link.Turn.TheVariants.{Did, Idle}
use Rattle.vm_wire.specs.Message.{Returning}
use Rattle.vm_wire.specs.Wire.{response_of}
use Rattle.vm_wire.specs.declared.command.Command.TheVariants.{OpenSession}
use Rattle.vm_wire.specs.declared.delivery.Delivery.{Delivery}
use Rattle.vm_wire.specs.declared.event.EventMsg.{EventMsg}
use Rattle.vm_wire.specs.declared.response.Response.{Response}
use Rattle.vm_frame.specs.declared.mem.Held.{Held}
use Rattle.vm_exchange.specs.declared.way.Way.{Way}
use Rattle.vm_exchange.specs.declared.way.Way.TheVariants.{Crosses, AnsweredHere, Waits, TouchesMemory}
use Rattle.vm_handle.specs.Answers.{session_from, answered_at, awoken, delivered}
use Rattle.vm_handle.specs.Handle.{HandleState, way_from, Keeps, IsAlong, FitsStage}
use Rattle.vm_handle.specs.declared.stage.Stage.{Stage}
use Rattle.vm_handle.specs.declared.stage.Stage.TheVariants.{AtRest, Underway, Waiting}
use Rattle.vm_guest.specs.Events.{woken, told, is_overtaken, holds_back as guest_holds, held_back, given, taken_at, taken}
use Rattle.vm_guest.specs.Guest.{GuestState, no_process, process_at, handle_seated, seat_of}
use Rattle.vm_guest.specs.Orderly.{IsOrderly, IsOutAt, IsSeat}
use Rattle.vm_guest.specs.Part.{Inbox, Outbox, PumpsFrom, Pumps}
use Rattle.vm_guest.specs.Process.{ProcessState, is_crossing, is_blocked, is_answered_in, some_if, current_call, crossing_call, handle_at, with_handle, no_handle, rested}
use Rattle.vm_guest.specs.declared.asked.Asked.{Asked as AskedCall}
use Rattle.vm_guest.specs.declared.seat.Seat.{Seat}
use Rattle.vm_guest.specs.declared.status.Status.{Status}
use Rattle.vm_guest.specs.declared.status.Status.TheVariants.{AtRest as Resting, Crossing, Blocked, Lent}
use Rattle.vm_realm.specs.declared.step.Step.TheVariants.{Pump}
use Rattle.vm_realm.specs.World.{WorldState, jobs_out}
use Rattle.vm_realm.specs.Inner.{Inner}
use Rattle.vm_realm.specs.Steps.{inbox_of, after_driver, DriverDoes}
use Rattle.vm_realm.specs.Slice.{Slice, Out, id_told, id_ahead, session_in, job_in, events_for, out_of, is_on, out_at, slice_with, slice_at}
use Rattle.vm_realm.specs.Slice.Out.{Nowhere, Asked, Kept, Told, Astray}
use Rattle.vm_realm.specs.SliceSteps.{IsFirst, holds_back, taken as slice_taken, MovesOne}
use Rattle.vm_realm.specs.Sound.{IsOut, IsSoundSlice, IsSoundBy, IsHandle, id_at, inner_at}
use Rattle.vm_realm.proofs.FrameLemmas.{same_slice, other_behind, own_behind, other_first, own_first, has_handle}

-- ---- a session stays the handle's

first_kept : (h : HandleState) (call : Call) (response : Response) (id : ℕ) → IsFirst h call → h.session ≡ Some id → session_from h.session call Done response ≡ Some id
first_kept h (OpenHandle nonblock) response id first is = absurd (none-some id (sym first ∙ is))
first_kept h call response id first is = is

told_kept : (h : HandleState) (stage : Stage) (line : ℕ) (call : Call) (r : Returning) (id : ℕ) → stage ≡ Underway line call → IsFirst h call → h.session ≡ Some id → id_told stage h.session r ≡ Some id
told_kept h stage line call r id under first is =
    ap (λ t. id_told t h.session r) under ∙ first_kept h call (response_of OpenSession r.reply.bytes) id first is

pub id_kept : (x : Slice) (v : Inner) (o : Out) (id : ℕ) → IsOut o x v → x.handle.session ≡ Some id → id_ahead x.handle o ≡ Some id
id_kept x v Nowhere id out is = is
id_kept x v (Asked m) id out is = is
id_kept x v (Kept m) id out is = is
id_kept x v Astray id out is = is
id_kept x v (Told r) id out is = told_kept x.handle x.handle.stage out.line out.call r id out.underway out.first is

-- ---- what is held back

-- of a handle of which no line is unanswered no call is underway
stage_free : (session : ℕ) (s : LocalState) (away : Away) (unanswered : Bool) (stage : Stage) → unanswered ≡ false → FitsStage session s away unanswered stage → holds_back stage ≡ false
stage_free session s away unanswered AtRest free fits = refl
stage_free session s away unanswered (Waiting line call) free fits = refl
stage_free session s away unanswered (Underway line call) free fits = absurd (false≢true (sym free ∙ fits.0))

-- nor of one whose memory is out with a lease
along_none : (o : Option ℕ) (away : Away) (entry : LeaseOut) → IsAlong o away → lease_in away ≡ Some entry → ⊥
along_none None away entry along out = none-some entry (sym (ap lease_in along) ∙ out)
along_none (Some number) away entry along out = none-some entry (sym (ap lease_in along) ∙ out)

stage_lent : (session : ℕ) (s : LocalState) (away : Away) (unanswered : Bool) (stage : Stage) (entry : LeaseOut) → lease_in away ≡ Some entry → FitsStage session s away unanswered stage → holds_back stage ≡ false
stage_lent session s away unanswered AtRest entry out fits = refl
stage_lent session s away unanswered (Waiting line call) entry out fits = refl
stage_lent session s away unanswered (Underway line call) entry out fits = absurd (along_none _ away entry fits.2 out)

-- the driver holds an event back as the handle's stage says
pub holds_by : (status : Status) (o : Option AskedCall) (h : ℕ) (x : HandleState) → Keeps x.log x.session x.stage → IsOutAt status o h x → is_overtaken (some_if (is_crossing status) o) h ≡ holds_back x.stage
holds_by Resting None h x keeps out = sym (stage_free _ _ _ _ x.stage out keeps.fits)
holds_by Crossing None h x keeps out = sym (stage_free _ _ _ _ x.stage out keeps.fits)
holds_by Blocked None h x keeps out = sym (stage_free _ _ _ _ x.stage out keeps.fits)
holds_by Lent None h x keeps out = sym (stage_free _ _ _ _ x.stage out keeps.fits)
holds_by Resting (Some a) h x keeps out = elim (cases_eq a.handle h) [
  | inl same ↦ sym (stage_free _ _ _ _ x.stage (out.0 same) keeps.fits)
  | inr other ↦ sym (stage_free _ _ _ _ x.stage (out.1 other) keeps.fits)
]
holds_by Blocked (Some a) h x keeps out = elim (cases_eq a.handle h) [
  | inl same ↦ sym (ap holds_back (out.0 same))
  | inr other ↦ sym (stage_free _ _ _ _ x.stage (out.1 other) keeps.fits)
]
holds_by Lent (Some a) h x keeps out = elim (cases_eq a.handle h) [
  | inl same ↦ sym (stage_lent _ _ _ _ x.stage (out.0 same).0 (out.0 same).1 keeps.fits)
  | inr other ↦ sym (stage_free _ _ _ _ x.stage (out.1 other) keeps.fits)
]
holds_by Crossing (Some a) h x keeps out = elim (cases_eq a.handle h) [
  | inl same ↦ ap (λ b. b && not (is_stopping a.call)) (eq-eqb a.handle h same) ∙ sym (ap holds_back (out.0 same))
  | inr other ↦ and_left (eqb a.handle h) (not (is_stopping a.call)) (ne_eqb a.handle h other) ∙ sym (stage_free _ _ _ _ x.stage (out.1 other) keeps.fits)
]

-- ---- the seat of an event

pub record SeatedEvent (w : WorldState) (d : Delivery) : Type 0 where
  pub seat : Seat
  pub is : seat_of w.guest d.session ≡ Some seat
  pub session : (handle_seated w.guest seat).session ≡ Some d.session
  pub within : IsSeat w.guest.processes seat

seat_some : (o : Option Seat) → is_some o ≡ true → (s : Seat) × (o ≡ Some s)
seat_some None none = absurd (false≢true none)
seat_some (Some s) some = (s, refl)

pub seated_event : (w : WorldState) (rows : List (List Inner)) (d : Delivery) (ds : List Delivery) → IsSoundBy w rows → w.events ≡ d ∷ ds → SeatedEvent w d
seated_event w rows d ds sound is =
    let P : Delivery → Type 0 = λ x. IsSome (seat_of w.guest x.session) in
    let some : P d = All-head P d ds (subst (All P) is sound.said.sent) in
    let at : _ = seat_some (seat_of w.guest d.session) some in
    let place : d.session < length w.guest.seats = seat_within w.guest.seats d.session at.0 at.1 in
    let sits : IfSome (seat_of w.guest d.session) (IsSeat w.guest.processes) = All-get_or (λ o. IfSome o (IsSeat w.guest.processes)) w.guest.seats d.session None place sound.lines.seats in
    record {
      seat = at.0;
      is = at.1;
      session = sound.ids.seated d.session at.0 at.1;
      within = subst (λ o. IfSome o (IsSeat w.guest.processes)) at.1 sits;
    }
  where
    seat_within : (seats : List (Option Seat)) (id : ℕ) (seat : Seat) → get_or seats id None ≡ Some seat → id < length seats
    seat_within seats id seat is = elim (cases_lt id (length seats)) [ inl within ↦ within | inr past ↦ absurd (none-some seat (sym (get_or_past seats id None past) ∙ is)) ]

-- ---- the handle takes it

awoken_session : (stage : Stage) (h : HandleState) → (awoken stage h).session ≡ h.session
awoken_session AtRest h = refl
awoken_session (Underway line call) h = refl
awoken_session (Waiting line call) h = by_way (way_from h call)
  where
    by_way : (way : Way) → (answered_at way h line call).session ≡ h.session
    by_way AnsweredHere = refl
    by_way (Crosses c) = refl
    by_way Waits = refl
    by_way TouchesMemory = refl

pub delivered_session : (h : HandleState) (msg : EventMsg) (held : Option Held) → (delivered h msg held).session ≡ h.session
delivered_session h msg held = awoken_session h.stage _

-- the id ahead stays that of the handle
awoken_told : (stage : Stage) (h : HandleState) (r : Returning) → h.stage ≡ stage → id_told (awoken stage h).stage (awoken stage h).session r ≡ id_told h.stage h.session r
awoken_told AtRest h r same = refl
awoken_told (Underway line call) h r same = refl
awoken_told (Waiting line call) h r same = by_way (way_from h call)
  where
    by_way : (way : Way) → id_told (answered_at way h line call).stage (answered_at way h line call).session r ≡ id_told h.stage h.session r
    by_way AnsweredHere = sym (ap (λ t. id_told t h.session r) same)
    by_way (Crosses c) = refl
    by_way Waits = refl
    by_way TouchesMemory = refl

pub delivered_ahead : (h : HandleState) (msg : EventMsg) (held : Option Held) (o : Out) → id_ahead (delivered h msg held) o ≡ id_ahead h o
delivered_ahead h msg held Nowhere = delivered_session h msg held
delivered_ahead h msg held (Asked m) = delivered_session h msg held
delivered_ahead h msg held (Kept m) = delivered_session h msg held
delivered_ahead h msg held Astray = delivered_session h msg held
delivered_ahead h msg held (Told r) = awoken_told h.stage _ r refl

-- a process that is woken has nothing that crosses, before and after
woken_crosses : (p : ProcessState) → crossing_call (woken p) ≡ crossing_call p
woken_crosses p =
    cond_both (is_blocked p.status && is_answered_in p.handles (current_call p)) (rested p) p (λ q. crossing_call q ≡ crossing_call p)
    (λ wakes. sym (ap (λ b. some_if b (current_call p)) (blocked_free p.status (and_parts (is_blocked p.status) _ wakes).0))) (λ stays. refl)
  where
    blocked_free : (s : Status) → is_blocked s ≡ true → is_crossing s ≡ false
    blocked_free Resting is = refl
    blocked_free Crossing is = absurd (false≢true is)
    blocked_free Blocked is = refl
    blocked_free Lent is = refl

pub woken_handles : (p : ProcessState) → (woken p).handles ≡ p.handles
woken_handles p =
    cond_both (is_blocked p.status && is_answered_in p.handles (current_call p)) (rested p) p (λ q. q.handles ≡ p.handles) (λ wakes. refl) (λ stays. refl)

-- ---- Pump

-- the world once the driver came to this, and took the first event
abbrev pub took : WorldState → GuestState → List Delivery → WorldState
took w g ds = record w { guest = g; chains = w.chains + 1; events = ds }

pub held_moves : (w : WorldState) (d : Delivery) (ds : List Delivery) (n h : ℕ) → w.events ≡ d ∷ ds → id_at w n h ≡ Some d.session → holds_back (slice_at w n h).handle.stage ≡ true →
    ((m k : ℕ) → ¬ ((m ≡ n) × (k ≡ h)) → ¬ (id_at w m k ≡ Some d.session)) → MovesOne Pump w (took w (held_back w.guest d) ds)
held_moves w d ds n h is own holds apart =
    let v : WorldState = took w (held_back w.guest d) ds in
    let x : Slice = slice_at w n h in
    let id : Option ℕ = id_at w n h in
    let first : x.events ≡ d ∷ events_for id ds = ap (events_for id) is ∙ own_first id ds d own in
    let held : events_for id (w.guest.pump.held ++ d ∷ []) ≡ x.held ++ d ∷ [] = own_behind id w.guest.pump.held d own in
    let moved : slice_at v n h ≡ slice_taken true d (events_for id ds) x = λ j. record x { held = held j; events = events_for id ds } in
    record {
      process = n;
      handle = h;
      does = (d, events_for id ds, first, moved ∙ ap (λ b. slice_taken b d (events_for id ds) x) (sym holds));
      others = λ m k other. same_slice w v m k (record {
        handle = refl;
        out = refl;
        held = other_behind (id_at w m k) w.guest.pump.held d (apart m k other);
        events = sym (ap (events_for (id_at w m k)) is ∙ other_first (id_at w m k) ds d (apart m k other));
        session = refl;
        job = refl;
      });
    }

pub given_moves : (w : WorldState) (d : Delivery) (ds : List Delivery) (seat : Seat) → w.events ≡ d ∷ ds → IsSeat w.guest.processes seat → id_at w seat.process seat.handle ≡ Some d.session →
    holds_back (slice_at w seat.process seat.handle).handle.stage ≡ false →
    ((m k : ℕ) → ¬ ((m ≡ seat.process) × (k ≡ seat.handle)) → ¬ (id_at w m k ≡ Some d.session)) → MovesOne Pump w (took w (given w.guest seat d) ds)
given_moves w d ds seat is within own free apart =
    let n : ℕ = seat.process in
    let h : ℕ = seat.handle in
    let v : WorldState = took w (given w.guest seat d) ds in
    let p : ProcessState = process_at w.guest n in
    let hd : HandleState = handle_at p h in
    let y : HandleState = delivered hd d.msg d.held in
    let q : ProcessState = told p h d in
    let x : Slice = slice_at w n h in
    let id : Option ℕ = id_at w n h in
    let process : process_at v.guest n ≡ q = get_or-set_same w.guest.processes n q no_process within.0 in
    let handles : q.handles ≡ set p.handles h y = woken_handles (with_handle p h y) in
    let handle : handle_at (process_at v.guest n) h ≡ y =
    ap (λ (r : ProcessState). handle_at r h) process ∙ (ap (λ hs. get_or hs h no_handle) handles ∙ get_or-set_same p.handles h y no_handle within.1) in
    let crosses : crossing_call (process_at v.guest n) ≡ crossing_call p = ap crossing_call process ∙ woken_crosses (with_handle p h y) in
    let out : out_at v n h ≡ out_at w n h = ap (λ c. if is_on c h then out_of w n else Nowhere) crosses in
    let ahead : id_ahead y (out_at w n h) ≡ id = delivered_ahead hd d.msg d.held (out_at w n h) in
    let first : x.events ≡ d ∷ events_for id ds = ap (events_for id) is ∙ own_first id ds d own in
    let with_id : Option ℕ → Slice = λ i. record {
      who = n;
      handle = y;
      out = out_at w n h;
      held = events_for i w.guest.pump.held;
      events = events_for i ds;
      session = session_in w.host.device i;
      job = job_in (jobs_out w) i;
    } in
    let begins : slice_at v n h ≡ slice_with v n y (out_at w n h) = λ j. slice_with v n (handle j) (out j) in
    let moved : slice_at v n h ≡ slice_taken false d (events_for id ds) x = begins ∙ ap with_id ahead in
    record {
      process = n;
      handle = h;
      does = (d, events_for id ds, first, moved ∙ ap (λ b. slice_taken b d (events_for id ds) x) (sym free));
      others = λ m k other. elim (cases_eq m n) [
        | inl same ↦ subst (λ i. slice_at v i k ≡ slice_at w i k) (sym same) (own_others k (λ is_h. other (same, is_h)) (λ is_own. apart m k other (subst (λ i. id_at w i k ≡ Some d.session) (sym same) is_own)))
        | inr differs ↦ other_processes m k differs (apart m k other)
      ];
    }
  where
    other_processes : (m k : ℕ) → ¬ (m ≡ seat.process) → ¬ (id_at w m k ≡ Some d.session) → slice_at (took w (given w.guest seat d) ds) m k ≡ slice_at w m k
    other_processes m k differs not_own =
        let v : WorldState = took w (given w.guest seat d) ds in
        let process : process_at v.guest m ≡ process_at w.guest m = get_or-set_other w.guest.processes seat.process m _ no_process differs in
        same_slice w v m k (record {
          handle = ap (λ (r : ProcessState). handle_at r k) process;
          out = ap (λ (r : ProcessState). if is_on (crossing_call r) k then out_of w m else Nowhere) process;
          held = refl;
          events = sym (ap (events_for (id_at w m k)) is ∙ other_first (id_at w m k) ds d not_own);
          session = refl;
          job = refl;
        })

    own_others : (k : ℕ) → ¬ (k ≡ seat.handle) → ¬ (id_at w seat.process k ≡ Some d.session) → slice_at (took w (given w.guest seat d) ds) seat.process k ≡ slice_at w seat.process k
    own_others k differs not_own =
        let v : WorldState = took w (given w.guest seat d) ds in
        let p : ProcessState = process_at w.guest seat.process in
        let y : HandleState = delivered (handle_at p seat.handle) d.msg d.held in
        let q : ProcessState = told p seat.handle d in
        let process : process_at v.guest seat.process ≡ q = get_or-set_same w.guest.processes seat.process q no_process within.0 in
        same_slice w v seat.process k (record {
          handle = ap (λ (r : ProcessState). handle_at r k) process
              ∙ (ap (λ hs. get_or hs k no_handle) (woken_handles (with_handle p seat.handle y)) ∙ get_or-set_other p.handles seat.handle k y no_handle differs);
          out = ap (λ (r : ProcessState). if is_on (crossing_call r) k then out_of w seat.process else Nowhere) process
              ∙ ap (λ c. if is_on c k then out_of w seat.process else Nowhere) (woken_crosses (with_handle p seat.handle y));
          held = refl;
          events = sym (ap (events_for (id_at w seat.process k)) is ∙ other_first (id_at w seat.process k) ds d not_own);
          session = refl;
          job = refl;
        })

handle_there : (w : WorldState) (n h : ℕ) → n < length w.guest.processes → h < length (process_at w.guest n).handles → IsHandle w n h
handle_there w n h within short =
    ap (λ o. is_some (option_and_then (λ (p : ProcessState). slice_get p.handles h) o)) (slice_get-get_or w.guest.processes n no_process within)
    ∙ ap is_some (slice_get-get_or (process_at w.guest n).handles h no_handle short)

pub pump_first : (w : WorldState) (rows : List (List Inner)) (d : Delivery) (ds : List Delivery) → IsSoundBy w rows → w.events ≡ d ∷ ds → MovesOne Pump w (took w (taken w.guest d) ds)
pump_first w rows d ds sound is =
    let at : SeatedEvent w d = seated_event w rows d ds sound is in
    let n : ℕ = at.seat.process in
    let h : ℕ = at.seat.handle in
    let p : ProcessState = process_at w.guest n in
    let x : Slice = slice_at w n h in
    let there : IsHandle w n h = handle_there w n h at.within.0 at.within.1 in
    let slice : IsSoundSlice x (inner_at w rows n h) = sound.slices n h there in
    let own : id_at w n h ≡ Some d.session = id_kept x (inner_at w rows n h) (out_at w n h) d.session slice.out at.session in
    let apart : (m k : ℕ) → ¬ ((m ≡ n) × (k ≡ h)) → ¬ (id_at w m k ≡ Some d.session) =
    λ m k other mine. other (sound.ids.once m k n h d.session (has_handle w m k d.session mine) there mine own) in
    let orderly : IsOrderly w.script.model _ p = sound.lines.orderly n at.within.0 in
    let holds : guest_holds w.guest at.seat ≡ holds_back x.handle.stage =
    holds_by p.status (current_call p) h (handle_at p h) (orderly.each h at.within.1).keeps (orderly.out h at.within.1) in
    let P : GuestState → Type 0 = λ g. MovesOne Pump w (took w g ds) in
    subst (λ o. P (taken_at o w.guest d)) (sym at.is)
    (cond_both (guest_holds w.guest at.seat) (held_back w.guest d) (given w.guest at.seat d) P
    (λ holding. held_moves w d ds n h is own (sym holds ∙ holding) apart)
    (λ giving. given_moves w d ds at.seat is at.within own (sym holds ∙ giving) apart))

not_idle : Did ≡ Idle → ⊥
not_idle same = cc

pump_by : (w : WorldState) (rows : List (List Inner)) (events : List Delivery) (g : GuestState) (left : Inbox) (posted : Outbox) → IsSoundBy w rows → w.events ≡ events → PumpsFrom events w.guest (inbox_of w) Did g left posted →
    MovesOne Pump w (after_driver w g left posted)
pump_by w rows [] g left posted sound is (turn, same, kept, none) = absurd (not_idle turn)
pump_by w rows (d ∷ ds) g left posted sound is (turn, takes, leaves, posts) =
    let ends : after_driver w g left posted ≡ took w (taken w.guest d) ds =
    ap (λ i. after_driver w g i posted) leaves ∙ (ap (λ o. after_driver w g (record { replies = w.replies; events = ds }) o) posts
    ∙ (λ j. record w { guest = takes j; requests = append-nil w.requests j; chains = w.chains + 1; events = ds })) in
    subst (MovesOne Pump w) (sym ends) (pump_first w rows d ds sound is)

pub pump_moves : (w w' : WorldState) (rows : List (List Inner)) → IsSoundBy w rows → DriverDoes Pumps w w' → MovesOne Pump w w'
pump_moves w w' rows sound (g, left, posted, does, after) = subst (MovesOne Pump w) (sym after) (pump_by w rows w.events g left posted sound refl does)
