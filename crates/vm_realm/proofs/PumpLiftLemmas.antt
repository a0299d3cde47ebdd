-- An event that is taken keeps a world sound.
use Rattle.std.proofs.Common.{◌≡◌, ◌⊎◌, ℕ, ◌+◌, ◌*◌, ◌<◌, Bool, true, false, List, [], ◌∷◌, ◌++◌, Option, Some, None, length, get_or, map, refl, sym, ap, ◌∙◌, subst, arith, inl, inr, if◌then◌else◌, append_assoc}
use Rattle.std.specs.Prelude.{◌&&◌, slice_get, IsSome, unwrap_or}
use Rattle.std.specs.List.{All}
use Rattle.std.specs.Option.{option_and_then, option_to_list}
use Rattle.std.proofs.lemmas.Bool.{false≢true, cases_eq, cond_both, not-false, and_parts}
use Rattle.std.proofs.lemmas.List.{append-nil, get_or-set_same, get_or-set_other, length-set}
use Rattle.std.proofs.lemmas.List.Elements.{All-tail, All-head, All-push}
use Rattle.v4l_const.specs.declared.errno.Errno.{Errno}
use Rattle.v4l_const.specs.declared.model.Model.{Model}
use Rattle.v4l_const.specs.Model.{source_queue}
use Rattle.v4l_rules.specs.Refusals.{first_refusal}
use Rattle.vm_frame.specs.declared.mem.Held.{Held}
use Rattle.vm_home.specs.Moves.{is_stopping}
use Rattle.vm_link.specs.declared.link.Turn.TheVariants.{Did, Idle}
use Rattle.vm_local.specs.declared.call.Call.{Call}
use Rattle.vm_local.specs.declared.call.Call.TheVariants.{DqBuf}
use Rattle.vm_local.specs.declared.entry.Entry.{Entry}
use Rattle.vm_local.specs.declared.entry.Entry.TheVariants.{Called, Finish, Bad, Give}
use Rattle.vm_local.specs.declared.reply.Reply.{Reply}
use Rattle.vm_local.specs.State.{LocalState, opening}
use Rattle.vm_local.specs.Log.{after}
use Rattle.vm_log.specs.LegalLog.{LogState, state_of, with_entry}
use Rattle.vm_script.specs.declared.line.LineKind.TheVariants.{Raw}
use Rattle.vm_script.specs.declared.line.RawChain.{RawChain}
use Rattle.vm_wire.specs.declared.delivery.Delivery.{Delivery}
use Rattle.vm_wire.specs.declared.event.EventMsg.{EventMsg}
use Rattle.vm_wire.specs.declared.event.EventMsg.TheVariants.{Dequeued, Happened}
use Rattle.vm_exchange.specs.Messages.{is_marked, is_first, frame_step, made_by}
use Rattle.vm_exchange.specs.declared.way.Way.{Way}
use Rattle.vm_exchange.specs.declared.way.Way.TheVariants.{Crosses, AnsweredHere, Waits, TouchesMemory}
use Rattle.vm_handle.specs.Answers.{row_from, answered_by, answered_at, awoken, with_steps, with_given, delivered}
use Rattle.vm_handle.specs.Handle.{HandleState, Keeps, FitsStage, way_from, id_of, is_dqbuf}
use Rattle.vm_handle.specs.Messages.{Delivers}
use Rattle.vm_handle.specs.declared.stage.Stage.{Stage}
use Rattle.vm_handle.specs.declared.stage.Stage.TheVariants.{AtRest as Resting, Underway, Waiting}
use Rattle.vm_handle.proofs.StageLemmas.{waits_only}
use Rattle.vm_pump.specs.Pump.{handle_room}
use Rattle.vm_session.specs.State.{SessionState}
use Rattle.vm_device.specs.Device.{session_of}
use Rattle.vm_stands.specs.Flight.{LeadAll}
use Rattle.vm_guest.specs.Asking.{asked_by, asked_in}
use Rattle.vm_guest.specs.Events.{told, given, held_back, holds_back as guest_holds, taken, taken_at, CanTell}
use Rattle.vm_guest.specs.Guest.{GuestState, no_process, process_at, seat_of}
use Rattle.vm_guest.specs.Orderly.{IsDriver, IsOrderly, MayBeRaw, lines_at}
use Rattle.vm_guest.specs.Part.{Inbox, Outbox, PumpsFrom}
use Rattle.vm_guest.specs.Process.{ProcessState, is_crossing, is_blocked, is_answered_in, current, current_call, crossing, some_if, handle_at, with_handle, rested}
use Rattle.vm_guest.specs.declared.seat.Seat.{Seat}
use Rattle.vm_guest.specs.declared.asked.Statement.{Statement}
use Rattle.vm_guest.specs.declared.status.Status.{Status}
use Rattle.vm_guest.specs.declared.status.Status.TheVariants.{AtRest, Crossing, Blocked, Lent}
use Rattle.vm_guest.proofs.OrderlyLemmas.{all_told_driver}
use Rattle.vm_realm.specs.declared.step.Step.TheVariants.{Pump}
use Rattle.vm_realm.specs.World.{WorldState, statement_count}
use Rattle.vm_realm.specs.Inner.{Inner, driver_state, under_way, unsent_in}
use Rattle.vm_realm.specs.Left.{left_of}
use Rattle.vm_realm.specs.Steps.{Steps, inbox_of, after_driver}
use Rattle.vm_realm.specs.Laws.{GoesOnSoundly}
use Rattle.vm_realm.specs.Mapped.{mapping_by, mapping_at, mappings_from, mappings_of}
use Rattle.vm_realm.specs.Places.{told_state}
use Rattle.vm_realm.specs.Slice.{Slice, Out, id_ahead, events_for, out_at, slice_at, unsent_by}
use Rattle.vm_realm.specs.Slice.Out.{Nowhere, Asked, Kept, Told, Astray}
use Rattle.vm_realm.specs.SliceSteps.{holds_back, taken as slice_taken, Takes, MovesOne}
use Rattle.vm_realm.specs.Sound.{IsOut, IsSoundSlice, IsLineOut, AreOfHandles, HoldsFew, MadeWithin, IsSoundBy, IsSound, IsHandle, id_at, inner_at, one_if, share_of, all_shares}
use Rattle.vm_realm.proofs.SumLemmas.{place_within}
use Rattle.vm_realm.proofs.FrameLemmas.{has_handle, handle_there, own_first}
use Rattle.vm_realm.proofs.LeftLemmas.{left_falls}
use Rattle.vm_realm.proofs.TakeLemmas.{SeatedEvent, seated_event, id_kept, delivered_session, delivered_ahead, holds_by, took, pump_first}
use Rattle.vm_realm.proofs.ShareLemmas.{share_at, stopping_tells}
use Rattle.vm_realm.proofs.LiftLemmas.{rows_with, handles_stay, slices_lift, LaterShare, journal_later, shares_lift}
use Rattle.vm_realm.proofs.KeepTakeLemmas.{held_sound, phase, told_leads, leads_deliver, taking_keeps}

-- ---- entries that tell of no mapping

abbrev pub NoTell : List Entry → Type 0
NoTell [] = Unit {0}
NoTell (e ∷ es) = ((s : LocalState) → mapping_at s e ≡ []) × NoTell es

nothing_told : (s : LocalState) (es : List Entry) → NoTell es → mappings_from s es ≡ []
nothing_told s [] none = refl
nothing_told s (e ∷ es) none = (λ j. none.0 s j ++ mappings_from (unwrap_or (after s e) s) es) ∙ nothing_told (unwrap_or (after s e) s) es none.1

pub behind_none : (s : LocalState) (es more : List Entry) → NoTell more → mappings_from s (es ++ more) ≡ mappings_from s es
behind_none s [] more none = nothing_told s more none
behind_none s (e ∷ es) more none = ap (λ ms. mapping_at s e ++ ms) (behind_none (unwrap_or (after s e) s) es more none)

no_both : (es fs : List Entry) → NoTell es → NoTell fs → NoTell (es ++ fs)
no_both [] fs first rest = rest
no_both (e ∷ es) fs first rest = (first.0, no_both es fs first.1 rest)

-- the log is longer by such entries
abbrev pub Silent : LogState → LogState → Type 0
Silent l l' = (more : List Entry) × (l'.entries ≡ l.entries ++ more) × NoTell more

pub silent_same : (l : LogState) → Silent l l
silent_same l = ([], sym (append-nil l.entries), tt)

pub silent_then : (l m n : LogState) → Silent l m → Silent m n → Silent l n
silent_then l m n (first, is, none) (rest, then_is, more) =
    (first ++ rest, then_is ∙ (ap (λ es. es ++ rest) is ∙ append_assoc l.entries first rest), no_both first rest none more)

pub steps_silent : (l : LogState) (es : List Entry) → NoTell es → Silent l (with_steps l es)
steps_silent l [] none = silent_same l
steps_silent l (e ∷ es) none = silent_then l (with_entry l e l.home) (with_steps (with_entry l e l.home) es) (e ∷ [], refl, (none.0, tt)) (steps_silent (with_entry l e l.home) es none.1)

frame_tells : (b : Bool) (s : LocalState) → mapping_at s (if b then Bad else Finish) ≡ []
frame_tells true s = refl
frame_tells false s = refl

pub made_tells : (m : Model) (msg : EventMsg) → NoTell (made_by m msg)
made_tells m (Happened session event) = (λ s. refl, tt)
made_tells m (Dequeued session b) = by_first (is_first (source_queue m) m b)
  where
    by_first : (first : Bool) → NoTell (if first then frame_step m b ∷ [] else [])
    by_first true = (frame_tells (is_marked m b), tt)
    by_first false = tt

pub given_silent : (l : LogState) (held : Option Held) → Silent l (with_given l held)
given_silent l None = (Give ∷ [], refl, (λ s. refl, tt))
given_silent l (Some held) = (Give ∷ [], refl, (λ s. refl, tt))

dqbuf_tells : (s : LocalState) (call : Call) (reply : Reply) → is_dqbuf call ≡ true → mapping_by s call reply ≡ []
dqbuf_tells s (DqBuf t) reply is = refl
dqbuf_tells s call reply is = absurd (false≢true is)

row_silent : (o : Option Errno) (l : LogState) (line : ℕ) (call : Call) → is_dqbuf call ≡ true → Silent l (answered_by o l line call)
row_silent None l line call is = (Called line call (row_from l line call).reply ∷ [], refl, (λ s. dqbuf_tells s call _ is, tt))
row_silent (Some errno) l line call is = (Called line call _ ∷ [], refl, (λ s. dqbuf_tells s call _ is, tt))

at_silent : (way : Way) (h : HandleState) (line : ℕ) (call : Call) → is_dqbuf call ≡ true → Silent h.log (answered_at way h line call).log
at_silent AnsweredHere h line call is = row_silent (first_refusal (row_from h.log line call).refusals) h.log line call is
at_silent (Crosses c) h line call is = silent_same h.log
at_silent Waits h line call is = silent_same h.log
at_silent TouchesMemory h line call is = silent_same h.log

pub awoken_silent : (stage : Stage) (h : HandleState) → ((line : ℕ) (call : Call) → stage ≡ Waiting line call → is_dqbuf call ≡ true) → Silent h.log (awoken stage h).log
awoken_silent Resting h waits = silent_same h.log
awoken_silent (Underway line call) h waits = silent_same h.log
awoken_silent (Waiting line call) h waits = at_silent (way_from h call) h line call (waits line call refl)

waits_dqbuf : (h : HandleState) (line : ℕ) (call : Call) → Keeps h.log h.session h.stage → h.stage ≡ Waiting line call → is_dqbuf call ≡ true
waits_dqbuf h line call keeps is =
    let fits : FitsStage (id_of h.session) (state_of h.log) h.log.away h.log.unanswered (Waiting line call) =
    subst (λ t. FitsStage (id_of h.session) (state_of h.log) h.log.away h.log.unanswered t) is keeps.fits in
    waits_only (id_of h.session) (state_of h.log) call fits.2

pub delivered_silent : (h : HandleState) (msg : EventMsg) (held : Option Held) → Keeps h.log h.session h.stage → Silent h.log (delivered h msg held).log
delivered_silent h msg held keeps =
    let stepped : LogState = with_steps h.log (made_by (state_of h.log).model msg) in
    let logged : HandleState = record h { log = with_given stepped held } in
    silent_then h.log stepped (awoken h.stage logged).log (steps_silent h.log (made_by (state_of h.log).model msg) (made_tells (state_of h.log).model msg))
    (silent_then stepped logged.log (awoken h.stage logged).log (given_silent stepped held) (awoken_silent h.stage logged (λ line call is. waits_dqbuf h line call keeps is)))

-- a call that was executed while events are delivered stops queues
pub free_tells : (x : Slice) (v : Inner) (o : Out) → holds_back x.handle.stage ≡ false → IsOut o x v → NoTell (option_to_list v.executed)
free_tells x v Nowhere free out = subst (λ e. NoTell (option_to_list e)) (sym out.0.executed) tt
free_tells x v (Asked m) free out = subst (λ e. NoTell (option_to_list e)) (sym out.0.executed) tt
free_tells x v (Kept m) free out = subst (λ e. NoTell (option_to_list e)) (sym out.0.executed) tt
free_tells x v (Told r) free out =
    let stops : is_stopping out.call ≡ true = not-false (is_stopping out.call) (sym (ap holds_back out.underway) ∙ free) in
    subst (λ e. NoTell (option_to_list e)) (sym out.executed) (λ s. stopping_tells s out.call out.reply stops, tt)
free_tells x v Astray free out = absurd out

awoken_free : (stage : Stage) (h : HandleState) → h.stage ≡ stage → holds_back stage ≡ false → holds_back (awoken stage h).stage ≡ false
awoken_free Resting h is free = ap holds_back is
awoken_free (Underway line call) h is free = ap holds_back is ∙ free
awoken_free (Waiting line call) h is free = by_way (way_from h call)
  where
    by_way : (way : Way) → holds_back (answered_at way h line call).stage ≡ false
    by_way AnsweredHere = refl
    by_way (Crosses c) = ap holds_back is
    by_way Waits = ap holds_back is
    by_way TouchesMemory = ap holds_back is

pub delivered_free : (h : HandleState) (msg : EventMsg) (held : Option Held) → holds_back h.stage ≡ false → holds_back (delivered h msg held).stage ≡ false
delivered_free h msg held free = awoken_free h.stage _ refl free

-- ---- a process that is told

pub record ToldProcess (p q : ProcessState) : Type 0 where
  pub statements : q.statements ≡ p.statements
  pub raws : q.raws ≡ p.raws
  pub crosses : is_crossing q.status ≡ is_crossing p.status
  pub under_way : crossing q ≡ crossing p
  pub answered : (q.answered ≡ p.answered) ⊎ ((p.status ≡ Blocked) × (q.answered ≡ p.answered + 1))

told_itself : (p : ProcessState) → ToldProcess p p
told_itself p = record { statements = refl; raws = refl; crosses = refl; under_way = refl; answered = inl refl }

blocked_is : (s : Status) → is_blocked s ≡ true → s ≡ Blocked
blocked_is AtRest is = absurd (false≢true is)
blocked_is Crossing is = absurd (false≢true is)
blocked_is Blocked is = refl
blocked_is Lent is = absurd (false≢true is)

told_process : (p : ProcessState) (h : ℕ) (d : Delivery) → ToldProcess p (told p h d)
told_process p h d =
    let q : ProcessState = with_handle p h (delivered (handle_at p h) d.msg d.held) in
    cond_both (is_blocked q.status && is_answered_in q.handles (current_call q)) (rested q) q (ToldProcess p)
    (λ wakes.
    let blocked : p.status ≡ Blocked = blocked_is p.status (and_parts (is_blocked p.status) (is_answered_in q.handles (current_call q)) wakes).0 in
    record {
      statements = refl;
      raws = refl;
      crosses = sym (ap is_crossing blocked);
      under_way = sym (ap (λ s. some_if (is_crossing s) (current p)) blocked);
      answered = inr (blocked, refl);
    })
    (λ stays. record { statements = refl; raws = refl; crosses = refl; under_way = refl; answered = inl refl })

told_each : (g : GuestState) (seat : Seat) (d : Delivery) (m : ℕ) → seat.process < length g.processes → ToldProcess (process_at g m) (process_at (given g seat d) m)
told_each g seat d m within = elim (cases_eq m seat.process) [
  | inl same ↦ subst (λ i. ToldProcess (process_at g i) (process_at (given g seat d) i)) (sym same)
      (subst (ToldProcess (process_at g seat.process)) (sym (get_or-set_same g.processes seat.process (told (process_at g seat.process) seat.handle d) no_process within)) (told_process (process_at g seat.process) seat.handle d))
  | inr other ↦ subst (ToldProcess (process_at g m)) (sym (get_or-set_other g.processes seat.process m (told (process_at g seat.process) seat.handle d) no_process other)) (told_itself (process_at g m))
]

-- ---- what the moved slice has

-- the slice before and after, and what is behind it then
record Taken (w u : WorldState) (rows : List (List Inner)) (n h : ℕ) : Type 0 where
  named : IsHandle w n h
  inner : Inner
  sound : IsSoundSlice (slice_at u n h) inner
  out : out_at u n h ≡ out_at w n h
  id : id_at u n h ≡ id_at w n h
  session : (handle_at (process_at u.guest n) h).session ≡ (handle_at (process_at w.guest n) h).session
  later : LaterShare (share_at w rows n h) (share_of w.script.model (handle_at (process_at u.guest n) h) inner (id_at u n h))

some_id : (id : Option ℕ) (es ds : List Delivery) (d : Delivery) → events_for id es ≡ d ∷ ds → (k : ℕ) × (id ≡ Some k)
some_id None es ds d is = absurd (not_cons d ds is)
  where
    not_cons : (d : Delivery) (ds : List Delivery) → [] ≡ d ∷ ds → ⊥
    not_cons d ds same = cc
some_id (Some k) es ds d is = (k, refl)

taken_slice : (w u : WorldState) (rows : List (List Inner)) (n h : ℕ) → IsSoundBy w rows → Takes (slice_at w n h) (slice_at u n h) → Taken w u rows n h
taken_slice w u rows n h sound (d, ds, first, after) = by_holding (holds_back (slice_at w n h).handle.stage) refl
  where
    named : IsHandle w n h
    named = (let some : _ = some_id (id_at w n h) w.events ds d first in has_handle w n h some.0 some.1)

    by_holding : (b : Bool) → holds_back (slice_at w n h).handle.stage ≡ b → Taken w u rows n h
    by_holding true holds =
        let x : Slice = slice_at w n h in
        let v : Inner = inner_at w rows n h in
        let is : slice_at u n h ≡ record x { held = x.held ++ d ∷ []; events = ds } = after ∙ ap (λ b. slice_taken b d ds x) holds in
        let handle : handle_at (process_at u.guest n) h ≡ handle_at (process_at w.guest n) h = ap (λ (y : Slice). y.handle) is in
        let out : out_at u n h ≡ out_at w n h = ap (λ (y : Slice). y.out) is in
        let id : id_at u n h ≡ id_at w n h = λ j. id_ahead (handle j) (out j) in
        record {
          named = named;
          inner = v;
          sound = subst (λ y. IsSoundSlice y v) (sym is) (held_sound x v d ds (sound.slices n h named) holds first);
          out = out;
          id = id;
          session = ap (λ (y : HandleState). y.session) handle;
          later = record {
            mappings = ap (λ (y : HandleState). mappings_of w.script.model y.log.entries v.executed) handle;
            id = λ i own. id ∙ own;
            more = [];
            frames = sym (append-nil v.frames);
          };
        }
    by_holding false free =
        let x : Slice = slice_at w n h in
        let v : Inner = inner_at w rows n h in
        let m : Model = w.script.model in
        let is : slice_at u n h ≡ record x { handle = delivered x.handle d.msg d.held; events = ds } = after ∙ ap (λ b. slice_taken b d ds x) free in
        let handle : handle_at (process_at u.guest n) h ≡ delivered x.handle d.msg d.held = ap (λ (y : Slice). y.handle) is in
        let out : out_at u n h ≡ out_at w n h = ap (λ (y : Slice). y.out) is in
        let id : id_at u n h ≡ id_at w n h = (λ j. id_ahead (handle j) (out j)) ∙ delivered_ahead x.handle d.msg d.held x.out in
        let slice : IsSoundSlice x v = sound.slices n h named in
        let goes : GoesOnSoundly (slice_at u n h) v = taking_keeps x (slice_at u n h) v slice (d, ds, first, after) in
        let now : Inner = goes.0 in
        let silent : Silent x.handle.log (delivered x.handle d.msg d.held).log = delivered_silent x.handle d.msg d.held slice.handle in
        let free_then : holds_back (slice_at u n h).handle.stage ≡ false = ap (λ (y : HandleState). holds_back y.stage) handle ∙ delivered_free x.handle d.msg d.held free in
        let none : NoTell (option_to_list v.executed) = free_tells x v x.out free slice.out in
        let none_then : NoTell (option_to_list now.executed) = free_tells (slice_at u n h) now (slice_at u n h).out free_then goes.3.out in
        let old : mappings_of m x.handle.log.entries v.executed ≡ mappings_from (opening m) x.handle.log.entries = behind_none (opening m) x.handle.log.entries (option_to_list v.executed) none in
        let new : mappings_of m (delivered x.handle d.msg d.held).log.entries now.executed ≡ mappings_from (opening m) x.handle.log.entries =
        behind_none (opening m) (delivered x.handle d.msg d.held).log.entries (option_to_list now.executed) none_then
        ∙ (ap (mappings_from (opening m)) silent.1 ∙ behind_none (opening m) x.handle.log.entries silent.0 silent.2) in
        record {
          named = named;
          inner = now;
          sound = goes.3;
          out = out;
          id = id;
          session = ap (λ (y : HandleState). y.session) handle ∙ delivered_session x.handle d.msg d.held;
          later = record {
            mappings = ap (λ (y : HandleState). mappings_of m y.log.entries now.executed) handle ∙ (new ∙ sym old);
            id = λ i own. id ∙ own;
            more = goes.1;
            frames = goes.2;
          };
        }

-- ---- the world

-- a raw line that is answered was answered before: a process that is blocked has a call on a handle
raw_before : (w : WorldState) (n k : ℕ) (q : ProcessState) (s : Statement) (chain : RawChain) → IsDriver w.script w.guest → ToldProcess (process_at w.guest n) q → slice_get q.statements k ≡ Some s → s.what ≡ Raw chain → k < q.answered →
    k < (process_at w.guest n).answered
raw_before w n k q s chain driver t at what before = by_answered t.answered
  where
    by_answered : (q.answered ≡ (process_at w.guest n).answered) ⊎ (((process_at w.guest n).status ≡ Blocked) × (q.answered ≡ (process_at w.guest n).answered + 1)) → k < (process_at w.guest n).answered
    by_answered (inl same) = omega (arith, before, same)
    by_answered (inr (blocked, more)) = elim (cases_eq k (process_at w.guest n).answered) [
      | inr other ↦ omega (arith, before, more, other)
      | inl same ↦ absurd (none_blocked same blocked)
    ]
      where
        none_blocked : k ≡ (process_at w.guest n).answered → (process_at w.guest n).status ≡ Blocked → ⊥
        none_blocked same blocked =
            let p : ProcessState = process_at w.guest n in
            let now : current p ≡ Some s = ap (λ ss. slice_get ss p.answered) (sym t.statements) ∙ (ap (λ i. slice_get q.statements i) (sym same) ∙ at) in
            let none : current_call p ≡ None = ap (λ o. option_and_then asked_by o) now ∙ ap (asked_in s.line) what in
            let within : n < length w.guest.processes = place_within (λ (r : ProcessState). is_blocked r.status) w.guest.processes n no_process refl (ap is_blocked blocked) in
            subst (λ o. MayBeRaw Blocked o) none (subst (λ st. MayBeRaw st (current_call p)) blocked (driver.orderly n within).raw)

pump_world : (w : WorldState) (rows : List (List Inner)) (d : Delivery) (ds : List Delivery) (g : GuestState) → IsSoundBy w rows → w.events ≡ d ∷ ds → MovesOne Pump w (took w g ds) → IsDriver w.script g → g.seats ≡ w.guest.seats →
    g.pump.room ≡ w.guest.pump.room → length g.processes ≡ length w.guest.processes → All (λ (e : Delivery). IsSome (seat_of w.guest e.session)) g.pump.held → ((m : ℕ) → ToldProcess (process_at w.guest m) (process_at g m)) →
    left_of (took w g ds) < left_of w → IsSound (took w g ds)
pump_world w rows d ds g sound is moves driver seats room count held told_all falls = (
  rows_with w u rows n h t.inner,
  record {
    script = sound.script;
    lines = driver;
    slices = slices_lift w u rows n h t.inner sound.slices stay moves.others t.sound;
    ids = record {
      below = λ m k id named own. sound.ids.below m k id (stay m k named) (sym (ids m k) ∙ own);
      there = λ id within. (let at : _ = sound.ids.there id within in (at.0, at.1, back at.0 at.1 at.2, ids at.0 at.1 ∙ at.3));
      once = λ m k i j id first second own other. sound.ids.once m k i j id (stay m k first) (stay i j second) (sym (ids m k) ∙ own) (sym (ids i j) ∙ other);
      seats = λ m k id named own. ap (λ ss. get_or ss id None) seats ∙ sound.ids.seats m k id (stay m k named) (sym (sessions m k) ∙ own);
      seated = λ id seat at. sessions seat.process seat.handle ∙ sound.ids.seated id seat (sym (ap (λ ss. get_or ss id None) seats) ∙ at);
      places = ap length seats ∙ sound.ids.places;
    };
    device = sound.device;
    mapped = journal_later (all_shares w rows 0 w.guest.processes) (all_shares u (rows_with w u rows n h t.inner) 0 g.processes) w.host.device.region
        (shares_lift w u rows n h t.inner sound.lines driver refl moves.others (λ named. t.later)) sound.mapped;
    said = record {
      sent = seats_all ds (All-tail (λ (e : Delivery). IsSome (seat_of w.guest e.session)) d ds (subst (All (λ (e : Delivery). IsSome (seat_of w.guest e.session))) is sound.said.sent));
      held = seats_all g.pump.held held;
      rising = sound.said.rising;
      waiting = λ k e within. (let at : _ = sound.said.waiting k e within in (at.0, at.1, back at.0 at.1 at.2, outs at.0 at.1 ∙ at.3, ids at.0 at.1 ∙ at.4));
    };
    raws = record {
      answered = λ m k s chain at what before. (
          ap (λ rs. get_or rs k None) (told_all m).raws
          ∙ sound.raws.answered m k s chain (ap (λ ss. slice_get ss k) (sym (told_all m).statements) ∙ at) what (raw_before w m k (process_at g m) s chain sound.lines (told_all m) at what before));
      out = λ m. subst (IsLineOut w m) (sym (told_all m).under_way) (sound.raws.out m);
    };
    quiet = record {
      one = λ m. sound.quiet.one m ∙ ap one_if (sym (told_all m).crosses);
      chains = (let all = sound.quiet.chains in let long = ap length is in omega (arith, all, long));
      room = room ∙ (sound.quiet.room ∙ ap (λ k. handle_room * k) (sym count));
    };
    within = record {
      jobs = (let jobs = sound.within.jobs in omega (arith, jobs, falls));
      frames = λ id. made_within (session_of w.host.device id) (sound.within.frames id);
    };
  },
)
  where
    u : WorldState
    u = took w g ds

    n : ℕ
    n = moves.process

    h : ℕ
    h = moves.handle

    t : Taken w (took w g ds) rows moves.process moves.handle
    t = taken_slice w (took w g ds) rows moves.process moves.handle sound moves.does

    stay : (m k : ℕ) → IsHandle (took w g ds) m k → IsHandle w m k
    stay m k named = handles_stay w.script w (took w g ds) sound.lines driver m k named

    back : (m k : ℕ) → IsHandle w m k → IsHandle (took w g ds) m k
    back m k named = handles_stay w.script (took w g ds) w driver sound.lines m k named

    place : (m k : ℕ) → ((m ≡ moves.process) × (k ≡ moves.handle)) ⊎ ¬ ((m ≡ moves.process) × (k ≡ moves.handle))
    place m k = elim (cases_eq m moves.process) [
      | inr apart ↦ inr (λ both. apart both.0)
      | inl same ↦ elim (cases_eq k moves.handle) [ inl is ↦ inl (same, is) | inr apart ↦ inr (λ both. apart both.1) ]
    ]

    outs : (m k : ℕ) → out_at (took w g ds) m k ≡ out_at w m k
    outs m k = elim (place m k) [
      | inl here ↦ subst (λ i. out_at (took w g ds) i k ≡ out_at w i k) (sym here.0) (subst (λ j. out_at (took w g ds) moves.process j ≡ out_at w moves.process j) (sym here.1) t.out)
      | inr other ↦ ap (λ (x : Slice). x.out) (moves.others m k other)
    ]

    ids : (m k : ℕ) → id_at (took w g ds) m k ≡ id_at w m k
    ids m k = elim (place m k) [
      | inl here ↦ subst (λ i. id_at (took w g ds) i k ≡ id_at w i k) (sym here.0) (subst (λ j. id_at (took w g ds) moves.process j ≡ id_at w moves.process j) (sym here.1) t.id)
      | inr other ↦ ap (λ (x : Slice). id_ahead x.handle x.out) (moves.others m k other)
    ]

    sessions : (m k : ℕ) → (handle_at (process_at g m) k).session ≡ (handle_at (process_at w.guest m) k).session
    sessions m k = elim (place m k) [
      | inl here ↦ subst (λ i. (handle_at (process_at g i) k).session ≡ (handle_at (process_at w.guest i) k).session) (sym here.0)
          (subst (λ j. (handle_at (process_at g moves.process) j).session ≡ (handle_at (process_at w.guest moves.process) j).session) (sym here.1) t.session)
      | inr other ↦ ap (λ (x : Slice). x.handle.session) (moves.others m k other)
    ]

    seats_all : (es : List Delivery) → All (λ (e : Delivery). IsSome (seat_of w.guest e.session)) es → AreOfHandles (took w g ds) es
    seats_all es all = subst (λ ss. All (λ (e : Delivery). IsSome (get_or ss e.session None)) es) (sym seats) all

    made_within : (o : Option SessionState) → MadeWithin (left_of w) (statement_count w.script) o → MadeWithin (left_of (took w g ds)) (statement_count w.script) o
    made_within None few = tt
    made_within (Some s) few = omega (arith, few, falls)

-- ---- the driver's part

-- what is under way of a handle that holds nothing back leads on
pub told_may : (x : Slice) (v : Inner) (d : Delivery) (ds : List Delivery) → IsSoundSlice x v → holds_back x.handle.stage ≡ false → x.events ≡ d ∷ ds → Delivers (driver_state x) d.msg d.held
told_may x v d ds sound free first =
    let leads : _ = told_leads x v x.out (phase x v x.out free sound.out) sound.seated in
    let none : x.held ≡ [] = subst (λ b. HoldsFew b x.held) free sound.held in
    let under : under_way x ≡ unsent_by d ∷ (map unsent_by ds ++ unsent_in x.session) = λ j. map unsent_by (none j ++ first j) ++ unsent_in x.session in
    let one : LeadAll leads.0 (driver_state x) (unsent_by d ∷ (map unsent_by ds ++ unsent_in x.session)) (told_state v) = subst (λ es. LeadAll leads.0 (driver_state x) es (told_state v)) under leads.1 in
    leads_deliver leads.0 (driver_state x) one.0 (unsent_by d) one.1

pump_sound : (w : WorldState) (rows : List (List Inner)) (d : Delivery) (ds : List Delivery) → IsSoundBy w rows → w.events ≡ d ∷ ds → left_of (took w (taken w.guest d) ds) < left_of w → IsSound (took w (taken w.guest d) ds)
pump_sound w rows d ds sound is falls = by_holding (guest_holds w.guest seat) refl
  where
    at : SeatedEvent w d
    at = seated_event w rows d ds sound is

    seat : Seat
    seat = (seated_event w rows d ds sound is).seat

    some : All (λ (e : Delivery). IsSome (seat_of w.guest e.session)) (d ∷ ds)
    some = subst (All (λ (e : Delivery). IsSome (seat_of w.guest e.session))) is sound.said.sent

    moves : MovesOne Pump w (took w (taken w.guest d) ds)
    moves = pump_first w rows d ds sound is

    of_guest : (g : GuestState) → taken w.guest d ≡ g → IsDriver w.script g → g.seats ≡ w.guest.seats → g.pump.room ≡ w.guest.pump.room → length g.processes ≡ length w.guest.processes →
        All (λ (e : Delivery). IsSome (seat_of w.guest e.session)) g.pump.held → ((m : ℕ) → ToldProcess (process_at w.guest m) (process_at g m)) → IsSound (took w (taken w.guest d) ds)
    of_guest g same driver seats room count held told_all =
        subst (λ y. IsSound (took w y ds)) (sym same)
        (pump_world w rows d ds g sound is (subst (λ y. MovesOne Pump w (took w y ds)) same moves) driver seats room count held told_all (subst (λ y. left_of (took w y ds) < left_of w) same falls))

    by_holding : (b : Bool) → guest_holds w.guest seat ≡ b → IsSound (took w (taken w.guest d) ds)
    by_holding true holds =
        let same : taken w.guest d ≡ held_back w.guest d = ap (λ o. taken_at o w.guest d) at.is ∙ ap (λ b. if b then held_back w.guest d else given w.guest seat d) holds in
        let old : IsDriver w.script w.guest = sound.lines in
        of_guest (held_back w.guest d) same
        (record { model = old.model; count = old.count; few = old.few; numbered = old.numbered; orderly = old.orderly; seats = old.seats })
        refl refl refl (All-push (λ (e : Delivery). IsSome (seat_of w.guest e.session)) w.guest.pump.held d sound.said.held (All-head (λ (e : Delivery). IsSome (seat_of w.guest e.session)) d ds some))
        (λ m. told_itself (process_at w.guest m))
    by_holding false gives =
        let same : taken w.guest d ≡ given w.guest seat d = ap (λ o. taken_at o w.guest d) at.is ∙ ap (λ b. if b then held_back w.guest d else given w.guest seat d) gives in
        let n : ℕ = seat.process in
        let h : ℕ = seat.handle in
        let x : Slice = slice_at w n h in
        let named : IsHandle w n h = handle_there w.guest n h at.within.0 at.within.1 in
        let slice : IsSoundSlice x (inner_at w rows n h) = sound.slices n h named in
        let own : id_at w n h ≡ Some d.session = id_kept x (inner_at w rows n h) (out_at w n h) d.session slice.out at.session in
        let orderly : IsOrderly w.script.model (lines_at w.script n) (process_at w.guest n) = sound.lines.orderly n at.within.0 in
        let free : holds_back x.handle.stage ≡ false =
        sym (holds_by (process_at w.guest n).status (current_call (process_at w.guest n)) h (handle_at (process_at w.guest n) h) (orderly.each h at.within.1).keeps (orderly.out h at.within.1)) ∙ gives in
        let first : x.events ≡ d ∷ events_for (id_at w n h) ds = ap (events_for (id_at w n h)) is ∙ own_first (id_at w n h) ds d own in
        let can : CanTell w.guest.processes seat d = told_may x (inner_at w rows n h) d (events_for (id_at w n h) ds) slice free first in
        let driver : IsDriver w.script (given w.guest seat d) = (all_told_driver w.script w.guest seat (d ∷ []) sound.lines at.within (can, tt)).0 in
        of_guest (given w.guest seat d) same driver refl refl (length-set w.guest.processes n (told (process_at w.guest n) h d)) sound.said.held (λ m. told_each w.guest seat d m at.within.0)

-- ---- Pump

not_idle : Did ≡ Idle → ⊥
not_idle same = cc

pump_by : (w : WorldState) (rows : List (List Inner)) (events : List Delivery) (g : GuestState) (left : Inbox) (posted : Outbox) → IsSoundBy w rows → w.events ≡ events → PumpsFrom events w.guest (inbox_of w) Did g left posted →
    left_of (after_driver w g left posted) < left_of w → IsSound (after_driver w g left posted)
pump_by w rows [] g left posted sound is (turn, same, kept, none) falls = absurd (not_idle turn)
pump_by w rows (d ∷ ds) g left posted sound is (turn, takes, leaves, posts) falls =
    let ends : after_driver w g left posted ≡ took w (taken w.guest d) ds =
    ap (λ i. after_driver w g i posted) leaves ∙ (ap (λ o. after_driver w g (record { replies = w.replies; events = ds }) o) posts
    ∙ (λ j. record w { guest = takes j; requests = append-nil w.requests j; chains = w.chains + 1; events = ds })) in
    subst IsSound (sym ends) (pump_sound w rows d ds sound is (subst (λ y. left_of y < left_of w) ends falls))

pub pump_keeps : (w w' : WorldState) → IsSound w → Steps w Pump w' → IsSound w'
pump_keeps w w' sound (may, (g, left, posted, does, after)) =
    let falls : left_of w' < left_of w = left_falls w w' Pump sound (may, (g, left, posted, does, after)) in
    subst IsSound (sym after) (pump_by w sound.0 w.events g left posted sound.1 refl does (subst (λ y. left_of y < left_of w) after falls))
