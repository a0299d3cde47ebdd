-- How many frames failed by the logs: what a message, a statement and a lease add to that.
use Rattle.std.proofs.Common.{◌≡◌, ℕ, ◌+◌, ◌<◌, List, [], ◌∷◌, ◌++◌, Option, Some, None, length, get_or, set, map, refl, sym, ap, ◌∙◌, arith, inl, inr}
use Rattle.std.specs.Prelude.{sum_by, ◌&&◌}
use Rattle.std.specs.List.{flat_map}
use Rattle.std.specs.Option.{unwrap_or}
use Rattle.std.proofs.lemmas.Bool.{cases_lt, cond_both}
use Rattle.std.proofs.lemmas.List.{set_past, length-set, get_or-set_same}
use Rattle.std.proofs.lemmas.List.Sums.{sum_by-cons, sum_by-append, sum_by-set}
use Rattle.v4l_const.specs.declared.errno.Errno.{Errno}
use Rattle.v4l_const.specs.declared.model.Model.{Model}
use Rattle.v4l_rules.specs.Refusals.{first_refusal}
use Rattle.vm_frame.specs.declared.mem.Held.{Held}
use Rattle.vm_local.specs.declared.call.Call.{Call}
use Rattle.vm_local.specs.declared.entry.Entry.{Entry}
use Rattle.vm_local.specs.declared.entry.Entry.TheVariants.{Called, Finish, Bad, Give}
use Rattle.vm_local.specs.declared.reply.Reply.{Reply}
use Rattle.vm_local.specs.State.{LocalState, opening}
use Rattle.vm_local.specs.Log.{after, replay, replay_from}
use Rattle.vm_log.specs.LegalLog.{LogState, state_of, with_entry}
use Rattle.vm_wire.specs.declared.delivery.Delivery.{Delivery}
use Rattle.vm_wire.specs.declared.event.EventMsg.{EventMsg}
use Rattle.vm_exchange.specs.Messages.{made_by, steps_of, flight_of}
use Rattle.vm_exchange.specs.declared.way.Way.{Way}
use Rattle.vm_exchange.specs.declared.way.Way.TheVariants.{Crosses, AnsweredHere, Waits, TouchesMemory}
use Rattle.vm_handle.specs.Answers.{row_from, answered_by, with_steps, with_given, answered_at, awoken, delivered}
use Rattle.vm_handle.specs.Handle.{HandleState, way_from}
use Rattle.vm_handle.specs.declared.stage.Stage.{Stage}
use Rattle.vm_handle.specs.declared.stage.Stage.TheVariants.{AtRest, Underway, Waiting}
use Rattle.vm_guest.specs.Events.{woken, told, told_at, all_told}
use Rattle.vm_guest.specs.Guest.{no_process, process_in}
use Rattle.vm_guest.specs.Orderly.{IsSeat}
use Rattle.vm_guest.specs.Process.{ProcessState, is_blocked, is_answered_in, current_call, handle_at, with_handle, no_handle, rested}
use Rattle.vm_guest.specs.declared.seat.Seat.{Seat}
use Rattle.vm_commute.proofs.EventsLemmas.{by_first}
use Rattle.vm_stands.proofs.AheadLemmas.{call_model}
use Rattle.vm_stands.proofs.FlightLemmas.{step_model}
use Rattle.vm_realm.specs.Left.{one_if_bad, bad_in}

-- ---- sums

pub set_same : {A : Type 0} (f : A → ℕ) (xs : List A) (i : ℕ) (y d : A) → f y ≡ f (get_or xs i d) → sum_by f (set xs i y) ≡ sum_by f xs
set_same f xs i y d is = elim (cases_lt i (length xs)) [ inl within ↦ omega (arith, is, sum_by-set f xs i y d within) | inr past ↦ ap (sum_by f) (set_past xs i y past) ]

pub set_adds : {A : Type 0} (f : A → ℕ) (xs : List A) (i k : ℕ) (y d : A) → i < length xs → f y ≡ f (get_or xs i d) + k → sum_by f (set xs i y) ≡ sum_by f xs + k
set_adds f xs i k y d within is = omega (arith, is, sum_by-set f xs i y d within)

pub sum_mapped : {A B : Type 0} (f : B → ℕ) (g : A → B) (xs : List A) → sum_by f (map g xs) ≡ sum_by (λ x. f (g x)) xs
sum_mapped f g [] = refl
sum_mapped f g (x ∷ xs) = omega (arith, sum_by-cons f (g x) (map g xs), sum_mapped f g xs, sum_by-cons (λ y. f (g y)) x xs)

pub sum_flat : {A B : Type 0} (f : B → ℕ) (g : A → List B) (xs : List A) → sum_by f (flat_map g xs) ≡ sum_by (λ x. sum_by f (g x)) xs
sum_flat f g [] = refl
sum_flat f g (x ∷ xs) = omega (arith, sum_by-append f (g x) (flat_map g xs), sum_flat f g xs, sum_by-cons (λ y. sum_by f (g y)) x xs)

-- ---- the model of a state

after_model : (s t : LocalState) (e : Entry) → after s e ≡ Some t → t.model ≡ s.model
after_model s t (Called line call reply) leads = call_model s t line call reply leads
after_model s t Finish leads = step_model s t Finish refl leads
after_model s t Bad leads = step_model s t Bad refl leads
after_model s t Give leads = step_model s t Give refl leads

some_state : (s t : LocalState) → ◌≡◌ {A = Option LocalState} (Some s) (Some t) → s ≡ t
some_state s t same = cc

pub replay_model : (es : List Entry) (s t : LocalState) → replay_from s es ≡ Some t → t.model ≡ s.model
replay_model [] s t leads = ap (λ (x : LocalState). x.model) (sym (some_state s t leads))
replay_model (e ∷ es) s t leads =
    let by : _ = by_first s t e es leads in
    replay_model es by.0 t by.2 ∙ after_model s by.0 e by.1

pub entry_keeps_model : (s t : LocalState) (e : Entry) → after s e ≡ Some t → t.model ≡ s.model
entry_keeps_model s t e leads = after_model s t e leads

-- legal or not, a log's state is of the log's model
pub state_model : (l : LogState) → (state_of l).model ≡ l.model
state_model l = by_replay (replay l.model l.entries) refl
  where
    by_replay : (o : Option LocalState) → replay l.model l.entries ≡ o → (unwrap_or o (opening l.model)).model ≡ l.model
    by_replay None is = refl
    by_replay (Some t) is = replay_model l.entries (opening l.model) t is

-- ---- entries

pub bad_more : (es : List Entry) (e : Entry) → bad_in (es ++ e ∷ []) ≡ bad_in es + one_if_bad e
bad_more es e = omega (arith, sum_by-append one_if_bad es (e ∷ []), sum_by-cons one_if_bad e [])

pub called_none : (es : List Entry) (line : ℕ) (call : Call) (reply : Reply) → bad_in (es ++ Called line call reply ∷ []) ≡ bad_in es
called_none es line call reply = omega (arith, bad_more es (Called line call reply))

given_none : (es : List Entry) → bad_in (es ++ Give ∷ []) ≡ bad_in es
given_none es = omega (arith, bad_more es Give)

-- how many frames failed by a message
abbrev pub marks : Model → EventMsg → ℕ
marks m msg = bad_in (steps_of m msg)

pub flight_marks : (m : Model) (msgs : List EventMsg) → bad_in (flight_of m msgs) ≡ sum_by (marks m) msgs
flight_marks m msgs = sum_flat one_if_bad (steps_of m) msgs

pub made_marks : (m : Model) (msg : EventMsg) → marks m msg ≡ bad_in (made_by m msg)
made_marks m msg = given_none (made_by m msg)

-- ---- one handle

abbrev pub in_handle : HandleState → ℕ
in_handle h = bad_in h.log.entries

steps_add : (l : LogState) (es : List Entry) → bad_in (with_steps l es).entries ≡ bad_in l.entries + bad_in es
steps_add l [] = omega arith
steps_add l (e ∷ es) = omega (arith, steps_add (with_entry l e l.home) es, bad_more l.entries e, sum_by-cons one_if_bad e es)

given_adds : (l : LogState) (held : Option Held) → bad_in (with_given l held).entries ≡ bad_in l.entries
given_adds l None = given_none l.entries
given_adds l (Some held) = given_none l.entries

pub here_adds : (o : Option Errno) (l : LogState) (line : ℕ) (call : Call) → bad_in (answered_by o l line call).entries ≡ bad_in l.entries
here_adds None l line call = called_none l.entries line call (row_from l line call).reply
here_adds (Some errno) l line call = called_none l.entries line call _

answered_adds : (way : Way) (h : HandleState) (line : ℕ) (call : Call) → in_handle (answered_at way h line call) ≡ in_handle h
answered_adds AnsweredHere h line call = here_adds (first_refusal (row_from h.log line call).refusals) h.log line call
answered_adds (Crosses c) h line call = refl
answered_adds Waits h line call = refl
answered_adds TouchesMemory h line call = refl

awoken_adds : (stage : Stage) (h : HandleState) → in_handle (awoken stage h) ≡ in_handle h
awoken_adds AtRest h = refl
awoken_adds (Underway line call) h = refl
awoken_adds (Waiting line call) h = answered_adds (way_from h call) h line call

pub delivered_adds : (m : Model) (h : HandleState) (msg : EventMsg) (held : Option Held) → h.log.model ≡ m → in_handle (delivered h msg held) ≡ in_handle h + marks m msg
delivered_adds m h msg held is =
    let made : List Entry = made_by (state_of h.log).model msg in
    let logged : LogState = with_steps h.log made in
    let same : bad_in made ≡ marks m msg = ap (λ k. bad_in (made_by k msg)) (state_model h.log ∙ is) ∙ sym (made_marks m msg) in
    omega (arith, awoken_adds h.stage (record h { log = with_given logged held }), given_adds logged held, steps_add h.log made, same)

-- its model stays

steps_keep_model : (l : LogState) (es : List Entry) → (with_steps l es).model ≡ l.model
steps_keep_model l [] = refl
steps_keep_model l (e ∷ es) = steps_keep_model (with_entry l e l.home) es

given_keeps_model : (l : LogState) (held : Option Held) → (with_given l held).model ≡ l.model
given_keeps_model l None = refl
given_keeps_model l (Some held) = refl

here_keeps_model : (o : Option Errno) (l : LogState) (line : ℕ) (call : Call) → (answered_by o l line call).model ≡ l.model
here_keeps_model None l line call = refl
here_keeps_model (Some errno) l line call = refl

answered_keeps_model : (way : Way) (h : HandleState) (line : ℕ) (call : Call) → (answered_at way h line call).log.model ≡ h.log.model
answered_keeps_model AnsweredHere h line call = here_keeps_model (first_refusal (row_from h.log line call).refusals) h.log line call
answered_keeps_model (Crosses c) h line call = refl
answered_keeps_model Waits h line call = refl
answered_keeps_model TouchesMemory h line call = refl

awoken_keeps_model : (stage : Stage) (h : HandleState) → (awoken stage h).log.model ≡ h.log.model
awoken_keeps_model AtRest h = refl
awoken_keeps_model (Underway line call) h = refl
awoken_keeps_model (Waiting line call) h = answered_keeps_model (way_from h call) h line call

pub delivered_keeps_model : (h : HandleState) (msg : EventMsg) (held : Option Held) → (delivered h msg held).log.model ≡ h.log.model
delivered_keeps_model h msg held =
    let logged : LogState = with_steps h.log (made_by (state_of h.log).model msg) in
    awoken_keeps_model h.stage (record h { log = with_given logged held }) ∙ (given_keeps_model logged held ∙ steps_keep_model h.log (made_by (state_of h.log).model msg))

-- ---- processes

abbrev pub in_process : ProcessState → ℕ
in_process p = sum_by in_handle p.handles

abbrev pub in_all : List ProcessState → ℕ
in_all ps = sum_by in_process ps

-- a handle is exchanged for one whose log has as many
pub handle_same : (p q : ProcessState) (h : ℕ) (x : HandleState) → q.handles ≡ set p.handles h x → in_handle x ≡ in_handle (handle_at p h) → in_process q ≡ in_process p
handle_same p q h x is same = ap (sum_by in_handle) is ∙ set_same in_handle p.handles h x no_handle same

woken_handles : (q : ProcessState) → (woken q).handles ≡ q.handles
woken_handles q =
    cond_both (is_blocked q.status && is_answered_in q.handles (current_call q)) (rested q) q (λ (x : ProcessState). x.handles ≡ q.handles) (λ t. refl) (λ t. refl)

told_handles : (p : ProcessState) (h : ℕ) (d : Delivery) → (told p h d).handles ≡ set p.handles h (delivered (handle_at p h) d.msg d.held)
told_handles p h d = woken_handles (with_handle p h (delivered (handle_at p h) d.msg d.held))

told_adds : (m : Model) (p : ProcessState) (h : ℕ) (d : Delivery) → h < length p.handles → (handle_at p h).log.model ≡ m → in_process (told p h d) ≡ in_process p + marks m d.msg
told_adds m p h d within is =
    ap (sum_by in_handle) (told_handles p h d)
    ∙ set_adds in_handle p.handles h (marks m d.msg) (delivered (handle_at p h) d.msg d.held) no_handle within (delivered_adds m (handle_at p h) d.msg d.held is)

-- the seat is that of a handle of this model
abbrev pub SitsIn : Model → List ProcessState → Seat → Type 0
SitsIn m ps seat = IsSeat ps seat × ((handle_at (process_in ps seat.process) seat.handle).log.model ≡ m)

pub told_at_adds : (m : Model) (ps : List ProcessState) (seat : Seat) (d : Delivery) → SitsIn m ps seat → in_all (told_at ps seat d) ≡ in_all ps + marks m d.msg
told_at_adds m ps seat d (within, is) =
    let p : ProcessState = process_in ps seat.process in
    set_adds in_process ps seat.process (marks m d.msg) (told p seat.handle d) no_process within.0 (told_adds m p seat.handle d within.1 is)

told_at_sits : (m : Model) (ps : List ProcessState) (seat : Seat) (d : Delivery) → SitsIn m ps seat → SitsIn m (told_at ps seat d) seat
told_at_sits m ps seat d (within, is) =
    let p : ProcessState = process_in ps seat.process in
    let x : HandleState = delivered (handle_at p seat.handle) d.msg d.held in
    let handles : (process_in (told_at ps seat d) seat.process).handles ≡ set p.handles seat.handle x =
    ap (λ (q : ProcessState). q.handles) (get_or-set_same ps seat.process (told p seat.handle d) no_process within.0) ∙ told_handles p seat.handle d in
    let there : length (set p.handles seat.handle x) ≡ length p.handles = length-set p.handles seat.handle x in
    let handle : handle_at (process_in (told_at ps seat d) seat.process) seat.handle ≡ x =
    ap (λ hs. get_or hs seat.handle no_handle) handles ∙ get_or-set_same p.handles seat.handle x no_handle within.1 in
    let first : seat.process < length ps = within.0 in
    let second : seat.handle < length p.handles = within.1 in (
      (omega (arith, first, length-set ps seat.process (told p seat.handle d)), omega (arith, second, there, ap length handles)),
      ap (λ (y : HandleState). y.log.model) handle ∙ (delivered_keeps_model (handle_at p seat.handle) d.msg d.held ∙ is),
    )

pub all_told_adds : (m : Model) (ds : List Delivery) (ps : List ProcessState) (seat : Seat) → SitsIn m ps seat → in_all (all_told ps seat ds) ≡ in_all ps + sum_by (λ d. marks m d.msg) ds
all_told_adds m [] ps seat sits = omega arith
all_told_adds m (d ∷ ds) ps seat sits =
    omega (arith, all_told_adds m ds (told_at ps seat d) seat (told_at_sits m ps seat d sits), told_at_adds m ps seat d sits, sum_by-cons (λ (x : Delivery). marks m x.msg) d ds)
