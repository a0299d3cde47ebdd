-- What the steps keep of the order of the processes, and hence of the driver.
use Rattle.std.proofs.Common.{◌≡◌, ◌≢◌, ◌<◌, ◌≤◌, ◌^◌, inl, inr, ℕ, Bool, true, false, not, ◌&&◌, List, [], ◌∷◌, length, set, Option, Some, None, IfSome, refl, sym, ap, ◌∙◌, subst, if◌then◌else◌, length-set, get_or-set_same, get_or-set_other}
use Rattle.std.proofs.lemmas.Bool.{false≢true, cases_eq, cases_lt}
use Rattle.std.proofs.lemmas.List.{get_or_past}
use Rattle.std.proofs.lemmas.List.Elements.{All-weaker, All-set}
use Rattle.std.proofs.lemmas.Option.{none-some}
use Rattle.v4l_const.specs.declared.model.Model.{Model}
use Rattle.v4l_rules.specs.Refusals.{first_refusal}
use Rattle.vm_lease.specs.Lease.{LeaseParts}
use Rattle.vm_local.specs.Calls.{row_of}
use Rattle.vm_local.specs.declared.call.Call.{Call}
use Rattle.vm_local.specs.declared.call.Call.TheVariants.{DqBuf, DqEvent}
use Rattle.vm_log.specs.Answers.{IsDone}
use Rattle.vm_log.specs.LegalLog.{state_of, lease_in}
use Rattle.vm_log.specs.declared.away.Away.TheVariants.{Nothing}
use Rattle.vm_log.specs.declared.leased.Leased.{Leased}
use Rattle.vm_log.specs.declared.leased.Leased.TheVariants.{Out, Answered as Refused, Idle as Untouched}
use Rattle.vm_script.specs.Lines.{calls_of}
use Rattle.vm_script.specs.Script.{ProcessLines, ScriptLines}
use Rattle.vm_script.specs.declared.line.LineKind.{LineKind}
use Rattle.vm_script.specs.declared.line.LineKind.TheVariants.{OnHandle, Raw}
use Rattle.vm_wire.specs.Message.{Returning}
use Rattle.vm_wire.specs.Wire.{response_of}
use Rattle.vm_wire.specs.declared.delivery.Delivery.{Delivery}
use Rattle.vm_exchange.specs.Exchange.{unless_by}
use Rattle.vm_exchange.specs.declared.way.Way.{Way}
use Rattle.vm_exchange.specs.declared.way.Way.TheVariants.{Crosses, AnsweredHere, Waits, TouchesMemory}
use Rattle.vm_handle.specs.declared.stage.Stage.{Stage}
use Rattle.vm_handle.specs.declared.stage.Stage.TheVariants.{AtRest as AtStage, Underway, Waiting}
use Rattle.vm_handle.specs.Answers.{AnswersWith, delivered}
use Rattle.vm_handle.specs.Handle.{HandleState, id_of, way_from, FitsStage}
use Rattle.vm_handle.specs.Messages.{Delivers}
use Rattle.vm_guest.specs.Asking.{asks_events, begins_with_events}
use Rattle.vm_guest.specs.Events.{woken, told, told_at, all_told, given, holds_back, held_back, taken_at, taken, all_taken, events_of, caught_up, settled, CanTell, CanTellAll, CanTakeBy, CanTakeAt, CanTake, CanTakeAll, CanCatchUp, CanSettle}
use Rattle.vm_guest.specs.Guest.{GuestState, no_process, process_in, process_at, with_process, seat_of}
use Rattle.vm_guest.specs.Lines.{Begins, BeginsCall, AnsweredFor, LeasesCall, after_lease, returned, returned_to, sends_by, sends_in}
use Rattle.vm_guest.specs.Message.{Sending}
use Rattle.vm_guest.specs.Orderly.{IsOut, IsOutAt, IsOrderly, HasOrder, AreInOrder, process_limit, lines_at, IsSeat, IsDriver}
use Rattle.vm_guest.specs.Process.{ProcessState, is_at_rest, is_blocked, current_call, issuing, leasing, crossing, no_handle, handle_in, handle_at, with_handle, with_log, is_answered_in, rested, lease_out, is_lent_for}
use Rattle.vm_guest.specs.Queues.{KeepsFor}
use Rattle.vm_guest.specs.Steps.{given_back}
use Rattle.vm_guest.specs.declared.asked.Asked.{Asked}
use Rattle.vm_guest.specs.declared.asked.Statement.{Statement}
use Rattle.vm_guest.specs.declared.seat.Seat.{Seat}
use Rattle.vm_guest.specs.declared.status.Status.{Status}
use Rattle.vm_guest.specs.declared.status.Status.TheVariants.{AtRest, Crossing, Blocked, Lent}
use Rattle.vm_handle.proofs.DeliveredLemmas.{IsLike, GoesOn, Awakes, Delivered, delivered_is}
use Rattle.vm_handle.proofs.KeptLemmas.{IsKept, kept_delivered}
use Rattle.vm_guest.proofs.HandleLemmas.{one_call, Becomes, steps_behind, call_behind}
use Rattle.vm_guest.proofs.ProcessLemmas.{is_next, IsAsked, asked_is, IsOn, is_on, answered, moved, was_begun, kept_at}
use Rattle.vm_guest.proofs.StatementLemmas.{others_rest, issuing_next, under_way}
pub use Rattle.vm_guest.proofs.StatementLemmas.{current_within, can_begin, begins_orderly, answered_orderly, leases_orderly, returned_orderly}

-- ---- events

abbrev stage_line : Stage → ℕ
stage_line AtStage = 0
stage_line (Underway line call) = line
stage_line (Waiting line call) = line

abbrev stage_call : Call → Stage → Call
stage_call d AtStage = d
stage_call d (Underway line call) = call
stage_call d (Waiting line call) = call

-- what is out is out still
out_like : (status : Status) (a : Asked) (old new : HandleState) → GoesOn old new → IsOut status a old → IsOut status a new
out_like AtRest a old new on out = on.unanswered ∙ out
out_like Crossing a old new on out = on.stage ∙ out
out_like Blocked a old new on out = on.stage ∙ out
out_like Lent a old new on out = (out.0, ap (λ x. lease_in x) on.away ∙ out.1, out.2, out.3)

out_at_like : (status : Status) (o : Option Asked) (h : ℕ) (old new : HandleState) → GoesOn old new → IsOutAt status o h old → IsOutAt status o h new
out_at_like status None h old new on out = on.unanswered ∙ out
out_at_like status (Some a) h old new on out = ((λ same. out_like status a old new on (out.0 same)), (λ apart. on.unanswered ∙ out.1 apart))

-- a handle whose dqbuf waits is unanswered, and nothing of it is out
pub waiting_is : (h : HandleState) (line : ℕ) (call : Call) → IsKept h → h.stage ≡ Waiting line call → (h.log.unanswered ≡ true) × (h.log.away ≡ Nothing)
waiting_is h line call kept is =
    let fits : FitsStage (id_of h.session) (state_of h.log) h.log.away h.log.unanswered (Waiting line call) =
    subst (λ x. FitsStage (id_of h.session) (state_of h.log) h.log.away h.log.unanswered x) is kept.keeps.fits in
    (fits.0, fits.1)

-- the handle that waits is that of the call in which the process is blocked
record IsWaiting (status : Status) (o : Option Asked) (h line : ℕ) (call : Call) : Type 0 where
  pub blocked : status ≡ Blocked
  pub asked : Asked
  pub at : o ≡ Some asked
  pub handle : asked.handle ≡ h
  pub line_is : line ≡ asked.line
  pub call_is : call ≡ asked.call

waiting_by : (status : Status) (a : Asked) (h : ℕ) (handle : HandleState) (line : ℕ) (call : Call) → IsKept handle → handle.stage ≡ Waiting line call → a.handle ≡ h → IsOut status a handle →
    IsWaiting status (Some a) h line call
waiting_by AtRest a h handle line call kept is same out = absurd (false≢true (sym out ∙ (waiting_is handle line call kept is).0))
waiting_by Crossing a h handle line call kept is same out = let w : Waiting line call ≡ Underway a.line a.call = sym is ∙ out in cc
waiting_by Blocked a h handle line call kept is same out =
    let w : Waiting line call ≡ Waiting a.line a.call = sym is ∙ out in
    record { blocked = refl; asked = a; at = refl; handle = same; line_is = ap (λ x. stage_line x) w; call_is = ap (λ x. stage_call call x) w }
waiting_by Lent a h handle line call kept is same out =
    let w : None ≡ Some out.0 = sym (ap (λ x. lease_in x) (waiting_is handle line call kept is).1) ∙ out.1 in cc

waiting_out : (status : Status) (o : Option Asked) (h : ℕ) (handle : HandleState) (line : ℕ) (call : Call) → IsKept handle → handle.stage ≡ Waiting line call → IsOutAt status o h handle →
    IsWaiting status o h line call
waiting_out status None h handle line call kept is out = absurd (false≢true (sym out ∙ (waiting_is handle line call kept is).0))
waiting_out status (Some a) h handle line call kept is out = elim (cases_eq a.handle h) as (λ _. IsWaiting status (Some a) h line call) [
  | inl same ↦ waiting_by status a h handle line call kept is same (out.0 same)
  | inr apart ↦ absurd (false≢true (sym (out.1 apart) ∙ (waiting_is handle line call kept is).0))
]

-- a process that is orderly isn't answered
asleep_call : (model : Model) (lines : ProcessLines) (p : ProcessState) (o : Option Asked) → IsOrderly model lines p → p.status ≡ Blocked → current_call p ≡ o → is_answered_in p.handles o ≡ false
asleep_call model lines p None order blocked at = refl
asleep_call model lines p (Some a) order blocked at =
    let within : a.handle < length p.handles = current_within p a (model, lines, order) at in
    let out : IsOutAt Blocked (Some a) a.handle (handle_at p a.handle) =
    subst (λ o. IsOutAt Blocked o a.handle (handle_at p a.handle)) at (subst (λ x. IsOutAt x (current_call p) a.handle (handle_at p a.handle)) blocked (order.out a.handle within)) in
    ap (λ b. not b) (waiting_is (handle_at p a.handle) a.line a.call (kept_at model lines p a.handle order within) (out.0 refl)).0

asleep_by : (status : Status) (model : Model) (lines : ProcessLines) (p : ProcessState) → IsOrderly model lines p → p.status ≡ status → (is_blocked status && is_answered_in p.handles (current_call p)) ≡ false
asleep_by AtRest model lines p order is = refl
asleep_by Crossing model lines p order is = refl
asleep_by Blocked model lines p order is = asleep_call model lines p (current_call p) order is refl
asleep_by Lent model lines p order is = refl

asleep : (model : Model) (lines : ProcessLines) (p : ProcessState) → IsOrderly model lines p → woken p ≡ p
asleep model lines p order = ap (λ b. if b then rested p else p) (asleep_by p.status model lines p order refl)

told_on : (model : Model) (lines : ProcessLines) (p : ProcessState) (h : ℕ) (new : HandleState) → IsOrderly model lines p → h < length p.handles → IsKept new → IsLike (handle_at p h) new →
    GoesOn (handle_at p h) new → IsOrderly model lines (woken (with_handle p h new))
told_on model lines p h new order within kept like on =
    let old : HandleState = handle_at p h in
    let next_one : IsOrderly model lines (with_handle p h new) = moved model lines p h new order within (record {
      kept = kept;
      model = like.model;
      lines = like.lines;
      so_many = like.begun;
      answers = ap (λ es. calls_of es) on.entries ∙ steps_behind old.log.entries on.steps on.are;
    }) (out_at_like p.status (current_call p) h old new on (order.out h within)) in
    subst (λ (x : ProcessState). IsOrderly model lines x) (sym (asleep model lines (with_handle p h new) next_one)) next_one

told_awake : (model : Model) (lines : ProcessLines) (p : ProcessState) (h : ℕ) (new : HandleState) → IsOrderly model lines p → h < length p.handles → IsKept new → IsLike (handle_at p h) new →
    Awakes (handle_at p h) new → IsOrderly model lines (woken (with_handle p h new))
told_awake model lines p h new order within kept like awakes =
    let old : HandleState = handle_at p h in
    let q : ProcessState = with_handle p h new in
    let w : IsWaiting p.status (current_call p) h awakes.line awakes.call =
    waiting_out p.status (current_call p) h old awakes.line awakes.call (kept_at model lines p h order within) awakes.waited (order.out h within) in
    let a : Asked = w.asked in
    let t : IsAsked p a = asked_is p a w.at in
    let s : Statement = t.statement in
    let what : s.what ≡ OnHandle h a.call = t.what ∙ ap (λ j. OnHandle j a.call) w.handle in
    let on : IsOn lines p s h a.call = is_on model lines p s h a.call order t.at what in
    let here : Becomes old new old.log.begun (one_call awakes.line awakes.call) = record {
      kept = kept;
      model = like.model;
      lines = like.lines;
      so_many = like.begun;
      answers = ap (λ es. calls_of es) awakes.entries ∙ call_behind old.log.entries awakes.steps awakes.line awakes.call awakes.reply awakes.are;
    } in
    let there : Becomes old new old.log.begun (one_call s.line a.call) =
    subst (λ c. Becomes old new old.log.begun (one_call s.line c)) w.call_is
    (subst (λ k. Becomes old new old.log.begun (one_call k awakes.call)) (w.line_is ∙ sym t.line) here) in
    let done : IsOrderly model lines (rested q) =
    answered model lines p s h a.call old.log.begun new order on there (was_begun model lines p h order (ap (λ x. is_at_rest x) w.blocked) within) awakes.unanswered
    (others_rest model lines p s h a.call order on) in
    let answers : is_answered_in q.handles (current_call q) ≡ true =
    ap (λ o. is_answered_in q.handles o) w.at
    ∙ (ap (λ j. not (handle_in q.handles j).log.unanswered) w.handle
    ∙ ap (λ b. not b) (ap (λ (x : HandleState). x.log.unanswered) (get_or-set_same p.handles h new no_handle within) ∙ awakes.unanswered)) in
    let wakes_up : (is_blocked p.status && is_answered_in q.handles (current_call q)) ≡ true =
    ap (λ x. is_blocked x && is_answered_in q.handles (current_call q)) w.blocked ∙ answers in
    subst (λ (x : ProcessState). IsOrderly model lines x) (sym (ap (λ b. if b then rested q else q) wakes_up)) done

pub told_orderly : (model : Model) (lines : ProcessLines) (p : ProcessState) (h : ℕ) (d : Delivery) → IsOrderly model lines p → h < length p.handles →
    Delivers (state_of (handle_at p h).log) d.msg d.held → IsOrderly model lines (told p h d)
told_orderly model lines p h d order within delivers =
    let old : HandleState = handle_at p h in
    let new : HandleState = delivered old d.msg d.held in
    let kept : IsKept new = kept_delivered old d.msg d.held (kept_at model lines p h order within) delivers in
    let is : Delivered old new = delivered_is old d.msg d.held in
    elim is.either as (λ _. IsOrderly model lines (woken (with_handle p h new))) [
      | inl on ↦ told_on model lines p h new order within kept is.like on
      | inr awakes ↦ told_awake model lines p h new order within kept is.like awakes
    ]

-- ---- the processes

pub at_same : (processes : List ProcessState) (n : ℕ) (p : ProcessState) → n < length processes → process_in (set processes n p) n ≡ p
at_same processes n p within = get_or-set_same processes n p no_process within

pub at_other : (processes : List ProcessState) (n k : ℕ) (p : ProcessState) → k ≢ n → process_in (set processes n p) k ≡ process_in processes k
at_other processes n k p apart = get_or-set_other processes n k p no_process apart

each_process : (P : ℕ → ProcessState → Type 0) (ps : List ProcessState) (n : ℕ) (p : ProcessState) → n < length ps → P n p → ((k : ℕ) → k < length ps → P k (process_in ps k)) →
    (k : ℕ) → k < length (set ps n p) → P k (process_in (set ps n p) k)
each_process P ps n p within here others k inside = elim (cases_eq k n) as (λ _. P k (process_in (set ps n p) k)) [
  | inl same ↦ subst (λ j. P j (process_in (set ps n p) j)) (sym same) (subst (λ x. P n x) (sym (at_same ps n p within)) here)
  | inr apart ↦ subst (λ x. P k x) (sym (at_other ps n k p apart)) (others k (subst (λ m. k < m) (length-set ps n p) inside))
]

-- the seats stay where a process has as many handles
seat_stays : (ps : List ProcessState) (n : ℕ) (p : ProcessState) (seat : Seat) → n < length ps → length p.handles ≡ length (process_in ps n).handles → IsSeat ps seat → IsSeat (set ps n p) seat
seat_stays ps n p seat within long is = (
  subst (λ m. seat.process < m) (sym (length-set ps n p)) is.0,
  elim (cases_eq seat.process n) as (λ _. seat.handle < length (process_in (set ps n p) seat.process).handles) [
    | inl same ↦
        subst (λ j. seat.handle < length (process_in (set ps n p) j).handles) (sym same)
        (subst (λ (x : ProcessState). seat.handle < length x.handles) (sym (at_same ps n p within))
        (subst (λ m. seat.handle < m) (sym long) (subst (λ j. seat.handle < length (process_in ps j).handles) same is.1)))
    | inr apart ↦ subst (λ (x : ProcessState). seat.handle < length x.handles) (sym (at_other ps n seat.process p apart)) is.1
  ],
)

woken_by : (b : Bool) (q : ProcessState) → length (if b then rested q else q).handles ≡ length q.handles
woken_by true q = refl
woken_by false q = refl

woken_number : (b : Bool) (q : ProcessState) → (if b then rested q else q).number ≡ q.number
woken_number true q = refl
woken_number false q = refl

told_long : (p : ProcessState) (h : ℕ) (d : Delivery) → length (told p h d).handles ≡ length p.handles
told_long p h d =
    let q : ProcessState = with_handle p h (delivered (handle_at p h) d.msg d.held) in
    woken_by (is_blocked q.status && is_answered_in q.handles (current_call q)) q ∙ length-set p.handles h (delivered (handle_at p h) d.msg d.held)

told_number : (p : ProcessState) (h : ℕ) (d : Delivery) → (told p h d).number ≡ p.number
told_number p h d =
    let q : ProcessState = with_handle p h (delivered (handle_at p h) d.msg d.held) in
    woken_number (is_blocked q.status && is_answered_in q.handles (current_call q)) q

pub told_in_order : (processes : List ProcessState) (seat : Seat) (d : Delivery) → AreInOrder processes → IsSeat processes seat → CanTell processes seat d →
    AreInOrder (told_at processes seat d) × IsSeat (told_at processes seat d) seat
told_in_order processes seat d order within can =
    let p : ProcessState = process_in processes seat.process in
    let was : HasOrder p = order seat.process within.0 in (
      each_process (λ _ x. HasOrder x) processes seat.process (told p seat.handle d) within.0
          (was.0, was.1, told_orderly was.0 was.1 p seat.handle d was.2 within.1 can) order,
      seat_stays processes seat.process (told p seat.handle d) seat within.0 (told_long p seat.handle d) within,
    )

-- ---- a process is at its place

-- whatever a process without statements doesn't have
inside_by : {A : Type 0} (f : ProcessState → Option A) (ps : List ProcessState) (n : ℕ) (x : A) → f no_process ≡ None → f (process_in ps n) ≡ Some x → n < length ps
inside_by f ps n x none is = elim (cases_lt n (length ps)) as (λ _. n < length ps) [
  | inl within ↦ within
  | inr past ↦ absurd (none-some x (sym none ∙ (sym (ap f (get_or_past ps n no_process past)) ∙ is)))
]

pub issuing_within : (g : GuestState) (n : ℕ) (s : Statement) → issuing (process_at g n) ≡ Some s → n < length g.processes
issuing_within g n s is = inside_by issuing g.processes n s refl is

pub crossing_within : (g : GuestState) (n : ℕ) (s : Statement) → crossing (process_at g n) ≡ Some s → n < length g.processes
crossing_within g n s is = inside_by crossing g.processes n s refl is

pub leasing_within : (g : GuestState) (n : ℕ) (a : Asked) → leasing (process_at g n) ≡ Some a → n < length g.processes
leasing_within g n a is = inside_by leasing g.processes n a refl is

pub lent_within : (g : GuestState) (n line : ℕ) → is_lent_for (process_at g n) line ≡ true → n < length g.processes
lent_within g n line is = elim (cases_lt n (length g.processes)) as (λ _. n < length g.processes) [
  | inl within ↦ within
  | inr past ↦ absurd (false≢true (sym (ap (λ p. is_lent_for p line) (get_or_past g.processes n no_process past)) ∙ is))
]

-- ---- the driver

pub with_process_driver : (script : ScriptLines) (g : GuestState) (n : ℕ) (p : ProcessState) → IsDriver script g → n < length g.processes → p.number ≡ (process_at g n).number →
    ((model : Model) (lines : ProcessLines) → IsOrderly model lines (process_at g n) → IsOrderly model lines p) → IsDriver script (with_process g n p)
with_process_driver script g n p driver within numbered keeps =
    let order : IsOrderly script.model (lines_at script n) p = keeps script.model (lines_at script n) (driver.orderly n within) in
    let long : length p.handles ≡ length (process_at g n).handles = order.named ∙ sym (driver.orderly n within).named in
    record {
      model = driver.model;
      count = length-set g.processes n p ∙ driver.count;
      few = subst (λ m. m ≤ process_limit) (sym (length-set g.processes n p)) driver.few;
      numbered = each_process (λ k x. x.number ≡ k) g.processes n p within (numbered ∙ driver.numbered n within) driver.numbered;
      orderly = each_process (λ k x. IsOrderly script.model (lines_at script k) x) g.processes n p within order driver.orderly;
      seats = All-weaker (λ seat. IfSome seat (IsSeat g.processes)) (λ seat. IfSome seat (IsSeat (set g.processes n p)))
          (λ o is. seats_by o is) g.seats driver.seats;
    }
  where
    seats_by : (o : Option Seat) → IfSome o (IsSeat g.processes) → IfSome o (IsSeat (set g.processes n p))
    seats_by None is = tt
    seats_by (Some seat) is =
        seat_stays g.processes n p seat within ((keeps script.model (lines_at script n) (driver.orderly n within)).named ∙ sym (driver.orderly n within).named) is

begins_number : (line : ℕ) (what : LineKind) (p p' : ProcessState) (sends : Option Sending) → Begins line what p p' sends → p'.number ≡ p.number
begins_number line (OnHandle h call) p p' sends begins = by_way (way_from (handle_at p h) call) begins
  where
    by_way : (way : Way) → BeginsCall way line h call p p' sends → p'.number ≡ p.number
    by_way (Crosses c) begins = ap (λ (x : ProcessState). x.number) begins.3
    by_way AnsweredHere begins = ap (λ (x : ProcessState). x.number) begins.2
    by_way Waits begins = ap (λ (x : ProcessState). x.number) begins.0
    by_way TouchesMemory begins = absurd begins
begins_number line (Raw chain) p p' sends begins = ap (λ (x : ProcessState). x.number) begins.0

pub begins_driver : (script : ScriptLines) (g : GuestState) (n : ℕ) (s : Statement) (p : ProcessState) (sends : Option Sending) → IsDriver script g → issuing (process_at g n) ≡ Some s → s.line < 2 ^ 32 →
    Begins s.line s.what (process_at g n) p sends → IsDriver script (with_process g n p)
begins_driver script g n s p sends driver is short begins =
    with_process_driver script g n p driver (issuing_within g n s is) (begins_number s.line s.what (process_at g n) p sends begins)
    (λ model lines order. begins_orderly model lines s (process_at g n) p sends order is short begins)

answers_number : (line : ℕ) (what : LineKind) (p : ProcessState) (r : Returning) (p' : ProcessState) → AnsweredFor line what p r p' → p'.number ≡ p.number
answers_number line (OnHandle h call) p r p' c =
    let a : AnswersWith (state_of (handle_at p h).log) line call (response_of c.command r.reply.bytes) r.held = c.may.may in
    ap (λ (x : ProcessState). x.number) (c.after a.reply (a.next, a.session, (a.is_call, a.told)))
answers_number line (Raw chain) p r p' answers = ap (λ (x : ProcessState). x.number) answers.2

pub answered_driver : (script : ScriptLines) (g : GuestState) (n : ℕ) (s : Statement) (r : Returning) (p : ProcessState) → IsDriver script g → crossing (process_at g n) ≡ Some s →
    AnsweredFor s.line s.what (process_at g n) r p → KeepsFor s.what p → IsDriver script (with_process g n p)
answered_driver script g n s r p driver is answers keeps =
    with_process_driver script g n p driver (crossing_within g n s is) (answers_number s.line s.what (process_at g n) r p answers)
    (λ model lines order. answered_orderly model lines s (process_at g n) r p order is answers keeps)

leases_number : (leased : Leased) (p : ProcessState) → (after_lease leased p).number ≡ p.number
leases_number (Out lease) p = refl
leases_number Refused p = refl
leases_number Untouched p = refl

pub leases_driver : (script : ScriptLines) (g : GuestState) (n : ℕ) (a : Asked) (leased : Leased) (p : ProcessState) → IsDriver script g → leasing (process_at g n) ≡ Some a → a.line < 2 ^ 32 →
    LeasesCall a (process_at g n) leased p → IsDriver script (with_process g n p)
leases_driver script g n a leased p driver is short leases =
    with_process_driver script g n p driver (leasing_within g n a is)
    (ap (λ (x : ProcessState). x.number) leases.2 ∙ leases_number leased (with_log (process_at g n) a.handle leases.0))
    (λ model lines order. leases_orderly model lines a (process_at g n) leased p order is short leases)

returned_number : (o : Option Asked) (p : ProcessState) (lease : LeaseParts) → (returned_to p o lease).number ≡ p.number
returned_number None p lease = refl
returned_number (Some a) p lease = refl

pub given_back_driver : (script : ScriptLines) (g : GuestState) (n : ℕ) (lease : LeaseParts) → IsDriver script g → is_lent_for (process_at g n) lease.line ≡ true →
    IsDone (lease_out (process_at g n)) lease → IsDriver script (given_back n g lease)
given_back_driver script g n lease driver lent done =
    with_process_driver script g n (returned (process_at g n) lease) driver (lent_within g n lease.line lent) (returned_number (current_call (process_at g n)) (process_at g n) lease)
    (λ model lines order. returned_orderly model lines (process_at g n) lease order lent done)

-- ---- events of the driver

-- a seat that is noted is that of a handle
pub seat_within : (script : ScriptLines) (g : GuestState) (session : ℕ) (seat : Seat) → IsDriver script g → seat_of g session ≡ Some seat → IsSeat g.processes seat
seat_within script g session seat driver is = elim (cases_lt session (length g.seats)) as (λ _. IsSeat g.processes seat) [
  | inl within ↦ subst (λ o. IfSome o (IsSeat g.processes)) is (driver.seats session None within)
  | inr past ↦ absurd (none-some seat (sym (get_or_past g.seats session None past) ∙ is))
]

told_driver : (script : ScriptLines) (g : GuestState) (seat : Seat) (d : Delivery) → IsDriver script g → IsSeat g.processes seat → CanTell g.processes seat d → IsDriver script (given g seat d)
told_driver script g seat d driver within can =
    with_process_driver script g seat.process (told (process_at g seat.process) seat.handle d) driver within.0 (told_number (process_at g seat.process) seat.handle d)
    (λ model lines order. told_orderly model lines (process_at g seat.process) seat.handle d order within.1 can)

pub all_told_driver : (script : ScriptLines) (g : GuestState) (seat : Seat) (ds : List Delivery) → IsDriver script g → IsSeat g.processes seat → CanTellAll g.processes seat ds →
    IsDriver script (record g { processes = all_told g.processes seat ds }) × IsSeat (all_told g.processes seat ds) seat
all_told_driver script g seat [] driver within can = (driver, within)
all_told_driver script g seat (d ∷ ds) driver within can =
    all_told_driver script (given g seat d) seat ds (told_driver script g seat d driver within can.0)
    (seat_stays g.processes seat.process (told (process_at g seat.process) seat.handle d) seat within.0 (told_long (process_at g seat.process) seat.handle d) within) can.1

held_driver : (script : ScriptLines) (g : GuestState) (d : Delivery) → IsDriver script g → IsDriver script (held_back g d)
held_driver script g d driver = record { model = driver.model; count = driver.count; few = driver.few; numbered = driver.numbered; orderly = driver.orderly; seats = driver.seats }

taken_by : (script : ScriptLines) (g : GuestState) (d : Delivery) (o : Option Seat) → IsDriver script g → seat_of g d.session ≡ o → CanTakeAt o g d → IsDriver script (taken_at o g d)
taken_by script g d None driver at can = absurd can
taken_by script g d (Some seat) driver at can = by_holding (holds_back g seat) can
  where
    by_holding : (b : Bool) → CanTakeBy b g seat d → IsDriver script (if b then held_back g d else given g seat d)
    by_holding true can = held_driver script g d driver
    by_holding false can = told_driver script g seat d driver (seat_within script g d.session seat driver at) can

pub taken_driver : (script : ScriptLines) (g : GuestState) (d : Delivery) → IsDriver script g → CanTake g d → IsDriver script (taken g d)
taken_driver script g d driver can = taken_by script g d (seat_of g d.session) driver refl can

pub all_taken_driver : (script : ScriptLines) (g : GuestState) (ds : List Delivery) → IsDriver script g → CanTakeAll g ds → IsDriver script (all_taken g ds)
all_taken_driver script g [] driver can = driver
all_taken_driver script g (d ∷ ds) driver can = all_taken_driver script (taken g d) ds (taken_driver script g d driver can.0) can.1

pub caught_up_driver : (script : ScriptLines) (session : Option ℕ) (g : GuestState) (seat : Seat) → IsDriver script g → IsSeat g.processes seat → CanCatchUp session g seat →
    IsDriver script (caught_up session g seat)
caught_up_driver script None g seat driver within can = driver
caught_up_driver script (Some session) g seat driver within can =
    let told_all : IsDriver script (record g { processes = all_told g.processes seat (events_of session g.pump.held) }) × IsSeat (all_told g.processes seat (events_of session g.pump.held)) seat =
    all_told_driver script g seat (events_of session g.pump.held) driver within can in
    let next_one : IsDriver script (record g { processes = all_told g.processes seat (events_of session g.pump.held) }) = told_all.0 in
    record {
      model = next_one.model;
      count = next_one.count;
      few = next_one.few;
      numbered = next_one.numbered;
      orderly = next_one.orderly;
      seats = All-set (λ o. IfSome o (IsSeat (all_told g.processes seat (events_of session g.pump.held)))) g.seats session (Some seat) told_all.1 next_one.seats;
    }

-- a line is on one of the process's handles, if it is on one
abbrev pub HasHandle : LineKind → ProcessState → Type 0
HasHandle (OnHandle h call) p = h < length p.handles
HasHandle (Raw chain) p = Unit {0}

pub settled_driver : (script : ScriptLines) (what : LineKind) (g : GuestState) (n : ℕ) → IsDriver script g → HasHandle what (process_at g n) → n < length g.processes → CanSettle what g n →
    IsDriver script (settled what g n)
settled_driver script (OnHandle h call) g n driver on within can =
    caught_up_driver script (handle_at (process_at g n) h).session g (record { process = n; handle = h }) driver (within, on) can
settled_driver script (Raw chain) g n driver on within can = driver

-- ---- what is begun or on its way is so still

told_still : (p : ProcessState) (h : ℕ) (d : Delivery) → is_blocked p.status ≡ false → told p h d ≡ with_handle p h (delivered (handle_at p h) d.msg d.held)
told_still p h d awake =
    let q : ProcessState = with_handle p h (delivered (handle_at p h) d.msg d.held) in
    ap (λ b. if b && is_answered_in q.handles (current_call q) then rested q else q) awake

given_still : {A : Type 0} (f : ProcessState → Option A) (g : GuestState) (seat : Seat) (d : Delivery) (n : ℕ) → n < length g.processes → is_blocked (process_at g n).status ≡ false →
    ((h : ℕ) (handle : HandleState) → f (with_handle (process_at g n) h handle) ≡ f (process_at g n)) → f (process_at (given g seat d) n) ≡ f (process_at g n)
given_still f g seat d n within awake same = elim (cases_eq n seat.process) as (λ _. f (process_at (given g seat d) n) ≡ f (process_at g n)) [
  | inl is ↦
      let P : ℕ → Type 0 = λ k. f (process_in (set g.processes k (told (process_in g.processes k) seat.handle d)) n) ≡ f (process_at g n) in
      subst P is (ap f (at_same g.processes n (told (process_at g n) seat.handle d) within ∙ told_still (process_at g n) seat.handle d awake)
      ∙ same seat.handle (delivered (handle_at (process_at g n) seat.handle) d.msg d.held))
  | inr apart ↦ ap f (at_other g.processes seat.process n (told (process_at g seat.process) seat.handle d) apart)
]

taken_still : {A : Type 0} (f : ProcessState → Option A) (g : GuestState) (d : Delivery) (o : Option Seat) (n : ℕ) → n < length g.processes → is_blocked (process_at g n).status ≡ false →
    ((h : ℕ) (handle : HandleState) → f (with_handle (process_at g n) h handle) ≡ f (process_at g n)) → f (process_at (taken_at o g d) n) ≡ f (process_at g n)
taken_still f g d None n within awake same = refl
taken_still f g d (Some seat) n within awake same = by_holding (holds_back g seat)
  where
    by_holding : (b : Bool) → f (process_at (if b then held_back g d else given g seat d) n) ≡ f (process_at g n)
    by_holding true = refl
    by_holding false = given_still f g seat d n within awake same

issuing_awake : (p : ProcessState) (s : Statement) → issuing p ≡ Some s → is_blocked p.status ≡ false
issuing_awake p s is = ap (λ x. is_blocked x) (is_next p s (issuing_next p s is).0).rests

crossing_awake : (p : ProcessState) (s : Statement) → crossing p ≡ Some s → is_blocked p.status ≡ false
crossing_awake p s is = ap (λ x. is_blocked x) (under_way p s is).crosses

pub still_issuing : (g : GuestState) (ds : List Delivery) (n : ℕ) (s : Statement) → issuing (process_at g n) ≡ Some s → issuing (process_at (all_taken g ds) n) ≡ Some s
still_issuing g [] n s is = is
still_issuing g (d ∷ ds) n s is =
    still_issuing (taken g d) ds n s (taken_still issuing g d (seat_of g d.session) n (issuing_within g n s is) (issuing_awake (process_at g n) s is) (λ h handle. refl) ∙ is)

pub still_crossing : (g : GuestState) (ds : List Delivery) (n : ℕ) (s : Statement) → crossing (process_at g n) ≡ Some s → crossing (process_at (all_taken g ds) n) ≡ Some s
still_crossing g [] n s is = is
still_crossing g (d ∷ ds) n s is =
    still_crossing (taken g d) ds n s (taken_still crossing g d (seat_of g d.session) n (crossing_within g n s is) (crossing_awake (process_at g n) s is) (λ h handle. refl) ∙ is)

-- ---- a call that tells of events posts nothing

waits_or_here : (o : Option _) (b : Bool) → sends_by (unless_by o (if b then Waits else AnsweredHere)) ≡ false
waits_or_here None true = refl
waits_or_here None false = refl
waits_or_here (Some e) b = refl

asks_call : (h : HandleState) (call : Call) → asks_events call ≡ true → sends_by (way_from h call) ≡ false
asks_call h (DqBuf t) asks_some = waits_or_here (first_refusal (row_of (state_of h.log) 0 0 (DqBuf t)).refusals) (row_of (state_of h.log) 0 0 (DqBuf t)).waits
asks_call h DqEvent asks_some = refl
asks_call h call asks_some = absurd (false≢true asks_some)

pub asks_no_room : (p : ProcessState) (what : LineKind) → begins_with_events what ≡ true → sends_in p what ≡ false
asks_no_room p (OnHandle h call) asks_some = asks_call (handle_at p h) call asks_some
asks_no_room p (Raw chain) asks_some = absurd (false≢true asks_some)
