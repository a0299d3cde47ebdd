-- What a statement's beginning and its answer keep of a process.
use Rattle.std.proofs.Common.{◌≡◌, ◌≢◌, ◌<◌, ◌+◌, ◌^◌, ◌==◌, ℕ, Bool, true, false, not, [], ◌∷◌, length, Option, Some, None, refl, sym, ap, ◌∙◌, subst, get_or-set_same}
use Rattle.std.specs.Option.{option_and_then, option_map_or}
use Rattle.std.proofs.lemmas.Bool.{false≢true}
use Rattle.v4l_const.specs.declared.model.Model.{Model}
use Rattle.vm_home.specs.Moves.{touches_bytes}
use Rattle.vm_lease.specs.Lease.{LeaseParts, CameBackDone}
use Rattle.vm_lease.specs.declared.lease_out.LeaseOut.{LeaseOut}
use Rattle.vm_local.specs.declared.call.Call.{Call}
use Rattle.vm_local.specs.declared.entry.Entry.TheVariants.{Called}
use Rattle.vm_log.specs.Answers.{IsDone, given_back as given_back_log}
use Rattle.vm_log.specs.LegalLog.{LogState, state_of, lease_in, is_lent_to}
use Rattle.vm_log.specs.declared.away.Away.{Away}
use Rattle.vm_log.specs.declared.away.Away.TheVariants.{Nothing, Sent, Lent as AwayLent}
use Rattle.vm_log.specs.declared.leased.Leased.{Leased}
use Rattle.vm_log.specs.declared.leased.Leased.TheVariants.{Out, Answered as Refused, Idle as Untouched}
use Rattle.vm_script.specs.Script.{ProcessLines}
use Rattle.vm_script.specs.declared.line.LineKind.{LineKind}
use Rattle.vm_script.specs.declared.line.LineKind.TheVariants.{OnHandle, Raw}
use Rattle.vm_wire.specs.Message.{Returning}
use Rattle.vm_wire.specs.Wire.{response_of}
use Rattle.vm_wire.specs.declared.response.Response.{Response}
use Rattle.vm_exchange.specs.declared.way.Way.{Way}
use Rattle.vm_exchange.specs.declared.way.Way.TheVariants.{Crosses, AnsweredHere, Waits, TouchesMemory}
use Rattle.vm_handle.specs.declared.stage.Stage.TheVariants.{Underway}
use Rattle.vm_handle.specs.Answers.{AnswersWith, with_reply}
use Rattle.vm_handle.specs.Handle.{HandleState, way_from, Keeps}
use Rattle.vm_guest.specs.Asking.{asked_by, is_leased}
use Rattle.vm_guest.specs.Caller.{CanBegin}
use Rattle.vm_guest.specs.Lines.{Begins, BeginsCall, waiting, AnsweredFor, CallAnswered, LeasesCall, after_lease, returned, returned_to}
use Rattle.vm_guest.specs.Message.{Sending}
use Rattle.vm_guest.specs.Orderly.{IsOut, IsOutAt, is_raw, IsOrderly, HasOrder}
use Rattle.vm_guest.specs.Process.{ProcessState, is_at_rest, is_crossing, is_lent, current, current_call, some_if, next, kept_by, issuing, leasing, crossing, no_handle, handle_at, with_handle, with_log, rested, lease_on, lease_out, is_lent_for}
use Rattle.vm_guest.specs.Queues.{KeepsFor}
use Rattle.vm_guest.specs.declared.asked.Asked.{Asked}
use Rattle.vm_guest.specs.declared.asked.Statement.{Statement}
use Rattle.vm_guest.specs.declared.status.Status.{Status}
use Rattle.vm_guest.specs.declared.status.Status.TheVariants.{Crossing, Blocked, Lent}
use Rattle.vm_handle.proofs.KeptLemmas.{IsKept, sound_replied}
use Rattle.vm_guest.proofs.HandleLemmas.{calls_append, one_call, Becomes, goes_out, waits, answers_itself, LeasedAs, leased_as, gives_back}
use Rattle.vm_guest.proofs.ProcessLemmas.{if_some, IsNext, is_next, kept_is, asked_of, asks, IsAsked, asked_is, asked_what_is, other_rests, IsOn, is_on, starts, answered, quiet, more_at, one_begun, was_begun, kept_at, raw_starts, raw_answered}

-- ---- what a process asks

-- the call that it asks is on one of its handles
pub current_within : (p : ProcessState) (a : Asked) → HasOrder p → current_call p ≡ Some a → a.handle < length p.handles
current_within p a order asked =
    let w : IsAsked p a = asked_is p a asked in
    (is_on order.0 order.1 p w.statement a.handle a.call order.2 w.at w.what).within

-- the next one can be begun
pub can_begin : (p : ProcessState) (s : Statement) (a : Asked) → HasOrder p → next p ≡ Some s → asked_by s ≡ Some a → CanBegin p.handles a
can_begin p s a order is asked =
    let n : IsNext p s = is_next p s is in
    let on : IsOn order.1 p s a.handle a.call = is_on order.0 order.1 p s a.handle a.call order.2 n.at (asked_what_is s a asked).1 in
    record {
      within = on.within;
      rests = quiet order.0 order.1 p a.handle order.2 n.rests on.within;
      more = more_at order.0 order.1 p s a.handle a.call order.2 n.rests on;
      few = on.few;
    }

-- ---- a statement is begun

begins_call : (way : Way) (model : Model) (lines : ProcessLines) (s : Statement) (h : ℕ) (call : Call) (p p' : ProcessState) (sends : Option Sending) → IsOrderly model lines p → IsNext p s →
    IsOn lines p s h call → s.line < 2 ^ 32 → way_from (handle_at p h) call ≡ way → BeginsCall way s.line h call p p' sends → IsOrderly model lines p'
begins_call (Crosses c) model lines s h call p p' sends order n on short way begins =
    let out : Becomes (handle_at p h) begins.1 ((handle_at p h).log.begun + 1) [] × (begins.1.stage ≡ Underway s.line call) =
    goes_out (handle_at p h) begins.1 s.line call c begins.0 (kept_at model lines p h order on.within) (quiet model lines p h order n.rests on.within)
    (more_at model lines p s h call order n.rests on) way begins.2 in
    subst (λ (x : ProcessState). IsOrderly model lines x) (sym begins.3) (starts model lines p s h call Crossing begins.1 order n.rests on refl out.0 out.1)
begins_call AnsweredHere model lines s h call p p' sends order n on short way begins =
    let here : Becomes (handle_at p h) begins.0 ((handle_at p h).log.begun + 1) (one_call s.line call) × (begins.0.log.unanswered ≡ false) =
    answers_itself (handle_at p h) begins.0 s.line call (kept_at model lines p h order on.within) (quiet model lines p h order n.rests on.within)
    (more_at model lines p s h call order n.rests on) short way begins.1 in
    subst (λ (x : ProcessState). IsOrderly model lines x) (sym begins.2)
    (answered model lines p s h call ((handle_at p h).log.begun + 1) begins.0 order on here.0 (one_begun model lines p s h call order n.rests on) here.1
    (λ j inside apart. quiet model lines p j order n.rests inside))
begins_call Waits model lines s h call p p' sends order n on short way begins =
    subst (λ (x : ProcessState). IsOrderly model lines x) (sym begins.0)
    (starts model lines p s h call Blocked (waiting (handle_at p h) s.line call) order n.rests on refl
    (waits (handle_at p h) s.line call (kept_at model lines p h order on.within) (quiet model lines p h order n.rests on.within) (more_at model lines p s h call order n.rests on) way) refl)
begins_call TouchesMemory model lines s h call p p' sends order n on short way begins = absurd begins

begins_by : (what : LineKind) (model : Model) (lines : ProcessLines) (s : Statement) (p p' : ProcessState) (sends : Option Sending) → IsOrderly model lines p → IsNext p s → s.line < 2 ^ 32 →
    s.what ≡ what → Begins s.line what p p' sends → IsOrderly model lines p'
begins_by (OnHandle h call) model lines s p p' sends order n short is begins =
    begins_call (way_from (handle_at p h) call) model lines s h call p p' sends order n (is_on model lines p s h call order n.at is) short refl begins
begins_by (Raw chain) model lines s p p' sends order n short is begins =
    subst (λ (x : ProcessState). IsOrderly model lines x) (sym begins.0) (raw_starts model lines p s order n.rests n.at (ap (λ w. is_raw w) is))

pub issuing_next : (p : ProcessState) (s : Statement) → issuing p ≡ Some s → (next p ≡ Some s) × (not (is_leased s.what) ≡ true)
issuing_next p s is = kept_is (λ what. not (is_leased what)) (next p) s is

pub begins_orderly : (model : Model) (lines : ProcessLines) (s : Statement) (p p' : ProcessState) (sends : Option Sending) → IsOrderly model lines p → issuing p ≡ Some s → s.line < 2 ^ 32 →
    Begins s.line s.what p p' sends → IsOrderly model lines p'
begins_orderly model lines s p p' sends order is short begins =
    begins_by s.what model lines s p p' sends order (is_next p s (issuing_next p s is).0) short refl begins

-- ---- a statement is answered by the device

crossing_by : (status : Status) → is_crossing status ≡ true → status ≡ Crossing
crossing_by Crossing is = refl
crossing_by status is = absurd (false≢true is)

-- a statement is on its way
pub record IsUnderWay (p : ProcessState) (s : Statement) : Type 0 where
  pub crosses : p.status ≡ Crossing
  pub at : current p ≡ Some s
  pub busy : is_at_rest p.status ≡ false

pub under_way : (p : ProcessState) (s : Statement) → crossing p ≡ Some s → IsUnderWay p s
under_way p s is =
    let w : (is_crossing p.status ≡ true) × (current p ≡ Some s) = if_some (is_crossing p.status) (current p) s is in
    let crosses : p.status ≡ Crossing = crossing_by p.status w.0 in
    record { crosses = crosses; at = w.1; busy = ap (λ x. is_at_rest x) crosses }

-- the handle of the call that is out
pub out_here : (model : Model) (lines : ProcessLines) (p : ProcessState) (s : Statement) (h : ℕ) (call : Call) (status : Status) → IsOrderly model lines p → IsOn lines p s h call → p.status ≡ status →
    IsOut status (asked_of s h call) (handle_at p h)
out_here model lines p s h call status order on is =
    let out : IsOutAt status (Some (asked_of s h call)) h (handle_at p h) =
    subst (λ o. IsOutAt status o h (handle_at p h)) (asks p s h call on.at on.what) (subst (λ x. IsOutAt x (current_call p) h (handle_at p h)) is (order.out h on.within)) in
    out.0 refl

-- the others rest
pub others_rest : (model : Model) (lines : ProcessLines) (p : ProcessState) (s : Statement) (h : ℕ) (call : Call) → IsOrderly model lines p → IsOn lines p s h call →
    (j : ℕ) → j < length p.handles → j ≢ h → (handle_at p j).log.unanswered ≡ false
others_rest model lines p s h call order on j inside apart =
    other_rests p.status (asked_of s h call) j (handle_at p j) (subst (λ o. IsOutAt p.status o j (handle_at p j)) (asks p s h call on.at on.what) (order.out j inside)) apart

answers_call : (model : Model) (lines : ProcessLines) (s : Statement) (h : ℕ) (call : Call) (p : ProcessState) (r : Returning) (p' : ProcessState) → IsOrderly model lines p → IsUnderWay p s →
    IsOn lines p s h call → CallAnswered s.line h call p r p' → Keeps (handle_at p' h).log (handle_at p' h).session (handle_at p' h).stage → IsOrderly model lines p'
answers_call model lines s h call p r p' order way on c keeps =
    let old : HandleState = handle_at p h in
    let response : Response = response_of c.command r.reply.bytes in
    let a : AnswersWith (state_of old.log) s.line call response r.held = c.may.may in
    let new : HandleState = with_reply old s.line call a.reply response r.held in
    let is : p' ≡ rested (with_handle p h new) = c.after a.reply (a.next, a.session, (a.is_call, a.told)) in
    let at : handle_at p' h ≡ new = ap (λ (x : ProcessState). handle_at x h) is ∙ get_or-set_same p.handles h new no_handle on.within in
    let kept : IsKept new = record {
      keeps = subst (λ (x : HandleState). Keeps x.log x.session x.stage) at keeps;
      sound = sound_replied old s.line call response r.held (kept_at model lines p h order on.within) (out_here model lines p s h call Crossing order on way.crosses) a;
    } in
    subst (λ (x : ProcessState). IsOrderly model lines x) (sym is)
    (answered model lines p s h call old.log.begun new order on (record {
      kept = kept;
      model = refl;
      lines = refl;
      so_many = refl;
      answers = calls_append old.log.entries (Called s.line call a.reply ∷ []);
    }) (was_begun model lines p h order way.busy on.within) refl (others_rest model lines p s h call order on))

answers_by : (what : LineKind) (model : Model) (lines : ProcessLines) (s : Statement) (p : ProcessState) (r : Returning) (p' : ProcessState) → IsOrderly model lines p → IsUnderWay p s →
    s.what ≡ what → AnsweredFor s.line what p r p' → KeepsFor what p' → IsOrderly model lines p'
answers_by (OnHandle h call) model lines s p r p' order way is answers keeps =
    answers_call model lines s h call p r p' order way (is_on model lines p s h call order way.at is) answers keeps
answers_by (Raw chain) model lines s p r p' order way is answers keeps =
    subst (λ (x : ProcessState). IsOrderly model lines x) (sym answers.2) (raw_answered model lines p s answers.0 order way.busy way.at (ap (λ w. is_raw w) is))

pub answered_orderly : (model : Model) (lines : ProcessLines) (s : Statement) (p : ProcessState) (r : Returning) (p' : ProcessState) → IsOrderly model lines p → crossing p ≡ Some s →
    AnsweredFor s.line s.what p r p' → KeepsFor s.what p' → IsOrderly model lines p'
answered_orderly model lines s p r p' order is answers keeps = answers_by s.what model lines s p r p' order (under_way p s is) refl answers keeps

-- ---- leases

then_some : {A B : Type 0} (f : A → Option B) (o : Option A) (y : B) → option_and_then f o ≡ Some y → (x : A) × (o ≡ Some x) × (f x ≡ Some y)
then_some f None y is = cc
then_some f (Some x) y is = (x, refl, is)

pub leasing_next : (p : ProcessState) (a : Asked) → leasing p ≡ Some a → (s : Statement) × (next p ≡ Some s) × (asked_by s ≡ Some a) × (touches_bytes a.call ≡ true)
leasing_next p a is =
    let w : _ = then_some asked_by (kept_by is_leased (next p)) a is in
    let k : (next p ≡ Some w.0) × (is_leased w.0.what ≡ true) = kept_is is_leased (next p) w.0 w.1 in
    (w.0, k.0, w.2, sym (ap (λ (x : LineKind). is_leased x) (asked_what_is w.0 a w.2).1) ∙ k.1)

leases_by : (leased : Leased) (model : Model) (lines : ProcessLines) (p p' : ProcessState) (s : Statement) (h : ℕ) (call : Call) (log : LogState) → IsOrderly model lines p → IsNext p s →
    IsOn lines p s h call → LeasedAs leased (handle_at p h) (record (handle_at p h) { log = log }) s.line call → p' ≡ after_lease leased (with_log p h log) → IsOrderly model lines p'
leases_by (Out lease) model lines p p' s h call log order n on out is =
    subst (λ (x : ProcessState). IsOrderly model lines x) (sym is)
    (starts model lines p s h call Lent (record (handle_at p h) { log = log }) order n.rests on refl out.0 (out.1.entry, out.1.out, out.1.line_is, out.1.call_is))
leases_by Refused model lines p p' s h call log order n on out is =
    subst (λ (x : ProcessState). IsOrderly model lines x) (sym is)
    (answered model lines p s h call ((handle_at p h).log.begun + 1) (record (handle_at p h) { log = log }) order on out.0 (one_begun model lines p s h call order n.rests on) out.1
    (λ j inside apart. quiet model lines p j order n.rests inside))
leases_by Untouched model lines p p' s h call log order n on out is = absurd out

pub leases_orderly : (model : Model) (lines : ProcessLines) (a : Asked) (p : ProcessState) (leased : Leased) (p' : ProcessState) → IsOrderly model lines p → leasing p ≡ Some a → a.line < 2 ^ 32 →
    LeasesCall a p leased p' → IsOrderly model lines p'
leases_orderly model lines a p leased p' order is short leases =
    let w : _ = leasing_next p a is in
    let s : Statement = w.0 in
    let n : IsNext p s = is_next p s w.1 in
    let what : (s.line ≡ a.line) × (s.what ≡ OnHandle a.handle a.call) = asked_what_is s a w.2 in
    let on : IsOn lines p s a.handle a.call = is_on model lines p s a.handle a.call order n.at what.1 in
    let old : HandleState = handle_at p a.handle in
    let out : LeasedAs leased old (record old { log = leases.0 }) a.line a.call =
    leased_as old leases.0 a.line a.call leased (kept_at model lines p a.handle order on.within) (quiet model lines p a.handle order n.rests on.within)
    (more_at model lines p s a.handle a.call order n.rests on) w.3 short leases.1 in
    leases_by leased model lines p p' s a.handle a.call leases.0 order n on (subst (λ k. LeasedAs leased old (record old { log = leases.0 }) k a.call) (sym what.0) out) leases.2

lent_by : (status : Status) → is_lent status ≡ true → status ≡ Lent
lent_by Lent is = refl
lent_by status is = absurd (false≢true is)

lent_parts : (b : Bool) (o : Option LeaseOut) (line : ℕ) → option_map_or (λ (e : LeaseOut). e.line == line) (some_if b o) false ≡ true →
    (b ≡ true) × (option_map_or (λ (e : LeaseOut). e.line == line) o false ≡ true) × (some_if b o ≡ o)
lent_parts true o line is = (refl, is, refl)
lent_parts false o line is = absurd (false≢true is)

asked_lent : (p : ProcessState) (o : Option Asked) (line : ℕ) → current_call p ≡ o → option_map_or (λ (e : LeaseOut). e.line == line) (lease_on p o) false ≡ true → (a : Asked) × (current_call p ≡ Some a)
asked_lent p None line at is = absurd (false≢true is)
asked_lent p (Some a) line at is = (a, at)

lent_to : (away : Away) (line : ℕ) → option_map_or (λ (e : LeaseOut). e.line == line) (lease_in away) false ≡ true → is_lent_to away line ≡ true
lent_to Nothing line is = is
lent_to (Sent n) line is = is
lent_to (AwayLent entry) line is = is

-- the lease of this line is out
pub record IsLentFor (p : ProcessState) (line : ℕ) : Type 0 where
  pub lent : p.status ≡ Lent
  pub asked : Asked
  pub at : current_call p ≡ Some asked
  pub out : lease_out p ≡ lease_in (handle_at p asked.handle).log.away
  pub mine : is_lent_to (handle_at p asked.handle).log.away line ≡ true

pub lent_for : (p : ProcessState) (line : ℕ) → is_lent_for p line ≡ true → IsLentFor p line
lent_for p line is =
    let w : _ = lent_parts (is_lent p.status) (lease_on p (current_call p)) line is in
    let a : (a : Asked) × (current_call p ≡ Some a) = asked_lent p (current_call p) line refl w.1 in
    let on : lease_on p (current_call p) ≡ lease_in (handle_at p a.0.handle).log.away = ap (λ o. lease_on p o) a.1 in
    record {
      lent = lent_by p.status w.0;
      asked = a.0;
      at = a.1;
      out = w.2 ∙ on;
      mine = lent_to (handle_at p a.0.handle).log.away line (subst (λ o. option_map_or (λ (e : LeaseOut). e.line == line) o false ≡ true) on w.1);
    }

back_is : (o : Option LeaseOut) (entry : LeaseOut) (lease : LeaseParts) → o ≡ Some entry → IsDone o lease → (lease.line ≡ entry.line) × (lease.call ≡ entry.call)
back_is o entry lease is done = let back : CameBackDone entry lease = subst (λ x. IsDone x lease) is done in (back.line, back.call)

pub returned_orderly : (model : Model) (lines : ProcessLines) (p : ProcessState) (lease : LeaseParts) → IsOrderly model lines p → is_lent_for p lease.line ≡ true → IsDone (lease_out p) lease →
    IsOrderly model lines (returned p lease)
returned_orderly model lines p lease order is_lent_here done =
    let w : IsLentFor p lease.line = lent_for p lease.line is_lent_here in
    let a : Asked = w.asked in
    let t : IsAsked p a = asked_is p a w.at in
    let s : Statement = t.statement in
    let on : IsOn lines p s a.handle a.call = is_on model lines p s a.handle a.call order t.at t.what in
    let old : HandleState = handle_at p a.handle in
    let there : IsDone (lease_in old.log.away) lease = subst (λ o. IsDone o lease) w.out done in
    let out : IsOut Lent (asked_of s a.handle a.call) old = out_here model lines p s a.handle a.call Lent order on w.lent in
    let same : (lease.line ≡ out.0.line) × (lease.call ≡ out.0.call) = back_is (lease_in old.log.away) out.0 lease out.1 there in
    let new : HandleState = record old { log = given_back_log old.log lease } in
    let becomes : Becomes old new old.log.begun (one_call lease.line lease.call) = gives_back old lease (kept_at model lines p a.handle order on.within) w.mine there in
    let here : Becomes old new old.log.begun (one_call s.line a.call) =
    subst (λ c. Becomes old new old.log.begun (one_call s.line c)) (same.1 ∙ out.3) (subst (λ k. Becomes old new old.log.begun (one_call k lease.call)) (same.0 ∙ out.2) becomes) in
    subst (λ o. IsOrderly model lines (returned_to p o lease)) (sym w.at)
    (answered model lines p s a.handle a.call old.log.begun new order on here (was_begun model lines p a.handle order (ap (λ x. is_at_rest x) w.lent) on.within) refl
    (others_rest model lines p s a.handle a.call order on))
