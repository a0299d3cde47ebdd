-- Messages that lead from one state to another, and the steps that they stand for.
use Rattle.std.proofs.Common.{◌≡◌, ℕ, true, false, List, [], ◌∷◌, ◌++◌, map, Option, Some, refl, sym, ap, ◌∙◌, if◌then◌else◌}
use Rattle.std.specs.Option.{option_and_then}
use Rattle.std.proofs.lemmas.Bool.{false≢true}
use Rattle.std.proofs.lemmas.List.Elements.{All-head, All-tail, All-nil, All-cons}
use Rattle.v4l_const.specs.declared.model.Model.{Model}
use Rattle.v4l_const.specs.Model.{source_queue}
use Rattle.v4l_layout.specs.declared.buffer_rec.BufferRec.{BufferRec}
use Rattle.vm_wire.specs.declared.event.EventMsg.{EventMsg}
use Rattle.vm_wire.specs.declared.event.EventMsg.TheVariants.{Dequeued, Happened}
use Rattle.vm_local.specs.declared.entry.Entry.{Entry}
use Rattle.vm_local.specs.declared.entry.Entry.TheVariants.{Called, Finish, Bad, Give}
use Rattle.vm_local.specs.declared.owed.OwedItem.{OwedItem}
use Rattle.vm_local.specs.declared.owed.OwedItem.TheVariants.{Buffer as OwedBuffer, Sync}
use Rattle.vm_local.specs.State.{LocalState}
use Rattle.vm_local.specs.Steps.{item_given, counted}
use Rattle.vm_local.specs.Log.{after, replay_from}
use Rattle.vm_local.proofs.KeptLemmas.{some_same}
use Rattle.vm_local.proofs.LogLemmas.{replay_from_append}
use Rattle.vm_local.proofs.StepLemmas.{finished_by, failed_by, given_by, Gave}
use Rattle.vm_commute.specs.Commute.{is_step, AreSteps}
use Rattle.vm_commute.proofs.EventsLemmas.{by_first}
use Rattle.vm_session.specs.declared.unsent.Unsent.{Unsent}
use Rattle.vm_exchange.specs.Messages.{is_marked, is_first, frame_step, made_by, steps_of, flight_of}
use Rattle.vm_stands.specs.Flight.{Leads, LeadAll}

-- ---- the model stays

item_model : (s : LocalState) (t : ℕ) (item : OwedItem) → (item_given s t item).model ≡ s.model
item_model s t (OwedBuffer i) = refl
item_model s t (Sync frame) =
    elim s.subscribed as (λ b. (if b then record s {
      events = s.events ++ (record { frame = frame; number = s.next_event }) ∷ [];
      next_event = counted s.next_event;
    } else s).model ≡ s.model) [
      | true ↦ refl
      | false ↦ refl
    ]

pub step_model : (s t : LocalState) (e : Entry) → is_step e ≡ true → after s e ≡ Some t → t.model ≡ s.model
step_model s t (Called line call reply) step leads = absurd (false≢true step)
step_model s t Finish step leads = ap (λ (x : LocalState). x.model) (finished_by s t leads).1
step_model s t Bad step leads = ap (λ (x : LocalState). x.model) (failed_by s t leads).1
step_model s t Give step leads =
    let g : Gave s s.owed t = given_by s t leads in
    ap (λ (x : LocalState). x.model) g.3 ∙ item_model (record s { owed = g.1 }) g.0.queue g.0.item

pub steps_model : (es : List Entry) (s t : LocalState) → AreSteps es → replay_from s es ≡ Some t → t.model ≡ s.model
steps_model [] s t steps leads = ap (λ (x : LocalState). x.model) (sym (some_same s t s leads))
steps_model (e ∷ es) s t steps leads =
    let P : Entry → Type 0 = λ d. is_step d ≡ true in
    let by : _ = by_first s t e es leads in
    steps_model es by.0 t (All-tail P e es steps) by.2 ∙ step_model s by.0 e (All-head P e es steps) by.1

-- ---- the steps of a message

one_step : (e : Entry) → is_step e ≡ true → AreSteps (e ∷ [])
one_step e step = let P : Entry → Type 0 = λ d. is_step d ≡ true in All-cons P e [] step (All-nil P)

frame_is_step : (m : Model) (b : BufferRec) → is_step (frame_step m b) ≡ true
frame_is_step m b = elim (is_marked m b) as (λ k. is_step (if k then Bad else Finish) ≡ true) [ true ↦ refl | false ↦ refl ]

pub made_steps : (m : Model) (msg : EventMsg) → AreSteps (made_by m msg)
made_steps m (Happened session event) = one_step Finish refl
made_steps m (Dequeued session b) =
    elim (is_first (source_queue m) m b) as (λ k. AreSteps (if k then frame_step m b ∷ [] else [])) [
      | true ↦ one_step (frame_step m b) (frame_is_step m b)
      | false ↦ All-nil (λ d. is_step d ≡ true)
    ]

pub leads_model : (id : ℕ) (s t : LocalState) (e : Unsent) → Leads id s e t → t.model ≡ s.model
leads_model id s t e leads = step_model leads.made t Give refl leads.given ∙ steps_model (made_by s.model e.msg) s leads.made (made_steps s.model e.msg) leads.making

pub leads_replay : (id : ℕ) (s t : LocalState) (e : Unsent) → Leads id s e t → replay_from s (steps_of s.model e.msg) ≡ Some t
leads_replay id s t e leads =
    let next : Option LocalState → Option LocalState = λ o. option_and_then (λ u. replay_from u (Give ∷ [])) o in
    replay_from_append s (made_by s.model e.msg) (Give ∷ []) ∙ (ap next leads.making ∙ ap (λ o. option_and_then (λ (x : LocalState). Some x) o) leads.given)

pub all_replay : (id : ℕ) (s t : LocalState) (es : List Unsent) → LeadAll id s es t → replay_from s (flight_of s.model (map (λ e. e.msg) es)) ≡ Some t
all_replay id s t [] leads = ap (λ (x : LocalState). Some x) (sym leads)
all_replay id s t (e ∷ es) leads =
    let u : LocalState = leads.0 in
    let rest : List EventMsg = map (λ (x : Unsent). x.msg) es in
    let next : Option LocalState → Option LocalState = λ o. option_and_then (λ x. replay_from x (flight_of s.model rest)) o in
    replay_from_append s (steps_of s.model e.msg) (flight_of s.model rest)
    ∙ (ap next (leads_replay id s u e leads.1)
    ∙ (ap (λ m. replay_from u (flight_of m rest)) (sym (leads_model id s u e leads.1)) ∙ all_replay id u t es leads.2))
