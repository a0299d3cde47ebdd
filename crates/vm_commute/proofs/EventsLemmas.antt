-- The device's own steps do the same whether events are wanted or not, but for the events.
use Rattle.std.proofs.Common.{◌≡◌, ℕ, Bool, true, false, List, [], ◌∷◌, ◌++◌, Option, Some, None, refl, sym, ap, ◌∙◌, if◌then◌else◌}
use Rattle.std.specs.Option.{option_map, option_and_then}
use Rattle.std.proofs.lemmas.Bool.{false≢true}
use Rattle.std.proofs.lemmas.Option.{none-some}
use Rattle.std.proofs.lemmas.List.Elements.{All-head, All-tail}
use Rattle.v4l_const.specs.Model.{source_queue}
use Rattle.vm_local.specs.declared.entry.Entry.{Entry}
use Rattle.vm_local.specs.declared.entry.Entry.TheVariants.{Called, Finish, Bad, Give}
use Rattle.vm_local.specs.declared.owed.Owed.{Owed as OwedEntry}
use Rattle.vm_local.specs.declared.owed.OwedItem.{OwedItem}
use Rattle.vm_local.specs.declared.owed.OwedItem.TheVariants.{Buffer as OwedBuffer, Sync}
use Rattle.vm_local.specs.State.{LocalState}
use Rattle.vm_local.specs.Queue.{can_finish}
use Rattle.vm_local.specs.Steps.{picture_from, timestamp_from, counted, item_given, given_from, finished, marked_bad, given}
use Rattle.vm_local.specs.Log.{after, replay_from}
use Rattle.vm_local.proofs.KeptLemmas.{some_same}
use Rattle.vm_local.proofs.StepLemmas.{frame_made, frame_failed}
use Rattle.vm_commute.specs.Commute.{is_step, AreSteps, without_events, SameButEvents}

-- the step is legal from the state, and leads to this one but for events
abbrev pub Follows : LocalState → Entry → LocalState → Type 0
Follows s e next = (t : LocalState) × (after s e ≡ Some t) × SameButEvents t next

-- ---- one step

same_timestamp : (source : Option ℕ) (s : LocalState) → timestamp_from source (without_events s) ≡ timestamp_from source s
same_timestamp None s = refl
same_timestamp (Some t) s = refl

same_picture : (source : Option ℕ) (s : LocalState) → picture_from source (without_events s) ≡ picture_from source s
same_picture None s = refl
same_picture (Some t) s = refl

same_made : (s : LocalState) → without_events (frame_made (without_events s)) ≡ without_events (frame_made s)
same_made s = rw (same_timestamp (source_queue s.model) s, same_picture (source_queue s.model) s) refl

same_failed : (s : LocalState) → without_events (frame_failed (without_events s)) ≡ without_events (frame_failed s)
same_failed s = rw (same_timestamp (source_queue s.model) s) refl

same_item : (s : LocalState) (t : ℕ) (item : OwedItem) → without_events (item_given (without_events s) t item) ≡ without_events (item_given s t item)
same_item s t (OwedBuffer i) = refl
same_item s t (Sync frame) =
    elim s.subscribed as (λ b. without_events s ≡ without_events (if b then record s {
      events = s.events ++ (record { frame = frame; number = s.next_event }) ∷ [];
      next_event = counted s.next_event;
    } else s)) [
      | true ↦ refl
      | false ↦ refl
    ]

same_gift : (s : LocalState) (owed : List OwedEntry) →
    option_map without_events (given_from (without_events s) owed) ≡ option_map without_events (given_from s owed)
same_gift s [] = refl
same_gift s (o ∷ rest) = ap (λ (x : LocalState). Some x) (same_item (record s { owed = rest }) o.queue o.item)

both_chosen : {A : Type 0} (b : Bool) (f : A → A) (x y : A) → f x ≡ f y →
    option_map f (if b then Some x else None) ≡ option_map f (if b then Some y else None)
both_chosen true f x y h = ap (λ z. Some z) h
both_chosen false f x y h = refl

-- the step from the state without events
same_after : (s : LocalState) (e : Entry) → is_step e ≡ true → option_map without_events (after (without_events s) e) ≡ option_map without_events (after s e)
unfolding finished marked_bad given
same_after s (Called line call reply) step = absurd (false≢true step)
same_after s Finish step = both_chosen (can_finish s) without_events (frame_made (without_events s)) (frame_made s) (same_made s)
same_after s Bad step = both_chosen (can_finish s) without_events (frame_failed (without_events s)) (frame_failed s) (same_failed s)
same_after s Give step = same_gift s s.owed

some_mapped : {A B : Type 0} (f : A → B) (o : Option A) (y : B) → option_map f o ≡ Some y → (x : A) × (o ≡ Some x) × (f x ≡ y)
some_mapped f None y h = absurd (none-some y h)
some_mapped f (Some x) y h = (x, refl, some_same (f x) y y h)

-- a step from two states that are the same but for events
pub step_alike : (s t s' : LocalState) (e : Entry) → is_step e ≡ true → SameButEvents t s → after s e ≡ Some s' → Follows t e s'
step_alike s t s' e step same leads =
    let f : LocalState → Option LocalState = λ x. option_map without_events (after x e) in
    some_mapped without_events (after t e) (without_events s')
    (sym (same_after t e step) ∙ (ap f same ∙ (same_after s e step ∙ ap (λ o. option_map without_events o) leads)))

-- ---- many

-- where entries lead by way of the first
pub by_first : (s t : LocalState) (e : Entry) (es : List Entry) → replay_from s (e ∷ es) ≡ Some t →
    (u : LocalState) × (after s e ≡ Some u) × (replay_from u es ≡ Some t)
by_first s t e es h =
    let P : Option LocalState → Type 0 = λ o. option_and_then (λ u. replay_from u es) o ≡ Some t → (u : LocalState) × (o ≡ Some u) × (replay_from u es ≡ Some t) in
    elim (after s e) as P [
      | None ↦ λ k. absurd (none-some t k)
      | Some u ↦ λ k. (u, refl, k)
    ] h

pub first_and_rest : (s u t : LocalState) (e : Entry) (es : List Entry) → after s e ≡ Some u → replay_from u es ≡ Some t → replay_from s (e ∷ es) ≡ Some t
first_and_rest s u t e es one rest = ap (λ o. option_and_then (λ x. replay_from x es) o) one ∙ rest

-- steps from two states that are the same but for events
pub steps_alike : (es : List Entry) (s t s' : LocalState) → AreSteps es → SameButEvents t s → replay_from s es ≡ Some s' →
    (t' : LocalState) × (replay_from t es ≡ Some t') × SameButEvents t' s'
steps_alike [] s t s' steps same leads = (t, refl, same ∙ ap (λ (x : LocalState). without_events x) (some_same s s' s leads))
steps_alike (e ∷ es) s t s' steps same leads =
    let P : Entry → Type 0 = λ d. is_step d ≡ true in
    let by : _ = by_first s s' e es leads in
    let one : Follows t e by.0 = step_alike s t by.0 e (All-head P e es steps) same by.1 in
    let rest : _ = steps_alike es by.0 one.0 s' (All-tail P e es steps) one.2 by.2 in
    (rest.0, first_and_rest t one.0 rest.0 e es one.1 rest.1, rest.2)
