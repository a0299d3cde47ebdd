-- The steps in which all memories stay at their places: a line is begun that moves none, or a reply is collected that lets none go.
use Rattle.std.proofs.Common.{◌≡◌, inl, inr, ℕ, Bool, true, false, [], ◌++◌, Option, Some, None, is_some, map, refl, sym, ap, ◌∙◌, subst}
use Rattle.std.specs.Prelude.{◌↔◌, Contains}
use Rattle.std.proofs.lemmas.Bool.{false≢true, true≢false, cases_Bool, cases_eq}
use Rattle.vm_local.specs.declared.call.Call.{Call}
use Rattle.vm_local.specs.declared.call.Call.TheVariants.{Munmap}
use Rattle.vm_home.specs.Moves.{is_stopping}
use Rattle.vm_handle.specs.Handle.{HandleState, way_from}
use Rattle.vm_log.specs.declared.away.Away.TheVariants.{Nothing}
use Rattle.vm_exchange.specs.declared.way.Way.{Way}
use Rattle.vm_exchange.specs.declared.way.Way.TheVariants.{Crosses, AnsweredHere, Waits, TouchesMemory}
use Rattle.vm_guest.specs.Guest.{process_at, handle_named}
use Rattle.vm_guest.specs.Process.{handle_at, no_handle, crossing, current, is_crossing, is_at_rest, issuing, next, some_if}
use Rattle.vm_guest.specs.declared.asked.Statement.{Statement}
use Rattle.vm_realm.specs.declared.step.Step.TheVariants.{Issue, Collect}
use Rattle.vm_realm.specs.declared.step.Step.{Step}
use Rattle.vm_realm.specs.World.{WorldState}
use Rattle.vm_realm.specs.Inner.{Inner, driver_state, unsent_in, under_way}
use Rattle.vm_realm.specs.Laws.{PlacesStay, lets_go, moves_answered, moves_begun, moves_collected, moves_memory}
use Rattle.vm_realm.specs.Places.{Spot, call_numbers, lent_number, told_state, told_state_if, stops_last, places_of, is_live}
use Rattle.vm_realm.specs.Slice.{Slice, out_at, slice_with, slice_at, unsent_by}
use Rattle.vm_realm.specs.Slice.Out.{Nowhere}
use Rattle.vm_realm.proofs.KeepLendLemmas.{rests_nowhere, start_rests}
use Rattle.vm_realm.specs.SliceSteps.{Collects, SliceDoes, Starts, StartsBy, takes_by, TakesNone}
use Rattle.vm_realm.specs.Sound.{IsSoundSlice, IsSound, IsHandle, IsWhole}
use Rattle.vm_realm.specs.Steps.{Steps}
use Rattle.vm_realm.proofs.AfterLemmas.{IsIssued, is_issued, IsCollected, is_collected}
use Rattle.vm_realm.proofs.ProcessLemmas.{kept_some, some_where}
use Rattle.vm_realm.proofs.PlaceBeginLemmas.{LogStill, issued_still}
use Rattle.vm_realm.proofs.PlaceLiveLemmas.{quiet_live}
use Rattle.vm_realm.proofs.PlaceMessageLemmas.{memory_stays}
use Rattle.vm_realm.proofs.PlaceOnceLemmas.{IsAhead, is_ahead}
use Rattle.vm_stands.specs.Slice.{LeadAhead}
use Rattle.vm_realm.proofs.LiftNextLemmas.{Lifts, lift_next}
use Rattle.vm_realm.proofs.WholeNextLemmas.{whole_next}
use Rattle.vm_realm.proofs.PlaceLemmas.{at}
use Rattle.vm_realm.proofs.PlaceFramesLemmas.{nowhere_none, asked_none, handle_next, handle_before, unnamed_handle, option_none}
use Rattle.vm_realm.proofs.PlaceDropLemmas.{call_collected}
use Rattle.vm_realm.proofs.PlaceKeptLemmas.{collect_rests}
use Rattle.vm_realm.proofs.PlaceSameLemmas.{SameMemories, states_same, places_alone}
use Rattle.vm_realm.proofs.PlaceStayLemmas.{Besides, stays_at, collect_places}

abbrev IsAt : Slice → Inner → Spot → ℕ → Type 0
IsAt x v spot m = Contains (places_of x v) (at spot m)

same_places : (x x' : Slice) (v v' : Inner) (spot : Spot) (m : ℕ) → x' ≡ x → IsSoundSlice x v → IsSoundSlice x' v' → (IsAt x v spot m) ↔ (IsAt x' v' spot m)
same_places x x' v v' spot m is before goes =
    let goes_here : IsSoundSlice x v' = subst (λ y. IsSoundSlice y v') is goes in
    let same : places_of x' v' ≡ places_of x v = ap (λ (y : Slice). places_of y v') is ∙ places_alone x v v' before goes_here in
    ((λ there. subst (λ ls. Contains ls (at spot m)) (sym same) there), (λ there. subst (λ ls. Contains ls (at spot m)) same there))

lets_stop : (call : Call) → lets_go call ≡ false → is_stopping call ≡ false
lets_stop (Munmap name) lets = refl
lets_stop call lets = lets

-- ---- a line is begun

-- what a step does that begins a line, but for the handle
record BeginsOnly (x x' : Slice) (v' : Inner) : Type 0 where
  held : x'.held ≡ x.held
  events : x'.events ≡ x.events
  session : x'.session ≡ x.session
  job : x'.job ≡ x.job
  none : v'.executed ≡ None
  calls : x'.handle.log.away ≡ Nothing → call_numbers x'.out x'.handle.log.away v' ≡ []

begins_only : (way : Way) (line : ℕ) (call : Call) (x x' : Slice) (v' : Inner) → IsSoundSlice x' v' → x.out ≡ Nowhere → StartsBy way line call x x' → BeginsOnly x x' v'
begins_only (Crosses c) line call x x' v' goes nowhere (along, handle, out, after) = record {
  held = ap (λ (y : Slice). y.held) after;
  events = ap (λ (y : Slice). y.events) after;
  session = ap (λ (y : Slice). y.session) after;
  job = ap (λ (y : Slice). y.job) after;
  none = asked_none x' v' _ (ap (λ (y : Slice). y.out) after) goes;
  calls = λ none. (λ j. call_numbers (after j).out (none j) v');
}
begins_only AnsweredHere line call x x' v' goes nowhere (handle, itself, after) = record {
  held = ap (λ (y : Slice). y.held) after;
  events = ap (λ (y : Slice). y.events) after;
  session = ap (λ (y : Slice). y.session) after;
  job = ap (λ (y : Slice). y.job) after;
  none = nowhere_none x' v' (ap (λ (y : Slice). y.out) after ∙ nowhere) goes;
  calls = λ none. ap (λ o. call_numbers o x'.handle.log.away v') (ap (λ (y : Slice). y.out) after ∙ nowhere);
}
begins_only Waits line call x x' v' goes nowhere after = record {
  held = ap (λ (y : Slice). y.held) after;
  events = ap (λ (y : Slice). y.events) after;
  session = ap (λ (y : Slice). y.session) after;
  job = ap (λ (y : Slice). y.job) after;
  none = nowhere_none x' v' (ap (λ (y : Slice). y.out) after ∙ nowhere) goes;
  calls = λ none. ap (λ o. call_numbers o x'.handle.log.away v') (ap (λ (y : Slice). y.out) after ∙ nowhere);
}
begins_only TouchesMemory line call x x' v' goes nowhere does = absurd does

issue_places : (x x' : Slice) (v v' : Inner) (m : ℕ) (spot : Spot) → IsSoundSlice x v → IsSoundSlice x' v' → Starts x x' → LogStill x.handle.log x'.handle.log → is_live x' v' m ≡ true → (IsAt x v spot m) ↔ (IsAt x' v' spot m)
issue_places x x' v v' m spot sound goes (line, call, may, words, first, by) log live =
    stays_at x x' v v' m spot besides (ap (lent_number (driver_state x)) away) (ap (lent_number (driver_state x')) away_then) (log.home m (quiet_live x' v' m goes only.none live))
  where
    only : BeginsOnly x x' v'
    only = begins_only (way_from x.handle call) line call x x' v' goes may.out by

    none : v.executed ≡ None
    none = nowhere_none x v may.out sound

    away : x.handle.log.away ≡ Nothing
    away = (start_rests x v sound may).1

    away_then : x'.handle.log.away ≡ Nothing
    away_then = log.away away

    is : IsAhead x v
    is = is_ahead x v sound

    is_then : IsAhead x' v'
    is_then = is_ahead x' v' goes

    messages : under_way x' ≡ under_way x
    messages = λ j. map unsent_by (only.held j ++ only.events j) ++ unsent_in (only.session j)

    ahead : SameMemories v.ahead v'.ahead
    ahead = λ u i.
        memory_stays is_then.id (driver_state x') v'.ahead u i (under_way x') is_then.reached (subst (λ e. LeadAhead is_then.id (driver_state x') e (under_way x') v'.ahead) only.none is_then.leads)
        ∙ (log.memories u i ∙ sym (memory_stays is.id (driver_state x) v.ahead u i (under_way x) is.reached (subst (λ e. LeadAhead is.id (driver_state x) e (under_way x) v.ahead) none is.leads)))

    told : told_state v ≡ v.ahead
    told = ap (λ e. told_state_if (stops_last e) v) none

    told_then : told_state v' ≡ v'.ahead
    told_then = ap (λ e. told_state_if (stops_last e) v') only.none

    besides : Besides x x' v v'
    besides = record {
      calls = only.calls away_then ∙ sym (ap (λ o. call_numbers o x.handle.log.away v) may.out);
      held = only.held;
      events = only.events;
      session = only.session;
      job = only.job;
      told = λ u i. states_same v'.ahead (told_state v') told_then u i ∙ (ahead u i ∙ sym (states_same v.ahead (told_state v) told u i));
      ahead = ahead;
    }

issuing_is : (w u : WorldState) (n : ℕ) (i : IsIssued w n u) (o : Option Statement) → issuing (process_at w.guest n) ≡ o → is_some o ≡ true → issuing (process_at w.guest n) ≡ Some i.statement
issuing_is w u n i None is may = absurd (false≢true may)
issuing_is w u n i (Some s) is may =
    let now : next (process_at w.guest n) ≡ Some s = kept_some _ (next (process_at w.guest n)) s is in
    is ∙ (sym (some_where (is_at_rest (process_at w.guest n).status) (current (process_at w.guest n)) s now).1 ∙ i.now)

issue_stays : (w u : WorldState) (p n h m : ℕ) (v v' : Inner) (spot : Spot) → IsSound w → TakesNone w (Issue p) → Steps w (Issue p) u → moves_memory w (Issue p) ≡ false → IsHandle w n h → IsSoundSlice (slice_at w n h) v →
    IsSoundSlice (slice_at u n h) v' → is_live (slice_at u n h) v' m ≡ true → (IsAt (slice_at w n h) v spot m) ↔ (IsAt (slice_at u n h) v' spot m)
issue_stays w u p n h m v v' spot (rows, sound) none does still named before goes live = by_lift (lift_next w u rows (Issue p) sound none does whole)
  where
    whole : IsWhole u
    whole = whole_next w u (Issue p) (rows, sound) none does

    i : IsIssued w p u
    i = is_issued w u p none does

    moves_none : moves_begun i.statement.what ≡ false
    moves_none = sym (ap (λ o. takes_by o (λ (s : Statement). moves_begun s.what)) (issuing_is w u p i (issuing (process_at w.guest p)) refl does.0)) ∙ still

    log : LogStill (slice_at w n h).handle.log (slice_at u n h).handle.log
    log = issued_still w u p i n h moves_none before.log.legal goes.log.legal (is_ahead (slice_at u n h) v' goes).reached

    same : slice_at u n h ≡ slice_at w n h → (IsAt (slice_at w n h) v spot m) ↔ (IsAt (slice_at u n h) v' spot m)
    same is = same_places (slice_at w n h) (slice_at u n h) v v' spot m is before goes

    by_lift : Lifts (Issue p) w u rows → (IsAt (slice_at w n h) v spot m) ↔ (IsAt (slice_at u n h) v' spot m)
    by_lift (inr none_moved) = same (none_moved.slices n h (handle_next w u (Issue p) n h (rows, sound) none does named))
    by_lift (inl moved) = elim (cases_eq n moved.process) as (λ _. (IsAt (slice_at w n h) v spot m) ↔ (IsAt (slice_at u n h) v' spot m)) [
      | inr apart ↦ same (moved.others n h (λ both. apart both.0))
      | inl one ↦ elim (cases_eq h moved.handle) as (λ _. (IsAt (slice_at w n h) v spot m) ↔ (IsAt (slice_at u n h) v' spot m)) [
        | inr apart ↦ same (moved.others n h (λ both. apart both.1))
        | inl two ↦
            let P : ℕ → ℕ → Type 0 = λ a k. SliceDoes (Issue p) (slice_at w a k) (slice_at u a k) in
            issue_places (slice_at w n h) (slice_at u n h) v v' m spot before goes (subst (λ k. P n k) (sym two) (subst (λ a. P a moved.handle) (sym one) moved.does)) log live
      ]
    ]

-- ---- a reply is collected

collect_stays : (w u : WorldState) (n h m : ℕ) (v v' : Inner) (spot : Spot) → IsSound w → TakesNone w Collect → Steps w Collect u → moves_collected w.guest w.replies ≡ false → (slice_at w n h).held ≡ [] → IsHandle w n h → IsSoundSlice (slice_at w n h) v →
    IsSoundSlice (slice_at u n h) v' → is_live (slice_at u n h) v' m ≡ true → (IsAt (slice_at w n h) v spot m) ↔ (IsAt (slice_at u n h) v' spot m)
collect_stays w u n h m v v' spot (rows, sound) none does still empty named before goes live = by_lift (lift_next w u rows Collect sound none does whole)
  where
    whole : IsWhole u
    whole = whole_next w u Collect (rows, sound) none does

    c : IsCollected w u
    c = is_collected w u none does

    crossing_is : crossing (process_at w.guest c.told.reply.who) ≡ Some c.statement
    crossing_is = ap (λ t. some_if (is_crossing t) (current (process_at w.guest c.told.reply.who))) c.status ∙ c.now

    stays : moves_answered c.statement.what ≡ false
    stays = sym (ap (λ o. takes_by o (λ (s : Statement). moves_answered s.what)) crossing_is) ∙ (sym (ap (moves_collected w.guest) c.first) ∙ still)

    same : slice_at u n h ≡ slice_at w n h → (IsAt (slice_at w n h) v spot m) ↔ (IsAt (slice_at u n h) v' spot m)
    same is = same_places (slice_at w n h) (slice_at u n h) v v' spot m is before goes

    moves : (collects : Collects (slice_at w n h) (slice_at u n h)) → (IsAt (slice_at w n h) v spot m) ↔ (IsAt (slice_at u n h) v' spot m)
    moves collects =
        let is : _ = call_collected w u n h collects.0 collects.1 collects.3 c (rows, sound) collects.5 collects.6 (collect_rests (slice_at w n h) (slice_at u n h) collects) in
        let lets : lets_go collects.1 ≡ false = sym (ap moves_answered is.1) ∙ stays in
        collect_places (slice_at w n h) (slice_at u n h) v v' m spot before goes collects (lets_stop collects.1 lets) empty live

    by_lift : Lifts Collect w u rows → (IsAt (slice_at w n h) v spot m) ↔ (IsAt (slice_at u n h) v' spot m)
    by_lift (inr none_moved) = same (none_moved.slices n h (handle_next w u Collect n h (rows, sound) none does named))
    by_lift (inl moved) = elim (cases_eq n moved.process) as (λ _. (IsAt (slice_at w n h) v spot m) ↔ (IsAt (slice_at u n h) v' spot m)) [
      | inr apart ↦ same (moved.others n h (λ both. apart both.0))
      | inl one ↦ elim (cases_eq h moved.handle) as (λ _. (IsAt (slice_at w n h) v spot m) ↔ (IsAt (slice_at u n h) v' spot m)) [
        | inr apart ↦ same (moved.others n h (λ both. apart both.1))
        | inl two ↦
            let P : ℕ → ℕ → Type 0 = λ i k. SliceDoes Collect (slice_at w i k) (slice_at u i k) in
            moves (subst (λ k. P n k) (sym two) (subst (λ i. P i moved.handle) (sym one) moved.does))
      ]
    ]

-- a place that has no handle of the script's has the same slice ever
bare_slice : (w : WorldState) (n h : ℕ) (v : Inner) → is_some (handle_named w.guest n h) ≡ false → IsSoundSlice (slice_at w n h) v → slice_at w n h ≡ slice_with w n no_handle Nowhere
bare_slice w n h v unnamed sound =
    let handle : handle_at (process_at w.guest n) h ≡ no_handle = unnamed_handle w.guest.processes n h (option_none (handle_named w.guest n h) unnamed) in
    let out : out_at w n h ≡ Nowhere = rests_nowhere (slice_at w n h) v (out_at w n h) (ap (λ (k : HandleState). k.stage) handle) sound.out in
    λ j. slice_with w n (handle j) (out j)

bare_places : (w u : WorldState) (s : Step) (n h m : ℕ) (v v' : Inner) (spot : Spot) → IsSound w → TakesNone w s → Steps w s u → is_some (handle_named w.guest n h) ≡ false → IsSoundSlice (slice_at w n h) v → IsSoundSlice (slice_at u n h) v' →
    (IsAt (slice_at w n h) v spot m) ↔ (IsAt (slice_at u n h) v' spot m)
bare_places w u s n h m v v' spot sound none does unnamed before goes =
    let gone : is_some (handle_named u.guest n h) ≡ false = elim (cases_Bool (is_some (handle_named u.guest n h))) as (λ _. is_some (handle_named u.guest n h) ≡ false) [
      | inr not ↦ not
      | inl named ↦ absurd (true≢false (sym (handle_before w u s n h sound none does named) ∙ unnamed))
    ] in
    same_places (slice_at w n h) (slice_at u n h) v v' spot m (bare_slice u n h v' gone goes ∙ sym (bare_slice w n h v unnamed before)) before goes

-- ---- all steps that move no memory of themselves

pub places_stay : PlacesStay
places_stay w u (Issue p) n h m v v' spot sound does still delivers before goes live = by_name (is_some (handle_named w.guest n h)) refl
  where
    by_name : (b : Bool) → is_some (handle_named w.guest n h) ≡ b → (IsAt (slice_at w n h) v spot m) ↔ (IsAt (slice_at u n h) v' spot m)
    by_name true named = issue_stays w u p n h m v v' spot sound delivers.0 does still named before goes live
    by_name false unnamed = bare_places w u (Issue p) n h m v v' spot sound delivers.0 does unnamed before goes
places_stay w u Collect n h m v v' spot sound does still delivers before goes live = by_name (is_some (handle_named w.guest n h)) refl
  where
    by_name : (b : Bool) → is_some (handle_named w.guest n h) ≡ b → (IsAt (slice_at w n h) v spot m) ↔ (IsAt (slice_at u n h) v' spot m)
    by_name true named = collect_stays w u n h m v v' spot sound delivers.0 does still (delivers.1 refl) named before goes live
    by_name false unnamed = bare_places w u Collect n h m v v' spot sound delivers.0 does unnamed before goes
places_stay w u s n h m v v' spot sound does still delivers before goes live = absurd (true≢false still)
