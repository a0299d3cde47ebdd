-- A memory that a handle still has stays at its place where a reply is collected that lets none go.
use Rattle.std.proofs.Common.{◌≡◌, inl, inr, ℕ, ◌<◌, true, false, List, [], ◌∷◌, ◌++◌, Option, Some, None, is_some, length, map, sym, ap, ◌∙◌, subst, arith}
use Rattle.std.specs.Prelude.{◌↔◌, Contains}
use Rattle.std.specs.List.{filter_map}
use Rattle.std.proofs.lemmas.Bool.{cond-true}
use Rattle.std.proofs.lemmas.List.{append-nil}
use Rattle.std.proofs.lemmas.List.Elements.{Contains-append_left, Contains-append_right, Contains-append_cases}
use Rattle.vm_frame.specs.declared.mem.Held.{Held}
use Rattle.vm_frame.specs.declared.mem.Mem.{Mem}
use Rattle.vm_marks.specs.Marks.{places_of as marked_places}
use Rattle.vm_local.specs.declared.call.Call.{Call}
use Rattle.vm_local.specs.declared.entry.Entry.TheVariants.{Called}
use Rattle.vm_local.specs.State.{LocalState}
use Rattle.vm_local.specs.Log.{called, after}
use Rattle.std.proofs.lemmas.Option.{same_Some}
use Rattle.vm_home.specs.Home.{is_kept, home_of, kept_only}
use Rattle.vm_home.specs.Moves.{is_stopping, home_with, put_back, stopped_count}
use Rattle.vm_home.proofs.DeviceLemmas.{kept_made}
use Rattle.vm_home.proofs.FactLemmas.{facts_of}
use Rattle.vm_home.proofs.KeptLemmas.{kept_at}
use Rattle.vm_log.specs.LegalLog.{LogState, state_of}
use Rattle.vm_log.specs.Answers.{replied}
use Rattle.vm_log.specs.declared.away.Away.{Away}
use Rattle.vm_handle.specs.Answers.{with_reply}
use Rattle.vm_handle.specs.Handle.{IsAlong}
use Rattle.vm_wire.specs.Wire.{response_of}
use Rattle.vm_wire.specs.declared.delivery.Delivery.{Delivery}
use Rattle.vm_session.specs.declared.unsent.Unsent.{Unsent}
use Rattle.vm_stands.specs.Flight.{LeadAll}
use Rattle.vm_stands.specs.Slice.{LeadAhead, LeadWith}
use Rattle.vm_stands.proofs.AheadLemmas.{one_after}
use Rattle.vm_realm.specs.Inner.{Inner, driver_state, unsent_in, under_way}
use Rattle.vm_realm.specs.Places.{Spot, Lies, lie_at, lent_number, with_driver, places_of, numbers_in, call_numbers, told_state, told_state_if, stops_last, queued_held, job_held, is_live}
use Rattle.vm_realm.specs.Places.Spot.{WithHandle, HeldBack, OnLink, InSession, InJob, InLease}
use Rattle.vm_realm.specs.Slice.{Slice, unsent_by}
use Rattle.vm_realm.specs.SliceSteps.{Collects, all_delivered}
use Rattle.vm_realm.specs.Sound.{IsSoundSlice, IsTold}
use Rattle.vm_realm.proofs.KeepCollectLemmas.{IsRead, collected, told_is}
use Rattle.vm_realm.proofs.PlaceFramesLemmas.{entry_same, nowhere_none}
use Rattle.vm_realm.proofs.PlaceLemmas.{at, number_there, spot_there, home_marked, marked_home}
use Rattle.vm_realm.proofs.ListLemmas.{contains_map}
use Rattle.vm_realm.proofs.PlaceLiveLemmas.{quiet_live}
use Rattle.vm_realm.proofs.PlaceLogLemmas.{adds_leads}
use Rattle.vm_realm.proofs.PlaceOnceLemmas.{IsAhead, is_ahead, same_end, Executed, executed_is, fits_underway, take_none, drop_none, none_told, none_comes}
use Rattle.vm_realm.proofs.PlaceSameLemmas.{SameMemories, same_numbers, states_same}

-- ---- all but what is with the driver

abbrev pub rest_places : Slice → Inner → List Lies
rest_places x v =
    lie_at OnLink (call_numbers x.out x.handle.log.away v)
    ++ (lie_at HeldBack (numbers_in (told_state v) (filter_map (λ (d : Delivery). d.held) x.held))
    ++ (lie_at OnLink (numbers_in (told_state v) (filter_map (λ (d : Delivery). d.held) x.events))
    ++ (lie_at InSession (numbers_in (told_state v) (filter_map (λ (e : Unsent). e.held) (unsent_in x.session)))
    ++ (lie_at InSession (numbers_in v.ahead (queued_held x.session))
    ++ lie_at InJob (numbers_in v.ahead (job_held x.job))))))

-- the lists of two slices that differ in their handle and its call alone
pub record Besides (x x' : Slice) (v v' : Inner) : Type 0 where
  pub calls : call_numbers x'.out x'.handle.log.away v' ≡ call_numbers x.out x.handle.log.away v
  pub held : x'.held ≡ x.held
  pub events : x'.events ≡ x.events
  pub session : x'.session ≡ x.session
  pub job : x'.job ≡ x.job
  pub told : SameMemories (told_state v) (told_state v')
  pub ahead : SameMemories v.ahead v'.ahead

rest_same : (x x' : Slice) (v v' : Inner) → Besides x x' v v' → rest_places x' v' ≡ rest_places x v
rest_same x x' v v' b = lists
    (same_numbers (told_state v) (told_state v') (filter_map (λ (d : Delivery). d.held) x'.held) b.told ∙ ap (λ ds. numbers_in (told_state v) (filter_map (λ (d : Delivery). d.held) ds)) b.held)
    (same_numbers (told_state v) (told_state v') (filter_map (λ (d : Delivery). d.held) x'.events) b.told ∙ ap (λ ds. numbers_in (told_state v) (filter_map (λ (d : Delivery). d.held) ds)) b.events)
    (same_numbers (told_state v) (told_state v') (filter_map (λ (e : Unsent). e.held) (unsent_in x'.session)) b.told ∙ ap (λ o. numbers_in (told_state v) (filter_map (λ (e : Unsent). e.held) (unsent_in o))) b.session)
    (same_numbers v.ahead v'.ahead (queued_held x'.session) b.ahead ∙ ap (λ o. numbers_in v.ahead (queued_held o)) b.session)
    (same_numbers v.ahead v'.ahead (job_held x'.job) b.ahead ∙ ap (λ o. numbers_in v.ahead (job_held o)) b.job)
  where
    lists : {h h' e e' u u' q q' j j' : List ℕ} → h' ≡ h → e' ≡ e → u' ≡ u → q' ≡ q → j' ≡ j →
        (lie_at OnLink (call_numbers x'.out x'.handle.log.away v') ++ (lie_at HeldBack h' ++ (lie_at OnLink e' ++ (lie_at InSession u' ++ (lie_at InSession q' ++ lie_at InJob j')))))
        ≡ (lie_at OnLink (call_numbers x.out x.handle.log.away v) ++ (lie_at HeldBack h ++ (lie_at OnLink e ++ (lie_at InSession u ++ (lie_at InSession q ++ lie_at InJob j)))))
    lists hs es us qs js = λ i. lie_at OnLink (b.calls i) ++ (lie_at HeldBack (hs i) ++ (lie_at OnLink (es i) ++ (lie_at InSession (us i) ++ (lie_at InSession (qs i) ++ lie_at InJob (js i)))))

-- ---- what is with the driver

-- at home of the one is what is at home of the other, and no lease is out
driver_to : (x x' : Slice) (m : ℕ) (spot : Spot) → lent_number (driver_state x) x.handle.log.away ≡ [] → is_some (home_of x'.handle.log.home m) ≡ is_some (home_of x.handle.log.home m) →
    Contains (with_driver x) (at spot m) → Contains (with_driver x') (at spot m)
driver_to x x' m spot none same there =
    let home : List ℕ = marked_places (map is_some x.handle.log.home) in
    let home' : List ℕ = marked_places (map is_some x'.handle.log.home) in
    elim (Contains-append_cases (lie_at WithHandle home) (lie_at InLease (lent_number (driver_state x) x.handle.log.away)) (at spot m) there) as (λ _. Contains (with_driver x') (at spot m)) [
      | inl here ↦
          let is : WithHandle ≡ spot = spot_there WithHandle spot home m here in
          let one : Contains home m = number_there WithHandle home m (subst (λ k. Contains (lie_at WithHandle home) (at k m)) (sym is) here) in
          let flag : is_some (home_of x'.handle.log.home m) ≡ true = same ∙ marked_home x.handle.log.home m one in
          let now : Contains (lie_at WithHandle home') (at WithHandle m) = contains_map (at WithHandle) home' m (home_marked x'.handle.log.home m flag) in
          Contains-append_left (lie_at WithHandle home') (lie_at InLease (lent_number (driver_state x') x'.handle.log.away)) (at spot m) (subst (λ k. Contains (lie_at WithHandle home') (at k m)) is now)
      | inr lent ↦ absurd (nothing_in (at spot m) (subst (λ ns. Contains (lie_at InLease ns) (at spot m)) none lent))
    ]
  where
    nothing_in : (k : Lies) → Contains [] k → ⊥
    nothing_in k there = absurd (omega (arith, there.1))

-- so a memory is at its place in both, or in none
pub stays_at : (x x' : Slice) (v v' : Inner) (m : ℕ) (spot : Spot) → Besides x x' v v' → lent_number (driver_state x) x.handle.log.away ≡ [] → lent_number (driver_state x') x'.handle.log.away ≡ [] →
    is_some (home_of x'.handle.log.home m) ≡ is_some (home_of x.handle.log.home m) → (Contains (places_of x v) (at spot m)) ↔ (Contains (places_of x' v') (at spot m))
stays_at x x' v v' m spot b none none_then same = (
  (λ there. elim (Contains-append_cases (with_driver x) (rest_places x v) (at spot m) there) as (λ _. Contains (places_of x' v') (at spot m)) [
    | inl driver ↦ Contains-append_left (with_driver x') (rest_places x' v') (at spot m) (driver_to x x' m spot none same driver)
    | inr rest ↦ Contains-append_right (with_driver x') (rest_places x' v') (at spot m) (subst (λ ls. Contains ls (at spot m)) (sym (rest_same x x' v v' b)) rest)
  ]),
  (λ there. elim (Contains-append_cases (with_driver x') (rest_places x' v') (at spot m) there) as (λ _. Contains (places_of x v) (at spot m)) [
    | inl driver ↦ Contains-append_left (with_driver x) (rest_places x v) (at spot m) (driver_to x' x m spot none_then (sym same) driver)
    | inr rest ↦ Contains-append_right (with_driver x) (rest_places x v) (at spot m) (subst (λ ls. Contains ls (at spot m)) (rest_same x x' v v' b) rest)
  ]),
)

-- ---- a reply is collected

along_lent : (s : LocalState) (o : Option ℕ) (away : Away) → IsAlong o away → lent_number s away ≡ []
along_lent s None away along = ap (lent_number s) along
along_lent s (Some n) away along = ap (lent_number s) along

bare_home : (s : LocalState) (call : Call) (held : List Held) (home : List (Option Mem)) → held ≡ [] → home_with s call held home ≡ home
bare_home s call held home none =
    let n : ℕ = stopped_count s call in
    ap (λ hs. home_with s call hs home) none
    ∙ ((λ j. put_back s (take_none n j) home ++ map (λ (h : Held). Some h.mem) (drop_none n j)) ∙ append-nil home)

pub collect_places : (x x' : Slice) (v v' : Inner) (m : ℕ) (spot : Spot) → IsSoundSlice x v → IsSoundSlice x' v' → (collects : Collects x x') → is_stopping collects.1 ≡ false → x.held ≡ [] → is_live x' v' m ≡ true →
    (Contains (places_of x v) (at spot m)) ↔ (Contains (places_of x' v') (at spot m))
collect_places x x' v v' m spot sound goes (line, call, c, r, reply, under, out, command, events, may, answer, after_it) ends empty live =
    stays_at x x' v v' m spot besides lent_none (ap (λ (l : LogState). lent_number (state_of l) l.away) log) same_home
  where
    read : IsRead x v line call r reply (response_of c r.reply.bytes)
    read = collected x v line call c r reply sound under out command events may answer

    s : LocalState
    s = driver_state x

    log : x'.handle.log ≡ replied x.handle.log line call reply r.held
    log = ap (λ (y : Slice). y.handle.log) after_it ∙ ap (λ ds. (all_delivered (with_reply x.handle line call reply (response_of c r.reply.bytes) r.held) ds).log) empty

    u : LocalState
    u = driver_state x'

    leads : called s line call reply ≡ Some u
    leads = one_after s u (Called line call reply) (adds_leads x.handle.log x'.handle.log (Called line call reply ∷ []) sound.log.legal goes.log.legal (ap (λ (l : LogState). l.entries) log) (ap (λ (l : LogState). l.model) log))

    t : IsTold x v r
    t = told_is x v x.out r out sound.out

    entry : (t.call ≡ call) × (t.reply ≡ reply)
    entry = entry_same t.line line t.call call t.reply reply (same_Some _ _ (sym t.executed ∙ read.executed))

    ends_told : is_stopping t.call ≡ false
    ends_told = ap is_stopping entry.0 ∙ ends

    e : Executed x v r t
    e = executed_is x v r t sound

    ahead_leads : LeadWith false e.ahead.id s (Called t.line t.call t.reply) (under_way x) v.ahead
    ahead_leads = subst (λ b. LeadWith b e.ahead.id s (Called t.line t.call t.reply) (under_way x) v.ahead) ends_told e.leads

    none_then : v'.executed ≡ None
    none_then = nowhere_none x' v' (ap (λ (y : Slice). y.out) after_it) goes

    is : IsAhead x' v'
    is = is_ahead x' v' goes

    -- the same messages lead on from the state behind the call
    same_u : ahead_leads.0 ≡ u
    same_u = same_Some ahead_leads.0 u (sym (subst (λ k. after s k ≡ Some ahead_leads.0) (same_Some _ _ (sym t.executed ∙ read.executed)) ahead_leads.1) ∙ leads)

    messages : under_way x' ≡ under_way x
    messages = λ j. map unsent_by ((ap (λ (y : Slice). y.held) after_it ∙ sym empty) j ++ ap (λ (y : Slice). y.events) after_it j) ++ unsent_in (ap (λ (y : Slice). y.session) after_it j)

    same_ahead : v'.ahead ≡ v.ahead
    same_ahead = same_end is.id e.ahead.id u v'.ahead v.ahead (under_way x)
        (subst (λ es. LeadAll is.id u es v'.ahead) messages (subst (λ k. LeadAhead is.id u k (under_way x') v'.ahead) none_then is.leads))
        (subst (λ k. LeadAll e.ahead.id k (under_way x) v.ahead) same_u ahead_leads.2)

    held_none : r.held ≡ []
    held_none = none_comes v.before t.next t.call t.reply r.held ends_told t.memories

    told : told_state v ≡ v.ahead
    told = e.told ∙ ap (λ b. told_state_if b v) ends_told

    told_then : told_state v' ≡ v'.ahead
    told_then = ap (λ k. told_state_if (stops_last k) v') none_then

    lent_none : lent_number s x.handle.log.away ≡ []
    lent_none = along_lent s _ x.handle.log.away (fits_underway x v line call sound under).2

    besides : Besides x x' v v'
    besides = record {
      calls = ap (λ (y : Slice). call_numbers y.out y.handle.log.away v') after_it
          ∙ sym (ap (λ o. call_numbers o x.handle.log.away v) out ∙ (e.calls ∙ none_told (stopped_count v.before t.call) v.before r.held held_none));
      held = ap (λ (y : Slice). y.held) after_it ∙ sym empty;
      events = ap (λ (y : Slice). y.events) after_it;
      session = ap (λ (y : Slice). y.session) after_it;
      job = ap (λ (y : Slice). y.job) after_it;
      told = states_same (told_state v) (told_state v') (told_then ∙ (same_ahead ∙ sym told));
      ahead = states_same v.ahead v'.ahead same_ahead;
    }

    same_home : is_some (home_of x'.handle.log.home m) ≡ is_some (home_of x.handle.log.home m)
    same_home =
        let kept : is_kept u m ≡ true = quiet_live x' v' m goes none_then live in
        let within : m < length u.memories = kept_made u (facts_of u is.reached).sound m kept in
        let home : x'.handle.log.home ≡ kept_only u x.handle.log.home =
        ap (λ (l : LogState). l.home) log
        ∙ ((λ j. kept_only (state_of (sym log j)) (home_with s call r.held x.handle.log.home))
        ∙ ap (kept_only u) (bare_home s call r.held x.handle.log.home held_none)) in
        ap (λ hs. is_some (home_of hs m)) home
        ∙ (ap is_some (kept_at u x.handle.log.home m within) ∙ ap is_some (cond-true (is_kept u m) (home_of x.handle.log.home m) None kept))
