-- In a sound slice each live memory is at one place, once.
use Rattle.std.proofs.Common.{◌≡◌, ◌⊎◌, inl, inr, ℕ, zero, suc, ◌+◌, ◌<◌, ◌≤◌, Bool, true, false, ◌==◌, List, [], ◌∷◌, ◌++◌, Option, Some, None, is_some, length, map, take, drop, refl, sym, ap, ◌∙◌, subst, arith}
use Rattle.std.specs.Option.{option_map}
use Rattle.v4l_const.specs.declared.errno.Errno.{Errno}
use Rattle.vm_local.proofs.KeptLemmas.{refused_call}
use Rattle.std.specs.List.{filter_map, cons_option, flat_map, range_with_len}
use Rattle.std.proofs.lemmas.Bool.{false≢true, true≢false, cases_Bool, cases_eq, cases_lt, or_cases, eq-eqb, ne_eqb, cond-true, cond-false}
use Rattle.std.proofs.lemmas.List.{map-append, get_or_past}
use Rattle.std.proofs.lemmas.List.Elements.{All-head, All-tail}
use Rattle.vm_frame.specs.declared.mem.Held.{Held}
use Rattle.vm_job.specs.Job.{JobParts}
use Rattle.vm_mem.specs.Lists.{occurrences}
use Rattle.vm_local.specs.declared.call.Call.{Call}
use Rattle.vm_local.specs.declared.call.Call.TheVariants.{OpenHandle, QBuf}
use Rattle.vm_local.specs.declared.entry.Entry.{Entry}
use Rattle.vm_local.specs.declared.entry.Entry.TheVariants.{Called, Finish, Bad, Give}
use Rattle.vm_local.specs.declared.reply.Reply.{Reply}
use Rattle.vm_local.specs.declared.reply.Reply.TheVariants.{Refused}
use Rattle.vm_local.specs.State.{LocalState}
use Rattle.vm_local.specs.Listed.{once}
use Rattle.vm_local.specs.Log.{after, called, replay_from}
use Rattle.vm_local.specs.Memory.{is_lent, is_just}
use Rattle.vm_commute.specs.Commute.{is_step, AreSteps}
use Rattle.vm_commute.proofs.EventsLemmas.{by_first as by_one}
use Rattle.vm_home.specs.Home.{is_kept, home_of, is_out, IsInPlace}
use Rattle.vm_home.specs.Moves.{is_refusal, is_stopping, stopped_count, stops, queued_on, goes_along, touched, ComeWith, ComeBack}
use Rattle.vm_home.specs.Reached.{IsReached}
use Rattle.vm_home.specs.ToCome.{IsStep}
use Rattle.vm_home.proofs.ComeLemmas.{none_come}
use Rattle.vm_home.proofs.DeviceLemmas.{kept_made}
use Rattle.vm_home.proofs.FactLemmas.{facts_of, reached_after}
use Rattle.vm_home.proofs.KeptLemmas.{kept_after}
use Rattle.vm_home.proofs.LawLemmas.{step_one}
use Rattle.vm_home.proofs.OwnLemmas.{number_made}
use Rattle.vm_home.proofs.PayloadLemmas.{touches_it, touched_made}
use Rattle.vm_home.proofs.PlaceLemmas.{lent_at, or_right}
use Rattle.vm_home.proofs.StopLemmas.{number_at}
use Rattle.vm_log.specs.LegalLog.{number_away, IsAway}
use Rattle.vm_log.specs.declared.away.Away.{Away}
use Rattle.vm_log.specs.declared.away.Away.TheVariants.{Nothing, Sent, Lent}
use Rattle.vm_handle.specs.Handle.{FitsStage, IsAlong, id_of}
use Rattle.vm_handle.specs.declared.stage.Stage.TheVariants.{Underway}
use Rattle.vm_handle.proofs.ReplyLemmas.{along_with, may_of}
use Rattle.vm_wire.specs.declared.delivery.Delivery.{Delivery}
use Rattle.vm_wire.specs.Message.{Returning}
use Rattle.vm_exchange.specs.Messages.{flight_of}
use Rattle.vm_session.specs.declared.unsent.Unsent.{Unsent}
use Rattle.vm_session.specs.State.{SessionState}
use Rattle.vm_stands.specs.Flight.{LeadAll}
use Rattle.vm_stands.specs.Slice.{LeadWith, LeadAhead}
use Rattle.vm_stands.proofs.AheadLemmas.{flight_steps}
use Rattle.vm_stands.proofs.FlightLemmas.{all_replay}
use Rattle.vm_stands.proofs.SliceLemmas.{all_reached}
use Rattle.vm_realm.specs.Inner.{Inner, driver_state, id_in, unsent_in, under_way}
use Rattle.vm_realm.specs.Places.{Spot, Lies, lie_at, lent_number, with_driver, sent_number, stopped_by, told_numbers, places_of, numbers_in, call_numbers, told_state, told_state_if, stops_last, queued_held, job_held, is_live, IsOncePlaced}
use Rattle.vm_realm.specs.Places.Spot.{HeldBack, OnLink, InSession, InJob}
use Rattle.vm_realm.specs.Slice.{Slice, Out, earlier_of, unsent_by}
use Rattle.vm_realm.specs.Slice.Out.{Nowhere, Asked, Kept, Told, Astray}
use Rattle.vm_realm.specs.SliceSteps.{IsFirst}
use Rattle.vm_realm.specs.Sound.{IsSoundSlice, IsOut, IsSeated, IsTold, IsBefore, spec_running}
use Rattle.vm_realm.proofs.KeepOutLemmas.{append_none}
use Rattle.vm_realm.proofs.SessionLemmas.{open_has}
use Rattle.vm_realm.proofs.PlaceLemmas.{joined, numbers_at, in_parts, one_flag, driver_once, driver_none, sent_none}
use Rattle.vm_realm.proofs.PlaceCallLemmas.{Crossed, crossed}
use Rattle.vm_realm.proofs.PlaceMessageLemmas.{numbers_first, messages_count}
use Rattle.vm_realm.proofs.PlaceSessionLemmas.{session_count}
use Rattle.vm_realm.proofs.PlaceShutLemmas.{shut_lends}
use Rattle.vm_realm.proofs.PlaceStopLemmas.{stop_count, stop_made, back_numbers, split_come, range_below, range_within}

-- ---- the lists

abbrev numbers_all : List Lies → List ℕ
numbers_all ls = map (λ (l : Lies). l.number) ls

two_lists : (m : ℕ) (ls : List Lies) (spot : Spot) (ns : List ℕ) → occurrences m (numbers_all (lie_at spot ns ++ ls)) ≡ occurrences m ns + occurrences m (numbers_all ls)
two_lists m ls spot ns =
    ap (occurrences m) (map-append (λ (l : Lies). l.number) (lie_at spot ns) ls)
    ∙ (joined m (numbers_all (lie_at spot ns)) (numbers_all ls) ∙ ap (λ ks. occurrences m ks + occurrences m (numbers_all ls)) (numbers_at spot ns))

six_lists : (m : ℕ) (first : List Lies) (a b c d e f : List ℕ) →
    occurrences m (numbers_all (first ++ (lie_at OnLink a ++ (lie_at HeldBack b ++ (lie_at OnLink c ++ (lie_at InSession d ++ (lie_at InSession e ++ lie_at InJob f)))))))
    ≡ occurrences m (numbers_all first) + (occurrences m a + (occurrences m b + (occurrences m c + (occurrences m d + (occurrences m e + occurrences m f)))))
six_lists m first a b c d e f =
    let l6 : List Lies = lie_at InJob f in
    let l5 : List Lies = lie_at InSession e ++ l6 in
    let l4 : List Lies = lie_at InSession d ++ l5 in
    let l3 : List Lies = lie_at OnLink c ++ l4 in
    let l2 : List Lies = lie_at HeldBack b ++ l3 in
    let l1 : List Lies = lie_at OnLink a ++ l2 in
    let all : occurrences m (numbers_all (first ++ l1)) ≡ occurrences m (numbers_all first) + occurrences m (numbers_all l1) =
    ap (occurrences m) (map-append (λ (l : Lies). l.number) first l1) ∙ joined m (numbers_all first) (numbers_all l1) in
    let last : occurrences m (numbers_all l6) ≡ occurrences m f = ap (occurrences m) (numbers_at InJob f) in
    omega (arith, all, two_lists m l2 OnLink a, two_lists m l3 HeldBack b, two_lists m l4 OnLink c, two_lists m l5 InSession d, two_lists m l6 InSession e, last)

-- those of messages, list by list
sent_both : {A : Type 0} (s : LocalState) (m : ℕ) (f : A → Option Held) (xs ys : List A) →
    occurrences m (numbers_in s (filter_map f (xs ++ ys))) ≡ occurrences m (numbers_in s (filter_map f xs)) + occurrences m (numbers_in s (filter_map f ys))
sent_both s m f [] ys = omega arith
sent_both s m f (x ∷ xs) ys =
    omega (arith, numbers_first s m (f x) (filter_map f (xs ++ ys)), numbers_first s m (f x) (filter_map f xs), sent_both s m f xs ys)

sent_same : (ds : List Delivery) → filter_map (λ (e : Unsent). e.held) (map unsent_by ds) ≡ filter_map (λ (d : Delivery). d.held) ds
sent_same [] = refl
sent_same (d ∷ ds) = ap (cons_option d.held) (sent_same ds)

abbrev message_count : Slice → LocalState → ℕ → ℕ
message_count x s m = occurrences m (numbers_in s (filter_map (λ (e : Unsent). e.held) (under_way x)))

three_lists : (x : Slice) (s : LocalState) (m : ℕ) →
    message_count x s m ≡ occurrences m (numbers_in s (filter_map (λ (d : Delivery). d.held) x.held))
    + (occurrences m (numbers_in s (filter_map (λ (d : Delivery). d.held) x.events)) + occurrences m (numbers_in s (filter_map (λ (e : Unsent). e.held) (unsent_in x.session))))
three_lists x s m =
    let first : _ = sent_both s m (λ (e : Unsent). e.held) (earlier_of x) (unsent_in x.session) in
    let same : occurrences m (numbers_in s (filter_map (λ (e : Unsent). e.held) (earlier_of x))) ≡ occurrences m (numbers_in s (filter_map (λ (d : Delivery). d.held) (x.held ++ x.events))) =
    ap (λ hs. occurrences m (numbers_in s hs)) (sent_same (x.held ++ x.events)) in
    omega (arith, first, same, sent_both s m (λ (d : Delivery). d.held) x.held x.events)

abbrev driver_count : Slice → ℕ → ℕ
driver_count x m = occurrences m (numbers_all (with_driver x))

abbrev call_count : Slice → Inner → ℕ → ℕ
call_count x v m = occurrences m (call_numbers x.out x.handle.log.away v)

abbrev seated_count : Slice → Inner → ℕ → ℕ
seated_count x v m = occurrences m (numbers_in v.ahead (queued_held x.session)) + occurrences m (numbers_in v.ahead (job_held x.job))

-- a memory is at its place so often
in_lists : (x : Slice) (v : Inner) (m : ℕ) → occurrences m (numbers_all (places_of x v)) ≡ driver_count x m + (call_count x v m + (message_count x (told_state v) m + seated_count x v m))
in_lists x v m =
    let s : LocalState = told_state v in
    let all : _ = six_lists m (with_driver x) (call_numbers x.out x.handle.log.away v) (numbers_in s (filter_map (λ (d : Delivery). d.held) x.held)) (numbers_in s (filter_map (λ (d : Delivery). d.held) x.events))
    (numbers_in s (filter_map (λ (e : Unsent). e.held) (unsent_in x.session))) (numbers_in v.ahead (queued_held x.session)) (numbers_in v.ahead (job_held x.job)) in
    omega (arith, all, three_lists x s m)

-- ---- with the driver

abbrev sent_count : Slice → ℕ → ℕ
sent_count x m = occurrences m (sent_number x.handle.log.away)

sent_or_not : (away : Away) (m : ℕ) → ((away ≡ Sent m) × (occurrences m (sent_number away) ≡ 1)) ⊎ ((away ≡ Sent m → ⊥) × (occurrences m (sent_number away) ≡ 0))
sent_or_not Nothing m = inr ((λ same. cc), refl)
sent_or_not (Lent entry) m = inr ((λ same. cc), refl)
sent_or_not (Sent n) m = elim (cases_eq n m) as (λ _. ((Sent n ≡ Sent m) × (occurrences m (n ∷ []) ≡ 1)) ⊎ ((Sent n ≡ Sent m → ⊥) × (occurrences m (n ∷ []) ≡ 0))) [
  | inl same ↦ inl (ap Sent same, cond-true (n == m) (0 + 1) 0 (eq-eqb n m same))
  | inr apart ↦ inr ((λ same. apart (sent_same_number n m same)), cond-false (n == m) (0 + 1) 0 (ne_eqb n m apart))
]
  where
    sent_same_number : (n m : ℕ) → Sent n ≡ Sent m → n ≡ m
    sent_same_number n m same = cc

-- one that goes along with a call isn't at home, and isn't lent
sent_gone : (x : Slice) (v : Inner) (m : ℕ) → IsSoundSlice x v → x.handle.log.away ≡ Sent m → (driver_count x m ≡ 0) × (is_lent (driver_state x) m ≡ false)
sent_gone x v m sound is =
    let s : LocalState = driver_state x in
    let away : Away = x.handle.log.away in
    let just : is_just (number_away s away) m ≡ true = ap (λ a. is_just (number_away s a) m) is ∙ eq-eqb m m refl in
    let out : is_out s (number_away s away) m ≡ true = or_right (is_lent s m) (is_just (number_away s away) m) just in
    let none : home_of x.handle.log.home m ≡ None = subst (λ b. IsInPlace b (is_kept s m) s m (home_of x.handle.log.home m)) out (sound.log.in_place.each m) in
    let lent : occurrences m (lent_number s away) ≡ 0 = ap (λ a. occurrences m (lent_number s a)) is in
    let gone : IsAway s (Sent m) x.handle.log.unanswered = subst (λ a. IsAway s a x.handle.log.unanswered) is sound.log.out in (
      in_parts x m ∙ (λ j. one_flag (is_some (none j)) + lent j),
      gone.1,
    )

-- one that the handle has is with the driver, goes along with a call, or is lent
driver_is : (x : Slice) (v : Inner) (m : ℕ) → IsSoundSlice x v → is_kept (driver_state x) m ≡ true → driver_count x m + (sent_count x m + once (is_lent (driver_state x) m)) ≡ 1
driver_is x v m sound kept =
    let s : LocalState = driver_state x in
    elim (sent_or_not x.handle.log.away m) as (λ _. driver_count x m + (sent_count x m + once (is_lent s m)) ≡ 1) [
      | inl sent ↦
          let gone : _ = sent_gone x v m sound sent.0 in
          omega (arith, gone.0, sent.1, ap once gone.1)
      | inr other ↦ elim (cases_Bool (is_lent s m)) as (λ _. driver_count x m + (sent_count x m + once (is_lent s m)) ≡ 1) [
        | inl lent ↦ omega (arith, driver_none x v m sound lent, other.1, ap once lent)
        | inr free ↦ omega (arith, driver_once x v m sound kept free other.0, other.1, ap once free)
      ]
    ]

-- one that was made past all of the driver's isn't with it
driver_new : (x : Slice) (v : Inner) (m : ℕ) → IsSoundSlice x v → IsReached (driver_state x) → length (driver_state x).memories ≤ m → driver_count x m ≡ 0
driver_new x v m sound reached past =
    let s : LocalState = driver_state x in
    let none : home_of x.handle.log.home m ≡ None = get_or_past x.handle.log.home m None (omega (arith, past, sound.log.in_place.places)) in
    let lent : occurrences m (lent_number s x.handle.log.away) ≡ 0 = by_away x.handle.log.away sound.log.out in
    in_parts x m ∙ (λ j. one_flag (is_some (none j)) + lent j)
  where
    by_away : (away : Away) → IsAway (driver_state x) away x.handle.log.unanswered → occurrences m (lent_number (driver_state x) away) ≡ 0
    by_away Nothing out = refl
    by_away (Sent n) out = refl
    by_away (Lent entry) out =
        let s : LocalState = driver_state x in
        let n : ℕ = touched s entry.call in
        let made : n < length s.memories = touched_made s entry.call reached (touches_it s 0 0 entry.call out.1 (out.2 0 0)) in
        cond-false (n == m) (0 + 1) 0 (ne_eqb n m (λ same. omega (arith, past, made, same)))

-- ---- what is so of steps of the device

pub step_is : (e : Entry) → is_step e ≡ true → IsStep e
step_is (Called line call reply) step = absurd (false≢true step)
step_is Finish step = tt
step_is Bad step = tt
step_is Give step = tt

same_state : (s t : LocalState) → ◌≡◌ {A = Option LocalState} (Some s) (Some t) → t ≡ s
same_state s t same = cc

-- they make no memory, and the handle has no others than it had
pub record Fewer (s t : LocalState) : Type 0 where
  pub size : length t.memories ≡ length s.memories
  pub kept : (m : ℕ) → is_kept t m ≡ true → is_kept s m ≡ true

fewer_steps : (es : List Entry) (s t : LocalState) → AreSteps es → IsReached s → replay_from s es ≡ Some t → Fewer s t
fewer_steps [] s t are reached leads =
    let same : t ≡ s = same_state s t leads in
    record { size = ap (λ (x : LocalState). length x.memories) same; kept = λ m kept. subst (λ (x : LocalState). is_kept x m ≡ true) same kept }
fewer_steps (e ∷ es) s t are reached leads =
    let P : Entry → Type 0 = λ x. is_step x ≡ true in
    let by : _ = by_one s t e es leads in
    let next : IsReached by.0 = reached_after s by.0 e reached by.1 in
    let rest : Fewer by.0 t = fewer_steps es by.0 t (All-tail P e es are) next by.2 in
    let size : length by.0.memories ≡ length s.memories = (step_one s by.0 e reached (step_is e (All-head P e es are)) by.1).0 in
    record {
      size = rest.size ∙ size;
      kept = λ m kept.
          let between : is_kept by.0 m ≡ true = rest.kept m kept in
          kept_after s by.0 e m reached by.1 (omega (arith, size, kept_made by.0 (facts_of by.0 next).sound m between)) between;
    }

pub fewer_messages : (id : ℕ) (s t : LocalState) (es : List Unsent) → IsReached s → LeadAll id s es t → Fewer s t
fewer_messages id s t es reached leads =
    fewer_steps (flight_of s.model (map (λ (e : Unsent). e.msg) es)) s t (flight_steps s.model (map (λ (e : Unsent). e.msg) es)) reached (all_replay id s t es leads)

-- ---- the session

pub record IsAhead (x : Slice) (v : Inner) : Type 0 where
  pub reached : IsReached (driver_state x)
  pub id : ℕ
  pub leads : LeadAhead id (driver_state x) v.executed (under_way x) v.ahead

ahead_in : (o : Option SessionState) (x : Slice) (v : Inner) → x.session ≡ o → IsSeated o x v → IsAhead x v
ahead_in None x v is seated = record {
  reached = seated.reached;
  id = id_in x;
  leads = subst (λ es. LeadAhead (id_in x) (driver_state x) v.executed es v.ahead) (sym (ap (λ o. earlier_of x ++ unsent_in o) is ∙ append_none (earlier_of x))) seated.leads;
}
ahead_in (Some s) x v is seated = record {
  reached = seated.reached;
  id = s.id;
  leads = subst (λ es. LeadAhead s.id (driver_state x) v.executed es v.ahead) (sym (ap (λ o. earlier_of x ++ unsent_in o) is)) seated.leads;
}

pub is_ahead : (x : Slice) (v : Inner) → IsSoundSlice x v → IsAhead x v
is_ahead x v sound = ahead_in x.session x v refl sound.seated

count_in : (o : Option SessionState) (x : Slice) (v : Inner) (m : ℕ) → IsReached v.ahead → IsSeated o x v → spec_running o ≡ option_map (λ (j : JobParts). j.spec) x.job →
    occurrences m (numbers_in v.ahead (queued_held o)) + occurrences m (numbers_in v.ahead (job_held x.job)) ≡ once (is_lent v.ahead m)
count_in None x v m reached seated runs =
    let none : occurrences m (numbers_in v.ahead (job_held x.job)) ≡ 0 = ap (λ o. occurrences m (numbers_in v.ahead (job_held o))) seated.none_runs in
    omega (arith, none, ap once (shut_lends v.ahead m reached seated.shut))
count_in (Some s) x v m reached seated runs = session_count v.frames s v.ahead x.job m seated.stands seated.sound reached seated.owed seated.next runs

seated_is : (x : Slice) (v : Inner) (m : ℕ) → IsSoundSlice x v → IsReached v.ahead → seated_count x v m ≡ once (is_lent v.ahead m)
seated_is x v m sound reached = count_in x.session x v m reached sound.seated sound.runs

live_cases : (x : Slice) (v : Inner) (m : ℕ) → is_live x v m ≡ true → (is_kept v.ahead m ≡ true → is_kept (driver_state x) m ≡ true) → is_kept (driver_state x) m ≡ true
live_cases x v m live back = elim (or_cases (is_kept (driver_state x) m) (is_kept v.ahead m) live) as (λ _. is_kept (driver_state x) m ≡ true) [ inl now ↦ now | inr ahead ↦ back ahead ]

-- ---- where nothing was executed

quiet_once : (x : Slice) (v : Inner) (m : ℕ) → IsSoundSlice x v → v.executed ≡ None → call_count x v m ≡ sent_count x m → is_live x v m ≡ true → occurrences m (numbers_all (places_of x v)) ≡ 1
quiet_once x v m sound none calls live =
    let r : LocalState = driver_state x in
    let is : IsAhead x v = is_ahead x v sound in
    let leads : LeadAll is.id r (under_way x) v.ahead = subst (λ e. LeadAhead is.id r e (under_way x) v.ahead) none is.leads in
    let reached : IsReached v.ahead = all_reached is.id r v.ahead (under_way x) is.reached leads in
    let told : told_state v ≡ v.ahead = ap (λ e. told_state_if (stops_last e) v) none in
    let messages : message_count x (told_state v) m ≡ message_count x v.ahead m = ap (λ s. message_count x s m) told in
    let kept : is_kept r m ≡ true = live_cases x v m live ((fewer_messages is.id r v.ahead (under_way x) is.reached leads).kept m) in
    omega (arith, in_lists x v m, calls, messages, messages_count is.id r v.ahead (under_way x) m is.reached leads, seated_is x v m sound reached, driver_is x v m sound kept)

-- ---- where a call was executed

stage_same : (line other : ℕ) (call called : Call) → Underway line call ≡ Underway other called → call ≡ called
stage_same line other call called same = cc

pub fits_underway : (x : Slice) (v : Inner) (line : ℕ) (call : Call) → IsSoundSlice x v → x.handle.stage ≡ Underway line call → FitsStage (id_of x.handle.session) (driver_state x) x.handle.log.away x.handle.log.unanswered (Underway line call)
fits_underway x v line call sound under = subst (FitsStage (id_of x.handle.session) (driver_state x) x.handle.log.away x.handle.log.unanswered) under sound.handle.fits

-- nothing goes along with a stopping call
stopping_alone : (x : Slice) (v : Inner) (line : ℕ) (call : Call) (m : ℕ) → IsSoundSlice x v → x.handle.stage ≡ Underway line call → is_stopping call ≡ true → sent_count x m ≡ 0
stopping_alone x v line call m sound under stopping = ap (λ a. occurrences m (sent_number a)) (by_call call stopping (fits_underway x v line call sound under).2)
  where
    by_call : (c : Call) → is_stopping c ≡ true → IsAlong (goes_along (driver_state x) c) x.handle.log.away → x.handle.log.away ≡ Nothing
    by_call (QBuf t i user used ts) halts along = absurd (false≢true halts)
    by_call c halts along = along

pub take_none : (n : ℕ) → take {A = Held} n [] ≡ []
take_none zero = refl
take_none (suc n) = refl

pub drop_none : (n : ℕ) → drop {A = Held} n [] ≡ []
drop_none zero = refl
drop_none (suc n) = refl

pub none_told : (n : ℕ) (s : LocalState) (held : List Held) → held ≡ [] → told_numbers n s held ≡ []
none_told n s held none =
    ap (told_numbers n s) none ∙ (λ j. numbers_in s (take_none n j) ++ range_with_len (length s.memories) (length (drop_none n j)))

-- a call that stops no queue
pub none_comes : (s t : LocalState) (call : Call) (reply : Reply) (held : List Held) → is_stopping call ≡ false → ComeWith s t call reply held → held ≡ []
none_comes s t call (Refused errno) held goes come = come
none_comes s t call reply held goes come = (none_come s t call held [] goes come).0

-- the call that was executed, with what the slice says of it
pub record Executed (x : Slice) (v : Inner) (r : Returning) (t : IsTold x v r) : Type 0 where
  pub ahead : IsAhead x v
  pub leads : LeadWith (is_stopping t.call) ahead.id (driver_state x) (Called t.line t.call t.reply) (under_way x) v.ahead
  pub told : told_state v ≡ told_state_if (is_stopping t.call) v
  pub calls : call_numbers (Told r) x.handle.log.away v ≡ told_numbers (stopped_count v.before t.call) v.before r.held

pub executed_is : (x : Slice) (v : Inner) (r : Returning) (t : IsTold x v r) → IsSoundSlice x v → Executed x v r t
executed_is x v r t sound =
    let is : IsAhead x v = is_ahead x v sound in
    record {
      ahead = is;
      leads = subst (λ e. LeadAhead is.id (driver_state x) e (under_way x) v.ahead) t.executed is.leads;
      told = ap (λ e. told_state_if (stops_last e) v) t.executed;
      calls = ap (λ e. told_numbers (stopped_by v.before e) v.before r.held) t.executed;
    }

pub first_open : (x : Slice) (v : Inner) (call : Call) → IsSoundSlice x v → IsFirst x.handle call → (nonblock : Bool) → call ≡ OpenHandle nonblock → (driver_state x).opened ≡ false
first_open x v call sound first nonblock is = elim (cases_Bool (driver_state x).opened) as (λ _. (driver_state x).opened ≡ false) [
  | inr not ↦ not
  | inl is_open ↦
      let none : x.handle.session ≡ None = subst (IsFirst x.handle) is first in
      absurd (false≢true (sym (ap is_some none) ∙ open_has x.handle sound.handle is_open))
]

going_once : (x : Slice) (v : Inner) (r : Returning) (m : ℕ) (t : IsTold x v r) → IsSoundSlice x v → x.out ≡ Told r → is_stopping t.call ≡ false → is_live x v m ≡ true → occurrences m (numbers_all (places_of x v)) ≡ 1
going_once x v r m t sound out goes live =
    let s : LocalState = driver_state x in
    let e : Executed x v r t = executed_is x v r t sound in
    let under : _ = fits_underway x v t.line t.call sound t.underway in
    let leads : LeadWith false e.ahead.id s (Called t.line t.call t.reply) (under_way x) v.ahead =
    subst (λ b. LeadWith b e.ahead.id s (Called t.line t.call t.reply) (under_way x) v.ahead) goes e.leads in
    let u : LocalState = leads.0 in
    let goes_on : called s t.line t.call t.reply ≡ Some u = leads.1 in
    let between : IsReached u = reached_after s u (Called t.line t.call t.reply) e.ahead.reached goes_on in
    let reached : IsReached v.ahead = all_reached e.ahead.id u v.ahead (under_way x) between leads.2 in
    let crosses : Crossed s u x.handle.log.away = crossed s u t.line t.call t.reply x.handle.log.away e.ahead.reached (may_of (id_of x.handle.session) s t.call t.crosses) goes goes_on
    (along_with (id_of x.handle.session) s u t.line t.call t.reply x.handle.log.away t.crosses under.2 goes_on) (first_open x v t.call sound t.first) in
    let told : message_count x (told_state v) m ≡ message_count x v.ahead m = ap (λ k. message_count x k m) (e.told ∙ ap (λ b. told_state_if b v) goes) in
    let held : r.held ≡ [] = none_comes v.before t.next t.call t.reply r.held goes t.memories in
    let calls : call_count x v m ≡ 0 =
    ap (λ o. occurrences m (call_numbers o x.handle.log.away v)) out ∙ (ap (occurrences m) e.calls ∙ ap (occurrences m) (none_told (stopped_count v.before t.call) v.before r.held held)) in
    let kept : is_kept s m ≡ true = live_cases x v m live (λ ahead. crosses.kept m ((fewer_messages e.ahead.id u v.ahead (under_way x) between leads.2).kept m ahead)) in
    omega (arith, in_lists x v m, calls, told, messages_count e.ahead.id u v.ahead (under_way x) m between leads.2, crosses.lent m, seated_is x v m sound reached, driver_is x v m sound kept)

-- a call that stops queues, behind all messages
pub record Stopped (x : Slice) (v : Inner) (r : Returning) (t : IsTold x v r) : Type 0 where
  pub reached : IsReached (driver_state x)
  pub id : ℕ
  pub leads : LeadAll id (driver_state x) (under_way x) v.before
  pub before : IsReached v.before
  pub last : called v.before t.line t.call t.reply ≡ Some v.ahead
  pub ahead : IsReached v.ahead
  pub comes : ComeWith v.before v.ahead t.call t.reply r.held

pub same_end : (id other : ℕ) (r s t : LocalState) (es : List Unsent) → LeadAll id r es s → LeadAll other r es t → s ≡ t
same_end id other r s t es one two = sym (same_state s t (sym (all_replay id r s es one) ∙ all_replay other r t es two))

pub stopped_is : (x : Slice) (v : Inner) (r : Returning) (t : IsTold x v r) → IsSoundSlice x v → is_stopping t.call ≡ true → Stopped x v r t
stopped_is x v r t sound stopping =
    let s : LocalState = driver_state x in
    let e : Executed x v r t = executed_is x v r t sound in
    let entry : Entry = Called t.line t.call t.reply in
    let with_it : LeadWith true e.ahead.id s entry (under_way x) v.ahead = subst (λ b. LeadWith b e.ahead.id s entry (under_way x) v.ahead) stopping e.leads in
    let before : LeadAll (id_in x) s (under_way x) v.before = subst (λ b. IsBefore b x v.before) stopping t.before in
    let same : with_it.0 ≡ v.before = same_end e.ahead.id (id_in x) s with_it.0 v.before (under_way x) with_it.1 before in
    let last : called v.before t.line t.call t.reply ≡ Some v.ahead = subst (λ k. after k entry ≡ Some v.ahead) same with_it.2 in
    let there : IsReached v.before = all_reached (id_in x) s v.before (under_way x) e.ahead.reached before in
    let next : v.ahead ≡ t.next = same_state t.next v.ahead (sym t.is_call ∙ last) in
    record {
      reached = e.ahead.reached;
      id = id_in x;
      leads = before;
      before = there;
      last = last;
      ahead = reached_after v.before v.ahead entry there last;
      comes = subst (λ k. ComeWith v.before k t.call t.reply r.held) (sym next) t.memories;
    }

-- the count with all but what comes with the reply
stopping_lists : (x : Slice) (v : Inner) (r : Returning) (m : ℕ) (t : IsTold x v r) → IsSoundSlice x v → x.out ≡ Told r → is_stopping t.call ≡ true →
    occurrences m (numbers_all (places_of x v)) ≡ driver_count x m + (occurrences m (told_numbers (stopped_count v.before t.call) v.before r.held) + (message_count x v.before m + seated_count x v m))
stopping_lists x v r m t sound out stopping =
    let e : Executed x v r t = executed_is x v r t sound in
    let told : message_count x (told_state v) m ≡ message_count x v.before m = ap (λ k. message_count x k m) (e.told ∙ ap (λ b. told_state_if b v) stopping) in
    let calls : call_count x v m ≡ occurrences m (told_numbers (stopped_count v.before t.call) v.before r.held) =
    ap (λ o. occurrences m (call_numbers o x.handle.log.away v)) out ∙ ap (occurrences m) e.calls in
    omega (arith, in_lists x v m, told, calls)

lent_made : (s : LocalState) (m : ℕ) → IsReached s → length s.memories ≤ m → once (is_lent s m) ≡ 0
lent_made s m reached past = elim (cases_Bool (is_lent s m)) as (λ _. once (is_lent s m) ≡ 0) [
  | inr not ↦ ap once not
  | inl lent ↦ let w : _ = lent_at s m lent in absurd (omega (arith, past, number_made s (facts_of s reached).sound w.0 w.1 m w.2))
]

pub refused_is : (reply : Reply) → is_refusal reply ≡ true → (errno : Errno) × (reply ≡ Refused errno)
refused_is (Refused errno) is = (errno, refl)
refused_is reply is = absurd (false≢true is)

pub come_done : (s t : LocalState) (call : Call) (reply : Reply) (held : List Held) → is_refusal reply ≡ false → ComeWith s t call reply held → ComeBack s t call held
come_done s t call (Refused errno) held answers come = absurd (true≢false answers)
come_done s t call reply held answers come = come

stopping_once : (x : Slice) (v : Inner) (r : Returning) (m : ℕ) (t : IsTold x v r) → IsSoundSlice x v → x.out ≡ Told r → is_stopping t.call ≡ true → is_live x v m ≡ true → occurrences m (numbers_all (places_of x v)) ≡ 1
stopping_once x v r m t sound out stopping live = elim (cases_Bool (is_refusal t.reply)) as (λ _. occurrences m (numbers_all (places_of x v)) ≡ 1) [ inl refused ↦ of_refused refused | inr answers ↦ of_done answers ]
  where
    s : LocalState
    s = driver_state x

    is : Stopped x v r t
    is = stopped_is x v r t sound stopping

    fewer : Fewer s v.before
    fewer = fewer_messages is.id s v.before (under_way x) is.reached is.leads

    lists : occurrences m (numbers_all (places_of x v)) ≡ driver_count x m + (occurrences m (told_numbers (stopped_count v.before t.call) v.before r.held) + (message_count x v.before m + seated_count x v m))
    lists = stopping_lists x v r m t sound out stopping

    messages : once (is_lent s m) ≡ message_count x v.before m + once (is_lent v.before m)
    messages = messages_count is.id s v.before (under_way x) m is.reached is.leads

    alone : sent_count x m ≡ 0
    alone = stopping_alone x v t.line t.call m sound t.underway stopping

    seated : seated_count x v m ≡ once (is_lent v.ahead m)
    seated = seated_is x v m sound is.ahead

    of_refused : is_refusal t.reply ≡ true → occurrences m (numbers_all (places_of x v)) ≡ 1
    of_refused refused =
        let no : (errno : Errno) × (t.reply ≡ Refused errno) = refused_is t.reply refused in
        let same : v.ahead ≡ v.before = refused_call v.before t.line t.call no.0 v.ahead (subst (λ q. called v.before t.line t.call q ≡ Some v.ahead) no.1 is.last) in
        let held : r.held ≡ [] = subst (λ q. ComeWith v.before v.ahead t.call q r.held) no.1 is.comes in
        let none : occurrences m (told_numbers (stopped_count v.before t.call) v.before r.held) ≡ 0 = ap (occurrences m) (none_told (stopped_count v.before t.call) v.before r.held held) in
        let still : once (is_lent v.ahead m) ≡ once (is_lent v.before m) = ap (λ (k : LocalState). once (is_lent k m)) same in
        let kept : is_kept s m ≡ true = live_cases x v m live (λ ahead. fewer.kept m (subst (λ (k : LocalState). is_kept k m ≡ true) same ahead)) in
        omega (arith, lists, none, messages, seated, still, alone, driver_is x v m sound kept)

    of_done : is_refusal t.reply ≡ false → occurrences m (numbers_all (places_of x v)) ≡ 1
    of_done answers =
        let come : ComeBack v.before v.ahead t.call r.held = come_done v.before v.ahead t.call t.reply r.held answers is.comes in
        let parted : _ = split_come v.before v.ahead t.call r.held come in
        let back : List ℕ = map (number_at v.before) (flat_map (queued_on v.before) (stops v.before t.call)) in
        let range : List ℕ = range_with_len (length v.before.memories) (length come.fresh) in
        let those : told_numbers (stopped_count v.before t.call) v.before r.held ≡ back ++ range =
        λ j. (ap (numbers_in v.before) parted.0 ∙ back_numbers v.before (flat_map (queued_on v.before) (stops v.before t.call)) come.back come.queued) j
        ++ range_with_len (length v.before.memories) (length (parted.1 j)) in
        let told : occurrences m (told_numbers (stopped_count v.before t.call) v.before r.held) ≡ occurrences m back + occurrences m range = ap (occurrences m) those ∙ joined m back range in
        let stop : occurrences m back + once (is_lent v.ahead m) ≡ once (is_lent v.before m) =
        stop_count v.before v.ahead t.line t.call t.reply m is.before stopping answers is.last come.settled in
        let made : length v.ahead.memories ≡ length v.before.memories + length come.fresh =
        stop_made v.before v.ahead t.line t.call t.reply come.fresh is.before stopping answers is.last come.made in
        elim (cases_lt m (length v.before.memories)) as (λ _. occurrences m (numbers_all (places_of x v)) ≡ 1) [
          | inl old ↦
              let kept : is_kept s m ≡ true = live_cases x v m live (λ ahead. fewer.kept m (kept_after v.before v.ahead (Called t.line t.call t.reply) m is.before is.last old ahead)) in
              omega (arith, lists, told, range_below (length v.before.memories) (length come.fresh) m old, stop, messages, seated, alone, driver_is x v m sound kept)
          | inr past ↦
              let new : length s.memories ≤ m = omega (arith, past, fewer.size) in
              let ahead : is_kept v.ahead m ≡ true = elim (or_cases (is_kept s m) (is_kept v.ahead m) live) as (λ _. is_kept v.ahead m ≡ true) [
                | inr ahead ↦ ahead
                | inl kept ↦ absurd (omega (arith, new, kept_made s (facts_of s is.reached).sound m kept))
              ] in
              let within : m < length v.ahead.memories = kept_made v.ahead (facts_of v.ahead is.ahead).sound m ahead in
              omega (
                arith,
                lists,
                told,
                range_within (length v.before.memories) (length come.fresh) m (omega (arith, past)) (omega (arith, within, made)),
                stop,
                messages,
                seated,
                lent_made v.before m is.before (omega (arith, past)),
                lent_made s m is.reached new,
                driver_new x v m sound is.reached new,
              )
        ]

-- ---- all

told_once : (x : Slice) (v : Inner) (r : Returning) (m : ℕ) → IsSoundSlice x v → x.out ≡ Told r → IsTold x v r → is_live x v m ≡ true → occurrences m (numbers_all (places_of x v)) ≡ 1
told_once x v r m sound out t live = elim (cases_Bool (is_stopping t.call)) as (λ _. occurrences m (numbers_all (places_of x v)) ≡ 1) [
  | inl stopping ↦ stopping_once x v r m t sound out stopping live
  | inr goes ↦ going_once x v r m t sound out goes live
]

by_out : (o : Out) (x : Slice) (v : Inner) (m : ℕ) → IsSoundSlice x v → x.out ≡ o → IsOut o x v → is_live x v m ≡ true → occurrences m (numbers_all (places_of x v)) ≡ 1
by_out Nowhere x v m sound at out live =
    let never : (n : ℕ) → x.handle.log.away ≡ Sent n → ⊥ = sent_none (id_of x.handle.session) (driver_state x) x.handle.log.away x.handle.log.unanswered x.handle.stage sound.handle.fits (λ line call is. out.1 line call is) in
    let none : sent_count x m ≡ 0 = elim (sent_or_not x.handle.log.away m) as (λ _. sent_count x m ≡ 0) [ inl sent ↦ absurd (never m sent.0) | inr other ↦ other.1 ] in
    quiet_once x v m sound out.0.executed (ap (λ k. occurrences m (call_numbers k x.handle.log.away v)) at ∙ sym none) live
by_out (Asked p) x v m sound at out live = quiet_once x v m sound out.0.executed (ap (λ k. occurrences m (call_numbers k x.handle.log.away v)) at) live
by_out (Kept p) x v m sound at out live =
    quiet_once x v m sound out.0.executed (ap (λ k. occurrences m (call_numbers k x.handle.log.away v)) at
    ∙ sym (stopping_alone x v out.1.posted.line out.1.posted.call m sound out.1.posted.underway out.1.stops)) live
by_out (Told r) x v m sound at out live = told_once x v r m sound at out live
by_out Astray x v m sound at out live = absurd out

pub placed_once : (x : Slice) (v : Inner) → IsSoundSlice x v → IsOncePlaced x v
placed_once x v sound m live = by_out x.out x v m sound refl sound.out live
