-- What the device keeps to, it keeps to after each of its steps.
use Rattle.std.proofs.Common.{rules, ◌≡◌, ◌≢◌, ◌⊎◌, ℕ, zero, suc, ◌+◌, ◌*◌, ◌^◌, ◌<◌, ◌≤◌, ◌==◌, ◌&&◌, nat_lt, if◌then◌else◌, Bool, true, false, not, Option, Some, None, is_some, List, [], ◌∷◌, ◌++◌, length, get_or, set, map, filter, replicate, sum_by, refl, sym, ap, ◌∙◌, arith, subst, inl, inr}
use Rattle.std.specs.List.{list_all}
use Rattle.std.specs.Prelude.{find}
use Rattle.std.specs.Option.{option_map, option_to_list}
use Rattle.std.proofs.lemmas.Grind.{common_steps}
use Rattle.std.proofs.lemmas.Bool.{cases_eq}
use Rattle.std.proofs.lemmas.Bool.Decides.{nat_tests}
use Rattle.std.proofs.lemmas.List.{length-append, length-set, length-map, length-replicate, map-append, get_or-set_same, get_or-set_other, append-nil}
use Rattle.std.proofs.lemmas.List.Elements.{filter-append, All-filter, All-push}
use Rattle.std.proofs.lemmas.List.Filters.{length-filter_both}
use Rattle.std.proofs.lemmas.List.Sums.{sum_by-set, sum_by_push, sum_by-cons}
use Rattle.v4l_const.specs.declared.model.Model.{Model}
use Rattle.vm_job.specs.declared.job_out.JobOut.{JobOut}
use Rattle.vm_job.specs.declared.spec.JobSpec.{JobSpec}
use Rattle.vm_job.specs.Entry.{IsOf}
use Rattle.vm_job.specs.Job.{JobParts, DoneParts}
use Rattle.vm_mem.specs.Lists.{occurrences}
use Rattle.vm_mem.proofs.OccurrenceLemmas.{occurrences-append}
use Rattle.vm_queue.specs.declared.queued.Queued.{Queued}
use Rattle.vm_region.specs.Region.{RegionState}
use Rattle.vm_wire.specs.declared.event.EventMsg.{EventMsg}
use Rattle.vm_wire.specs.declared.event.EventMsg.TheVariants.{Dequeued, Happened}
use Rattle.vm_session.specs.declared.running.Running.{Running}
use Rattle.vm_session.specs.declared.unsent.Unsent.{Unsent}
use Rattle.vm_session.specs.State.{SessionState, is_quiet}
use Rattle.vm_session.specs.Streaming.{can_begin, next_spec, next_src, next_dst, next_job, job_with, running_with, begun, is_ready, events_of, finished, finished_by, outstanding as outstanding_in, spec_under, sent, sent_of, with_returned}
use Rattle.vm_device.specs.Device.{DeviceState, fresh_device, session_of, with_session, without_session}
use Rattle.vm_device.specs.Keeps.{IsSound, specs_for, specs_in, unsent_in, RiseBelow}
use Rattle.vm_device.specs.Mappings.{FitsSessions}
use Rattle.vm_device.specs.Perform.{with_region}
use Rattle.vm_device.specs.Sessions.{one_if_there, count_there}
use Rattle.vm_device.specs.Stream.{with_job, with_done, with_sent, events_more, outstanding}

-- ---- places

pub within : {A : Type 0} (xs : List (Option A)) (id : ℕ) (x : A) → get_or xs id None ≡ Some x → id < length xs
within [] id x at = cc
within (o ∷ xs) zero x at = omega arith
within (o ∷ xs) (suc id) x at = omega (arith, within xs id x at)

pub same_value : {A : Type 0} (d x y : A) → Some x ≡ Some y → x ≡ y
same_value {A} d x y same = ap (value_or d) same
  where
    value_or : A → Option A → A
    value_or d None = d
    value_or d (Some z) = z

-- what holds of each place still does where one place changes
pub each_set : (P : ℕ → Option SessionState → Type 0) (xs : List (Option SessionState)) (id : ℕ) (v : Option SessionState)
    → id < length xs → P id v → ((i : ℕ) → i ≢ id → P i (get_or xs i None)) → (i : ℕ) → P i (get_or (set xs id v) i None)
each_set P xs id v inside here others i = elim (cases_eq i id) [
  | inl same ↦
      let Q : ℕ → Type 0 = λ j. P j (get_or (set xs id v) j None) in
      subst Q (sym same) (subst (P id) (sym (get_or-set_same xs id v None inside)) here)
  | inr differs ↦ subst (P i) (sym (get_or-set_other xs id i v None differs)) (others i differs)
]

-- and where one more stands behind
pub each_push : (P : ℕ → Option SessionState → Type 0) (xs : List (Option SessionState)) (v : Option SessionState)
    → ((i : ℕ) → P i (get_or xs i None)) → (i : ℕ) → (i ≡ length xs → P i v) → P i (get_or (xs ++ v ∷ []) i None)
each_push P [] v all zero last = last refl
each_push P [] v all (suc i) last = all (suc i)
each_push P (x ∷ xs) v all zero last = all zero
each_push P (x ∷ xs) v all (suc i) last =
    each_push (λ j o. P (suc j) o) xs v (λ j. all (suc j)) i (λ same. last (omega (arith, same)))

-- ---- jobs

is_for : ℕ → JobOut → Bool
is_for id e = e.spec.session == id

specs_push : (id : ℕ) (jobs : List JobOut) (e : JobOut) → specs_for id (jobs ++ e ∷ []) ≡ specs_for id jobs ++ specs_for id (e ∷ [])
specs_push id jobs e =
    ap (map (λ (e : JobOut). e.spec)) (filter-append (λ (e : JobOut). e.spec.session == id) jobs (e ∷ []))
    ∙ map-append (λ (e : JobOut). e.spec) (filter (λ (e : JobOut). e.spec.session == id) jobs) (filter (λ (e : JobOut). e.spec.session == id) (e ∷ []))

spec_of_one : (id : ℕ) (e : JobOut) → e.spec.session ≡ id → specs_for id (e ∷ []) ≡ e.spec ∷ []
spec_of_one id e own = grind (arith, nat_tests, common_steps)

no_spec_of_one : (id : ℕ) (e : JobOut) → e.spec.session ≢ id → specs_for id (e ∷ []) ≡ []
no_spec_of_one id e other = grind (arith, nat_tests, common_steps)

specs_without : (id i : ℕ) (jobs : List JobOut) → i ≢ id → specs_for i (filter (λ e. not (e.spec.session == id)) jobs) ≡ specs_for i jobs
specs_without id i [] differs = refl
specs_without id i (e ∷ jobs) differs = let rest = specs_without id i jobs differs in grind (arith, nat_tests, common_steps)

specs_gone : (id : ℕ) (jobs : List JobOut) → specs_for id (filter (λ e. not (e.spec.session == id)) jobs) ≡ []
specs_gone id [] = refl
specs_gone id (e ∷ jobs) = let rest = specs_gone id jobs in grind (arith, nat_tests, common_steps)

count_without : (id : ℕ) (jobs : List JobOut) → length (specs_for id jobs) + length (filter (λ e. not (e.spec.session == id)) jobs) ≡ length jobs
count_without id jobs =
    let both = length-filter_both (λ (e : JobOut). e.spec.session == id) (λ (e : JobOut). not (e.spec.session == id)) (λ e. refl) jobs in
    let mapped = length-map (filter (λ (e : JobOut). e.spec.session == id) jobs) (λ (e : JobOut). e.spec) in
    omega (arith, both, mapped)

rise_push : (n : ℕ) (jobs : List JobOut) (e : JobOut) → e.spec.number ≡ n → RiseBelow n jobs → RiseBelow (n + 1) (jobs ++ e ∷ [])
rise_push n [] e is rise = (omega (arith, is), search rules, tt)
rise_push n (f ∷ jobs) e is rise = (
  omega (arith, rise.0),
  All-push (λ (g : JobOut). f.spec.number < g.spec.number) jobs e rise.1 (omega (arith, is, rise.0)),
  rise_push n jobs e is rise.2,
)

rise_filter : (n : ℕ) (p : JobOut → Bool) (jobs : List JobOut) → RiseBelow n jobs → RiseBelow n (filter p jobs)
rise_filter n p [] rise = tt
rise_filter n p (e ∷ jobs) rise = by_test (p e) (rise_filter n p jobs rise.2)
  where
    by_test : (b : Bool) → RiseBelow n (filter p jobs) → RiseBelow n (if b then e ∷ filter p jobs else filter p jobs)
    by_test true rest = (rise.0, All-filter p (λ (f : JobOut). e.spec.number < f.spec.number) jobs rise.1, rest)
    by_test false rest = rest

-- ---- events

occurrences-replicate : (n id : ℕ) → occurrences id (replicate n id) ≡ n
occurrences-replicate zero id = refl
occurrences-replicate (suc n) id = let rest = occurrences-replicate n id in grind (arith, nat_tests, common_steps)

occurrences-replicate_other : (n id i : ℕ) → i ≢ id → occurrences i (replicate n id) ≡ 0
occurrences-replicate_other zero id i differs = refl
occurrences-replicate_other (suc n) id i differs = let rest = occurrences-replicate_other n id i differs in grind (arith, nat_tests, common_steps)

-- ---- a session changes, and its jobs and events stay

pub changed_sound : (d : DeviceState) (id : ℕ) (s t : SessionState) → IsSound d → session_of d id ≡ Some s
    → t.id ≡ s.id → t.running ≡ s.running → t.unsent ≡ s.unsent → FitsSessions (set d.sessions id (Some t)) d.region.ranges
    → IsSound (with_session d id t)
changed_sound d id s t sound there same_id same_job same_events fits = record {
  few = rw (length-set d.sessions id (Some t)) sound.few;
  small = sound.small;
  ids = each_set (λ i o. (u : SessionState) → o ≡ Some u → u.id ≡ i) d.sessions id (Some t) inside
      (λ u is. ap (λ (x : SessionState). x.id) (sym (same_value t t u is)) ∙ same_id ∙ sound.ids id s there)
      (λ i differs u at. sound.ids i u at);
  jobs = each_set (λ i o. specs_for i d.jobs ≡ specs_in o) d.sessions id (Some t) inside (sound.jobs id ∙ ap specs_in there ∙ specs) (λ i differs. sound.jobs i);
  job_count =
      let sum = sum_by-set (λ (o : Option SessionState). length (specs_in o)) d.sessions id (Some t) None inside in
      let before : length (specs_in (session_of d id)) ≡ length (specs_in (Some t)) = ap (λ o. length (specs_in o)) there ∙ ap length specs in
      omega (arith, sum, before, sound.job_count);
  numbers = sound.numbers;
  events = each_set (λ i o. occurrences i d.unsent ≡ unsent_in o) d.sessions id (Some t) inside (sound.events id ∙ ap unsent_in there ∙ counts) (λ i differs. sound.events i);
  event_count =
      let sum = sum_by-set unsent_in d.sessions id (Some t) None inside in
      let before : unsent_in (session_of d id) ≡ unsent_in (Some t) = ap unsent_in there ∙ counts in
      omega (arith, sum, before, sound.event_count);
  few_events = each_set (λ i o. unsent_in o ≤ 64) d.sessions id (Some t) inside
      (subst (λ (n : ℕ). n ≤ 64) (ap unsent_in there ∙ counts) (sound.few_events id)) (λ i differs. sound.few_events i);
  fits = fits;
}
  where
    inside : id < length d.sessions
    inside = within d.sessions id s there

    specs : specs_in (Some s) ≡ specs_in (Some t)
    specs = ap (λ r. option_to_list (option_map (λ (x : Running). x.spec) r)) (sym same_job)

    counts : unsent_in (Some s) ≡ unsent_in (Some t)
    counts = ap length (sym same_events)

-- ---- the region changes

pub region_sound : (d : DeviceState) (region : RegionState) → IsSound d → FitsSessions d.sessions region.ranges → IsSound (with_region d region)
region_sound d region sound fits = record {
  few = sound.few;
  small = sound.small;
  ids = sound.ids;
  jobs = sound.jobs;
  job_count = sound.job_count;
  numbers = sound.numbers;
  events = sound.events;
  event_count = sound.event_count;
  few_events = sound.few_events;
  fits = fits;
}

-- ---- a session is closed

pub closed_sound : (d : DeviceState) (id : ℕ) (s : SessionState) → IsSound d → session_of d id ≡ Some s → is_quiet s ≡ true
    → FitsSessions (set d.sessions id None) d.region.ranges → IsSound (without_session d id)
closed_sound d id s sound there quiet fits = record {
  few = rw (length-set d.sessions id None) sound.few;
  small = sound.small;
  ids = each_set (λ i o. (u : SessionState) → o ≡ Some u → u.id ≡ i) d.sessions id None inside (λ u is. cc) (λ i differs u at. sound.ids i u at);
  jobs = each_set (λ i o. specs_for i d.jobs ≡ specs_in o) d.sessions id None inside (sound.jobs id ∙ ap specs_in there ∙ none) (λ i differs. sound.jobs i);
  job_count =
      let sum = sum_by-set (λ (o : Option SessionState). length (specs_in o)) d.sessions id None None inside in
      let before : length (specs_in (session_of d id)) ≡ 0 = ap (λ o. length (specs_in o)) there ∙ ap length none in
      omega (arith, sum, before, sound.job_count);
  numbers = sound.numbers;
  events = each_set (λ i o. occurrences i d.unsent ≡ unsent_in o) d.sessions id None inside (sound.events id ∙ ap unsent_in there ∙ nothing) (λ i differs. sound.events i);
  event_count =
      let sum = sum_by-set unsent_in d.sessions id None None inside in
      let before : unsent_in (session_of d id) ≡ 0 = ap unsent_in there ∙ nothing in
      omega (arith, sum, before, sound.event_count);
  few_events = each_set (λ i o. unsent_in o ≤ 64) d.sessions id None inside (omega arith) (λ i differs. sound.few_events i);
  fits = fits;
}
  where
    inside : id < length d.sessions
    inside = within d.sessions id s there

    none : specs_in (Some s) ≡ []
    none = by_running s.running quiet
      where
        by_running : (r : Option Running) → (not (is_some r) && not (nat_lt 0 (length s.unsent))) ≡ true → option_to_list (option_map (λ (x : Running). x.spec) r) ≡ []
        by_running None is = refl
        by_running (Some r) is = cc

    nothing : length s.unsent ≡ 0
    nothing = grind (arith, nat_tests, common_steps)

-- ---- a session is opened

pub opened_sound : (d : DeviceState) (s : SessionState) → IsSound d → length d.sessions < d.opens → s.id ≡ length d.sessions → s.running ≡ None → s.unsent ≡ []
    → FitsSessions (d.sessions ++ Some s ∷ []) d.region.ranges → IsSound (record d { sessions = d.sessions ++ Some s ∷ [] })
opened_sound d s sound room own no_job no_events fits = record {
  few = rw (length-append d.sessions (Some s ∷ [])) (omega (arith, room));
  small = sound.small;
  ids = λ i. each_push (λ i o. (u : SessionState) → o ≡ Some u → u.id ≡ i) d.sessions (Some s) sound.ids i
      (λ last u is. ap (λ (x : SessionState). x.id) (sym (same_value s s u is)) ∙ own ∙ sym last);
  jobs = λ i. each_push (λ i o. specs_for i d.jobs ≡ specs_in o) d.sessions (Some s) sound.jobs i
      (λ last. sound.jobs i ∙ ap specs_in (past d.sessions i last) ∙ sym specs);
  job_count = rw (sum_by_push (λ (o : Option SessionState). length (specs_in o)) d.sessions (Some s))
      (let none : length (specs_in (Some s)) ≡ 0 = ap length specs in omega (arith, none, sound.job_count));
  numbers = sound.numbers;
  events = λ i. each_push (λ i o. occurrences i d.unsent ≡ unsent_in o) d.sessions (Some s) sound.events i
      (λ last. sound.events i ∙ ap unsent_in (past d.sessions i last) ∙ sym (ap length no_events));
  event_count = rw (sum_by_push unsent_in d.sessions (Some s))
      (let none : unsent_in (Some s) ≡ 0 = ap length no_events in omega (arith, none, sound.event_count));
  few_events = λ i. each_push (λ i o. unsent_in o ≤ 64) d.sessions (Some s) sound.few_events i
      (λ last. let none : unsent_in (Some s) ≡ 0 = ap length no_events in omega (arith, none));
  fits = fits;
}
  where
    specs : specs_in (Some s) ≡ []
    specs = ap (λ r. option_to_list (option_map (λ (x : Running). x.spec) r)) no_job

    past : (xs : List (Option SessionState)) (i : ℕ) → i ≡ length xs → get_or xs i None ≡ None
    past [] i is = refl
    past (x ∷ xs) zero is = absurd (omega (arith, is))
    past (x ∷ xs) (suc i) is = past xs i (omega (arith, is))

-- ---- a job begins

-- what begins is kept of the job
begun_specs : (s : SessionState) (number : ℕ) (job : JobParts) → next_job s number ≡ Some job
    → (specs_in (Some (begun s number)) ≡ next_spec s number ∷ []) × (job.spec ≡ next_spec s number)
begun_specs s number job is = by_dst (next_dst s) is
  where
    by_dst : (o : Option Queued) → option_map (job_with (next_spec s number) (next_src s)) o ≡ Some job
        → (option_to_list (option_map (λ (r : Running). r.spec) (option_map (running_with (next_spec s number) (next_src s)) o)) ≡ next_spec s number ∷ []) × (job.spec ≡ next_spec s number)
    by_dst None is = cc
    by_dst (Some dst) is = (refl, ap (λ (j : JobParts). j.spec) (sym (same_value job (job_with (next_spec s number) (next_src s) dst) job is)))

idle : (s : SessionState) → can_begin s ≡ true → specs_in (Some s) ≡ []
idle s can = by_running s.running can
  where
    by_running : (r : Option Running) → (not (is_some r) && list_all is_ready s.queues) ≡ true → option_to_list (option_map (λ (x : Running). x.spec) r) ≡ []
    by_running None is = refl
    by_running (Some r) is = cc

pub begun_sound : (d : DeviceState) (id : ℕ) (s : SessionState) (job : JobParts) (entry : JobOut) → IsSound d → session_of d id ≡ Some s → can_begin s ≡ true
    → next_job s d.begun ≡ Some job → IsOf entry job → FitsSessions (set d.sessions id (Some (begun s d.begun))) d.region.ranges → IsSound (with_job d id s entry)
begun_sound d id s job entry sound there can is of fits = record {
  few = rw (length-set d.sessions id (Some t)) sound.few;
  small = sound.small;
  ids = each_set (λ i o. (u : SessionState) → o ≡ Some u → u.id ≡ i) d.sessions id (Some t) inside
      (λ u at. ap (λ (x : SessionState). x.id) (sym (same_value t t u at)) ∙ own)
      (λ i differs u at. sound.ids i u at);
  jobs = each_set (λ i o. specs_for i (d.jobs ++ entry ∷ []) ≡ specs_in o) d.sessions id (Some t) inside
      (specs_push id d.jobs entry ∙ rw (sound.jobs id ∙ ap specs_in there ∙ none, spec_of_one id entry for_id, spec, kept.0) refl)
      (λ i differs. specs_push i d.jobs entry ∙ rw (no_spec_of_one i entry (λ same. differs (sym same ∙ for_id))) (append-nil (specs_for i d.jobs) ∙ sound.jobs i));
  job_count =
      let sum = sum_by-set (λ (o : Option SessionState). length (specs_in o)) d.sessions id (Some t) None inside in
      let before : length (specs_in (session_of d id)) ≡ 0 = ap (λ o. length (specs_in o)) there ∙ ap length none in
      let after : length (specs_in (Some t)) ≡ 1 = ap length kept.0 in
      let more = length-append d.jobs (entry ∷ []) in
      omega (arith, sum, before, after, more, sound.job_count);
  numbers = rise_push d.begun d.jobs entry (ap (λ (x : JobSpec). x.number) spec) sound.numbers;
  events = each_set (λ i o. occurrences i d.unsent ≡ unsent_in o) d.sessions id (Some t) inside (sound.events id ∙ ap unsent_in there) (λ i differs. sound.events i);
  event_count =
      let sum = sum_by-set unsent_in d.sessions id (Some t) None inside in
      let before : unsent_in (session_of d id) ≡ unsent_in (Some t) = ap unsent_in there in
      omega (arith, sum, before, sound.event_count);
  few_events = each_set (λ i o. unsent_in o ≤ 64) d.sessions id (Some t) inside
      (subst (λ (n : ℕ). n ≤ 64) (ap unsent_in there) (sound.few_events id)) (λ i differs. sound.few_events i);
  fits = fits;
}
  where
    t : SessionState
    t = begun s d.begun

    inside : id < length d.sessions
    inside = within d.sessions id s there

    own : s.id ≡ id
    own = sound.ids id s there

    none : specs_in (Some s) ≡ []
    none = idle s can

    kept : (specs_in (Some t) ≡ next_spec s d.begun ∷ []) × (job.spec ≡ next_spec s d.begun)
    kept = begun_specs s d.begun job is

    spec : entry.spec ≡ next_spec s d.begun
    spec = of.0 ∙ kept.1

    for_id : entry.spec.session ≡ id
    for_id = ap (λ (x : JobSpec). x.session) spec ∙ own

-- ---- a job comes back

pub finished_sound : (d : DeviceState) (id : ℕ) (s : SessionState) (r : Running) (done : DoneParts) → IsSound d → session_of d id ≡ Some s → s.running ≡ Some r
    → length (finished s done).unsent ≤ 64 → FitsSessions (set d.sessions id (Some (finished s done))) d.region.ranges → IsSound (with_done d id s done)
finished_sound d id s r done sound there runs few fits = record {
  few = rw (length-set d.sessions id (Some t)) sound.few;
  small = sound.small;
  ids = each_set (λ i o. (u : SessionState) → o ≡ Some u → u.id ≡ i) d.sessions id (Some t) inside
      (λ u at. ap (λ (x : SessionState). x.id) (sym (same_value t t u at)) ∙ same_id ∙ sound.ids id s there)
      (λ i differs u at. sound.ids i u at);
  jobs = each_set (λ i o. specs_for i left ≡ specs_in o) d.sessions id (Some t) inside
      (specs_gone id d.jobs ∙ sym none)
      (λ i differs. specs_without id i d.jobs differs ∙ sound.jobs i);
  job_count =
      let sum = sum_by-set (λ (o : Option SessionState). length (specs_in o)) d.sessions id (Some t) None inside in
      let one : length (specs_in (session_of d id)) ≡ 1 = ap (λ o. length (specs_in o)) there ∙ ap (λ (o : Option Running). length (option_to_list (option_map (λ (x : Running). x.spec) o))) runs in
      let after : length (specs_in (Some t)) ≡ 0 = ap length none in
      let listed : length (specs_for id d.jobs) ≡ length (specs_in (session_of d id)) = ap length (sound.jobs id) in
      let both = count_without id d.jobs in
      omega (arith, sum, one, after, listed, both, sound.job_count);
  numbers = rise_filter d.begun (λ e. not (e.spec.session == id)) d.jobs sound.numbers;
  events = each_set (λ i o. occurrences i (d.unsent ++ replicate n id) ≡ unsent_in o) d.sessions id (Some t) inside
      (occurrences-append id d.unsent (replicate n id)
      ∙ (let before : occurrences id d.unsent ≡ length s.unsent = sound.events id ∙ ap unsent_in there in
      let more = occurrences-replicate n id in
      omega (arith, before, more, counts)))
      (λ i differs. occurrences-append i d.unsent (replicate n id)
      ∙ (let more = occurrences-replicate_other n id i differs in
      let before = sound.events i in
      omega (arith, before, more)));
  event_count =
      let sum = sum_by-set unsent_in d.sessions id (Some t) None inside in
      let before : unsent_in (session_of d id) ≡ length s.unsent = ap unsent_in there in
      let longer = length-append d.unsent (replicate n id) in
      let added = length-replicate n id in
      omega (arith, sum, before, longer, added, counts, sound.event_count);
  few_events = each_set (λ i o. unsent_in o ≤ 64) d.sessions id (Some t) inside few (λ i differs. sound.few_events i);
  fits = fits;
}
  where
    t : SessionState
    t = finished s done

    left : List JobOut
    left = filter (λ e. not (e.spec.session == id)) d.jobs

    n : ℕ
    n = events_more s done

    inside : id < length d.sessions
    inside = within d.sessions id s there

    by_job : (o : Option Running) → o ≡ Some r
        → ((finished_by o s done).id ≡ s.id) × ((finished_by o s done).running ≡ None) × (length s.unsent ≤ length (finished_by o s done).unsent)
    by_job None is = cc
    by_job (Some x) is = (refl, refl, (let more = length-append s.unsent (events_of s x done) in omega (arith, more)))

    facts : (t.id ≡ s.id) × (t.running ≡ None) × (length s.unsent ≤ length t.unsent)
    facts = by_job s.running runs

    same_id : t.id ≡ s.id
    same_id = facts.0

    none : specs_in (Some t) ≡ []
    none = ap (λ (o : Option Running). option_to_list (option_map (λ (x : Running). x.spec) o)) facts.1

    counts : length t.unsent ≡ length s.unsent + n
    counts = let longer : length s.unsent ≤ length t.unsent = facts.2 in omega (arith, longer)

-- ---- an event is sent

pub sent_keeps : (s : SessionState) → ((sent s).id ≡ s.id) × ((sent s).running ≡ s.running) × ((sent s).made ≡ s.made)
sent_keeps s = by_events s.unsent
  where
    by_msg : (x : SessionState) (m : EventMsg) → ((with_returned x m).id ≡ x.id) × ((with_returned x m).running ≡ x.running) × ((with_returned x m).made ≡ x.made)
    by_msg x (Dequeued session b) = (refl, refl, refl)
    by_msg x (Happened session event) = (refl, refl, refl)

    by_events : (es : List Unsent) → ((sent_of es s).id ≡ s.id) × ((sent_of es s).running ≡ s.running) × ((sent_of es s).made ≡ s.made)
    by_events [] = (refl, refl, refl)
    by_events (e ∷ es) = by_msg (record s { unsent = es }) e.msg

sent_fewer : (s : SessionState) → 1 ≤ length s.unsent → length (sent s).unsent + 1 ≡ length s.unsent
sent_fewer s some = by_events s.unsent some
  where
    by_msg : (x : SessionState) (m : EventMsg) → length (with_returned x m).unsent ≡ length x.unsent
    by_msg x (Dequeued session b) = refl
    by_msg x (Happened session event) = refl

    by_events : (es : List Unsent) → 1 ≤ length es → length (sent_of es s).unsent + 1 ≡ length es
    by_events [] some = absurd (omega (arith, some))
    by_events (e ∷ es) some = let same = by_msg (record s { unsent = es }) e.msg in omega (arith, same)

-- the session whose event is the oldest is live, and has one
pub oldest_session : (d : DeviceState) (id : ℕ) (ids : List ℕ) → IsSound d → d.unsent ≡ id ∷ ids
    → (s : SessionState) × (session_of d id ≡ Some s) × (1 ≤ length s.unsent)
oldest_session d id ids sound is = by_session (session_of d id) refl (sym (sound.events id) ∙ ap (occurrences id) is)
  where
    by_session : (o : Option SessionState) → session_of d id ≡ o → unsent_in (session_of d id) ≡ occurrences id (id ∷ ids)
        → (s : SessionState) × (session_of d id ≡ Some s) × (1 ≤ length s.unsent)
    by_session None at counts =
        let none : 0 ≡ occurrences id (id ∷ ids) = sym (ap unsent_in at) ∙ counts in
        absurd (grind (arith, nat_tests, common_steps))
    by_session (Some s) at counts =
        let some : length s.unsent ≡ occurrences id (id ∷ ids) = sym (ap unsent_in at) ∙ counts in
        (s, at, grind (arith, nat_tests, common_steps))

pub sent_sound : (d : DeviceState) (id : ℕ) (ids : List ℕ) (s : SessionState) → IsSound d → d.unsent ≡ id ∷ ids → session_of d id ≡ Some s
    → FitsSessions (set d.sessions id (Some (sent s))) d.region.ranges → IsSound (with_sent d id s ids)
sent_sound d id ids s sound is there fits = record {
  few = rw (length-set d.sessions id (Some t)) sound.few;
  small = sound.small;
  ids = each_set (λ i o. (u : SessionState) → o ≡ Some u → u.id ≡ i) d.sessions id (Some t) inside
      (λ u at. ap (λ (x : SessionState). x.id) (sym (same_value t t u at)) ∙ (sent_keeps s).0 ∙ sound.ids id s there)
      (λ i differs u at. sound.ids i u at);
  jobs = each_set (λ i o. specs_for i d.jobs ≡ specs_in o) d.sessions id (Some t) inside (sound.jobs id ∙ ap specs_in there ∙ specs) (λ i differs. sound.jobs i);
  job_count =
      let sum = sum_by-set (λ (o : Option SessionState). length (specs_in o)) d.sessions id (Some t) None inside in
      let before : length (specs_in (session_of d id)) ≡ length (specs_in (Some t)) = ap (λ o. length (specs_in o)) there ∙ ap length specs in
      omega (arith, sum, before, sound.job_count);
  numbers = sound.numbers;
  events = each_set (λ i o. occurrences i ids ≡ unsent_in o) d.sessions id (Some t) inside
      (let before : occurrences id (id ∷ ids) ≡ length s.unsent = sym (ap (occurrences id) is) ∙ sound.events id ∙ ap unsent_in there in
      let one : occurrences id (id ∷ ids) ≡ occurrences id ids + 1 = grind (arith, nat_tests, common_steps) in
      omega (arith, before, one, fewer))
      (λ i differs.
      let same : occurrences i (id ∷ ids) ≡ occurrences i ids = grind (arith, nat_tests, common_steps) in
      sym same ∙ sym (ap (occurrences i) is) ∙ sound.events i);
  event_count =
      let sum = sum_by-set unsent_in d.sessions id (Some t) None inside in
      let before : unsent_in (session_of d id) ≡ length s.unsent = ap unsent_in there in
      omega (arith, sum, before, fewer, ap length is, sound.event_count);
  few_events = each_set (λ i o. unsent_in o ≤ 64) d.sessions id (Some t) inside
      (let before : length s.unsent ≤ 64 = subst (λ (n : ℕ). n ≤ 64) (ap unsent_in there) (sound.few_events id) in omega (arith, before, fewer))
      (λ i differs. sound.few_events i);
  fits = fits;
}
  where
    t : SessionState
    t = sent s

    inside : id < length d.sessions
    inside = within d.sessions id s there

    specs : specs_in (Some s) ≡ specs_in (Some t)
    specs = ap (λ (o : Option Running). option_to_list (option_map (λ (x : Running). x.spec) o)) (sym (sent_keeps s).1)

    some : 1 ≤ length s.unsent
    some =
        let found = oldest_session d id ids sound is in
        let same : found.0 ≡ s = same_value s found.0 s (sym found.1 ∙ there) in
        subst (λ (x : SessionState). 1 ≤ length x.unsent) same found.2

    fewer : length t.unsent + 1 ≡ length s.unsent
    fewer = sent_fewer s some

-- ---- room

no_one : (xs : List (Option SessionState)) → count_there (None ∷ xs) ≡ count_there xs
no_one xs = omega (arith, sum_by-cons one_if_there None xs)

-- all events that are unsent have a place among 64 for each live session
sum_most : (xs : List (Option SessionState)) → ((i : ℕ) → unsent_in (get_or xs i None) ≤ 64) → sum_by unsent_in xs ≤ 64 * count_there xs
sum_most [] few = omega arith
sum_most (None ∷ xs) few = omega (arith, sum_most xs (λ i. few (suc i)), sum_by-cons unsent_in None xs, no_one xs)
sum_most (Some s ∷ xs) few = omega (arith, sum_most xs (λ i. few (suc i)), few 0, sum_by-cons unsent_in (Some s) xs, sum_by-cons one_if_there (Some s) xs)

pub room_for_events : (d : DeviceState) → IsSound d → length d.unsent ≤ 64 * count_there d.sessions
room_for_events d sound = omega (arith, sound.event_count, sum_most d.sessions sound.few_events)

-- and each job one among all sessions
one_spec : (o : Option SessionState) → length (specs_in o) ≤ 1
one_spec None = omega arith
one_spec (Some s) = by_running s.running
  where
    by_running : (r : Option Running) → length (option_to_list (option_map (λ (x : Running). x.spec) r)) ≤ 1
    by_running None = omega arith
    by_running (Some r) = omega arith

sum_of_specs : (xs : List (Option SessionState)) → sum_by (λ o. length (specs_in o)) xs ≤ length xs
sum_of_specs [] = omega arith
sum_of_specs (o ∷ xs) = omega (arith, sum_of_specs xs, one_spec o, sum_by-cons (λ (o : Option SessionState). length (specs_in o)) o xs)

pub room_for_job : (d : DeviceState) (id : ℕ) (s : SessionState) → IsSound d → session_of d id ≡ Some s → can_begin s ≡ true → length d.jobs < length d.sessions
room_for_job d id s sound there can =
    let inside = within d.sessions id s there in
    let none : length (specs_in (session_of d id)) ≡ 0 = ap (λ o. length (specs_in o)) there ∙ ap length (idle s can) in
    omega (arith, none, sound.job_count, without_one d.sessions id inside none)
  where
    without_one : (xs : List (Option SessionState)) (i : ℕ) → i < length xs → length (specs_in (get_or xs i None)) ≡ 0 → sum_by (λ o. length (specs_in o)) xs < length xs
    without_one [] i inside none = absurd (omega (arith, inside))
    without_one (o ∷ xs) zero inside none = omega (arith, none, sum_of_specs xs, sum_by-cons (λ (o : Option SessionState). length (specs_in o)) o xs)
    without_one (o ∷ xs) (suc i) inside none = omega (arith, without_one xs i (omega (arith, inside)) none, one_spec o, sum_by-cons (λ (o : Option SessionState). length (specs_in o)) o xs)

-- ---- which session a job is out for

-- the spec of a job that is out is among those of its session
abbrev IsAmong : List JobOut → ℕ → JobSpec → Type 0
IsAmong jobs number spec =
    (spec.number ≡ number) × ((before : List JobSpec) × (behind : List JobSpec) × (specs_for spec.session jobs ≡ before ++ spec ∷ behind))

found_among : (jobs : List JobOut) (number : ℕ) (spec : JobSpec) → option_map (λ e. e.spec) (find (λ e. e.spec.number == number) jobs) ≡ Some spec
    → IsAmong jobs number spec
found_among [] number spec is = cc
found_among (e ∷ jobs) number spec is = by_number (cases_eq e.spec.number number) (found_among jobs number spec)
  where
    by_number : (e.spec.number ≡ number) ⊎ (e.spec.number ≢ number)
        → (option_map (λ e. e.spec) (find (λ e. e.spec.number == number) jobs) ≡ Some spec → IsAmong jobs number spec) → IsAmong (e ∷ jobs) number spec
    by_number (inl here) rest =
        let first : find (λ (e : JobOut). e.spec.number == number) (e ∷ jobs) ≡ Some e = grind (arith, nat_tests, common_steps) in
        let same : e.spec ≡ spec = same_value spec e.spec spec (sym (ap (option_map (λ (e : JobOut). e.spec)) first) ∙ is) in
        let own : e.spec.session ≡ spec.session = ap (λ (x : JobSpec). x.session) same in
        let front : specs_for spec.session (e ∷ jobs) ≡ e.spec ∷ specs_for spec.session jobs = grind (arith, nat_tests, common_steps) in (
          ap (λ (x : JobSpec). x.number) (sym same) ∙ here,
          ([], specs_for spec.session jobs, front ∙ ap (λ (x : JobSpec). x ∷ specs_for spec.session jobs) same),
        )
    by_number (inr other) rest =
        let later : find (λ (e : JobOut). e.spec.number == number) (e ∷ jobs) ≡ find (λ (e : JobOut). e.spec.number == number) jobs = grind (arith, nat_tests, common_steps) in
        let found = rest (sym (ap (option_map (λ (e : JobOut). e.spec)) later) ∙ is) in
        elim (cases_eq e.spec.session spec.session) [
          | inl same ↦
              let front : specs_for spec.session (e ∷ jobs) ≡ e.spec ∷ specs_for spec.session jobs = grind (arith, nat_tests, common_steps) in
              (found.0, (e.spec ∷ found.1.0, found.1.1, front ∙ ap (λ xs. e.spec ∷ xs) found.1.2))
          | inr differs ↦
              let front : specs_for spec.session (e ∷ jobs) ≡ specs_for spec.session jobs = grind (arith, nat_tests, common_steps) in
              (found.0, (found.1.0, found.1.1, front ∙ found.1.2))
        ]

-- A job that is out is the running one of a live session.
pub record IsRunning (d : DeviceState) (number : ℕ) (spec : JobSpec) : Type 0 where
  pub session : SessionState
  pub job : Running
  pub live : session_of d spec.session ≡ Some session
  pub runs : session.running ≡ Some job
  pub same : job.spec ≡ spec
  pub number_is : spec.number ≡ number

one_before : (x y : JobSpec) (before behind : List JobSpec) → x ∷ [] ≡ before ++ y ∷ behind → x ≡ y
one_before x y [] behind is = ap (head_or x) is
  where
    head_or : JobSpec → List JobSpec → JobSpec
    head_or d [] = d
    head_or d (z ∷ zs) = z
one_before x y (b ∷ before) behind is =
    let lengths = ap length is in
    let more = length-append before (y ∷ behind) in
    absurd (omega (arith, lengths, more))

never_among : (y : JobSpec) (before behind : List JobSpec) → [] ≡ before ++ y ∷ behind → ⊥
never_among y [] behind is = cc
never_among y (b ∷ before) behind is = cc

pub out_runs : (d : DeviceState) (number : ℕ) (spec : JobSpec) → IsSound d → outstanding d number ≡ Some spec → IsRunning d number spec
out_runs d number spec sound is = by_session (session_of d spec.session) refl (sym (sound.jobs spec.session) ∙ found.1.2)
  where
    found : (spec.number ≡ number) × ((before : List JobSpec) × (behind : List JobSpec) × (specs_for spec.session d.jobs ≡ before ++ spec ∷ behind))
    found = found_among d.jobs number spec is

    by_job : (s : SessionState) (o : Option Running) → session_of d spec.session ≡ Some s → s.running ≡ o
        → option_to_list (option_map (λ (x : Running). x.spec) o) ≡ found.1.0 ++ spec ∷ found.1.1 → IsRunning d number spec
    by_job s None live runs is = absurd (never_among spec found.1.0 found.1.1 is)
    by_job s (Some r) live runs is = record {
      session = s;
      job = r;
      live = live;
      runs = runs;
      same = one_before r.spec spec found.1.0 found.1.1 is;
      number_is = found.0;
    }

    by_session : (o : Option SessionState) → session_of d spec.session ≡ o → specs_in (session_of d spec.session) ≡ found.1.0 ++ spec ∷ found.1.1 → IsRunning d number spec
    by_session None at is = absurd (never_among spec found.1.0 found.1.1 (sym (ap specs_in at) ∙ is))
    by_session (Some s) at is = by_job s s.running at refl (sym (ap specs_in at) ∙ is)

-- what its session says of it
pub out_in : (d : DeviceState) (number : ℕ) (spec : JobSpec) (run : IsRunning d number spec) → outstanding_in run.session number ≡ Some spec
out_in d number spec run =
    ap (spec_under number) run.runs
    ∙ (let is : (run.job.spec.number == number) ≡ true = (let own : run.job.spec.number ≡ number = ap (λ (x : JobSpec). x.number) run.same ∙ run.number_is in grind (arith, nat_tests)) in
    ap (λ b. if b then Some run.job.spec else None) is) ∙ ap Some run.same

-- ---- at first

pub fresh_sound : (m : Model) (opens : ℕ) → opens < 2 ^ 32 → FitsSessions [] [] → IsSound (fresh_device m opens)
fresh_sound m opens small fits = record {
  few = omega arith;
  small = small;
  ids = λ id s at. cc;
  jobs = λ id. refl;
  job_count = refl;
  numbers = tt;
  events = λ id. refl;
  event_count = refl;
  few_events = λ id. omega arith;
  fits = fits;
}
