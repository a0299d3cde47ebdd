-- The steps of a session's frames move the slice of its handle.
use Rattle.std.proofs.Common.{◌≡◌, ℕ, zero, suc, ◌-◌, ◌≤◌, Bool, true, false, not, List, [], ◌∷◌, ◌++◌, Option, Some, None, is_some, length, map, refl, sym, ap, ◌∙◌, subst, arith, inl, inr, eqb, if◌then◌else◌}
use Rattle.std.specs.List.{Contains, filter, find, list_all}
use Rattle.std.specs.Option.{option_map, option_to_list}
use Rattle.std.proofs.lemmas.Bool.{false≢true, cases_Bool, and_parts, cond-true, cond-false, eq-eqb, eqb-true}
use Rattle.std.proofs.lemmas.List.{length-map}
use Rattle.std.proofs.lemmas.List.Elements.{All-contains, All-contains_itself, All-filter, filter_passes}
use Rattle.std.proofs.lemmas.Option.{none-some, same_Some}
use Rattle.vm_mem.specs.Lists.{first_of}
use Rattle.vm_job.specs.Entry.{IsOf, parts_of}
use Rattle.vm_job.specs.Job.{JobParts, DoneParts}
use Rattle.vm_job.specs.declared.job_out.JobOut.{JobOut}
use Rattle.vm_job.specs.declared.spec.JobSpec.{JobSpec}
use Rattle.vm_wire.specs.Message.{Posting, Returning}
use Rattle.vm_wire.specs.declared.delivery.Delivery.{Delivery}
use Rattle.vm_session.specs.declared.running.Running.{Running}
use Rattle.vm_session.specs.State.{SessionState}
use Rattle.vm_session.specs.Streaming.{is_ready as queue_ready, can_begin as session_can_begin, next_dst, next_src, next_spec, next_job, job_with, begun, finished, oldest, sent}
use Rattle.vm_device.specs.Device.{session_of, is_ready}
use Rattle.vm_device.specs.Keeps.{specs_for, specs_in}
use Rattle.vm_device.specs.Stream.{with_job, with_done, with_sent, Sends}
use Rattle.vm_host.specs.Part.{Part, Call as WaitingCall, AnnouncedTo}
use Rattle.vm_guest.specs.Process.{crossing_call}
use Rattle.vm_guest.specs.Guest.{process_at}
use Rattle.vm_guest.specs.declared.asked.Asked.{Asked as AskedCall}
use Rattle.vm_realm.specs.declared.step.Step.TheVariants.{Begin, Finish, Announce}
use Rattle.vm_realm.specs.World.{WorldState}
use Rattle.vm_realm.specs.Enabled.{waits, can_begin}
use Rattle.vm_realm.specs.Inner.{Inner}
use Rattle.vm_realm.specs.Steps.{with_device, ComesBack, DoesBegin, DoesFinish, DoesAnnounce}
use Rattle.vm_realm.specs.Slice.{Slice, Out, session_in, job_in, events_for, requests_of, calls_of, replies_of, out_from, out_of, is_on, out_at, slice_at}
use Rattle.vm_realm.specs.Slice.Out.{Nowhere, Asked, Kept, Told, Astray}
use Rattle.vm_realm.specs.SliceSteps.{is_kept_waiting, MovesOne}
use Rattle.vm_realm.specs.Sound.{IsKept, IsOut, IsSoundSlice, IsSoundBy, IsHandle, id_at, inner_at, spec_running}
use Rattle.vm_realm.proofs.ListLemmas.{in_front, contains_map, contains_filter, finds_in}
use Rattle.vm_realm.proofs.DeviceLemmas.{session_there}
use Rattle.vm_realm.proofs.PartLemmas.{find_in, some_of}
use Rattle.vm_realm.proofs.FramesLemmas.{SeatedAt, seated_at}
use Rattle.vm_realm.proofs.FrameLemmas.{same_slice, other_behind, own_behind, other_session, own_session, other_begun, own_begun, other_done, own_done, has_handle}

-- no other handle has the session's id
apart : (w : WorldState) (rows : List (List Inner)) (k : ℕ) (s : SessionState) (at : SeatedAt w k s) (n h : ℕ) → IsSoundBy w rows → ¬ ((n ≡ at.process) × (h ≡ at.handle)) → ¬ (id_at w n h ≡ Some k)
apart w rows k s at n h sound other is = other (sound.ids.once n h at.process at.handle k (has_handle w n h k is) at.is_handle is at.id_is)

-- ---- Announce

abbrev announced : WorldState → Delivery → ℕ → SessionState → List ℕ → WorldState
announced w d k t ids = record w {
  host = record { device = with_sent w.host.device k t ids; calls = w.host.calls };
  chains = w.chains - 1;
  events = w.events ++ d ∷ [];
}

announced_moves : (w : WorldState) (rows : List (List Inner)) (d : Delivery) (k : ℕ) (t : SessionState) (ids : List ℕ) → IsSoundBy w rows → session_of w.host.device k ≡ Some t → d.session ≡ k →
    Some (d.msg, d.held) ≡ oldest t → MovesOne Announce w (announced w d k t ids)
announced_moves w rows d k t ids sound is named told =
    let at : SeatedAt w k t = seated_at w rows k t sound is in
    let v : WorldState = announced w d k t ids in
    let x : Slice = slice_at w at.process at.handle in
    let id : Option ℕ = id_at w at.process at.handle in
    let own : id ≡ Some d.session = at.id_is ∙ ap Some (sym named) in
    let mine : t.id ≡ k = sound.device.sound.ids k t is in
    let session : session_in v.host.device id ≡ Some (sent t) = own_session w.host.device v.host.device id k (Some (sent t)) refl at.id_is (session_there w.host.device k t is) in
    let same : d ≡ record { session = t.id; msg = d.msg; held = d.held } = λ j. record { session = (named ∙ sym mine) j; msg = d.msg; held = d.held } in
    let events : events_for id (w.events ++ d ∷ []) ≡ x.events ++ record { session = t.id; msg = d.msg; held = d.held } ∷ [] =
    own_behind id w.events d own ∙ ap (λ y. x.events ++ y ∷ []) same in
    record {
      process = at.process;
      handle = at.handle;
      does = (t, d.msg, d.held, at.session, sym told, λ j. record x { session = session j; events = events j });
      others = λ n h other.
          let not_own : ¬ (id_at w n h ≡ Some k) = apart w rows k t at n h sound other in
          same_slice w v n h (record {
            handle = refl;
            out = refl;
            held = refl;
            events = other_behind (id_at w n h) w.events d (λ same. not_own (same ∙ ap Some named));
            session = other_session w.host.device v.host.device (id_at w n h) k (Some (sent t)) refl not_own;
            job = refl;
          });
    }

announce_from : (w w' : WorldState) (rows : List (List Inner)) (ids : List ℕ) (d : Delivery) (host : Part) → IsSoundBy w rows → w.host.device.unsent ≡ ids → AnnouncedTo ids w.host d host →
    w' ≡ record w { host = host; chains = w.chains - 1; events = w.events ++ d ∷ [] } → MovesOne Announce w w'
announce_from w w' rows [] d host sound is does after = absurd does
announce_from w w' rows (k ∷ ids) d host sound is (named, sends, calls) after =
    let by : Sends w.host.device (k ∷ ids) (Some (d.msg, d.held)) host.device = subst (λ l. Sends w.host.device l (Some (d.msg, d.held)) host.device) is sends in
    let same : record w { host = host; chains = w.chains - 1; events = w.events ++ d ∷ [] } ≡ announced w d k by.0 ids =
    λ j. record w { host = record { device = by.4 j; calls = calls j }; chains = w.chains - 1; events = w.events ++ d ∷ [] } in
    subst (MovesOne Announce w) (sym (after ∙ same)) (announced_moves w rows d k by.0 ids sound by.1 named by.3)

pub announce_moves : (w w' : WorldState) (rows : List (List Inner)) → IsSoundBy w rows → DoesAnnounce w w' → MovesOne Announce w w'
announce_moves w w' rows sound (d, host, does, after) = announce_from w w' rows w.host.device.unsent d host sound refl does after

-- ---- a call that waits is waited for

pub kept_from : (ms : List Posting) (cs : List WaitingCall) (rs : List Returning) (m : Posting) → out_from ms cs rs ≡ Kept m → (c : WaitingCall) × Contains cs c × (c.posting ≡ m)
kept_from [] (c ∷ []) [] m is = (c, in_front c [], posting_same c m is)
  where
    posting_same : (c : WaitingCall) (m : Posting) → Kept c.posting ≡ Kept m → c.posting ≡ m
    posting_same c m is = cc
kept_from (x ∷ []) [] [] m is = absurd (not_asked x m is)
  where
    not_asked : (x m : Posting) → Asked x ≡ Kept m → ⊥
    not_asked x m is = cc
kept_from [] [] (r ∷ []) m is = absurd (not_told r m is)
  where
    not_told : (r : Returning) (m : Posting) → Told r ≡ Kept m → ⊥
    not_told r m is = cc
kept_from ms cs rs m is = absurd (not_astray m is)
  where
    not_astray : (m : Posting) → Astray ≡ Kept m → ⊥
    not_astray m is = cc

pub filtered_in : {A : Type 0} (p : A → Bool) (xs : List A) (x : A) → Contains (filter p xs) x → Contains xs x × (p x ≡ true)
filtered_in p xs x there = (
  All-contains (Contains xs) (filter p xs) x (All-filter p (Contains xs) xs (All-contains_itself xs)) there,
  All-contains (λ y. p y ≡ true) (filter p xs) x (filter_passes p xs) there,
)

-- where the call of a handle is that waits, its call is the one that crosses
pub at_of : (b : Bool) (o : Out) (m : Posting) → (if b then o else Nowhere) ≡ Kept m → (b ≡ true) × (o ≡ Kept m)
at_of true o m is = (refl, is)
at_of false o m is = absurd (not_nowhere m is)
  where
    not_nowhere : (m : Posting) → Nowhere ≡ Kept m → ⊥
    not_nowhere m is = cc

pub on_one : (o : Option AskedCall) (h i : ℕ) → is_on o h ≡ true → is_on o i ≡ true → h ≡ i
on_one None h i here there = absurd (false≢true here)
on_one (Some a) h i here there = sym (eqb-true a.handle h here) ∙ eqb-true a.handle i there

pub kept_who : (x : Slice) (v : Inner) (m : Posting) → x.out ≡ Kept m → IsSoundSlice x v → m.request.who ≡ x.who
kept_who x v m out sound =
    let kept : IsKept x m = (subst (λ o. IsOut o x v) out sound.out).1 in
    ap (λ (y : Posting). y.request.who) kept.posted.says

-- the call that waits is of the session of this handle
kept_session : (w : WorldState) (rows : List (List Inner)) (n h : ℕ) (m : Posting) → IsSoundBy w rows → out_at w n h ≡ Kept m → (c : WaitingCall) × Contains w.host.calls c × (id_at w n h ≡ Some c.session)
kept_session w rows n h m sound out =
    let here : _ = at_of (is_on (crossing_call (process_at w.guest n)) h) (out_of w n) m out in
    let found : _ = kept_from (requests_of w n) (calls_of w n) (replies_of w n) m here.1 in
    let c : WaitingCall = found.0 in
    let there : _ = filtered_in (λ (y : WaitingCall). eqb y.posting.request.who n) w.host.calls c found.1 in
    let P : WaitingCall → Type 0 = λ y. (i : ℕ) × (j : ℕ) × IsHandle w i j × (out_at w i j ≡ Kept y.posting) × (id_at w i j ≡ Some y.session) in
    let own : P c = All-contains P w.host.calls c sound.said.waiting there.0 in
    let who : c.posting.request.who ≡ own.0 = kept_who (slice_at w own.0 own.1) (inner_at w rows own.0 own.1) c.posting own.3 (sound.slices own.0 own.1 own.2) in
    let process : own.0 ≡ n = sym who ∙ eqb-true c.posting.request.who n there.1 in
    let out_here : out_at w n own.1 ≡ Kept c.posting = subst (λ i. out_at w i own.1 ≡ Kept c.posting) process own.3 in
    let on : is_on (crossing_call (process_at w.guest n)) own.1 ≡ true = (at_of (is_on (crossing_call (process_at w.guest n)) own.1) (out_of w n) c.posting out_here).0 in
    let handle : own.1 ≡ h = on_one (crossing_call (process_at w.guest n)) own.1 h on here.0 in
    (c, there.0, subst (λ j. id_at w n j ≡ Some c.session) handle (subst (λ i. id_at w i own.1 ≡ Some c.session) process own.4))

none_kept : (w : WorldState) (rows : List (List Inner)) (n h k : ℕ) (o : Out) → IsSoundBy w rows → id_at w n h ≡ Some k → waits w.host k ≡ false → out_at w n h ≡ o → is_kept_waiting o ≡ false
none_kept w rows n h k Nowhere sound id free out = refl
none_kept w rows n h k (Asked m) sound id free out = refl
none_kept w rows n h k (Told r) sound id free out = refl
none_kept w rows n h k Astray sound id free out = refl
none_kept w rows n h k (Kept m) sound id free out =
    let kept : _ = kept_session w rows n h m sound out in
    let same : kept.0.session ≡ k = same_Some kept.0.session k (sym kept.2 ∙ id) in
    let there : Contains (map (λ (c : WaitingCall). c.session) w.host.calls) k =
    subst (λ i. Contains (map (λ (c : WaitingCall). c.session) w.host.calls) i) same (contains_map (λ (c : WaitingCall). c.session) w.host.calls kept.0 kept.1) in
    absurd (false≢true (sym free ∙ finds_in (λ (c : WaitingCall). c.session) k w.host.calls there))

-- ---- Begin

none_runs : (o : Option Running) (j : Option JobParts) → not (is_some o) ≡ true → option_map (λ r. r.spec) o ≡ option_map (λ (x : JobParts). x.spec) j → j ≡ None
none_runs o None free same = refl
none_runs None (Some j) free same = absurd (none-some j.spec same)
none_runs (Some r) (Some j) free same = absurd (false≢true free)

job_session : (s : SessionState) (number : ℕ) (job : JobParts) → next_job s number ≡ Some job → job.spec.session ≡ s.id
job_session s number job is =
    let from : _ = some_of (job_with (next_spec s number) (next_src s)) (next_dst s) job is in
    ap (λ (x : JobParts). x.spec.session) (sym from.2)

pub entry_parts : (e : JobOut) (job : JobParts) → IsOf e job → parts_of e ≡ job
entry_parts e job of = λ j. record { spec = of.0 j; src = of.1 j; dst = of.2 j }

begun_moves : (w : WorldState) (rows : List (List Inner)) (k : ℕ) (s : SessionState) (job : JobParts) (e : JobOut) → IsSoundBy w rows → session_of w.host.device k ≡ Some s → waits w.host k ≡ false →
    session_can_begin s ≡ true → next_job s w.host.device.begun ≡ Some job → IsOf e job → MovesOne (Begin k) w (with_device w (with_job w.host.device k s e))
begun_moves w rows k s job e sound is free can next of =
    let number : ℕ = w.host.device.begun in
    let at : SeatedAt w k s = seated_at w rows k s sound is in
    let v : WorldState = with_device w (with_job w.host.device k s e) in
    let x : Slice = slice_at w at.process at.handle in
    let id : Option ℕ = id_at w at.process at.handle in
    let mine : s.id ≡ k = sound.device.sound.ids k s is in
    let named : e.spec.session ≡ k = ap (λ (y : JobSpec). y.session) of.0 ∙ (job_session s number job next ∙ mine) in
    let session : session_in v.host.device id ≡ Some (begun s number) = own_session w.host.device v.host.device id k (Some (begun s number)) refl at.id_is (session_there w.host.device k s is) in
    let slice : IsSoundSlice x (inner_at w rows at.process at.handle) = sound.slices at.process at.handle at.is_handle in
    let runs : option_map (λ r. r.spec) s.running ≡ option_map (λ (j : JobParts). j.spec) x.job = ap spec_running (sym at.session) ∙ slice.runs in
    let none : x.job ≡ None = none_runs s.running x.job (and_parts (not (is_some s.running)) (list_all queue_ready s.queues) can).0 runs in
    let out : job_in (w.host.device.jobs ++ e ∷ []) id ≡ Some job = own_begun w.host.device.jobs id e (at.id_is ∙ ap Some (sym named)) none ∙ ap Some (entry_parts e job of) in
    record {
      process = at.process;
      handle = at.handle;
      does = (
        s,
        number,
        job,
        at.session,
        none_kept w rows at.process at.handle k (out_at w at.process at.handle) sound at.id_is free refl,
        can,
        next,
        λ j. record x { session = session j; job = out j },
      );
      others = λ n h other.
          let not_own : ¬ (id_at w n h ≡ Some k) = apart w rows k s at n h sound other in
          same_slice w v n h (record {
            handle = refl;
            out = refl;
            held = refl;
            events = refl;
            session = other_session w.host.device v.host.device (id_at w n h) k (Some (begun s number)) refl not_own;
            job = other_begun w.host.device.jobs (id_at w n h) e (λ same. not_own (same ∙ ap Some named));
          });
    }

is_false : (b : Bool) → not b ≡ true → b ≡ false
is_false true is = absurd (false≢true is)
is_false false is = refl

pub begin_moves : (w w' : WorldState) (rows : List (List Inner)) (k : ℕ) → IsSoundBy w rows → can_begin w.host k ≡ true → DoesBegin k w w' → MovesOne (Begin k) w w'
begin_moves w w' rows k sound may (job, d, begins, after) =
    let parts : _ = and_parts (not (waits w.host k)) (is_ready (session_of w.host.device k)) may in
    let s : SessionState = begins.1.0 in
    let e : JobOut = begins.1.1 in
    let is : session_of w.host.device k ≡ Some s = begins.1.2 in
    let can : session_can_begin s ≡ true = sym (ap is_ready is) ∙ parts.1 in
    let same : with_device w d ≡ with_device w (with_job w.host.device k s e) = ap (with_device w) begins.1.5 in
    subst (MovesOne (Begin k) w) (sym (after ∙ same)) (begun_moves w rows k s job e sound is (is_false (waits w.host k) parts.0) can begins.1.3 begins.1.4)

-- ---- Finish

pub find_first : {A : Type 0} (p : A → Bool) (xs : List A) → find p xs ≡ first_of (filter p xs)
find_first p [] = refl
find_first p (x ∷ xs) = elim (cases_Bool (p x)) [
  | inl here ↦ cond-true (p x) (Some x) (find p xs) here ∙ sym (ap first_of (cond-true (p x) (x ∷ filter p xs) (filter p xs) here))
  | inr later ↦ cond-false (p x) (Some x) (find p xs) later ∙ (find_first p xs ∙ sym (ap first_of (cond-false (p x) (x ∷ filter p xs) (filter p xs) later)))
]

only_one : {A : Type 0} (xs : List A) (x : A) → length xs ≤ 1 → Contains xs x → first_of xs ≡ Some x
only_one [] x few there = absurd (omega (arith, there.1))
only_one (y ∷ []) x few (zero, within, is) = ap Some is
only_one (y ∷ []) x few (suc n, within, is) = absurd (omega (arith, within))
only_one (y ∷ z ∷ zs) x few there = absurd (omega (arith, few))

one_spec : (o : Option SessionState) → length (specs_in o) ≤ 1
one_spec None = omega arith
one_spec (Some s) = one_at_most (option_map (λ r. r.spec) s.running)
  where
    one_at_most : (o : Option JobSpec) → length (option_to_list o) ≤ 1
    one_at_most None = omega arith
    one_at_most (Some x) = omega arith

-- the job that is out is the one of its session
pub job_of : (w : WorldState) (rows : List (List Inner)) (e : JobOut) (k : ℕ) → IsSoundBy w rows → Contains w.host.device.jobs e → e.spec.session ≡ k → job_in w.host.device.jobs (Some k) ≡ Some (parts_of e)
job_of w rows e k sound there own =
    let p : JobOut → Bool = λ x. eqb x.spec.session k in
    let mine : Contains (filter p w.host.device.jobs) e = contains_filter p w.host.device.jobs e (eq-eqb e.spec.session k own) there in
    let long : length (filter p w.host.device.jobs) ≡ length (specs_for k w.host.device.jobs) = sym (length-map (filter p w.host.device.jobs) (λ (x : JobOut). x.spec)) in
    let few : length (specs_for k w.host.device.jobs) ≤ 1 = subst (λ xs. length xs ≤ 1) (sym (sound.device.sound.jobs k)) (one_spec (session_of w.host.device k)) in
    ap (option_map parts_of) (find_first p w.host.device.jobs ∙ only_one (filter p w.host.device.jobs) e (omega (arith, long, few)) mine)

finished_moves : (w : WorldState) (rows : List (List Inner)) (number k : ℕ) (s : SessionState) (e : JobOut) (done : DoneParts) → IsSoundBy w rows → session_of w.host.device k ≡ Some s →
    Contains w.host.device.jobs e → e.spec.session ≡ k → ComesBack e done → MovesOne (Finish number) w (with_device w (with_done w.host.device k s done))
finished_moves w rows number k s e done sound is there own comes =
    let at : SeatedAt w k s = seated_at w rows k s sound is in
    let v : WorldState = with_device w (with_done w.host.device k s done) in
    let x : Slice = slice_at w at.process at.handle in
    let id : Option ℕ = id_at w at.process at.handle in
    let session : session_in v.host.device id ≡ Some (finished s done) = own_session w.host.device v.host.device id k (Some (finished s done)) refl at.id_is (session_there w.host.device k s is) in
    let job : x.job ≡ Some comes.job = ap (job_in w.host.device.jobs) at.id_is ∙ (job_of w rows e k sound there own ∙ ap Some (entry_parts e comes.job comes.out)) in
    let gone : job_in (filter (λ y. not (eqb y.spec.session k)) w.host.device.jobs) id ≡ None = own_done w.host.device.jobs id k at.id_is in
    record {
      process = at.process;
      handle = at.handle;
      does = (s, comes.job, done, at.session, job, comes.back, comes.picture, λ j. record x { session = session j; job = gone j });
      others = λ n h other.
          let not_own : ¬ (id_at w n h ≡ Some k) = apart w rows k s at n h sound other in
          same_slice w v n h (record {
            handle = refl;
            out = refl;
            held = refl;
            events = refl;
            session = other_session w.host.device v.host.device (id_at w n h) k (Some (finished s done)) refl not_own;
            job = other_done w.host.device.jobs (id_at w n h) k not_own;
          });
    }

pub finish_moves : (w w' : WorldState) (rows : List (List Inner)) (number : ℕ) → IsSoundBy w rows → DoesFinish number w w' → MovesOne (Finish number) w w'
finish_moves w w' rows number sound (done, (e, d, out, comes, finishes, after)) =
    let k : ℕ = done.job.spec.session in
    let there : _ = find_in (λ (y : JobOut). eqb y.spec.number number) w.host.device.jobs e out in
    let own : e.spec.session ≡ k = ap (λ (y : JobSpec). y.session) (comes.out.0 ∙ sym comes.back.spec) in
    let same : with_device w d ≡ with_device w (with_done w.host.device k finishes.0 done) = ap (with_device w) finishes.3 in
    subst (MovesOne (Finish number) w) (sym (after ∙ same)) (finished_moves w rows number k finishes.0 e done sound finishes.2 there.0 own comes)
