-- Lemmas on a step with the work that it hands out or takes back: it is the step of the world, and what is out is in hand.
use Rattle.std.proofs.Common.{◌≡◌, ◌≢◌, ◌≤◌, ◌<◌, ◌+◌, ◌-◌, ◌==◌, ◌⊎◌, ℕ, Bool, true, false, not, List, [], ◌∷◌, ◌++◌, Option, Some, None, Ok, Err, IsSome, IfErr, IsOk, IsErr, ◌↔◌, is_some, length, get_or, set, refl, sym, ap, ◌∙◌, subst, arith, inl, inr, length-set, cond, if◌then◌else◌, zero, suc}
use Rattle.std.specs.Prelude.{OnOk, IsTrue, IsFalse, Result}
use Rattle.std.specs.List.{All, cons_option, filter, filter_map, find}
use Rattle.std.specs.Option.{option_map, option_map_or, option_and_then}
use Rattle.std.proofs.lemmas.Bool.{false≢true, eq-eqb, eqb-true, cases_eq, cases_lt}
use Rattle.std.proofs.lemmas.List.{get_or-set_same, get_or-set_other, get_or_past, length-replicate}
use Rattle.std.proofs.lemmas.List.Elements.{All-nil, All-head, All-tail, All-push}
use Rattle.std.proofs.lemmas.Option.{none-some, same_Some}
use Rattle.vm_device.specs.Device.{DeviceState}
use Rattle.vm_device.specs.Stream.{outstanding, IsStranger, Begins, Finishes}
use Rattle.vm_guest.specs.Guest.{GuestState, no_process, process_in, process_at, with_process}
use Rattle.vm_guest.specs.Process.{ProcessState, current, current_call, doing, handle_at, is_at_rest, is_lent, is_lent_for, kept_by, lease_on, lease_out, leasing, no_handle, some_if, with_log}
use Rattle.vm_guest.specs.Asking.{asked_by, is_leased}
use Rattle.vm_guest.specs.Lines.{after_lease, returned, returned_to}
use Rattle.vm_guest.specs.Steps.{Leases, LeasesFor, given_back}
use Rattle.vm_guest.specs.declared.asked.Asked.{Asked}
use Rattle.vm_guest.specs.declared.asked.Statement.{Statement}
use Rattle.vm_guest.specs.declared.status.Status.TheVariants.{Lent}
use Rattle.vm_handle.specs.Handle.{HandleState}
use Rattle.v4l_const.specs.declared.errno.Errno.{Errno}
use Rattle.vm_local.specs.declared.call.Call.{Call}
use Rattle.vm_log.specs.LegalLog.{LogState, lease_in}
use Rattle.vm_job.specs.Entry.{IsOf as IsOfJob}
use Rattle.vm_job.specs.Job.{JobParts, DoneParts, CameBack, HasPicture}
use Rattle.vm_job.specs.declared.done_job.Stranger.{Stranger}
use Rattle.vm_job.specs.declared.job_out.JobOut.{JobOut}
use Rattle.vm_job.specs.declared.spec.JobSpec.{JobSpec}
use Rattle.vm_lease.specs.Lease.{LeaseParts, IsApplied, IsDoneOn, IsOf as IsOfLease, CameBackDone}
use Rattle.vm_lease.specs.declared.lease_out.LeaseOut.{LeaseOut}
use Rattle.vm_log.specs.Answers.{IsDone as IsLeaseDone, Leases as LeasesLog}
use Rattle.vm_log.specs.declared.leased.Leased.{Leased}
use Rattle.vm_log.specs.declared.leased.Leased.TheVariants.{Out, Answered, Idle}
use Rattle.vm_realm.specs.Enabled.{is_enabled}
use Rattle.vm_realm.specs.Laws.{is_finish, one_unless}
use Rattle.vm_realm.specs.Left.{bad_count}
use Rattle.vm_realm.specs.Sound.{IsSound}
use Rattle.vm_realm.specs.Steps.{ComesBack, DoesFinishWith, Steps, Turns, hands_over, job_out, with_device}
use Rattle.vm_realm.specs.World.{WorldState, IsOpening, jobs_out}
use Rattle.vm_realm.proofs.OpeningLemmas.{none_mapped}
use Rattle.vm_script.specs.Script.{ScriptLines}
use Rattle.vm_guest.specs.declared.status.Status.{Status}
use Rattle.vm_realm.specs.declared.step.Step.{Step}
use Rattle.vm_realm.specs.declared.step.Step.TheVariants.{Issue, Execute, Resume, Begin, Finish, Announce, Collect, Pump, Lease, GiveBack}
use Rattle.vm_realm.proofs.BadLemmas.{finish_counts, others_count_none}
use Rattle.vm_realm.proofs.PartLemmas.{find_in}
use Rattle.vm_realm.proofs.ProcessLemmas.{some_where}
use Rattle.vm_realm.proofs.SumLemmas.{place_within}
use Rattle.vm_link.specs.declared.link.Turn.{Turn}
use Rattle.vm_link.specs.declared.link.Turn.TheVariants.{Did, Idle as DidNothing}
use Rattle.vm_io.specs.Faults.{Rose}
use Rattle.vm_world.specs.Calls.{BeginsJob, IsBackAsItWent, LeasesLine}
use Rattle.vm_sched.specs.Hands.{HandsState, job_held, lease_held, empty_hands, ChangesJob, with_lease, HasJob, HasLease, HasAll, HasNoneOut, Goes, FailsWithin}
use Rattle.vm_sched.proofs.HandLemmas.{both_all, filter_all, below, none_left, next_number}
use Rattle.vm_sched.proofs.LeaveLemmas.{Leaves, LeavesOut, leaves_all, leaves_out, unlent, unlent_leaves}

-- ---- nothing is out at first

first_none : (p : ProcessState) (ps : List ProcessState) → lease_out p ≡ None → filter_map lease_out (p ∷ ps) ≡ filter_map lease_out ps
first_none p ps none = ap (λ o. cons_option o (filter_map lease_out ps)) none

none_lent : (ps : List ProcessState) (n : ℕ) (e : LeaseOut) → filter_map lease_out ps ≡ [] → lease_out (process_in ps n) ≡ Some e → ⊥
none_lent [] n e none is = none-some e is
none_lent (p ∷ ps) n e none is = by_first (lease_out p) refl n none is (λ k rest at. none_lent ps k e rest at)
  where
    by_first : (o : Option LeaseOut) → lease_out p ≡ o → (n : ℕ) → filter_map lease_out (p ∷ ps) ≡ [] → lease_out (process_in (p ∷ ps) n) ≡ Some e →
        ((k : ℕ) → filter_map lease_out ps ≡ [] → lease_out (process_in ps k) ≡ Some e → ⊥) → ⊥
    by_first None at zero none is behind = none-some e (sym at ∙ is)
    by_first None at (suc n) none is behind = behind n (sym (first_none p ps at) ∙ none) is
    by_first (Some x) at n none is behind =
        let never : x ∷ filter_map lease_out ps ≡ [] = sym (ap (λ o. cons_option o (filter_map lease_out ps)) at) ∙ none in cc

pub has_none : (w : WorldState) (hands : HandsState) → HasNoneOut w → hands ≡ empty_hands (length w.guest.processes) → HasAll hands w
has_none w hands none empty = record {
  jobs = subst (All (HasJob hands)) (sym none.jobs) (All-nil (HasJob hands));
  leases = λ n e is. absurd (none_lent w.guest.processes n e none.leases is);
  places = ap (λ (x : HandsState). length x.leases) empty ∙ length-replicate (length w.guest.processes) None;
}

-- ---- what hands nothing over

keeps_all : (hands : HandsState) (w w' : WorldState) → LeavesOut w w' → HasAll hands w → HasAll hands w'
keeps_all hands w w' leaves all = record {
  jobs = subst (All (HasJob hands)) (sym leaves.jobs) all.jobs;
  leases = λ n e is. all.leases n e (leaves.processes.lends n e is);
  places = all.places ∙ sym leaves.processes.count;
}

turned : (turn : Turn) (w w' : WorldState) (s : Step) → is_enabled w s ≡ true → hands_over s ≡ false → Turns turn w s w' → Steps w s w'
turned Did w w' s may none turns = turns.1
turned DidNothing w w' s may none turns =
    absurd (false≢true (sym turns.0 ∙ (rw (may, none) refl)))

pub plain_goes : (turn : Turn) (hands : HandsState) (w w' : WorldState) (s : Step) → is_enabled w s ≡ true → hands_over s ≡ false → HasAll hands w → Turns turn w s w' → Goes s hands w hands w'
plain_goes turn hands w w' s may none all turns =
    let steps : Steps w s w' = turned turn w w' s may none turns in
    record { steps = steps; all = keeps_all hands w w' (leaves_out w w' s none steps.1) all }

-- ---- frames that fail

pub fails_none : (w w' : WorldState) (s : Step) (before now : ℕ) → IsSound w → is_finish s ≡ false → Steps w s w' → before ≤ now → FailsWithin w w' before now
fails_none w w' s before now sound other steps more = inl (omega (arith, others_count_none w w' s sound steps other, more))

fails_by : (good : Bool) (w w' : WorldState) (before now : ℕ) → bad_count w' ≡ bad_count w + one_unless good → before ≤ now → (good ≡ false → Rose before now) → FailsWithin w w' before now
fails_by true w w' before now counts more rose = inl (omega (arith, counts, more))
fails_by false w w' before now counts more rose = risen (rose refl)
  where
    risen : Rose before now → FailsWithin w w' before now
    risen r = grind (arith, counts, more, r)

pub fails_on : (start w w' : WorldState) (a b c : ℕ) → FailsWithin start w a b → FailsWithin w w' b c → b ≤ c → FailsWithin start w' a c
fails_on start w w' a b c (inr most) then' more = inr (omega (arith, most, more))
fails_on start w w' a b c (inl few) (inr most) more = inr most
fails_on start w w' a b c (inl few) (inl then') more = inl (omega (arith, few, then'))

-- ---- Begin

pub begins_some : (session : ℕ) (w w' : WorldState) (o : Option JobParts) → is_enabled w (Begin session) ≡ true → BeginsJob session w o w' → IsSome o
begins_some session w w' None may begins = absurd (false≢true (sym begins.0 ∙ may))
begins_some session w w' (Some job) may begins = refl

pub begins_script : (session : ℕ) (w w' : WorldState) (o : Option JobParts) → BeginsJob session w o w' → w'.script ≡ w.script
begins_script session w w' None begins = ap (λ (x : WorldState). x.script) begins.1
begins_script session w w' (Some job) begins = ap (λ (x : WorldState). x.script) begins.1.2

begun_all : (hands hands' : HandsState) (w w' : WorldState) (session : ℕ) (job : JobParts) (d : DeviceState) → HasAll hands w → IsSound w → Begins w.host.device session (Some job) d → w' ≡ with_device w d →
    ChangesJob hands hands' job.spec.number (Some job) → HasAll hands' w'
begun_all hands hands' w w' session job d all sound begins after changes =
    let entry : JobOut = begins.1.1 in
    let number : job.spec.number ≡ w.host.device.begun = next_number begins.1.0 w.host.device.begun job begins.1.3 in
    let old : All (HasJob hands') (jobs_out w) =
    both_all (λ (e : JobOut). e.spec.number < w.host.device.begun) (HasJob hands) (HasJob hands')
    (λ e less has. (has.0, changes.others e.spec.number (λ same. absurd (omega (arith, less, same, number))) ∙ has.1, has.2)) (jobs_out w)
    (below w.host.device.begun (jobs_out w) sound.1.device.sound.numbers) all.jobs in
    let own : HasJob hands' entry = (job, ap (job_held hands') (ap (λ (x : JobSpec). x.number) begins.1.4.0) ∙ changes.changed, begins.1.4) in
    let jobs : jobs_out w' ≡ jobs_out w ++ entry ∷ [] = ap (λ (x : WorldState). x.host.device.jobs) after ∙ ap (λ (x : DeviceState). x.jobs) begins.1.5 in
    let guest : w'.guest ≡ w.guest = ap (λ (x : WorldState). x.guest) after in
    record {
      jobs = subst (All (HasJob hands')) (sym jobs) (All-push (HasJob hands') (jobs_out w) entry old own);
      leases = λ n e is.
          let has : HasLease hands n e = all.leases n e (ap (λ (g : GuestState). lease_out (process_at g n)) (sym guest) ∙ is) in
          (has.0, ap (λ ls. get_or ls n None) changes.leases ∙ has.1, has.2);
      places = ap (λ ls. length ls) changes.leases ∙ (all.places ∙ ap (λ (g : GuestState). length g.processes) (sym guest));
    }

pub begins_goes : (hands hands' : HandsState) (w w' : WorldState) (session : ℕ) (o : Option JobParts) (job : JobParts) → o ≡ Some job → HasAll hands w → IsSound w → BeginsJob session w o w' →
    ChangesJob hands hands' job.spec.number (Some job) → Goes (Begin session) hands w hands' w'
begins_goes hands hands' w w' session o job is all sound begins changes =
    let does : BeginsJob session w (Some job) w' = subst (λ x. BeginsJob session w x w') is begins in
    record {
      steps = (does.0, (job, does.1.0, does.1.1, does.1.2));
      all = begun_all hands hands' w w' session job does.1.0 all sound does.1.1 does.1.2 changes;
    }

-- ---- Finish

-- the job of a number that is out
pub record IsOutNow (hands : HandsState) (w : WorldState) (number : ℕ) : Type 0 where
  pub entry : JobOut
  pub out : job_out number w ≡ Some entry
  pub number_is : entry.spec.number ≡ number
  pub has : HasJob hands entry

contains_all : {A : Type 0} (P : A → Type 0) (test : A → Bool) (xs : List A) (x : A) → All P xs → find test xs ≡ Some x → P x
contains_all P test [] x all is = absurd (none-some x is)
contains_all P test (y ∷ ys) x all is = by_test (test y) is (λ at. contains_all P test ys x (All-tail P y ys all) at)
  where
    by_test : (b : Bool) → cond b (Some y) (find test ys) ≡ Some x → (find test ys ≡ Some x → P x) → P x
    by_test true is behind = subst P (same_Some y x is) (All-head P y ys all)
    by_test false is behind = behind is

out_by : (o : Option JobOut) → is_some (option_map (λ e. e.spec) o) ≡ true → (e : JobOut) × (o ≡ Some e)
out_by None is = absurd (false≢true is)
out_by (Some e) is = (e, refl)

is_out : (hands : HandsState) (w : WorldState) (number : ℕ) → is_enabled w (Finish number) ≡ true → HasAll hands w → IsOutNow hands w number
is_out hands w number may all =
    let o = out_by (job_out number w) may in
    record {
      entry = o.0;
      out = o.1;
      number_is = eqb-true o.0.spec.number number (find_in (λ (e : JobOut). e.spec.number == number) (jobs_out w) o.0 o.1).1;
      has = contains_all (HasJob hands) (λ (e : JobOut). e.spec.number == number) (jobs_out w) o.0 all.jobs o.1;
    }

pub takes_some : (hands : HandsState) (w : WorldState) (number : ℕ) (o : Option JobParts) → is_enabled w (Finish number) ≡ true → HasAll hands w → o ≡ job_held hands number → IsSome o
takes_some hands w number o may all is =
    let out = is_out hands w number may all in
    subst IsSome (sym (is ∙ (ap (job_held hands) (sym out.number_is) ∙ out.has.1))) refl

-- the job in hand is the one that is out
own_job : (hands : HandsState) (w : WorldState) (number : ℕ) (o : Option JobParts) (job : JobParts) (out : IsOutNow hands w number) → o ≡ job_held hands number → o ≡ Some job → out.has.0 ≡ job
own_job hands w number o job out is some = same_Some out.has.0 job (sym (is ∙ (ap (job_held hands) (sym out.number_is) ∙ out.has.1)) ∙ some)

-- it comes back as it went out
comes_back : (hands : HandsState) (w : WorldState) (number : ℕ) (o : Option JobParts) (job : JobParts) (done : DoneParts) (out : IsOutNow hands w number) → o ≡ job_held hands number → o ≡ Some job →
    CameBack job done → (IsTrue done.good → HasPicture done.job) → ComesBack out.entry done
comes_back hands w number o job done out is some back picture = record {
  job = job;
  out = subst (IsOfJob out.entry) (own_job hands w number o job out is some) out.has.2;
  back = back;
  picture = picture;
}

spec_is : (hands : HandsState) (w : WorldState) (number : ℕ) (o : Option JobParts) (job : JobParts) (done : DoneParts) (out : IsOutNow hands w number) → o ≡ job_held hands number → o ≡ Some job →
    CameBack job done → done.job.spec ≡ out.entry.spec
spec_is hands w number o job done out is some back =
    back.spec ∙ sym (subst (IsOfJob out.entry) (own_job hands w number o job out is some) out.has.2).0

pub back_as_it_went : (hands : HandsState) (w : WorldState) (number : ℕ) (o : Option JobParts) (job : JobParts) (done : DoneParts) → is_enabled w (Finish number) ≡ true → HasAll hands w →
    o ≡ job_held hands number → o ≡ Some job → CameBack job done → (IsTrue done.good → HasPicture done.job) → IsBackAsItWent done w
back_as_it_went hands w number o job done may all is some back picture entry at same =
    let out = is_out hands w number may all in
    let spec = spec_is hands w number o job done out is some back in
    let number_too : done.job.spec.number ≡ number = ap (λ (x : JobSpec). x.number) spec ∙ out.number_is in
    let entry_is : out.entry ≡ entry = same_Some out.entry entry (sym out.out ∙ (ap (λ n. job_out n w) (sym number_too) ∙ at)) in
    subst (λ e. ComesBack e done) entry_is (comes_back hands w number o job done out is some back picture)

-- so it is no stranger
pub taken_back : (hands : HandsState) (w : WorldState) (number : ℕ) (o : Option JobParts) (job : JobParts) (done : DoneParts) (r : Result Unit Stranger) → is_enabled w (Finish number) ≡ true → HasAll hands w →
    o ≡ job_held hands number → o ≡ Some job → CameBack job done → IfErr r (λ s. IsStranger w.host.device done s) → IsOk r
taken_back hands w number o job done (Ok u) may all is some back stranger = refl
taken_back hands w number o job done (Err s) may all is some back stranger =
    let out = is_out hands w number may all in
    let spec = spec_is hands w number o job done out is some back in
    let number_too : done.job.spec.number ≡ number = ap (λ (x : JobSpec). x.number) spec ∙ out.number_is in
    absurd (stranger.differs (stranger.spec ∙ (ap (outstanding w.host.device) number_too ∙ (ap (option_map (λ (e : JobOut). e.spec)) out.out ∙ ap Some (sym spec)))))

finished_all : (hands hands' : HandsState) (w w' : WorldState) (number : ℕ) (done : DoneParts) (d : DeviceState) (out : IsOutNow hands w number) → HasAll hands w → IsSound w → done.job.spec ≡ out.entry.spec →
    Finishes w.host.device done d → w' ≡ with_device w d → ChangesJob hands hands' number None → HasAll hands' w'
finished_all hands hands' w w' number done d out all sound spec finishes after changes =
    let id : ℕ = done.job.spec.session in
    let kept : JobOut → Bool = λ e. not (e.spec.session == id) in
    let jobs : jobs_out w' ≡ filter kept (jobs_out w) = ap (λ (x : WorldState). x.host.device.jobs) after ∙ ap (λ (x : DeviceState). x.jobs) finishes.3 in
    let others : All (λ (e : JobOut). e.spec.number ≢ number) (filter kept (jobs_out w)) =
    none_left w.host.device.begun number id (jobs_out w) out.entry sound.1.device.sound.numbers out.out (ap (λ (x : JobSpec). x.session) (sym spec)) in
    let guest : w'.guest ≡ w.guest = ap (λ (x : WorldState). x.guest) after in
    record {
      jobs = subst (All (HasJob hands')) (sym jobs)
          (both_all (λ (e : JobOut). e.spec.number ≢ number) (HasJob hands) (HasJob hands') (λ e other has. (has.0, changes.others e.spec.number other ∙ has.1, has.2)) (filter kept (jobs_out w)) others
          (filter_all (HasJob hands) kept (jobs_out w) all.jobs));
      leases = λ n e is.
          let has : HasLease hands n e = all.leases n e (ap (λ (g : GuestState). lease_out (process_at g n)) (sym guest) ∙ is) in
          (has.0, ap (λ ls. get_or ls n None) changes.leases ∙ has.1, has.2);
      places = ap (λ ls. length ls) changes.leases ∙ (all.places ∙ ap (λ (g : GuestState). length g.processes) (sym guest));
    }

pub finish_goes : (hands hands' : HandsState) (w w' : WorldState) (number : ℕ) (o : Option JobParts) (job : JobParts) (done : DoneParts) → is_enabled w (Finish number) ≡ true → HasAll hands w → IsSound w →
    o ≡ job_held hands number → o ≡ Some job → CameBack job done → DoesFinishWith done done.job.spec.number w w' → ChangesJob hands hands' number None → Goes (Finish number) hands w hands' w'
finish_goes hands hands' w w' number o job done may all sound is some back does changes =
    let out = is_out hands w number may all in
    let spec = spec_is hands w number o job done out is some back in
    let number_too : done.job.spec.number ≡ number = ap (λ (x : JobSpec). x.number) spec ∙ out.number_is in
    record {
      steps = (may, (done, subst (λ n. DoesFinishWith done n w w') number_too does));
      all = finished_all hands hands' w w' number done does.1 out all sound spec does.4 does.5 changes;
    }

pub finish_fails : (w w' : WorldState) (done : DoneParts) (before now : ℕ) → IsSound w → DoesFinishWith done done.job.spec.number w w' → before ≤ now → (IsFalse done.good → Rose before now) → FailsWithin w w' before now
finish_fails w w' done before now sound does more rose = fails_by done.good w w' before now (finish_counts w w' done.job.spec.number done sound does) more rose

pub finish_script : (w w' : WorldState) (done : DoneParts) → DoesFinishWith done done.job.spec.number w w' → w'.script ≡ w.script
finish_script w w' done does = ap (λ (x : WorldState). x.script) does.5

-- ---- a process's lease is exchanged

-- The others are as they were.
exchanged : (hands : HandsState) (w : WorldState) (n : ℕ) (p : ProcessState) (lease : Option LeaseParts) (g : GuestState) → HasAll hands w → g ≡ with_process w.guest n p →
    ((e : LeaseOut) → lease_out p ≡ Some e → (l : LeaseParts) × (lease ≡ Some l) × IsOfLease e l) → n < length w.guest.processes →
    HasAll (with_lease hands n lease) (record w { guest = g })
exchanged hands w n p lease g all is own within = record {
  jobs = all.jobs;
  leases = λ k e at. by_place k e (subst (λ (x : GuestState). lease_out (process_at x k) ≡ Some e) is at);
  places = length-set hands.leases n lease ∙ (all.places ∙ (sym (length-set w.guest.processes n p) ∙ ap (λ (x : GuestState). length x.processes) (sym is)));
}
  where
    has_place : n < length hands.leases
    has_place = omega (arith, within, all.places)

    in_place : (k : ℕ) (e : LeaseOut) → k ≡ n → lease_out (process_in (set w.guest.processes n p) k) ≡ Some e → HasLease (with_lease hands n lease) k e
    in_place k e same at =
        let here : lease_out p ≡ Some e =
        sym (ap lease_out (ap (process_in (set w.guest.processes n p)) same ∙ get_or-set_same w.guest.processes n p no_process within)) ∙ at in
        let has = own e here in
        (has.0, ap (λ i. get_or (set hands.leases n lease) i None) same ∙ (get_or-set_same hands.leases n lease None has_place ∙ has.1), has.2)

    elsewhere : (k : ℕ) (e : LeaseOut) → (k ≡ n → ⊥) → lease_out (process_in (set w.guest.processes n p) k) ≡ Some e → HasLease (with_lease hands n lease) k e
    elsewhere k e other at =
        let there : lease_out (process_at w.guest k) ≡ Some e =
        sym (ap lease_out (get_or-set_other w.guest.processes n k p no_process other)) ∙ at in
        let has : HasLease hands k e = all.leases k e there in
        (has.0, get_or-set_other hands.leases n k lease None other ∙ has.1, has.2)

    by_place : (k : ℕ) (e : LeaseOut) → lease_out (process_in (set w.guest.processes n p) k) ≡ Some e → HasLease (with_lease hands n lease) k e
    by_place k e at = elim (cases_eq k n) [ inl same ↦ in_place k e same at | inr other ↦ elsewhere k e other at ]

-- ---- Lease

current_of : (p : ProcessState) (a : Asked) → leasing p ≡ Some a → current_call p ≡ Some a
current_of p a is = by_rest (is_at_rest p.status) (current p) is
  where
    by_kept : (b : Bool) (s : Statement) → option_and_then asked_by (if b then Some s else None) ≡ Some a → asked_by s ≡ Some a
    by_kept true s is = is
    by_kept false s is = absurd (none-some a is)

    by_rest : (b : Bool) (o : Option Statement) → option_and_then asked_by (kept_by is_leased (some_if b o)) ≡ Some a → option_and_then asked_by o ≡ Some a
    by_rest true None is = is
    by_rest true (Some s) is = by_kept (is_leased s.what) s is
    by_rest false o is = absurd (none-some a is)

lent_call : (refused : Option Errno) (old log : LogState) (line : ℕ) (call : Call) (lease : LeaseParts) → LeasesLog refused old line call (Out lease) log →
    (e : LeaseOut) → lease_in log.away ≡ Some e → IsOfLease e lease
lent_call None old log line call lease goes e is =
    let same : goes.entry ≡ e = same_Some goes.entry e (sym (ap (λ (l : LogState). lease_in l.away) goes.left) ∙ is) in
    subst (λ x. IsOfLease x lease) same goes.noted
lent_call (Some errno) old log line call lease goes e is = absurd goes

lent_own : (p q : ProcessState) (a : Asked) (log : LogState) (e : LeaseOut) → current_call p ≡ Some a → q ≡ doing Lent (with_log p a.handle log) → lease_out q ≡ Some e → lease_in log.away ≡ Some e
lent_own p q a log e asks after is =
    let r : ProcessState = with_log p a.handle log in
    let on : lease_on r (Some a) ≡ Some e = sym (ap (lease_on r) asks) ∙ (ap lease_out (sym after) ∙ is) in
    by_within (cases_lt a.handle (length p.handles)) on
  where
    by_within : (a.handle < length p.handles) ⊎ (length p.handles ≤ a.handle) → lease_on (with_log p a.handle log) (Some a) ≡ Some e → lease_in log.away ≡ Some e
    by_within (inl within) on = sym (ap (λ (h : HandleState). lease_in h.log.away) (get_or-set_same p.handles a.handle (record (handle_at p a.handle) { log = log }) no_handle within)) ∙ on
    by_within (inr past) on =
        absurd (none-some e (sym (ap (λ (h : HandleState). lease_in h.log.away)
        (get_or_past (set p.handles a.handle (record (handle_at p a.handle) { log = log })) a.handle no_handle
        (omega (arith, past, length-set p.handles a.handle (record (handle_at p a.handle) { log = log }))))) ∙ on))

pub lend_within : (hands : HandsState) (w : WorldState) (n : ℕ) → is_enabled w (Lease n) ≡ true → HasAll hands w → n < length hands.leases
lend_within hands w n may all =
    let within : n < length w.guest.processes = place_within (λ (y : ProcessState). is_some (leasing y)) w.guest.processes n no_process refl may in
    omega (arith, within, all.places)

-- its memory goes out
out_all : (o : Option Asked) (hands : HandsState) (w : WorldState) (n : ℕ) (lease : LeaseParts) (g : GuestState) → leasing (process_at w.guest n) ≡ o → n < length w.guest.processes → HasAll hands w →
    LeasesFor o n w.guest (Out lease) g → HasAll (with_lease hands n (Some lease)) (record w { guest = g })
out_all None hands w n lease g asks within all (never, same) = cc
out_all (Some a) hands w n lease g asks within all (p, (log, leases, after), is) =
    exchanged hands w n p (Some lease) g all is
    (λ e at. (lease, refl, lent_call _ _ log a.line a.call lease leases e (lent_own (process_at w.guest n) p a log e (current_of (process_at w.guest n) a asks) after at))) within

pub out_goes : (hands hands' : HandsState) (w w' : WorldState) (n : ℕ) (leased : Leased) (lease : LeaseParts) → hands' ≡ with_lease hands n (Some lease) → leased ≡ Out lease → is_enabled w (Lease n) ≡ true → HasAll hands w → LeasesLine n w leased w' →
    Goes (Lease n) hands w hands' w'
out_goes hands hands' w w' n leased lease put is may all does =
    let within : n < length w.guest.processes = place_within (λ (y : ProcessState). is_some (leasing y)) w.guest.processes n no_process refl may in
    let leases : Leases n w.guest (Out lease) does.0 = subst (λ x. Leases n w.guest x does.0) is does.1 in
    record {
      steps = (may, (leased, does.0, does.1, does.2));
      all = subst (λ k. HasAll k w') (sym put) (subst (HasAll (with_lease hands n (Some lease))) (sym does.2) (out_all (leasing (process_at w.guest n)) hands w n lease does.0 refl within all leases));
    }

-- or it doesn't
abbrev stays_in : Leased → Type 0
stays_in (Out lease) = ⊥
stays_in Answered = Unit {0}
stays_in Idle = Unit {0}

refused_unlent : (refused : Option Errno) (leased : Leased) (old log : LogState) (line : ℕ) (call : Call) (p q : ProcessState) → stays_in leased → LeasesLog refused old line call leased log → q ≡ after_lease leased p →
    is_lent q.status ≡ false
refused_unlent (Some errno) Answered old log line call p q stays leases after = ap (λ (x : ProcessState). is_lent x.status) after
refused_unlent refused (Out lease) old log line call p q stays leases after = absurd stays
refused_unlent None Answered old log line call p q stays leases after = absurd leases
refused_unlent None Idle old log line call p q stays leases after = absurd leases
refused_unlent (Some errno) Idle old log line call p q stays leases after = absurd leases

in_leaves : (o : Option Asked) (w : WorldState) (n : ℕ) (leased : Leased) (g : GuestState) → stays_in leased → LeasesFor o n w.guest leased g → Leaves w.guest.processes g.processes
in_leaves None w n leased g stays (never, same) = subst (λ (x : GuestState). Leaves w.guest.processes x.processes) (sym same) (leaves_all w.guest.processes)
in_leaves (Some a) w n leased g stays (p, (log, leases, after), is) =
    subst (λ (x : GuestState). Leaves w.guest.processes x.processes) (sym is)
    (unlent_leaves w.guest.processes n p (refused_unlent _ leased _ log a.line a.call (with_log (process_at w.guest n) a.handle log) p stays leases after))

pub in_goes : (hands : HandsState) (w w' : WorldState) (n : ℕ) (leased : Leased) → stays_in leased → is_enabled w (Lease n) ≡ true → HasAll hands w → LeasesLine n w leased w' → Goes (Lease n) hands w hands w'
in_goes hands w w' n leased stays may all does = record {
  steps = (may, (leased, does.0, does.1, does.2));
  all = keeps_all hands w w' (record {
    jobs = ap (λ (x : WorldState). x.host.device.jobs) does.2;
    processes = subst (λ (x : WorldState). Leaves w.guest.processes x.guest.processes) (sym does.2) (in_leaves (leasing (process_at w.guest n)) w n leased does.0 stays does.1);
  }) all;
}

pub stays_goes : (hands : HandsState) (w w' : WorldState) (n : ℕ) (leased : Leased) → (leased ≡ Answered) ⊎ (leased ≡ Idle) → is_enabled w (Lease n) ≡ true → HasAll hands w → LeasesLine n w leased w' → Goes (Lease n) hands w hands w'
stays_goes hands w w' n leased (inl is) may all does = in_goes hands w w' n leased (subst stays_in (sym is) tt) may all does
stays_goes hands w w' n leased (inr is) may all does = in_goes hands w w' n leased (subst stays_in (sym is) tt) may all does

pub lends_script : (w w' : WorldState) (n : ℕ) (leased : Leased) → LeasesLine n w leased w' → w'.script ≡ w.script
lends_script w w' n leased does = ap (λ (x : WorldState). x.script) does.2

-- ---- GiveBack

pub give_within : (hands : HandsState) (w : WorldState) (n : ℕ) → is_enabled w (GiveBack n) ≡ true → HasAll hands w → n < length hands.leases
give_within hands w n may all =
    let within : n < length w.guest.processes = place_within (λ (y : ProcessState). is_some (lease_out y)) w.guest.processes n no_process refl may in
    omega (arith, within, all.places)

-- the lease of the process is in hand
pub record IsLentNow (hands : HandsState) (w : WorldState) (n : ℕ) : Type 0 where
  pub entry : LeaseOut
  pub out : lease_out (process_at w.guest n) ≡ Some entry
  pub has : HasLease hands n entry

lent_by : (o : Option LeaseOut) → is_some o ≡ true → (e : LeaseOut) × (o ≡ Some e)
lent_by None is = absurd (false≢true is)
lent_by (Some e) is = (e, refl)

is_lent_now : (hands : HandsState) (w : WorldState) (n : ℕ) → is_enabled w (GiveBack n) ≡ true → HasAll hands w → IsLentNow hands w n
is_lent_now hands w n may all =
    let o = lent_by (lease_out (process_at w.guest n)) may in
    record { entry = o.0; out = o.1; has = all.leases n o.0 o.1 }

pub gives_some : (hands : HandsState) (w : WorldState) (n : ℕ) (o : Option LeaseParts) → is_enabled w (GiveBack n) ≡ true → HasAll hands w → o ≡ lease_held hands n → IsSome o
gives_some hands w n o may all is =
    let lent = is_lent_now hands w n may all in
    subst IsSome (sym (is ∙ lent.has.1)) refl

back_done : (hands : HandsState) (w : WorldState) (n : ℕ) (o : Option LeaseParts) (old new : LeaseParts) (lent : IsLentNow hands w n) → o ≡ lease_held hands n → o ≡ Some old → IsApplied old new → CameBackDone lent.entry new
back_done hands w n o old new lent is some applied =
    let own : lent.has.0 ≡ old = same_Some lent.has.0 old (sym (is ∙ lent.has.1) ∙ some) in
    let of : IsOfLease lent.entry old = subst (IsOfLease lent.entry) own lent.has.2 in
    record {
      line = applied.line ∙ sym of.0;
      call = applied.call ∙ sym of.1;
      done = subst (λ c. IsDoneOn c lent.entry.mem.value new.mem new.reply) (sym of.1) (subst (λ m. IsDoneOn old.call m new.mem new.reply) (sym of.2) applied.done);
    }

pub gives_done : (hands : HandsState) (w : WorldState) (n : ℕ) (o : Option LeaseParts) (old new : LeaseParts) → is_enabled w (GiveBack n) ≡ true → HasAll hands w → o ≡ lease_held hands n → o ≡ Some old → IsApplied old new →
    is_lent_for (process_at w.guest n) new.line ≡ true → IsLeaseDone (lease_out (process_at w.guest n)) new
gives_done hands w n o old new may all is some applied own =
    let lent = is_lent_now hands w n may all in
    subst (λ x. IsLeaseDone x new) (sym lent.out) (back_done hands w n o old new lent is some applied)

lent_for : (hands : HandsState) (w : WorldState) (n : ℕ) (o : Option LeaseParts) (old new : LeaseParts) → is_enabled w (GiveBack n) ≡ true → HasAll hands w → o ≡ lease_held hands n → o ≡ Some old → IsApplied old new →
    is_lent_for (process_at w.guest n) new.line ≡ true
lent_for hands w n o old new may all is some applied =
    let lent = is_lent_now hands w n may all in
    ap (λ (x : Option LeaseOut). option_map_or (λ (e : LeaseOut). e.line == new.line) x false) lent.out
    ∙ eq-eqb lent.entry.line new.line (sym (back_done hands w n o old new lent is some applied).line)

pub gives_ok : (hands : HandsState) (w : WorldState) (n : ℕ) (o : Option LeaseParts) (old new : LeaseParts) (r : Result Unit LeaseParts) → is_enabled w (GiveBack n) ≡ true → HasAll hands w → o ≡ lease_held hands n →
    o ≡ Some old → IsApplied old new → (IsErr r ↔ (is_lent_for (process_at w.guest n) new.line ≡ false)) → IsOk r
gives_ok hands w n o old new (Ok u) may all is some applied other = refl
gives_ok hands w n o old new (Err l) may all is some applied other =
    absurd (false≢true (sym (other.0 refl) ∙ lent_for hands w n o old new may all is some applied))

returned_unlent : (c : Option Asked) (p : ProcessState) (e : LeaseOut) (lease : LeaseParts) → lease_on p c ≡ Some e → is_lent (returned_to p c lease).status ≡ false
returned_unlent None p e lease is = absurd (none-some e is)
returned_unlent (Some a) p e lease is = refl

pub gives_goes : (hands hands' : HandsState) (w w' : WorldState) (n : ℕ) (o : Option LeaseParts) (old new : LeaseParts) → hands' ≡ with_lease hands n None → is_enabled w (GiveBack n) ≡ true → HasAll hands w → o ≡ lease_held hands n → o ≡ Some old → IsApplied old new →
    w' ≡ record w { guest = given_back n w.guest new } → Goes (GiveBack n) hands w hands' w'
gives_goes hands hands' w w' n o old new took may all is some applied after =
    let lent = is_lent_now hands w n may all in
    let p : ProcessState = process_at w.guest n in
    let within : n < length w.guest.processes = place_within (λ (y : ProcessState). is_some (lease_out y)) w.guest.processes n no_process refl may in
    let on = some_where (is_lent p.status) (lease_on p (current_call p)) lent.entry lent.out in
    let unlent_now : is_lent (returned p new).status ≡ false = returned_unlent (current_call p) p lent.entry new on.1 in
    record {
      steps = (may, (lent.entry, new, lent.out, back_done hands w n o old new lent is some applied, after));
      all = subst (λ k. HasAll k w') (sym took) (subst (HasAll (with_lease hands n None)) (sym after)
          (exchanged hands w n (returned p new) None (given_back n w.guest new) all refl (λ e at. absurd (unlent (returned p new) e unlent_now at)) within));
    }

-- ---- what is told where it went well

pub on_ok : {T E : Type 0} (P : Type 0) (r : Result T E) → IsOk r → OnOk r P → P
on_ok P (Ok x) is told = told
on_ok P (Err e) is told = absurd (false≢true is)

pub when_ok : {T E P Q : Type 0} (r : Result T E) → (P → Q) → OnOk r P → OnOk r Q
when_ok (Ok x) f p = f p
when_ok (Err e) f p = p

pub gives_script : (w w' : WorldState) (g : GuestState) → w' ≡ record w { guest = g } → w'.script ≡ w.script
gives_script w w' g after = ap (λ (x : WorldState). x.script) after

-- what hands nothing over takes no job back
pub plain_finish : (s : Step) → hands_over s ≡ false → is_finish s ≡ false
plain_finish (Issue p) none = refl
plain_finish Execute none = refl
plain_finish (Resume session) none = refl
plain_finish (Begin session) none = refl
plain_finish (Finish number) none = absurd (false≢true (sym none))
plain_finish Announce none = refl
plain_finish Collect none = refl
plain_finish Pump none = refl
plain_finish (Lease p) none = refl
plain_finish (GiveBack p) none = refl

-- these are the kinds that hand nothing over
pub plain_kind : (s : Step) → ((x : ℕ) × (s ≡ Issue x)) ⊎ ((s ≡ Execute) ⊎ (((x : ℕ) × (s ≡ Resume x)) ⊎ ((s ≡ Announce) ⊎ ((s ≡ Collect) ⊎ (s ≡ Pump))))) → hands_over s ≡ false
plain_kind s (inl (x, is)) = ap hands_over is
plain_kind s (inr (inl is)) = ap hands_over is
plain_kind s (inr (inr (inl (x, is)))) = ap hands_over is
plain_kind s (inr (inr (inr (inl is)))) = ap hands_over is
plain_kind s (inr (inr (inr (inr (inl is))))) = ap hands_over is
plain_kind s (inr (inr (inr (inr (inr is))))) = ap hands_over is

-- ---- before the first line

pub opening_out : (script : ScriptLines) (w : WorldState) → IsOpening script w → HasNoneOut w
opening_out script w opens = record {
  jobs = ap (λ (d : DeviceState). d.jobs) opens.device;
  leases = none_mapped lease_out w.guest.processes no_process (λ n within. ap (λ (s : Status). lease_out (record (process_at w.guest n) { status = s })) (opens.guest.fresh n within).status);
}
