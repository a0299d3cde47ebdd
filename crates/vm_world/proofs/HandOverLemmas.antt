-- Lemmas on what goes out and comes back: it is the world's step, and what is on the link stays as it should be.
use Rattle.std.proofs.Common.{◌≡◌, ℕ, ◌<◌, ◌==◌, ◌&&◌, Bool, true, false, not, Option, Some, None, is_some, Result, Ok, Err, ◌-◌, ◌^◌, map, refl, sym, ap, ◌∙◌, subst, arith, inl, inr}
use Rattle.std.specs.List.{All, find}
use Rattle.std.specs.Prelude.{◌↔◌, OnOk, OnErr, IsOk, IsErr}
use Rattle.std.specs.Option.{option_map, option_map_or, option_and_then}
use Rattle.std.proofs.lemmas.Bool.{cases_eq}
use Rattle.std.proofs.lemmas.List.Elements.{All-weaker}
use Rattle.vm_job.specs.Job.{JobParts, DoneParts}
use Rattle.vm_job.specs.declared.done_job.Stranger.{Stranger}
use Rattle.vm_job.specs.declared.job_out.JobOut.{JobOut}
use Rattle.vm_job.specs.declared.spec.JobSpec.{JobSpec}
use Rattle.vm_link.specs.Queue.{Queues}
use Rattle.vm_lease.specs.Lease.{LeaseParts, CameBackDone}
use Rattle.vm_lease.specs.declared.lease_out.LeaseOut.{LeaseOut}
use Rattle.vm_log.specs.declared.leased.Leased.{Leased}
use Rattle.vm_device.specs.Device.{session_of, is_ready}
use Rattle.vm_script.specs.Script.{ScriptLines}
use Rattle.vm_host.specs.Host.{HostState, waits as waits_at}
use Rattle.vm_host.specs.Part.{call_of, part_of}
use Rattle.vm_host.specs.Steps.{Begins, BeginsUnless, Finishes}
use Rattle.vm_host.specs.declared.waiting.Waiting.{Waiting}
use Rattle.vm_guest.specs.Asking.{asked_by, is_leased}
use Rattle.vm_guest.specs.Guest.{GuestState, process_at, with_process}
use Rattle.vm_guest.specs.Process.{ProcessState, crossing, current, is_crossing, is_lent, is_lent_for, kept_by, lease_on, lease_out, leasing, next, current_call, some_if}
use Rattle.vm_guest.specs.Steps.{Leases, LeasesFor, given_back}
use Rattle.vm_log.specs.Answers.{IsDone as IsLeaseDone}
use Rattle.vm_guest.specs.Lines.{returned}
use Rattle.vm_guest.specs.declared.asked.Asked.{Asked}
use Rattle.vm_guest.specs.declared.asked.Statement.{Statement}
use Rattle.vm_guest.specs.declared.status.Status.{Status}
use Rattle.vm_guest.specs.declared.status.Status.TheVariants.{AtRest, Crossing, Blocked, Lent}
use Rattle.vm_guest.proofs.OrderlyLemmas.{at_other}
use Rattle.vm_guest.proofs.ProcessLemmas.{is_next, if_some, kept_is}
use Rattle.vm_realm.specs.Enabled.{waits}
use Rattle.vm_realm.specs.Laws.{StepsKeepSound}
use Rattle.vm_realm.specs.Sound.{IsSound}
use Rattle.vm_realm.specs.Steps.{DoesFinishWith}
use Rattle.vm_realm.specs.declared.step.Step.TheVariants.{Begin, Finish, Lease, GiveBack}
use Rattle.vm_realm.specs.World.{WorldState}
use Rattle.vm_world.specs.Calls.{BeginsJob, IsBackAsItWent, LeasesLine}
use Rattle.vm_world.specs.Carried.{IsPosted, IsBack, IsCarried, KeepsOut, world_of}
use Rattle.vm_world.proofs.KindLemmas.{few_statements}
use Rattle.vm_world.proofs.OfferLemmas.{waits_alike}
use Rattle.vm_world.proofs.UnderWayLemmas.{StaysUnderWay, posted_still, back_still}

-- ---- what is on the link

-- the device changed, and the calls that wait are the same
pub carried_device : (g : GuestState) (h h' : HostState) (queues : Queues) → h'.waiting ≡ h.waiting → IsCarried g h queues → IsCarried g h' queues
carried_device g h h' queues same carried = record {
  room = carried.room;
  posted = carried.posted;
  waiting = subst (All (λ (x : Waiting). IsPosted g x.parcel)) (sym same) carried.waiting;
  out = subst (KeepsOut queues.command.out) (sym same) carried.out;
  back = carried.back;
  free = carried.free;
  brought = carried.brought;
}

-- the driver changed, and each line that is on its way still is
pub carried_driver : (g g' : GuestState) (h : HostState) (queues : Queues) → ((n : ℕ) → StaysUnderWay g g' n) → IsCarried g h queues → IsCarried g' h queues
carried_driver g g' h queues stays carried = record {
  room = carried.room;
  posted = All-weaker (IsPosted g) (IsPosted g') (λ p is. posted_still g g' p (stays p.who) is) queues.command.waiting carried.posted;
  waiting = All-weaker (λ (x : Waiting). IsPosted g x.parcel) (λ (x : Waiting). IsPosted g' x.parcel) (λ x is. posted_still g g' x.parcel (stays x.parcel.who) is) h.waiting carried.waiting;
  out = carried.out;
  back = All-weaker (IsBack g) (IsBack g') (λ x is. back_still g g' x (stays x.finished.parcel.who) is) queues.command.done carried.back;
  free = carried.free;
  brought = carried.brought;
}

-- ---- Begin

begins_unless : (b : Bool) (script : ScriptLines) (session : ℕ) (g : GuestState) (h h' : HostState) (queues : Queues) (job : Option JobParts) → waits (part_of h) session ≡ b
    → BeginsUnless b session h job h' → BeginsJob session (world_of script g h queues) job (world_of script g h' queues) × (h'.waiting ≡ h.waiting)
begins_unless true script session g h h' queues None waiting does = (
  (ap (λ b. not b && is_ready (session_of h.device session)) waiting, ap (λ x. world_of script g x queues) does.1),
  ap (λ (x : HostState). x.waiting) does.1,
)
begins_unless true script session g h h' queues (Some job) waiting does = (let never = does.0 in cc)
begins_unless false script session g h h' queues None waiting does =
    let same : h' ≡ h = λ i. record { device = does.0.1 i; waiting = does.1 i } in (
      (ap (λ b. not b && is_ready (session_of h.device session)) waiting ∙ does.0.0, ap (λ x. world_of script g x queues) same),
      does.1,
    )
begins_unless false script session g h h' queues (Some job) waiting does = (
  (
    ap (λ b. not b && is_ready (session_of h.device session)) waiting ∙ does.0.0,
    (h'.device, does.0, ap (λ ws. record (world_of script g h' queues) { host = record { device = h'.device; calls = map call_of ws } }) does.1),
  ),
  does.1,
)

pub begins_over : (script : ScriptLines) (session : ℕ) (g : GuestState) (h h' : HostState) (queues : Queues) (job : Option JobParts) → IsCarried g h queues → Begins session h job h'
    → BeginsJob session (world_of script g h queues) job (world_of script g h' queues) × IsCarried g h' queues
begins_over script session g h h' queues job carried begins =
    let does = begins_unless (waits_at h session) script session g h h' queues job (waits_alike h session) begins in
    (does.0, carried_device g h h' queues does.1 carried)

-- ---- Finish

entry_found : (o : Option JobOut) (spec : JobSpec) → option_map (λ (e : JobOut). e.spec) o ≡ Some spec → (entry : JobOut) × (o ≡ Some entry) × (entry.spec ≡ spec)
entry_found None spec is = cc
entry_found (Some entry) spec is = (entry, refl, cc)

pub finishes_over : (script : ScriptLines) (g : GuestState) (h h' : HostState) (queues : Queues) (done : DoneParts) → IsCarried g h queues → IsBackAsItWent done (world_of script g h queues)
    → Finishes h done h' → DoesFinishWith done done.job.spec.number (world_of script g h queues) (world_of script g h' queues) × IsCarried g h' queues
finishes_over script g h h' queues done carried back finishes =
    let number : ℕ = done.job.spec.number in
    let out = entry_found (find (λ (e : JobOut). e.spec.number == number) h.device.jobs) done.job.spec finishes.0.1 in (
      (
        out.0,
        h'.device,
        out.1,
        back out.0 out.1 out.2,
        finishes.0,
        ap (λ ws. record (world_of script g h' queues) { host = record { device = h'.device; calls = map call_of ws } }) finishes.1,
      ),
      carried_device g h h' queues finishes.1 carried,
    )

-- ---- Lease

-- a line of a process that has none on its way
stays_other : (g : GuestState) (n m : ℕ) (p : ProcessState) → ((t : Statement) → ¬ (crossing (process_at g n) ≡ Some t)) → StaysUnderWay g (with_process g n p) m
stays_other g n m p none t crosses = elim (cases_eq m n) [
  | inl same ↦ absurd (none t (ap (λ k. crossing (process_at g k)) (sym same) ∙ crosses))
  | inr other ↦ ap crossing (at_other g.processes n m p other) ∙ crosses
]

never_crosses : (p : ProcessState) (status : Status) → p.status ≡ status → is_crossing status ≡ false → (t : Statement) → ¬ (crossing p ≡ Some t)
never_crosses p status is none t crosses =
    let on = (if_some (is_crossing p.status) (current p) t crosses).0 in
    let never : true ≡ false = sym on ∙ (ap is_crossing is ∙ none) in
    cc

leased_next : (p : ProcessState) (o : Option Statement) (a : Asked) → kept_by is_leased (next p) ≡ o → option_and_then asked_by o ≡ Some a → (s : Statement) × (next p ≡ Some s)
leased_next p None a is asked = cc
leased_next p (Some s) a is asked = (s, (kept_is is_leased (next p) s is).0)

lease_rests : (p : ProcessState) (a : Asked) → leasing p ≡ Some a → p.status ≡ AtRest
lease_rests p a is = (let s = leased_next p (kept_by is_leased (next p)) a refl is in (is_next p s.0 s.1).rests)

pub leases_over : (script : ScriptLines) (n : ℕ) (g g' : GuestState) (h : HostState) (queues : Queues) (leased : Leased) → IsCarried g h queues → Leases n g leased g'
    → LeasesLine n (world_of script g h queues) leased (world_of script g' h queues) × IsCarried g' h queues
leases_over script n g g' h queues leased carried leases = ((g', leases, refl), by_line (leasing (process_at g n)) refl leases)
  where
    by_line : (o : Option Asked) → leasing (process_at g n) ≡ o → LeasesFor o n g leased g' → IsCarried g' h queues
    by_line None at does = subst (λ x. IsCarried x h queues) (sym does.1) carried
    by_line (Some a) at does =
        subst (λ x. IsCarried x h queues) (sym does.2)
        (carried_driver g (with_process g n does.0) h queues (λ m. stays_other g n m does.0 (never_crosses (process_at g n) AtRest (lease_rests (process_at g n) a at) refl)) carried)

-- ---- GiveBack

lent_is : (s : Status) → is_lent s ≡ true → is_crossing s ≡ false
lent_is Lent is = refl
lent_is AtRest is = cc
lent_is Crossing is = cc
lent_is Blocked is = cc

lent_some : (o : Option LeaseOut) (line : ℕ) → option_map_or (λ entry. entry.line == line) o false ≡ true → is_some o ≡ true
lent_some None line is = is
lent_some (Some entry) line is = refl

lent_never : (b : Bool) (o : Option LeaseOut) → is_some (some_if b o) ≡ true → b ≡ true
lent_never true o is = refl
lent_never false o is = is

pub gives_back_over : (n : ℕ) (g : GuestState) (h : HostState) (queues : Queues) (lease : LeaseParts) → IsCarried g h queues → is_lent_for (process_at g n) lease.line ≡ true
    → IsCarried (given_back n g lease) h queues
gives_back_over n g h queues lease carried lent =
    let p : ProcessState = process_at g n in
    let out = lent_never (is_lent p.status) (lease_on p (current_call p)) (lent_some (lease_out p) lease.line lent) in
    carried_driver g (given_back n g lease) h queues (λ m. stays_other g n m (returned p lease) (never_crosses p p.status refl (lent_is p.status out))) carried

-- ---- the world is sound then

pub few_begun : (w : WorldState) → IsSound w → w.host.device.begun < 2 ^ 64 - 1
few_begun w sound = (let all = few_statements w.script sound.1.script in let left = sound.1.within.jobs in omega (arith, all, left))

-- both hold of the ends and the link
abbrev pub IsKept : ScriptLines → GuestState → HostState → Queues → Type 0
IsKept script g h queues = IsSound (world_of script g h queues) × IsCarried g h queues

begun_sound : StepsKeepSound → (session : ℕ) (w w' : WorldState) (job : Option JobParts) → IsSound w → BeginsJob session w job w' → IsSound w'
begun_sound keeps session w w' None sound begins = subst IsSound (sym begins.1) sound
begun_sound keeps session w w' (Some job) sound begins =
    keeps w w' (Begin session) sound (begins.0, (job, begins.1.0, begins.1.1, begins.1.2))

pub begins_keeps : StepsKeepSound → (script : ScriptLines) (session : ℕ) (g : GuestState) (h h' : HostState) (queues : Queues) (job : Option JobParts) → IsKept script g h queues
    → Begins session h job h' → IsKept script g h' queues
begins_keeps keeps script session g h h' queues job kept begins =
    let does = begins_over script session g h h' queues job kept.1 begins in
    (begun_sound keeps session (world_of script g h queues) (world_of script g h' queues) job kept.0 does.0, does.1)

may_finish : (o : Option JobOut) (entry : JobOut) → o ≡ Some entry → is_some (option_map (λ (e : JobOut). e.spec) o) ≡ true
may_finish o entry is = ap (λ (x : Option JobOut). is_some (option_map (λ (e : JobOut). e.spec) x)) is

pub finishes_keeps : StepsKeepSound → (script : ScriptLines) (g : GuestState) (h h' : HostState) (queues : Queues) (done : DoneParts) (r : Result (Unit {0}) Stranger)
    → IsKept script g h queues → IsBackAsItWent done (world_of script g h queues) → OnOk r (Finishes h done h') → OnErr r (h' ≡ h) → IsKept script g h' queues
finishes_keeps keeps script g h h' queues done (Ok x) kept back ok err =
    let does = finishes_over script g h h' queues done kept.1 back ok in
    let w : WorldState = world_of script g h queues in
    let number : ℕ = done.job.spec.number in
    let may = may_finish (find (λ (e : JobOut). e.spec.number == number) h.device.jobs) does.0.0 does.0.2 in
    (keeps w (world_of script g h' queues) (Finish number) kept.0 (may, (done, does.0)), does.1)
finishes_keeps keeps script g h h' queues done (Err s) kept back ok err = subst (λ x. IsKept script g x queues) (sym err) kept

pub finished_with : (script : ScriptLines) (g : GuestState) (h h' : HostState) (queues : Queues) (w : WorldState) (done : DoneParts) (r : Result (Unit {0}) Stranger) → world_of script g h queues ≡ w
    → IsCarried g h queues → IsBackAsItWent done w → OnOk r (Finishes h done h') → OnOk r (DoesFinishWith done done.job.spec.number w (world_of script g h' queues))
finished_with script g h h' queues w done (Ok x) same carried back ok =
    subst (λ v. DoesFinishWith done done.job.spec.number v (world_of script g h' queues)) same
    (finishes_over script g h h' queues done carried (subst (IsBackAsItWent done) (sym same) back) ok).0
finished_with script g h h' queues w done (Err s) same carried back ok = tt

pub leases_keeps : StepsKeepSound → (script : ScriptLines) (n : ℕ) (g g' : GuestState) (h : HostState) (queues : Queues) (leased : Leased) → IsKept script g h queues
    → Leases n g leased g' → IsKept script g' h queues
leases_keeps keeps script n g g' h queues leased kept leases = (by_line (leasing (process_at g n)) refl leases, (leases_over script n g g' h queues leased kept.1 leases).1)
  where
    by_line : (o : Option Asked) → leasing (process_at g n) ≡ o → LeasesFor o n g leased g' → IsSound (world_of script g' h queues)
    by_line None at does = subst (λ x. IsSound (world_of script x h queues)) (sym does.1) kept.0
    by_line (Some a) at does =
        keeps (world_of script g h queues) (world_of script g' h queues) (Lease n) kept.0 (ap is_some at, (leased, g', leases, refl))

lent_out : (o : Option LeaseOut) (lease : LeaseParts) → option_map_or (λ (entry : LeaseOut). entry.line == lease.line) o false ≡ true → IsLeaseDone o lease
    → (entry : LeaseOut) × (o ≡ Some entry) × CameBackDone entry lease
lent_out None lease is done = cc
lent_out (Some entry) lease is done = (entry, refl, done)

lent_or : (b : Bool) (r : Result (Unit {0}) LeaseParts) → (IsErr r ↔ (b ≡ false)) → IsOk r → b ≡ true
lent_or true r other ok = refl
lent_or false (Ok x) other ok = (let never = other.1 refl in cc)
lent_or false (Err l) other ok = cc

pub gives_back_keeps : StepsKeepSound → (script : ScriptLines) (n : ℕ) (g g' : GuestState) (h : HostState) (queues : Queues) (lease : LeaseParts)
    (r : Result (Unit {0}) LeaseParts) → IsKept script g h queues → (is_lent_for (process_at g n) lease.line ≡ true → IsLeaseDone (lease_out (process_at g n)) lease)
    → (IsErr r ↔ (is_lent_for (process_at g n) lease.line ≡ false)) → OnOk r (g' ≡ given_back n g lease) → OnErr r (g' ≡ g) → IsKept script g' h queues
gives_back_keeps keeps script n g g' h queues lease (Ok x) kept back other ok err =
    let lent = lent_or (is_lent_for (process_at g n) lease.line) (Ok x) other refl in
    let out = lent_out (lease_out (process_at g n)) lease lent (back lent) in
    let w : WorldState = world_of script g h queues in
    let w' : WorldState = world_of script (given_back n g lease) h queues in
    let sound : IsSound w' = keeps w w' (GiveBack n) kept.0 (ap is_some out.1, (out.0, lease, out.1, out.2, refl)) in
    subst (λ y. IsKept script y h queues) (sym ok) (sound, gives_back_over n g h queues lease kept.1 lent)
gives_back_keeps keeps script n g g' h queues lease (Err l) kept back other ok err = subst (λ y. IsKept script y h queues) (sym err) kept
