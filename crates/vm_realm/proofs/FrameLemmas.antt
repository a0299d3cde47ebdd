-- Frames: what a step leaves as it is of the slices of other handles.
use Rattle.std.proofs.Common.{◌≡◌, ℕ, ◌<◌, Bool, true, false, not, List, [], ◌∷◌, ◌++◌, Option, Some, None, is_some, length, get_or, set, refl, sym, ap, ◌∙◌, subst, inl, inr, eqb, cond}
use Rattle.std.specs.Prelude.{slice_get}
use Rattle.std.specs.List.{filter, find}
use Rattle.std.specs.Option.{option_map, option_and_then}
use Rattle.std.proofs.lemmas.Bool.{false≢true, cases_Bool, cases_lt, cond-true, cond-false, eq-eqb, ne_eqb, eqb-true}
use Rattle.std.proofs.lemmas.List.{append-nil, get_or_past, get_or-set_same, get_or-set_other}
use Rattle.std.proofs.lemmas.List.Elements.{filter-append}
use Rattle.std.proofs.lemmas.Option.{none-some, slice_get-get_or}
use Rattle.vm_job.specs.Entry.{parts_of}
use Rattle.vm_job.specs.declared.job_out.JobOut.{JobOut}
use Rattle.vm_wire.specs.declared.delivery.Delivery.{Delivery}
use Rattle.vm_handle.specs.Handle.{HandleState}
use Rattle.vm_session.specs.State.{SessionState}
use Rattle.vm_device.specs.Device.{DeviceState}
use Rattle.vm_guest.specs.Guest.{GuestState, no_process, process_at, handle_named}
use Rattle.vm_guest.specs.Process.{ProcessState, handle_at, no_handle}
use Rattle.vm_realm.specs.World.{WorldState, jobs_out}
use Rattle.vm_realm.specs.Slice.{Out, id_ahead, session_in, job_in, events_for, out_at, slice_with, slice_at}
use Rattle.vm_realm.specs.Slice.Out.{Nowhere, Asked, Kept, Told, Astray}
use Rattle.vm_realm.specs.Sound.{IsHandle, id_at}

-- ---- a slice is the same where its parts are

pub record SameParts (w w' : WorldState) (n h : ℕ) : Type 0 where
  pub handle : handle_at (process_at w'.guest n) h ≡ handle_at (process_at w.guest n) h
  pub out : out_at w' n h ≡ out_at w n h
  pub held : events_for (id_at w n h) w'.guest.pump.held ≡ events_for (id_at w n h) w.guest.pump.held
  pub events : events_for (id_at w n h) w'.events ≡ events_for (id_at w n h) w.events
  pub session : session_in w'.host.device (id_at w n h) ≡ session_in w.host.device (id_at w n h)
  pub job : job_in (jobs_out w') (id_at w n h) ≡ job_in (jobs_out w) (id_at w n h)

pub same_slice : (w w' : WorldState) (n h : ℕ) → SameParts w w' n h → slice_at w' n h ≡ slice_at w n h
same_slice w w' n h s =
    let first : slice_at w' n h ≡ slice_with w' n (handle_at (process_at w.guest n) h) (out_at w n h) = λ j. slice_with w' n (s.handle j) (s.out j) in
    first ∙ (λ j. record {
      who = n;
      handle = handle_at (process_at w.guest n) h;
      out = out_at w n h;
      held = s.held j;
      events = s.events j;
      session = s.session j;
      job = s.job j;
    })

-- ---- events of one session

is_own : Delivery → ℕ → Bool
is_own d i = eqb d.session i

event_behind : (i : ℕ) (ds : List Delivery) (d : Delivery) → events_for (Some i) (ds ++ d ∷ []) ≡ events_for (Some i) ds ++ cond (eqb d.session i) (d ∷ []) []
event_behind i ds d = filter-append (λ (x : Delivery). eqb x.session i) ds (d ∷ [])

-- one more event of a session isn't for others
pub other_behind : (id : Option ℕ) (ds : List Delivery) (d : Delivery) → ¬ (id ≡ Some d.session) → events_for id (ds ++ d ∷ []) ≡ events_for id ds
other_behind None ds d other = refl
other_behind (Some i) ds d other =
    event_behind i ds d
    ∙ (ap (λ xs. events_for (Some i) ds ++ xs) (cond-false (eqb d.session i) (d ∷ []) [] (ne_eqb d.session i (λ same. other (ap Some (sym same)))))
    ∙ append-nil (events_for (Some i) ds))

pub own_behind : (id : Option ℕ) (ds : List Delivery) (d : Delivery) → id ≡ Some d.session → events_for id (ds ++ d ∷ []) ≡ events_for id ds ++ d ∷ []
own_behind id ds d own =
    subst (λ o. events_for o (ds ++ d ∷ []) ≡ events_for o ds ++ d ∷ []) (sym own)
    (event_behind d.session ds d ∙ ap (λ xs. events_for (Some d.session) ds ++ xs) (cond-true (eqb d.session d.session) (d ∷ []) [] (eq-eqb d.session d.session refl)))

pub other_first : (id : Option ℕ) (ds : List Delivery) (d : Delivery) → ¬ (id ≡ Some d.session) → events_for id (d ∷ ds) ≡ events_for id ds
other_first None ds d other = refl
other_first (Some i) ds d other =
    cond-false (eqb d.session i) (d ∷ events_for (Some i) ds) (events_for (Some i) ds) (ne_eqb d.session i (λ same. other (ap Some (sym same))))

pub own_first : (id : Option ℕ) (ds : List Delivery) (d : Delivery) → id ≡ Some d.session → events_for id (d ∷ ds) ≡ d ∷ events_for id ds
own_first id ds d own =
    subst (λ o. events_for o (d ∷ ds) ≡ d ∷ events_for o ds) (sym own)
    (cond-true (eqb d.session d.session) (d ∷ events_for (Some d.session) ds) (events_for (Some d.session) ds) (eq-eqb d.session d.session refl))

-- ---- one session

pub other_session : (d d' : DeviceState) (id : Option ℕ) (k : ℕ) (o : Option SessionState) → d'.sessions ≡ set d.sessions k o → ¬ (id ≡ Some k) → session_in d' id ≡ session_in d id
other_session d d' None k o same other = refl
other_session d d' (Some i) k o same other = ap (λ ss. get_or ss i None) same ∙ get_or-set_other d.sessions k i o None (λ is. other (ap Some is))

pub own_session : (d d' : DeviceState) (id : Option ℕ) (k : ℕ) (o : Option SessionState) → d'.sessions ≡ set d.sessions k o → id ≡ Some k → k < length d.sessions → session_in d' id ≡ o
own_session d d' id k o same own within =
    subst (λ i. session_in d' i ≡ o) (sym own) (ap (λ ss. get_or ss k None) same ∙ get_or-set_same d.sessions k o None within)

-- ---- one job

find_behind : {A : Type 0} (p : A → Bool) (xs : List A) (y : A) → p y ≡ false → find p (xs ++ y ∷ []) ≡ find p xs
find_behind p [] y fails = cond-false (p y) (Some y) None fails
find_behind p (x ∷ xs) y fails = ap (λ o. cond (p x) (Some x) o) (find_behind p xs y fails)

find_new : {A : Type 0} (p : A → Bool) (xs : List A) (y : A) → p y ≡ true → find p xs ≡ None → find p (xs ++ y ∷ []) ≡ Some y
find_new p [] y passes none = cond-true (p y) (Some y) None passes
find_new p (x ∷ xs) y passes none = elim (cases_Bool (p x)) [
  | inl here ↦ absurd (none-some x (sym none ∙ cond-true (p x) (Some x) (find p xs) here))
  | inr later ↦ cond-false (p x) (Some x) (find p (xs ++ y ∷ [])) later ∙ find_new p xs y passes (sym (cond-false (p x) (Some x) (find p xs) later) ∙ none)
]

-- what fails a filter's test, fails another one
find_kept : {A : Type 0} (p q : A → Bool) → ((x : A) → p x ≡ true → q x ≡ true) → (xs : List A) → find p (filter q xs) ≡ find p xs
find_kept p q keeps [] = refl
find_kept p q keeps (x ∷ xs) = elim (cases_Bool (q x)) [
  | inl stays ↦ ap (find p) (cond-true (q x) (x ∷ filter q xs) (filter q xs) stays) ∙ ap (λ o. cond (p x) (Some x) o) (find_kept p q keeps xs)
  | inr goes ↦ ap (find p) (cond-false (q x) (x ∷ filter q xs) (filter q xs) goes)
      ∙ (find_kept p q keeps xs ∙ sym (cond-false (p x) (Some x) (find p xs) (fails goes)))
]
  where
    fails : q x ≡ false → p x ≡ false
    fails goes = elim (cases_Bool (p x)) [ inl passes ↦ absurd (false≢true (sym goes ∙ keeps x passes)) | inr missed ↦ missed ]

find_gone : {A : Type 0} (p q : A → Bool) → ((x : A) → p x ≡ true → q x ≡ false) → (xs : List A) → find p (filter q xs) ≡ None
find_gone p q drops [] = refl
find_gone p q drops (x ∷ xs) = elim (cases_Bool (q x)) [
  | inl stays ↦ ap (find p) (cond-true (q x) (x ∷ filter q xs) (filter q xs) stays) ∙ (cond-false (p x) (Some x) (find p (filter q xs)) (fails stays) ∙ find_gone p q drops xs)
  | inr goes ↦ ap (find p) (cond-false (q x) (x ∷ filter q xs) (filter q xs) goes) ∙ find_gone p q drops xs
]
  where
    fails : q x ≡ true → p x ≡ false
    fails stays = elim (cases_Bool (p x)) [ inl passes ↦ absurd (false≢true (sym (drops x passes) ∙ stays)) | inr missed ↦ missed ]

pub other_begun : (jobs : List JobOut) (id : Option ℕ) (e : JobOut) → ¬ (id ≡ Some e.spec.session) → job_in (jobs ++ e ∷ []) id ≡ job_in jobs id
other_begun jobs None e other = refl
other_begun jobs (Some i) e other =
    ap (option_map parts_of) (find_behind (λ (x : JobOut). eqb x.spec.session i) jobs e (ne_eqb e.spec.session i (λ same. other (ap Some (sym same)))))

pub own_begun : (jobs : List JobOut) (id : Option ℕ) (e : JobOut) → id ≡ Some e.spec.session → job_in jobs id ≡ None → job_in (jobs ++ e ∷ []) id ≡ Some (parts_of e)
own_begun jobs None e own none = absurd (none-some e.spec.session own)
own_begun jobs (Some i) e own none =
    ap (option_map parts_of) (find_new (λ (x : JobOut). eqb x.spec.session i) jobs e (eq-eqb e.spec.session i (some_number i e.spec.session own)) (nothing (find (λ (x : JobOut). eqb x.spec.session i) jobs) none))
  where
    some_number : (i k : ℕ) → Some i ≡ Some k → k ≡ i
    some_number i k same = cc

    nothing : (o : Option JobOut) → option_map parts_of o ≡ None → o ≡ None
    nothing None none = refl
    nothing (Some x) none = absurd (none-some (parts_of x) (sym none))

pub other_done : (jobs : List JobOut) (id : Option ℕ) (k : ℕ) → ¬ (id ≡ Some k) → job_in (filter (λ e. not (eqb e.spec.session k)) jobs) id ≡ job_in jobs id
other_done jobs None k other = refl
other_done jobs (Some i) k other =
    ap (option_map parts_of) (find_kept (λ (x : JobOut). eqb x.spec.session i) (λ (x : JobOut). not (eqb x.spec.session k))
    (λ x is. ap not (ne_eqb x.spec.session k (λ same. other (ap Some (sym (eqb-true x.spec.session i is) ∙ same))))) jobs)

pub own_done : (jobs : List JobOut) (id : Option ℕ) (k : ℕ) → id ≡ Some k → job_in (filter (λ e. not (eqb e.spec.session k)) jobs) id ≡ None
own_done jobs id k own =
    subst (λ o. job_in (filter (λ e. not (eqb e.spec.session k)) jobs) o ≡ None) (sym own)
    (ap (option_map parts_of) (find_gone (λ (x : JobOut). eqb x.spec.session k) (λ (x : JobOut). not (eqb x.spec.session k)) (λ x is. ap not is) jobs))

-- ---- what has an id is a handle

no_id : (out : Out) → id_ahead no_handle out ≡ None
no_id Nowhere = refl
no_id (Asked m) = refl
no_id (Kept m) = refl
no_id (Told r) = refl
no_id Astray = refl

pub missing : (g : GuestState) (n h : ℕ) → handle_named g n h ≡ None → handle_at (process_at g n) h ≡ no_handle
missing g n h none = elim (cases_lt n (length g.processes)) [
  | inl within ↦ of_process (sym (ap (λ o. option_and_then (λ (p : ProcessState). slice_get p.handles h) o) (slice_get-get_or g.processes n no_process within)) ∙ none)
  | inr past ↦ ap (λ (p : ProcessState). handle_at p h) (get_or_past g.processes n no_process past)
]
  where
    of_process : slice_get (process_at g n).handles h ≡ None → handle_at (process_at g n) h ≡ no_handle
    of_process none = elim (cases_lt h (length (process_at g n).handles)) [
      | inl within ↦ absurd (none-some (get_or (process_at g n).handles h no_handle) (sym none ∙ slice_get-get_or (process_at g n).handles h no_handle within))
      | inr past ↦ get_or_past (process_at g n).handles h no_handle past
    ]

pub has_handle : (w : WorldState) (n h k : ℕ) → id_at w n h ≡ Some k → IsHandle w n h
has_handle w n h k is = by_name (handle_named w.guest n h) refl
  where
    by_name : (o : Option HandleState) → handle_named w.guest n h ≡ o → is_some (handle_named w.guest n h) ≡ true
    by_name (Some x) named = ap is_some named
    by_name None named = absurd (none-some k (sym (ap (λ x. id_ahead x (out_at w n h)) (missing w.guest n h named) ∙ no_id (out_at w n h)) ∙ is))

-- a place of a process that is there names a handle
pub handle_there : (g : GuestState) (n h : ℕ) → n < length g.processes → h < length (process_at g n).handles → is_some (handle_named g n h) ≡ true
handle_there g n h within there =
    ap is_some (ap (λ o. option_and_then (λ (p : ProcessState). slice_get p.handles h) o) (slice_get-get_or g.processes n no_process within) ∙ slice_get-get_or (process_at g n).handles h no_handle there)
