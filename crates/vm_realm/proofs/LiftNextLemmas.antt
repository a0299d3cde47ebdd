-- What a step does to what is behind the slices: it moves one handle, whose slice stays sound, or none.
use Rattle.std.proofs.Common.{◌≡◌, ◌⊎◌, ℕ, ◌<◌, Bool, true, false, List, [], ◌∷◌, ◌++◌, Option, Some, None, length, is_some, refl, sym, ap, ◌∙◌, subst, inl, inr, if◌then◌else◌}
use Rattle.std.proofs.lemmas.Bool.{false≢true, eqb-true}
use Rattle.std.proofs.lemmas.Option.{none-some, option_and_then_some}
use Rattle.std.specs.Prelude.{Ok, Err}
use Rattle.vm_wire.specs.declared.delivery.Delivery.{Delivery}
use Rattle.vm_wire.specs.Message.{Ask, Posting, Returning}
use Rattle.vm_wire.specs.Message.Ask.{Unusable, Judged}
use Rattle.vm_wire.specs.declared.command.Command.{Command}
use Rattle.vm_script.specs.declared.line.LineKind.{LineKind}
use Rattle.vm_script.specs.declared.line.LineKind.TheVariants.{OnHandle, Raw}
use Rattle.vm_script.specs.declared.line.RawChain.{RawChain}
use Rattle.vm_session.specs.State.{SessionState}
use Rattle.vm_device.specs.Perform.{must_wait}
use Rattle.vm_host.specs.Part.{Part, ExecutedCommand, ExecutedAsk, Executed}
use Rattle.vm_guest.specs.Asking.{asked_by}
use Rattle.vm_guest.specs.Guest.{no_process, process_at, handle_named}
use Rattle.vm_guest.specs.Orderly.{IsDriver}
use Rattle.vm_guest.specs.Process.{ProcessState, is_crossing, some_if, current, current_call, crossing_call}
use Rattle.vm_guest.specs.Raw.{raw_ask}
use Rattle.vm_guest.specs.declared.asked.Asked.{Asked as AskedCall}
use Rattle.vm_realm.specs.declared.step.Step.{Step}
use Rattle.vm_realm.specs.declared.step.Step.TheVariants.{Issue, Execute, Resume, Begin, Finish, Announce, Collect, Pump, Lease, GiveBack}
use Rattle.vm_realm.specs.World.{WorldState}
use Rattle.vm_realm.specs.Inner.{Inner}
use Rattle.vm_realm.specs.Laws.{GoesOnSoundly, StepKeepsSlice}
use Rattle.vm_realm.specs.Steps.{Steps, after_device}
use Rattle.vm_realm.specs.Slice.{Out, session_in, events_for, out_of, is_on, out_at, slice_at, SameElsewhere, SameEverywhere}
use Rattle.vm_realm.specs.Slice.Out.{Nowhere, Asked, Kept, Told}
use Rattle.vm_realm.specs.SliceSteps.{SliceDoes, MovesOne, TakesNone}
use Rattle.vm_realm.specs.Sound.{IsRefused, NamesNone, IsSoundSlice, IsSoundBy, IsHandle, IsWhole, id_at, inner_at}
use Rattle.vm_realm.proofs.SumLemmas.{place_within}
use Rattle.vm_realm.proofs.FrameLemmas.{has_handle, handle_there}
use Rattle.vm_realm.proofs.MoveLemmas.{announce_moves, begin_moves, finish_moves}
use Rattle.vm_realm.proofs.LendLemmas.{call_there, lease_moves, give_back_moves}
use Rattle.vm_realm.proofs.GrowLemmas.{script_stays}
use Rattle.vm_realm.proofs.IssueLemmas.{issue_moves}
use Rattle.vm_realm.proofs.TakeLemmas.{pump_moves}
use Rattle.vm_realm.proofs.CollectLemmas.{collect_moves}
use Rattle.vm_realm.proofs.SessionLemmas.{refused_leaves, refused_goes, few_sessions}
use Rattle.vm_realm.proofs.CommandLemmas.{IsFirstAsked, asked_first, IsHandleAsked, handle_asked, raw_refused, raw_posted, raw_ask_done, execute_command, resume_moves}
use Rattle.vm_realm.proofs.LiftLemmas.{table_of, table_inner, rows_with, handles_stay, slices_lift}
use Rattle.vm_realm.proofs.AfterLemmas.{is_issued, is_collected, is_leased_to, is_given_back, IsExecuted, is_executed}
use Rattle.vm_realm.proofs.KeepTakeLemmas.{taking_keeps}
use Rattle.vm_realm.proofs.KeepFrameLemmas.{announce_keeps, begin_keeps, finish_keeps}
use Rattle.vm_realm.proofs.KeepLendLemmas.{lease_keeps, give_back_keeps}
use Rattle.vm_realm.proofs.KeepIssueLemmas.{issue_keeps}
use Rattle.vm_realm.proofs.KeepCollectLemmas.{collect_keeps}
use Rattle.vm_realm.proofs.KeepCallLemmas.{execute_keeps, resume_keeps}

-- the step moved this handle, and its slice is sound with this behind it
pub record Moved (s : Step) (w u : WorldState) (rows : List (List Inner)) : Type 0 where
  pub process : ℕ
  pub handle : ℕ
  pub named : IsHandle w process handle
  pub does : SliceDoes s (slice_at w process handle) (slice_at u process handle)
  pub others : SameElsewhere process handle w u
  pub inner : Inner
  pub sound : IsSoundSlice (slice_at u process handle) inner
  pub more : List ℕ
  pub frames : inner.frames ≡ (inner_at w rows process handle).frames ++ more

-- it moved no handle
pub record Stayed (w u : WorldState) : Type 0 where
  pub slices : (n h : ℕ) → IsHandle u n h → slice_at u n h ≡ slice_at w n h
  pub device : u.host.device ≡ w.host.device

abbrev pub Lifts : Step → WorldState → WorldState → List (List Inner) → Type 0
Lifts s w u rows = Moved s w u rows ⊎ Stayed w u

-- what is behind the slices then
abbrev pub rows_next : (s : Step) (w u : WorldState) (rows : List (List Inner)) → Lifts s w u rows → List (List Inner)
rows_next s w u rows (inl m) = rows_with w u rows m.process m.handle m.inner
rows_next s w u rows (inr stays) = table_of (inner_at w rows) 0 u.guest.processes

-- each slice is sound with it
pub lifted_slices : (s : Step) (w u : WorldState) (rows : List (List Inner)) → IsSoundBy w rows → IsDriver w.script u.guest → (l : Lifts s w u rows) → (n h : ℕ) → IsHandle u n h →
    IsSoundSlice (slice_at u n h) (inner_at u (rows_next s w u rows l) n h)
lifted_slices s w u rows sound driver (inl m) n h named =
    slices_lift w u rows m.process m.handle m.inner sound.slices (handles_stay w.script w u sound.lines driver) m.others m.sound n h named
lifted_slices s w u rows sound driver (inr stays) n h named =
    subst (IsSoundSlice (slice_at u n h)) (sym (table_inner u (inner_at w rows) n h named))
    (subst (λ x. IsSoundSlice x (inner_at w rows n h)) (sym (stays.slices n h named)) (sound.slices n h (handles_stay w.script w u sound.lines driver n h named)))

-- ---- the handle that moves is one of the script's

on_whose : (b : Bool) (o : Option AskedCall) (h : ℕ) → is_on (some_if b o) h ≡ true → (b ≡ true) × ((a : AskedCall) × (o ≡ Some a) × (a.handle ≡ h))
on_whose false o h on = absurd (false≢true on)
on_whose true None h on = absurd (false≢true on)
on_whose true (Some a) h on = (refl, (a, refl, eqb-true a.handle h on))

on_named : (w : WorldState) (rows : List (List Inner)) (n h : ℕ) → IsSoundBy w rows → is_on (crossing_call (process_at w.guest n)) h ≡ true → IsHandle w n h
on_named w rows n h sound on =
    let p : ProcessState = process_at w.guest n in
    let whose : _ = on_whose (is_crossing p.status) (current_call p) h on in
    let a : AskedCall = whose.1.0 in
    let within : n < length w.guest.processes = place_within (λ (y : ProcessState). is_crossing y.status) w.guest.processes n no_process refl whose.0 in
    option_and_then_some asked_by (current p) a whose.1.1 (λ s now asked.
    handle_there w.guest n h within (subst (λ k. k < length p.handles) whose.1.2 (call_there w n s a sound.lines within now asked)))

-- so is one whose call is out
out_named : (w : WorldState) (rows : List (List Inner)) (n h : ℕ) → IsSoundBy w rows → ¬ (out_at w n h ≡ Nowhere) → IsHandle w n h
out_named w rows n h sound out = by_on (is_on (crossing_call (process_at w.guest n)) h) refl
  where
    by_on : (b : Bool) → is_on (crossing_call (process_at w.guest n)) h ≡ b → IsHandle w n h
    by_on true on = on_named w rows n h sound on
    by_on false off = absurd (out (ap (λ b. if b then out_of w n else Nowhere) off))

asked_somewhere : (o : Out) (m : Posting) → o ≡ Asked m → ¬ (o ≡ Nowhere)
asked_somewhere o m is none = not_asked m (sym is ∙ none)
  where
    not_asked : (m : Posting) → Asked m ≡ Nowhere → ⊥
    not_asked m is = cc

kept_somewhere : (o : Out) (m : Posting) → o ≡ Kept m → ¬ (o ≡ Nowhere)
kept_somewhere o m is none = not_kept m (sym is ∙ none)
  where
    not_kept : (m : Posting) → Kept m ≡ Nowhere → ⊥
    not_kept m is = cc

told_somewhere : (o : Out) (r : Returning) → o ≡ Told r → ¬ (o ≡ Nowhere)
told_somewhere o r is none = not_told r (sym is ∙ none)
  where
    not_told : (r : Returning) → Told r ≡ Nowhere → ⊥
    not_told r is = cc

-- one that has a session
session_named : (w : WorldState) (n h : ℕ) (s : SessionState) → (slice_at w n h).session ≡ Some s → IsHandle w n h
session_named w n h s is = by_id (id_at w n h) refl
  where
    by_id : (o : Option ℕ) → id_at w n h ≡ o → IsHandle w n h
    by_id None own = absurd (none-some s (sym (ap (session_in w.host.device) own) ∙ is))
    by_id (Some k) own = has_handle w n h k own

-- and one that has an event
event_named : (w : WorldState) (n h : ℕ) (d : Delivery) (ds : List Delivery) → (slice_at w n h).events ≡ d ∷ ds → IsHandle w n h
event_named w n h d ds is = by_id (id_at w n h) refl
  where
    not_cons : [] ≡ d ∷ ds → ⊥
    not_cons same = cc

    by_id : (o : Option ℕ) → id_at w n h ≡ o → IsHandle w n h
    by_id None own = absurd (not_cons (sym (ap (λ id. events_for id w.events) own) ∙ is))
    by_id (Some k) own = has_handle w n h k own

-- ---- one handle moves

moved_one : (s : Step) (w u : WorldState) (rows : List (List Inner)) → IsSoundBy w rows → IsDriver w.script u.guest → IsWhole u → StepKeepsSlice s → (m : MovesOne s w u) → IsHandle w m.process m.handle → Moved s w u rows
moved_one s w u rows sound driver whole keeps m named =
    let n : ℕ = m.process in
    let h : ℕ = m.handle in
    let v : Inner = inner_at w rows n h in
    let goes : GoesOnSoundly (slice_at u n h) v =
    keeps (slice_at w n h) (slice_at u n h) v (sound.slices n h named) m.does (whole.slices n h (handles_stay w.script u w driver sound.lines n h named)) in
    record {
      process = n;
      handle = h;
      named = named;
      does = m.does;
      others = m.others;
      inner = goes.0;
      sound = goes.3;
      more = goes.1;
      frames = goes.2;
    }

-- what moves where no handle is moves none
none_moved : (s : Step) (w u : WorldState) (rows : List (List Inner)) → IsSoundBy w rows → IsDriver w.script u.guest → u.host.device ≡ w.host.device → (m : MovesOne s w u) → ¬ IsHandle w m.process m.handle → Stayed w u
none_moved s w u rows sound driver device m unnamed = record {
  slices = λ n h named. m.others n h (λ both. unnamed (subst (IsHandle w m.process) both.1 (subst (λ i. IsHandle w i h) both.0 (handles_stay w.script w u sound.lines driver n h named))));
  device = device;
}

moved_or_none : (s : Step) (w u : WorldState) (rows : List (List Inner)) → IsSoundBy w rows → IsDriver w.script u.guest → IsWhole u → StepKeepsSlice s → u.host.device ≡ w.host.device → MovesOne s w u ⊎ SameEverywhere w u → Lifts s w u rows
moved_or_none s w u rows sound driver whole keeps device (inr same) = inr (record { slices = λ n h named. same n h; device = device })
moved_or_none s w u rows sound driver whole keeps device (inl m) = by_name (is_some (handle_named w.guest m.process m.handle)) refl
  where
    by_name : (b : Bool) → is_some (handle_named w.guest m.process m.handle) ≡ b → Lifts s w u rows
    by_name true named = inl (moved_one s w u rows sound driver whole keeps m named)
    by_name false unnamed = inr (none_moved s w u rows sound driver device m (λ named. false≢true (sym unnamed ∙ named)))

-- ---- Execute

-- a raw line's command leaves the device
raw_leaves : (w : WorldState) (rows : List (List Inner)) (m : Posting) (c : Command) (b : Bool) (out : Option Returning) (host : Part) → IsSoundBy w rows → NamesNone c → must_wait w.host.device c ≡ b → ExecutedCommand b m c w.host out host →
    host.device ≡ w.host.device
raw_leaves w rows m c true out host sound none waits does = absurd (false≢true (sym (refused_goes w.host.device c (few_sessions w rows sound) none) ∙ waits))
raw_leaves w rows m c false out host sound none goes (r, d, completed, told, after) =
    ap (λ (p : Part). p.device) after ∙ (completed.3 ∙ refused_leaves w.host.device c m.behind m.held completed.0 (few_sessions w rows sound) none completed.1)

raw_ask_leaves : (w : WorldState) (rows : List (List Inner)) (m : Posting) (chain : RawChain) (ask : Ask) (out : Option Returning) (host : Part) → IsSoundBy w rows → IsRefused chain → raw_ask chain ≡ ask → ExecutedAsk ask m w.host out host →
    host.device ≡ w.host.device
raw_ask_leaves w rows m chain Unusable out host sound refused asks (told, same) = ap (λ (p : Part). p.device) same
raw_ask_leaves w rows m chain (Judged (Err f)) out host sound refused asks (told, same) = ap (λ (p : Part). p.device) same
raw_ask_leaves w rows m chain (Judged (Ok c)) out host sound refused asks does = raw_leaves w rows m c (must_wait w.host.device c) out host sound (refused c asks) refl does

-- and moves none
pub execute_raw : (w : WorldState) (rows : List (List Inner)) (m : Posting) (ms : List Posting) (chain : RawChain) (out : Option Returning) (host : Part) → IsSoundBy w rows → w.requests ≡ m ∷ ms → (first : IsFirstAsked w m ms) → first.statement.what ≡ Raw chain →
    Executed m w.host out host → Stayed w (after_device (record w { requests = ms }) host out)
execute_raw w rows m ms chain out host sound is first what does =
    let asks : m.request.asks ≡ raw_ask chain = ap (λ (y : Posting). y.request.asks) (raw_posted w rows m ms chain sound is first what) in
    let done : ExecutedAsk (raw_ask chain) m w.host out host = subst (λ a. ExecutedAsk a m w.host out host) asks does in
    let same : SameEverywhere w (after_device (record w { requests = ms }) host out) = raw_ask_done w rows m ms chain (raw_ask chain) out host sound is first what refl done in
    record {
      slices = λ n h named. same n h;
      device = raw_ask_leaves w rows m chain (raw_ask chain) out host sound (raw_refused w rows m.request.who first.statement chain sound first.within first.now what) refl done;
    }

-- any other moves the handle of its call
execute_one : (w : WorldState) (rows : List (List Inner)) (m : Posting) (ms : List Posting) (what : LineKind) (out : Option Returning) (host : Part) → IsSoundBy w rows → w.requests ≡ m ∷ ms → (first : IsFirstAsked w m ms) → first.statement.what ≡ what →
    Executed m w.host out host → MovesOne Execute w (after_device (record w { requests = ms }) host out) ⊎ Stayed w (after_device (record w { requests = ms }) host out)
execute_one w rows m ms (Raw chain) out host sound is first what does = inr (execute_raw w rows m ms chain out host sound is first what does)
execute_one w rows m ms (OnHandle h call) out host sound is first what does =
    let a : IsHandleAsked w rows h m = handle_asked w rows m ms h call sound is first what in
    let c : Command = a.posted.crossing.command in
    let asks : m.request.asks ≡ Judged (Ok c) = ap (λ (y : Posting). y.request.asks) a.posted.says in
    inl (execute_command w rows m ms h c (must_wait w.host.device c) out host sound is first a asks refl (subst (λ k. ExecutedAsk k m w.host out host) asks does))

execute_lifts : (w u : WorldState) (rows : List (List Inner)) → IsSoundBy w rows → IsDriver w.script u.guest → IsWhole u → IsExecuted w u → Lifts Execute w u rows
execute_lifts w u rows sound driver whole e =
    let first : IsFirstAsked w e.posting e.rest = asked_first w rows e.posting e.rest sound e.first in
    by_move (subst (λ y. MovesOne Execute w y ⊎ Stayed w y) (sym e.after) (execute_one w rows e.posting e.rest first.statement.what e.out e.host sound e.first first refl e.does))
  where
    by_move : MovesOne Execute w u ⊎ Stayed w u → Lifts Execute w u rows
    by_move (inr stays) = inr stays
    by_move (inl m) = inl (moved_one Execute w u rows sound driver whole execute_keeps m
        (out_named w rows m.process m.handle sound (asked_somewhere (out_at w m.process m.handle) m.does.0 m.does.3)))

-- ---- each step

lift_by : (w u : WorldState) (rows : List (List Inner)) (s : Step) → IsSoundBy w rows → TakesNone w s → Steps w s u → IsDriver w.script u.guest → IsWhole u → Lifts s w u rows
lift_by w u rows (Issue n) sound none does driver whole =
    moved_or_none (Issue n) w u rows sound driver whole (λ x x' v slice starts keeps. issue_keeps x x' v slice starts keeps) (ap (λ (y : WorldState). y.host.device) (is_issued w u n none does).after)
    (issue_moves w u rows n sound none does.0 does.1)
lift_by w u rows Execute sound none does driver whole = execute_lifts w u rows sound driver whole (is_executed w u does)
lift_by w u rows (Resume session) sound none does driver whole =
    let m : MovesOne (Resume session) w u = resume_moves w u rows session sound does.1 in
    inl (moved_one (Resume session) w u rows sound driver whole (resume_keeps session) m (out_named w rows m.process m.handle sound (kept_somewhere (out_at w m.process m.handle) m.does.0 m.does.3)))
lift_by w u rows (Begin session) sound none does driver whole =
    let m : MovesOne (Begin session) w u = begin_moves w u rows session sound does.0 does.1 in
    inl (moved_one (Begin session) w u rows sound driver whole (λ x x' v slice begins keeps. begin_keeps x x' v slice begins keeps) m (session_named w m.process m.handle m.does.0 m.does.3))
lift_by w u rows (Finish number) sound none does driver whole =
    let m : MovesOne (Finish number) w u = finish_moves w u rows number sound does.1 in
    inl (moved_one (Finish number) w u rows sound driver whole (λ x x' v slice finishes keeps. finish_keeps x x' v slice finishes keeps) m (session_named w m.process m.handle m.does.0 m.does.3))
lift_by w u rows Announce sound none does driver whole =
    let m : MovesOne Announce w u = announce_moves w u rows sound does.1 in
    inl (moved_one Announce w u rows sound driver whole (λ x x' v slice sends keeps. announce_keeps x x' v slice sends keeps) m (session_named w m.process m.handle m.does.0 m.does.3))
lift_by w u rows Collect sound none does driver whole =
    moved_or_none Collect w u rows sound driver whole (λ x x' v slice collects keeps. collect_keeps x x' v slice collects) (ap (λ (y : WorldState). y.host.device) (is_collected w u none does).after)
    (collect_moves w u rows sound none does.1)
lift_by w u rows Pump sound none does driver whole =
    let m : MovesOne Pump w u = pump_moves w u rows sound does.1 in
    inl (moved_one Pump w u rows sound driver whole (λ x x' v slice takes keeps. taking_keeps x x' v slice takes) m (event_named w m.process m.handle m.does.0 m.does.1 m.does.2))
lift_by w u rows (Lease n) sound none does driver whole =
    moved_or_none (Lease n) w u rows sound driver whole (λ x x' v slice lends keeps. lease_keeps x x' v slice lends keeps) (ap (λ (y : WorldState). y.host.device) (is_leased_to w u n does).after)
    (inl (lease_moves w u rows n sound does.0 does.1))
lift_by w u rows (GiveBack n) sound none does driver whole =
    moved_or_none (GiveBack n) w u rows sound driver whole (λ x x' v slice gets keeps. give_back_keeps x x' v slice gets keeps) (ap (λ (y : WorldState). y.host.device) (is_given_back w u n does).after)
    (inl (give_back_moves w u rows n sound does.1))

-- the driver is that of the same script
pub same_driver : (w u : WorldState) (s : Step) → Steps w s u → IsWhole u → IsDriver w.script u.guest
same_driver w u s does whole = subst (λ script. IsDriver script u.guest) (script_stays w u s does) whole.driver

pub lift_next : (w u : WorldState) (rows : List (List Inner)) (s : Step) → IsSoundBy w rows → TakesNone w s → Steps w s u → IsWhole u → Lifts s w u rows
lift_next w u rows s sound none does whole = lift_by w u rows s sound none does (same_driver w u s does whole) whole
