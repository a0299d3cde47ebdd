-- Which steps may drop a memory that a handle has.
use Rattle.std.proofs.Common.{◌≡◌, ◌⊎◌, inl, inr, ℕ, ◌<◌, Bool, true, false, List, [], ◌∷◌, Option, Some, None, is_some, length, get_or, set, refl, sym, ap, ◌∙◌, subst, get_or-set_same, get_or-set_other}
use Rattle.std.proofs.lemmas.Bool.{false≢true, true≢false, cases_Bool, cases_eq, cases_lt, eqb-true}
use Rattle.std.proofs.lemmas.List.{set_past}
use Rattle.std.proofs.lemmas.Option.{same_Some}
use Rattle.v4l_const.specs.declared.errno.Errno.{Errno}
use Rattle.v4l_const.specs.declared.errno.Errno.TheVariants.{Enomem}
use Rattle.v4l_rules.specs.Refusals.{first_refusal}
use Rattle.vm_frame.specs.declared.mem.Held.{Held}
use Rattle.vm_local.specs.declared.call.Call.{Call}
use Rattle.vm_local.specs.declared.call.Call.TheVariants.{CloseHandle, ReqBufs, StreamOff, UAlloc, DqBuf, DqEvent}
use Rattle.vm_local.specs.declared.entry.Entry.TheVariants.{Called}
use Rattle.vm_local.specs.declared.reply.Reply.TheVariants.{Refused}
use Rattle.vm_local.specs.State.{LocalState}
use Rattle.vm_home.specs.Home.{is_kept}
use Rattle.vm_log.specs.LegalLog.{LogState, state_of}
use Rattle.vm_log.specs.Answers.{with_line, Sends}
use Rattle.vm_exchange.specs.declared.way.Way.{Way}
use Rattle.vm_exchange.specs.declared.way.Way.TheVariants.{Crosses, AnsweredHere, Waits, TouchesMemory}
use Rattle.vm_handle.specs.Answers.{row_from, answered_by, AnswersHere}
use Rattle.vm_handle.specs.Handle.{HandleState, way_from, id_of}
use Rattle.vm_handle.proofs.HereLemmas.{is_here, here_kinds}
use Rattle.vm_script.specs.declared.line.LineKind.{LineKind}
use Rattle.vm_script.specs.declared.line.LineKind.TheVariants.{OnHandle, Raw}
use Rattle.vm_guest.specs.Asking.{asked_in, asked_by, begins_with_events, ends_with_events}
use Rattle.vm_guest.specs.Orderly.{IsOutAt}
use Rattle.vm_guest.specs.declared.asked.Asked.{Asked as AskedCall}
use Rattle.vm_guest.specs.Guest.{GuestState, process_at, handle_named, no_process}
use Rattle.vm_guest.specs.Lines.{Begins, BeginsCall}
use Rattle.vm_guest.specs.Message.{Sending}
use Rattle.vm_guest.specs.Process.{ProcessState, handle_at, no_handle, with_handle, current, current_call, crossing, crossing_call, is_crossing, next, issuing, is_at_rest, some_if}
use Rattle.vm_guest.specs.declared.asked.Statement.{Statement}
use Rattle.vm_guest.specs.declared.status.Status.TheVariants.{Crossing}
use Rattle.vm_realm.specs.declared.step.Step.{Step}
use Rattle.vm_realm.specs.declared.step.Step.TheVariants.{Issue, Execute, Resume, Begin, Finish, Announce, Collect, Pump, Lease, GiveBack}
use Rattle.vm_realm.specs.World.{WorldState}
use Rattle.vm_realm.specs.Inner.{Inner}
use Rattle.vm_realm.specs.Laws.{MemoriesAreDropped, drops_begun, drops_answered, drops_collected, makes_name, may_drop}
use Rattle.vm_realm.specs.Places.{is_live}
use Rattle.vm_realm.specs.Slice.{Slice, is_on, out_of, out_at, slice_at}
use Rattle.vm_realm.specs.Slice.Out.{Nowhere, Told}
use Rattle.vm_wire.specs.Message.{Returning}
use Rattle.vm_handle.specs.declared.stage.Stage.TheVariants.{AtRest as Resting, Underway}
use Rattle.vm_home.specs.Moves.{is_stopping}
use Rattle.std.specs.Option.{option_and_then}
use Rattle.std.specs.Prelude.{if◌then◌else◌}
use Rattle.vm_realm.specs.SliceSteps.{SliceDoes, takes_all, takes_by, takes_for, TakesNone}
use Rattle.vm_realm.specs.Sound.{IsSoundSlice, IsSound, IsSoundBy, IsHandle, IsWhole}
use Rattle.vm_realm.specs.Steps.{Steps}
use Rattle.vm_realm.proofs.AfterLemmas.{IsIssued, is_issued, IsCollected, is_collected, has_collected}
use Rattle.vm_realm.proofs.LendLemmas.{call_there}
use Rattle.vm_realm.proofs.PlaceKeptLemmas.{collect_live, collect_rests}
use Rattle.vm_realm.proofs.ProcessLemmas.{kept_some, some_where}
use Rattle.vm_realm.proofs.LiftNextLemmas.{Lifts, lift_next}
use Rattle.vm_realm.proofs.WholeNextLemmas.{whole_next}
use Rattle.vm_realm.proofs.PlaceFramesLemmas.{call_same, nowhere_none, handle_next, handle_before, unnamed_handle, option_none, rests_none}
use Rattle.vm_realm.proofs.PlaceLiveLemmas.{Repeats, repeats_state, repeats_none, drops_none, log_stays, live_stays, slice_live}

-- ---- the world

next_live : (w u : WorldState) (s : Step) (n h m : ℕ) (v v' : Inner) → IsSound w → TakesNone w s → Steps w s u → IsHandle w n h → IsSoundSlice (slice_at w n h) v → IsSoundSlice (slice_at u n h) v' →
    (SliceDoes s (slice_at w n h) (slice_at u n h) → is_live (slice_at u n h) v' m ≡ true) → is_live (slice_at w n h) v m ≡ true → is_live (slice_at u n h) v' m ≡ true
next_live w u s n h m v v' (rows, sound) none does named before goes moves live = by_lift (lift_next w u rows s sound none does whole)
  where
    whole : IsWhole u
    whole = whole_next w u s (rows, sound) none does

    same : slice_at u n h ≡ slice_at w n h → is_live (slice_at u n h) v' m ≡ true
    same is = live_stays (slice_at w n h) (slice_at u n h) v v' m before goes (ap (λ (y : Slice). y.handle) is) (ap (λ (y : Slice). y.out) is) live

    by_lift : Lifts s w u rows → is_live (slice_at u n h) v' m ≡ true
    by_lift (inr stays) = same (stays.slices n h (handle_next w u s n h (rows, sound) none does named))
    by_lift (inl moved) = elim (cases_eq n moved.process) as (λ _. is_live (slice_at u n h) v' m ≡ true) [
      | inr apart ↦ same (moved.others n h (λ both. apart both.0))
      | inl one ↦ elim (cases_eq h moved.handle) as (λ _. is_live (slice_at u n h) v' m ≡ true) [
        | inr apart ↦ same (moved.others n h (λ both. apart both.1))
        | inl two ↦
            let P : ℕ → ℕ → Type 0 = λ i k. SliceDoes s (slice_at w i k) (slice_at u i k) in
            moves (subst (λ k. P n k) (sym two) (subst (λ i. P i moved.handle) (sym one) moved.does))
      ]
    ]

-- a place that has no handle of the script's
bare_live : (w u : WorldState) (s : Step) (n h m : ℕ) (v v' : Inner) → IsSound w → TakesNone w s → Steps w s u → is_some (handle_named w.guest n h) ≡ false → IsSoundSlice (slice_at w n h) v → is_live (slice_at w n h) v m ≡ true →
    is_live (slice_at u n h) v' m ≡ true
bare_live w u s n h m v v' sound none does unnamed before live =
    let here : (slice_at w n h).handle ≡ no_handle = unnamed_handle w.guest.processes n h (option_none (handle_named w.guest n h) unnamed) in
    let gone : is_some (handle_named u.guest n h) ≡ false = elim (cases_Bool (is_some (handle_named u.guest n h))) as (λ _. is_some (handle_named u.guest n h) ≡ false) [
      | inr not ↦ not
      | inl named ↦ absurd (true≢false (sym (handle_before w u s n h sound none does named) ∙ unnamed))
    ] in
    let there : (slice_at u n h).handle ≡ no_handle = unnamed_handle u.guest.processes n h (option_none (handle_named u.guest n h) gone) in
    log_stays (slice_at w n h) (slice_at u n h) v v' m before (rests_none (slice_at w n h) v (slice_at w n h).out (ap (λ (k : HandleState). k.stage) here) before.out)
    (λ has. subst (λ (k : HandleState). is_kept (state_of k.log) m ≡ true) (here ∙ sym there) has) live

-- ---- a line that is begun

pub set_either : {A : Type 0} (xs : List A) (i k : ℕ) (y d : A) → ((k ≡ i) × (get_or (set xs i y) k d ≡ y)) ⊎ (get_or (set xs i y) k d ≡ get_or xs k d)
set_either xs i k y d = elim (cases_eq k i) as (λ _. ((k ≡ i) × (get_or (set xs i y) k d ≡ y)) ⊎ (get_or (set xs i y) k d ≡ get_or xs k d)) [
  | inr apart ↦ inr (get_or-set_other xs i k y d apart)
  | inl same ↦ elim (cases_lt i (length xs)) as (λ _. ((k ≡ i) × (get_or (set xs i y) k d ≡ y)) ⊎ (get_or (set xs i y) k d ≡ get_or xs k d)) [
    | inl within ↦ inl (same, ap (λ j. get_or (set xs i y) j d) same ∙ get_or-set_same xs i y d within)
    | inr past ↦ inr (ap (λ zs. get_or zs k d) (set_past xs i y past))
  ]
]

sent_repeats : (o : Option ℕ) (l : LogState) (call : Call) (along : Option Held) (log : LogState) → Sends o (with_line l) call along log → Repeats l log
sent_repeats None l call along log (none, same) = subst (Repeats l) (sym same) (repeats_none l (with_line l) refl refl)
sent_repeats (Some number) l call None log sends = absurd sends
sent_repeats (Some number) l call (Some held) log (queued, home, same) = subst (Repeats l) (sym same) (repeats_none l _ refl refl)

row_repeats : (o : Option Errno) (l : LogState) (line : ℕ) (call : Call) → is_some o ≡ true → Repeats l (answered_by o (with_line l) line call)
row_repeats None l line call refuses = absurd (false≢true refuses)
row_repeats (Some errno) l line call refuses = record { more = Called line call (Refused errno) ∷ []; entries = refl; model = refl; refusal = inr (line, call, Refused errno, refl, refl) }

here_drops : (h : ℕ) (call : Call) → is_here call ≡ true → drops_begun (OnHandle h call) ≡ true
here_drops h (UAlloc u len off) here = refl
here_drops h (DqBuf t) here = refl
here_drops h DqEvent here = refl
here_drops h call here = absurd (false≢true here)

refused_or_here : (o : Option Errno) → (o ≡ None → ⊥) → is_some o ≡ true
refused_or_here None never = absurd (never refl)
refused_or_here (Some errno) never = refl

here_repeats : (k : HandleState) (h line : ℕ) (call : Call) (log : LogState) → way_from k call ≡ AnsweredHere → drops_begun (OnHandle h call) ≡ false → AnswersHere (with_line k.log) line call log → Repeats k.log log
here_repeats k h line call log way drops (inr lacks) =
    subst (Repeats k.log) (sym lacks.new_is) (record { more = Called line call (Refused Enomem) ∷ []; entries = refl; model = refl; refusal = inr (line, call, Refused Enomem, refl, refl) })
here_repeats k h line call log way drops (inl is) =
    subst (Repeats k.log) (sym is) (row_repeats (first_refusal (row_from (with_line k.log) line call).refusals) k.log line call
    (refused_or_here (first_refusal (row_from (with_line k.log) line call).refusals) (λ passes. true≢false (sym (here_drops h call (here_kinds (id_of k.session) (state_of k.log) line call way passes)) ∙ drops))))

pub handle_either : (p : ProcessState) (h k : ℕ) (x : HandleState) → ((k ≡ h) × (handle_at (with_handle p h x) k ≡ x)) ⊎ (handle_at (with_handle p h x) k ≡ handle_at p k)
handle_either p h k x = set_either p.handles h k x no_handle

put_repeats : (p : ProcessState) (h k : ℕ) (x : HandleState) → Repeats (handle_at p h).log x.log → Repeats (handle_at p k).log (handle_at (with_handle p h x) k).log
put_repeats p h k x repeats = elim (handle_either p h k x) as (λ _. Repeats (handle_at p k).log (handle_at (with_handle p h x) k).log) [
  | inl here ↦ subst (λ (y : HandleState). Repeats (handle_at p k).log y.log) (sym here.1) (subst (λ i. Repeats (handle_at p i).log x.log) (sym here.0) repeats)
  | inr other ↦ subst (λ (y : HandleState). Repeats (handle_at p k).log y.log) (sym other) (repeats_none (handle_at p k).log (handle_at p k).log refl refl)
]

call_repeats : (way : Way) (line h k : ℕ) (call : Call) (p p' : ProcessState) (sends : Option Sending) → way_from (handle_at p h) call ≡ way → drops_begun (OnHandle h call) ≡ false → BeginsCall way line h call p p' sends →
    Repeats (handle_at p k).log (handle_at p' k).log
call_repeats (Crosses c) line h k call p p' sends way drops (along, handle, goes, after, sent) =
    subst (λ (q : ProcessState). Repeats (handle_at p k).log (handle_at q k).log) (sym after)
    (put_repeats p h k handle (subst (λ (y : HandleState). Repeats (handle_at p h).log y.log) (sym goes.after) (sent_repeats _ (handle_at p h).log call along goes.log goes.sends)))
call_repeats AnsweredHere line h k call p p' sends way drops (handle, itself, after, sent) =
    subst (λ (q : ProcessState). Repeats (handle_at p k).log (handle_at q k).log) (sym after)
    (put_repeats p h k handle (subst (λ (y : HandleState). Repeats (handle_at p h).log y.log) (sym itself.after) (here_repeats (handle_at p h) h line call itself.log way drops itself.answers)))
call_repeats Waits line h k call p p' sends way drops (after, sent) =
    subst (λ (q : ProcessState). Repeats (handle_at p k).log (handle_at q k).log) (sym after) (put_repeats p h k _ (repeats_none (handle_at p h).log (with_line (handle_at p h).log) refl refl))
call_repeats TouchesMemory line h k call p p' sends way drops begins = absurd begins

issued_repeats : (w u : WorldState) (n : ℕ) (i : IsIssued w n u) (j k : ℕ) → drops_begun i.statement.what ≡ false → Repeats (handle_at (process_at w.guest j) k).log (handle_at (process_at u.guest j) k).log
issued_repeats w u n i j k drops = subst (λ (y : WorldState). Repeats (handle_at (process_at w.guest j) k).log (handle_at (process_at y.guest j) k).log) (sym i.after) (by_process (set_either w.guest.processes n j i.process no_process))
  where
    p : ProcessState
    p = process_at w.guest n

    by_what : (what : LineKind) → i.statement.what ≡ what → Repeats (handle_at p k).log (handle_at i.process k).log
    by_what (OnHandle h call) is =
        call_repeats (way_from (handle_at p h) call) i.statement.line h k call p i.process i.sends refl (sym (ap drops_begun is) ∙ drops)
        (subst (λ x. Begins i.statement.line x p i.process i.sends) is i.begins)
    by_what (Raw chain) is =
        let after : _ = (subst (λ x. Begins i.statement.line x p i.process i.sends) is i.begins).0 in
        subst (λ (q : ProcessState). Repeats (handle_at p k).log (handle_at q k).log) (sym after) (repeats_none (handle_at p k).log (handle_at p k).log refl refl)

    by_process : ((j ≡ n) × (get_or (set w.guest.processes n i.process) j no_process ≡ i.process)) ⊎ (get_or (set w.guest.processes n i.process) j no_process ≡ get_or w.guest.processes j no_process) →
        Repeats (handle_at (process_at w.guest j) k).log (handle_at (get_or (set w.guest.processes n i.process) j no_process) k).log
    by_process (inl here) =
        subst (λ (q : ProcessState). Repeats (handle_at (process_at w.guest j) k).log (handle_at q k).log) (sym here.1)
        (subst (λ a. Repeats (handle_at (process_at w.guest a) k).log (handle_at i.process k).log) (sym here.0) (by_what i.statement.what refl))
    by_process (inr other) =
        subst (λ (q : ProcessState). Repeats (handle_at (process_at w.guest j) k).log (handle_at q k).log) (sym other) (repeats_none (handle_at (process_at w.guest j) k).log (handle_at (process_at w.guest j) k).log refl refl)

-- ---- which statement it is

begins_drops : (what : LineKind) → begins_with_events what ≡ true → drops_begun what ≡ true
begins_drops (OnHandle h (UAlloc u len off)) begins = refl
begins_drops what begins = begins

events_drop : (o : Option Statement) → takes_by o (λ s. begins_with_events s.what) ≡ true → takes_by o (λ s. drops_begun s.what) ≡ true
events_drop None takes = absurd (false≢true takes)
events_drop (Some s) takes = begins_drops s.what takes

dropped : (w u : WorldState) (n : ℕ) (i : IsIssued w n u) (o : Option Statement) → issuing (process_at w.guest n) ≡ o → is_some o ≡ true → drops_begun i.statement.what ≡ true → takes_by o (λ s. drops_begun s.what) ≡ true
dropped w u n i None is may drops = absurd (false≢true may)
dropped w u n i (Some s) is may drops =
    let now : next (process_at w.guest n) ≡ Some s = kept_some _ (next (process_at w.guest n)) s is in
    let same : i.statement ≡ s = same_Some i.statement s (sym i.now ∙ (some_where (is_at_rest (process_at w.guest n).status) (current (process_at w.guest n)) s now).1) in
    ap (λ (t : Statement). drops_begun t.what) (sym same) ∙ drops

issue_live : (w u : WorldState) (n j h m : ℕ) (v v' : Inner) → IsSound w → TakesNone w (Issue n) → Steps w (Issue n) u → IsHandle w j h → IsSoundSlice (slice_at w j h) v → IsSoundSlice (slice_at u j h) v' → is_live (slice_at w j h) v m ≡ true →
    (may_drop w (Issue n) ≡ true) ⊎ (is_live (slice_at u j h) v' m ≡ true)
issue_live w u n j h m v v' sound none does named before goes live = elim (cases_Bool (drops_begun i.statement.what)) as (λ _. (may_drop w (Issue n) ≡ true) ⊎ (is_live (slice_at u j h) v' m ≡ true)) [
  | inl drops ↦ inl (dropped w u n i (issuing (process_at w.guest n)) refl does.0 drops)
  | inr stays ↦ inr (next_live w u (Issue n) j h m v v' sound none does named before goes (λ starts. log_stays (slice_at w j h) (slice_at u j h) v v' m before (nowhere_none (slice_at w j h) v starts.2.out before)
      (λ has. subst (λ (s : LocalState). is_kept s m ≡ true) (sym (repeats_state (slice_at w j h).handle.log (slice_at u j h).handle.log before.log.legal goes.log.legal (issued_repeats w u n i j h stays))) has) live) live)
]
  where
    i : IsIssued w n u
    i = is_issued w u n none does

-- ---- a reply that is collected

statement_asks : (o : Option Statement) (st : Statement) → o ≡ Some st → option_and_then asked_by o ≡ asked_by st
statement_asks o st is = ap (λ k. option_and_then asked_by k) is

-- the call that is answered is that of the statement under way
call_at : (w u : WorldState) (rows : List (List Inner)) (c : IsCollected w u) (h line : ℕ) (call : Call) (r : Returning) → IsSoundBy w rows → out_at w c.told.reply.who h ≡ Told r →
    (handle_at (process_at w.guest c.told.reply.who) h).stage ≡ Underway line call → (k : ℕ) × (c.statement.what ≡ OnHandle k call)
call_at w u rows c h line call r sound out under = by_what c.statement.what refl
  where
    n : ℕ
    n = c.told.reply.who

    p : ProcessState
    p = process_at w.guest n

    on : is_on (crossing_call p) h ≡ true
    on = by_flag (is_on (crossing_call p) h) refl
      where
        apart : Nowhere ≡ Told r → ⊥
        apart same = cc

        by_flag : (b : Bool) → is_on (crossing_call p) h ≡ b → is_on (crossing_call p) h ≡ true
        by_flag true is = is
        by_flag false is = absurd (apart (sym (ap (λ b. if b then out_of w n else Nowhere) is) ∙ out))

    asked : current_call p ≡ asked_by c.statement
    asked = statement_asks (current p) c.statement c.now

    crosses : crossing_call p ≡ asked_by c.statement
    crosses = ap (λ t. some_if (is_crossing t) (current_call p)) c.status ∙ asked

    by_what : (what : LineKind) → c.statement.what ≡ what → (k : ℕ) × (c.statement.what ≡ OnHandle k call)
    by_what (Raw chain) is =
        let none : crossing_call p ≡ None = crosses ∙ ap (asked_in c.statement.line) is in
        absurd (false≢true (sym (ap (λ o. is_on o h) none) ∙ on))
    by_what (OnHandle k other) is =
        let a : AskedCall = record { line = c.statement.line; handle = k; call = other } in
        let told : current_call p ≡ Some a = asked ∙ ap (asked_in c.statement.line) is in
        let here : k ≡ h = eqb-true k h (sym (ap (λ o. is_on o h) (crosses ∙ ap (asked_in c.statement.line) is)) ∙ on) in
        let there : k < length p.handles = call_there w n c.statement a sound.lines c.within c.now (ap (asked_in c.statement.line) is) in
        let inside : h < length p.handles = subst (λ j. j < length p.handles) here there in
        let at : IsOutAt Crossing (Some a) h (handle_at p h) =
        subst (λ t. IsOutAt t (Some a) h (handle_at p h)) c.status (subst (λ o. IsOutAt p.status o h (handle_at p h)) told ((sound.lines.orderly n c.within).out h inside)) in
        let same : call ≡ other = call_same line c.statement.line call other (sym under ∙ at.0 here) in
        (k, is ∙ ap (OnHandle k) (sym same))

apart_stages : (line : ℕ) (call : Call) → Resting ≡ Underway line call → ⊥
apart_stages line call same = cc

-- of the handle that the reply is collected for
pub call_collected : (w u : WorldState) (n h line : ℕ) (call : Call) (r : Returning) (c : IsCollected w u) → IsSound w → (slice_at w n h).handle.stage ≡ Underway line call → out_at w n h ≡ Told r → (slice_at u n h).handle.stage ≡ Resting →
    (k : ℕ) × (c.statement.what ≡ OnHandle k call)
call_collected w u n h line call r c sound under out rests = elim (cases_eq n c.told.reply.who) as (λ _. (k : ℕ) × (c.statement.what ≡ OnHandle k call)) [
  | inl same ↦
      let P : ℕ → Type 0 = λ i. out_at w i h ≡ Told r in
      let Q : ℕ → Type 0 = λ i. (handle_at (process_at w.guest i) h).stage ≡ Underway line call in
      call_at w u sound.0 c h line call r sound.1 (subst P same out) (subst Q same under)
  | inr apart ↦
      let others : process_at u.guest n ≡ process_at w.guest n = ap (λ (y : WorldState). process_at y.guest n) c.after ∙ (has_collected w u c).others n apart in
      absurd (apart_stages line call (sym rests ∙ (ap (λ (p : ProcessState). (handle_at p h).stage) others ∙ under)))
]

collect_named : (w u : WorldState) (n h m : ℕ) (v v' : Inner) → IsSound w → TakesNone w Collect → Steps w Collect u → IsHandle w n h → IsSoundSlice (slice_at w n h) v → IsSoundSlice (slice_at u n h) v' → is_live (slice_at w n h) v m ≡ true →
    (may_drop w Collect ≡ true) ⊎ (is_live (slice_at u n h) v' m ≡ true)
collect_named w u n h m v v' sound none does named before goes live = elim (cases_Bool (drops_answered c.statement.what)) as (λ _. (may_drop w Collect ≡ true) ⊎ (is_live (slice_at u n h) v' m ≡ true)) [
  | inl drops ↦ inl (ap (drops_collected w.guest) c.first ∙ (ap (λ o. takes_by o (λ s. drops_answered s.what)) crossing_is ∙ drops))
  | inr stays ↦ inr (next_live w u Collect n h m v v' sound none does named before goes (λ collects. collect_live (slice_at w n h) (slice_at u n h) v v' m before goes collects (names stays collects) live) live)
]
  where
    c : IsCollected w u
    c = is_collected w u none does

    crossing_is : crossing (process_at w.guest c.told.reply.who) ≡ Some c.statement
    crossing_is = ap (λ t. some_if (is_crossing t) (current (process_at w.guest c.told.reply.who))) c.status ∙ c.now

    names : drops_answered c.statement.what ≡ false → SliceDoes Collect (slice_at w n h) (slice_at u n h) → (line : ℕ) (call : Call) → (slice_at w n h).handle.stage ≡ Underway line call → makes_name call ≡ false
    names stays collects line call under =
        let is : _ = call_collected w u n h line call collects.3 c sound under collects.6 (collect_rests (slice_at w n h) (slice_at u n h) collects) in
        sym (ap drops_answered is.1) ∙ stays

collect_still : (w u : WorldState) (n h m : ℕ) (v v' : Inner) → IsSound w → TakesNone w Collect → Steps w Collect u → IsSoundSlice (slice_at w n h) v → IsSoundSlice (slice_at u n h) v' → is_live (slice_at w n h) v m ≡ true →
    (may_drop w Collect ≡ true) ⊎ (is_live (slice_at u n h) v' m ≡ true)
collect_still w u n h m v v' sound none does before goes live = by_name (is_some (handle_named w.guest n h)) refl
  where
    by_name : (b : Bool) → is_some (handle_named w.guest n h) ≡ b → (may_drop w Collect ≡ true) ⊎ (is_live (slice_at u n h) v' m ≡ true)
    by_name true named = collect_named w u n h m v v' sound none does named before goes live
    by_name false unnamed = inr (bare_live w u Collect n h m v v' sound none does unnamed before live)

-- a reply that all events are taken in front of may drop one
lets_stopping : (call : Call) → is_stopping call ≡ true → makes_name call ≡ true
lets_stopping CloseHandle stops = refl
lets_stopping (ReqBufs t k n) stops = refl
lets_stopping (StreamOff t) stops = refl
lets_stopping call stops = absurd (false≢true stops)

ends_drops : (what : LineKind) → ends_with_events what ≡ true → drops_answered what ≡ true
ends_drops (OnHandle h call) ends = lets_stopping call ends
ends_drops (Raw chain) ends = absurd (false≢true ends)

answer_drops : (o : Option Statement) → takes_by o (λ s. ends_with_events s.what) ≡ true → takes_by o (λ s. drops_answered s.what) ≡ true
answer_drops None takes = absurd (false≢true takes)
answer_drops (Some s) takes = ends_drops s.what takes

replies_drop : (g : GuestState) (rs : List Returning) → takes_for g rs ≡ true → drops_collected g rs ≡ true
replies_drop g [] takes = absurd (false≢true takes)
replies_drop g (r ∷ rs) takes = answer_drops (crossing (process_at g r.reply.who)) takes

-- ---- each step

live_still : (w u : WorldState) (s : Step) (n h m : ℕ) (v v' : Inner) → IsSound w → TakesNone w s → Steps w s u → drops_none s ≡ true → IsSoundSlice (slice_at w n h) v → IsSoundSlice (slice_at u n h) v' → is_live (slice_at w n h) v m ≡ true →
    is_live (slice_at u n h) v' m ≡ true
live_still w u s n h m v v' sound none does drops before goes live = by_name (is_some (handle_named w.guest n h)) refl
  where
    by_name : (b : Bool) → is_some (handle_named w.guest n h) ≡ b → is_live (slice_at u n h) v' m ≡ true
    by_name true named = next_live w u s n h m v v' sound none does named before goes (λ moves. slice_live s (slice_at w n h) (slice_at u n h) v v' m drops before goes moves live) live
    by_name false unnamed = bare_live w u s n h m v v' sound none does unnamed before live

issue_still : (w u : WorldState) (p n h m : ℕ) (v v' : Inner) → IsSound w → TakesNone w (Issue p) → Steps w (Issue p) u → IsSoundSlice (slice_at w n h) v → IsSoundSlice (slice_at u n h) v' → is_live (slice_at w n h) v m ≡ true →
    (may_drop w (Issue p) ≡ true) ⊎ (is_live (slice_at u n h) v' m ≡ true)
issue_still w u p n h m v v' sound none does before goes live = by_name (is_some (handle_named w.guest n h)) refl
  where
    by_name : (b : Bool) → is_some (handle_named w.guest n h) ≡ b → (may_drop w (Issue p) ≡ true) ⊎ (is_live (slice_at u n h) v' m ≡ true)
    by_name true named = issue_live w u p n h m v v' sound none does named before goes live
    by_name false unnamed = inr (bare_live w u (Issue p) n h m v v' sound none does unnamed before live)

pub drops_only : MemoriesAreDropped
drops_only w w' (Issue p) n h m v v' sound does before goes live gone = by_takes (takes_all w (Issue p)) refl
  where
    by_takes : (b : Bool) → takes_all w (Issue p) ≡ b → may_drop w (Issue p) ≡ true
    by_takes true takes = events_drop (issuing (process_at w.guest p)) takes
    by_takes false none = elim (issue_still w w' p n h m v v' sound (inl none) does before goes live) as (λ _. may_drop w (Issue p) ≡ true) [
      | inl drops ↦ drops
      | inr still ↦ absurd (true≢false (sym still ∙ gone))
    ]
drops_only w w' Collect n h m v v' sound does before goes live gone = by_takes (takes_all w Collect) refl
  where
    by_takes : (b : Bool) → takes_all w Collect ≡ b → may_drop w Collect ≡ true
    by_takes true takes = replies_drop w.guest w.replies takes
    by_takes false none = elim (collect_still w w' n h m v v' sound (inl none) does before goes live) as (λ _. may_drop w Collect ≡ true) [
      | inl drops ↦ drops
      | inr still ↦ absurd (true≢false (sym still ∙ gone))
    ]
drops_only w w' Pump n h m v v' sound does before goes live gone = refl
drops_only w w' Execute n h m v v' sound does before goes live gone = absurd (true≢false (sym (live_still w w' Execute n h m v v' sound (inl refl) does refl before goes live) ∙ gone))
drops_only w w' (Resume k) n h m v v' sound does before goes live gone = absurd (true≢false (sym (live_still w w' (Resume k) n h m v v' sound (inl refl) does refl before goes live) ∙ gone))
drops_only w w' (Begin k) n h m v v' sound does before goes live gone = absurd (true≢false (sym (live_still w w' (Begin k) n h m v v' sound (inl refl) does refl before goes live) ∙ gone))
drops_only w w' (Finish k) n h m v v' sound does before goes live gone = absurd (true≢false (sym (live_still w w' (Finish k) n h m v v' sound (inl refl) does refl before goes live) ∙ gone))
drops_only w w' Announce n h m v v' sound does before goes live gone = absurd (true≢false (sym (live_still w w' Announce n h m v v' sound (inl refl) does refl before goes live) ∙ gone))
drops_only w w' (Lease p) n h m v v' sound does before goes live gone = absurd (true≢false (sym (live_still w w' (Lease p) n h m v v' sound (inl refl) does refl before goes live) ∙ gone))
drops_only w w' (GiveBack p) n h m v v' sound does before goes live gone = absurd (true≢false (sym (live_still w w' (GiveBack p) n h m v v' sound (inl refl) does refl before goes live) ∙ gone))
