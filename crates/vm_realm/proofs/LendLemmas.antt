-- A lease that goes out or comes back moves the slice of its handle.
use Rattle.std.proofs.Common.{◌≡◌, ℕ, zero, suc, ◌<◌, true, false, List, [], ◌∷◌, Option, Some, None, is_some, length, get_or, set, refl, sym, ap, ◌∙◌, subst, arith, inl, inr, if◌then◌else◌}
use Rattle.std.specs.Prelude.{slice_get}
use Rattle.std.specs.List.{All}
use Rattle.std.specs.Option.{option_and_then}
use Rattle.std.proofs.lemmas.Bool.{false≢true, cases_eq}
use Rattle.std.proofs.lemmas.List.{get_or-set_same, get_or-set_other}
use Rattle.std.proofs.lemmas.List.Elements.{All-get_or, All-tail}
use Rattle.std.proofs.lemmas.Option.{none-some, same_Some, option_and_then_some}
use Rattle.vm_lease.specs.Lease.{LeaseParts, CameBackDone}
use Rattle.vm_lease.specs.declared.lease_out.LeaseOut.{LeaseOut}
use Rattle.vm_local.specs.declared.call.Call.{Call}
use Rattle.vm_log.specs.Answers.{given_back as log_given_back}
use Rattle.vm_log.specs.declared.leased.Leased.{Leased}
use Rattle.vm_log.specs.declared.leased.Leased.TheVariants.{Out as GoneOut, Answered, Idle}
use Rattle.vm_script.specs.Script.{ProcessLines}
use Rattle.vm_script.specs.declared.line.Line.{Line}
use Rattle.vm_script.specs.declared.line.LineKind.{LineKind}
use Rattle.vm_script.specs.declared.line.LineKind.TheVariants.{OnHandle, Raw}
use Rattle.vm_handle.specs.Handle.{HandleState}
use Rattle.vm_guest.specs.Asking.{statement_of, statements_of, asked_in, asked_by, is_leased}
use Rattle.vm_guest.specs.Guest.{GuestState, no_process, process_at, with_process}
use Rattle.vm_guest.specs.Lines.{after_lease, returned_to}
use Rattle.vm_guest.specs.Orderly.{IsDriver, IsOrderly, IsFitKind, IsOutAt, lines_at}
use Rattle.vm_guest.specs.Process.{ProcessState, is_at_rest, is_crossing, is_lent, some_if, kept_by, next, current, current_call, crossing_call, leasing, lease_on, lease_out, handle_at, with_log, no_handle}
use Rattle.vm_guest.specs.Steps.{LeasesFor}
use Rattle.vm_guest.specs.declared.asked.Asked.{Asked as AskedCall}
use Rattle.vm_guest.specs.declared.asked.Statement.{Statement}
use Rattle.vm_guest.specs.declared.status.Status.{Status}
use Rattle.vm_guest.specs.declared.status.Status.TheVariants.{AtRest, Lent}
use Rattle.vm_realm.specs.declared.step.Step.TheVariants.{Lease, GiveBack}
use Rattle.vm_realm.specs.World.{WorldState, jobs_out}
use Rattle.vm_realm.specs.Inner.{Inner}
use Rattle.vm_realm.specs.Steps.{DoesLease, DoesGiveBack}
use Rattle.vm_realm.specs.Slice.{session_in, job_in, events_for, out_of, is_on, out_at, slice_with, slice_at, SameElsewhere}
use Rattle.vm_realm.specs.Slice.Out.{Nowhere}
use Rattle.vm_realm.specs.SliceSteps.{MovesOne}
use Rattle.vm_realm.specs.Sound.{IsSoundBy}
use Rattle.vm_realm.proofs.SumLemmas.{place_within}
use Rattle.vm_realm.proofs.ProcessLemmas.{next_is, kept_some, some_where, lent_is}
use Rattle.vm_realm.proofs.FrameLemmas.{same_slice}

-- ---- one handle of a process at rest is exchanged

-- in a process of which nothing crosses this handle comes in the place of another
pub record Exchanges (w : WorldState) (n h : ℕ) (p : ProcessState) (x : HandleState) : Type 0 where
  pub within : n < length w.guest.processes
  pub there : h < length (process_at w.guest n).handles
  pub handles : p.handles ≡ set (process_at w.guest n).handles h x
  pub before : is_crossing (process_at w.guest n).status ≡ false
  pub behind : is_crossing p.status ≡ false
  pub session : x.session ≡ (handle_at (process_at w.guest n) h).session

abbrev pub with_one : WorldState → ℕ → ProcessState → WorldState
with_one w n p = record w { guest = with_process w.guest n p }

pub nowhere : (w : WorldState) (n k : ℕ) (p : ProcessState) → is_crossing p.status ≡ false → (if is_on (crossing_call p) k then out_of w n else Nowhere) ≡ Nowhere
nowhere w n k p free = ap (λ b. if is_on (some_if b (current_call p)) k then out_of w n else Nowhere) free

pub exchanged_slice : (w : WorldState) (n h : ℕ) (p : ProcessState) (x : HandleState) → Exchanges w n h p x → slice_at (with_one w n p) n h ≡ record (slice_at w n h) { handle = x }
exchanged_slice w n h p x e =
    let v : WorldState = with_one w n p in
    let hd : HandleState = handle_at (process_at w.guest n) h in
    let process : process_at v.guest n ≡ p = get_or-set_same w.guest.processes n p no_process e.within in
    let handle : handle_at (process_at v.guest n) h ≡ x =
    ap (λ (q : ProcessState). handle_at q h) process ∙ (ap (λ hs. get_or hs h no_handle) e.handles ∙ get_or-set_same (process_at w.guest n).handles h x no_handle e.there) in
    let out : out_at v n h ≡ Nowhere = ap (λ (q : ProcessState). if is_on (crossing_call q) h then out_of w n else Nowhere) process ∙ nowhere w n h p e.behind in
    let was : out_at w n h ≡ Nowhere = nowhere w n h (process_at w.guest n) e.before in
    let first : slice_at v n h ≡ slice_with v n x Nowhere = λ j. slice_with v n (handle j) (out j) in
    let own : slice_with v n x Nowhere ≡ record (slice_with w n hd Nowhere) { handle = x } =
    ap (λ id. record {
      who = n;
      handle = x;
      out = Nowhere;
      held = events_for id w.guest.pump.held;
      events = events_for id w.events;
      session = session_in w.host.device id;
      job = job_in (jobs_out w) id;
    }) e.session in
    let last : record (slice_with w n hd Nowhere) { handle = x } ≡ record (slice_at w n h) { handle = x } = λ j. record (slice_with w n hd (sym was j)) { handle = x } in
    first ∙ (own ∙ last)

pub exchanged_others : (w : WorldState) (n h : ℕ) (p : ProcessState) (x : HandleState) → Exchanges w n h p x → SameElsewhere n h w (with_one w n p)
exchanged_others w n h p x e m k other = elim (cases_eq m n) [ inl same ↦ of_own same | inr apart ↦ of_other apart ]
  where
    of_other : ¬ (m ≡ n) → slice_at (with_one w n p) m k ≡ slice_at w m k
    of_other apart =
        let process : process_at (with_one w n p).guest m ≡ process_at w.guest m = get_or-set_other w.guest.processes n m p no_process apart in
        same_slice w (with_one w n p) m k (record {
          handle = ap (λ (q : ProcessState). handle_at q k) process;
          out = ap (λ (q : ProcessState). if is_on (crossing_call q) k then out_of w m else Nowhere) process;
          held = refl;
          events = refl;
          session = refl;
          job = refl;
        })

    of_process : ¬ (k ≡ h) → slice_at (with_one w n p) n k ≡ slice_at w n k
    of_process apart =
        let process : process_at (with_one w n p).guest n ≡ p = get_or-set_same w.guest.processes n p no_process e.within in
        same_slice w (with_one w n p) n k (record {
          handle = ap (λ (q : ProcessState). handle_at q k) process ∙ (ap (λ hs. get_or hs k no_handle) e.handles ∙ get_or-set_other (process_at w.guest n).handles h k x no_handle apart);
          out = ap (λ (q : ProcessState). if is_on (crossing_call q) k then out_of w n else Nowhere) process
              ∙ (nowhere w n k p e.behind ∙ sym (nowhere w n k (process_at w.guest n) e.before));
          held = refl;
          events = refl;
          session = refl;
          job = refl;
        })

    of_own : m ≡ n → slice_at (with_one w n p) m k ≡ slice_at w m k
    of_own same =
        subst (λ i. slice_at (with_one w n p) i k ≡ slice_at w i k) (sym same) (of_process (λ is. other (same, is)))

-- ---- the line of a process

pub line_at : (ls : List Line) (k : ℕ) (s : Statement) → slice_get (statements_of ls) k ≡ Some s → (l : Line) × (s ≡ statement_of l) × ((P : Line → Type 0) → All P ls → P l)
line_at [] k s is = absurd (none-some s is)
line_at (l ∷ ls) zero s is = (l, sym (same_Some (statement_of l) s is), λ P all. All-get_or P (l ∷ ls) zero l (omega arith) all)
line_at (l ∷ ls) (suc k) s is =
    let rest : _ = line_at ls k s is in
    (rest.0, rest.1, λ P all. rest.2 P (All-tail P l ls all))

fits_handle : (handles : ℕ) (s : Statement) (l : Line) (a : AskedCall) → s ≡ statement_of l → asked_by s ≡ Some a → IsFitKind handles l.what → a.handle < handles
fits_handle handles s l a same asked fits = by_kind l.what fits (sym (ap asked_by same) ∙ asked)
  where
    handle_same : (n h : ℕ) (call : Call) (a : AskedCall) → ◌≡◌ {A = Option AskedCall} (Some (record { line = n; handle = h; call = call })) (Some a) → h ≡ a.handle
    handle_same n h call a same = cc

    by_kind : (what : LineKind) → IsFitKind handles what → asked_in l.number what ≡ Some a → a.handle < handles
    by_kind (OnHandle h call) fits asked = subst (λ i. i < handles) (handle_same l.number h call a asked) fits.0
    by_kind (Raw chain) fits asked = absurd (none-some a asked)

-- the current call of a process is on a handle of its own
pub call_there : (w : WorldState) (n : ℕ) (s : Statement) (a : AskedCall) → IsDriver w.script w.guest → n < length w.guest.processes → current (process_at w.guest n) ≡ Some s → asked_by s ≡ Some a →
    a.handle < length (process_at w.guest n).handles
call_there w n s a driver within is asked =
    let p : ProcessState = process_at w.guest n in
    let lines : ProcessLines = lines_at w.script n in
    let orderly : IsOrderly w.script.model lines p = driver.orderly n within in
    let at : _ = line_at lines.lines p.answered s (ap (λ ss. slice_get ss p.answered) (sym orderly.statements) ∙ is) in
    let fits : IsFitKind (length lines.handles) at.0.what = at.2 (λ l. IsFitKind (length lines.handles) l.what) orderly.fit.each in
    subst (λ k. a.handle < k) (sym orderly.named) (fits_handle (length lines.handles) s at.0 a at.1 asked fits)

-- nothing of a process at rest is out
pub rest_answered : (s : Status) (o : Option AskedCall) (h : ℕ) (x : HandleState) → s ≡ AtRest → IsOutAt s o h x → x.log.unanswered ≡ false
rest_answered s o h x rest out = of_rest o (subst (λ t. IsOutAt t o h x) rest out)
  where
    of_rest : (o : Option AskedCall) → IsOutAt AtRest o h x → x.log.unanswered ≡ false
    of_rest None out = out
    of_rest (Some a) out = elim (cases_eq a.handle h) [ inl same ↦ out.0 same | inr other ↦ out.1 other ]

-- ---- Lease

leased_status : (leased : Leased) (q : ProcessState) → is_crossing q.status ≡ false → is_crossing (after_lease leased q).status ≡ false
leased_status (GoneOut lease) q free = refl
leased_status Answered q free = refl
leased_status Idle q free = free

leased_handles : (leased : Leased) (q : ProcessState) → (after_lease leased q).handles ≡ q.handles
leased_handles (GoneOut lease) q = refl
leased_handles Answered q = refl
leased_handles Idle q = refl

lease_by : (w : WorldState) (rows : List (List Inner)) (n : ℕ) (o : Option AskedCall) (leased : Leased) (g : GuestState) → IsSoundBy w rows → leasing (process_at w.guest n) ≡ o → is_some o ≡ true →
    LeasesFor o n w.guest leased g → MovesOne (Lease n) w (record w { guest = g })
lease_by w rows n None leased g sound is may does = absurd (false≢true may)
lease_by w rows n (Some a) leased g sound is may (moved, (log, leases, does), after) =
    option_and_then_some asked_by (kept_by is_leased (next (process_at w.guest n))) a is (λ s kept asked.
    let p : ProcessState = process_at w.guest n in
    let h : ℕ = a.handle in
    let hd : HandleState = handle_at p h in
    let x : HandleState = record hd { log = log } in
    let is_next : next p ≡ Some s = kept_some is_leased (next p) s kept in
    let rest : p.status ≡ AtRest = (next_is p s is_next).0 in
    let within : n < length w.guest.processes = place_within (λ (y : ProcessState). is_some (leasing y)) w.guest.processes n no_process refl (ap is_some is) in
    let there : h < length p.handles = call_there w n s a sound.lines within (some_where (is_at_rest p.status) (current p) s is_next).1 asked in
    let free : is_crossing p.status ≡ false = ap is_crossing rest in
    let e : Exchanges w n h moved x = record {
      within = within;
      there = there;
      handles = ap (λ (y : ProcessState). y.handles) does ∙ leased_handles leased (with_log p h log);
      before = free;
      behind = ap (λ (y : ProcessState). is_crossing y.status) does ∙ leased_status leased (with_log p h log) free;
      session = refl;
    } in
    let moves : MovesOne (Lease n) w (with_one w n moved) = record {
      process = n;
      handle = h;
      does = (
        a.line,
        a.call,
        leased,
        log,
        record {
          out = nowhere w n h p free;
          answered = rest_answered p.status (current_call p) h hd rest ((sound.lines.orderly n within).out h there);
        },
        leases,
        exchanged_slice w n h moved x e,
      );
      others = exchanged_others w n h moved x e;
    } in
    subst (λ y. MovesOne (Lease n) w (record w { guest = y })) (sym after) moves)

pub lease_moves : (w w' : WorldState) (rows : List (List Inner)) (n : ℕ) → IsSoundBy w rows → is_some (leasing (process_at w.guest n)) ≡ true → DoesLease n w w' → MovesOne (Lease n) w w'
lease_moves w w' rows n sound may (leased, g, does, after) =
    subst (MovesOne (Lease n) w) (sym after) (lease_by w rows n (leasing (process_at w.guest n)) leased g sound refl may does)

-- ---- GiveBack

back_by : (w : WorldState) (rows : List (List Inner)) (n : ℕ) (o : Option Statement) (entry : LeaseOut) (lease : LeaseParts) → IsSoundBy w rows → n < length w.guest.processes →
    (process_at w.guest n).status ≡ Lent → current (process_at w.guest n) ≡ o → lease_on (process_at w.guest n) (option_and_then asked_by o) ≡ Some entry → CameBackDone entry lease →
    MovesOne (GiveBack n) w (with_one w n (returned_to (process_at w.guest n) (option_and_then asked_by o) lease))
back_by w rows n None entry lease sound within lent is out back = absurd (none-some entry out)
back_by w rows n (Some s) entry lease sound within lent is out back = by_asked (asked_by s) refl out
  where
    by_asked : (o : Option AskedCall) → asked_by s ≡ o → lease_on (process_at w.guest n) o ≡ Some entry → MovesOne (GiveBack n) w (with_one w n (returned_to (process_at w.guest n) o lease))
    by_asked None asked out = absurd (none-some entry out)
    by_asked (Some a) asked out =
        let p : ProcessState = process_at w.guest n in
        let h : ℕ = a.handle in
        let hd : HandleState = handle_at p h in
        let x : HandleState = record hd { log = log_given_back hd.log lease } in
        let e : Exchanges w n h (returned_to p (Some a) lease) x = record {
          within = within;
          there = call_there w n s a sound.lines within is asked;
          handles = refl;
          before = ap is_crossing lent;
          behind = refl;
          session = refl;
        } in
        record {
          process = n;
          handle = h;
          does = (entry, lease, out, back, exchanged_slice w n h (returned_to p (Some a) lease) x e);
          others = exchanged_others w n h (returned_to p (Some a) lease) x e;
        }

pub give_back_moves : (w w' : WorldState) (rows : List (List Inner)) (n : ℕ) → IsSoundBy w rows → DoesGiveBack n w w' → MovesOne (GiveBack n) w w'
give_back_moves w w' rows n sound (entry, lease, out, back, after) =
    let p : ProcessState = process_at w.guest n in
    let parts : _ = some_where (is_lent p.status) (lease_on p (current_call p)) entry out in
    let within : n < length w.guest.processes = place_within (λ (y : ProcessState). is_some (lease_out y)) w.guest.processes n no_process refl (ap is_some out) in
    subst (MovesOne (GiveBack n) w) (sym after) (back_by w rows n (current p) entry lease sound within (lent_is p.status parts.0) refl parts.1 back)
