-- A line that is begun moves the slice of its handle; a raw line moves none.
use Rattle.std.proofs.Common.{◌≡◌, ◌⊎◌, ℕ, zero, suc, ◌+◌, ◌<◌, ◌≤◌, Bool, true, false, List, [], ◌∷◌, ◌++◌, Option, Some, None, is_some, length, refl, sym, ap, ◌∙◌, subst, arith, inl, inr, eqb, if◌then◌else◌, take}
use Rattle.std.specs.Prelude.{slice_get}
use Rattle.std.specs.List.{All, filter}
use Rattle.std.specs.Option.{option_and_then}
use Rattle.std.proofs.lemmas.Bool.{false≢true, cases_eq, cond-true, cond-false, eq-eqb, ne_eqb}
use Rattle.std.proofs.lemmas.List.{append-nil, get_or-set_same, get_or-set_other, nil_from_length}
use Rattle.std.proofs.lemmas.List.Elements.{filter-append, All-get_or}
use Rattle.std.proofs.lemmas.Option.{none-some, same_Some}
use Rattle.vm_frame.specs.declared.mem.Held.{Held}
use Rattle.vm_link.specs.declared.link.Turn.TheVariants.{Did}
use Rattle.vm_local.specs.declared.call.Call.{Call}
use Rattle.vm_script.specs.Script.{ProcessLines}
use Rattle.vm_script.specs.declared.line.Line.{Line}
use Rattle.vm_script.specs.declared.line.LineKind.{LineKind}
use Rattle.vm_script.specs.declared.line.LineKind.TheVariants.{OnHandle, Raw}
use Rattle.vm_script.specs.declared.line.RawChain.{RawChain}
use Rattle.vm_wire.specs.Message.{Posting}
use Rattle.vm_wire.specs.declared.delivery.Delivery.{Delivery}
use Rattle.vm_exchange.specs.Range.{AreWords}
use Rattle.vm_exchange.specs.declared.crossing.Crossing.{Crossing as CrossingOf}
use Rattle.vm_exchange.specs.declared.way.Way.{Way}
use Rattle.vm_exchange.specs.declared.way.Way.TheVariants.{Crosses, AnsweredHere, Waits, TouchesMemory}
use Rattle.vm_handle.specs.Handle.{HandleState, way_from, has_opened}
use Rattle.vm_guest.specs.Asking.{statement_of, statements_of, asked_in, asked_by, begins_with_events}
use Rattle.vm_guest.specs.Guest.{GuestState, no_process, process_at, with_process}
use Rattle.vm_guest.specs.Lines.{BeginsCall, Begins, GoesOut, waiting}
use Rattle.vm_guest.specs.Message.{Sending, OfCall, OfRaw, posting_of}
use Rattle.vm_guest.specs.Orderly.{IsOrderly, lines_at}
use Rattle.vm_guest.specs.Part.{Inbox, Outbox, postings, none_if, IssuesFor, Issues}
use Rattle.vm_guest.specs.Process.{ProcessState, is_at_rest, is_crossing, next, current, current_call, crossing_call, issuing, handle_at, with_handle, no_handle, doing}
use Rattle.vm_guest.specs.Steps.{all_if, Issued}
use Rattle.vm_guest.specs.declared.asked.Statement.{Statement}
use Rattle.vm_guest.specs.declared.status.Status.TheVariants.{AtRest, Crossing}
use Rattle.vm_realm.specs.declared.step.Step.{Step}
use Rattle.vm_realm.specs.declared.step.Step.TheVariants.{Issue}
use Rattle.vm_realm.specs.World.{WorldState, jobs_out}
use Rattle.vm_realm.specs.Inner.{Inner}
use Rattle.vm_realm.specs.Steps.{inbox_of, after_driver, DriverDoes}
use Rattle.vm_realm.specs.Slice.{Slice, session_in, job_in, events_for, requests_of, calls_of, replies_of, out_from, out_of, is_on, out_at, slice_with, slice_at, SameEverywhere}
use Rattle.vm_realm.specs.Slice.Out.{Nowhere, Asked}
use Rattle.vm_realm.specs.SliceSteps.{MayStart, StartsBy, Starts, MovesOne, takes_by, TakesNone, IsFirst}
use Rattle.vm_realm.specs.Sound.{IsSoundBy, CanRun, out_count, one_if, FitsOpened, OpenInOrder}
use Rattle.vm_realm.proofs.SumLemmas.{place_within}
use Rattle.vm_realm.proofs.ProcessLemmas.{next_is, kept_some, some_where}
use Rattle.vm_realm.proofs.FrameLemmas.{same_slice}
use Rattle.vm_realm.proofs.LendLemmas.{Exchanges, with_one, nowhere, exchanged_slice, exchanged_others, line_at, call_there, rest_answered}
use Rattle.vm_local.specs.declared.call.Call.TheVariants.{OpenHandle}
use Rattle.vm_local.specs.declared.entry.Entry.{Entry}
use Rattle.vm_local.specs.declared.entry.Entry.TheVariants.{Called, Finish, Bad, Give}
use Rattle.vm_script.specs.Lines.{call_on, numbered, lines_of, calls_of as calls_in}
use Rattle.vm_script.specs.Reading.{opens}

-- ---- what is posted

abbrev posted_by : WorldState → ℕ → ProcessState → List Posting → WorldState
posted_by w n p ms = record w { guest = with_process w.guest n p; requests = w.requests ++ ms }

-- it is nothing to another process
pub others_posted : (w : WorldState) (m n : ℕ) (x : Posting) → x.request.who ≡ n → ¬ (m ≡ n) → filter (λ (y : Posting). eqb y.request.who m) (w.requests ++ x ∷ []) ≡ requests_of w m
others_posted w m n x who apart =
    let p : Posting → Bool = λ y. eqb y.request.who m in
    filter-append p w.requests (x ∷ [])
    ∙ (ap (λ ys. requests_of w m ++ ys) (cond-false (p x) (x ∷ []) [] (ne_eqb x.request.who m (λ same. apart (sym same ∙ who)))) ∙ append-nil (requests_of w m))

pub own_posted : (w : WorldState) (n : ℕ) (x : Posting) → x.request.who ≡ n → filter (λ (y : Posting). eqb y.request.who n) (w.requests ++ x ∷ []) ≡ requests_of w n ++ x ∷ []
own_posted w n x who =
    let p : Posting → Bool = λ y. eqb y.request.who n in
    filter-append p w.requests (x ∷ []) ∙ ap (λ ys. requests_of w n ++ ys) (cond-true (p x) (x ∷ []) [] (eq-eqb x.request.who n who))

-- nothing of a process at rest is on the link
record IsFree (w : WorldState) (n : ℕ) : Type 0 where
  requests : requests_of w n ≡ []
  calls : calls_of w n ≡ []
  replies : replies_of w n ≡ []

is_free : (w : WorldState) (rows : List (List Inner)) (n : ℕ) → IsSoundBy w rows → (process_at w.guest n).status ≡ AtRest → IsFree w n
is_free w rows n sound rest =
    let none : out_count w n ≡ 0 = sound.quiet.one n ∙ ap (λ s. one_if (is_crossing s)) rest in
    record {
      requests = nil_from_length (requests_of w n) (omega (arith, none));
      calls = nil_from_length (calls_of w n) (omega (arith, none));
      replies = nil_from_length (replies_of w n) (omega (arith, none));
    }

-- ---- a process whose chain is posted

-- the process p sends this, and one of its handles comes in the place of another, or none
record Posts (w : WorldState) (n : ℕ) (p : ProcessState) (m : Posting) : Type 0 where
  within : n < length w.guest.processes
  free : IsFree w n
  before : is_crossing (process_at w.guest n).status ≡ false
  who : m.request.who ≡ n

posted_others : (w : WorldState) (n : ℕ) (p : ProcessState) (m : Posting) (i k : ℕ) → Posts w n p m → ¬ (i ≡ n) → slice_at (posted_by w n p (m ∷ [])) i k ≡ slice_at w i k
posted_others w n p m i k posts apart =
    let v : WorldState = posted_by w n p (m ∷ []) in
    let process : process_at v.guest i ≡ process_at w.guest i = get_or-set_other w.guest.processes n i p no_process apart in
    let out : out_of v i ≡ out_of w i = ap (λ ms. out_from ms (calls_of w i) (replies_of w i)) (others_posted w i n m posts.who apart) in
    same_slice w v i k (record {
      handle = ap (λ (q : ProcessState). handle_at q k) process;
      out = λ j. if is_on (crossing_call (process j)) k then out j else Nowhere;
      held = refl;
      events = refl;
      session = refl;
      job = refl;
    })

posted_same : (w : WorldState) (n : ℕ) (p : ProcessState) (m : Posting) (k : ℕ) → Posts w n p m → handle_at p k ≡ handle_at (process_at w.guest n) k → is_on (crossing_call p) k ≡ false →
    slice_at (posted_by w n p (m ∷ [])) n k ≡ slice_at w n k
posted_same w n p m k posts handle off =
    let v : WorldState = posted_by w n p (m ∷ []) in
    let process : process_at v.guest n ≡ p = get_or-set_same w.guest.processes n p no_process posts.within in
    same_slice w v n k (record {
      handle = ap (λ (q : ProcessState). handle_at q k) process ∙ handle;
      out = ap (λ (q : ProcessState). if is_on (crossing_call q) k then out_of v n else Nowhere) process
          ∙ (ap (λ b. if b then out_of v n else Nowhere) off ∙ sym (nowhere w n k (process_at w.guest n) posts.before));
      held = refl;
      events = refl;
      session = refl;
      job = refl;
    })

posted_slice : (w : WorldState) (n h : ℕ) (p : ProcessState) (m : Posting) (x : HandleState) → Posts w n p m → handle_at p h ≡ x → is_on (crossing_call p) h ≡ true →
    x.session ≡ (handle_at (process_at w.guest n) h).session → slice_at (posted_by w n p (m ∷ [])) n h ≡ record (slice_at w n h) { handle = x; out = Asked m }
posted_slice w n h p m x posts handle on session =
    let v : WorldState = posted_by w n p (m ∷ []) in
    let hd : HandleState = handle_at (process_at w.guest n) h in
    let process : process_at v.guest n ≡ p = get_or-set_same w.guest.processes n p no_process posts.within in
    let here : handle_at (process_at v.guest n) h ≡ x = ap (λ (q : ProcessState). handle_at q h) process ∙ handle in
    let asked : requests_of v n ≡ m ∷ [] = own_posted w n m posts.who ∙ ap (λ ms. ms ++ m ∷ []) posts.free.requests in
    let all : out_of v n ≡ Asked m = λ j. out_from (asked j) (posts.free.calls j) (posts.free.replies j) in
    let out : out_at v n h ≡ Asked m =
    ap (λ (q : ProcessState). if is_on (crossing_call q) h then out_of v n else Nowhere) process ∙ (ap (λ b. if b then out_of v n else Nowhere) on ∙ all) in
    let was : out_at w n h ≡ Nowhere = nowhere w n h (process_at w.guest n) posts.before in
    let first : slice_at v n h ≡ slice_with v n x (Asked m) = λ j. slice_with v n (here j) (out j) in
    let own : slice_with v n x (Asked m) ≡ record (slice_with w n hd Nowhere) { handle = x; out = Asked m } =
    ap (λ id. record {
      who = n;
      handle = x;
      out = Asked m;
      held = events_for id w.guest.pump.held;
      events = events_for id w.events;
      session = session_in w.host.device id;
      job = job_in (jobs_out w) id;
    }) session in
    let last : record (slice_with w n hd Nowhere) { handle = x; out = Asked m } ≡ record (slice_at w n h) { handle = x; out = Asked m } =
    λ j. record (slice_with w n hd (sym was j)) { handle = x; out = Asked m } in
    first ∙ (own ∙ last)

-- ---- Issue

-- a process at rest may begin a statement
record MayIssue (w : WorldState) (n : ℕ) (s : Statement) : Type 0 where
  within : n < length w.guest.processes
  rest : (process_at w.guest n).status ≡ AtRest
  current : current (process_at w.guest n) ≡ Some s
  free : IsFree w n

may_issue : (w : WorldState) (rows : List (List Inner)) (n : ℕ) (s : Statement) → IsSoundBy w rows → issuing (process_at w.guest n) ≡ Some s → MayIssue w n s
may_issue w rows n s sound is =
    let p : ProcessState = process_at w.guest n in
    let is_next : next p ≡ Some s = kept_some _ (next p) s is in
    let rest : p.status ≡ AtRest = (next_is p s is_next).0 in
    record {
      within = place_within (λ (y : ProcessState). is_some (issuing y)) w.guest.processes n no_process refl (ap is_some is);
      rest = rest;
      current = (some_where (is_at_rest p.status) (current p) s is_next).1;
      free = is_free w rows n sound rest;
    }

-- the numbers of its call go over the wire
words_of : (w : WorldState) (rows : List (List Inner)) (n : ℕ) (s : Statement) → IsSoundBy w rows → MayIssue w n s → CanRun s.what
words_of w rows n s sound may =
    let p : ProcessState = process_at w.guest n in
    let lines : ProcessLines = lines_at w.script n in
    let orderly : IsOrderly w.script.model lines p = sound.lines.orderly n may.within in
    let at : _ = line_at lines.lines p.answered s (ap (λ ss. slice_get ss p.answered) (sym orderly.statements) ∙ may.current) in
    let all : All (λ (l : Line). CanRun l.what) lines.lines = All-get_or (λ (q : ProcessLines). All (λ (l : Line). CanRun l.what) q.lines) w.script.processes n _ (omega (arith, may.within, sound.lines.count)) sound.script.each in
    subst CanRun (ap (λ (t : Statement). t.what) (sym at.1)) (at.2 (λ l. CanRun l.what) all)

-- ---- an open comes first

not_on : (opened h : ℕ) (what : LineKind) → FitsOpened opened what → opened + opens what ≤ h → call_on h what ≡ None
not_on opened h (Raw chain) fits le = refl
not_on opened h (OnHandle i (OpenHandle nonblock)) fits le = cond-false (eqb i h) (Some (OpenHandle nonblock)) None (ne_eqb i h (λ same. omega (arith, fits, le, same)))
not_on opened h (OnHandle i call) fits le = cond-false (eqb i h) (Some call) None (ne_eqb i h (λ same. omega (arith, fits, le, same)))

fits_same : (opened h : ℕ) (nonblock : Bool) (what : LineKind) → what ≡ OnHandle h (OpenHandle nonblock) → FitsOpened opened what → opened ≤ h
fits_same opened h nonblock what is fits =
    let same : h ≡ opened = subst (FitsOpened opened) is fits in
    omega (arith, same)

opened_before : (opened : ℕ) (ls : List Line) (k h : ℕ) (nonblock : Bool) (s : Statement) → OpenInOrder opened ls → slice_get (statements_of ls) k ≡ Some s → s.what ≡ OnHandle h (OpenHandle nonblock) →
    (lines_of h (take k ls) ≡ []) × (opened ≤ h)
opened_before opened [] k h nonblock s order is what = absurd (none-some s is)
opened_before opened (l ∷ ls) zero h nonblock s order is what =
    (refl, fits_same opened h nonblock l.what (ap (λ (t : Statement). t.what) (same_Some (statement_of l) s is) ∙ what) order.0)
opened_before opened (l ∷ ls) (suc k) h nonblock s order is what =
    let rest : _ = opened_before (opened + opens l.what) ls k h nonblock s order.2 is what in
    let off : call_on h l.what ≡ None = not_on opened h l.what order.0 rest.1 in
    (ap (λ o. numbered l.number o ++ lines_of h (take k ls)) off ∙ rest.0, omega (arith, rest.1))

none_opened : (es : List Entry) → calls_in es ≡ [] → has_opened es ≡ false
none_opened [] none = refl
none_opened (Called line call reply ∷ es) none = cc
none_opened (Finish ∷ es) none = none_opened es none
none_opened (Bad ∷ es) none = none_opened es none
none_opened (Give ∷ es) none = none_opened es none

no_session : (o : Option ℕ) → is_some o ≡ false → o ≡ None
no_session None none = refl
no_session (Some id) none = absurd (false≢true (sym none))

first_by : (w : WorldState) (rows : List (List Inner)) (n h : ℕ) (call : Call) (s : Statement) → IsSoundBy w rows → MayIssue w n s → s.what ≡ OnHandle h call → h < length (process_at w.guest n).handles →
    IsFirst (handle_at (process_at w.guest n) h) call
first_by w rows n h (OpenHandle nonblock) s sound may what there =
    let p : ProcessState = process_at w.guest n in
    let lines : ProcessLines = lines_at w.script n in
    let orderly : IsOrderly w.script.model lines p = sound.lines.orderly n may.within in
    let order : OpenInOrder 0 lines.lines = All-get_or (λ (q : ProcessLines). OpenInOrder 0 q.lines) w.script.processes n _ (omega (arith, may.within, sound.lines.count)) sound.script.opens in
    let none : lines_of h (take p.answered lines.lines) ≡ [] =
    (opened_before 0 lines.lines p.answered h nonblock s order (ap (λ ss. slice_get ss p.answered) (sym orderly.statements) ∙ may.current) what).0 in
    let each = orderly.each h there in
    no_session (handle_at p h).session (each.keeps.opened ∙ none_opened (handle_at p h).log.entries (each.calls ∙ none))
first_by w rows n h call s sound may what there = tt

current_asked : (w : WorldState) (n : ℕ) (s : Statement) (h : ℕ) (call : Call) → MayIssue w n s → s.what ≡ OnHandle h call → current_call (process_at w.guest n) ≡ Some (record { line = s.line; handle = h; call = call })
current_asked w n s h call may is = ap (λ o. option_and_then asked_by o) may.current ∙ ap (λ k. asked_in s.line k) is

issue_call : (w : WorldState) (rows : List (List Inner)) (n h : ℕ) (call : Call) (s : Statement) (way : Way) (q : ProcessState) (sends : Option Sending) → IsSoundBy w rows → MayIssue w n s → s.what ≡ OnHandle h call →
    way_from (handle_at (process_at w.guest n) h) call ≡ way → BeginsCall way s.line h call (process_at w.guest n) q sends → MovesOne (Issue n) w (posted_by w n q (postings n sends))
issue_call w rows n h call s way q sends sound may what is begins =
    let p : ProcessState = process_at w.guest n in
    let free : is_crossing p.status ≡ false = ap is_crossing may.rest in
    let there : h < length p.handles = call_there w n s (record { line = s.line; handle = h; call = call }) sound.lines may.within may.current (ap (λ k. asked_in s.line k) what) in
    let starts : MayStart (slice_at w n h) = record {
      out = nowhere w n h p free;
      answered = rest_answered p.status (current_call p) h (handle_at p h) may.rest ((sound.lines.orderly n may.within).out h there);
    } in
    by_way way refl begins there starts free (subst CanRun what (words_of w rows n s sound may), first_by w rows n h call s sound may what there)
  where
    start_by : (x' : Slice) → MayStart (slice_at w n h) → AreWords call × IsFirst (handle_at (process_at w.guest n) h) call → StartsBy way s.line call (slice_at w n h) x' → Starts (slice_at w n h) x'
    start_by x' starts words by = (s.line, call, starts, words.0, words.1, subst (λ u. StartsBy u s.line call (slice_at w n h) x') (sym is) by)

    posts_call : (c : CrossingOf) (along : Option Held) → is_crossing (process_at w.guest n).status ≡ false → Posts w n q (posting_of n (OfCall c along))
    posts_call c along free = record { within = may.within; free = may.free; before = free; who = refl }

    on_call : (handle : HandleState) → q ≡ doing Crossing (with_handle (process_at w.guest n) h handle) → (k : ℕ) → is_on (crossing_call q) k ≡ eqb h k
    on_call handle after k = ap (λ (y : ProcessState). is_on (crossing_call y) k) after ∙ ap (λ o. is_on o k) (current_asked w n s h call may what)

    crossed_slice : (c : CrossingOf) (along : Option Held) (handle : HandleState) → GoesOut (handle_at (process_at w.guest n) h) s.line call along handle →
        q ≡ doing Crossing (with_handle (process_at w.guest n) h handle) → h < length (process_at w.guest n).handles → is_crossing (process_at w.guest n).status ≡ false →
        slice_at (posted_by w n q (posting_of n (OfCall c along) ∷ [])) n h ≡ record (slice_at w n h) { handle = handle; out = Asked (posting_of n (OfCall c along)) }
    crossed_slice c along handle goes after there free =
        posted_slice w n h q (posting_of n (OfCall c along)) handle (posts_call c along free)
        (ap (λ (y : ProcessState). handle_at y h) after ∙ get_or-set_same (process_at w.guest n).handles h handle no_handle there)
        (on_call handle after h ∙ eq-eqb h h refl)
        (ap (λ (y : HandleState). y.session) goes.after)

    stays_here : (x : HandleState) → Exchanges w n h q x → sends ≡ None → MayStart (slice_at w n h) → AreWords call × IsFirst (handle_at (process_at w.guest n) h) call → StartsBy way s.line call (slice_at w n h) (record (slice_at w n h) { handle = x }) →
        MovesOne (Issue n) w (posted_by w n q (postings n sends))
    stays_here x e none starts words by =
        let same : with_one w n q ≡ posted_by w n q (postings n sends) =
        (λ j. record w { guest = with_process w.guest n q; requests = sym (append-nil w.requests) j }) ∙ ap (λ o. posted_by w n q (postings n o)) (sym none) in
        let slice : slice_at (with_one w n q) n h ≡ record (slice_at w n h) { handle = x } = exchanged_slice w n h q x e in
        subst (MovesOne (Issue n) w) same (record {
          process = n;
          handle = h;
          does = subst (Starts (slice_at w n h)) (sym slice) (start_by (record (slice_at w n h) { handle = x }) starts words by);
          others = exchanged_others w n h q x e;
        })

    by_way : (u : Way) → way ≡ u → BeginsCall u s.line h call (process_at w.guest n) q sends → h < length (process_at w.guest n).handles → MayStart (slice_at w n h) → is_crossing (process_at w.guest n).status ≡ false → AreWords call × IsFirst (handle_at (process_at w.guest n) h) call →
        MovesOne (Issue n) w (posted_by w n q (postings n sends))
    by_way (Crosses c) to (along, handle, goes, after, sent) there starts free words =
        subst (λ o. MovesOne (Issue n) w (posted_by w n q (postings n o))) (sym sent) (record {
          process = n;
          handle = h;
          does = subst (Starts (slice_at w n h)) (sym (crossed_slice c along handle goes after there free))
              (start_by (record (slice_at w n h) { handle = handle; out = Asked (posting_of n (OfCall c along)) }) starts words
              (subst (λ u. StartsBy u s.line call (slice_at w n h) (record (slice_at w n h) { handle = handle; out = Asked (posting_of n (OfCall c along)) })) (sym to)
              (along, handle, goes, refl)));
          others = λ i k other. elim (cases_eq i n) [
            | inl same ↦ subst (λ a. slice_at (posted_by w n q (posting_of n (OfCall c along) ∷ [])) a k ≡ slice_at w a k) (sym same)
                (posted_same w n q (posting_of n (OfCall c along)) k (posts_call c along free)
                (ap (λ (y : ProcessState). handle_at y k) after ∙ get_or-set_other (process_at w.guest n).handles h k handle no_handle (λ is. other (same, is)))
                (on_call handle after k ∙ ne_eqb h k (λ is. other (same, sym is))))
            | inr apart ↦ posted_others w n q (posting_of n (OfCall c along)) i k (posts_call c along free) apart
          ];
        })
    by_way AnsweredHere to (handle, answers, after, sent) there starts free words =
        stays_here handle (record {
          within = may.within;
          there = there;
          handles = ap (λ (y : ProcessState). y.handles) after;
          before = free;
          behind = ap (λ (y : ProcessState). is_crossing y.status) after;
          session = ap (λ (y : HandleState). y.session) answers.after;
        }) sent starts words (subst (λ u. StartsBy u s.line call (slice_at w n h) (record (slice_at w n h) { handle = handle })) (sym to) (handle, answers, refl))
    by_way Waits to (after, sent) there starts free words =
        stays_here (waiting (handle_at (process_at w.guest n) h) s.line call) (record {
          within = may.within;
          there = there;
          handles = ap (λ (y : ProcessState). y.handles) after;
          before = free;
          behind = ap (λ (y : ProcessState). is_crossing y.status) after;
          session = refl;
        }) sent starts words (subst (λ u. StartsBy u s.line call (slice_at w n h) (record (slice_at w n h) { handle = waiting (handle_at (process_at w.guest n) h) s.line call })) (sym to) refl)
    by_way TouchesMemory to begins there starts free words = absurd begins

-- a raw line's chain is posted, and no slice sees it
issue_raw : (w : WorldState) (n : ℕ) (chain : RawChain) (s : Statement) (q : ProcessState) (sends : Option Sending) → MayIssue w n s → s.what ≡ Raw chain → q ≡ doing Crossing (process_at w.guest n) →
    sends ≡ Some (OfRaw chain) → SameEverywhere w (posted_by w n q (postings n sends))
issue_raw w n chain s q sends may what after sent =
    let m : Posting = posting_of n (OfRaw chain) in
    let posts : Posts w n q m = record { within = may.within; free = may.free; before = ap is_crossing may.rest; who = refl } in
    let none : current_call (process_at w.guest n) ≡ None = ap (λ o. option_and_then asked_by o) may.current ∙ ap (λ k. asked_in s.line k) what in
    subst (λ o. SameEverywhere w (posted_by w n q (postings n o))) (sym sent) (λ i k. elim (cases_eq i n) [
      | inl same ↦ subst (λ a. slice_at (posted_by w n q (m ∷ [])) a k ≡ slice_at w a k) (sym same)
          (posted_same w n q m k posts (ap (λ (y : ProcessState). handle_at y k) after) (ap (λ (y : ProcessState). is_on (crossing_call y) k) after ∙ ap (λ o. is_on o k) none))
      | inr apart ↦ posted_others w n q m i k posts apart
    ])

abbrev pub MovesOrNone : Step → WorldState → WorldState → Type 0
MovesOrNone s w w' = MovesOne s w w' ⊎ SameEverywhere w w'

issue_what : (w : WorldState) (rows : List (List Inner)) (n : ℕ) (s : Statement) (what : LineKind) (q : ProcessState) (sends : Option Sending) → IsSoundBy w rows → MayIssue w n s → s.what ≡ what →
    Begins s.line what (process_at w.guest n) q sends → MovesOrNone (Issue n) w (posted_by w n q (postings n sends))
issue_what w rows n s (OnHandle h call) q sends sound may what begins =
    inl (issue_call w rows n h call s (way_from (handle_at (process_at w.guest n) h) call) q sends sound may what refl begins)
issue_what w rows n s (Raw chain) q sends sound may what (after, sent) = inr (issue_raw w n chain s q sends may what after sent)

pub none_first : (b : Bool) (ds : List Delivery) → (b ≡ false) ⊎ (ds ≡ []) → (all_if b ds ≡ []) × (none_if b ds ≡ ds)
none_first true ds (inl none) = absurd (false≢true (sym none))
none_first true ds (inr none) = (none, sym none)
none_first false ds none = (refl, refl)

issue_some : (w : WorldState) (rows : List (List Inner)) (n : ℕ) (o : Option Statement) (g : GuestState) (left : Inbox) (posted : Outbox) → IsSoundBy w rows → issuing (process_at w.guest n) ≡ o → is_some o ≡ true →
    (takes_by o (λ s. begins_with_events s.what) ≡ false) ⊎ (w.events ≡ []) → IssuesFor o n w.guest (inbox_of w) Did g left posted → MovesOrNone (Issue n) w (after_driver w g left posted)
issue_some w rows n None g left posted sound is may none does = absurd (false≢true may)
issue_some w rows n (Some s) g left posted sound is may none (turn, d) =
    let sends : Option Sending = d.sends in
    let b : Bool = begins_with_events s.what in
    let first : _ = none_first b w.events none in
    let begun : Issued n s w.guest [] g sends = subst (λ es. Issued n s w.guest es g sends) first.0 d.issued in
    let kept_with : List Delivery → Inbox = λ es. record { replies = w.replies; events = es } in
    let gives_for : List Delivery → Outbox = λ es. record { commands = postings n sends; chains = length es } in
    let here : left ≡ kept_with w.events = d.left ∙ ap kept_with first.1 in
    let told : posted ≡ gives_for [] = (λ j. record { commands = d.commands j; chains = d.chains j }) ∙ ap gives_for first.0 in
    let chains : w.chains + 0 ≡ w.chains = omega arith in
    let ends : after_driver w g left posted ≡ posted_by w n begun.process (postings n sends) =
    ap (λ i. after_driver w g i posted) here ∙ (ap (λ o. after_driver w g (kept_with w.events) o) told
    ∙ (λ j. record w { guest = begun.after j; requests = w.requests ++ postings n sends; chains = chains j })) in
    subst (MovesOrNone (Issue n) w) (sym ends) (issue_what w rows n s s.what begun.process sends sound (may_issue w rows n s sound is) refl begun.begins)

pub issue_moves : (w w' : WorldState) (rows : List (List Inner)) (n : ℕ) → IsSoundBy w rows → TakesNone w (Issue n) → is_some (issuing (process_at w.guest n)) ≡ true → DriverDoes (Issues n) w w' → MovesOrNone (Issue n) w w'
issue_moves w w' rows n sound none may (g, left, posted, does, after) =
    subst (MovesOrNone (Issue n) w) (sym after) (issue_some w rows n (issuing (process_at w.guest n)) g left posted sound refl may none does)
