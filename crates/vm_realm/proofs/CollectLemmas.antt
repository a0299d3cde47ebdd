-- A reply that is collected moves the slice of its handle; that to a raw line moves none.
use Rattle.std.proofs.Common.{◌≡◌, ◌⊎◌, ℕ, ◌+◌, ◌<◌, Bool, true, false, not, List, [], ◌∷◌, Option, Some, None, is_some, length, set, refl, sym, ap, ◌∙◌, subst, arith, inl, inr, eqb, cond, if◌then◌else◌}
use Rattle.std.specs.Prelude.{◌&&◌}
use Rattle.std.specs.List.{filter}
use Rattle.std.specs.Option.{option_and_then}
use Rattle.std.proofs.lemmas.Bool.{false≢true, cases_Bool, cases_eq, cond-true, cond-false, eq-eqb, ne_eqb, eqb-true, and_left}
use Rattle.std.proofs.lemmas.List.{append-nil, length-set, nil_from_length, get_or-set_same, get_or-set_other}
use Rattle.std.proofs.lemmas.Option.{none-some, same_Some}
use Rattle.vm_home.specs.Moves.{is_stopping}
use Rattle.vm_link.specs.declared.link.Turn.TheVariants.{Did, Idle}
use Rattle.vm_local.specs.declared.call.Call.{Call}
use Rattle.vm_local.specs.declared.call.Call.TheVariants.{OpenHandle}
use Rattle.vm_local.specs.declared.reply.Reply.{Reply}
use Rattle.vm_local.specs.declared.reply.Reply.TheVariants.{Done, Refused}
use Rattle.vm_local.specs.State.{LocalState}
use Rattle.vm_log.specs.LegalLog.{state_of}
use Rattle.vm_script.specs.declared.line.LineKind.{LineKind}
use Rattle.vm_script.specs.declared.line.LineKind.TheVariants.{OnHandle, Raw}
use Rattle.vm_script.specs.declared.line.RawChain.{RawChain}
use Rattle.vm_wire.specs.Message.{Returning}
use Rattle.vm_wire.specs.Wire.{response_of}
use Rattle.vm_wire.specs.declared.command.Command.{Command}
use Rattle.vm_wire.specs.declared.command.Command.TheVariants.{OpenSession}
use Rattle.vm_wire.specs.declared.delivery.Delivery.{Delivery}
use Rattle.vm_wire.specs.declared.response.Response.{Response}
use Rattle.vm_exchange.specs.Exchange.{IsAnswer, command_in, response_to}
use Rattle.vm_handle.specs.Answers.{session_from, with_reply, delivered}
use Rattle.vm_handle.specs.Handle.{HandleState, crossing_from}
use Rattle.vm_handle.specs.declared.stage.Stage.TheVariants.{Underway}
use Rattle.vm_guest.specs.Asking.{asked_by, asked_in, ends_with_events}
use Rattle.vm_guest.specs.Events.{told, told_at, all_told, events_of, events_of_others, caught_up, settled}
use Rattle.vm_guest.specs.Guest.{GuestState, no_process, process_in, process_at, with_process}
use Rattle.vm_guest.specs.Lines.{CallAnswered, RawAnswered, AnsweredFor}
use Rattle.vm_guest.specs.Orderly.{IsOutAt}
use Rattle.vm_guest.specs.Part.{Inbox, Outbox, CollectsFrom, Collects as GuestCollects}
use Rattle.vm_guest.specs.Process.{ProcessState, is_crossing, is_blocked, is_answered_in, some_if, current, current_call, crossing, crossing_call, handle_at, with_handle, no_handle, rested}
use Rattle.vm_guest.specs.Steps.{Collected}
use Rattle.vm_guest.specs.declared.asked.Asked.{Asked as AskedCall}
use Rattle.vm_guest.specs.declared.asked.Statement.{Statement}
use Rattle.vm_guest.specs.declared.seat.Seat.{Seat}
use Rattle.vm_guest.specs.declared.status.Status.TheVariants.{AtRest, Crossing}
use Rattle.vm_realm.specs.declared.step.Step.TheVariants.{Collect}
use Rattle.vm_realm.specs.World.{WorldState, jobs_out}
use Rattle.vm_realm.specs.Inner.{Inner}
use Rattle.vm_realm.specs.Steps.{inbox_of, after_driver, DriverDoes}
use Rattle.vm_realm.specs.Slice.{Slice, id_told, id_ahead, session_in, job_in, events_for, requests_of, calls_of, replies_of, out_from, out_of, is_on, out_at, slice_with, slice_at, SameEverywhere}
use Rattle.vm_realm.specs.Slice.Out.{Nowhere, Told}
use Rattle.vm_realm.specs.SliceSteps.{all_delivered, MovesOne, takes_by, takes_for, TakesNone}
use Rattle.vm_realm.specs.Sound.{IsSoundBy, id_at, out_count, one_if}
use Rattle.vm_realm.proofs.SumLemmas.{place_within}
use Rattle.vm_realm.proofs.ProcessLemmas.{some_where, crossing_where}
use Rattle.vm_realm.proofs.FrameLemmas.{same_slice, has_handle}
use Rattle.vm_realm.proofs.LendLemmas.{nowhere, call_there}
use Rattle.vm_realm.proofs.IssueLemmas.{MovesOrNone, none_first}
use Rattle.vm_realm.proofs.TakeLemmas.{delivered_session}

-- ---- what was held back is delivered to a process at rest

pub all_delivered_session : (h : HandleState) (ds : List Delivery) → (all_delivered h ds).session ≡ h.session
all_delivered_session h [] = refl
all_delivered_session h (d ∷ ds) = all_delivered_session (delivered h d.msg d.held) ds ∙ delivered_session h d.msg d.held

-- a process at rest that is told an event is the one whose handle has it
told_rest : (p : ProcessState) (h : ℕ) (d : Delivery) → p.status ≡ AtRest → told p h d ≡ with_handle p h (delivered (handle_at p h) d.msg d.held)
told_rest p h d rest =
    let q : ProcessState = with_handle p h (delivered (handle_at p h) d.msg d.held) in
    let answered : Bool = is_answered_in q.handles (current_call q) in
    cond-false (is_blocked q.status && answered) (rested q) q (and_left (is_blocked q.status) answered (ap is_blocked rest))

-- what becomes of the processes
pub record Catches (ps qs : List ProcessState) (n h : ℕ) (ds : List Delivery) : Type 0 where
  pub count : length qs ≡ length ps
  pub handle : handle_at (process_in qs n) h ≡ all_delivered (handle_at (process_in ps n) h) ds
  pub status : (process_in qs n).status ≡ AtRest
  pub others : (k : ℕ) → ¬ (k ≡ h) → handle_at (process_in qs n) k ≡ handle_at (process_in ps n) k
  pub elsewhere : (m : ℕ) → ¬ (m ≡ n) → process_in qs m ≡ process_in ps m

catches : (ds : List Delivery) (ps : List ProcessState) (n h : ℕ) → n < length ps → h < length (process_in ps n).handles → (process_in ps n).status ≡ AtRest →
    Catches ps (all_told ps (record { process = n; handle = h }) ds) n h ds
catches [] ps n h within there rest = record { count = refl; handle = refl; status = rest; others = λ k other. refl; elsewhere = λ m other. refl }
catches (d ∷ ds) ps n h within there rest =
    let seat : Seat = record { process = n; handle = h } in
    let p : ProcessState = process_in ps n in
    let y : HandleState = delivered (handle_at p h) d.msg d.held in
    let qs : List ProcessState = told_at ps seat d in
    let now : process_in qs n ≡ with_handle p h y = get_or-set_same ps n (told p h d) no_process within ∙ told_rest p h d rest in
    let handle : handle_at (process_in qs n) h ≡ y = ap (λ (q : ProcessState). handle_at q h) now ∙ get_or-set_same p.handles h y no_handle there in
    let long : length (process_in qs n).handles ≡ length p.handles = ap (λ (q : ProcessState). length q.handles) now ∙ length-set p.handles h y in
    let rest_on : Catches qs (all_told qs seat ds) n h ds =
    catches ds qs n h (omega (arith, within, length-set ps n (told p h d))) (omega (arith, there, long)) (ap (λ (q : ProcessState). q.status) now ∙ rest) in
    record {
      count = rest_on.count ∙ length-set ps n (told p h d);
      handle = rest_on.handle ∙ ap (λ (x : HandleState). all_delivered x ds) handle;
      status = rest_on.status;
      others = λ k other. rest_on.others k other ∙ (ap (λ (q : ProcessState). handle_at q k) now ∙ get_or-set_other p.handles h k y no_handle other);
      elsewhere = λ m other. rest_on.elsewhere m other ∙ get_or-set_other ps n m (told p h d) no_process other;
    }

-- ---- events of others

none_own : (k : ℕ) (ds : List Delivery) → events_of k (events_of_others k ds) ≡ []
none_own k [] = refl
none_own k (d ∷ ds) = elim (cases_Bool (eqb d.session k)) [
  | inl own ↦ ap (events_of k) (cond-false (not (eqb d.session k)) (d ∷ events_of_others k ds) (events_of_others k ds) (ap not own)) ∙ none_own k ds
  | inr other ↦ ap (events_of k) (cond-true (not (eqb d.session k)) (d ∷ events_of_others k ds) (events_of_others k ds) (ap not other))
      ∙ (cond-false (eqb d.session k) (d ∷ events_of k (events_of_others k ds)) (events_of k (events_of_others k ds)) other ∙ none_own k ds)
]

others_kept : (i k : ℕ) (ds : List Delivery) → ¬ (i ≡ k) → events_of i (events_of_others k ds) ≡ events_of i ds
others_kept i k [] apart = refl
others_kept i k (d ∷ ds) apart = elim (cases_Bool (eqb d.session k)) [
  | inl own ↦ ap (events_of i) (cond-false (not (eqb d.session k)) (d ∷ events_of_others k ds) (events_of_others k ds) (ap not own))
      ∙ (others_kept i k ds apart ∙ sym (cond-false (eqb d.session i) (d ∷ events_of i ds) (events_of i ds) (ne_eqb d.session i (λ same. apart (sym same ∙ eqb-true d.session k own)))))
  | inr other ↦ ap (events_of i) (cond-true (not (eqb d.session k)) (d ∷ events_of_others k ds) (events_of_others k ds) (ap not other))
      ∙ ap (λ xs. cond (eqb d.session i) (d ∷ xs) xs) (others_kept i k ds apart)
]

-- ---- the world once a reply was collected

-- the driver came to this, and these replies are left
abbrev collected : WorldState → GuestState → List Returning → WorldState
collected w g rs = record w { guest = g; replies = rs }

-- nothing else of the process is out
record IsOne (w : WorldState) (n : ℕ) (r : Returning) : Type 0 where
  requests : requests_of w n ≡ []
  calls : calls_of w n ≡ []
  replies : replies_of w n ≡ r ∷ []

is_one : (w : WorldState) (rows : List (List Inner)) (r : Returning) (rs : List Returning) → IsSoundBy w rows → w.replies ≡ r ∷ rs → (process_at w.guest r.reply.who).status ≡ Crossing → IsOne w r.reply.who r
is_one w rows r rs sound is status =
    let n : ℕ = r.reply.who in
    let one : out_count w n ≡ 1 = sound.quiet.one n ∙ ap (λ s. one_if (is_crossing s)) status in
    let mine : replies_of w n ≡ r ∷ filter (λ (x : Returning). eqb x.reply.who n) rs =
    ap (filter (λ (x : Returning). eqb x.reply.who n)) is ∙ cond-true (eqb r.reply.who n) (r ∷ filter (λ (x : Returning). eqb x.reply.who n) rs) (filter (λ (x : Returning). eqb x.reply.who n) rs) (eq-eqb n n refl) in
    let more = ap length mine in
    let rest : filter (λ (x : Returning). eqb x.reply.who n) rs ≡ [] = nil_from_length (filter (λ (x : Returning). eqb x.reply.who n) rs) (omega (arith, one, more)) in
    record {
      requests = nil_from_length (requests_of w n) (omega (arith, one, more));
      calls = nil_from_length (calls_of w n) (omega (arith, one, more));
      replies = mine ∙ ap (λ xs. r ∷ xs) rest;
    }

pub others_told : (w : WorldState) (r : Returning) (rs : List Returning) (m : ℕ) → w.replies ≡ r ∷ rs → ¬ (m ≡ r.reply.who) → filter (λ (x : Returning). eqb x.reply.who m) rs ≡ replies_of w m
others_told w r rs m is apart =
    sym (ap (filter (λ (x : Returning). eqb x.reply.who m)) is
    ∙ cond-false (eqb r.reply.who m) (r ∷ filter (λ (x : Returning). eqb x.reply.who m) rs) (filter (λ (x : Returning). eqb x.reply.who m) rs) (ne_eqb r.reply.who m (λ same. apart (sym same))))

-- another process's handles are as they were
other_process : (w : WorldState) (g : GuestState) (r : Returning) (rs : List Returning) (m k : ℕ) → w.replies ≡ r ∷ rs → ¬ (m ≡ r.reply.who) → process_at g m ≡ process_at w.guest m →
    events_for (id_at w m k) g.pump.held ≡ events_for (id_at w m k) w.guest.pump.held → slice_at (collected w g rs) m k ≡ slice_at w m k
other_process w g r rs m k is apart process held =
    let out : out_of (collected w g rs) m ≡ out_of w m = ap (λ xs. out_from (requests_of w m) (calls_of w m) xs) (others_told w r rs m is apart) in
    same_slice w (collected w g rs) m k (record {
      handle = ap (λ (q : ProcessState). handle_at q k) process;
      out = λ j. if is_on (crossing_call (process j)) k then out j else Nowhere;
      held = held;
      events = refl;
      session = refl;
      job = refl;
    })

-- and so are the process's other ones
own_process : (w : WorldState) (g : GuestState) (rs : List Returning) (n k : ℕ) → handle_at (process_at g n) k ≡ handle_at (process_at w.guest n) k → is_crossing (process_at g n).status ≡ false →
    is_on (crossing_call (process_at w.guest n)) k ≡ false → events_for (id_at w n k) g.pump.held ≡ events_for (id_at w n k) w.guest.pump.held → slice_at (collected w g rs) n k ≡ slice_at w n k
own_process w g rs n k handle rest off held =
    same_slice w (collected w g rs) n k (record {
      handle = handle;
      out = ap (λ b. if is_on (some_if b (current_call (process_at g n))) k then out_of (collected w g rs) n else Nowhere) rest ∙ sym (ap (λ b. if b then out_of w n else Nowhere) off);
      held = held;
      events = refl;
      session = refl;
      job = refl;
    })

-- ---- a raw line

nothing_on : (b : Bool) (k : ℕ) → is_on (some_if b None) k ≡ false
nothing_on true k = refl
nothing_on false k = refl

raw_moves : (w : WorldState) (r : Returning) (rs : List Returning) (s : Statement) (chain : RawChain) (q : ProcessState) → w.replies ≡ r ∷ rs → r.reply.who < length w.guest.processes →
    current (process_at w.guest r.reply.who) ≡ Some s → s.what ≡ Raw chain → RawAnswered (process_at w.guest r.reply.who) r q → SameEverywhere w (collected w (with_process w.guest r.reply.who q) rs)
raw_moves w r rs s chain q is within now what (errno, told, after) m k = elim (cases_eq m r.reply.who) [
  | inl same ↦ subst (λ i. slice_at (collected w (with_process w.guest r.reply.who q) rs) i k ≡ slice_at w i k) (sym same)
      (own_process w (with_process w.guest r.reply.who q) rs r.reply.who k (ap (λ (p : ProcessState). handle_at p k) process) (ap (λ (p : ProcessState). is_crossing p.status) process) off refl)
  | inr apart ↦ other_process w (with_process w.guest r.reply.who q) r rs m k is apart (get_or-set_other w.guest.processes r.reply.who m q no_process apart) refl
]
  where
    process : process_at (with_process w.guest r.reply.who q) r.reply.who ≡ rested (record (process_at w.guest r.reply.who) { raws = set (process_at w.guest r.reply.who).raws (process_at w.guest r.reply.who).answered (Some errno) })
    process = get_or-set_same w.guest.processes r.reply.who q no_process within ∙ after

    none : current_call (process_at w.guest r.reply.who) ≡ None
    none = ap (λ o. option_and_then asked_by o) now ∙ ap (λ x. asked_in s.line x) what

    off : is_on (crossing_call (process_at w.guest r.reply.who)) k ≡ false
    off = ap (λ o. is_on (some_if (is_crossing (process_at w.guest r.reply.who).status) o) k) none ∙ nothing_on (is_crossing (process_at w.guest r.reply.who).status) k

-- ---- the id that a reply brings

-- the response tells whether an open brought a session, whatever the reply is read as
opened_told : (session : Option ℕ) (id : ℕ) (s : LocalState) (nonblock : Bool) (reply : Reply) (response : Response) → response ≡ response_to id s (OpenHandle nonblock) reply →
    session_from session (OpenHandle nonblock) Done response ≡ session_from session (OpenHandle nonblock) reply response
opened_told session id s nonblock Done response is = refl
opened_told session id s nonblock (Refused e) response is =
    ap (session_from session (OpenHandle nonblock) Done) is ∙ sym (ap (session_from session (OpenHandle nonblock) (Refused e)) is)
opened_told session id s nonblock reply response is =
    ap (session_from session (OpenHandle nonblock) Done) is ∙ sym (ap (session_from session (OpenHandle nonblock) reply) is)

pub command_opens : (h : HandleState) (nonblock : Bool) (c : Command) → command_in (crossing_from h (OpenHandle nonblock)) ≡ Some c → c ≡ OpenSession
command_opens h nonblock c crosses = sym (same_Some OpenSession c crosses)

pub session_told : (h : HandleState) (call : Call) (c : Command) (line : ℕ) (bytes : List ℕ) (reply : Reply) → command_in (crossing_from h call) ≡ Some c → IsAnswer (state_of h.log) line call (response_of c bytes) reply →
    session_from h.session call Done (response_of OpenSession bytes) ≡ session_from h.session call reply (response_of c bytes)
session_told h (OpenHandle nonblock) c line bytes reply crosses (next, id, (is_call, told)) =
    let same : c ≡ OpenSession = command_opens h nonblock c crosses in
    ap (λ (x : Command). session_from h.session (OpenHandle nonblock) Done (response_of x bytes)) (sym same)
    ∙ opened_told h.session id (state_of h.log) nonblock reply (response_of c bytes) told
session_told h call c line bytes reply crosses answer = refl

-- ---- a handle's call

-- what is collected of a handle's call
record Answered (w : WorldState) (r : Returning) (s : Statement) (h : ℕ) (call : Call) (q : ProcessState) : Type 0 where
  within : r.reply.who < length w.guest.processes
  status : (process_at w.guest r.reply.who).status ≡ Crossing
  now : current (process_at w.guest r.reply.who) ≡ Some s
  what : s.what ≡ OnHandle h call
  there : h < length (process_at w.guest r.reply.who).handles
  stage : (handle_at (process_at w.guest r.reply.who) h).stage ≡ Underway s.line call
  quiet : is_stopping call ≡ true → w.events ≡ []
  answers : CallAnswered s.line h call (process_at w.guest r.reply.who) r q

pub none_for : (id : Option ℕ) → events_for id [] ≡ []
none_for None = refl
none_for (Some k) = refl

-- the driver once the reply was logged and what was held back was delivered
record CaughtUp (w : WorldState) (n h : ℕ) (y : HandleState) (g : GuestState) : Type 0 where
  handle : handle_at (process_at g n) h ≡ all_delivered y (events_for y.session w.guest.pump.held)
  rest : is_crossing (process_at g n).status ≡ false
  others : (k : ℕ) → ¬ (k ≡ h) → handle_at (process_at g n) k ≡ handle_at (process_at w.guest n) k
  elsewhere : (m : ℕ) → ¬ (m ≡ n) → process_at g m ≡ process_at w.guest m
  own : events_for y.session g.pump.held ≡ []
  kept : (id : Option ℕ) → ¬ (id ≡ y.session) ⊎ (id ≡ None) → events_for id g.pump.held ≡ events_for id w.guest.pump.held

kept_by_others : (k : ℕ) (session id : Option ℕ) (held : List Delivery) → session ≡ Some k → ¬ (id ≡ session) ⊎ (id ≡ None) → events_for id (events_of_others k held) ≡ events_for id held
kept_by_others k session None held is other = refl
kept_by_others k session (Some i) held is (inl other) = others_kept i k held (λ same. other (ap Some same ∙ sym is))
kept_by_others k session (Some i) held is (inr none) = absurd (none-some i (sym none))

catch_up : (w : WorldState) (n h : ℕ) (y : HandleState) (o : Option ℕ) → n < length w.guest.processes → h < length (process_at w.guest n).handles → y.session ≡ o →
    CaughtUp w n h y (caught_up o (with_process w.guest n (rested (with_handle (process_at w.guest n) h y))) (record { process = n; handle = h }))
catch_up w n h y None within there is =
    let q : ProcessState = rested (with_handle (process_at w.guest n) h y) in
    let now : process_at (with_process w.guest n q) n ≡ q = get_or-set_same w.guest.processes n q no_process within in
    record {
      handle = ap (λ (p : ProcessState). handle_at p h) now
          ∙ (get_or-set_same (process_at w.guest n).handles h y no_handle there ∙ sym (ap (λ id. all_delivered y (events_for id w.guest.pump.held)) is));
      rest = ap (λ (p : ProcessState). is_crossing p.status) now;
      others = λ k apart. ap (λ (p : ProcessState). handle_at p k) now ∙ get_or-set_other (process_at w.guest n).handles h k y no_handle apart;
      elsewhere = λ m apart. get_or-set_other w.guest.processes n m q no_process apart;
      own = ap (λ id. events_for id w.guest.pump.held) is;
      kept = λ id other. refl;
    }
catch_up w n h y (Some k) within there is =
    let q : ProcessState = rested (with_handle (process_at w.guest n) h y) in
    let g : GuestState = with_process w.guest n q in
    let held : List Delivery = w.guest.pump.held in
    let now : process_at g n ≡ q = get_or-set_same w.guest.processes n q no_process within in
    let long : length (process_at g n).handles ≡ length (process_at w.guest n).handles = ap (λ (p : ProcessState). length p.handles) now ∙ length-set (process_at w.guest n).handles h y in
    let all : Catches g.processes (all_told g.processes (record { process = n; handle = h }) (events_of k held)) n h (events_of k held) =
    catches (events_of k held) g.processes n h (omega (arith, within, length-set w.guest.processes n q)) (omega (arith, there, long)) (ap (λ (p : ProcessState). p.status) now) in
    let here : handle_at (process_at g n) h ≡ y = ap (λ (p : ProcessState). handle_at p h) now ∙ get_or-set_same (process_at w.guest n).handles h y no_handle there in
    record {
      handle = all.handle ∙ (ap (λ (x : HandleState). all_delivered x (events_of k held)) here ∙ sym (ap (λ id. all_delivered y (events_for id held)) is));
      rest = ap is_crossing all.status;
      others = λ i apart. all.others i apart ∙ (ap (λ (p : ProcessState). handle_at p i) now ∙ get_or-set_other (process_at w.guest n).handles h i y no_handle apart);
      elsewhere = λ m apart. all.elsewhere m apart ∙ get_or-set_other w.guest.processes n m q no_process apart;
      own = ap (λ id. events_for id (events_of_others k held)) is ∙ none_own k held;
      kept = λ id other. kept_by_others k y.session id held is other;
    }

call_moves : (w : WorldState) (rows : List (List Inner)) (r : Returning) (rs : List Returning) (s : Statement) (h : ℕ) (call : Call) (q : ProcessState) → IsSoundBy w rows → w.replies ≡ r ∷ rs → Answered w r s h call q →
    MovesOne Collect w (collected w (settled s.what (with_process w.guest r.reply.who q) r.reply.who) rs)
call_moves w rows r rs s h call q sound is a =
    let n : ℕ = r.reply.who in
    let p : ProcessState = process_at w.guest n in
    let hd : HandleState = handle_at p h in
    let may = a.answers.may.may in
    let reply : Reply = may.reply in
    let c : Command = a.answers.command in
    let answer : IsAnswer (state_of hd.log) s.line call (response_of c r.reply.bytes) reply = (may.next, may.session, (may.is_call, may.told)) in
    let y : HandleState = with_reply hd s.line call reply (response_of c r.reply.bytes) r.held in
    let seat : Seat = record { process = n; handle = h } in
    let g1 : GuestState = with_process w.guest n (rested (with_handle p h y)) in
    let g : GuestState = caught_up y.session g1 seat in
    let up : CaughtUp w n h y g = catch_up w n h y y.session a.within a.there refl in
    let first_handle : handle_at (process_at g1 n) h ≡ y =
    ap (λ (z : ProcessState). handle_at z h) (get_or-set_same w.guest.processes n (rested (with_handle p h y)) no_process a.within) ∙ get_or-set_same p.handles h y no_handle a.there in
    let ends : collected w (settled s.what (with_process w.guest n q) n) rs ≡ collected w g rs =
    ap (λ z. collected w (settled s.what (with_process w.guest n z) n) rs) (a.answers.after reply answer)
    ∙ (ap (λ k. collected w (settled k g1 n) rs) a.what ∙ ap (λ (z : HandleState). collected w (caught_up z.session g1 seat) rs) first_handle) in
    let v : WorldState = collected w g rs in
    let x : Slice = slice_at w n h in
    let id : Option ℕ = id_at w n h in
    let crosses : crossing_call p ≡ Some (record { line = s.line; handle = h; call = call }) =
    ap (λ t. some_if (is_crossing t) (current_call p)) a.status ∙ (ap (λ o. option_and_then asked_by o) a.now ∙ ap (λ k. asked_in s.line k) a.what) in
    let one : IsOne w n r = is_one w rows r rs sound is a.status in
    let all : out_of w n ≡ Told r = λ j. out_from (one.requests j) (one.calls j) (one.replies j) in
    let out : out_at w n h ≡ Told r = ap (λ o. if is_on o h then out_of w n else Nowhere) crosses ∙ (ap (λ b. if b then out_of w n else Nowhere) (eq-eqb h h refl) ∙ all) in
    let own_id : id ≡ y.session =
    ap (id_ahead hd) out ∙ (ap (λ t. id_told t hd.session r) a.stage ∙ session_told hd call c s.line r.reply.bytes reply a.answers.crossed answer) in
    let after_handle : HandleState = all_delivered y x.held in
    let handle : handle_at (process_at g n) h ≡ after_handle = up.handle ∙ sym (ap (λ i. all_delivered y (events_for i w.guest.pump.held)) own_id) in
    let out_after : out_at v n h ≡ Nowhere = nowhere v n h (process_at g n) up.rest in
    let begins : slice_at v n h ≡ slice_with v n after_handle Nowhere = λ j. slice_with v n (handle j) (out_after j) in
    let with_id : Option ℕ → Slice = λ i. record {
      who = n;
      handle = after_handle;
      out = Nowhere;
      held = events_for i g.pump.held;
      events = events_for i w.events;
      session = session_in w.host.device i;
      job = job_in (jobs_out w) i;
    } in
    let none_held : events_for id g.pump.held ≡ [] = ap (λ i. events_for i g.pump.held) own_id ∙ up.own in
    let moved : slice_at v n h ≡ record x { handle = after_handle; out = Nowhere; held = [] } =
    begins ∙ (ap with_id (all_delivered_session y x.held ∙ sym own_id) ∙ (λ j. record x { handle = after_handle; out = Nowhere; held = none_held j })) in
    subst (MovesOne Collect w) (sym ends) (record {
      process = n;
      handle = h;
      does = (
        s.line,
        call,
        c,
        r,
        reply,
        a.stage,
        out,
        a.answers.crossed,
        (λ stops. ap (events_for id) (a.quiet stops) ∙ none_for id),
        a.answers.may,
        answer,
        moved,
      );
      others = λ m k other. elim (cases_eq m n) [
        | inl same ↦ subst (λ i. slice_at v i k ≡ slice_at w i k) (sym same)
            (own_process w g rs n k (up.others k (λ is_h. other (same, is_h))) up.rest (ap (λ o. is_on o k) crosses ∙ ne_eqb h k (λ is_h. other (same, sym is_h)))
            (up.kept (id_at w n k) (apart_id n k y.session own_id (λ both. other (same, both.1)) (id_at w n k) refl)))
        | inr differs ↦ other_process w g r rs m k is differs (up.elsewhere m differs) (up.kept (id_at w m k) (apart_id m k y.session own_id other (id_at w m k) refl))
      ];
    })
  where
    apart_id : (m k : ℕ) (o : Option ℕ) → id_at w r.reply.who h ≡ o → ¬ ((m ≡ r.reply.who) × (k ≡ h)) → (i : Option ℕ) → id_at w m k ≡ i → ¬ (i ≡ o) ⊎ (i ≡ None)
    apart_id m k o own other None mine = inr refl
    apart_id m k o own other (Some i) mine = inl (λ same. other (sound.ids.once m k r.reply.who h i (has_handle w m k i mine) (has_handle w r.reply.who h i (own ∙ sym same)) mine (own ∙ sym same)))

-- ---- Collect

collect_what : (w : WorldState) (rows : List (List Inner)) (r : Returning) (rs : List Returning) (s : Statement) (what : LineKind) (q : ProcessState) → IsSoundBy w rows → w.replies ≡ r ∷ rs →
    crossing (process_at w.guest r.reply.who) ≡ Some s → s.what ≡ what → (ends_with_events what ≡ false) ⊎ (w.events ≡ []) → AnsweredFor s.line what (process_at w.guest r.reply.who) r q →
    MovesOrNone Collect w (collected w (settled s.what (with_process w.guest r.reply.who q) r.reply.who) rs)
collect_what w rows r rs s (Raw chain) q sound is now what none answers =
    let within : r.reply.who < length w.guest.processes = place_within (λ (y : ProcessState). is_some (crossing y)) w.guest.processes r.reply.who no_process refl (ap is_some now) in
    let line : current (process_at w.guest r.reply.who) ≡ Some s = (some_where (is_crossing (process_at w.guest r.reply.who).status) (current (process_at w.guest r.reply.who)) s now).1 in
    subst (λ k. MovesOrNone Collect w (collected w (settled k (with_process w.guest r.reply.who q) r.reply.who) rs)) (sym what) (inr (raw_moves w r rs s chain q is within line what answers))
collect_what w rows r rs s (OnHandle h call) q sound is now what none answers =
    let n : ℕ = r.reply.who in
    let p : ProcessState = process_at w.guest n in
    let asked : AskedCall = record { line = s.line; handle = h; call = call } in
    let within : n < length w.guest.processes = place_within (λ (y : ProcessState). is_some (crossing y)) w.guest.processes n no_process refl (ap is_some now) in
    let line : current p ≡ Some s = (some_where (is_crossing p.status) (current p) s now).1 in
    let status : p.status ≡ Crossing = crossing_where p (current p) s now in
    let there : h < length p.handles = call_there w n s asked sound.lines within line (ap (λ k. asked_in s.line k) what) in
    let called : current_call p ≡ Some asked = ap (λ o. option_and_then asked_by o) line ∙ ap (λ k. asked_in s.line k) what in
    let out : IsOutAt Crossing (Some asked) h (handle_at p h) =
    subst (λ t. IsOutAt t (Some asked) h (handle_at p h)) status (subst (λ o. IsOutAt p.status o h (handle_at p h)) called ((sound.lines.orderly n within).out h there)) in
    inl (call_moves w rows r rs s h call q sound is (record {
      within = within;
      status = status;
      now = line;
      what = what;
      there = there;
      stage = out.0 refl;
      quiet = λ stops. quiet_by none stops;
      answers = answers;
    }))
  where
    quiet_by : (is_stopping call ≡ false) ⊎ (w.events ≡ []) → is_stopping call ≡ true → w.events ≡ []
    quiet_by (inl free) stops = absurd (false≢true (sym free ∙ stops))
    quiet_by (inr none) stops = none

not_idle : Did ≡ Idle → ⊥
not_idle same = cc

first_takes : (g : GuestState) (r : Returning) (rs : List Returning) (s : Statement) → crossing (process_at g r.reply.who) ≡ Some s → takes_for g (r ∷ rs) ≡ ends_with_events s.what
first_takes g r rs s is = ap (λ o. takes_by o (λ (t : Statement). ends_with_events t.what)) is

collect_by : (w : WorldState) (rows : List (List Inner)) (replies : List Returning) (g : GuestState) (left : Inbox) (posted : Outbox) → IsSoundBy w rows → w.replies ≡ replies →
    (takes_for w.guest replies ≡ false) ⊎ (w.events ≡ []) → CollectsFrom replies w.guest (inbox_of w) Did g left posted → MovesOrNone Collect w (after_driver w g left posted)
collect_by w rows [] g left posted sound is none (turn, same, kept, nothing) = absurd (not_idle turn)
collect_by w rows (r ∷ rs) g left posted sound is none (turn, d) =
    let s : Statement = d.statement in
    let b : Bool = ends_with_events s.what in
    let quiet : (b ≡ false) ⊎ (w.events ≡ []) = elim none [ inl free ↦ inl (sym (first_takes w.guest r rs s d.under_way) ∙ free) | inr empty ↦ inr empty ] in
    let first : _ = none_first b w.events quiet in
    let done : Collected s w.guest [] r g = subst (λ es. Collected s w.guest es r g) first.0 d.collected in
    let kept_with : List Delivery → Inbox = λ es. record { replies = rs; events = es } in
    let gives_for : List Delivery → Outbox = λ es. record { commands = []; chains = length es } in
    let here : left ≡ kept_with w.events = d.left ∙ ap kept_with first.1 in
    let told : posted ≡ gives_for [] = (λ j. record { commands = d.commands j; chains = d.chains j }) ∙ ap gives_for first.0 in
    let chains : w.chains + 0 ≡ w.chains = omega arith in
    let ends : after_driver w g left posted ≡ collected w (settled s.what (with_process w.guest r.reply.who done.process) r.reply.who) rs =
    ap (λ i. after_driver w g i posted) here ∙ (ap (λ o. after_driver w g (kept_with w.events) o) told
    ∙ (λ j. record w { guest = done.after j; requests = append-nil w.requests j; replies = rs; chains = chains j })) in
    subst (MovesOrNone Collect w) (sym ends) (collect_what w rows r rs s s.what done.process sound is d.under_way refl quiet done.answers)

pub collect_moves : (w w' : WorldState) (rows : List (List Inner)) → IsSoundBy w rows → TakesNone w Collect → DriverDoes GuestCollects w w' → MovesOrNone Collect w w'
collect_moves w w' rows sound none (g, left, posted, does, after) =
    subst (MovesOrNone Collect w) (sym after) (collect_by w rows w.replies g left posted sound refl none does)
