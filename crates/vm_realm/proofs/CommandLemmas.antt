-- A command that the device does, or lets wait, moves the slice of its handle; that of a raw line moves none.
use Rattle.std.proofs.Common.{◌≡◌, ◌⊎◌, ℕ, ◌+◌, ◌<◌, ◌≤◌, ◌^◌, Bool, true, false, nat_lt, List, [], ◌∷◌, ◌++◌, Option, Some, None, Ok, Err, length, get_or, refl, sym, ap, ◌∙◌, subst, arith, inl, inr, eqb, cond, if◌then◌else◌, lit<}
use Rattle.std.specs.Prelude.{slice_get}
use Rattle.std.specs.List.{All, Contains, filter, find}
use Rattle.std.specs.Option.{option_and_then, option_to_list}
use Rattle.std.proofs.lemmas.Bool.{false≢true, true≢false, cases_Bool, cases_eq, cond-true, cond-false, eq-eqb, ne_eqb, eqb-true}
use Rattle.std.proofs.lemmas.List.{append-nil, length-map, nil_from_length}
use Rattle.std.proofs.lemmas.List.Elements.{filter-append, All-contains, All-get_or}
use Rattle.std.proofs.lemmas.Option.{none-some, same_Some, slice_get-get_or}
use Rattle.v4l_const.specs.Errno.{errno_number}
use Rattle.v4l_const.specs.declared.errno.Errno.TheVariants.{Enomem}
use Rattle.vm_frame.specs.declared.mem.Held.{Held}
use Rattle.vm_local.specs.declared.call.Call.{Call}
use Rattle.vm_local.specs.declared.call.Call.TheVariants.{OpenHandle}
use Rattle.vm_local.specs.declared.reply.Reply.TheVariants.{Done}
use Rattle.vm_log.specs.LegalLog.{state_of}
use Rattle.vm_script.specs.Script.{ProcessLines}
use Rattle.vm_script.specs.declared.line.Line.{Line}
use Rattle.vm_script.specs.declared.line.LineKind.{LineKind}
use Rattle.vm_script.specs.declared.line.LineKind.TheVariants.{OnHandle, Raw}
use Rattle.vm_script.specs.declared.line.RawChain.{RawChain}
use Rattle.vm_wire.specs.Message.{Ask, Posting, Returning}
use Rattle.vm_wire.specs.Message.Ask.{Unusable, Judged}
use Rattle.vm_wire.specs.Wire.{response_bytes, response_of}
use Rattle.vm_wire.specs.declared.command.Command.{Command}
use Rattle.vm_wire.specs.declared.command.Command.TheVariants.{OpenSession}
use Rattle.vm_wire.specs.declared.response.Response.{Response}
use Rattle.vm_wire.specs.declared.response.Response.TheVariants.{Opened, Refused as Denied}
use Rattle.vm_wire.proofs.WireLemmas.{response_again}
use Rattle.vm_exchange.specs.declared.crossing.Crossing.{Crossing as CrossingOf}
use Rattle.vm_handle.specs.Answers.{session_from}
use Rattle.vm_handle.specs.Handle.{HandleState, crossing_from}
use Rattle.vm_handle.specs.declared.stage.Stage.TheVariants.{Underway}
use Rattle.vm_device.specs.Device.{DeviceState, session_of, is_at_rest}
use Rattle.vm_device.specs.Perform.{Answer, Performs, opened, must_wait}
use Rattle.vm_host.specs.Chains.{named_session}
use Rattle.vm_host.specs.Part.{Part, Call as WaitingCall, call_for, returning, ExecutedCommand, ExecutedAsk, Executed, ResumedCall}
use Rattle.vm_host.specs.Waiting.{put_in, taken_out}
use Rattle.vm_guest.specs.Asking.{asked_by, asked_in}
use Rattle.vm_guest.specs.Guest.{no_process, process_at}
use Rattle.vm_guest.specs.Message.{OfRaw, posting_of}
use Rattle.vm_guest.specs.Orderly.{IsOrderly, lines_at}
use Rattle.vm_guest.specs.Process.{ProcessState, begun, is_at_rest as rests, is_crossing, current, current_call, some_if, crossing, crossing_call, handle_at}
use Rattle.vm_guest.specs.Raw.{raw_ask}
use Rattle.vm_guest.specs.declared.asked.Asked.{Asked as AskedCall}
use Rattle.vm_guest.specs.declared.asked.Statement.{Statement}
use Rattle.vm_guest.specs.declared.status.Status.{Status}
use Rattle.vm_guest.specs.declared.status.Status.TheVariants.{AtRest, Crossing, Blocked, Lent}
use Rattle.vm_realm.specs.declared.step.Step.TheVariants.{Execute, Resume}
use Rattle.vm_realm.specs.World.{WorldState}
use Rattle.vm_realm.specs.Inner.{Inner}
use Rattle.vm_realm.specs.Steps.{after_device, DoesExecute, DoesResume}
use Rattle.vm_realm.specs.Slice.{Slice, Out, id_told, id_ahead, session_in, job_in, events_for, requests_of, calls_of, replies_of, out_from, out_of, is_on, out_at, slice_with, slice_at, SameEverywhere, SameElsewhere}
use Rattle.vm_realm.specs.Slice.Out.{Nowhere, Asked, Kept, Told, Astray}
use Rattle.vm_realm.specs.SliceSteps.{told_by, IsDeviceOf, IsServedUnless, MovesOne, IsFirst}
use Rattle.vm_realm.specs.Sound.{IsPosted, IsOut, IsSoundSlice, IsSoundBy, IsHandle, IsRawOut, IsLineOut, IsRefused, CanRun, NamesNone, id_at, inner_at, out_count, one_if}
use Rattle.vm_realm.proofs.SumLemmas.{place_within}
use Rattle.vm_realm.proofs.PartLemmas.{find_in}
use Rattle.vm_realm.proofs.DeviceLemmas.{performs_adds}
use Rattle.vm_realm.proofs.FrameLemmas.{same_slice, has_handle, handle_there}
use Rattle.vm_realm.proofs.MoveLemmas.{at_of, kept_who}
use Rattle.vm_realm.proofs.WaitingLemmas.{command_same}
use Rattle.vm_realm.proofs.LendLemmas.{line_at, call_there}
use Rattle.vm_realm.proofs.IssueLemmas.{MovesOrNone}
use Rattle.vm_realm.proofs.ShareLemmas.{log_model, mapping_live}
use Rattle.vm_realm.proofs.SessionLemmas.{open_has, NamesOwn, names_own, stays_elsewhere, refused_leaves, refused_goes, few_sessions, IsNew, is_new}

-- ---- the world once a command was done, or waits

abbrev pub commanded : WorldState → Part → List Posting → List Returning → WorldState
commanded w host ms rs = record w { host = host; requests = ms; replies = rs }

-- where the call of the handle goes, nothing else of the link changes
pub record Commands (w : WorldState) (n h : ℕ) (host : Part) (ms : List Posting) (rs : List Returning) (o : Out) : Type 0 where
  pub on : is_on (crossing_call (process_at w.guest n)) h ≡ true
  pub out : out_of (commanded w host ms rs) n ≡ o
  pub others : (i : ℕ) → ¬ (i ≡ n) → out_of (commanded w host ms rs) i ≡ out_of w i
  pub sessions : (i k : ℕ) → ¬ ((i ≡ n) × (k ≡ h)) → session_in host.device (id_at w i k) ≡ session_in w.host.device (id_at w i k)
  pub jobs : host.device.jobs ≡ w.host.device.jobs

off_other : (o : Option AskedCall) (h k : ℕ) → is_on o h ≡ true → ¬ (k ≡ h) → is_on o k ≡ false
off_other None h k on other = absurd (false≢true on)
off_other (Some a) h k on other = ne_eqb a.handle k (λ same. other (sym same ∙ eqb-true a.handle h on))

pub command_others : (w : WorldState) (n h : ℕ) (host : Part) (ms : List Posting) (rs : List Returning) (o : Out) → Commands w n h host ms rs o → SameElsewhere n h w (commanded w host ms rs)
command_others w n h host ms rs o c i k other = same_slice w (commanded w host ms rs) i k (record {
  handle = refl;
  out = elim (cases_eq i n) [ inl same ↦ own same | inr apart ↦ ap (λ x. if is_on (crossing_call (process_at w.guest i)) k then x else Nowhere) (c.others i apart) ];
  held = refl;
  events = refl;
  session = c.sessions i k other;
  job = ap (λ js. job_in js (id_at w i k)) c.jobs;
})
  where
    own : i ≡ n → out_at (commanded w host ms rs) i k ≡ out_at w i k
    own same =
        let off : is_on (crossing_call (process_at w.guest i)) k ≡ false =
        ap (λ j. is_on (crossing_call (process_at w.guest j)) k) same ∙ off_other (crossing_call (process_at w.guest n)) h k c.on (λ is. other (same, is)) in
        ap (λ b. if b then out_of (commanded w host ms rs) i else Nowhere) off ∙ sym (ap (λ b. if b then out_of w i else Nowhere) off)

-- what is of one id is what is of another one
pub record SameFor (w : WorldState) (before now : Option ℕ) : Type 0 where
  pub held : events_for now w.guest.pump.held ≡ events_for before w.guest.pump.held
  pub events : events_for now w.events ≡ events_for before w.events
  pub job : job_in w.host.device.jobs now ≡ job_in w.host.device.jobs before

pub same_for : (w : WorldState) (before now : Option ℕ) → now ≡ before → SameFor w before now
same_for w before now is = record {
  held = ap (λ id. events_for id w.guest.pump.held) is;
  events = ap (λ id. events_for id w.events) is;
  job = ap (job_in w.host.device.jobs) is;
}

pub command_own : (w : WorldState) (n h : ℕ) (host : Part) (ms : List Posting) (rs : List Returning) (o : Out) → Commands w n h host ms rs o → SameFor w (id_at w n h) (id_ahead (handle_at (process_at w.guest n) h) o) →
    slice_at (commanded w host ms rs) n h ≡ record (slice_at w n h) { out = o; session = session_in host.device (id_ahead (handle_at (process_at w.guest n) h) o) }
command_own w n h host ms rs o c same =
    let v : WorldState = commanded w host ms rs in
    let x : Slice = slice_at w n h in
    let hd : HandleState = handle_at (process_at w.guest n) h in
    let id : Option ℕ = id_ahead hd o in
    let out : out_at v n h ≡ o = ap (λ b. if b then out_of v n else Nowhere) c.on ∙ c.out in
    let job : job_in host.device.jobs id ≡ x.job = ap (λ js. job_in js id) c.jobs ∙ same.job in
    ap (slice_with v n hd) out ∙ (λ j. record { who = n; handle = hd; out = o; held = same.held j; events = same.events j; session = session_in host.device id; job = job j })

-- ---- lists of the link

pub own_more : (rs : List Returning) (n : ℕ) (r : Returning) → r.reply.who ≡ n → filter (λ (y : Returning). eqb y.reply.who n) (rs ++ r ∷ []) ≡ filter (λ (y : Returning). eqb y.reply.who n) rs ++ r ∷ []
own_more rs n r who =
    filter-append (λ (y : Returning). eqb y.reply.who n) rs (r ∷ [])
    ∙ ap (λ ys. filter (λ (y : Returning). eqb y.reply.who n) rs ++ ys) (cond-true (eqb r.reply.who n) (r ∷ []) [] (eq-eqb r.reply.who n who))

pub others_more : (rs : List Returning) (n i : ℕ) (r : Returning) → r.reply.who ≡ n → ¬ (i ≡ n) → filter (λ (y : Returning). eqb y.reply.who i) (rs ++ r ∷ []) ≡ filter (λ (y : Returning). eqb y.reply.who i) rs
others_more rs n i r who apart =
    filter-append (λ (y : Returning). eqb y.reply.who i) rs (r ∷ [])
    ∙ (ap (λ ys. filter (λ (y : Returning). eqb y.reply.who i) rs ++ ys) (cond-false (eqb r.reply.who i) (r ∷ []) [] (ne_eqb r.reply.who i (λ same. apart (sym same ∙ who))))
    ∙ append-nil (filter (λ (y : Returning). eqb y.reply.who i) rs))

pub others_first : (w : WorldState) (m : Posting) (ms : List Posting) (i : ℕ) → w.requests ≡ m ∷ ms → ¬ (i ≡ m.request.who) → filter (λ (y : Posting). eqb y.request.who i) ms ≡ requests_of w i
others_first w m ms i is apart =
    sym (ap (filter (λ (y : Posting). eqb y.request.who i)) is
    ∙ cond-false (eqb m.request.who i) (m ∷ filter (λ (y : Posting). eqb y.request.who i) ms) (filter (λ (y : Posting). eqb y.request.who i) ms) (ne_eqb m.request.who i (λ same. apart (sym same))))

-- a call that is put in
pub put_off : {A : Type 0} (p : A → Bool) (number : A → ℕ) (x : A) (xs : List A) → p x ≡ false → filter p (put_in number x xs) ≡ filter p xs
put_off p number x [] fails = cond-false (p x) (x ∷ []) [] fails
put_off {A = A} p number x (y ∷ ys) fails = by_test (nat_lt (number y) (number x)) (put_off p number x ys fails)
  where
    by_test : (b : Bool) → filter p (put_in number x ys) ≡ filter p ys → filter p (if b then y ∷ put_in number x ys else x ∷ (y ∷ ys)) ≡ filter p (y ∷ ys)
    by_test true rest = ap (λ zs. cond (p y) (y ∷ zs) zs) rest
    by_test false rest = cond-false (p x) (x ∷ filter p (y ∷ ys)) (filter p (y ∷ ys)) fails

pub put_own : {A : Type 0} (p : A → Bool) (number : A → ℕ) (x : A) (xs : List A) → p x ≡ true → filter p xs ≡ [] → filter p (put_in number x xs) ≡ x ∷ []
put_own p number x [] passes none = cond-true (p x) (x ∷ []) [] passes
put_own {A = A} p number x (y ∷ ys) passes none =
    elim (cases_Bool (p y)) [
      | inl here ↦ absurd (not_nil y (filter p ys) (sym (cond-true (p y) (y ∷ filter p ys) (filter p ys) here) ∙ none))
      | inr later ↦ by_test later (sym (cond-false (p y) (y ∷ filter p ys) (filter p ys) later) ∙ none) (nat_lt (number y) (number x)) (λ rest. put_own p number x ys passes rest)
    ]
  where
    not_nil : (z : A) (zs : List A) → z ∷ zs ≡ [] → ⊥
    not_nil z zs same = cc

    by_test : p y ≡ false → filter p ys ≡ [] → (b : Bool) → (filter p ys ≡ [] → filter p (put_in number x ys) ≡ x ∷ []) → filter p (if b then y ∷ put_in number x ys else x ∷ (y ∷ ys)) ≡ x ∷ []
    by_test later rest true more = cond-false (p y) (y ∷ filter p (put_in number x ys)) (filter p (put_in number x ys)) later ∙ more rest
    by_test later rest false more =
        cond-true (p x) (x ∷ filter p (y ∷ ys)) (filter p (y ∷ ys)) passes
        ∙ ap (λ zs. x ∷ zs) (cond-false (p y) (y ∷ filter p ys) (filter p ys) later ∙ rest)

-- a call that is taken out
pub out_off : {A : Type 0} (p : A → Bool) (number : A → ℕ) (k : ℕ) (x : A) (xs : List A) → find (λ y. eqb (number y) k) xs ≡ Some x → p x ≡ false → filter p (taken_out number k xs) ≡ filter p xs
out_off p number k x [] finds fails = refl
out_off {A = A} p number k x (y ∷ ys) finds fails = by_test (eqb (number y) k) finds (λ rest. out_off p number k x ys rest fails)
  where
    by_test : (b : Bool) → cond b (Some y) (find (λ z. eqb (number z) k) ys) ≡ Some x → (find (λ z. eqb (number z) k) ys ≡ Some x → filter p (taken_out number k ys) ≡ filter p ys)
        → filter p (if b then ys else y ∷ taken_out number k ys) ≡ filter p (y ∷ ys)
    by_test true finds rest = sym (cond-false (p y) (y ∷ filter p ys) (filter p ys) (ap p (same_Some y x finds) ∙ fails))
    by_test false finds rest = ap (λ zs. cond (p y) (y ∷ zs) zs) (rest finds)

pub out_own : {A : Type 0} (p : A → Bool) (number : A → ℕ) (k : ℕ) (x : A) (xs : List A) → find (λ y. eqb (number y) k) xs ≡ Some x → p x ≡ true → length (filter p (taken_out number k xs)) + 1 ≡ length (filter p xs)
out_own p number k x [] finds passes = absurd (none-some x finds)
out_own {A = A} p number k x (y ∷ ys) finds passes = by_test (eqb (number y) k) finds (λ rest. out_own p number k x ys rest passes)
  where
    longer : (b : Bool) (zs us : List A) → length zs + 1 ≡ length us → length (cond b (y ∷ zs) zs) + 1 ≡ length (cond b (y ∷ us) us)
    longer true zs us long = omega (arith, long)
    longer false zs us long = long

    by_test : (b : Bool) → cond b (Some y) (find (λ z. eqb (number z) k) ys) ≡ Some x → (find (λ z. eqb (number z) k) ys ≡ Some x → length (filter p (taken_out number k ys)) + 1 ≡ length (filter p ys))
        → length (filter p (if b then ys else y ∷ taken_out number k ys)) + 1 ≡ length (filter p (y ∷ ys))
    by_test true finds rest =
        let long = ap length (cond-true (p y) (y ∷ filter p ys) (filter p ys) (ap p (same_Some y x finds) ∙ passes)) in
        omega (arith, long)
    by_test false finds rest = longer (p y) (filter p (taken_out number k ys)) (filter p ys) (rest finds)

-- ---- the id that a reply brings

pub kept_session : (session : Option ℕ) (call : Call) (response : Response) → ((nonblock : Bool) → ¬ (call ≡ OpenHandle nonblock)) → session_from session call Done response ≡ session
kept_session session (OpenHandle nonblock) response other = absurd (other nonblock refl)
kept_session session call response other = refl

pub open_or_not : (call : Call) → ((nonblock : Bool) × (call ≡ OpenHandle nonblock)) ⊎ ((nonblock : Bool) → ¬ (call ≡ OpenHandle nonblock))
open_or_not (OpenHandle nonblock) = inl (nonblock, refl)
open_or_not call = inr (λ nonblock same. cc)

-- an open brings the id of the session that was opened, or none
open_told : (d : DeviceState) (memory nonblock : Bool) (held : List Held) → length d.sessions < 2 ^ 32 →
    (session_from None (OpenHandle nonblock) Done (response_of OpenSession (response_bytes (opened memory held d).response)) ≡ Some (length d.sessions))
    ⊎ (session_from None (OpenHandle nonblock) Done (response_of OpenSession (response_bytes (opened memory held d).response)) ≡ None)
open_told d true nonblock held small = inl (ap (session_from None (OpenHandle nonblock) Done) (response_again OpenSession (Opened (length d.sessions)) small).1)
open_told d false nonblock held small = inr (ap (session_from None (OpenHandle nonblock) Done) (response_again OpenSession (Denied (errno_number Enomem)) (lit< tt, lit< tt)).1)

pub told_id : (hd : HandleState) (line : ℕ) (call : Call) (r : Returning) → hd.stage ≡ Underway line call → id_ahead hd (Told r) ≡ session_from hd.session call Done (response_of OpenSession r.reply.bytes)
told_id hd line call r under = ap (λ t. id_told t hd.session r) under

open_command : (h : HandleState) (nonblock : Bool) (x : CrossingOf) → crossing_from h (OpenHandle nonblock) ≡ Some x → x.command ≡ OpenSession
open_command h nonblock x crosses = sym (ap (λ (y : CrossingOf). y.command) (same_Some (record { command = OpenSession; user = None }) x crosses))

new_same : (w : WorldState) (rows : List (List Inner)) (k : ℕ) → IsSoundBy w rows → length w.host.device.sessions ≤ k → SameFor w None (Some k)
new_same w rows k sound past =
    let new : IsNew w k = is_new w rows k sound past in
    record { held = new.held; events = new.events; job = new.job }

few_small : (a b k : ℕ) → a ≤ b → b < k → a < k
few_small a b k le lt = omega (arith, le, lt)

-- what is of the id that is told is what is of the id before
told_same : (w : WorldState) (rows : List (List Inner)) (x : Slice) (m : Posting) (c : Command) (a : Answer) → IsSoundBy w rows → IsPosted x m → m.request.asks ≡ Judged (Ok c) → Performs w.host.device c m.behind m.held a →
    SameFor w x.handle.session (id_ahead x.handle (Told (told_by m a)))
told_same w rows x m c a sound posted asks does = elim (open_or_not posted.call) [
  | inr other ↦ same_for w x.handle.session (id_ahead x.handle (Told (told_by m a)))
      (told_id x.handle posted.line posted.call (told_by m a) posted.underway ∙ kept_session x.handle.session posted.call (response_of OpenSession (response_bytes a.response)) other)
  | inl is ↦ opens is.0 is.1
]
  where
    opens : (nonblock : Bool) → posted.call ≡ OpenHandle nonblock → SameFor w x.handle.session (id_ahead x.handle (Told (told_by m a)))
    opens nonblock is =
        let none : x.handle.session ≡ None = subst (IsFirst x.handle) is posted.first in
        let judged : c ≡ posted.crossing.command = command_same c posted.crossing.command (sym asks ∙ ap (λ (y : Posting). y.request.asks) posted.says) in
        let live : c ≡ OpenSession = judged ∙ open_command x.handle nonblock posted.crossing (subst (λ k. crossing_from x.handle k ≡ Some posted.crossing) is posted.crosses) in
        let does_open : Performs w.host.device OpenSession m.behind m.held a = subst (λ k. Performs w.host.device k m.behind m.held a) live does in
        let memory : Bool = does_open.0 in
        let small : length w.host.device.sessions < 2 ^ 32 = few_small (length w.host.device.sessions) w.host.device.opens (2 ^ 32) sound.device.sound.few sound.device.sound.small in
        let told : id_ahead x.handle (Told (told_by m a)) ≡ session_from None (OpenHandle nonblock) Done (response_of OpenSession (response_bytes (opened memory m.held w.host.device).response)) =
        told_id x.handle posted.line posted.call (told_by m a) posted.underway
        ∙ (λ j. session_from (none j) (is j) Done (response_of OpenSession (response_bytes (does_open.1 j).response))) in
        subst (λ o. SameFor w o (id_ahead x.handle (Told (told_by m a)))) (sym none) (elim (open_told w.host.device memory nonblock m.held small) [
          | inl new ↦ subst (SameFor w None) (sym (told ∙ new)) (new_same w rows (length w.host.device.sessions) sound (omega arith))
          | inr old ↦ same_for w None (id_ahead x.handle (Told (told_by m a))) (told ∙ old)
        ])

-- ---- the other sessions

-- no other handle has the session that the command names
pub others_stay : (w : WorldState) (rows : List (List Inner)) (n h : ℕ) (m : Posting) (c : Command) (a : Answer) → IsSoundBy w rows → IsHandle w n h → IsPosted (slice_at w n h) m → id_at w n h ≡ (handle_at (process_at w.guest n) h).session →
    m.request.asks ≡ Judged (Ok c) → Performs w.host.device c m.behind m.held a → (i k : ℕ) → ¬ ((i ≡ n) × (k ≡ h)) → session_in a.device (id_at w i k) ≡ session_in w.host.device (id_at w i k)
others_stay w rows n h m c a sound named posted own asks does i k other = by_id (id_at w i k) refl
  where
    judged : posted.crossing.command ≡ c
    judged = sym (command_same c posted.crossing.command (sym asks ∙ ap (λ (y : Posting). y.request.asks) posted.says))

    names : NamesOwn (handle_at (process_at w.guest n) h).session c
    names =
        let hd : HandleState = handle_at (process_at w.guest n) h in
        subst (NamesOwn hd.session) judged (names_own (state_of hd.log) hd.session posted.call posted.crossing (open_has hd (sound.slices n h named).handle) posted.crosses)

    apart : (j : ℕ) → id_at w i k ≡ Some j → NamesOwn (handle_at (process_at w.guest n) h).session c → ¬ (named_session c ≡ Some j)
    apart j is (inl none) names = none-some j (sym none ∙ names)
    apart j is (inr (id, session, named_id)) names =
        let same : id ≡ j = same_Some id j (sym named_id ∙ names) in
        let mine : id_at w n h ≡ Some j = own ∙ (session ∙ ap Some same) in
        other (sound.ids.once i k n h j (has_handle w i k j is) named is mine)

    by_id : (o : Option ℕ) → id_at w i k ≡ o → session_in a.device (id_at w i k) ≡ session_in w.host.device (id_at w i k)
    by_id None is = ap (session_in a.device) is ∙ sym (ap (session_in w.host.device) is)
    by_id (Some j) is =
        let below = sound.ids.below i k j (has_handle w i k j is) is in
        ap (session_in a.device) is ∙ (stays_elsewhere w.host.device c m.behind m.held a does j below (apart j is names) ∙ sym (ap (session_in w.host.device) is))

-- the device is that of the handle
device_of : (w : WorldState) (rows : List (List Inner)) (n h : ℕ) → IsSoundBy w rows → IsHandle w n h → (inner_at w rows n h).executed ≡ None → id_at w n h ≡ (handle_at (process_at w.guest n) h).session → IsDeviceOf (slice_at w n h) w.host.device
device_of w rows n h sound named none own = record {
  sound = sound.device.sound;
  model = sound.device.model ∙ sym (log_model w rows n h sound named);
  session = ap (session_in w.host.device) (sym own);
  ranges = λ b addr len writable there kind. mapping_live w rows n h sound named none b addr len writable there kind;
  low = sound.mapped.low;
}

-- ---- a command is done

-- The command that this handle posted is done: no other handle's slice changes.
pub record Serves (w u : WorldState) (rows : List (List Inner)) (n h : ℕ) : Type 0 where
  pub message : Posting
  pub command : Command
  pub answer : Answer
  pub named : IsHandle w n h
  pub nothing : (inner_at w rows n h).executed ≡ None
  pub own : id_at w n h ≡ (handle_at (process_at w.guest n) h).session
  pub out : (out_at w n h ≡ Asked message) ⊎ (out_at w n h ≡ Kept message)
  pub posted : IsPosted (slice_at w n h) message
  pub asks : message.request.asks ≡ Judged (Ok command)
  pub performs : Performs w.host.device command message.behind message.held answer
  pub slice : slice_at u n h ≡ record (slice_at w n h) {
    out = Told (told_by message answer);
    session = session_in answer.device (id_ahead (handle_at (process_at w.guest n) h) (Told (told_by message answer)));
  }
  pub others : SameElsewhere n h w u
  pub device : u.host.device ≡ answer.device
  pub guest : u.guest ≡ w.guest
  pub script : u.script ≡ w.script

serves : (w : WorldState) (rows : List (List Inner)) (n h : ℕ) (m : Posting) (c : Command) (a : Answer) (host : Part) (ms : List Posting) (rs : List Returning) → IsSoundBy w rows → IsHandle w n h → (inner_at w rows n h).executed ≡ None →
    (out_at w n h ≡ Asked m) ⊎ (out_at w n h ≡ Kept m) → IsPosted (slice_at w n h) m →
    id_at w n h ≡ (handle_at (process_at w.guest n) h).session → m.request.asks ≡ Judged (Ok c) → Performs w.host.device c m.behind m.held a → host.device ≡ a.device → is_on (crossing_call (process_at w.guest n)) h ≡ true →
    out_of (commanded w host ms rs) n ≡ Told (told_by m a) → ((i : ℕ) → ¬ (i ≡ n) → out_of (commanded w host ms rs) i ≡ out_of w i) → Serves w (commanded w host ms rs) rows n h
serves w rows n h m c a host ms rs sound named nothing at posted own asks does is on out others =
    let x : Slice = slice_at w n h in
    let moves : Commands w n h host ms rs (Told (told_by m a)) = record {
      on = on;
      out = out;
      others = others;
      sessions = λ i k other. ap (λ d. session_in d (id_at w i k)) is ∙ others_stay w rows n h m c a sound named posted own asks does i k other;
      jobs = ap (λ (d : DeviceState). d.jobs) is ∙ (performs_adds w.host.device c m.behind m.held a does).jobs;
    } in
    let same : SameFor w (id_at w n h) (id_ahead x.handle (Told (told_by m a))) = subst (λ o. SameFor w o (id_ahead x.handle (Told (told_by m a)))) (sym own) (told_same w rows x m c a sound posted asks does) in
    record {
      message = m;
      command = c;
      answer = a;
      named = named;
      nothing = nothing;
      own = own;
      out = at;
      posted = posted;
      asks = asks;
      performs = does;
      slice = command_own w n h host ms rs (Told (told_by m a)) moves same ∙ (λ j. record x { out = Told (told_by m a); session = session_in (is j) (id_ahead x.handle (Told (told_by m a))) });
      others = command_others w n h host ms rs (Told (told_by m a)) moves;
      device = is;
      guest = refl;
      script = refl;
    }

-- ---- the first request

-- it alone is out of its process, which is crossing
pub record IsFirstAsked (w : WorldState) (m : Posting) (ms : List Posting) : Type 0 where
  pub within : m.request.who < length w.guest.processes
  pub status : (process_at w.guest m.request.who).status ≡ Crossing
  pub statement : Statement
  pub now : current (process_at w.guest m.request.who) ≡ Some statement
  pub requests : filter (λ (y : Posting). eqb y.request.who m.request.who) ms ≡ []
  pub calls : calls_of w m.request.who ≡ []
  pub replies : replies_of w m.request.who ≡ []

pub crossing_status : (s : Status) → is_crossing s ≡ true → s ≡ Crossing
crossing_status AtRest is = absurd (false≢true is)
crossing_status Crossing is = refl
crossing_status Blocked is = absurd (false≢true is)
crossing_status Lent is = absurd (false≢true is)

pub one_is : (b : Bool) → 1 ≤ one_if b → b ≡ true
one_is true some = refl
one_is false some = absurd (omega (arith, some))

pub one_most : (b : Bool) → one_if b ≤ 1
one_most true = omega arith
one_most false = omega arith

no_statement : Statement
no_statement = record { line = 0; what = OnHandle 0 (OpenHandle true) }

-- a process that is crossing has a statement
pub crossing_now : (w : WorldState) (rows : List (List Inner)) (n : ℕ) → IsSoundBy w rows → n < length w.guest.processes → (process_at w.guest n).status ≡ Crossing → (s : Statement) × (current (process_at w.guest n) ≡ Some s)
crossing_now w rows n sound within status =
    let p : ProcessState = process_at w.guest n in
    let orderly : IsOrderly w.script.model (lines_at w.script n) p = sound.lines.orderly n within in
    let came : begun p ≡ p.answered + 1 = ap (λ t. if rests t then p.answered else p.answered + 1) status in
    let all : length p.statements ≡ length (lines_at w.script n).lines = ap length orderly.statements ∙ length-map (lines_at w.script n).lines _ in
    let short : p.answered < length p.statements = omega (arith, all, came, orderly.within) in
    (get_or p.statements p.answered no_statement, slice_get-get_or p.statements p.answered no_statement short)

pub asked_first : (w : WorldState) (rows : List (List Inner)) (m : Posting) (ms : List Posting) → IsSoundBy w rows → w.requests ≡ m ∷ ms → IsFirstAsked w m ms
asked_first w rows m ms sound is =
    let n : ℕ = m.request.who in
    let p : ProcessState = process_at w.guest n in
    let mine : requests_of w n ≡ m ∷ filter (λ (y : Posting). eqb y.request.who n) ms =
    ap (filter (λ (y : Posting). eqb y.request.who n)) is ∙ cond-true (eqb n n) (m ∷ filter (λ (y : Posting). eqb y.request.who n) ms) (filter (λ (y : Posting). eqb y.request.who n) ms) (eq-eqb n n refl) in
    let long = ap length mine in
    let one : out_count w n ≡ one_if (is_crossing p.status) = sound.quiet.one n in
    let crosses : is_crossing p.status ≡ true = one_is (is_crossing p.status) (omega (arith, one, long)) in
    let few = one_most (is_crossing p.status) in
    let status : p.status ≡ Crossing = crossing_status p.status crosses in
    let within : n < length w.guest.processes = place_within (λ (y : ProcessState). is_crossing y.status) w.guest.processes n no_process refl crosses in
    let at : _ = crossing_now w rows n sound within status in
    record {
      within = within;
      status = status;
      statement = at.0;
      now = at.1;
      requests = nil_from_length (filter (λ (y : Posting). eqb y.request.who n) ms) (omega (arith, one, few, long));
      calls = nil_from_length (calls_of w n) (omega (arith, one, few, long));
      replies = nil_from_length (replies_of w n) (omega (arith, one, few, long));
    }

pub asked_out : (w : WorldState) (m : Posting) (ms : List Posting) → w.requests ≡ m ∷ ms → IsFirstAsked w m ms → out_of w m.request.who ≡ Asked m
asked_out w m ms is first =
    let n : ℕ = m.request.who in
    let mine : requests_of w n ≡ m ∷ [] =
    ap (filter (λ (y : Posting). eqb y.request.who n)) is
    ∙ (cond-true (eqb n n) (m ∷ filter (λ (y : Posting). eqb y.request.who n) ms) (filter (λ (y : Posting). eqb y.request.who n) ms) (eq-eqb n n refl) ∙ ap (λ ys. m ∷ ys) first.requests) in
    λ j. out_from (mine j) (first.calls j) (first.replies j)

-- ---- Execute, of a handle's call

-- a handle's call is first
pub record IsHandleAsked (w : WorldState) (rows : List (List Inner)) (h : ℕ) (m : Posting) : Type 0 where
  pub named : IsHandle w m.request.who h
  pub on : is_on (crossing_call (process_at w.guest m.request.who)) h ≡ true
  pub out : out_at w m.request.who h ≡ Asked m
  pub nothing : (inner_at w rows m.request.who h).executed ≡ None
  pub posted : IsPosted (slice_at w m.request.who h) m
  pub own : id_at w m.request.who h ≡ (handle_at (process_at w.guest m.request.who) h).session

pub handle_asked : (w : WorldState) (rows : List (List Inner)) (m : Posting) (ms : List Posting) (h : ℕ) (call : Call) → IsSoundBy w rows → w.requests ≡ m ∷ ms → (first : IsFirstAsked w m ms) → first.statement.what ≡ OnHandle h call → IsHandleAsked w rows h m
handle_asked w rows m ms h call sound is first what =
    let n : ℕ = m.request.who in
    let s : Statement = first.statement in
    let asked : AskedCall = record { line = s.line; handle = h; call = call } in
    let called : asked_by s ≡ Some asked = ap (asked_in s.line) what in
    let there : h < length (process_at w.guest n).handles = call_there w n s asked sound.lines first.within first.now called in
    let named : IsHandle w n h = handle_there w.guest n h first.within there in
    let crosses : crossing_call (process_at w.guest n) ≡ Some asked =
    ap (λ t. some_if (is_crossing t) (current_call (process_at w.guest n))) first.status ∙ (ap (λ o. option_and_then asked_by o) first.now ∙ called) in
    let on : is_on (crossing_call (process_at w.guest n)) h ≡ true = ap (λ o. is_on o h) crosses ∙ eq-eqb h h refl in
    let out : out_at w n h ≡ Asked m = ap (λ b. if b then out_of w n else Nowhere) on ∙ asked_out w m ms is first in
    let x : Slice = slice_at w n h in
    let v : Inner = inner_at w rows n h in
    let is_out : IsOut (Asked m) x v = subst (λ o. IsOut o x v) out (sound.slices n h named).out in
    record {
      named = named;
      on = on;
      out = out;
      nothing = is_out.0.executed;
      posted = is_out.1;
      own = ap (id_ahead (handle_at (process_at w.guest n) h)) out;
    }

-- where the command waits
waits_slices : (w : WorldState) (rows : List (List Inner)) (m : Posting) (ms : List Posting) (h session : ℕ) → IsSoundBy w rows → w.requests ≡ m ∷ ms → IsFirstAsked w m ms → IsHandleAsked w rows h m →
    (slice_at (commanded w (record w.host { calls = put_in (λ (y : WaitingCall). y.session) (record { session = session; posting = m }) w.host.calls }) ms w.replies) m.request.who h ≡ record (slice_at w m.request.who h) { out = Kept m })
    × SameElsewhere m.request.who h w (commanded w (record w.host { calls = put_in (λ (y : WaitingCall). y.session) (record { session = session; posting = m }) w.host.calls }) ms w.replies)
waits_slices w rows m ms h session sound is first a =
    let n : ℕ = m.request.who in
    let call : WaitingCall = record { session = session; posting = m } in
    let host : Part = record w.host { calls = put_in (λ (y : WaitingCall). y.session) call w.host.calls } in
    let v : WorldState = commanded w host ms w.replies in
    let x : Slice = slice_at w n h in
    let hd : HandleState = handle_at (process_at w.guest n) h in
    let calls : calls_of v n ≡ call ∷ [] = put_own (λ (y : WaitingCall). eqb y.posting.request.who n) (λ (y : WaitingCall). y.session) call w.host.calls (eq-eqb n n refl) first.calls in
    let moves : Commands w n h host ms w.replies (Kept m) = record {
      on = a.on;
      out = λ j. out_from (first.requests j) (calls j) (first.replies j);
      others = λ i apart. λ j. out_from (others_first w m ms i is apart j)
          (put_off (λ (y : WaitingCall). eqb y.posting.request.who i) (λ (y : WaitingCall). y.session) call w.host.calls (ne_eqb n i (λ same. apart (sym same))) j) (replies_of w i);
      sessions = λ i k other. refl;
      jobs = refl;
    } in
    let moved : slice_at v n h ≡ record x { out = Kept m; session = session_in w.host.device hd.session } = command_own w n h host ms w.replies (Kept m) moves (same_for w (id_at w n h) hd.session (sym a.own)) in
    (moved ∙ (λ j. record x { out = Kept m; session = session_in w.host.device (sym a.own j) }), command_others w n h host ms w.replies (Kept m) moves)

waits_moves : (w : WorldState) (rows : List (List Inner)) (m : Posting) (ms : List Posting) (h session : ℕ) (c : Command) → IsSoundBy w rows → w.requests ≡ m ∷ ms → IsFirstAsked w m ms → IsHandleAsked w rows h m →
    m.request.asks ≡ Judged (Ok c) → must_wait w.host.device c ≡ true → MovesOne Execute w (commanded w (record w.host { calls = put_in (λ (y : WaitingCall). y.session) (record { session = session; posting = m }) w.host.calls }) ms w.replies)
waits_moves w rows m ms h session c sound is first a asks waits =
    let n : ℕ = m.request.who in
    let v : WorldState = commanded w (record w.host { calls = put_in (λ (y : WaitingCall). y.session) (record { session = session; posting = m }) w.host.calls }) ms w.replies in
    let x : Slice = slice_at w n h in
    let both : _ = waits_slices w rows m ms h session sound is first a in
    record {
      process = n;
      handle = h;
      does = (m, c, w.host.device, a.out, asks, device_of w rows n h sound a.named a.nothing a.own, subst (λ b. IsServedUnless b m c w.host.device x (slice_at v n h)) (sym waits) both.0);
      others = both.1;
    }

-- where it is done
done_serves : (w : WorldState) (rows : List (List Inner)) (m : Posting) (ms : List Posting) (h : ℕ) (c : Command) (a : Answer) → IsSoundBy w rows → w.requests ≡ m ∷ ms → IsFirstAsked w m ms → IsHandleAsked w rows h m →
    m.request.asks ≡ Judged (Ok c) → Performs w.host.device c m.behind m.held a → Serves w (commanded w (record w.host { device = a.device }) ms (w.replies ++ told_by m a ∷ [])) rows m.request.who h
done_serves w rows m ms h c a sound is first at asks does =
    let n : ℕ = m.request.who in
    let r : Returning = told_by m a in
    let host : Part = record w.host { device = a.device } in
    let rs : List Returning = w.replies ++ r ∷ [] in
    let v : WorldState = commanded w host ms rs in
    let replies : replies_of v n ≡ r ∷ [] = own_more w.replies n r refl ∙ ap (λ ys. ys ++ r ∷ []) first.replies in
    let out : out_of v n ≡ Told r = λ j. out_from (first.requests j) (first.calls j) (replies j) in
    let others : (i : ℕ) → ¬ (i ≡ n) → out_of v i ≡ out_of w i = λ i apart. λ j. out_from (others_first w m ms i is apart j) (calls_of w i) (others_more w.replies n i r refl apart j) in
    serves w rows n h m c a host ms rs sound at.named at.nothing (inl at.out) at.posted at.own asks does refl at.on out others

done_moves : (w u : WorldState) (rows : List (List Inner)) (h : ℕ) (m : Posting) → IsSoundBy w rows → IsHandleAsked w rows h m → (s : Serves w u rows m.request.who h) → m ≡ s.message → must_wait w.host.device s.command ≡ false → MovesOne Execute w u
done_moves w u rows h m sound at s same goes =
    let n : ℕ = m.request.who in
    let x : Slice = slice_at w n h in
    record {
      process = n;
      handle = h;
      does = (
        s.message,
        s.command,
        w.host.device,
        at.out ∙ ap Asked same,
        s.asks,
        device_of w rows n h sound s.named s.nothing s.own,
        subst (λ b. IsServedUnless b s.message s.command w.host.device x (slice_at u n h)) (sym goes) (s.answer, s.performs, s.slice),
      );
      others = s.others;
    }

pub execute_command : (w : WorldState) (rows : List (List Inner)) (m : Posting) (ms : List Posting) (h : ℕ) (c : Command) (b : Bool) (out : Option Returning) (host : Part) → IsSoundBy w rows → w.requests ≡ m ∷ ms → IsFirstAsked w m ms → IsHandleAsked w rows h m →
    m.request.asks ≡ Judged (Ok c) → must_wait w.host.device c ≡ b → ExecutedCommand b m c w.host out host → MovesOne Execute w (after_device (record w { requests = ms }) host out)
unfolding done_serves serves
execute_command w rows m ms h c true out host sound is first a asks waits (none, (session, named, after)) =
    let rs : w.replies ++ option_to_list out ≡ w.replies = ap (λ o. w.replies ++ option_to_list o) none ∙ append-nil w.replies in
    let ends : after_device (record w { requests = ms }) host out ≡ commanded w (record w.host { calls = put_in (λ (y : WaitingCall). y.session) (record { session = session; posting = m }) w.host.calls }) ms w.replies =
    λ j. commanded w (after j) ms (rs j) in
    subst (MovesOne Execute w) (sym ends) (waits_moves w rows m ms h session c sound is first a asks waits)
execute_command w rows m ms h c false out host sound is first a asks goes (r, d, completed, told, after) =
    let answer : Answer = completed.0 in
    let ends : after_device (record w { requests = ms }) host out ≡ commanded w (record w.host { device = answer.device }) ms (w.replies ++ told_by m answer ∷ []) =
    (λ j. commanded w (after j) ms (w.replies ++ option_to_list (told j))) ∙ (λ j. commanded w (record w.host { device = completed.3 j }) ms (w.replies ++ completed.2 j ∷ [])) in
    subst (MovesOne Execute w) (sym ends)
    (done_moves w (commanded w (record w.host { device = answer.device }) ms (w.replies ++ told_by m answer ∷ [])) rows h m sound a (done_serves w rows m ms h c answer sound is first a asks completed.1) refl goes)

-- ---- Execute, of a raw line

-- a reply to a raw line is nothing to a slice
raw_same : (w : WorldState) (m : Posting) (ms : List Posting) (chain : RawChain) (r : Returning) → w.requests ≡ m ∷ ms → (first : IsFirstAsked w m ms) → first.statement.what ≡ Raw chain → r.reply.who ≡ m.request.who →
    SameEverywhere w (commanded w w.host ms (w.replies ++ r ∷ []))
raw_same w m ms chain r is first what who i k = same_slice w (commanded w w.host ms (w.replies ++ r ∷ [])) i k (record {
  handle = refl;
  out = elim (cases_eq i m.request.who) [ inl same ↦ own same | inr apart ↦ ap (λ x. if is_on (crossing_call (process_at w.guest i)) k then x else Nowhere) (others apart) ];
  held = refl;
  events = refl;
  session = refl;
  job = refl;
})
  where
    others : ¬ (i ≡ m.request.who) → out_of (commanded w w.host ms (w.replies ++ r ∷ [])) i ≡ out_of w i
    others apart = λ j. out_from (others_first w m ms i is apart j) (calls_of w i) (others_more w.replies m.request.who i r who apart j)

    nothing_on : (b : Bool) → is_on (some_if b None) k ≡ false
    nothing_on true = refl
    nothing_on false = refl

    own : i ≡ m.request.who → out_at (commanded w w.host ms (w.replies ++ r ∷ [])) i k ≡ out_at w i k
    own same =
        let p : ProcessState = process_at w.guest m.request.who in
        let none : current_call p ≡ None = ap (λ o. option_and_then asked_by o) first.now ∙ ap (asked_in first.statement.line) what in
        let off : is_on (crossing_call (process_at w.guest i)) k ≡ false =
        ap (λ j. is_on (crossing_call (process_at w.guest j)) k) same ∙ (ap (λ o. is_on (some_if (is_crossing p.status) o) k) none ∙ nothing_on (is_crossing p.status)) in
        ap (λ b. if b then out_of (commanded w w.host ms (w.replies ++ r ∷ [])) i else Nowhere) off ∙ sym (ap (λ b. if b then out_of w i else Nowhere) off)

-- what a raw line asks is refused
pub raw_refused : (w : WorldState) (rows : List (List Inner)) (n : ℕ) (s : Statement) (chain : RawChain) → IsSoundBy w rows → n < length w.guest.processes → current (process_at w.guest n) ≡ Some s → s.what ≡ Raw chain → IsRefused chain
raw_refused w rows n s chain sound within now what =
    let p : ProcessState = process_at w.guest n in
    let lines : ProcessLines = lines_at w.script n in
    let orderly : IsOrderly w.script.model lines p = sound.lines.orderly n within in
    let at : _ = line_at lines.lines p.answered s (ap (λ ss. slice_get ss p.answered) (sym orderly.statements) ∙ now) in
    let all : All (λ (l : Line). CanRun l.what) lines.lines = All-get_or (λ (q : ProcessLines). All (λ (l : Line). CanRun l.what) q.lines) w.script.processes n _ (omega (arith, within, sound.lines.count)) sound.script.each in
    subst CanRun (sym (ap (λ (t : Statement). t.what) at.1) ∙ what) (at.2 (λ l. CanRun l.what) all)

pub raw_posted : (w : WorldState) (rows : List (List Inner)) (m : Posting) (ms : List Posting) (chain : RawChain) → IsSoundBy w rows → w.requests ≡ m ∷ ms → (first : IsFirstAsked w m ms) → first.statement.what ≡ Raw chain →
    m ≡ posting_of m.request.who (OfRaw chain)
raw_posted w rows m ms chain sound is first what =
    let n : ℕ = m.request.who in
    let crosses : crossing (process_at w.guest n) ≡ Some first.statement = ap (λ t. some_if (is_crossing t) (current (process_at w.guest n))) first.status ∙ first.now in
    let line : IsLineOut w n (Some first.statement) = subst (IsLineOut w n) crosses (sound.raws.out n) in
    subst (λ o. IsRawOut o n chain) (asked_out w m ms is first) (line chain what)

returned_one : (w : WorldState) (m : Posting) (ms : List Posting) (chain : RawChain) (r : Returning) (out : Option Returning) (host : Part) → w.requests ≡ m ∷ ms → (first : IsFirstAsked w m ms) → first.statement.what ≡ Raw chain → r.reply.who ≡ m.request.who →
    out ≡ Some r → host ≡ w.host → SameEverywhere w (after_device (record w { requests = ms }) host out)
returned_one w m ms chain r out host is first what who told same =
    let ends : after_device (record w { requests = ms }) host out ≡ commanded w w.host ms (w.replies ++ r ∷ []) = λ j. commanded w (same j) ms (w.replies ++ option_to_list (told j)) in
    subst (SameEverywhere w) (sym ends) (raw_same w m ms chain r is first what who)

raw_command : (w : WorldState) (rows : List (List Inner)) (m : Posting) (ms : List Posting) (chain : RawChain) (c : Command) (b : Bool) (out : Option Returning) (host : Part) → IsSoundBy w rows → w.requests ≡ m ∷ ms → (first : IsFirstAsked w m ms) →
    first.statement.what ≡ Raw chain → NamesNone c → must_wait w.host.device c ≡ b → ExecutedCommand b m c w.host out host → SameEverywhere w (after_device (record w { requests = ms }) host out)
raw_command w rows m ms chain c true out host sound is first what none waits does =
    absurd (true≢false (sym waits ∙ refused_goes w.host.device c (few_sessions w rows sound) none))
raw_command w rows m ms chain c false out host sound is first what none goes (r, d, completed, told, after) =
    let same : d ≡ w.host.device = completed.3 ∙ refused_leaves w.host.device c m.behind m.held completed.0 (few_sessions w rows sound) none completed.1 in
    returned_one w m ms chain r out host is first what (ap (λ (y : Returning). y.reply.who) completed.2) told (after ∙ (λ j. record w.host { device = same j }))

pub raw_ask_done : (w : WorldState) (rows : List (List Inner)) (m : Posting) (ms : List Posting) (chain : RawChain) (ask : Ask) (out : Option Returning) (host : Part) → IsSoundBy w rows → w.requests ≡ m ∷ ms → (first : IsFirstAsked w m ms) →
    first.statement.what ≡ Raw chain → raw_ask chain ≡ ask → ExecutedAsk ask m w.host out host → SameEverywhere w (after_device (record w { requests = ms }) host out)
raw_ask_done w rows m ms chain Unusable out host sound is first what asks (told, same) = returned_one w m ms chain (returning m [] m.held) out host is first what refl told same
raw_ask_done w rows m ms chain (Judged (Err f)) out host sound is first what asks (told, same) = returned_one w m ms chain _ out host is first what refl told same
raw_ask_done w rows m ms chain (Judged (Ok c)) out host sound is first what asks does =
    raw_command w rows m ms chain c (must_wait w.host.device c) out host sound is first what (raw_refused w rows m.request.who first.statement chain sound first.within first.now what c asks) refl does

-- ---- Execute

execute_what : (w : WorldState) (rows : List (List Inner)) (m : Posting) (ms : List Posting) (what : LineKind) (out : Option Returning) (host : Part) → IsSoundBy w rows → w.requests ≡ m ∷ ms → (first : IsFirstAsked w m ms) →
    first.statement.what ≡ what → Executed m w.host out host → MovesOrNone Execute w (after_device (record w { requests = ms }) host out)
execute_what w rows m ms (Raw chain) out host sound is first what does =
    let asks : m.request.asks ≡ raw_ask chain = ap (λ (y : Posting). y.request.asks) (raw_posted w rows m ms chain sound is first what) in
    inr (raw_ask_done w rows m ms chain (raw_ask chain) out host sound is first what refl (subst (λ a. ExecutedAsk a m w.host out host) asks does))
execute_what w rows m ms (OnHandle h call) out host sound is first what does =
    let a : IsHandleAsked w rows h m = handle_asked w rows m ms h call sound is first what in
    let c : Command = a.posted.crossing.command in
    let asks : m.request.asks ≡ Judged (Ok c) = ap (λ (y : Posting). y.request.asks) a.posted.says in
    inl (execute_command w rows m ms h c (must_wait w.host.device c) out host sound is first a asks refl (subst (λ k. ExecutedAsk k m w.host out host) asks does))

execute_by : (w w' : WorldState) (rows : List (List Inner)) (requests : List Posting) → IsSoundBy w rows → w.requests ≡ requests → DoesExecute requests w w' → MovesOrNone Execute w w'
execute_by w w' rows [] sound is does = absurd does
execute_by w w' rows (m ∷ ms) sound is (out, host, does, after) =
    let first : IsFirstAsked w m ms = asked_first w rows m ms sound is in
    subst (MovesOrNone Execute w) (sym after) (execute_what w rows m ms first.statement.what out host sound is first refl does)

pub execute_moves : (w w' : WorldState) (rows : List (List Inner)) → IsSoundBy w rows → DoesExecute w.requests w w' → MovesOrNone Execute w w'
execute_moves w w' rows sound does = execute_by w w' rows w.requests sound refl does

-- ---- Resume

-- a call that waits is the one call of a handle
pub record IsOneKept (w : WorldState) (rows : List (List Inner)) (n h : ℕ) (call : WaitingCall) : Type 0 where
  pub named : IsHandle w n h
  pub who : call.posting.request.who ≡ n
  pub on : is_on (crossing_call (process_at w.guest n)) h ≡ true
  pub out : out_at w n h ≡ Kept call.posting
  pub nothing : (inner_at w rows n h).executed ≡ None
  pub posted : IsPosted (slice_at w n h) call.posting
  pub own : id_at w n h ≡ (handle_at (process_at w.guest n) h).session
  pub id : id_at w n h ≡ Some call.session
  pub requests : requests_of w n ≡ []
  pub replies : replies_of w n ≡ []
  pub calls : length (calls_of w n) ≡ 1

pub kept_alone : (ms : List Posting) (cs : List WaitingCall) (rs : List Returning) (m : Posting) → out_from ms cs rs ≡ Kept m → (ms ≡ []) × (rs ≡ []) × (length cs ≡ 1)
kept_alone [] (c ∷ []) [] m is = (refl, refl, refl)
kept_alone (x ∷ []) [] [] m is = absurd (not_asked x m is)
  where
    not_asked : (x m : Posting) → Asked x ≡ Kept m → ⊥
    not_asked x m is = cc
kept_alone [] [] (r ∷ []) m is = absurd (not_told r m is)
  where
    not_told : (r : Returning) (m : Posting) → Told r ≡ Kept m → ⊥
    not_told r m is = cc
kept_alone ms cs rs m is = absurd (not_astray m is)
  where
    not_astray : (m : Posting) → Astray ≡ Kept m → ⊥
    not_astray m is = cc

pub one_kept : (w : WorldState) (rows : List (List Inner)) (call : WaitingCall) → IsSoundBy w rows → Contains w.host.calls call → (n : ℕ) × (h : ℕ) × IsOneKept w rows n h call
one_kept w rows call sound there =
    let P : WaitingCall → Type 0 = λ y. (i : ℕ) × (j : ℕ) × IsHandle w i j × (out_at w i j ≡ Kept y.posting) × (id_at w i j ≡ Some y.session) in
    let at : P call = All-contains P w.host.calls call sound.said.waiting there in
    let n : ℕ = at.0 in
    let h : ℕ = at.1 in
    let x : Slice = slice_at w n h in
    let v : Inner = inner_at w rows n h in
    let slice : IsSoundSlice x v = sound.slices n h at.2 in
    let is_out : IsOut (Kept call.posting) x v = subst (λ o. IsOut o x v) at.3 slice.out in
    let here : _ = at_of (is_on (crossing_call (process_at w.guest n)) h) (out_of w n) call.posting at.3 in
    let alone : _ = kept_alone (requests_of w n) (calls_of w n) (replies_of w n) call.posting here.1 in
    let one : IsOneKept w rows n h call = record {
      named = at.2;
      who = kept_who x v call.posting at.3 slice;
      on = here.0;
      out = at.3;
      nothing = is_out.0.executed;
      posted = is_out.1.posted;
      own = ap (id_ahead (handle_at (process_at w.guest n) h)) at.3;
      id = at.4;
      requests = alone.0;
      replies = alone.1;
      calls = alone.2;
    } in
    (n, h, one)

resumed_serves : (w : WorldState) (rows : List (List Inner)) (n h : ℕ) (call : WaitingCall) (c : Command) (a : Answer) → IsSoundBy w rows → find (λ (y : WaitingCall). eqb y.session call.session) w.host.calls ≡ Some call → IsOneKept w rows n h call →
    call.posting.request.asks ≡ Judged (Ok c) → Performs w.host.device c call.posting.behind call.posting.held a →
    Serves w (commanded w (record { device = a.device; calls = taken_out (λ (y : WaitingCall). y.session) call.session w.host.calls }) w.requests (w.replies ++ told_by call.posting a ∷ [])) rows n h
resumed_serves w rows n h call c a sound finds k asks does =
    let m : Posting = call.posting in
    let r : Returning = told_by m a in
    let host : Part = record { device = a.device; calls = taken_out (λ (y : WaitingCall). y.session) call.session w.host.calls } in
    let rs : List Returning = w.replies ++ r ∷ [] in
    let v : WorldState = commanded w host w.requests rs in
    let replies : replies_of v n ≡ r ∷ [] = own_more w.replies n r k.who ∙ ap (λ ys. ys ++ r ∷ []) k.replies in
    let fewer = out_own (λ (y : WaitingCall). eqb y.posting.request.who n) (λ (y : WaitingCall). y.session) call.session call w.host.calls finds (eq-eqb m.request.who n k.who) in
    let calls : calls_of v n ≡ [] = nil_from_length (calls_of v n) (omega (arith, fewer, k.calls)) in
    let out : out_of v n ≡ Told r = λ j. out_from (k.requests j) (calls j) (replies j) in
    let others : (i : ℕ) → ¬ (i ≡ n) → out_of v i ≡ out_of w i = λ i apart. λ j. out_from (requests_of w i)
    (out_off (λ (y : WaitingCall). eqb y.posting.request.who i) (λ (y : WaitingCall). y.session) call.session call w.host.calls finds (ne_eqb m.request.who i (λ same. apart (sym same ∙ k.who))) j)
    (others_more w.replies n i r k.who apart j) in
    serves w rows n h m c a host w.requests rs sound k.named k.nothing (inr k.out) k.posted k.own asks does refl k.on out others

resumed_moves : (w u : WorldState) (rows : List (List Inner)) (session n h : ℕ) (call : WaitingCall) → IsSoundBy w rows → IsOneKept w rows n h call → is_at_rest (session_of w.host.device call.session) ≡ true → (s : Serves w u rows n h) → call.posting ≡ s.message →
    MovesOne (Resume session) w u
resumed_moves w u rows session n h call sound k rest s same =
    let x : Slice = slice_at w n h in
    let quiet : is_at_rest x.session ≡ true = ap (λ o. is_at_rest (session_in w.host.device o)) k.id ∙ rest in
    record {
      process = n;
      handle = h;
      does = (s.message, s.command, w.host.device, k.out ∙ ap Kept same, s.asks, device_of w rows n h sound s.named s.nothing s.own, quiet, (s.answer, s.performs, s.slice));
      others = s.others;
    }

resume_call : (w : WorldState) (rows : List (List Inner)) (session : ℕ) (o : Option WaitingCall) (r : Returning) (host : Part) → IsSoundBy w rows → call_for session w.host.calls ≡ o → is_at_rest (session_of w.host.device session) ≡ true → ResumedCall o w.host r host →
    MovesOne (Resume session) w (after_device w host (Some r))
unfolding resumed_serves serves
resume_call w rows session None r host sound finds rest does = absurd does
resume_call w rows session (Some call) r host sound finds rest (c, d, asks, completed, after) =
    let there : _ = find_in (λ (y : WaitingCall). eqb y.session session) w.host.calls call finds in
    let same : call.session ≡ session = eqb-true call.session session there.1 in
    let again : find (λ (y : WaitingCall). eqb y.session call.session) w.host.calls ≡ Some call = subst (λ i. find (λ (y : WaitingCall). eqb y.session i) w.host.calls ≡ Some call) (sym same) finds in
    let one : _ = one_kept w rows call sound there.0 in
    let answer : Answer = completed.0 in
    let ends : after_device w host (Some r) ≡ commanded w (record { device = answer.device; calls = taken_out (λ (y : WaitingCall). y.session) call.session w.host.calls }) w.requests (w.replies ++ told_by call.posting answer ∷ []) =
    (λ j. commanded w (after j) w.requests (w.replies ++ r ∷ [])) ∙ (λ j. commanded w (record { device = completed.3 j; calls = taken_out (λ (y : WaitingCall). y.session) call.session w.host.calls }) w.requests (w.replies ++ completed.2 j ∷ [])) in
    subst (MovesOne (Resume session) w) (sym ends)
    (resumed_moves w _ rows session one.0 one.1 call sound one.2 (ap (λ i. is_at_rest (session_of w.host.device i)) same ∙ rest)
    (resumed_serves w rows one.0 one.1 call c answer sound again one.2 asks completed.1) refl)

pub resume_moves : (w w' : WorldState) (rows : List (List Inner)) (session : ℕ) → IsSoundBy w rows → DoesResume session w w' → MovesOne (Resume session) w w'
resume_moves w w' rows session sound (r, host, (rest, does), after) =
    subst (MovesOne (Resume session) w) (sym after) (resume_call w rows session (call_for session w.host.calls) r host sound refl rest does)

-- ---- what is served

-- no command was done: the device stays, and a handle's call waits in it, or no handle moved
pub record ServesNone (w u : WorldState) : Type 0 where
  pub device : u.host.device ≡ w.host.device
  pub slices : (n h : ℕ) → (slice_at u n h ≡ slice_at w n h) ⊎ ((m : Posting) × (slice_at u n h ≡ record (slice_at w n h) { out = Kept m }) × (out_at w n h ≡ Asked m))

abbrev pub ServesIf : WorldState → WorldState → List (List Inner) → Type 0
ServesIf w u rows = ((n : ℕ) × (h : ℕ) × Serves w u rows n h) ⊎ ServesNone w u

stays_none : (w u : WorldState) → u.host.device ≡ w.host.device → SameEverywhere w u → ServesNone w u
stays_none w u device same = record { device = device; slices = λ n h. inl (same n h) }

waits_none : (w : WorldState) (rows : List (List Inner)) (m : Posting) (ms : List Posting) (h session : ℕ) → IsSoundBy w rows → w.requests ≡ m ∷ ms → IsFirstAsked w m ms → IsHandleAsked w rows h m →
    ServesNone w (commanded w (record w.host { calls = put_in (λ (y : WaitingCall). y.session) (record { session = session; posting = m }) w.host.calls }) ms w.replies)
waits_none w rows m ms h session sound is first a =
    let v : WorldState = commanded w (record w.host { calls = put_in (λ (y : WaitingCall). y.session) (record { session = session; posting = m }) w.host.calls }) ms w.replies in
    let both : _ = waits_slices w rows m ms h session sound is first a in
    record {
      device = refl;
      slices = λ i k. elim (cases_eq i m.request.who) [
        | inr apart ↦ inl (both.1 i k (λ same. apart same.0))
        | inl first_same ↦ elim (cases_eq k h) [
          | inr apart ↦ inl (both.1 i k (λ same. apart same.1))
          | inl second ↦ inr (
            m,
            subst (λ j. slice_at v j k ≡ record (slice_at w j k) { out = Kept m }) (sym first_same)
                (subst (λ j. slice_at v m.request.who j ≡ record (slice_at w m.request.who j) { out = Kept m }) (sym second) both.0),
            (λ j. out_at w (first_same j) (second j)) ∙ a.out,
          )
        ]
      ];
    }

command_serves : (w : WorldState) (rows : List (List Inner)) (m : Posting) (ms : List Posting) (h : ℕ) (c : Command) (b : Bool) (out : Option Returning) (host : Part) → IsSoundBy w rows → w.requests ≡ m ∷ ms → IsFirstAsked w m ms → IsHandleAsked w rows h m →
    m.request.asks ≡ Judged (Ok c) → ExecutedCommand b m c w.host out host → ServesIf w (after_device (record w { requests = ms }) host out) rows
command_serves w rows m ms h c true out host sound is first a asks (none, (session, named, after)) =
    let rs : w.replies ++ option_to_list out ≡ w.replies = ap (λ o. w.replies ++ option_to_list o) none ∙ append-nil w.replies in
    let ends : after_device (record w { requests = ms }) host out ≡ commanded w (record w.host { calls = put_in (λ (y : WaitingCall). y.session) (record { session = session; posting = m }) w.host.calls }) ms w.replies =
    λ j. commanded w (after j) ms (rs j) in
    inr (subst (ServesNone w) (sym ends) (waits_none w rows m ms h session sound is first a))
command_serves w rows m ms h c false out host sound is first a asks (r, d, completed, told, after) =
    let answer : Answer = completed.0 in
    let ends : after_device (record w { requests = ms }) host out ≡ commanded w (record w.host { device = answer.device }) ms (w.replies ++ told_by m answer ∷ []) =
    (λ j. commanded w (after j) ms (w.replies ++ option_to_list (told j))) ∙ (λ j. commanded w (record w.host { device = completed.3 j }) ms (w.replies ++ completed.2 j ∷ [])) in
    inl (m.request.who, h, subst (λ u. Serves w u rows m.request.who h) (sym ends) (done_serves w rows m ms h c answer sound is first a asks completed.1))

raw_device : (w : WorldState) (rows : List (List Inner)) (m : Posting) (ms : List Posting) (chain : RawChain) (ask : Ask) (out : Option Returning) (host : Part) → IsSoundBy w rows → w.requests ≡ m ∷ ms → (first : IsFirstAsked w m ms) →
    first.statement.what ≡ Raw chain → raw_ask chain ≡ ask → ExecutedAsk ask m w.host out host → host.device ≡ w.host.device
raw_device w rows m ms chain Unusable out host sound is first what asks (told, same) = ap (λ (p : Part). p.device) same
raw_device w rows m ms chain (Judged (Err f)) out host sound is first what asks (told, same) = ap (λ (p : Part). p.device) same
raw_device w rows m ms chain (Judged (Ok c)) out host sound is first what asks does =
    by_wait (must_wait w.host.device c) does
  where
    by_wait : (b : Bool) → ExecutedCommand b m c w.host out host → host.device ≡ w.host.device
    by_wait true (none, (session, named, after)) = ap (λ (p : Part). p.device) after
    by_wait false (r, d, completed, told, after) =
        let none : NamesNone c = raw_refused w rows m.request.who first.statement chain sound first.within first.now what c asks in
        ap (λ (p : Part). p.device) after ∙ (completed.3 ∙ refused_leaves w.host.device c m.behind m.held completed.0 (few_sessions w rows sound) none completed.1)

what_serves : (w : WorldState) (rows : List (List Inner)) (m : Posting) (ms : List Posting) (what : LineKind) (out : Option Returning) (host : Part) → IsSoundBy w rows → w.requests ≡ m ∷ ms → (first : IsFirstAsked w m ms) →
    first.statement.what ≡ what → Executed m w.host out host → ServesIf w (after_device (record w { requests = ms }) host out) rows
what_serves w rows m ms (Raw chain) out host sound is first what does =
    let asks : m.request.asks ≡ raw_ask chain = ap (λ (y : Posting). y.request.asks) (raw_posted w rows m ms chain sound is first what) in
    let by : ExecutedAsk (raw_ask chain) m w.host out host = subst (λ a. ExecutedAsk a m w.host out host) asks does in
    inr (stays_none w (after_device (record w { requests = ms }) host out) (raw_device w rows m ms chain (raw_ask chain) out host sound is first what refl by)
    (raw_ask_done w rows m ms chain (raw_ask chain) out host sound is first what refl by))
what_serves w rows m ms (OnHandle h call) out host sound is first what does =
    let a : IsHandleAsked w rows h m = handle_asked w rows m ms h call sound is first what in
    let c : Command = a.posted.crossing.command in
    let asks : m.request.asks ≡ Judged (Ok c) = ap (λ (y : Posting). y.request.asks) a.posted.says in
    command_serves w rows m ms h c (must_wait w.host.device c) out host sound is first a asks (subst (λ k. ExecutedAsk k m w.host out host) asks does)

execute_in : (w u : WorldState) (rows : List (List Inner)) (requests : List Posting) → IsSoundBy w rows → w.requests ≡ requests → DoesExecute requests w u → ServesIf w u rows
execute_in w u rows [] sound is does = absurd does
execute_in w u rows (m ∷ ms) sound is (out, host, does, after) =
    let first : IsFirstAsked w m ms = asked_first w rows m ms sound is in
    subst (λ z. ServesIf w z rows) (sym after) (what_serves w rows m ms first.statement.what out host sound is first refl does)

pub execute_serves : (w u : WorldState) (rows : List (List Inner)) → IsSoundBy w rows → DoesExecute w.requests w u → ServesIf w u rows
execute_serves w u rows sound does = execute_in w u rows w.requests sound refl does

resume_in : (w : WorldState) (rows : List (List Inner)) (session : ℕ) (o : Option WaitingCall) (r : Returning) (host : Part) → IsSoundBy w rows → call_for session w.host.calls ≡ o → ResumedCall o w.host r host →
    ServesIf w (after_device w host (Some r)) rows
resume_in w rows session None r host sound finds does = absurd does
resume_in w rows session (Some call) r host sound finds (c, d, asks, completed, after) =
    let there : _ = find_in (λ (y : WaitingCall). eqb y.session session) w.host.calls call finds in
    let same : call.session ≡ session = eqb-true call.session session there.1 in
    let again : find (λ (y : WaitingCall). eqb y.session call.session) w.host.calls ≡ Some call = subst (λ i. find (λ (y : WaitingCall). eqb y.session i) w.host.calls ≡ Some call) (sym same) finds in
    let one : _ = one_kept w rows call sound there.0 in
    let answer : Answer = completed.0 in
    let ends : after_device w host (Some r) ≡ commanded w (record { device = answer.device; calls = taken_out (λ (y : WaitingCall). y.session) call.session w.host.calls }) w.requests (w.replies ++ told_by call.posting answer ∷ []) =
    (λ j. commanded w (after j) w.requests (w.replies ++ r ∷ [])) ∙ (λ j. commanded w (record { device = completed.3 j; calls = taken_out (λ (y : WaitingCall). y.session) call.session w.host.calls }) w.requests (w.replies ++ completed.2 j ∷ [])) in
    inl (one.0, one.1, subst (λ u. Serves w u rows one.0 one.1) (sym ends) (resumed_serves w rows one.0 one.1 call c answer sound again one.2 asks completed.1))

pub resume_serves : (w u : WorldState) (rows : List (List Inner)) (session : ℕ) → IsSoundBy w rows → DoesResume session w u → ServesIf w u rows
resume_serves w u rows session sound (r, host, (rest, does), after) =
    subst (λ z. ServesIf w z rows) (sym after) (resume_in w rows session (call_for session w.host.calls) r host sound refl does)
