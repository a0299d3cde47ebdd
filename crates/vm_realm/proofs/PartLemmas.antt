-- Each step of the device lowers what is left, where a call that waits queues nothing and a job that comes back has two messages at most.
use Rattle.std.proofs.Common.{◌≡◌, ℕ, zero, suc, ◌+◌, ◌*◌, ◌≤◌, Bool, true, false, not, List, [], ◌∷◌, Option, Some, None, Ok, Err, length, refl, sym, ap, ◌∙◌, subst, arith, inl, inr, cond, eqb, length-append, if◌then◌else◌}
use Rattle.std.specs.Prelude.{nat_lt, replicate}
use Rattle.std.specs.List.{filter, find, Contains}
use Rattle.std.specs.Option.{option_to_list, option_map}
use Rattle.std.proofs.lemmas.Bool.{false≢true, cases_lt, cond-false, eq-eqb, eqb-true}
use Rattle.std.proofs.lemmas.List.{length-replicate, length_push}
use Rattle.std.proofs.lemmas.Option.{none-some, same_Some}
use Rattle.v4l_const.specs.declared.ioctl_code.IoctlCode.TheVariants.{QBuf}
use Rattle.v4l_const.specs.declared.model.Model.{Model}
use Rattle.v4l_const.specs.Model.{picture_queue}
use Rattle.v4l_rules.specs.Queues.{queue_at}
use Rattle.vm_mem.specs.Lists.{first_of}
use Rattle.vm_job.specs.Job.{JobParts, DoneParts}
use Rattle.vm_job.specs.declared.job_out.JobOut.{JobOut}
use Rattle.vm_job.specs.declared.spec.JobSpec.{JobSpec}
use Rattle.vm_wire.specs.Message.{Ask, Posting, Returning}
use Rattle.vm_wire.specs.Message.Ask.{Unusable, Judged}
use Rattle.vm_wire.specs.declared.command.Command.{Command}
use Rattle.vm_wire.specs.declared.command.Command.TheVariants.{OpenSession, CloseSession, Ioctl, Map, Unmap}
use Rattle.vm_wire.specs.declared.delivery.Delivery.{Delivery}
use Rattle.vm_session.specs.State.{SessionQueue, SessionState, queue_kind}
use Rattle.vm_session.specs.Streaming.{can_begin, next_spec, next_src, next_job, job_with, begun, finished, sent}
use Rattle.vm_device.specs.Device.{DeviceState, session_of, with_session, is_ready}
use Rattle.vm_device.specs.Perform.{must_wait}
use Rattle.vm_device.specs.Stream.{Begins, events_more, Finishes, Sends}
use Rattle.vm_host.specs.Part.{Part, Call, call_for, Completed, ExecutedCommand, ExecutedAsk, Executed, ResumedCall, Resumed, AnnouncedTo, Announced}
use Rattle.vm_host.specs.Waiting.{put_in, taken_out}
use Rattle.vm_realm.specs.Left.{command_weight, request_weight}
use Rattle.vm_realm.proofs.ListLemmas.{in_front, behind_first}
use Rattle.vm_realm.proofs.QueuedLemmas.{begun_falls, finished_same, sent_few}
use Rattle.vm_realm.proofs.DeviceLemmas.{all_queued, Adds, brings, performs_adds, session_few, session_changes}

-- what is left in the device
abbrev pub part_weight : Part → ℕ
part_weight s = 2 * length s.calls + 6 * all_queued s.device + 5 * length s.device.jobs + 2 * length s.device.unsent

-- ---- calls that wait

put_long : {A : Type 0} (number : A → ℕ) (x : A) (ys : List A) → length (put_in number x ys) ≡ length ys + 1
put_long number x [] = refl
put_long {A = A} number x (y ∷ ys) = by_test (nat_lt (number y) (number x)) (put_long number x ys)
  where
    by_test : (b : Bool) → length (put_in number x ys) ≡ length ys + 1 → length (if b then y ∷ put_in number x ys else x ∷ (y ∷ ys)) ≡ length (y ∷ ys) + 1
    by_test true rest = omega (arith, rest)
    by_test false rest = omega arith

out_first : {A : Type 0} (x : A) (b : Bool) (xs rest : List A) → length rest + 1 ≡ length xs → length (if b then xs else x ∷ rest) + 1 ≡ length (x ∷ xs)
out_first x true xs rest long = omega arith
out_first x false xs rest long = omega (arith, long)

found_next : {A : Type 0} (test : A → Bool) (x y : A) (xs : List A) (b : Bool) → b ≡ false → cond b (Some x) (find test xs) ≡ Some y → find test xs ≡ Some y
found_next test x y xs true is finds = absurd (false≢true (sym is))
found_next test x y xs false is finds = finds

taken_short : {A : Type 0} (number : A → ℕ) (n : ℕ) (xs : List A) (x : A) → find (λ y. eqb (number y) n) xs ≡ Some x → length (taken_out number n xs) + 1 ≡ length xs
taken_short number n [] x finds = absurd (none-some x finds)
taken_short number n (y ∷ ys) x finds = by_test (eqb (number y) n) refl (λ not. taken_short number n ys x (found_next (λ z. eqb (number z) n) y x ys (eqb (number y) n) not finds))
  where
    by_test : (b : Bool) → eqb (number y) n ≡ b → (eqb (number y) n ≡ false → length (taken_out number n ys) + 1 ≡ length ys) →
        length (if b then ys else y ∷ taken_out number n ys) + 1 ≡ length (y ∷ ys)
    by_test true is rest = omega arith
    by_test false is rest = omega (arith, rest is)

-- what is found stands in the list, and passes the test
pub find_in : {A : Type 0} (test : A → Bool) (xs : List A) (x : A) → find test xs ≡ Some x → Contains xs x × (test x ≡ true)
find_in test [] x finds = absurd (none-some x finds)
find_in {A = A} test (y ∷ ys) x finds = by_test (test y) refl finds (λ rest. find_in test ys x rest)
  where
    by_test : (b : Bool) → test y ≡ b → cond b (Some y) (find test ys) ≡ Some x → (find test ys ≡ Some x → Contains ys x × (test x ≡ true)) → Contains (y ∷ ys) x × (test x ≡ true)
    by_test true is finds rest =
        let same : y ≡ x = same_Some y x finds in
        (subst (λ z. Contains (y ∷ ys) z) same (in_front y ys), ap test (sym same) ∙ is)
    by_test false is finds rest = (behind_first y x ys (rest finds).0, (rest finds).1)

-- ---- Execute

enough : (c : Command) → 6 * brings c + 3 ≤ command_weight c
enough OpenSession = omega arith
enough (CloseSession session) = omega arith
enough (Ioctl session QBuf payload) = omega arith
enough (Ioctl session code payload) = omega arith
enough (Map session writable offset) = omega arith
enough (Unmap addr) = omega arith

completed_few : (m : Posting) (c : Command) (s : Part) (r : Returning) (d' : DeviceState) → Completed m c s.device r d' → Adds (brings c) s.device d'
completed_few m c s r d' (a, performs, told, is) = subst (Adds (brings c) s.device) (sym is) (performs_adds s.device c m.behind m.held a performs)

executed_command : (b : Bool) (m : Posting) (c : Command) (s : Part) (out : Option Returning) (s' : Part) → ExecutedCommand b m c s out s' →
    part_weight s' + length (option_to_list out) + 1 ≤ part_weight s + command_weight c
executed_command true m c s out s' (none, (session, named, is)) =
    let long : length (put_in (λ (w : Call). w.session) (record { session = session; posting = m }) s.calls) ≡ length s.calls + 1 = put_long (λ (w : Call). w.session) _ s.calls in
    let same : part_weight s' ≡ part_weight (record s { calls = put_in (λ w. w.session) (record { session = session; posting = m }) s.calls }) = ap part_weight is in
    omega (arith, long, same, ap (λ o. length (option_to_list o)) none, enough c)
executed_command false m c s out s' (r, d', completed, told, is) =
    let adds : Adds (brings c) s.device d' = completed_few m c s r d' completed in
    let same : part_weight s' ≡ part_weight (record s { device = d' }) = ap part_weight is in
    omega (arith, same, adds.queued, ap length adds.jobs, ap length adds.unsent, ap (λ o. length (option_to_list o)) told, enough c)

executed_ask : (a : Ask) (m : Posting) (s : Part) (out : Option Returning) (s' : Part) → ExecutedAsk a m s out s' → part_weight s' + length (option_to_list out) + 1 ≤ part_weight s + request_weight a
executed_ask Unusable m s out s' (told, is) = omega (arith, ap part_weight is, ap (λ o. length (option_to_list o)) told)
executed_ask (Judged (Err f)) m s out s' (told, is) = omega (arith, ap part_weight is, ap (λ o. length (option_to_list o)) told)
executed_ask (Judged (Ok c)) m s out s' does = executed_command (must_wait s.device c) m c s out s' does

pub executed_falls : (m : Posting) (s : Part) (out : Option Returning) (s' : Part) → Executed m s out s' → part_weight s' + length (option_to_list out) + 1 ≤ part_weight s + request_weight m.request.asks
executed_falls m s out s' does = executed_ask m.request.asks m s out s' does

-- ---- Resume

-- the command of a call that waits queues nothing
abbrev pub BringsNone : Call → Type 0
BringsNone w = (c : Command) → w.posting.request.asks ≡ Judged (Ok c) → brings c ≡ 0

resumed_call : (session : ℕ) (o : Option Call) (s : Part) (r : Returning) (s' : Part) → call_for session s.calls ≡ o → ((w : Call) → Contains s.calls w → BringsNone w) →
    ResumedCall o s r s' → part_weight s' + 2 ≤ part_weight s
resumed_call session None s r s' is none does = absurd does
resumed_call session (Some w) s r s' is none (c, d', asks, completed, after) =
    let there : _ = find_in (λ (x : Call). eqb x.session session) s.calls w is in
    let same : w.session ≡ session = eqb-true w.session session there.1 in
    let finds : find (λ (x : Call). eqb x.session w.session) s.calls ≡ Some w = subst (λ n. find (λ (x : Call). eqb x.session n) s.calls ≡ Some w) (sym same) is in
    let short = taken_short (λ (x : Call). x.session) w.session s.calls w finds in
    let adds : Adds (brings c) s.device d' = completed_few w.posting c s r d' completed in
    let now : part_weight s' ≡ part_weight (record { device = d'; calls = taken_out (λ x. x.session) w.session s.calls }) = ap part_weight after in
    omega (arith, short, now, adds.queued, ap length adds.jobs, ap length adds.unsent, none w there.0 c asks)

pub resumed_falls : (session : ℕ) (s : Part) (r : Returning) (s' : Part) → ((w : Call) → Contains s.calls w → BringsNone w) → Resumed session s r s' → part_weight s' + 2 ≤ part_weight s
resumed_falls session s r s' none (rest, does) = resumed_call session (call_for session s.calls) s r s' refl none does

-- ---- Begin

no_dst : (m : Model) (qs : List SessionQueue) (t : ℕ) → length qs ≡ 0 → first_of (queue_at queue_kind m qs t).queued ≡ None
no_dst m [] t none = refl
no_dst m (q ∷ qs) t none = absurd (omega (arith, none))

has_queue : (s : SessionState) (number : ℕ) (job : JobParts) → next_job s number ≡ Some job → 1 ≤ length s.queues
has_queue s number job is = elim (cases_lt 0 (length s.queues)) [
  | inl some ↦ omega (arith, some)
  | inr few ↦ absurd (none-some job (sym (ap (λ o. option_map (job_with (next_spec s number) (next_src s)) o) (no_dst s.model s.queues (picture_queue s.model) (omega (arith, few)))) ∙ is))
]

ready_can : (o : Option SessionState) (s : SessionState) → o ≡ Some s → is_ready o ≡ true → can_begin s ≡ true
ready_can o s is ready = sym (ap is_ready is) ∙ ready

pub begins_falls : (d : DeviceState) (id : ℕ) (job : JobParts) (d' : DeviceState) → Begins d id (Some job) d' →
    6 * all_queued d' + 5 * length d'.jobs + 2 * length d'.unsent + 1 ≤ 6 * all_queued d + 5 * length d.jobs + 2 * length d.unsent
begins_falls d id job d' (ready, (s, entry, is, next, of, after)) =
    let can : can_begin s ≡ true = ready_can (session_of d id) s is ready in
    let changes = session_changes d id s (begun s d.begun) is in
    let now : all_queued d' ≡ all_queued (with_session d id (begun s d.begun)) = ap all_queued after in
    let jobs : length d'.jobs ≡ length d.jobs + 1 = ap (λ (x : DeviceState). length x.jobs) after ∙ length_push d.jobs entry in
    let unsent : length d'.unsent ≡ length d.unsent = ap (λ (x : DeviceState). length x.unsent) after in
    omega (arith, changes, now, jobs, unsent, begun_falls s d.begun can, has_queue s d.begun job next)

-- ---- Finish

pub kept_few : {A : Type 0} (p : A → Bool) (xs : List A) → length (filter p xs) ≤ length xs
kept_few p [] = omega arith
kept_few {A = A} p (x ∷ xs) = by_test (p x) (kept_few p xs)
  where
    by_test : (b : Bool) → length (filter p xs) ≤ length xs → length (cond b (x ∷ filter p xs) (filter p xs)) ≤ length (x ∷ xs)
    by_test true rest = omega (arith, rest)
    by_test false rest = omega (arith, rest)

pub filter_drops : {A : Type 0} (p : A → Bool) (xs : List A) (x : A) → Contains xs x → p x ≡ false → length (filter p xs) + 1 ≤ length xs
filter_drops p [] x there fails = absurd (omega (arith, there.1))
filter_drops p (y ∷ ys) x (zero, within, is) fails =
    let short : length (filter p (y ∷ ys)) ≡ length (filter p ys) = ap length (cond-false (p y) (y ∷ filter p ys) (filter p ys) (ap p is ∙ fails)) in
    omega (arith, short, kept_few p ys)
filter_drops {A = A} p (y ∷ ys) x (suc k, within, is) fails = by_test (p y) (filter_drops p ys x (k, omega (arith, within), is) fails)
  where
    by_test : (b : Bool) → length (filter p ys) + 1 ≤ length ys → length (cond b (y ∷ filter p ys) (filter p ys)) + 1 ≤ length (y ∷ ys)
    by_test true rest = omega (arith, rest)
    by_test false rest = omega (arith, rest)

pub some_of : {A B : Type 0} (f : A → B) (o : Option A) (y : B) → option_map f o ≡ Some y → (x : A) × (o ≡ Some x) × (f x ≡ y)
some_of f None y is = absurd (none-some y is)
some_of f (Some x) y is = (x, refl, same_Some (f x) y is)

pub finishes_falls : (d : DeviceState) (done : DoneParts) (d' : DeviceState) → ((s : SessionState) → session_of d done.job.spec.session ≡ Some s → events_more s done ≤ 2) → Finishes d done d' →
    6 * all_queued d' + 5 * length d'.jobs + 2 * length d'.unsent + 1 ≤ 6 * all_queued d + 5 * length d.jobs + 2 * length d.unsent
finishes_falls d done d' few (s, out, is, after) =
    let id : ℕ = done.job.spec.session in
    let entry : _ = some_of (λ (e : JobOut). e.spec) (find (λ (e : JobOut). eqb e.spec.number done.job.spec.number) d.jobs) done.job.spec out in
    let there : _ = find_in (λ (e : JobOut). eqb e.spec.number done.job.spec.number) d.jobs entry.0 entry.1 in
    let own : eqb entry.0.spec.session id ≡ true = eq-eqb entry.0.spec.session id (ap (λ (x : JobSpec). x.session) entry.2) in
    let drops = filter_drops (λ (e : JobOut). not (eqb e.spec.session id)) d.jobs entry.0 there.0 (ap not own) in
    let changes = session_changes d id s (finished s done) is in
    let now : all_queued d' ≡ all_queued (with_session d id (finished s done)) = ap all_queued after in
    let jobs : length d'.jobs ≡ length (filter (λ (e : JobOut). not (eqb e.spec.session id)) d.jobs) = ap (λ (x : DeviceState). length x.jobs) after in
    let unsent : length d'.unsent ≡ length d.unsent + events_more s done =
    ap (λ (x : DeviceState). length x.unsent) after ∙ (length-append d.unsent (replicate (events_more s done) id) ∙ ap (λ n. length d.unsent + n) (length-replicate (events_more s done) id)) in
    omega (arith, changes, now, jobs, unsent, drops, finished_same s done, few s is)

-- ---- Announce

announced_to : (ids : List ℕ) (s : Part) (delivery : Delivery) (s' : Part) → s.device.unsent ≡ ids → AnnouncedTo ids s delivery s' → part_weight s' + 2 ≤ part_weight s
announced_to [] s delivery s' is does = absurd does
announced_to (id ∷ ids) s delivery s' is (named, sends, calls) =
    let by : Sends s.device (id ∷ ids) (Some (delivery.msg, delivery.held)) s'.device = subst (λ l. Sends s.device l (Some (delivery.msg, delivery.held)) s'.device) is sends in
    let t : SessionState = by.0 in
    let few = session_few s.device id 0 t (sent t) by.1 (omega (arith, sent_few t)) in
    let now : all_queued s'.device ≡ all_queued (with_session s.device id (sent t)) = ap all_queued by.4 in
    let jobs : length s'.device.jobs ≡ length s.device.jobs = ap (λ (x : DeviceState). length x.jobs) by.4 in
    let unsent : length s'.device.unsent ≡ length ids = ap (λ (x : DeviceState). length x.unsent) by.4 in
    omega (arith, few, now, jobs, unsent, ap length is, ap length calls)

pub announced_falls : (s : Part) (delivery : Delivery) (s' : Part) → Announced s delivery s' → part_weight s' + 2 ≤ part_weight s
announced_falls s delivery s' does = announced_to s.device.unsent s delivery s' refl does
