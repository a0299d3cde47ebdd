-- Each step of the device that may come next can be done.
use Rattle.std.proofs.Common.{◌≡◌, ℕ, ◌+◌, ◌-◌, ◌≤◌, Bool, true, false, not, List, [], ◌∷◌, ◌++◌, Option, Some, None, Ok, Err, is_some, length, find, refl, sym, ap, ◌∙◌, subst, arith, eqb}
use Rattle.std.specs.Prelude.{IsTrue}
use Rattle.std.specs.List.{Contains, filter}
use Rattle.std.specs.Option.{option_map}
use Rattle.std.proofs.lemmas.Bool.{false≢true, and_parts, cond-true, eq-eqb, eqb-true}
use Rattle.std.proofs.lemmas.List.{length-map}
use Rattle.vm_job.specs.Entry.{IsOf, parts_of}
use Rattle.vm_job.specs.Job.{JobParts, DoneParts}
use Rattle.vm_job.specs.declared.job_out.JobOut.{JobOut}
use Rattle.vm_mem.specs.Lists.{first_of, occurrences}
use Rattle.vm_wire.specs.Message.{Ask, Posting, Returning}
use Rattle.vm_wire.specs.Message.Ask.{Unusable, Judged}
use Rattle.vm_wire.specs.Wire.{response_bytes}
use Rattle.vm_wire.specs.declared.command.Command.{Command}
use Rattle.vm_wire.specs.declared.command.Command.TheVariants.{OpenSession, CloseSession, Ioctl, Map as MapFrame, Unmap}
use Rattle.vm_wire.specs.declared.delivery.Delivery.{Delivery}
use Rattle.vm_session.specs.State.{SessionState}
use Rattle.vm_session.specs.Sound.{IsSound as IsSoundSession}
use Rattle.vm_session.specs.Streaming.{can_begin as session_can_begin, next_job, next_src, next_dst, next_spec, job_with, oldest}
use Rattle.vm_session.specs.declared.unsent.Unsent.{Unsent}
use Rattle.vm_session.proofs.StreamLemmas.{can_begin_is, ready_head}
use Rattle.vm_device.specs.Device.{DeviceState, session_of, is_ready, is_at_rest}
use Rattle.vm_device.specs.Keeps.{specs_for, specs_in, unsent_in}
use Rattle.vm_device.specs.Perform.{Answer, Performs, must_wait}
use Rattle.vm_device.specs.Stream.{Sends, outstanding, with_job, with_done, with_sent}
use Rattle.vm_host.specs.Chains.{named_session, refusal_of_fault}
use Rattle.vm_host.specs.Part.{Part, Call as WaitingCall, call_for, returning, ExecutedCommand, ExecutedAsk, ResumedCall, AnnouncedTo}
use Rattle.vm_host.specs.Waiting.{put_in, taken_out}
use Rattle.vm_realm.specs.World.{WorldState}
use Rattle.vm_realm.specs.Enabled.{waits, can_begin, can_resume, can_announce, is_some_of}
use Rattle.vm_realm.specs.Inner.{Inner}
use Rattle.vm_realm.specs.Steps.{ComesBack, DoesExecute, DoesResume, DoesBegin, DoesFinish, DoesAnnounce, after_device, with_device}
use Rattle.vm_realm.specs.Sound.{IsSoundBy}
use Rattle.vm_realm.proofs.CanServeLemmas.{performs_some}
use Rattle.vm_realm.proofs.CommandLemmas.{one_kept}
use Rattle.vm_realm.proofs.ListLemmas.{contains_filter}
use Rattle.vm_realm.proofs.PartLemmas.{find_in}
use Rattle.vm_realm.proofs.SessionNextLemmas.{sessions_are}

-- ---- Execute

-- what has to wait names its session
waits_in : (d : DeviceState) (c : Command) → must_wait d c ≡ true → (session : ℕ) × (named_session c ≡ Some session)
waits_in d OpenSession must = absurd (false≢true must)
waits_in d (CloseSession session) must = (session, refl)
waits_in d (Ioctl session code payload) must = (session, refl)
waits_in d (MapFrame session writable offset) must = absurd (false≢true must)
waits_in d (Unmap addr) must = absurd (false≢true must)

command_can : (w : WorldState) (rows : List (List Inner)) (m : Posting) (c : Command) (b : Bool) → IsSoundBy w rows → must_wait w.host.device c ≡ b → (out : Option Returning) × (host : Part) × ExecutedCommand b m c w.host out host
command_can w rows m c true sound must =
    let at : _ = waits_in w.host.device c must in
    (None, record w.host { calls = put_in (λ (x : WaitingCall). x.session) (record { session = at.0; posting = m }) w.host.calls }, (refl, (at.0, at.1, refl)))
command_can w rows m c false sound must =
    let a : (a : Answer) × Performs w.host.device c m.behind m.held a = performs_some w.host.device c m.behind m.held sound.mapped.apart in
    let r : Returning = returning m (response_bytes a.0.response) a.0.held in
    (Some r, record w.host { device = a.0.device }, (r, a.0.device, (a.0, a.1, refl, refl), refl, refl))

ask_can : (w : WorldState) (rows : List (List Inner)) (m : Posting) (ask : Ask) → IsSoundBy w rows → (out : Option Returning) × (host : Part) × ExecutedAsk ask m w.host out host
ask_can w rows m Unusable sound = (Some (returning m [] m.held), w.host, (refl, refl))
ask_can w rows m (Judged (Err f)) sound = (Some (returning m (response_bytes (refusal_of_fault f)) m.held), w.host, (refl, refl))
ask_can w rows m (Judged (Ok c)) sound = command_can w rows m c (must_wait w.host.device c) sound refl

pub execute_can : (w : WorldState) (rows : List (List Inner)) (requests : List Posting) → IsSoundBy w rows → is_some_of requests ≡ true → (w' : WorldState) × DoesExecute requests w w'
execute_can w rows [] sound may = absurd (false≢true may)
execute_can w rows (m ∷ ms) sound may =
    let d : _ = ask_can w rows m m.request.asks sound in
    (after_device (record w { requests = ms }) d.1 d.0, (d.0, d.1, d.2, refl))

-- ---- Resume

some_call : (o : Option WaitingCall) → is_some o ≡ true → (c : WaitingCall) × (o ≡ Some c)
some_call None may = absurd (false≢true may)
some_call (Some c) may = (c, refl)

pub resume_can : (w : WorldState) (rows : List (List Inner)) (session : ℕ) → IsSoundBy w rows → can_resume w.host session ≡ true → (w' : WorldState) × DoesResume session w w'
resume_can w rows session sound may =
    let parts : _ = and_parts (waits w.host session) (is_at_rest (session_of w.host.device session)) may in
    let call : _ = some_call (call_for session w.host.calls) parts.0 in
    let there : _ = find_in (λ (y : WaitingCall). eqb y.session session) w.host.calls call.0 call.1 in
    let one : _ = one_kept w rows call.0 sound there.0 in
    let m : Posting = call.0.posting in
    let c : Command = one.2.posted.crossing.command in
    let asks : m.request.asks ≡ Judged (Ok c) = ap (λ (y : Posting). y.request.asks) one.2.posted.says in
    let a : (a : Answer) × Performs w.host.device c m.behind m.held a = performs_some w.host.device c m.behind m.held sound.mapped.apart in
    let r : Returning = returning m (response_bytes a.0.response) a.0.held in
    let host : Part = record { device = a.0.device; calls = taken_out (λ (x : WaitingCall). x.session) call.0.session w.host.calls } in
    let does : ResumedCall (call_for session w.host.calls) w.host r host =
    subst (λ o. ResumedCall o w.host r host) (sym call.1) (c, a.0.device, asks, (a.0, a.1, refl, refl), refl) in
    (after_device w host (Some r), (r, host, (parts.1, does), refl))

-- ---- Begin

live_ready : (o : Option SessionState) → is_ready o ≡ true → (s : SessionState) × (o ≡ Some s) × (session_can_begin s ≡ true)
live_ready None may = absurd (false≢true may)
live_ready (Some s) may = (s, refl, may)

job_for : (s : SessionState) (number : ℕ) → is_some (next_dst s) ≡ true → (job : JobParts) × (next_job s number ≡ Some job)
job_for s number some = by_dst (next_dst s) some
  where
    by_dst : (o : Option _) → is_some o ≡ true → (job : JobParts) × (option_map (job_with (next_spec s number) (next_src s)) o ≡ Some job)
    by_dst None some = absurd (false≢true some)
    by_dst (Some dst) some = (job_with (next_spec s number) (next_src s) dst, refl)

-- the job as it goes out
entry_for : (job : JobParts) → (entry : JobOut) × IsOf entry job
entry_for job = (record { spec = job.spec; src = record { value = job.src; marker = record {} }; dst = record { value = job.dst; marker = record {} } }, (refl, refl, refl))

pub begin_can : (w : WorldState) (rows : List (List Inner)) (session : ℕ) → IsSoundBy w rows → can_begin w.host session ≡ true → (w' : WorldState) × DoesBegin session w w'
begin_can w rows session sound may =
    let d : DeviceState = w.host.device in
    let parts : _ = and_parts (not (waits w.host session)) (is_ready (session_of d session)) may in
    let live : _ = live_ready (session_of d session) parts.1 in
    let s : SessionState = live.0 in
    let whole : IsSoundSession s = sessions_are w rows sound session s live.1 in
    let ready : _ = can_begin_is s live.2 in
    let job : _ = job_for s d.begun (ready_head s.model s.queues whole.queues ready.1) in
    let entry : _ = entry_for job.0 in
    let next : DeviceState = with_job d session s entry.0 in
    (with_device w next, (job.0, next, (parts.1, (s, entry.0, live.1, job.1, entry.1, refl)), refl))

-- ---- Finish

some_out : (o : Option JobOut) → is_some (option_map (λ (e : JobOut). e.spec) o) ≡ true → (e : JobOut) × (o ≡ Some e)
some_out None some = absurd (false≢true some)
some_out (Some e) some = (e, refl)

session_with : (o : Option SessionState) → 1 ≤ length (specs_in o) → (s : SessionState) × (o ≡ Some s)
session_with None some = absurd (omega (arith, some))
session_with (Some s) some = (s, refl)

-- the session of a job that is out is live
job_session : (w : WorldState) (rows : List (List Inner)) (e : JobOut) → IsSoundBy w rows → Contains w.host.device.jobs e → (s : SessionState) × (session_of w.host.device e.spec.session ≡ Some s)
job_session w rows e sound there =
    let d : DeviceState = w.host.device in
    let id : ℕ = e.spec.session in
    let mine : Contains (filter (λ (x : JobOut). eqb x.spec.session id) d.jobs) e = contains_filter (λ (x : JobOut). eqb x.spec.session id) d.jobs e (eq-eqb id id refl) there in
    let within = mine.1 in
    let long = length-map (filter (λ (x : JobOut). eqb x.spec.session id) d.jobs) (λ (x : JobOut). x.spec) in
    let some : 1 ≤ length (specs_for id d.jobs) = omega (arith, within, long) in
    session_with (session_of d id) (subst (λ xs. 1 ≤ length xs) (sound.device.sound.jobs id) some)

pub finish_can : (w : WorldState) (rows : List (List Inner)) (number : ℕ) → IsSoundBy w rows → is_some (outstanding w.host.device number) ≡ true → (w' : WorldState) × DoesFinish number w w'
finish_can w rows number sound may =
    let d : DeviceState = w.host.device in
    let out : _ = some_out (find (λ (e : JobOut). eqb e.spec.number number) d.jobs) may in
    let e : JobOut = out.0 in
    let there : _ = find_in (λ (x : JobOut). eqb x.spec.number number) d.jobs e out.1 in
    let s : _ = job_session w rows e sound there.0 in
    let done : DoneParts = record { job = parts_of e; good = false } in
    let comes : ComesBack e done = record {
      job = parts_of e;
      out = (refl, refl, refl);
      back = record { spec = refl; src = refl; dst = record { queue = refl; index = refl; rest = refl; size = refl; behind = refl }; bad = λ bad. refl };
      picture = λ good. absurd (never good);
    } in
    let same : number ≡ e.spec.number = sym (number_is e there.1) in
    let its : outstanding d e.spec.number ≡ Some e.spec =
    ap (option_map (λ (x : JobOut). x.spec)) (subst (λ k. find (λ (x : JobOut). eqb x.spec.number k) d.jobs ≡ Some e) same out.1) in
    let next : DeviceState = with_done d e.spec.session s.0 done in
    (with_device w next, (done, (e, next, out.1, comes, (s.0, its, s.1, refl), refl)))
  where
    never : IsTrue false → ⊥
    never is = absurd (false≢true is)

    number_is : (e : JobOut) → eqb e.spec.number number ≡ true → e.spec.number ≡ number
    number_is e is = eqb-true e.spec.number number is

-- ---- Announce

first_counts : (id : ℕ) (ids : List ℕ) → 1 ≤ occurrences id (id ∷ ids)
first_counts id ids =
    let here = cond-true (eqb id id) (occurrences id ids + 1) (occurrences id ids) (eq-eqb id id refl) in
    omega (arith, here)

some_unsent : (o : Option SessionState) → 1 ≤ unsent_in o → (s : SessionState) × (o ≡ Some s) × ((e : Unsent) × (oldest s ≡ Some (e.msg, e.held)))
some_unsent None some = absurd (omega (arith, some))
some_unsent (Some s) some = (s, refl, by_unsent s.unsent refl)
  where
    by_unsent : (es : List Unsent) → s.unsent ≡ es → (e : Unsent) × (oldest s ≡ Some (e.msg, e.held))
    by_unsent [] is = absurd (let none = ap length is in omega (arith, none, some))
    by_unsent (e ∷ es) is = (e, ap (λ xs. option_map (λ (x : Unsent). (x.msg, x.held)) (first_of xs)) is)

announced : (w : WorldState) (rows : List (List Inner)) (unsent : List ℕ) → IsSoundBy w rows → w.host.device.unsent ≡ unsent → is_some_of unsent ≡ true → (delivery : Delivery) × (host : Part) × AnnouncedTo unsent w.host delivery host
announced w rows [] sound is may = absurd (false≢true may)
announced w rows (id ∷ ids) sound is may =
    let d : DeviceState = w.host.device in
    let counts : 1 ≤ unsent_in (session_of d id) = subst (λ n. 1 ≤ n) (ap (occurrences id) (sym is) ∙ sound.device.sound.events id) (first_counts id ids) in
    let live : _ = some_unsent (session_of d id) counts in
    let e : Unsent = live.2.0 in
    let next : DeviceState = with_sent d id live.0 ids in
    let sends : Sends d (id ∷ ids) (Some (e.msg, e.held)) next = (live.0, live.1, refl, sym live.2.1, refl) in
    let all : Sends d d.unsent (Some (e.msg, e.held)) next = subst (λ xs. Sends d xs (Some (e.msg, e.held)) next) (sym is) sends in
    (record { session = id; msg = e.msg; held = e.held }, record w.host { device = next }, (refl, all, refl))

pub announce_can : (w : WorldState) (rows : List (List Inner)) → IsSoundBy w rows → can_announce w ≡ true → (w' : WorldState) × DoesAnnounce w w'
announce_can w rows sound may =
    let parts : _ = and_parts (is_some_of w.host.device.unsent) _ may in
    let a : _ = announced w rows w.host.device.unsent sound refl parts.0 in
    (record w { host = a.1; chains = w.chains - 1; events = w.events ++ a.0 ∷ [] }, (a.0, a.1, a.2, refl))
