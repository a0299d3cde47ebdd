-- How many frames failed: a job that comes back bad is one more, and no other step changes it.
use Rattle.std.proofs.Common.{◌≡◌, ◌⊎◌, ℕ, zero, suc, ◌+◌, ◌-◌, ◌<◌, ◌≤◌, Bool, true, false, not, List, [], ◌∷◌, ◌++◌, Option, Some, None, Ok, Err, is_some, length, get_or, set, map, refl, sym, ap, ◌∙◌, subst, arith, inl, inr, eqb}
use Rattle.std.specs.Prelude.{sum_by, replicate}
use Rattle.std.specs.List.{flat_map, filter, Contains}
use Rattle.std.specs.Option.{option_map, option_to_list}
use Rattle.std.proofs.lemmas.Bool.{false≢true, cond_both, eq-eqb, eqb-true}
use Rattle.std.proofs.lemmas.List.{length-map, length-set, get_or-set_same}
use Rattle.std.proofs.lemmas.List.Elements.{All-get_or, All-head}
use Rattle.std.proofs.lemmas.List.Filters.{sum_by-filter_both}
use Rattle.std.proofs.lemmas.List.Sums.{sum_by-cons, sum_by-append, sum_by-set}
use Rattle.std.proofs.lemmas.Option.{none-some, same_Some}
use Rattle.std.specs.Option.{IfSome}
use Rattle.v4l_const.specs.declared.errno.Errno.{Errno}
use Rattle.v4l_const.specs.declared.model.Model.{Model}
use Rattle.v4l_rules.specs.Refusals.{first_refusal}
use Rattle.vm_frame.specs.declared.mem.Held.{Held}
use Rattle.vm_home.specs.Moves.{goes_along}
use Rattle.vm_job.specs.Job.{DoneParts}
use Rattle.vm_job.specs.declared.job_out.JobOut.{JobOut}
use Rattle.vm_job.specs.declared.spec.JobSpec.{JobSpec}
use Rattle.vm_lease.specs.Lease.{LeaseParts}
use Rattle.vm_link.specs.declared.link.Turn.TheVariants.{Did}
use Rattle.vm_local.specs.declared.call.Call.{Call}
use Rattle.vm_local.specs.declared.entry.Entry.{Entry}
use Rattle.vm_local.specs.declared.reply.Reply.TheVariants.{Refused}
use Rattle.vm_local.specs.State.{LocalState}
use Rattle.vm_log.specs.Answers.{with_line, Sends, Leases, given_back as log_given_back}
use Rattle.vm_log.specs.LegalLog.{LogState, state_of}
use Rattle.vm_log.specs.declared.leased.Leased.{Leased}
use Rattle.vm_log.specs.declared.leased.Leased.TheVariants.{Out as GoneOut, Answered, Idle}
use Rattle.vm_mem.specs.Lists.{first_of}
use Rattle.vm_script.specs.declared.line.LineKind.{LineKind}
use Rattle.vm_script.specs.declared.line.LineKind.TheVariants.{OnHandle, Raw}
use Rattle.vm_wire.specs.Message.{Ask, Posting, Returning}
use Rattle.vm_wire.specs.Message.Ask.{Unusable, Judged}
use Rattle.vm_wire.specs.Wire.{response_of}
use Rattle.vm_wire.specs.declared.command.Command.{Command}
use Rattle.vm_wire.specs.declared.command.Command.TheVariants.{OpenSession, CloseSession, Ioctl, Map, Unmap}
use Rattle.vm_wire.specs.declared.delivery.Delivery.{Delivery}
use Rattle.vm_wire.specs.declared.event.EventMsg.{EventMsg}
use Rattle.vm_exchange.specs.declared.way.Way.{Way}
use Rattle.vm_exchange.specs.declared.way.Way.TheVariants.{Crosses, AnsweredHere, Waits, TouchesMemory}
use Rattle.vm_handle.specs.Answers.{row_from, AnswersHere, with_reply}
use Rattle.vm_handle.specs.Handle.{HandleState, way_from}
use Rattle.vm_session.specs.declared.running.Running.{Running}
use Rattle.vm_session.specs.declared.unsent.Unsent.{Unsent}
use Rattle.vm_session.specs.State.{SessionState}
use Rattle.vm_session.specs.Sound.{taken_by}
use Rattle.vm_session.specs.Streaming.{begun, events_of as messages_of_frame, finished, finished_by, sent}
use Rattle.vm_device.specs.Device.{DeviceState, session_of, is_at_rest}
use Rattle.vm_device.specs.Keeps.{specs_for, specs_in}
use Rattle.vm_device.specs.Perform.{is_busy, must_wait}
use Rattle.vm_device.specs.Stream.{Sends as DeviceSends}
use Rattle.vm_host.specs.Part.{Part, Call as WaitingCall, call_for, Completed, ExecutedCommand, ExecutedAsk, ResumedCall, AnnouncedTo}
use Rattle.vm_guest.specs.Asking.{asked_in, begins_with_events, ends_with_events}
use Rattle.vm_guest.specs.Events.{holds_back, held_back, given, taken_at, events_of, events_of_others, caught_up, settled}
use Rattle.vm_guest.specs.Guest.{GuestState, no_process, process_in, process_at, with_process, seat_of}
use Rattle.vm_guest.specs.Lines.{BeginsCall, Begins, AnsweredFor, after_lease, LeasesCall, returned_to, returned, waiting}
use Rattle.vm_guest.specs.Message.{Sending}
use Rattle.vm_guest.specs.Orderly.{IsSeat}
use Rattle.vm_guest.specs.Part.{Inbox, Outbox, IssuesFor, CollectsFrom, PumpsFrom}
use Rattle.vm_guest.specs.Process.{ProcessState, current, current_call, crossing, issuing, leasing, handle_at, with_log, no_handle, is_crossing}
use Rattle.vm_guest.specs.Steps.{Issued, Collected, LeasesFor}
use Rattle.vm_guest.specs.declared.asked.Asked.{Asked as AskedCall}
use Rattle.vm_guest.specs.declared.asked.Statement.{Statement}
use Rattle.vm_guest.specs.declared.seat.Seat.{Seat}
use Rattle.vm_stands.proofs.AheadLemmas.{flight_steps}
use Rattle.vm_stands.proofs.FlightLemmas.{steps_model, all_replay}
use Rattle.vm_stands.proofs.TookLemmas.{OneEach}
use Rattle.vm_stands.specs.Flight.{LeadAll, stops_queues}
use Rattle.vm_stands.specs.Slice.{LeadWith, LeadAhead}
use Rattle.vm_realm.specs.declared.step.Step.{Step}
use Rattle.vm_realm.specs.declared.step.Step.TheVariants.{Issue, Execute, Resume, Begin, Finish, Announce, Collect, Pump, Lease, GiveBack}
use Rattle.vm_realm.specs.World.{WorldState, handles_of}
use Rattle.vm_realm.specs.Inner.{Inner, driver_state}
use Rattle.vm_realm.specs.Laws.{one_unless, is_finish}
use Rattle.vm_realm.specs.Left.{bad_in, unsent_in, messages_of, bad_count}
use Rattle.vm_realm.specs.Slice.{Slice, slice_at, earlier_of}
use Rattle.vm_realm.specs.SliceSteps.{takes_by, takes_for, takes_all, TakesNone}
use Rattle.vm_realm.specs.Sound.{AreOfHandles, IsSound, IsSoundBy, IsSoundSlice, IsSeated, inner_at}
use Rattle.vm_realm.specs.Steps.{inbox_of, after_driver, after_device, with_device, DoesExecute, DoesBegin, DoesFinishWith, DoesAnnounce, Steps, Leads}
use Rattle.vm_realm.proofs.CommandLemmas.{IsOneKept, one_kept}
use Rattle.vm_realm.proofs.DeviceLemmas.{session_there}
use Rattle.vm_realm.proofs.FrameLemmas.{handle_there}
use Rattle.vm_realm.proofs.FramesLemmas.{SeatedAt, seated_at}
use Rattle.vm_realm.proofs.IssueLemmas.{none_first}
use Rattle.vm_realm.proofs.LendLemmas.{call_there}
use Rattle.vm_realm.proofs.ListLemmas.{contains_filter}
use Rattle.vm_realm.proofs.PartLemmas.{find_in}
use Rattle.vm_realm.proofs.ProcessLemmas.{some_where}
use Rattle.vm_realm.proofs.PumpLiftLemmas.{pump_keeps}
use Rattle.vm_realm.proofs.PumpingLemmas.{PumpsThen, taking_is_pumping}
use Rattle.vm_realm.proofs.SessionLemmas.{NamesOwn, names_own, open_has}
use Rattle.vm_realm.proofs.ShareLemmas.{log_model}
use Rattle.vm_realm.proofs.SumLemmas.{place_within}
use Rattle.vm_realm.proofs.WaitingLemmas.{command_same}
use Rattle.vm_realm.proofs.BadFrameLemmas.{of_unsent, in_session_of, of_session, same_unsent, in_sessions, ClosesQuiet, performs_none, sent_unsent, frame_marks}
use Rattle.vm_realm.proofs.BadLogLemmas.{set_same, set_adds, sum_mapped, sum_flat, entry_keeps_model, state_model, called_none, marks, flight_marks, in_handle, here_adds, in_process, in_all, handle_same, SitsIn, told_at_adds, all_told_adds}

-- ---- the count in parts

abbrev pub of_sent : Model → List Delivery → ℕ
of_sent m ds = sum_by (λ d. marks m d.msg) ds

abbrev pub weight : Model → WorldState → ℕ
weight m w = in_all w.guest.processes + of_sent m w.guest.pump.held + of_sent m w.events + in_sessions m w.host.device.sessions

bad_parts : (w : WorldState) → bad_count w ≡ weight w.script.model w
bad_parts w =
    let m : Model = w.script.model in
    let held : List EventMsg = map (λ (d : Delivery). d.msg) w.guest.pump.held in
    let told : List EventMsg = map (λ (d : Delivery). d.msg) w.events in
    let unsent : List EventMsg = flat_map unsent_in w.host.device.sessions in
    let logs : sum_by in_handle (handles_of w) ≡ in_all w.guest.processes = sum_flat in_handle (λ (p : ProcessState). p.handles) w.guest.processes in
    let parts : sum_by (marks m) (held ++ (told ++ unsent)) ≡ sum_by (marks m) held + (sum_by (marks m) told + sum_by (marks m) unsent) =
    sum_by-append (marks m) held (told ++ unsent) ∙ ap (λ n. sum_by (marks m) held + n) (sum_by-append (marks m) told unsent) in
    let first : sum_by (marks m) held ≡ of_sent m w.guest.pump.held = sum_mapped (marks m) (λ (d : Delivery). d.msg) w.guest.pump.held in
    let second : sum_by (marks m) told ≡ of_sent m w.events = sum_mapped (marks m) (λ (d : Delivery). d.msg) w.events in
    let third : sum_by (marks m) unsent ≡ in_sessions m w.host.device.sessions = sum_flat (marks m) unsent_in w.host.device.sessions in
    omega (arith, logs, flight_marks m (messages_of w), parts, first, second, third)

by_weight : (w v : WorldState) (k : ℕ) → v.script ≡ w.script → weight w.script.model v ≡ weight w.script.model w + k → bad_count v ≡ bad_count w + k
by_weight w v k script more =
    let same : weight v.script.model v ≡ weight w.script.model v = ap (λ s. weight s.model v) script in
    omega (arith, bad_parts w, bad_parts v, same, more)

device_counts : (w v : WorldState) (k : ℕ) → v.script ≡ w.script → v.guest ≡ w.guest → v.events ≡ w.events →
    in_sessions w.script.model v.host.device.sessions ≡ in_sessions w.script.model w.host.device.sessions + k → bad_count v ≡ bad_count w + k
device_counts w v k script guest events more =
    let m : Model = w.script.model in
    by_weight w v k script (omega (arith, more, ap (λ (g : GuestState). in_all g.processes) guest, ap (λ (g : GuestState). of_sent m g.pump.held) guest, ap (of_sent m) events))

driver_same : (w v : WorldState) → v.script ≡ w.script → v.host ≡ w.host →
    in_all v.guest.processes + of_sent w.script.model v.guest.pump.held + of_sent w.script.model v.events ≡ in_all w.guest.processes + of_sent w.script.model w.guest.pump.held + of_sent w.script.model w.events →
    bad_count v ≡ bad_count w
driver_same w v script host same =
    let by : bad_count v ≡ bad_count w + 0 = by_weight w v 0 script (omega (arith, same, ap (λ (s : Part). in_sessions w.script.model s.device.sessions) host)) in
    omega (arith, by)

-- ---- Execute

not_busy : (o : Option SessionState) → is_busy o ≡ false → is_at_rest o ≡ true
not_busy None is = refl
not_busy (Some s) is = not_not (is_at_rest (Some s)) is
  where
    not_not : (b : Bool) → not b ≡ false → b ≡ true
    not_not true is = refl
    not_not false is = absurd (false≢true (sym is))

goes_quiet : (d : DeviceState) (c : Command) → must_wait d c ≡ false → ClosesQuiet d c
goes_quiet d OpenSession goes = tt
goes_quiet d (CloseSession id) goes = not_busy (session_of d id) goes
goes_quiet d (Ioctl id code p) goes = tt
goes_quiet d (Map id writable offset) goes = tt
goes_quiet d (Unmap addr) goes = tt

completed_none : (k : Model) (m : Posting) (c : Command) (d : DeviceState) (r : Returning) (d' : DeviceState) → ClosesQuiet d c → Completed m c d r d' → in_sessions k d'.sessions ≡ in_sessions k d.sessions
completed_none k m c d r d' quiet (a, performs, told, is) = ap (λ (x : DeviceState). in_sessions k x.sessions) is ∙ performs_none k d c m.behind m.held a quiet performs

command_none : (k : Model) (b : Bool) (m : Posting) (c : Command) (s : Part) (out : Option Returning) (s' : Part) → must_wait s.device c ≡ b → ExecutedCommand b m c s out s' → in_sessions k s'.device.sessions ≡ in_sessions k s.device.sessions
command_none k true m c s out s' waits (none, (session, named, is)) = ap (λ (x : Part). in_sessions k x.device.sessions) is
command_none k false m c s out s' waits (r, d', completed, told, is) =
    ap (λ (x : Part). in_sessions k x.device.sessions) is ∙ completed_none k m c s.device r d' (goes_quiet s.device c waits) completed

ask_none : (k : Model) (a : Ask) (m : Posting) (s : Part) (out : Option Returning) (s' : Part) → ExecutedAsk a m s out s' → in_sessions k s'.device.sessions ≡ in_sessions k s.device.sessions
ask_none k Unusable m s out s' (told, is) = ap (λ (x : Part). in_sessions k x.device.sessions) is
ask_none k (Judged (Err f)) m s out s' (told, is) = ap (λ (x : Part). in_sessions k x.device.sessions) is
ask_none k (Judged (Ok c)) m s out s' does = command_none k (must_wait s.device c) m c s out s' refl does

zero_more : (a b : ℕ) → a ≡ b → a ≡ b + 0
zero_more a b is = omega (arith, is)

none_more : (a b : ℕ) → a ≡ b + 0 → a ≡ b
none_more a b is = omega (arith, is)

-- nothing but the device changes, and the unsent messages stay
device_same : (w v : WorldState) → v.script ≡ w.script → v.guest ≡ w.guest → v.events ≡ w.events → in_sessions w.script.model v.host.device.sessions ≡ in_sessions w.script.model w.host.device.sessions → bad_count v ≡ bad_count w
device_same w v script guest events same = none_more (bad_count v) (bad_count w) (device_counts w v 0 script guest events (zero_more (in_sessions w.script.model v.host.device.sessions) (in_sessions w.script.model w.host.device.sessions) same))

execute_none : (w w' : WorldState) (ms : List Posting) → DoesExecute ms w w' → bad_count w' ≡ bad_count w
execute_none w w' [] does = absurd does
execute_none w w' (m ∷ ms) (out, host, does, after) =
    subst (λ x. bad_count x ≡ bad_count w) (sym after)
    (device_same w (after_device (record w { requests = ms }) host out) refl refl refl (ask_none w.script.model m.request.asks m w.host out host does))

-- ---- Resume

own_quiet : (d : DeviceState) (k : ℕ) (session : Option ℕ) (c : Command) → session ≡ Some k → is_at_rest (session_of d k) ≡ true → NamesOwn session c → ClosesQuiet d c
own_quiet d k session (CloseSession id) is rest (inl none) = absurd (none-some id (sym none))
own_quiet d k session (CloseSession id) is rest (inr (i, mine, names)) =
    let same : k ≡ id = same_Some k id (sym is ∙ (mine ∙ sym names)) in
    ap (λ j. is_at_rest (session_of d j)) (sym same) ∙ rest
own_quiet d k session OpenSession is rest names = tt
own_quiet d k session (Ioctl id code p) is rest names = tt
own_quiet d k session (Map id writable offset) is rest names = tt
own_quiet d k session (Unmap addr) is rest names = tt

kept_quiet : (w : WorldState) (rows : List (List Inner)) (n h : ℕ) (call : WaitingCall) (c : Command) → IsSoundBy w rows → IsOneKept w rows n h call → call.posting.request.asks ≡ Judged (Ok c) → is_at_rest (session_of w.host.device call.session) ≡ true →
    ClosesQuiet w.host.device c
kept_quiet w rows n h call c sound k asks rest =
    let hd : HandleState = handle_at (process_at w.guest n) h in
    let judged : k.posted.crossing.command ≡ c = sym (command_same c k.posted.crossing.command (sym asks ∙ ap (λ (y : Posting). y.request.asks) k.posted.says)) in
    let names : NamesOwn hd.session c = subst (NamesOwn hd.session) judged (names_own (state_of hd.log) hd.session k.posted.call k.posted.crossing (open_has hd (sound.slices n h k.named).handle) k.posted.crosses) in
    own_quiet w.host.device call.session hd.session c (sym k.own ∙ k.id) rest names

resume_call : (w : WorldState) (rows : List (List Inner)) (session : ℕ) (o : Option WaitingCall) (r : Returning) (host : Part) → IsSoundBy w rows → call_for session w.host.calls ≡ o → is_at_rest (session_of w.host.device session) ≡ true → ResumedCall o w.host r host →
    in_sessions w.script.model host.device.sessions ≡ in_sessions w.script.model w.host.device.sessions
resume_call w rows session None r host sound finds rest does = absurd does
resume_call w rows session (Some call) r host sound finds rest (c, d, asks, completed, after) =
    let there : _ = find_in (λ (y : WaitingCall). eqb y.session session) w.host.calls call finds in
    let same : call.session ≡ session = eqb-true call.session session there.1 in
    let one : _ = one_kept w rows call sound there.0 in
    let quiet : ClosesQuiet w.host.device c = kept_quiet w rows one.0 one.1 call c sound one.2 asks (ap (λ i. is_at_rest (session_of w.host.device i)) same ∙ rest) in
    ap (λ (x : Part). in_sessions w.script.model x.device.sessions) after ∙ completed_none w.script.model call.posting c w.host.device r d quiet completed

-- ---- Begin

begin_none : (w w' : WorldState) (session : ℕ) → DoesBegin session w w' → bad_count w' ≡ bad_count w
begin_none w w' session (job, d, (ready, (s, entry, is, next, of, came)), after) =
    let m : Model = w.script.model in
    let t : SessionState = begun s w.host.device.begun in
    let same : in_sessions m d.sessions ≡ in_sessions m w.host.device.sessions =
    ap (λ (x : DeviceState). in_sessions m x.sessions) came ∙ set_same (in_session_of m) w.host.device.sessions session (Some t) None (same_unsent m s t refl ∙ sym (ap (in_session_of m) is)) in
    subst (λ x. bad_count x ≡ bad_count w) (sym after) (device_same w (with_device w d) refl refl refl same)

-- ---- Announce

-- an event with its memory
abbrev paired : EventMsg → Option Held → EventMsg × Option Held
paired msg held = (msg, held)

oldest_told : (m : Model) (s : SessionState) (es : List Unsent) (msg : EventMsg) (held : Option Held) → s.unsent ≡ es → Some (paired msg held) ≡ option_map (λ (e : Unsent). paired e.msg e.held) (first_of es) →
    in_session_of m (Some s) ≡ marks m msg + in_session_of m (Some (sent s))
oldest_told m s [] msg held is told = absurd (none-some (paired msg held) (sym told))
oldest_told m s (e ∷ es) msg held is told =
    let same : msg ≡ e.msg = ap (λ (p : EventMsg × Option Held). p.0) (same_Some (paired msg held) (paired e.msg e.held) told) in
    let was : of_unsent m s.unsent ≡ marks m e.msg + of_unsent m es = ap (of_unsent m) is ∙ sum_by-cons (λ (x : Unsent). marks m x.msg) e es in
    let now : of_unsent m (sent s).unsent ≡ of_unsent m es = ap (of_unsent m) (sent_unsent s e es is) in
    omega (arith, of_session m s, of_session m (sent s), was, now, ap (marks m) same)

announced_none : (w : WorldState) (ids : List ℕ) (delivery : Delivery) (host : Part) → w.host.device.unsent ≡ ids → AnnouncedTo ids w.host delivery host →
    of_sent w.script.model (w.events ++ delivery ∷ []) + in_sessions w.script.model host.device.sessions ≡ of_sent w.script.model w.events + in_sessions w.script.model w.host.device.sessions
announced_none w [] delivery host is does = absurd does
announced_none w (id ∷ ids) delivery host is (named, sends, calls) =
    let m : Model = w.script.model in
    let by : DeviceSends w.host.device (id ∷ ids) (Some (delivery.msg, delivery.held)) host.device = subst (λ l. DeviceSends w.host.device l (Some (delivery.msg, delivery.held)) host.device) is sends in
    let t : SessionState = by.0 in
    let now : in_sessions m host.device.sessions ≡ in_sessions m (set w.host.device.sessions id (Some (sent t))) = ap (λ (x : DeviceState). in_sessions m x.sessions) by.4 in
    let changes = sum_by-set (in_session_of m) w.host.device.sessions id (Some (sent t)) None (session_there w.host.device id t by.1) in
    let was : in_session_of m (get_or w.host.device.sessions id None) ≡ in_session_of m (Some t) = ap (in_session_of m) by.1 in
    let f : Delivery → ℕ = λ d. marks m d.msg in
    omega (arith, now, changes, was, oldest_told m t t.unsent delivery.msg delivery.held refl by.3, sum_by-append f w.events (delivery ∷ []), sum_by-cons f delivery [])

announce_none : (w w' : WorldState) → DoesAnnounce w w' → bad_count w' ≡ bad_count w
announce_none w w' (delivery, host, does, after) =
    let v : WorldState = record w { host = host; chains = w.chains - 1; events = w.events ++ delivery ∷ [] } in
    let same = announced_none w w.host.device.unsent delivery host refl does in
    let by : bad_count v ≡ bad_count w + 0 = by_weight w v 0 refl (omega (arith, same)) in
    subst (λ x. bad_count x ≡ bad_count w) (sym after) (none_more (bad_count v) (bad_count w) by)

-- ---- Finish

all_model : (id : ℕ) (r s : LocalState) (es : List Unsent) → LeadAll id r es s → s.model ≡ r.model
all_model id r s es leads =
    let msgs : List EventMsg = map (λ (e : Unsent). e.msg) es in
    steps_model _ r s (flight_steps r.model msgs) (all_replay id r s es leads)

with_model : (b : Bool) (id : ℕ) (r s : LocalState) (e : Entry) (es : List Unsent) → LeadWith b id r e es s → s.model ≡ r.model
with_model true id r s e es (u, first, last) = entry_keeps_model u s e last ∙ all_model id r u es first
with_model false id r s e es (u, first, last) = all_model id u s es last ∙ entry_keeps_model r u e first

pub ahead_model : (id : ℕ) (r s : LocalState) (executed : Option Entry) (es : List Unsent) → LeadAhead id r executed es s → s.model ≡ r.model
ahead_model id r s None es leads = all_model id r s es leads
ahead_model id r s (Some e) es leads = with_model (stops_queues e) id r s e es leads

-- of a session that is live
record IsFrameOf (w : WorldState) (s : SessionState) : Type 0 where
  model : s.model ≡ w.script.model
  took : IfSome s.running (λ r. OneEach w.script.model (taken_by (Some r)))

frame_of : (w : WorldState) (rows : List (List Inner)) (k : ℕ) (s : SessionState) → IsSoundBy w rows → session_of w.host.device k ≡ Some s → IsFrameOf w s
frame_of w rows k s sound is =
    let at : SeatedAt w k s = seated_at w rows k s sound is in
    let x : Slice = slice_at w at.process at.handle in
    let v : Inner = inner_at w rows at.process at.handle in
    let slice : IsSoundSlice x v = sound.slices at.process at.handle at.is_handle in
    let seated : IsSeated (Some s) x v = subst (λ o. IsSeated o x v) at.session slice.seated in
    let ahead : v.ahead.model ≡ w.script.model =
    ahead_model s.id (driver_state x) v.ahead v.executed (earlier_of x ++ s.unsent) seated.leads ∙ (state_model x.handle.log ∙ log_model w rows at.process at.handle sound at.is_handle) in
    record { model = seated.stands.model ∙ ahead; took = subst (λ m. IfSome s.running (λ r. OneEach m (taken_by (Some r)))) ahead seated.stands.took }

spec_there : (d : DeviceState) (e : JobOut) (k : ℕ) → Contains d.jobs e → e.spec.session ≡ k → 1 ≤ length (specs_for k d.jobs)
spec_there d e k there own =
    let p : JobOut → Bool = λ x. eqb x.spec.session k in
    let mine : Contains (filter p d.jobs) e = contains_filter p d.jobs e (eq-eqb e.spec.session k own) there in
    let within = mine.1 in
    omega (arith, within, length-map (filter p d.jobs) (λ (x : JobOut). x.spec))

finished_marks : (m : Model) (s : SessionState) (o : Option Running) (done : DoneParts) → s.model ≡ m → s.running ≡ o → IfSome o (λ r. OneEach m (taken_by (Some r))) → 1 ≤ length (option_to_list (option_map (λ (r : Running). r.spec) o)) →
    in_session_of m (Some (finished s done)) ≡ in_session_of m (Some s) + one_unless done.good
finished_marks m s None done model is took some = absurd (omega (arith, some))
finished_marks m s (Some r) done model is took some =
    let now : (finished s done).unsent ≡ s.unsent ++ messages_of_frame s r done = ap (λ o. (finished_by o s done).unsent) is in
    omega (arith, of_session m s, of_session m (finished s done), ap (of_unsent m) now, sum_by-append (λ (e : Unsent). marks m e.msg) s.unsent (messages_of_frame s r done), frame_marks m s r done model took)

pub finish_counts : (w w' : WorldState) (number : ℕ) (done : DoneParts) → IsSound w → DoesFinishWith done number w w' → bad_count w' ≡ bad_count w + one_unless done.good
finish_counts w w' number done (rows, sound) (e, d, out, comes, (s, outs, is, came), after) =
    let m : Model = w.script.model in
    let k : ℕ = done.job.spec.session in
    let old : DeviceState = w.host.device in
    let there : _ = find_in (λ (y : JobOut). eqb y.spec.number number) old.jobs e out in
    let own : e.spec.session ≡ k = ap (λ (y : JobSpec). y.session) (comes.out.0 ∙ sym comes.back.spec) in
    let frame : IsFrameOf w s = frame_of w rows k s sound is in
    let specs : length (specs_for k old.jobs) ≡ length (specs_in (Some s)) = ap length (sound.device.sound.jobs k) ∙ ap (λ o. length (specs_in o)) is in
    let some : 1 ≤ length (specs_in (Some s)) = subst (λ n. 1 ≤ n) specs (spec_there old e k there.0 own) in
    let one : in_session_of m (Some (finished s done)) ≡ in_session_of m (Some s) + one_unless done.good = finished_marks m s s.running done frame.model refl frame.took some in
    let was : in_session_of m (get_or old.sessions k None) ≡ in_session_of m (Some s) = ap (in_session_of m) is in
    let more : in_sessions m d.sessions ≡ in_sessions m old.sessions + one_unless done.good =
    ap (λ (x : DeviceState). in_sessions m x.sessions) came
    ∙ set_adds (in_session_of m) old.sessions k (one_unless done.good) (Some (finished s done)) None (session_there old k s is) (one ∙ ap (λ n. n + one_unless done.good) (sym was)) in
    subst (λ x. bad_count x ≡ bad_count w + one_unless done.good) (sym after) (device_counts w (with_device w d) (one_unless done.good) refl refl refl more)

-- ---- statements

sends_same : (o : Option ℕ) (old : LogState) (call : Call) (along : Option Held) (new : LogState) → Sends o old call along new → bad_in new.entries ≡ bad_in old.entries
sends_same None old call along new (none, is) = ap (λ (l : LogState). bad_in l.entries) is
sends_same (Some number) old call None new sends = absurd sends
sends_same (Some number) old call (Some held) new (queued, home, is) = ap (λ (l : LogState). bad_in l.entries) is

here_same : (l : LogState) (line : ℕ) (call : Call) (new : LogState) → AnswersHere l line call new → bad_in new.entries ≡ bad_in l.entries
here_same l line call new (inl is) = ap (λ (x : LogState). bad_in x.entries) is ∙ here_adds (first_refusal (row_from l line call).refusals) l line call
here_same l line call new (inr lacks) = ap (λ (x : LogState). bad_in x.entries) lacks.new_is ∙ called_none l.entries line call _

begins_call : (way : Way) (line h : ℕ) (call : Call) (p q : ProcessState) (sends : Option Sending) → BeginsCall way line h call p q sends → in_process q ≡ in_process p
begins_call (Crosses c) line h call p q sends (along, handle, goes, after, told) =
    handle_same p q h handle (ap (λ (x : ProcessState). x.handles) after)
    (ap in_handle goes.after ∙ sends_same (goes_along (state_of (handle_at p h).log) call) (with_line (handle_at p h).log) call along goes.log goes.sends)
begins_call AnsweredHere line h call p q sends (handle, answers, after, told) =
    handle_same p q h handle (ap (λ (x : ProcessState). x.handles) after) (ap in_handle answers.after ∙ here_same (with_line (handle_at p h).log) line call answers.log answers.answers)
begins_call Waits line h call p q sends (after, told) = handle_same p q h (waiting (handle_at p h) line call) (ap (λ (x : ProcessState). x.handles) after) refl
begins_call TouchesMemory line h call p q sends begins = absurd begins

begins_same : (line : ℕ) (what : LineKind) (p q : ProcessState) (sends : Option Sending) → Begins line what p q sends → in_process q ≡ in_process p
begins_same line (OnHandle h call) p q sends begins = begins_call (way_from (handle_at p h) call) line h call p q sends begins
begins_same line (Raw chain) p q sends (after, told) = ap in_process after

leases_same : (refused : Option Errno) (leased : Leased) (old : LogState) (line : ℕ) (call : Call) (new : LogState) → Leases refused old line call leased new → bad_in new.entries ≡ bad_in old.entries
leases_same (Some errno) Answered old line call new is = ap (λ (l : LogState). bad_in l.entries) is ∙ called_none old.entries line call (Refused errno)
leases_same None (GoneOut lease) old line call new goes = ap (λ (l : LogState). bad_in l.entries) goes.left
leases_same (Some errno) (GoneOut lease) old line call new leases = absurd leases
leases_same (Some errno) Idle old line call new leases = absurd leases
leases_same None Answered old line call new leases = absurd leases
leases_same None Idle old line call new leases = absurd leases

leased_handles : (leased : Leased) (q : ProcessState) → (after_lease leased q).handles ≡ q.handles
leased_handles (GoneOut lease) q = refl
leased_handles Answered q = refl
leased_handles Idle q = refl

lease_same : (a : AskedCall) (p q : ProcessState) (leased : Leased) → LeasesCall a p leased q → in_process q ≡ in_process p
lease_same a p q leased (log, leases, after) =
    handle_same p q a.handle (record (handle_at p a.handle) { log = log }) (ap (λ (x : ProcessState). x.handles) after ∙ leased_handles leased (with_log p a.handle log))
    (leases_same (first_refusal (row_from (handle_at p a.handle).log a.line a.call).refusals) leased (with_line (handle_at p a.handle).log) a.line a.call log leases)

returned_same : (o : Option AskedCall) (p : ProcessState) (lease : LeaseParts) → in_process (returned_to p o lease) ≡ in_process p
returned_same None p lease = refl
returned_same (Some a) p lease =
    handle_same p (returned_to p (Some a) lease) a.handle (record (handle_at p a.handle) { log = log_given_back (handle_at p a.handle).log lease }) refl
    (called_none (handle_at p a.handle).log.entries lease.line lease.call lease.reply)

-- ---- the driver

process_same : (ps : List ProcessState) (n : ℕ) (q : ProcessState) → in_process q ≡ in_process (process_in ps n) → in_all (set ps n q) ≡ in_all ps
process_same ps n q is = set_same in_process ps n q no_process is

-- only the processes change
guest_same : (w : WorldState) (n : ℕ) (q : ProcessState) (g : GuestState) → g ≡ with_process w.guest n q → in_process q ≡ in_process (process_at w.guest n) → bad_count (record w { guest = g }) ≡ bad_count w
guest_same w n q g is same =
    let m : Model = w.script.model in
    driver_same w (record w { guest = g }) refl refl
    (omega (arith, ap (λ (x : GuestState). in_all x.processes) is, ap (λ (x : GuestState). of_sent m x.pump.held) is, process_same w.guest.processes n q same))

lease_by : (w : WorldState) (o : Option AskedCall) (n : ℕ) (leased : Leased) (g : GuestState) → LeasesFor o n w.guest leased g → bad_count (record w { guest = g }) ≡ bad_count w
lease_by w None n leased g (idle, same) = ap (λ x. bad_count (record w { guest = x })) same
lease_by w (Some a) n leased g (moved, leases, after) = guest_same w n moved g after (lease_same a (process_at w.guest n) moved leased leases)

issue_by : (w : WorldState) (o : Option Statement) (n : ℕ) (g : GuestState) (left : Inbox) (posted : Outbox) → (takes_by o (λ s. begins_with_events s.what) ≡ false) ⊎ (w.events ≡ []) → IssuesFor o n w.guest (inbox_of w) Did g left posted →
    bad_count (after_driver w g left posted) ≡ bad_count w
issue_by w None n g left posted none (turn, same, kept, nothing) =
    let m : Model = w.script.model in
    driver_same w (after_driver w g left posted) refl refl
    (omega (arith, ap (λ (x : GuestState). in_all x.processes) same, ap (λ (x : GuestState). of_sent m x.pump.held) same, ap (λ (i : Inbox). of_sent m i.events) kept))
issue_by w (Some s) n g left posted none (turn, d) =
    let m : Model = w.script.model in
    let b : Bool = begins_with_events s.what in
    let first : _ = none_first b w.events none in
    let done : Issued n s w.guest [] g d.sends = subst (λ es. Issued n s w.guest es g d.sends) first.0 d.issued in
    let same : in_process done.process ≡ in_process (process_at w.guest n) = begins_same s.line s.what (process_at w.guest n) done.process d.sends done.begins in
    let events : left.events ≡ w.events = ap (λ (i : Inbox). i.events) d.left ∙ first.1 in
    driver_same w (after_driver w g left posted) refl refl
    (omega (arith, ap (λ (x : GuestState). in_all x.processes) done.after, ap (λ (x : GuestState). of_sent m x.pump.held) done.after, process_same w.guest.processes n done.process same, ap (of_sent m) events))

-- ---- Pump

seat_some : (o : Option Seat) → is_some o ≡ true → (s : Seat) × (o ≡ Some s)
seat_some None some = absurd (false≢true some)
seat_some (Some s) some = (s, refl)

seat_there : (seats : List (Option Seat)) (id : ℕ) (seat : Seat) → get_or seats id None ≡ Some seat → id < length seats
seat_there seats id seat is = place_within is_some seats id None refl (ap is_some is)

sits : (w : WorldState) (rows : List (List Inner)) (id : ℕ) (seat : Seat) → IsSoundBy w rows → seat_of w.guest id ≡ Some seat → SitsIn w.script.model w.guest.processes seat
sits w rows id seat sound is =
    let all : IfSome (seat_of w.guest id) (IsSeat w.guest.processes) = All-get_or (λ o. IfSome o (IsSeat w.guest.processes)) w.guest.seats id None (seat_there w.guest.seats id seat is) sound.lines.seats in
    let within : IsSeat w.guest.processes seat = subst (λ o. IfSome o (IsSeat w.guest.processes)) is all in
    (within, log_model w rows seat.process seat.handle sound (handle_there w.guest seat.process seat.handle within.0 within.1))

abbrev of_guest : Model → GuestState → ℕ
of_guest m g = in_all g.processes + of_sent m g.pump.held

taken_adds : (m : Model) (g : GuestState) (seat : Seat) (d : Delivery) → SitsIn m g.processes seat → of_guest m (taken_at (Some seat) g d) ≡ of_guest m g + marks m d.msg
taken_adds m g seat d at =
    cond_both (holds_back g seat) (held_back g d) (given g seat d) (λ x. of_guest m x ≡ of_guest m g + marks m d.msg)
    (λ t. let more = sum_by-append (λ (x : Delivery). marks m x.msg) g.pump.held (d ∷ []) in omega (arith, more, sum_by-cons (λ (x : Delivery). marks m x.msg) d []))
    (λ t. omega (arith, told_at_adds m g.processes seat d at))

pump_by : (w : WorldState) (rows : List (List Inner)) (ds : List Delivery) (g : GuestState) (left : Inbox) (posted : Outbox) → IsSoundBy w rows → w.events ≡ ds → PumpsFrom ds w.guest (inbox_of w) Did g left posted →
    bad_count (after_driver w g left posted) ≡ bad_count w
pump_by w rows [] g left posted sound is (turn, same, kept, none) =
    let m : Model = w.script.model in
    driver_same w (after_driver w g left posted) refl refl
    (omega (arith, ap (λ (x : GuestState). in_all x.processes) same, ap (λ (x : GuestState). of_sent m x.pump.held) same, ap (λ (i : Inbox). of_sent m i.events) kept))
pump_by w rows (d ∷ ds) g left posted sound is (turn, takes, leaves, posts) =
    let m : Model = w.script.model in
    let seat : _ = seat_some (seat_of w.guest d.session) (All-head (λ (x : Delivery). is_some (seat_of w.guest x.session) ≡ true) d ds (subst (λ es. AreOfHandles w es) is sound.said.sent)) in
    let more : of_guest m g ≡ of_guest m w.guest + marks m d.msg =
    ap (of_guest m) (takes ∙ ap (λ o. taken_at o w.guest d) seat.1) ∙ taken_adds m w.guest seat.0 d (sits w rows d.session seat.0 sound seat.1) in
    let all : of_sent m w.events ≡ marks m d.msg + of_sent m ds = ap (of_sent m) is ∙ sum_by-cons (λ (x : Delivery). marks m x.msg) d ds in
    driver_same w (after_driver w g left posted) refl refl (omega (arith, more, all, ap (λ (i : Inbox). of_sent m i.events) leaves))

-- ---- Collect

shared : (m : Model) (k : ℕ) (ds : List Delivery) → of_sent m (events_of k ds) + of_sent m (events_of_others k ds) ≡ of_sent m ds
shared m k ds = sum_by-filter_both (λ (d : Delivery). eqb d.session k) (λ (d : Delivery). not (eqb d.session k)) (λ d. refl) (λ (d : Delivery). marks m d.msg) ds

caught_same : (m : Model) (o : Option ℕ) (g : GuestState) (seat : Seat) → SitsIn m g.processes seat → of_guest m (caught_up o g seat) ≡ of_guest m g
caught_same m None g seat at = refl
caught_same m (Some k) g seat at = omega (arith, all_told_adds m (events_of k g.pump.held) g.processes seat at, shared m k g.pump.held)

-- what the answer leaves of the handle
record LeavesHandle (p q : ProcessState) (h : ℕ) : Type 0 where
  handle : HandleState
  handles : q.handles ≡ set p.handles h handle
  bad : in_handle handle ≡ in_handle (handle_at p h)
  model : handle.log.model ≡ (handle_at p h).log.model

answer_leaves : (line h : ℕ) (call : Call) (p q : ProcessState) (r : Returning) → AnsweredFor line (OnHandle h call) p r q → LeavesHandle p q h
answer_leaves line h call p q r answers =
    let may = answers.may.may in
    let after = answers.after may.reply (may.next, may.session, (may.is_call, may.told)) in
    record {
      handle = with_reply (handle_at p h) line call may.reply (response_of answers.command r.reply.bytes) r.held;
      handles = ap (λ (x : ProcessState). x.handles) after;
      bad = called_none (handle_at p h).log.entries line call may.reply;
      model = refl;
    }

collect_what : (w : WorldState) (rows : List (List Inner)) (n : ℕ) (s : Statement) (what : LineKind) (q : ProcessState) (r : Returning) → IsSoundBy w rows → s.what ≡ what → n < length w.guest.processes → current (process_at w.guest n) ≡ Some s →
    AnsweredFor s.line what (process_at w.guest n) r q → of_guest w.script.model (settled what (with_process w.guest n q) n) ≡ of_guest w.script.model w.guest
collect_what w rows n s (Raw chain) q r sound is within now (errno, told, after) =
    let same : in_all (set w.guest.processes n q) ≡ in_all w.guest.processes = process_same w.guest.processes n q (ap in_process after) in
    omega (arith, same)
collect_what w rows n s (OnHandle h call) q r sound is within now answers =
    let m : Model = w.script.model in
    let p : ProcessState = process_at w.guest n in
    let g : GuestState = with_process w.guest n q in
    let seat : Seat = record { process = n; handle = h } in
    let asked : AskedCall = record { line = s.line; handle = h; call = call } in
    let leaves : LeavesHandle p q h = answer_leaves s.line h call p q r answers in
    let there : h < length p.handles = call_there w n s asked sound.lines within now (ap (λ k. asked_in s.line k) is) in
    let same : in_all (set w.guest.processes n q) ≡ in_all w.guest.processes = process_same w.guest.processes n q (handle_same p q h leaves.handle leaves.handles leaves.bad) in
    let here : process_in g.processes n ≡ q = get_or-set_same w.guest.processes n q no_process within in
    let long : length (process_in g.processes n).handles ≡ length p.handles = ap (λ (x : ProcessState). length x.handles) here ∙ (ap length leaves.handles ∙ length-set p.handles h leaves.handle) in
    let handle : handle_at (process_in g.processes n) h ≡ leaves.handle =
    ap (λ (x : ProcessState). handle_at x h) here ∙ (ap (λ hs. get_or hs h no_handle) leaves.handles ∙ get_or-set_same p.handles h leaves.handle no_handle there) in
    let model : (handle_at (process_in g.processes n) h).log.model ≡ m =
    ap (λ (x : HandleState). x.log.model) handle ∙ (leaves.model ∙ log_model w rows n h sound (handle_there w.guest n h within there)) in
    let at : SitsIn m g.processes seat = ((omega (arith, within, length-set w.guest.processes n q), omega (arith, there, long)), model) in
    let caught : of_guest m (caught_up (handle_at (process_at g n) h).session g seat) ≡ of_guest m g = caught_same m (handle_at (process_at g n) h).session g seat at in
    omega (arith, caught, same)

collect_by : (w : WorldState) (rows : List (List Inner)) (rs : List Returning) (g : GuestState) (left : Inbox) (posted : Outbox) → IsSoundBy w rows → (takes_for w.guest rs ≡ false) ⊎ (w.events ≡ []) →
    CollectsFrom rs w.guest (inbox_of w) Did g left posted → bad_count (after_driver w g left posted) ≡ bad_count w
collect_by w rows [] g left posted sound none (turn, same, kept, nothing) =
    let m : Model = w.script.model in
    driver_same w (after_driver w g left posted) refl refl
    (omega (arith, ap (λ (x : GuestState). in_all x.processes) same, ap (λ (x : GuestState). of_sent m x.pump.held) same, ap (λ (i : Inbox). of_sent m i.events) kept))
collect_by w rows (r ∷ rs) g left posted sound none (turn, d) =
    let m : Model = w.script.model in
    let s : Statement = d.statement in
    let n : ℕ = r.reply.who in
    let b : Bool = ends_with_events s.what in
    let quiet : (b ≡ false) ⊎ (w.events ≡ []) = elim none [ inl free ↦ inl (sym (ap (λ o. takes_by o (λ (t : Statement). ends_with_events t.what)) d.under_way) ∙ free) | inr empty ↦ inr empty ] in
    let first : _ = none_first b w.events quiet in
    let done : Collected s w.guest [] r g = subst (λ es. Collected s w.guest es r g) first.0 d.collected in
    let within : n < length w.guest.processes = place_within (λ (y : ProcessState). is_some (crossing y)) w.guest.processes n no_process refl (ap is_some d.under_way) in
    let line : current (process_at w.guest n) ≡ Some s = (some_where (is_crossing (process_at w.guest n).status) (current (process_at w.guest n)) s d.under_way).1 in
    let same : of_guest m g ≡ of_guest m w.guest = ap (of_guest m) done.after ∙ collect_what w rows n s s.what done.process r sound refl within line done.answers in
    let events : left.events ≡ w.events = ap (λ (i : Inbox). i.events) d.left ∙ first.1 in
    driver_same w (after_driver w g left posted) refl refl (omega (arith, same, ap (of_sent m) events))

-- ---- each step that takes no event first

by_after : (w w' v : WorldState) → w' ≡ v → bad_count v ≡ bad_count w → bad_count w' ≡ bad_count w
by_after w w' v after same = ap bad_count after ∙ same

one_none : (w w' : WorldState) (rows : List (List Inner)) (s : Step) → IsSoundBy w rows → TakesNone w s → Steps w s w' → is_finish s ≡ false → bad_count w' ≡ bad_count w
one_none w w' rows (Issue n) sound none (may, (g, left, posted, does, after)) other = by_after w w' (after_driver w g left posted) after (issue_by w (issuing (process_at w.guest n)) n g left posted none does)
one_none w w' rows Execute sound none (may, does) other = execute_none w w' w.requests does
one_none w w' rows (Resume session) sound none (may, (r, host, (rest, does), after)) other =
    by_after w w' (after_device w host (Some r)) after (device_same w (after_device w host (Some r)) refl refl refl (resume_call w rows session (call_for session w.host.calls) r host sound refl rest does))
one_none w w' rows (Begin session) sound none (may, does) other = begin_none w w' session does
one_none w w' rows (Finish number) sound none does other = absurd (false≢true (sym other))
one_none w w' rows Announce sound none (may, does) other = announce_none w w' does
one_none w w' rows Collect sound none (may, (g, left, posted, does, after)) other = by_after w w' (after_driver w g left posted) after (collect_by w rows w.replies g left posted sound none does)
one_none w w' rows Pump sound none (may, (g, left, posted, does, after)) other = by_after w w' (after_driver w g left posted) after (pump_by w rows w.events g left posted sound refl does)
one_none w w' rows (Lease n) sound none (may, (leased, g, does, after)) other = by_after w w' (record w { guest = g }) after (lease_by w (leasing (process_at w.guest n)) n leased g does)
one_none w w' rows (GiveBack n) sound none (may, (entry, lease, out, back, after)) other =
    by_after w w' (record w { guest = with_process w.guest n (returned (process_at w.guest n) lease) }) after
    (guest_same w n (returned (process_at w.guest n) lease) (with_process w.guest n (returned (process_at w.guest n) lease)) refl (returned_same (current_call (process_at w.guest n)) (process_at w.guest n) lease))

-- ---- each step

pumps_none : (n : ℕ) (w u : WorldState) → IsSound w → Leads w (replicate n Pump) u → IsSound u × (bad_count u ≡ bad_count w)
pumps_none zero w u sound leads = (subst IsSound (sym leads) sound, ap bad_count leads)
pumps_none (suc n) w u sound (next, step, rest) =
    let behind : _ = pumps_none n next u (pump_keeps w next sound step) rest in
    (behind.0, behind.1 ∙ one_none w next sound.0 Pump sound.1 (inl refl) step refl)

by_test : (b : Bool) (w w' : WorldState) (s : Step) → takes_all w s ≡ b → IsSound w → Steps w s w' → is_finish s ≡ false → bad_count w' ≡ bad_count w
by_test false w w' s takes sound does other = one_none w w' sound.0 s sound.1 (inl takes) does other
by_test true w w' s takes sound does other =
    let behind : PumpsThen w s w' = taking_is_pumping w w' s takes does in
    let pumped : IsSound behind.0 × (bad_count behind.0 ≡ bad_count w) = pumps_none (length w.events) w behind.0 sound behind.1 in
    one_none behind.0 w' pumped.0.0 s pumped.0.1 (inr behind.2) behind.3 other ∙ pumped.1

pub others_count_none : (w w' : WorldState) (s : Step) → IsSound w → Steps w s w' → is_finish s ≡ false → bad_count w' ≡ bad_count w
others_count_none w w' s sound does other = by_test (takes_all w s) w w' s refl sound does other
