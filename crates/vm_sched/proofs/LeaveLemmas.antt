-- Steps that hand nothing over leave the jobs and the leases that are out as they are.
use Rattle.std.proofs.Common.{◌≡◌, ℕ, zero, suc, Bool, true, false, if◌then◌else◌, List, [], ◌∷◌, Option, Some, None, length, get_or, set, refl, sym, ap, ◌∙◌, subst, length-set}
use Rattle.std.proofs.lemmas.Bool.{false≢true}
use Rattle.std.proofs.lemmas.Option.{none-some}
use Rattle.v4l_const.specs.declared.errno.Errno.{Errno}
use Rattle.v4l_rules.specs.Refusals.{first_refusal}
use Rattle.vm_device.specs.Device.{DeviceState}
use Rattle.vm_device.specs.Stream.{Sends}
use Rattle.vm_device.specs.Perform.{must_wait}
use Rattle.vm_exchange.specs.Messages.{made_by}
use Rattle.vm_exchange.specs.declared.way.Way.{Way}
use Rattle.vm_exchange.specs.declared.way.Way.TheVariants.{Crosses, AnsweredHere, Waits, TouchesMemory}
use Rattle.vm_frame.specs.declared.mem.Held.{Held}
use Rattle.vm_guest.specs.Asking.{begins_with_events, ends_with_events}
use Rattle.vm_guest.specs.Events.{told, told_at, all_told, taken, all_taken, taken_at, holds_back, held_back, given, caught_up, settled, events_of}
use Rattle.vm_guest.specs.Guest.{GuestState, no_process, process_in, process_at, with_process, seat_of}
use Rattle.vm_guest.specs.Lines.{BeginsCall, Begins, AnsweredFor}
use Rattle.vm_guest.specs.Message.{Sending}
use Rattle.vm_guest.specs.Part.{Inbox, Outbox, IssuesFor, CollectsFrom, PumpsFrom}
use Rattle.vm_guest.specs.Process.{ProcessState, handle_at, no_handle, with_handle, is_lent, is_blocked, current_call, lease_on, lease_out, some_if, rested, is_answered_in, issuing}
use Rattle.vm_guest.specs.Steps.{all_if, Issued, Collected}
use Rattle.vm_guest.specs.declared.asked.Asked.{Asked}
use Rattle.vm_guest.specs.declared.asked.Statement.{Statement}
use Rattle.vm_guest.specs.declared.seat.Seat.{Seat}
use Rattle.vm_handle.specs.Answers.{answered_at, answered_by, answered_here, awoken, delivered, row_from, with_given, with_steps}
use Rattle.vm_handle.specs.Handle.{HandleState, way_from}
use Rattle.vm_handle.specs.declared.stage.Stage.{Stage}
use Rattle.vm_handle.specs.declared.stage.Stage.TheVariants.{AtRest, Underway, Waiting}
use Rattle.vm_host.specs.Part.{Part, Call as CallWaiting, AnnouncedTo, ExecutedAsk, ExecutedCommand, ResumedCall, call_for}
use Rattle.vm_lease.specs.declared.lease_out.LeaseOut.{LeaseOut}
use Rattle.vm_link.specs.declared.link.Turn.TheVariants.{Did}
use Rattle.vm_local.specs.declared.call.Call.{Call}
use Rattle.vm_local.specs.declared.entry.Entry.{Entry}
use Rattle.vm_log.specs.LegalLog.{LogState, lease_in, state_of, with_entry}
use Rattle.vm_log.specs.declared.away.Away.TheVariants.{Nothing}
use Rattle.vm_realm.proofs.DeviceLemmas.{performs_adds}
use Rattle.vm_realm.specs.Steps.{DoesExecute, Does, hands_over, inbox_of}
use Rattle.vm_realm.specs.World.{WorldState, jobs_out}
use Rattle.vm_realm.specs.declared.step.Step.{Step}
use Rattle.vm_realm.specs.declared.step.Step.TheVariants.{Issue, Execute, Resume, Begin, Finish, Announce, Collect, Pump, Lease, GiveBack}
use Rattle.vm_script.specs.declared.line.LineKind.{LineKind}
use Rattle.vm_script.specs.declared.line.LineKind.TheVariants.{OnHandle, Raw}
use Rattle.vm_wire.specs.Message.{Ask, Posting, Returning}
use Rattle.vm_wire.specs.Message.Ask.{Unusable, Judged}
use Rattle.std.specs.Prelude.{Ok, Err, ◌&&◌}
use Rattle.vm_wire.specs.declared.command.Command.{Command}
use Rattle.vm_wire.specs.declared.delivery.Delivery.{Delivery}
use Rattle.vm_wire.specs.declared.event.EventMsg.{EventMsg}

-- ---- a log

-- a lease that is out of the one is out of the other
abbrev LogLends : LogState → LogState → Type 0
LogLends l m = (e : LeaseOut) → lease_in m.away ≡ Some e → lease_in l.away ≡ Some e

lends_same : (l m : LogState) → m.away ≡ l.away → LogLends l m
lends_same l m same e is = ap lease_in (sym same) ∙ is

lends_none : (l m : LogState) → m.away ≡ Nothing → LogLends l m
lends_none l m none e is = absurd (none-some e (ap lease_in (sym none) ∙ is))

steps_away : (l : LogState) (es : List Entry) → (with_steps l es).away ≡ l.away
steps_away l [] = refl
steps_away l (e ∷ es) = steps_away (with_entry l e l.home) es

given_away : (l : LogState) (held : Option Held) → (with_given l held).away ≡ l.away
given_away l None = refl
given_away l (Some held) = refl

answered_away : (o : Option Errno) (l : LogState) (line : ℕ) (call : Call) → (answered_by o l line call).away ≡ Nothing
answered_away None l line call = refl
answered_away (Some errno) l line call = refl

-- ---- a handle that takes an event

way_lends : (way : Way) (h : HandleState) (line : ℕ) (call : Call) → LogLends h.log (answered_at way h line call).log
way_lends AnsweredHere h line call e is =
    lends_none h.log (answered_here h.log line call) (answered_away (first_refusal (row_from h.log line call).refusals) h.log line call) e is
way_lends (Crosses c) h line call e is = is
way_lends Waits h line call e is = is
way_lends TouchesMemory h line call e is = is

awoken_lends : (stage : Stage) (h : HandleState) → LogLends h.log (awoken stage h).log
awoken_lends AtRest h e is = is
awoken_lends (Underway line call) h e is = is
awoken_lends (Waiting line call) h e is = way_lends (way_from h call) h line call e is

delivered_lends : (h : HandleState) (msg : EventMsg) (held : Option Held) → LogLends h.log (delivered h msg held).log
delivered_lends h msg held e is =
    let steps : LogState = with_steps h.log (made_by (state_of h.log).model msg) in
    let l : LogState = with_given steps held in
    lends_same h.log l (given_away steps held ∙ steps_away h.log (made_by (state_of h.log).model msg)) e (awoken_lends h.stage (record h { log = l }) e is)

-- ---- a process

abbrev Lends : ProcessState → ProcessState → Type 0
Lends p q = (e : LeaseOut) → lease_out q ≡ Some e → lease_out p ≡ Some e

-- what holds in a place once another place is exchanged
at_set : {A : Type 0} (P : A → Type 0) (xs : List A) (i j : ℕ) (v d : A) → (P v → P (get_or xs i d)) → P (get_or (set xs i v) j d) → P (get_or xs j d)
at_set P [] i j v d goes has = has
at_set P (x ∷ xs) zero zero v d goes has = goes has
at_set P (x ∷ xs) zero (suc j) v d goes has = has
at_set P (x ∷ xs) (suc i) zero v d goes has = has
at_set P (x ∷ xs) (suc i) (suc j) v d goes has = at_set P xs i j v d goes has

on_call : (p : ProcessState) (h : ℕ) (handle : HandleState) (e : LeaseOut) → LogLends (handle_at p h).log handle.log →
    (a : Option Asked) → lease_on (with_handle p h handle) a ≡ Some e → lease_on p a ≡ Some e
on_call p h handle e lends None is = is
on_call p h handle e lends (Some a) is = at_set (λ (x : HandleState). lease_in x.log.away ≡ Some e) p.handles h a.handle handle no_handle (lends e) is

by_lent : (p : ProcessState) (h : ℕ) (handle : HandleState) (e : LeaseOut) → LogLends (handle_at p h).log handle.log →
    (b : Bool) (a : Option Asked) → some_if b (lease_on (with_handle p h handle) a) ≡ Some e → some_if b (lease_on p a) ≡ Some e
by_lent p h handle e lends true a is = on_call p h handle e lends a is
by_lent p h handle e lends false a is = is

handle_lends : (p : ProcessState) (h : ℕ) (handle : HandleState) → LogLends (handle_at p h).log handle.log → Lends p (with_handle p h handle)
handle_lends p h handle lends e is = by_lent p h handle e lends (is_lent p.status) (current_call p) is

-- none is out of a process that isn't lent to
pub unlent : (p : ProcessState) (e : LeaseOut) → is_lent p.status ≡ false → lease_out p ≡ Some e → ⊥
unlent p e lent is = none-some e (sym (ap (λ b. some_if b (lease_on p (current_call p))) lent) ∙ is)

rested_by : (b : Bool) (p : ProcessState) → Lends p (if b then rested p else p)
rested_by true p e is = absurd (unlent (rested p) e refl is)
rested_by false p e is = is

told_lends : (p : ProcessState) (h : ℕ) (d : Delivery) → Lends p (told p h d)
told_lends p h d e is =
    let q : ProcessState = with_handle p h (delivered (handle_at p h) d.msg d.held) in
    handle_lends p h (delivered (handle_at p h) d.msg d.held) (delivered_lends (handle_at p h) d.msg d.held) e
    (rested_by (is_blocked q.status && is_answered_in q.handles (current_call q)) q e is)

-- ---- all processes

-- no lease goes out, and no process is added
pub record Leaves (ps qs : List ProcessState) : Type 0 where
  pub lends : (n : ℕ) (e : LeaseOut) → lease_out (process_in qs n) ≡ Some e → lease_out (process_in ps n) ≡ Some e
  pub count : length qs ≡ length ps

pub leaves_all : (ps : List ProcessState) → Leaves ps ps
leaves_all ps = record { lends = λ n e is. is; count = refl }

leaves_on : (ps qs rs : List ProcessState) → Leaves ps qs → Leaves qs rs → Leaves ps rs
leaves_on ps qs rs first then' = record { lends = λ n e is. first.lends n e (then'.lends n e is); count = then'.count ∙ first.count }

set_leaves : (ps : List ProcessState) (n : ℕ) (q : ProcessState) → Lends (process_in ps n) q → Leaves ps (set ps n q)
set_leaves ps n q lends = record {
  lends = λ k e is. at_set (λ (p : ProcessState). lease_out p ≡ Some e) ps n k q no_process (lends e) is;
  count = length-set ps n q;
}

told_leaves : (ps : List ProcessState) (seat : Seat) (d : Delivery) → Leaves ps (told_at ps seat d)
told_leaves ps seat d =
    set_leaves ps seat.process (told (process_in ps seat.process) seat.handle d) (told_lends (process_in ps seat.process) seat.handle d)

all_told_leaves : (ps : List ProcessState) (seat : Seat) (ds : List Delivery) → Leaves ps (all_told ps seat ds)
all_told_leaves ps seat [] = leaves_all ps
all_told_leaves ps seat (d ∷ ds) =
    leaves_on ps (told_at ps seat d) (all_told (told_at ps seat d) seat ds) (told_leaves ps seat d) (all_told_leaves (told_at ps seat d) seat ds)

taken_by : (b : Bool) (g : GuestState) (seat : Seat) (d : Delivery) → Leaves g.processes (if b then held_back g d else given g seat d).processes
taken_by true g seat d = leaves_all g.processes
taken_by false g seat d = told_leaves g.processes seat d

taken_for : (o : Option Seat) (g : GuestState) (d : Delivery) → Leaves g.processes (taken_at o g d).processes
taken_for None g d = leaves_all g.processes
taken_for (Some seat) g d = taken_by (holds_back g seat) g seat d

taken_leaves : (g : GuestState) (d : Delivery) → Leaves g.processes (taken g d).processes
taken_leaves g d = taken_for (seat_of g d.session) g d

all_taken_leaves : (g : GuestState) (ds : List Delivery) → Leaves g.processes (all_taken g ds).processes
all_taken_leaves g [] = leaves_all g.processes
all_taken_leaves g (d ∷ ds) =
    leaves_on g.processes (taken g d).processes (all_taken (taken g d) ds).processes (taken_leaves g d) (all_taken_leaves (taken g d) ds)

caught_leaves : (session : Option ℕ) (g : GuestState) (seat : Seat) → Leaves g.processes (caught_up session g seat).processes
caught_leaves None g seat = leaves_all g.processes
caught_leaves (Some session) g seat = all_told_leaves g.processes seat (events_of session g.pump.held)

settled_leaves : (what : LineKind) (g : GuestState) (n : ℕ) → Leaves g.processes (settled what g n).processes
settled_leaves (OnHandle h call) g n = caught_leaves (handle_at (process_at g n) h).session g (record { process = n; handle = h })
settled_leaves (Raw chain) g n = leaves_all g.processes

-- a process that isn't lent to is put in a place
pub unlent_leaves : (ps : List ProcessState) (n : ℕ) (q : ProcessState) → is_lent q.status ≡ false → Leaves ps (set ps n q)
unlent_leaves ps n q lent = set_leaves ps n q (λ e is. absurd (unlent q e lent is))

-- ---- Issue

begins_call : (way : Way) (line h : ℕ) (call : Call) (p q : ProcessState) (sends : Option Sending) → BeginsCall way line h call p q sends → is_lent q.status ≡ false
begins_call (Crosses c) line h call p q sends (along, handle, goes, after, sent) = ap (λ (x : ProcessState). is_lent x.status) after
begins_call AnsweredHere line h call p q sends (handle, answers, after, sent) = ap (λ (x : ProcessState). is_lent x.status) after
begins_call Waits line h call p q sends (after, sent) = ap (λ (x : ProcessState). is_lent x.status) after
begins_call TouchesMemory line h call p q sends begins = absurd begins

begins_unlent : (line : ℕ) (what : LineKind) (p q : ProcessState) (sends : Option Sending) → Begins line what p q sends → is_lent q.status ≡ false
begins_unlent line (OnHandle h call) p q sends begins = begins_call (way_from (handle_at p h) call) line h call p q sends begins
begins_unlent line (Raw chain) p q sends (after, sent) = ap (λ (x : ProcessState). is_lent x.status) after

issued_leaves : (n : ℕ) (s : Statement) (g g' : GuestState) (events : List Delivery) (sends : Option Sending) → Issued n s g events g' sends → Leaves g.processes g'.processes
issued_leaves n s g g' events sends issued =
    let t : GuestState = all_taken g events in
    let last : Leaves t.processes (with_process t n issued.process).processes =
    unlent_leaves t.processes n issued.process (begins_unlent s.line s.what (process_at t n) issued.process sends issued.begins) in
    subst (λ (x : GuestState). Leaves g.processes x.processes) (sym issued.after)
    (leaves_on g.processes t.processes (with_process t n issued.process).processes (all_taken_leaves g events) last)

issues_leaves : (o : Option Statement) (n : ℕ) (g g' : GuestState) (i left : Inbox) (posted : Outbox) → IssuesFor o n g i Did g' left posted → Leaves g.processes g'.processes
issues_leaves None n g g' i left posted idle = subst (λ (x : GuestState). Leaves g.processes x.processes) (sym idle.1) (leaves_all g.processes)
issues_leaves (Some s) n g g' i left posted (turn, does) =
    issued_leaves n s g g' (all_if (begins_with_events s.what) i.events) does.sends does.issued

-- ---- Collect

answered_unlent : (line : ℕ) (what : LineKind) (p q : ProcessState) (r : Returning) → AnsweredFor line what p r q → is_lent q.status ≡ false
answered_unlent line (OnHandle h call) p q r answers =
    let may = answers.may.may in
    ap (λ (x : ProcessState). is_lent x.status) (answers.after may.reply (may.next, may.session, (may.is_call, may.told)))
answered_unlent line (Raw chain) p q r (errno, told, after) = ap (λ (x : ProcessState). is_lent x.status) after

collected_leaves : (s : Statement) (g g' : GuestState) (events : List Delivery) (r : Returning) → Collected s g events r g' → Leaves g.processes g'.processes
collected_leaves s g g' events r collected =
    let t : GuestState = all_taken g events in
    let u : GuestState = with_process t r.reply.who collected.process in
    let next : Leaves t.processes u.processes =
    unlent_leaves t.processes r.reply.who collected.process (answered_unlent s.line s.what (process_at t r.reply.who) collected.process r collected.answers) in
    subst (λ (x : GuestState). Leaves g.processes x.processes) (sym collected.after)
    (leaves_on g.processes u.processes (settled s.what u r.reply.who).processes (leaves_on g.processes t.processes u.processes (all_taken_leaves g events) next) (settled_leaves s.what u r.reply.who))

collects_leaves : (rs : List Returning) (g g' : GuestState) (i left : Inbox) (posted : Outbox) → CollectsFrom rs g i Did g' left posted → Leaves g.processes g'.processes
collects_leaves [] g g' i left posted idle = subst (λ (x : GuestState). Leaves g.processes x.processes) (sym idle.1) (leaves_all g.processes)
collects_leaves (r ∷ rs) g g' i left posted (turn, does) =
    collected_leaves does.statement g g' (all_if (ends_with_events does.statement.what) i.events) r does.collected

-- ---- Pump

pumps_leaves : (ds : List Delivery) (g g' : GuestState) (i left : Inbox) (posted : Outbox) → PumpsFrom ds g i Did g' left posted → Leaves g.processes g'.processes
pumps_leaves [] g g' i left posted idle = subst (λ (x : GuestState). Leaves g.processes x.processes) (sym idle.1) (leaves_all g.processes)
pumps_leaves (d ∷ ds) g g' i left posted does = subst (λ (x : GuestState). Leaves g.processes x.processes) (sym does.1) (taken_leaves g d)

-- ---- the device

executed_jobs : (b : Bool) (m : Posting) (c : Command) (s s' : Part) (out : Option Returning) → ExecutedCommand b m c s out s' → s'.device.jobs ≡ s.device.jobs
executed_jobs true m c s s' out (none, (session, named, is)) = ap (λ (x : Part). x.device.jobs) is
executed_jobs false m c s s' out (r, d', completed, told, is) =
    let adds = performs_adds s.device c m.behind m.held completed.0 completed.1 in
    ap (λ (x : Part). x.device.jobs) is ∙ (ap (λ (x : DeviceState). x.jobs) completed.3 ∙ adds.jobs)

asked_jobs : (a : Ask) (m : Posting) (s s' : Part) (out : Option Returning) → ExecutedAsk a m s out s' → s'.device.jobs ≡ s.device.jobs
asked_jobs Unusable m s s' out (told, is) = ap (λ (x : Part). x.device.jobs) is
asked_jobs (Judged (Err f)) m s s' out (told, is) = ap (λ (x : Part). x.device.jobs) is
asked_jobs (Judged (Ok c)) m s s' out does = executed_jobs (must_wait s.device c) m c s s' out does

resumed_jobs : (o : Option CallWaiting) (s s' : Part) (r : Returning) → ResumedCall o s r s' → s'.device.jobs ≡ s.device.jobs
resumed_jobs None s s' r does = absurd does
resumed_jobs (Some w) s s' r (c, d', asks, completed, is) =
    let adds = performs_adds s.device c w.posting.behind w.posting.held completed.0 completed.1 in
    ap (λ (x : Part). x.device.jobs) is ∙ (ap (λ (x : DeviceState). x.jobs) completed.3 ∙ adds.jobs)

sends_jobs : (ids : List ℕ) (d d' : DeviceState) (event : EventMsg × Option Held) → Sends d ids (Some event) d' → d'.jobs ≡ d.jobs
sends_jobs [] d d' event does = ap (λ (x : DeviceState). x.jobs) does.1
sends_jobs (id ∷ ids) d d' event does = ap (λ (x : DeviceState). x.jobs) does.4

announced_jobs : (ids : List ℕ) (s s' : Part) (delivery : Delivery) → AnnouncedTo ids s delivery s' → s'.device.jobs ≡ s.device.jobs
announced_jobs [] s s' delivery does = absurd does
announced_jobs (id ∷ ids) s s' delivery (named, sends, calls) = sends_jobs s.device.unsent s.device s'.device (delivery.msg, delivery.held) sends

-- ---- each of these steps

pub record LeavesOut (w w' : WorldState) : Type 0 where
  pub jobs : jobs_out w' ≡ jobs_out w
  pub processes : Leaves w.guest.processes w'.guest.processes

driver_leaves : (w w' : WorldState) (g : GuestState) → w'.guest ≡ g → w'.host ≡ w.host → Leaves w.guest.processes g.processes → LeavesOut w w'
driver_leaves w w' g guest host leaves = record {
  jobs = ap (λ (x : Part). x.device.jobs) host;
  processes = subst (λ (x : GuestState). Leaves w.guest.processes x.processes) (sym guest) leaves;
}

device_leaves : (w w' : WorldState) (host : Part) → w'.guest ≡ w.guest → w'.host ≡ host → host.device.jobs ≡ w.host.device.jobs → LeavesOut w w'
device_leaves w w' host guest is jobs = record {
  jobs = ap (λ (x : Part). x.device.jobs) is ∙ jobs;
  processes = subst (λ (x : GuestState). Leaves w.guest.processes x.processes) (sym guest) (leaves_all w.guest.processes);
}

execute_leaves : (ms : List Posting) (w w' : WorldState) → DoesExecute ms w w' → LeavesOut w w'
execute_leaves [] w w' does = absurd does
execute_leaves (m ∷ ms) w w' (out, host, executed, after) =
    device_leaves w w' host (ap (λ (x : WorldState). x.guest) after) (ap (λ (x : WorldState). x.host) after) (asked_jobs m.request.asks m w.host host out executed)

-- what hands nothing over leaves all that is out
pub leaves_out : (w w' : WorldState) (s : Step) → hands_over s ≡ false → Does s w w' → LeavesOut w w'
leaves_out w w' (Issue n) none (g, left, posted, does, after) =
    driver_leaves w w' g (ap (λ (x : WorldState). x.guest) after) (ap (λ (x : WorldState). x.host) after) (issues_leaves (issuing (process_at w.guest n)) n w.guest g (inbox_of w) left posted does)
leaves_out w w' Execute none does = execute_leaves w.requests w w' does
leaves_out w w' (Resume session) none (r, host, resumed, after) =
    device_leaves w w' host (ap (λ (x : WorldState). x.guest) after) (ap (λ (x : WorldState). x.host) after) (resumed_jobs (call_for session w.host.calls) w.host host r resumed.1)
leaves_out w w' Announce none (delivery, host, announced, after) =
    device_leaves w w' host (ap (λ (x : WorldState). x.guest) after) (ap (λ (x : WorldState). x.host) after) (announced_jobs w.host.device.unsent w.host host delivery announced)
leaves_out w w' Collect none (g, left, posted, does, after) =
    driver_leaves w w' g (ap (λ (x : WorldState). x.guest) after) (ap (λ (x : WorldState). x.host) after) (collects_leaves w.replies w.guest g (inbox_of w) left posted does)
leaves_out w w' Pump none (g, left, posted, does, after) =
    driver_leaves w w' g (ap (λ (x : WorldState). x.guest) after) (ap (λ (x : WorldState). x.host) after) (pumps_leaves w.events w.guest g (inbox_of w) left posted does)
leaves_out w w' (Begin session) over does = absurd (false≢true (sym over))
leaves_out w w' (Finish number) over does = absurd (false≢true (sym over))
leaves_out w w' (Lease n) over does = absurd (false≢true (sym over))
leaves_out w w' (GiveBack n) over does = absurd (false≢true (sym over))
