-- Each step of the world lets each handle's log go on from what it was.
use Rattle.std.proofs.Common.{◌≡◌, ℕ, List, [], ◌∷◌, ◌++◌, Option, Some, None, length, get_or, set, refl, sym, ap, ◌∙◌, subst, inl, inr, append_assoc}
use Rattle.std.specs.Prelude.{◌&&◌}
use Rattle.std.proofs.lemmas.Bool.{cases_eq, cases_lt, cond_both}
use Rattle.std.proofs.lemmas.List.{append-nil, set_past, get_or-set_same, get_or-set_other}
use Rattle.v4l_const.specs.declared.errno.Errno.{Errno}
use Rattle.v4l_const.specs.declared.errno.Errno.TheVariants.{Enomem}
use Rattle.v4l_rules.specs.Refusals.{first_refusal}
use Rattle.vm_frame.specs.declared.mem.Held.{Held}
use Rattle.vm_home.specs.Moves.{goes_along}
use Rattle.vm_lease.specs.Lease.{LeaseParts}
use Rattle.vm_local.specs.declared.call.Call.{Call}
use Rattle.vm_local.specs.declared.entry.Entry.{Entry}
use Rattle.vm_local.specs.declared.entry.Entry.TheVariants.{Called, Give}
use Rattle.vm_local.specs.declared.reply.Reply.TheVariants.{Refused}
use Rattle.vm_log.specs.Answers.{with_line, Sends, Leases, given_back as log_given_back}
use Rattle.vm_log.specs.LegalLog.{LogState, state_of, with_entry}
use Rattle.vm_log.specs.declared.leased.Leased.{Leased}
use Rattle.vm_log.specs.declared.leased.Leased.TheVariants.{Out as GoneOut, Answered, Idle}
use Rattle.vm_link.specs.declared.link.Turn.TheVariants.{Did}
use Rattle.vm_script.specs.declared.line.LineKind.{LineKind}
use Rattle.vm_script.specs.declared.line.LineKind.TheVariants.{OnHandle, Raw}
use Rattle.vm_wire.specs.Message.{Posting, Returning}
use Rattle.vm_wire.specs.declared.delivery.Delivery.{Delivery}
use Rattle.vm_wire.specs.declared.event.EventMsg.{EventMsg}
use Rattle.vm_wire.specs.Wire.{response_of}
use Rattle.vm_exchange.specs.Messages.{made_by}
use Rattle.vm_exchange.specs.declared.way.Way.{Way}
use Rattle.vm_exchange.specs.declared.way.Way.TheVariants.{Crosses, AnsweredHere, Waits, TouchesMemory}
use Rattle.vm_handle.specs.Answers.{row_from, answered_by, AnswersHere, with_reply, with_steps, with_given, answered_at, awoken, delivered}
use Rattle.vm_handle.specs.Handle.{HandleState, way_from}
use Rattle.vm_handle.specs.declared.stage.Stage.{Stage}
use Rattle.vm_handle.specs.declared.stage.Stage.TheVariants.{AtRest, Underway, Waiting}
use Rattle.vm_guest.specs.Asking.{begins_with_events, ends_with_events}
use Rattle.vm_guest.specs.Events.{woken, told, told_at, all_told, holds_back, held_back, given, taken_at, taken, all_taken, events_of, caught_up, settled}
use Rattle.vm_guest.specs.Guest.{GuestState, no_process, process_in, process_at, with_process, seat_of}
use Rattle.vm_guest.specs.Lines.{BeginsCall, Begins, AnsweredFor, after_lease, LeasesCall, returned_to, returned, waiting}
use Rattle.vm_guest.specs.Message.{Sending}
use Rattle.vm_guest.specs.Part.{Inbox, Outbox, IssuesFor, CollectsFrom, PumpsFrom}
use Rattle.vm_guest.specs.Process.{ProcessState, is_blocked, is_answered_in, current_call, issuing, leasing, handle_at, with_handle, with_log, no_handle, rested}
use Rattle.vm_guest.specs.Steps.{all_if, Issued, LeasesFor}
use Rattle.vm_guest.specs.declared.asked.Asked.{Asked as AskedCall}
use Rattle.vm_guest.specs.declared.asked.Statement.{Statement}
use Rattle.vm_guest.specs.declared.seat.Seat.{Seat}
use Rattle.vm_realm.specs.declared.step.Step.{Step}
use Rattle.vm_realm.specs.declared.step.Step.TheVariants.{Issue, Execute, Resume, Begin, Finish, Announce, Collect, Pump, Lease, GiveBack}
use Rattle.vm_realm.specs.World.{WorldState}
use Rattle.vm_realm.specs.Steps.{inbox_of, DoesExecute, Steps}

-- ---- logs

-- the one list goes on from the other
abbrev pub GoOn : List Entry → List Entry → Type 0
GoOn old new = (more : List Entry) × (new ≡ old ++ more)

same_on : (old new : List Entry) → new ≡ old → GoOn old new
same_on old new is = ([], is ∙ sym (append-nil old))

on_and_on : (old between new : List Entry) → GoOn old between → GoOn between new → GoOn old new
on_and_on old between new (more, is) (rest, then_is) = (more ++ rest, then_is ∙ (ap (λ xs. xs ++ rest) is ∙ append_assoc old more rest))

abbrev pub LogOn : LogState → LogState → Type 0
LogOn l l' = GoOn l.entries l'.entries

steps_on : (l : LogState) (es : List Entry) → LogOn l (with_steps l es)
steps_on l [] = same_on l.entries l.entries refl
steps_on l (e ∷ es) = on_and_on l.entries (l.entries ++ e ∷ []) (with_steps (with_entry l e l.home) es).entries (e ∷ [], refl) (steps_on (with_entry l e l.home) es)

given_on : (l : LogState) (held : Option Held) → LogOn l (with_given l held)
given_on l None = (Give ∷ [], refl)
given_on l (Some held) = (Give ∷ [], refl)

answered_on : (o : Option Errno) (l : LogState) (line : ℕ) (call : Call) → LogOn l (answered_by o l line call)
answered_on None l line call = (Called line call (row_from l line call).reply ∷ [], refl)
answered_on (Some errno) l line call = (Called line call (Refused errno) ∷ [], refl)

here_on : (l : LogState) (line : ℕ) (call : Call) (new : LogState) → AnswersHere l line call new → LogOn l new
here_on l line call new answers = elim answers [
  | inl is ↦ subst (LogOn l) (sym is) (answered_on (first_refusal (row_from l line call).refusals) l line call)
  | inr lacks ↦ subst (LogOn l) (sym lacks.new_is) (Called line call (Refused Enomem) ∷ [], refl)
]

-- ---- messages

answered_at_on : (way : Way) (h : HandleState) (line : ℕ) (call : Call) → LogOn h.log (answered_at way h line call).log
answered_at_on AnsweredHere h line call = answered_on (first_refusal (row_from h.log line call).refusals) h.log line call
answered_at_on (Crosses c) h line call = same_on h.log.entries h.log.entries refl
answered_at_on Waits h line call = same_on h.log.entries h.log.entries refl
answered_at_on TouchesMemory h line call = same_on h.log.entries h.log.entries refl

awoken_on : (stage : Stage) (h : HandleState) → LogOn h.log (awoken stage h).log
awoken_on AtRest h = same_on h.log.entries h.log.entries refl
awoken_on (Underway line call) h = same_on h.log.entries h.log.entries refl
awoken_on (Waiting line call) h = answered_at_on (way_from h call) h line call

delivered_on : (h : HandleState) (msg : EventMsg) (held : Option Held) → LogOn h.log (delivered h msg held).log
delivered_on h msg held =
    let stepped : LogState = with_steps h.log (made_by (state_of h.log).model msg) in
    let logged : HandleState = record h { log = with_given stepped held } in
    on_and_on h.log.entries stepped.entries (awoken h.stage logged).log.entries (steps_on h.log (made_by (state_of h.log).model msg))
    (on_and_on stepped.entries logged.log.entries (awoken h.stage logged).log.entries (given_on stepped held) (awoken_on h.stage logged))

-- ---- processes

-- each log of the process goes on
abbrev pub ProcessOn : ProcessState → ProcessState → Type 0
ProcessOn p q = (h : ℕ) → LogOn (handle_at p h).log (handle_at q h).log

process_same : (p q : ProcessState) → q.handles ≡ p.handles → ProcessOn p q
process_same p q is h = same_on (handle_at p h).log.entries (handle_at q h).log.entries (ap (λ hs. (get_or hs h no_handle).log.entries) is)

process_on : (p q r : ProcessState) → ProcessOn p q → ProcessOn q r → ProcessOn p r
process_on p q r first second h = on_and_on (handle_at p h).log.entries (handle_at q h).log.entries (handle_at r h).log.entries (first h) (second h)

-- where one handle's log does
handle_on : (p q : ProcessState) (h : ℕ) (x : HandleState) → q.handles ≡ set p.handles h x → LogOn (handle_at p h).log x.log → ProcessOn p q
handle_on p q h x is on k = subst (λ hs. LogOn (handle_at p k).log (get_or hs k no_handle).log) (sym is) (elim (cases_eq k h) [
  | inl same ↦ subst (λ i. LogOn (handle_at p i).log (get_or (set p.handles h x) i no_handle).log) (sym same) here
  | inr other ↦ same_on (handle_at p k).log.entries _ (ap (λ (y : HandleState). y.log.entries) (get_or-set_other p.handles h k x no_handle other))
])
  where
    here : LogOn (handle_at p h).log (get_or (set p.handles h x) h no_handle).log
    here = elim (cases_lt h (length p.handles)) [
      | inl within ↦ subst (λ (y : HandleState). LogOn (handle_at p h).log y.log) (sym (get_or-set_same p.handles h x no_handle within)) on
      | inr past ↦ same_on (handle_at p h).log.entries _ (ap (λ hs. (get_or hs h no_handle).log.entries) (set_past p.handles h x past))
    ]

told_on : (p : ProcessState) (h : ℕ) (d : Delivery) → ProcessOn p (told p h d)
told_on p h d =
    let x : HandleState = delivered (handle_at p h) d.msg d.held in
    let q : ProcessState = with_handle p h x in
    process_on p q (woken q) (handle_on p q h x refl (delivered_on (handle_at p h) d.msg d.held))
    (cond_both (is_blocked q.status && is_answered_in q.handles (current_call q)) (rested q) q (ProcessOn q) (λ t. process_same q (rested q) refl) (λ t. process_same q q refl))

-- ---- the driver

-- each log of each process goes on
abbrev pub AllOn : List ProcessState → List ProcessState → Type 0
AllOn ps qs = (n : ℕ) → ProcessOn (process_in ps n) (process_in qs n)

all_same : (ps qs : List ProcessState) → qs ≡ ps → AllOn ps qs
all_same ps qs is n = subst (λ rs. ProcessOn (process_in ps n) (process_in rs n)) (sym is) (process_same (process_in ps n) (process_in ps n) refl)

all_on : (ps qs rs : List ProcessState) → AllOn ps qs → AllOn qs rs → AllOn ps rs
all_on ps qs rs first second n = process_on (process_in ps n) (process_in qs n) (process_in rs n) (first n) (second n)

one_on : (ps : List ProcessState) (n : ℕ) (q : ProcessState) → ProcessOn (process_in ps n) q → AllOn ps (set ps n q)
one_on ps n q on m = elim (cases_eq m n) [
  | inl same ↦ subst (λ i. ProcessOn (process_in ps i) (process_in (set ps n q) i)) (sym same) here
  | inr other ↦ subst (ProcessOn (process_in ps m)) (sym (get_or-set_other ps n m q no_process other)) (process_same (process_in ps m) (process_in ps m) refl)
]
  where
    here : ProcessOn (process_in ps n) (process_in (set ps n q) n)
    here = elim (cases_lt n (length ps)) [
      | inl within ↦ subst (ProcessOn (process_in ps n)) (sym (get_or-set_same ps n q no_process within)) on
      | inr past ↦ subst (λ rs. ProcessOn (process_in ps n) (process_in rs n)) (sym (set_past ps n q past)) (process_same (process_in ps n) (process_in ps n) refl)
    ]

told_at_on : (ps : List ProcessState) (seat : Seat) (d : Delivery) → AllOn ps (told_at ps seat d)
told_at_on ps seat d = one_on ps seat.process (told (process_in ps seat.process) seat.handle d) (told_on (process_in ps seat.process) seat.handle d)

all_told_on : (ps : List ProcessState) (seat : Seat) (ds : List Delivery) → AllOn ps (all_told ps seat ds)
all_told_on ps seat [] = all_same ps ps refl
all_told_on ps seat (d ∷ ds) = all_on ps (told_at ps seat d) (all_told (told_at ps seat d) seat ds) (told_at_on ps seat d) (all_told_on (told_at ps seat d) seat ds)

taken_at_on : (o : Option Seat) (g : GuestState) (d : Delivery) → AllOn g.processes (taken_at o g d).processes
taken_at_on None g d = all_same g.processes g.processes refl
taken_at_on (Some seat) g d =
    cond_both (holds_back g seat) (held_back g d) (given g seat d) (λ x. AllOn g.processes x.processes) (λ t. all_same g.processes g.processes refl) (λ t. told_at_on g.processes seat d)

taken_on : (g : GuestState) (ds : List Delivery) → AllOn g.processes (all_taken g ds).processes
taken_on g [] = all_same g.processes g.processes refl
taken_on g (d ∷ ds) = all_on g.processes (taken g d).processes (all_taken (taken g d) ds).processes (taken_at_on (seat_of g d.session) g d) (taken_on (taken g d) ds)

caught_up_on : (o : Option ℕ) (g : GuestState) (seat : Seat) → AllOn g.processes (caught_up o g seat).processes
caught_up_on None g seat = all_same g.processes g.processes refl
caught_up_on (Some session) g seat = all_told_on g.processes seat (events_of session g.pump.held)

settled_on : (what : LineKind) (g : GuestState) (n : ℕ) → AllOn g.processes (settled what g n).processes
settled_on (OnHandle h call) g n = caught_up_on (handle_at (process_at g n) h).session g (record { process = n; handle = h })
settled_on (Raw chain) g n = all_same g.processes g.processes refl

-- ---- statements

sends_on : (o : Option ℕ) (old : LogState) (call : Call) (sent : Option Held) (new : LogState) → Sends o old call sent new → LogOn old new
sends_on None old call sent new (none, is) = same_on old.entries new.entries (ap (λ (l : LogState). l.entries) is)
sends_on (Some number) old call None new sends = absurd sends
sends_on (Some number) old call (Some held) new (queued, home, is) = same_on old.entries new.entries (ap (λ (l : LogState). l.entries) is)

begins_call_on : (way : Way) (line h : ℕ) (call : Call) (p p' : ProcessState) (sends : Option Sending) → BeginsCall way line h call p p' sends → ProcessOn p p'
begins_call_on (Crosses c) line h call p p' sends (along, handle, goes, after, sent) =
    handle_on p p' h handle (ap (λ (q : ProcessState). q.handles) after)
    (subst (λ (x : HandleState). LogOn (handle_at p h).log x.log) (sym goes.after) (sends_on (goes_along (state_of (handle_at p h).log) call) (with_line (handle_at p h).log) call along goes.log goes.sends))
begins_call_on AnsweredHere line h call p p' sends (handle, answers, after, sent) =
    handle_on p p' h handle (ap (λ (q : ProcessState). q.handles) after)
    (subst (λ (x : HandleState). LogOn (handle_at p h).log x.log) (sym answers.after) (here_on (with_line (handle_at p h).log) line call answers.log answers.answers))
begins_call_on Waits line h call p p' sends (after, sent) =
    handle_on p p' h (waiting (handle_at p h) line call) (ap (λ (q : ProcessState). q.handles) after) (same_on (handle_at p h).log.entries (handle_at p h).log.entries refl)
begins_call_on TouchesMemory line h call p p' sends begins = absurd begins

begins_on : (line : ℕ) (what : LineKind) (p p' : ProcessState) (sends : Option Sending) → Begins line what p p' sends → ProcessOn p p'
begins_on line (OnHandle h call) p p' sends begins = begins_call_on (way_from (handle_at p h) call) line h call p p' sends begins
begins_on line (Raw chain) p p' sends (after, sent) = process_same p p' (ap (λ (q : ProcessState). q.handles) after)

answers_on : (line : ℕ) (what : LineKind) (p p' : ProcessState) (r : Returning) → AnsweredFor line what p r p' → ProcessOn p p'
answers_on line (OnHandle h call) p p' r answers =
    let may = answers.may.may in
    let after = answers.after may.reply (may.next, may.session, (may.is_call, may.told)) in
    handle_on p p' h (with_reply (handle_at p h) line call may.reply (response_of answers.command r.reply.bytes) r.held)
    (ap (λ (q : ProcessState). q.handles) after) (Called line call may.reply ∷ [], refl)
answers_on line (Raw chain) p p' r (errno, told, after) = process_same p p' (ap (λ (q : ProcessState). q.handles) after)

leases_on : (refused : Option Errno) (leased : Leased) (old : LogState) (line : ℕ) (call : Call) (new : LogState) → Leases refused old line call leased new → LogOn old new
leases_on (Some errno) Answered old line call new is = subst (LogOn old) (sym is) (Called line call (Refused errno) ∷ [], refl)
leases_on None (GoneOut lease) old line call new goes = same_on old.entries new.entries (ap (λ (l : LogState). l.entries) goes.left)
leases_on (Some errno) (GoneOut lease) old line call new leases = absurd leases
leases_on (Some errno) Idle old line call new leases = absurd leases
leases_on None Answered old line call new leases = absurd leases
leases_on None Idle old line call new leases = absurd leases

leased_handles : (leased : Leased) (q : ProcessState) → (after_lease leased q).handles ≡ q.handles
leased_handles (GoneOut lease) q = refl
leased_handles Answered q = refl
leased_handles Idle q = refl

lease_on : (a : AskedCall) (p p' : ProcessState) (leased : Leased) → LeasesCall a p leased p' → ProcessOn p p'
lease_on a p p' leased (log, leases, after) =
    handle_on p p' a.handle (record (handle_at p a.handle) { log = log }) (ap (λ (q : ProcessState). q.handles) after ∙ leased_handles leased (with_log p a.handle log))
    (leases_on (first_refusal (row_from (handle_at p a.handle).log a.line a.call).refusals) leased (with_line (handle_at p a.handle).log) a.line a.call log leases)

returned_on : (o : Option AskedCall) (p : ProcessState) (lease : LeaseParts) → ProcessOn p (returned_to p o lease)
returned_on None p lease = process_same p p refl
returned_on (Some a) p lease =
    handle_on p (returned_to p (Some a) lease) a.handle (record (handle_at p a.handle) { log = log_given_back (handle_at p a.handle).log lease }) refl
    (Called lease.line lease.call lease.reply ∷ [], refl)

-- ---- steps

-- the script stays, and the logs go on
record WorldOn (w w' : WorldState) : Type 0 where
  script : w'.script ≡ w.script
  logs : AllOn w.guest.processes w'.guest.processes

guest_stays : (w w' v : WorldState) → w' ≡ v → v.script ≡ w.script → v.guest ≡ w.guest → WorldOn w w'
guest_stays w w' v after script guest = subst (WorldOn w) (sym after) (record { script = script; logs = all_same w.guest.processes v.guest.processes (ap (λ (g : GuestState). g.processes) guest) })

guest_on : (w w' v : WorldState) → w' ≡ v → v.script ≡ w.script → AllOn w.guest.processes v.guest.processes → WorldOn w w'
guest_on w w' v after script logs = subst (WorldOn w) (sym after) (record { script = script; logs = logs })

issue_by : (o : Option Statement) (n : ℕ) (g : GuestState) (i : Inbox) (g' : GuestState) (left : Inbox) (posted : Outbox) → IssuesFor o n g i Did g' left posted → AllOn g.processes g'.processes
issue_by None n g i g' left posted (turn, same, kept, none) = all_same g.processes g'.processes (ap (λ (x : GuestState). x.processes) same)
issue_by (Some s) n g i g' left posted (turn, does) =
    let issued : Issued n s g (all_if (begins_with_events s.what) i.events) g' does.sends = does.issued in
    let taken : GuestState = all_taken g (all_if (begins_with_events s.what) i.events) in
    subst (λ (x : GuestState). AllOn g.processes x.processes) (sym issued.after)
    (all_on g.processes taken.processes (set taken.processes n issued.process) (taken_on g (all_if (begins_with_events s.what) i.events))
    (one_on taken.processes n issued.process (begins_on s.line s.what (process_at taken n) issued.process does.sends issued.begins)))

collect_by : (rs : List Returning) (g : GuestState) (i : Inbox) (g' : GuestState) (left : Inbox) (posted : Outbox) → CollectsFrom rs g i Did g' left posted → AllOn g.processes g'.processes
collect_by [] g i g' left posted (turn, same, kept, none) = all_same g.processes g'.processes (ap (λ (x : GuestState). x.processes) same)
collect_by (r ∷ rs) g i g' left posted (turn, does) =
    let s : Statement = does.statement in
    let who : ℕ = r.reply.who in
    let events : List Delivery = all_if (ends_with_events s.what) i.events in
    let taken : GuestState = all_taken g events in
    let moved : GuestState = with_process taken who does.collected.process in
    subst (λ (x : GuestState). AllOn g.processes x.processes) (sym does.collected.after)
    (all_on g.processes taken.processes (settled s.what moved who).processes (taken_on g events)
    (all_on taken.processes moved.processes (settled s.what moved who).processes
    (one_on taken.processes who does.collected.process (answers_on s.line s.what (process_at taken who) does.collected.process r does.collected.answers))
    (settled_on s.what moved who)))

pump_by : (ds : List Delivery) (g : GuestState) (i : Inbox) (g' : GuestState) (left : Inbox) (posted : Outbox) → PumpsFrom ds g i Did g' left posted → AllOn g.processes g'.processes
pump_by [] g i g' left posted (turn, same, kept, none) = all_same g.processes g'.processes (ap (λ (x : GuestState). x.processes) same)
pump_by (d ∷ ds) g i g' left posted (turn, takes, leaves, posts) =
    subst (λ (x : GuestState). AllOn g.processes x.processes) (sym takes) (taken_on g (d ∷ []))

lease_by : (o : Option AskedCall) (n : ℕ) (g : GuestState) (leased : Leased) (g' : GuestState) → LeasesFor o n g leased g' → AllOn g.processes g'.processes
lease_by None n g leased g' (idle, same) = all_same g.processes g'.processes (ap (λ (x : GuestState). x.processes) same)
lease_by (Some a) n g leased g' (moved, leases, after) =
    subst (λ (x : GuestState). AllOn g.processes x.processes) (sym after) (one_on g.processes n moved (lease_on a (process_at g n) moved leased leases))

execute_by : (w w' : WorldState) (ms : List Posting) → DoesExecute ms w w' → WorldOn w w'
execute_by w w' [] does = absurd does
execute_by w w' (m ∷ ms) (out, host, does, after) = guest_stays w w' _ after refl refl

world_on : (w w' : WorldState) (s : Step) → Steps w s w' → WorldOn w w'
world_on w w' (Issue n) (may, (g, left, posted, does, after)) = guest_on w w' _ after refl (issue_by (issuing (process_at w.guest n)) n w.guest (inbox_of w) g left posted does)
world_on w w' Execute (may, does) = execute_by w w' w.requests does
world_on w w' (Resume session) (may, (r, host, does, after)) = guest_stays w w' _ after refl refl
world_on w w' (Begin session) (may, (job, d, does, after)) = guest_stays w w' _ after refl refl
world_on w w' (Finish number) (may, (done, (e, d, out, comes, does, after))) = guest_stays w w' _ after refl refl
world_on w w' Announce (may, (d, host, does, after)) = guest_stays w w' _ after refl refl
world_on w w' Collect (may, (g, left, posted, does, after)) = guest_on w w' _ after refl (collect_by w.replies w.guest (inbox_of w) g left posted does)
world_on w w' Pump (may, (g, left, posted, does, after)) = guest_on w w' _ after refl (pump_by w.events w.guest (inbox_of w) g left posted does)
world_on w w' (Lease n) (may, (leased, g, does, after)) = guest_on w w' _ after refl (lease_by (leasing (process_at w.guest n)) n w.guest leased g does)
world_on w w' (GiveBack n) (may, (entry, lease, out, back, after)) =
    guest_on w w' _ after refl (one_on w.guest.processes n (returned (process_at w.guest n) lease) (returned_on (current_call (process_at w.guest n)) (process_at w.guest n) lease))

pub script_stays : (w w' : WorldState) (s : Step) → Steps w s w' → w'.script ≡ w.script
script_stays w w' s does = (world_on w w' s does).script

pub log_grows : (w w' : WorldState) (s : Step) (n h : ℕ) → Steps w s w' → LogOn (handle_at (process_at w.guest n) h).log (handle_at (process_at w'.guest n) h).log
log_grows w w' s n h does = (world_on w w' s does).logs n h
