-- What the world is after each step that takes no event first.
use Rattle.std.proofs.Common.{Bool, Err, List, None, Ok, Option, Some, [], ap, arith, eqb, false, inl, inr, is_some, length, nat_lt, refl, subst, sym, true, ℕ, ◌&&◌, ◌++◌, ◌+◌, ◌-◌, ◌<◌, ◌∙◌, ◌∷◌, ◌≡◌, ◌≤◌, ◌⊎◌}
use Rattle.std.proofs.lemmas.Bool.{and_left, and_parts, cases_lt, cond-false, eqb-true, false≢true}
use Rattle.std.proofs.lemmas.Bool.Decides.{nat_tests}
use Rattle.std.proofs.lemmas.List.{append-nil, get_or-set_other, get_or-set_same, length-set, set_past}
use Rattle.std.proofs.lemmas.Option.{none-some, option_and_then_some}
use Rattle.std.specs.List.{find}
use Rattle.std.specs.Option.{option_and_then, option_to_list}
use Rattle.std.specs.Prelude.{Contains}
use Rattle.vm_device.specs.Device.{DeviceState, session_of}
use Rattle.vm_device.specs.Perform.{Answer, Performs, must_wait}
use Rattle.vm_device.specs.Stream.{Sends, with_done, with_job, with_sent}
use Rattle.vm_guest.specs.Asking.{asked_by, begins_with_events, ends_with_events, is_leased}
use Rattle.vm_guest.specs.Events.{all_told, caught_up, events_of, settled, told, told_at, woken}
use Rattle.vm_guest.specs.Guest.{GuestState, no_process, process_at, process_in, with_process}
use Rattle.vm_guest.specs.Lines.{AnsweredFor, Begins, LeasesCall, returned_to}
use Rattle.vm_guest.specs.Message.{Sending}
use Rattle.vm_guest.specs.Part.{CollectsFrom, Inbox, IssuesFor, Outbox, postings}
use Rattle.vm_guest.specs.Process.{ProcessState, crossing, current, current_call, handle_at, is_answered_in, is_at_rest, is_blocked, is_crossing, is_lent, issuing, kept_by, lease_on, lease_out, leasing, next, rested, with_handle}
use Rattle.vm_guest.specs.Steps.{Collected, Issued, LeasesFor}
use Rattle.vm_guest.specs.declared.asked.Asked.{Asked as AskedCall}
use Rattle.vm_guest.specs.declared.asked.Statement.{Statement}
use Rattle.vm_guest.specs.declared.seat.Seat.{Seat}
use Rattle.vm_guest.specs.declared.status.Status.TheVariants.{AtRest, Crossing, Lent}
use Rattle.vm_handle.specs.Answers.{delivered}
use Rattle.vm_host.specs.Chains.{named_session}
use Rattle.vm_host.specs.Part.{AnnouncedTo, Call as WaitingCall, Executed, ExecutedAsk, ExecutedCommand, Part, ResumedCall, call_for}
use Rattle.vm_host.specs.Waiting.{put_in, taken_out}
use Rattle.vm_job.specs.Job.{DoneParts}
use Rattle.vm_job.specs.declared.job_out.JobOut.{JobOut}
use Rattle.vm_lease.specs.Lease.{LeaseParts}
use Rattle.vm_lease.specs.declared.lease_out.LeaseOut.{LeaseOut}
use Rattle.vm_link.specs.declared.link.Turn.TheVariants.{Did, Idle}
use Rattle.vm_log.specs.declared.leased.Leased.{Leased}
use Rattle.vm_script.specs.declared.line.LineKind.{LineKind}
use Rattle.vm_script.specs.declared.line.LineKind.TheVariants.{OnHandle, Raw}
use Rattle.vm_session.specs.State.{SessionState}
use Rattle.vm_session.specs.Streaming.{oldest}
use Rattle.vm_wire.specs.Message.{Ask, Posting, Returning}
use Rattle.vm_wire.specs.Message.Ask.{Judged, Unusable}
use Rattle.vm_wire.specs.declared.command.Command.{Command}
use Rattle.vm_wire.specs.declared.delivery.Delivery.{Delivery}
use Rattle.vm_realm.proofs.IssueLemmas.{none_first}
use Rattle.vm_realm.proofs.LendLemmas.{with_one}
use Rattle.vm_realm.proofs.PartLemmas.{find_in}
use Rattle.vm_realm.proofs.ProcessLemmas.{crossing_where, kept_some, lent_is, next_is, some_where}
use Rattle.vm_realm.proofs.SumLemmas.{place_within}
use Rattle.vm_realm.specs.Enabled.{is_some_of}
use Rattle.vm_realm.specs.SliceSteps.{TakesNone, takes_by, takes_for, told_by}
use Rattle.vm_realm.specs.Steps.{DoesExecute, Steps, after_device, after_driver, inbox_of, with_device}
use Rattle.vm_realm.specs.World.{WorldState}
use Rattle.vm_realm.specs.declared.step.Step.TheVariants.{Announce, Begin, Collect, Execute, Finish, GiveBack, Issue, Lease, Resume}

-- ---- Issue

-- the process came to this, and sent that
abbrev pub line_begun : WorldState → ℕ → ProcessState → List Posting → WorldState
line_begun w n q ms = record w { guest = with_process w.guest n q; requests = w.requests ++ ms }

pub record IsIssued (w : WorldState) (n : ℕ) (w' : WorldState) : Type 0 where
  pub statement : Statement
  pub process : ProcessState
  pub sends : Option Sending
  pub within : n < length w.guest.processes
  pub rest : (process_at w.guest n).status ≡ AtRest
  pub now : current (process_at w.guest n) ≡ Some statement
  pub begins : Begins statement.line statement.what (process_at w.guest n) process sends
  pub after : w' ≡ line_begun w n process (postings n sends)

issue_by : (w : WorldState) (n : ℕ) (o : Option Statement) (g : GuestState) (left : Inbox) (posted : Outbox) → issuing (process_at w.guest n) ≡ o → is_some o ≡ true →
    (takes_by o (λ s. begins_with_events s.what) ≡ false) ⊎ (w.events ≡ []) → IssuesFor o n w.guest (inbox_of w) Did g left posted → IsIssued w n (after_driver w g left posted)
issue_by w n None g left posted is may none does = absurd (false≢true may)
issue_by w n (Some s) g left posted is may none (turn, d) =
    let sends : Option Sending = d.sends in
    let b : Bool = begins_with_events s.what in
    let first : _ = none_first b w.events none in
    let begun : Issued n s w.guest [] g sends = subst (λ es. Issued n s w.guest es g sends) first.0 d.issued in
    let kept_with : List Delivery → Inbox = λ es. record { replies = w.replies; events = es } in
    let gives_for : List Delivery → Outbox = λ es. record { commands = postings n sends; chains = length es } in
    let here : left ≡ kept_with w.events = d.left ∙ ap kept_with first.1 in
    let told : posted ≡ gives_for [] = (λ j. record { commands = d.commands j; chains = d.chains j }) ∙ ap gives_for first.0 in
    let chains : w.chains + 0 ≡ w.chains = omega arith in
    let ends : after_driver w g left posted ≡ line_begun w n begun.process (postings n sends) =
    ap (λ i. after_driver w g i posted) here ∙ (ap (λ o. after_driver w g (kept_with w.events) o) told
    ∙ (λ j. record w { guest = begun.after j; requests = w.requests ++ postings n sends; chains = chains j })) in
    let p : ProcessState = process_at w.guest n in
    let is_next : next p ≡ Some s = kept_some _ (next p) s is in
    record {
      statement = s;
      process = begun.process;
      sends = sends;
      within = place_within (λ (y : ProcessState). is_some (issuing y)) w.guest.processes n no_process refl (ap is_some is);
      rest = (next_is p s is_next).0;
      now = (some_where (is_at_rest p.status) (current p) s is_next).1;
      begins = begun.begins;
      after = ends;
    }

pub is_issued : (w w' : WorldState) (n : ℕ) → TakesNone w (Issue n) → Steps w (Issue n) w' → IsIssued w n w'
is_issued w w' n none (may, (g, left, posted, does, after)) =
    subst (IsIssued w n) (sym after) (issue_by w n (issuing (process_at w.guest n)) g left posted refl may none does)

-- ---- Collect

-- the driver came to this, and these replies are left
abbrev pub reply_collected : WorldState → GuestState → List Returning → WorldState
reply_collected w g rs = record w { guest = g; replies = rs }

pub record IsCollected (w w' : WorldState) : Type 0 where
  pub told : Returning
  pub rest : List Returning
  pub statement : Statement
  pub process : ProcessState
  pub first : w.replies ≡ told ∷ rest
  pub within : told.reply.who < length w.guest.processes
  pub status : (process_at w.guest told.reply.who).status ≡ Crossing
  pub now : current (process_at w.guest told.reply.who) ≡ Some statement
  pub answers : AnsweredFor statement.line statement.what (process_at w.guest told.reply.who) told process
  pub after : w' ≡ reply_collected w (settled statement.what (with_process w.guest told.reply.who process) told.reply.who) rest

not_idle : Did ≡ Idle → ⊥
not_idle same = cc

collect_by : (w : WorldState) (replies : List Returning) (g : GuestState) (left : Inbox) (posted : Outbox) → w.replies ≡ replies →
    (takes_for w.guest replies ≡ false) ⊎ (w.events ≡ []) → CollectsFrom replies w.guest (inbox_of w) Did g left posted → IsCollected w (after_driver w g left posted)
collect_by w [] g left posted is none (turn, same, kept, nothing) = absurd (not_idle turn)
collect_by w (r ∷ rs) g left posted is none (turn, d) =
    let s : Statement = d.statement in
    let b : Bool = ends_with_events s.what in
    let takes : takes_for w.guest (r ∷ rs) ≡ b = ap (λ o. takes_by o (λ (t : Statement). ends_with_events t.what)) d.under_way in
    let quiet : (b ≡ false) ⊎ (w.events ≡ []) = elim none [ inl free ↦ inl (sym takes ∙ free) | inr empty ↦ inr empty ] in
    let first : _ = none_first b w.events quiet in
    let done : Collected s w.guest [] r g = subst (λ es. Collected s w.guest es r g) first.0 d.collected in
    let kept_with : List Delivery → Inbox = λ es. record { replies = rs; events = es } in
    let gives_for : List Delivery → Outbox = λ es. record { commands = []; chains = length es } in
    let here : left ≡ kept_with w.events = d.left ∙ ap kept_with first.1 in
    let told : posted ≡ gives_for [] = (λ j. record { commands = d.commands j; chains = d.chains j }) ∙ ap gives_for first.0 in
    let chains : w.chains + 0 ≡ w.chains = omega arith in
    let ends : after_driver w g left posted ≡ reply_collected w (settled s.what (with_process w.guest r.reply.who done.process) r.reply.who) rs =
    ap (λ i. after_driver w g i posted) here ∙ (ap (λ o. after_driver w g (kept_with w.events) o) told
    ∙ (λ j. record w { guest = done.after j; requests = append-nil w.requests j; replies = rs; chains = chains j })) in
    let p : ProcessState = process_at w.guest r.reply.who in
    record {
      told = r;
      rest = rs;
      statement = s;
      process = done.process;
      first = is;
      within = place_within (λ (y : ProcessState). is_some (crossing y)) w.guest.processes r.reply.who no_process refl (ap is_some d.under_way);
      status = crossing_where p (current p) s d.under_way;
      now = (some_where (is_crossing p.status) (current p) s d.under_way).1;
      answers = done.answers;
      after = ends;
    }

pub is_collected : (w w' : WorldState) → TakesNone w Collect → Steps w Collect w' → IsCollected w w'
is_collected w w' none (may, (g, left, posted, does, after)) =
    subst (IsCollected w) (sym after) (collect_by w w.replies g left posted refl none does)

-- ---- Lease and GiveBack

pub record IsLeased (w : WorldState) (n : ℕ) (w' : WorldState) : Type 0 where
  pub statement : Statement
  pub call : AskedCall
  pub leased : Leased
  pub process : ProcessState
  pub within : n < length w.guest.processes
  pub rest : (process_at w.guest n).status ≡ AtRest
  pub now : current (process_at w.guest n) ≡ Some statement
  pub asked : asked_by statement ≡ Some call
  pub leases : LeasesCall call (process_at w.guest n) leased process
  pub after : w' ≡ with_one w n process

lease_by : (w : WorldState) (n : ℕ) (o : Option AskedCall) (leased : Leased) (g : GuestState) → leasing (process_at w.guest n) ≡ o → is_some o ≡ true →
    LeasesFor o n w.guest leased g → IsLeased w n (record w { guest = g })
lease_by w n None leased g is may does = absurd (false≢true may)
lease_by w n (Some a) leased g is may (moved, does, after) =
    option_and_then_some asked_by (kept_by is_leased (next (process_at w.guest n))) a is (λ s kept asked.
    let p : ProcessState = process_at w.guest n in
    let is_next : next p ≡ Some s = kept_some is_leased (next p) s kept in
    record {
      statement = s;
      call = a;
      leased = leased;
      process = moved;
      within = place_within (λ (y : ProcessState). is_some (leasing y)) w.guest.processes n no_process refl (ap is_some is);
      rest = (next_is p s is_next).0;
      now = (some_where (is_at_rest p.status) (current p) s is_next).1;
      asked = asked;
      leases = does;
      after = ap (λ y. record w { guest = y }) after;
    })

pub is_leased_to : (w w' : WorldState) (n : ℕ) → Steps w (Lease n) w' → IsLeased w n w'
is_leased_to w w' n (may, (leased, g, does, after)) =
    subst (IsLeased w n) (sym after) (lease_by w n (leasing (process_at w.guest n)) leased g refl may does)

pub record IsGivenBack (w : WorldState) (n : ℕ) (w' : WorldState) : Type 0 where
  pub statement : Statement
  pub call : AskedCall
  pub lease : LeaseParts
  pub within : n < length w.guest.processes
  pub lent : (process_at w.guest n).status ≡ Lent
  pub now : current (process_at w.guest n) ≡ Some statement
  pub asked : asked_by statement ≡ Some call
  pub after : w' ≡ with_one w n (returned_to (process_at w.guest n) (Some call) lease)

back_by : (w : WorldState) (n : ℕ) (o : Option Statement) (entry : LeaseOut) (lease : LeaseParts) → n < length w.guest.processes →
    (process_at w.guest n).status ≡ Lent → current (process_at w.guest n) ≡ o → lease_on (process_at w.guest n) (option_and_then asked_by o) ≡ Some entry →
    IsGivenBack w n (with_one w n (returned_to (process_at w.guest n) (option_and_then asked_by o) lease))
back_by w n None entry lease within lent is out = absurd (none-some entry out)
back_by w n (Some s) entry lease within lent is out = by_asked (asked_by s) refl out
  where
    by_asked : (o : Option AskedCall) → asked_by s ≡ o → lease_on (process_at w.guest n) o ≡ Some entry → IsGivenBack w n (with_one w n (returned_to (process_at w.guest n) o lease))
    by_asked None asked out = absurd (none-some entry out)
    by_asked (Some a) asked out = record {
      statement = s;
      call = a;
      lease = lease;
      within = within;
      lent = lent;
      now = is;
      asked = asked;
      after = refl;
    }

pub is_given_back : (w w' : WorldState) (n : ℕ) → Steps w (GiveBack n) w' → IsGivenBack w n w'
is_given_back w w' n (may, (entry, lease, out, back, after)) =
    let p : ProcessState = process_at w.guest n in
    let parts : _ = some_where (is_lent p.status) (lease_on p (current_call p)) entry out in
    let within : n < length w.guest.processes = place_within (λ (y : ProcessState). is_some (lease_out y)) w.guest.processes n no_process refl (ap is_some out) in
    subst (IsGivenBack w n) (sym after) (back_by w n (current p) entry lease within (lent_is p.status parts.0) refl parts.1)

-- ---- Execute

-- the device did a command of the posting, or stayed as it was
pub record HasDone (d : DeviceState) (m : Posting) (r : Returning) (d' : DeviceState) : Type 0 where
  pub command : Command
  pub answer : Answer
  pub asks : m.request.asks ≡ Judged (Ok command)
  pub does : Performs d command m.behind m.held answer
  pub told : r ≡ told_by m answer
  pub device : d' ≡ answer.device

-- the first request is answered
pub record IsAnsweredFirst (w : WorldState) (m : Posting) (ms : List Posting) (w' : WorldState) : Type 0 where
  pub told : Returning
  pub device : DeviceState
  pub who : told.reply.who ≡ m.request.who
  pub does : HasDone w.host.device m told device ⊎ (device ≡ w.host.device)
  pub after : w' ≡ record w { host = record w.host { device = device }; requests = ms; replies = w.replies ++ told ∷ [] }

-- or its call waits
pub record IsKeptFirst (w : WorldState) (m : Posting) (ms : List Posting) (w' : WorldState) : Type 0 where
  pub command : Command
  pub session : ℕ
  pub asks : m.request.asks ≡ Judged (Ok command)
  pub waits : must_wait w.host.device command ≡ true
  pub named : named_session command ≡ Some session
  pub after : w' ≡ record w { host = record w.host { calls = put_in (λ (y : WaitingCall). y.session) (record { session = session; posting = m }) w.host.calls }; requests = ms }

pub record IsExecuted (w w' : WorldState) : Type 0 where
  pub posting : Posting
  pub rest : List Posting
  pub out : Option Returning
  pub host : Part
  pub first : w.requests ≡ posting ∷ rest
  pub does : Executed posting w.host out host
  pub after : w' ≡ after_device (record w { requests = rest }) host out
  pub shape : IsAnsweredFirst w posting rest w' ⊎ IsKeptFirst w posting rest w'

answered_as : (w w' : WorldState) (m : Posting) (ms : List Posting) (out : Option Returning) (host : Part) (r : Returning) (d : DeviceState) → w' ≡ after_device (record w { requests = ms }) host out → r.reply.who ≡ m.request.who →
    HasDone w.host.device m r d ⊎ (d ≡ w.host.device) → out ≡ Some r → host ≡ record w.host { device = d } → IsAnsweredFirst w m ms w'
answered_as w w' m ms out host r d after who does told is = record {
  told = r;
  device = d;
  who = who;
  does = does;
  after = after ∙ (λ j. record w { host = is j; requests = ms; replies = w.replies ++ option_to_list (told j) });
}

command_shape : (w w' : WorldState) (m : Posting) (ms : List Posting) (out : Option Returning) (host : Part) (c : Command) (b : Bool) → w' ≡ after_device (record w { requests = ms }) host out → m.request.asks ≡ Judged (Ok c) →
    must_wait w.host.device c ≡ b → ExecutedCommand b m c w.host out host → IsAnsweredFirst w m ms w' ⊎ IsKeptFirst w m ms w'
command_shape w w' m ms out host c true after asks waits (none, (session, named, is)) =
    let rs : w.replies ++ option_to_list out ≡ w.replies = ap (λ o. w.replies ++ option_to_list o) none ∙ append-nil w.replies in
    inr (record {
      command = c;
      session = session;
      asks = asks;
      waits = waits;
      named = named;
      after = after ∙ (λ j. record w { host = is j; requests = ms; replies = rs j });
    })
command_shape w w' m ms out host c false after asks goes (r, d, (a, performs, told, is), out_is, host_is) =
    inl (answered_as w w' m ms out host r d after (ap (λ (y : Returning). y.reply.who) told)
    (inl (record { command = c; answer = a; asks = asks; does = performs; told = told; device = is })) out_is host_is)

ask_shape : (w w' : WorldState) (m : Posting) (ms : List Posting) (out : Option Returning) (host : Part) (ask : Ask) → w' ≡ after_device (record w { requests = ms }) host out → m.request.asks ≡ ask →
    ExecutedAsk ask m w.host out host → IsAnsweredFirst w m ms w' ⊎ IsKeptFirst w m ms w'
ask_shape w w' m ms out host Unusable after asks (told, same) = inl (answered_as w w' m ms out host _ w.host.device after refl (inr refl) told same)
ask_shape w w' m ms out host (Judged (Err f)) after asks (told, same) = inl (answered_as w w' m ms out host _ w.host.device after refl (inr refl) told same)
ask_shape w w' m ms out host (Judged (Ok c)) after asks does = command_shape w w' m ms out host c (must_wait w.host.device c) after asks refl does

execute_by : (w w' : WorldState) (requests : List Posting) → w.requests ≡ requests → DoesExecute requests w w' → IsExecuted w w'
execute_by w w' [] is does = absurd does
execute_by w w' (m ∷ ms) is (out, host, does, after) = record {
  posting = m;
  rest = ms;
  out = out;
  host = host;
  first = is;
  does = does;
  after = after;
  shape = ask_shape w w' m ms out host m.request.asks after refl does;
}

pub is_executed : (w w' : WorldState) → Steps w Execute w' → IsExecuted w w'
is_executed w w' (may, does) = execute_by w w' w.requests refl does

-- ---- Resume

pub record IsResumed (w : WorldState) (session : ℕ) (w' : WorldState) : Type 0 where
  pub call : WaitingCall
  pub command : Command
  pub answer : Answer
  pub there : Contains w.host.calls call
  pub named : call.session ≡ session
  pub finds : find (λ (y : WaitingCall). eqb y.session call.session) w.host.calls ≡ Some call
  pub asks : call.posting.request.asks ≡ Judged (Ok command)
  pub does : Performs w.host.device command call.posting.behind call.posting.held answer
  pub after : w' ≡ record w {
    host = record { device = answer.device; calls = taken_out (λ (y : WaitingCall). y.session) call.session w.host.calls };
    replies = w.replies ++ told_by call.posting answer ∷ [];
  }

resume_by : (w : WorldState) (session : ℕ) (o : Option WaitingCall) (r : Returning) (host : Part) → call_for session w.host.calls ≡ o → ResumedCall o w.host r host →
    IsResumed w session (after_device w host (Some r))
resume_by w session None r host finds does = absurd does
resume_by w session (Some call) r host finds (c, d, asks, (a, performs, told, device), after) =
    let there : _ = find_in (λ (y : WaitingCall). eqb y.session session) w.host.calls call finds in
    let same : call.session ≡ session = eqb-true call.session session there.1 in
    record {
      call = call;
      command = c;
      answer = a;
      there = there.0;
      named = same;
      finds = subst (λ i. find (λ (y : WaitingCall). eqb y.session i) w.host.calls ≡ Some call) (sym same) finds;
      asks = asks;
      does = performs;
      after = (λ j. record w { host = after j; replies = w.replies ++ r ∷ [] })
          ∙ (λ j. record w { host = record { device = device j; calls = taken_out (λ (y : WaitingCall). y.session) call.session w.host.calls }; replies = w.replies ++ told j ∷ [] });
    }

pub is_resumed : (w w' : WorldState) (session : ℕ) → Steps w (Resume session) w' → IsResumed w session w'
is_resumed w w' session (may, (r, host, (rest, does), after)) =
    subst (IsResumed w session) (sym after) (resume_by w session (call_for session w.host.calls) r host refl does)

-- ---- Begin, Finish and Announce

pub record IsJobBegun (w : WorldState) (session : ℕ) (w' : WorldState) : Type 0 where
  pub state : SessionState
  pub entry : JobOut
  pub is : session_of w.host.device session ≡ Some state
  pub after : w' ≡ with_device w (with_job w.host.device session state entry)

pub is_job_begun : (w w' : WorldState) (session : ℕ) → Steps w (Begin session) w' → IsJobBegun w session w'
is_job_begun w w' session (may, (job, d, begins, after)) = record {
  state = begins.1.0;
  entry = begins.1.1;
  is = begins.1.2;
  after = after ∙ ap (with_device w) begins.1.5;
}

pub record IsFinished (w w' : WorldState) : Type 0 where
  pub session : ℕ
  pub state : SessionState
  pub done : DoneParts
  pub is : session_of w.host.device session ≡ Some state
  pub after : w' ≡ with_device w (with_done w.host.device session state done)

pub is_finished : (w w' : WorldState) (number : ℕ) → Steps w (Finish number) w' → IsFinished w w'
is_finished w w' number (may, (done, (e, d, out, comes, finishes, after))) = record {
  session = done.job.spec.session;
  state = finishes.0;
  done = done;
  is = finishes.2;
  after = after ∙ ap (with_device w) finishes.3;
}

pub record IsAnnounced (w w' : WorldState) : Type 0 where
  pub delivery : Delivery
  pub state : SessionState
  pub ids : List ℕ
  pub is : session_of w.host.device delivery.session ≡ Some state
  pub told : Some (delivery.msg, delivery.held) ≡ oldest state
  pub free : 1 ≤ w.chains
  pub after : w' ≡ record w {
    host = record { device = with_sent w.host.device delivery.session state ids; calls = w.host.calls };
    chains = w.chains - 1;
    events = w.events ++ delivery ∷ [];
  }

announce_by : (w w' : WorldState) (ids : List ℕ) (d : Delivery) (host : Part) → 1 ≤ w.chains → w.host.device.unsent ≡ ids → AnnouncedTo ids w.host d host →
    w' ≡ record w { host = host; chains = w.chains - 1; events = w.events ++ d ∷ [] } → IsAnnounced w w'
announce_by w w' [] d host free is does after = absurd does
announce_by w w' (k ∷ ids) d host free is (named, sends, calls) after =
    let by : Sends w.host.device (k ∷ ids) (Some (d.msg, d.held)) host.device = subst (λ l. Sends w.host.device l (Some (d.msg, d.held)) host.device) is sends in
    record {
      delivery = d;
      state = by.0;
      ids = ids;
      is = ap (session_of w.host.device) named ∙ by.1;
      told = by.3;
      free = free;
      after = after ∙ (λ j. record w { host = record { device = (by.4 ∙ ap (λ i. with_sent w.host.device i by.0 ids) (sym named)) j; calls = calls j }; chains = w.chains - 1; events = w.events ++ d ∷ [] });
    }

pub is_announced : (w w' : WorldState) → Steps w Announce w' → IsAnnounced w w'
is_announced w w' (may, (d, host, does, after)) =
    let free = (and_parts (is_some_of w.host.device.unsent) (nat_lt 0 w.chains) may).1 in
    announce_by w w' w.host.device.unsent d host (grind (arith, nat_tests, free)) refl does after

-- ---- what was held back is delivered

-- the process stays as it was but for its handles
pub record StaysBut (p q : ProcessState) : Type 0 where
  pub statements : q.statements ≡ p.statements
  pub answered : q.answered ≡ p.answered
  pub status : q.status ≡ p.status
  pub raws : q.raws ≡ p.raws

told_but : (p : ProcessState) (h : ℕ) (d : Delivery) → is_blocked p.status ≡ false → StaysBut p (told p h d)
told_but p h d awake =
    let q : ProcessState = with_handle p h (delivered (handle_at p h) d.msg d.held) in
    let answered : Bool = is_answered_in q.handles (current_call q) in
    let same : woken q ≡ q = cond-false (is_blocked q.status && answered) (rested q) q (and_left (is_blocked q.status) answered awake) in
    subst (StaysBut p) (sym same) (record { statements = refl; answered = refl; status = refl; raws = refl })

but_itself : (p : ProcessState) → StaysBut p p
but_itself p = record { statements = refl; answered = refl; status = refl; raws = refl }

told_at_but : (ps : List ProcessState) (seat : Seat) (d : Delivery) → is_blocked (process_in ps seat.process).status ≡ false → StaysBut (process_in ps seat.process) (process_in (told_at ps seat d) seat.process)
told_at_but ps seat d awake = elim (cases_lt seat.process (length ps)) [
  | inl within ↦ subst (StaysBut (process_in ps seat.process)) (sym (get_or-set_same ps seat.process _ no_process within)) (told_but (process_in ps seat.process) seat.handle d awake)
  | inr past ↦ subst (λ qs. StaysBut (process_in ps seat.process) (process_in qs seat.process)) (sym (set_past ps seat.process _ past)) (but_itself (process_in ps seat.process))
]

all_told_but : (ds : List Delivery) (ps : List ProcessState) (seat : Seat) → is_blocked (process_in ps seat.process).status ≡ false → StaysBut (process_in ps seat.process) (process_in (all_told ps seat ds) seat.process)
all_told_but [] ps seat awake = but_itself (process_in ps seat.process)
all_told_but (d ∷ ds) ps seat awake =
    let first : StaysBut (process_in ps seat.process) (process_in (told_at ps seat d) seat.process) = told_at_but ps seat d awake in
    let rest : StaysBut (process_in (told_at ps seat d) seat.process) (process_in (all_told (told_at ps seat d) seat ds) seat.process) = all_told_but ds (told_at ps seat d) seat (ap is_blocked first.status ∙ awake) in
    record {
      statements = rest.statements ∙ first.statements;
      answered = rest.answered ∙ first.answered;
      status = rest.status ∙ first.status;
      raws = rest.raws ∙ first.raws;
    }

all_told_other : (ds : List Delivery) (ps : List ProcessState) (seat : Seat) (m : ℕ) → ¬ (m ≡ seat.process) → process_in (all_told ps seat ds) m ≡ process_in ps m
all_told_other [] ps seat m other = refl
all_told_other (d ∷ ds) ps seat m other = all_told_other ds (told_at ps seat d) seat m other ∙ get_or-set_other ps seat.process m _ no_process other

all_told_long : (ds : List Delivery) (ps : List ProcessState) (seat : Seat) → length (all_told ps seat ds) ≡ length ps
all_told_long [] ps seat = refl
all_told_long (d ∷ ds) ps seat = all_told_long ds (told_at ps seat d) seat ∙ length-set ps seat.process _

-- what the driver is once a reply was logged, and what was held back was delivered
pub record IsSettled (g : GuestState) (n : ℕ) (g' : GuestState) : Type 0 where
  pub own : StaysBut (process_at g n) (process_at g' n)
  pub others : (m : ℕ) → ¬ (m ≡ n) → process_at g' m ≡ process_at g m
  pub count : length g'.processes ≡ length g.processes
  pub room : g'.pump.room ≡ g.pump.room

settled_by : (o : Option ℕ) (g : GuestState) (n h : ℕ) → is_blocked (process_at g n).status ≡ false → IsSettled g n (caught_up o g (record { process = n; handle = h }))
settled_by None g n h awake = record { own = but_itself (process_at g n); others = λ m other. refl; count = refl; room = refl }
settled_by (Some k) g n h awake =
    let seat : Seat = record { process = n; handle = h } in
    record {
      own = all_told_but (events_of k g.pump.held) g.processes seat awake;
      others = λ m other. all_told_other (events_of k g.pump.held) g.processes seat m other;
      count = all_told_long (events_of k g.pump.held) g.processes seat;
      room = refl;
    }

pub is_settled : (what : LineKind) (g : GuestState) (n : ℕ) → is_blocked (process_at g n).status ≡ false → IsSettled g n (settled what g n)
is_settled (OnHandle h call) g n awake = settled_by (handle_at (process_at g n) h).session g n h awake
is_settled (Raw chain) g n awake = record { own = but_itself (process_at g n); others = λ m other. refl; count = refl; room = refl }

-- a line that is answered leaves the process at rest
answered_rest : (line : ℕ) (what : LineKind) (p p' : ProcessState) (r : Returning) → AnsweredFor line what p r p' → p'.status ≡ AtRest
answered_rest line (OnHandle h call) p p' r answers =
    let may = answers.may.may in
    ap (λ (q : ProcessState). q.status) (answers.after may.reply (may.next, may.session, (may.is_call, may.told)))
answered_rest line (Raw chain) p p' r (errno, told, after) = ap (λ (q : ProcessState). q.status) after

-- what the driver is once a reply was collected
pub record HasCollected (w : WorldState) (n : ℕ) (p : ProcessState) (g : GuestState) : Type 0 where
  pub own : StaysBut p (process_at g n)
  pub rest : (process_at g n).status ≡ AtRest
  pub others : (m : ℕ) → ¬ (m ≡ n) → process_at g m ≡ process_at w.guest m
  pub count : length g.processes ≡ length w.guest.processes
  pub room : g.pump.room ≡ w.guest.pump.room

pub has_collected : (w w' : WorldState) (c : IsCollected w w') → HasCollected w c.told.reply.who c.process (settled c.statement.what (with_process w.guest c.told.reply.who c.process) c.told.reply.who)
has_collected w w' c =
    let n : ℕ = c.told.reply.who in
    let g : GuestState = with_process w.guest n c.process in
    let now : process_at g n ≡ c.process = get_or-set_same w.guest.processes n c.process no_process c.within in
    let rest : c.process.status ≡ AtRest = answered_rest c.statement.line c.statement.what (process_at w.guest n) c.process c.told c.answers in
    let is : IsSettled g n (settled c.statement.what g n) = is_settled c.statement.what g n (ap (λ (q : ProcessState). is_blocked q.status) now ∙ ap is_blocked rest) in
    record {
      own = subst (λ q. StaysBut q (process_at (settled c.statement.what g n) n)) now is.own;
      rest = is.own.status ∙ (ap (λ (q : ProcessState). q.status) now ∙ rest);
      others = λ m other. is.others m other ∙ get_or-set_other w.guest.processes n m c.process no_process other;
      count = is.count ∙ length-set w.guest.processes n c.process;
      room = is.room;
    }
