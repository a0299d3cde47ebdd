-- One session of the device, the handle that it stands for, and what is under way between them.
use Rattle.std.specs.Prelude.{ℕ, ◌≡◌, ◌||◌, Bool, true, false, IsTrue, List, [], ◌∷◌, ◌++◌, All, Option, Some, None, Result, Ok, Err, map}
use Rattle.v4l_const.specs.declared.errno.Errno.{Errno}
use Rattle.v4l_const.specs.Errno.{errno_number}
use Rattle.v4l_const.specs.declared.ioctl_code.IoctlCode.{IoctlCode}
use Rattle.vm_wire.specs.declared.command.Command.TheVariants.{Ioctl}
use Rattle.vm_wire.specs.declared.response.Response.TheVariants.{Refused as Denied, Answered}
use Rattle.v4l_rules.specs.Refusals.{first_refusal}
use Rattle.vm_frame.specs.declared.mem.Held.{Held}
use Rattle.vm_job.specs.Job.{JobParts, DoneParts, CameBack, HasPicture}
use Rattle.vm_local.specs.declared.call.Call.{Call}
use Rattle.vm_local.specs.declared.call.Call.TheVariants.{CloseHandle}
use Rattle.vm_local.specs.declared.entry.Entry.{Entry}
use Rattle.vm_local.specs.declared.entry.Entry.TheVariants.{Called}
use Rattle.vm_local.specs.declared.reply.Reply.{Reply}
use Rattle.vm_local.specs.declared.reply.Reply.TheVariants.{Refused, Done}
use Rattle.vm_local.specs.State.{LocalState, queue_of}
use Rattle.vm_local.specs.Calls.{row_of, opened_anew, closed}
use Rattle.vm_local.specs.Log.{IsCall, after, replay_from}
use Rattle.vm_commute.specs.Commute.{may_cross, may_go_first, is_stopping, SameButFlags}
use Rattle.vm_home.specs.Moves.{ComeBack}
use Rattle.vm_home.specs.Reached.{IsReached}
use Rattle.vm_exchange.specs.declared.user_place.UserPlace.{UserPlace}
use Rattle.vm_exchange.specs.declared.way.Way.TheVariants.{Crosses}
use Rattle.vm_exchange.specs.Exchange.{memory_number, way_of, response_to}
use Rattle.vm_exchange.specs.Range.{AreWords}
use Rattle.vm_session.specs.Buffers.{queued_memories, memory_kind as held_kind}
use Rattle.vm_session.specs.Rows.{IoctlAnswer, ioctl_row, ioctl_outcome, Comes}
use Rattle.vm_session.specs.declared.running.Running.{Running}
use Rattle.vm_session.specs.declared.unsent.Unsent.{Unsent}
use Rattle.vm_session.specs.State.{SessionState, opening_session, is_quiet}
use Rattle.vm_session.specs.Sound.{IsSound}
use Rattle.vm_session.specs.Streaming.{can_begin, next_job, begun, finished, sent}
use Rattle.vm_stands.specs.Stands.{Stands, IsNextIf}
use Rattle.vm_exchange.specs.Messages.{steps_of}
use Rattle.vm_stands.specs.Flight.{stops_queues, ahead_of, LeadAll}
use Rattle.vm_stands.specs.Ahead.{StopsNone, MayDeliver}
use Rattle.vm_stands.specs.Laws.{frames_by, names_alone, Along, is_subscription}

-- From the driver's state r the messages that are under way lead to the state ahead, with the call
-- that was executed and isn't collected: it comes first, or last where it is a stopping one.
abbrev pub LeadWith : Bool → ℕ → LocalState → Entry → List Unsent → LocalState → Type 0
LeadWith true id r e es s = (u : LocalState) × LeadAll id r es u × (after u e ≡ Some s)
LeadWith false id r e es s = (u : LocalState) × (after r e ≡ Some u) × LeadAll id u es s

abbrev pub LeadAhead : ℕ → LocalState → Option Entry → List Unsent → LocalState → Type 0
LeadAhead id r None es s = LeadAll id r es s
LeadAhead id r (Some e) es s = LeadWith (stops_queues e) id r e es s

-- The driver's state is r, and s is the state ahead, which the session stands for. The messages
-- that are under way are the earlier ones, which were sent and aren't delivered, and the session's
-- unsent ones. The job that runs is the frame that is possible in the state ahead, in which nothing
-- is owed.
pub record IsSlice (frames : List ℕ) (session : SessionState) (job : Option JobParts)
    (earlier : List Unsent) (executed : Option Entry)
    (r s : LocalState) : Type 0 where
  pub reached : IsReached r
  pub leads : LeadAhead session.id r executed (earlier ++ session.unsent) s
  pub stands : Stands frames session s
  pub sound : IsSound session
  pub owed : s.owed ≡ []
  pub next : IsNextIf s job

-- a session goes on being sound under its number, and sends nothing
pub record GoesOn (session next : SessionState) : Type 0 where
  pub id : next.id ≡ session.id
  pub unsent : next.unsent ≡ session.unsent
  pub sound : IsSound next

-- ---- the laws

-- the state ahead is that of the messages that are under way
abbrev pub SliceIsAhead : Type 0
SliceIsAhead =
    (frames : List ℕ) (session : SessionState) (job : Option JobParts) (earlier : List Unsent)
    (executed : Option Entry) (r s : LocalState) →
    IsSlice frames session job earlier executed r s →
    ahead_of r executed (map (λ e. e.msg) (earlier ++ session.unsent)) ≡ Some s

-- it begins with a session that was opened
abbrev pub SliceOpens : Type 0
SliceOpens =
    (id : ℕ) (s : LocalState) (nonblock : Bool) →
    IsReached (opened_anew s nonblock) → IsSound (opening_session s.model id) →
    IsSlice [] (opening_session s.model id) None [] None (opened_anew s nonblock)
    (opened_anew s nonblock)

-- the session's first unsent message is sent
abbrev pub SliceSends : Type 0
SliceSends =
    (frames : List ℕ) (session : SessionState) (job : Option JobParts) (earlier : List Unsent)
    (executed : Option Entry) (r s : LocalState)
    (e : Unsent) (es : List Unsent) →
    IsSlice frames session job earlier executed r s → session.unsent ≡ e ∷ es →
    IsSound (sent session) →
    IsSlice frames (sent session) job (earlier ++ e ∷ []) executed r s

-- the first message that was sent is delivered, and its steps are logged
abbrev pub SliceDelivers : Type 0
SliceDelivers =
    (frames : List ℕ) (session : SessionState) (job : Option JobParts) (e : Unsent)
    (earlier : List Unsent) (executed : Option Entry) (r s : LocalState) →
    IsSlice frames session job (e ∷ earlier) executed r s → MayDeliver executed →
    (u : LocalState) × (replay_from r (steps_of r.model e.msg) ≡ Some u)
    × IsSlice frames session job earlier executed u s

-- a call is executed that stops no queue
abbrev pub SliceExecutes : Type 0
SliceExecutes =
    (frames more : List ℕ) (session served : SessionState) (job : Option JobParts)
    (earlier : List Unsent) (line : ℕ) (call : Call) (reply : Reply)
    (r s t : LocalState) →
    IsSlice frames session job earlier None r s → may_go_first call reply ≡ true →
    is_stopping call ≡ false → IsCall s line call reply t →
    Stands more served t → GoesOn session served →
    (first_reply : Reply) × (ahead : LocalState) × SameButFlags first_reply reply
    × IsSlice more served job earlier (Some (Called line call first_reply)) r ahead

-- it is collected, and logged
abbrev pub SliceCollects : Type 0
SliceCollects =
    (frames : List ℕ) (session : SessionState) (job : Option JobParts) (earlier : List Unsent)
    (line : ℕ) (call : Call) (reply : Reply) (r s : LocalState) →
    IsSlice frames session job earlier (Some (Called line call reply)) r s →
    is_stopping call ≡ false →
    (u : LocalState) × IsCall r line call reply u × IsSlice frames session job earlier None u s

-- a stopping call is executed, while no job runs
abbrev pub SliceStops : Type 0
SliceStops =
    (frames more : List ℕ) (session served : SessionState) (earlier : List Unsent) (line : ℕ)
    (call : Call) (reply : Reply) (r s t : LocalState) →
    IsSlice frames session None earlier None r s → is_stopping call ≡ true →
    IsCall s line call reply t →
    Stands more served t → GoesOn session served →
    IsSlice more served None earlier (Some (Called line call reply)) r t

-- a stopping call is refused, while a job may run
abbrev pub SliceRefuses : Type 0
SliceRefuses =
    (frames : List ℕ) (session : SessionState) (job : Option JobParts) (earlier : List Unsent)
    (line : ℕ) (call : Call) (errno : Errno) (r s : LocalState) →
    IsSlice frames session job earlier None r s → is_stopping call ≡ true →
    IsCall s line call (Refused errno) s →
    IsSlice frames session job earlier (Some (Called line call (Refused errno))) r s

-- it is collected
abbrev pub SliceCollectsRefused : Type 0
SliceCollectsRefused =
    (frames : List ℕ) (session : SessionState) (job : Option JobParts) (earlier : List Unsent)
    (line : ℕ) (call : Call) (errno : Errno) (r s : LocalState) →
    IsSlice frames session job earlier (Some (Called line call (Refused errno))) r s →
    is_stopping call ≡ true →
    IsCall r line call (Refused errno) r × IsSlice frames session job earlier None r s

-- a stopping call that was done is collected, when no message is under way
abbrev pub SliceCollectsStopped : Type 0
SliceCollectsStopped =
    (frames : List ℕ) (session : SessionState) (job : Option JobParts) (line : ℕ) (call : Call)
    (reply : Reply) (r s : LocalState) →
    IsSlice frames session job [] (Some (Called line call reply)) r s → is_stopping call ≡ true →
    session.unsent ≡ [] →
    IsCall r line call reply s × IsSlice frames session job [] None s s

-- the session begins a job
abbrev pub SliceBegins : Type 0
SliceBegins =
    (frames : List ℕ) (session : SessionState) (job : Option JobParts) (earlier : List Unsent)
    (executed : Option Entry) (r s : LocalState) (number : ℕ) →
    IsSlice frames session job earlier executed r s → can_begin session ≡ true →
    IsSound (begun session number) →
    (new : JobParts) × (next_job session number ≡ Some new)
    × IsSlice frames (begun session number) (Some new) earlier executed r s

-- the job is done, and its messages are unsent
abbrev pub SliceFinishes : Type 0
SliceFinishes =
    (frames : List ℕ) (session : SessionState) (running : Running) (job : JobParts)
    (done : DoneParts) (earlier : List Unsent) (executed : Option Entry)
    (r s : LocalState) →
    IsSlice frames session (Some job) earlier executed r s → StopsNone executed →
    session.running ≡ Some running →
    CameBack job done → (IsTrue done.good → HasPicture done.job) → IsSound (finished session done) →
    (t : LocalState) × IsSlice frames (finished session done) None earlier executed r t

-- so it is behind a stopping call that was refused
abbrev pub SliceFinishesRefused : Type 0
SliceFinishesRefused =
    (frames : List ℕ) (session : SessionState) (running : Running) (job : JobParts)
    (done : DoneParts) (earlier : List Unsent)
    (line : ℕ) (call : Call) (errno : Errno) (r s : LocalState) →
    IsSlice frames session (Some job) earlier (Some (Called line call (Refused errno))) r s →
    is_stopping call ≡ true → session.running ≡ Some running →
    CameBack job done → (IsTrue done.good → HasPicture done.job) → IsSound (finished session done) →
    (t : LocalState)
    × IsSlice frames (finished session done) None earlier
    (Some (Called line call (Refused errno))) r t

-- the driver makes a call that never crosses
abbrev pub SliceHasOwnCalls : Type 0
SliceHasOwnCalls =
    (frames : List ℕ) (session : SessionState) (job : Option JobParts) (earlier : List Unsent)
    (line : ℕ) (call : Call) (reply : Reply) (r s u : LocalState) →
    IsSlice frames session job earlier None r s → may_cross call ≡ false →
    IsCall r line call reply u →
    (t : LocalState) × IsSlice frames session job earlier None u t

-- ---- what crosses while messages are under way

-- a call that may cross is begun from the state ahead as it is from the driver's state
abbrev pub WaysStay : Type 0
WaysStay =
    (id : ℕ) (r s : LocalState) (call : Call) (es : List Unsent) →
    IsReached r → LeadAll id r es s → may_cross call ≡ true → way_of id s call ≡ way_of id r call

-- and its reply crosses back alike
abbrev pub ResponsesStay : Type 0
ResponsesStay =
    (id : ℕ) (r s : LocalState) (call : Call) (first_reply reply : Reply) (es : List Unsent) →
    IsReached r → LeadAll id r es s → SameButFlags first_reply reply →
    response_to id s call reply ≡ response_to id r call first_reply

-- the memory that goes along with a call is still as it was
abbrev pub AlongStays : Type 0
AlongStays =
    (id : ℕ) (r s : LocalState) (call : Call) (held : List Held) (es : List Unsent) →
    IsReached r → LeadAll id r es s → first_refusal (row_of r 0 0 call).refusals ≡ None →
    Along r call held → Along s call held

-- ---- a call that crosses

-- A call that was executed is to be collected: what crosses back is what its reply crosses back as,
-- and the slice goes on.
abbrev pub Goes : List ℕ → SessionState → Option JobParts → List Unsent → ℕ → Call → LocalState →
    LocalState → Result IoctlAnswer Errno → Type 0
Goes frames session job earlier line call r s (Err errno) =
    (reply : Reply) × (ahead : LocalState)
    × (response_to session.id r call reply ≡ Denied (errno_number errno))
    × IsSlice frames session job earlier (Some (Called line call reply)) r ahead
Goes frames session job earlier line call r s (Ok a) =
    (reply : Reply) × (ahead : LocalState)
    × (response_to session.id r call reply ≡ Answered a.payload)
    × IsSlice (frames ++ frames_by s call) a.next job earlier
    (Some (Called line call reply)) r ahead

-- The driver begins a call that stops no queue, from its own state, and the session executes the
-- ioctl with which the call crosses.
abbrev pub SliceAnswers : Type 0
SliceAnswers =
    (frames : List ℕ) (session : SessionState) (job : Option JobParts) (earlier : List Unsent)
    (line : ℕ) (call : Call) (memory : Bool)
    (held : List Held) (code : IoctlCode) (payload : List ℕ) (user : Option UserPlace)
    (r s : LocalState) →
    IsSlice frames session job earlier None r s → may_cross call ≡ true → is_stopping call ≡ false →
    AreWords call → Along r call held →
    way_of session.id r call
    ≡ Crosses (record { command = Ioctl session.id code payload; user = user }) →
    ((a : IoctlAnswer) → ioctl_outcome memory session code payload held ≡ Ok a → IsSound a.next) →
    Goes frames session job earlier line call r s (ioctl_outcome memory session code payload held)

-- Names and subscription are nothing to a session: where such a call is done in the state ahead,
-- the slice goes on.
abbrev pub is_apart : Call → Bool
is_apart call = names_alone call || is_subscription call

abbrev pub SliceStaysApart : Type 0
SliceStaysApart =
    (frames : List ℕ) (session : SessionState) (job : Option JobParts) (earlier : List Unsent)
    (line : ℕ) (call : Call) (reply : Reply) (r s t : LocalState) →
    IsSlice frames session job earlier None r s → is_apart call ≡ true →
    IsCall s line call reply t →
    (first_reply : Reply) × (ahead : LocalState)
    × (response_to session.id s call reply ≡ response_to session.id r call first_reply)
    × IsSlice frames session job earlier (Some (Called line call first_reply)) r ahead

-- A stopping call that isn't refused at once is executed when the session is quiet: what crosses
-- back is what its reply crosses back as, and the memories that come back are the call's.
abbrev pub Stops : List ℕ → SessionState → List Unsent → ℕ → Call → LocalState → LocalState →
    Result IoctlAnswer Errno → Type 0
Stops frames session earlier line call r s (Err errno) =
    IsSlice frames session None earlier (Some (Called line call (Refused errno))) r s
Stops frames session earlier line call r s (Ok a) =
    (reply : Reply) × (t : LocalState) × (response_to session.id s call reply ≡ Answered a.payload)
    × ComeBack s t call a.back
    × IsSlice (frames ++ frames_by s call) a.next None earlier (Some (Called line call reply)) r t

abbrev pub SliceStopsFor : Type 0
SliceStopsFor =
    (frames : List ℕ) (session : SessionState) (earlier : List Unsent) (line : ℕ) (call : Call)
    (memory : Bool)
    (code : IoctlCode) (payload : List ℕ) (user : Option UserPlace) (r s : LocalState) →
    IsSlice frames session None earlier None r s → is_stopping call ≡ true →
    is_quiet session ≡ true → AreWords call →
    way_of session.id r call
    ≡ Crosses (record { command = Ioctl session.id code payload; user = user }) →
    ((a : IoctlAnswer) → ioctl_outcome memory session code payload [] ≡ Ok a → IsSound a.next) →
    Stops frames session earlier line call r s (ioctl_outcome memory session code payload [])

-- A stopping call that the session refuses at once, while a job may run, is refused.
abbrev pub SliceRefusesFor : Type 0
SliceRefusesFor =
    (frames : List ℕ) (session : SessionState) (job : Option JobParts) (earlier : List Unsent)
    (line : ℕ) (call : Call)
    (code : IoctlCode) (payload : List ℕ) (user : Option UserPlace) (errno : Errno)
    (r s : LocalState) →
    IsSlice frames session job earlier None r s → is_stopping call ≡ true → AreWords call →
    way_of session.id r call
    ≡ Crosses (record { command = Ioctl session.id code payload; user = user }) →
    first_refusal (ioctl_row session code payload []).refusals ≡ Some errno →
    IsSlice frames session job earlier (Some (Called line call (Refused errno))) r s

-- With each ioctl come the memories that it tells of, where that of a qbuf is of its queue's kind.
abbrev pub SliceComes : Type 0
SliceComes =
    (frames : List ℕ) (session : SessionState) (job : Option JobParts) (earlier : List Unsent)
    (call : Call) (held : List Held)
    (code : IoctlCode) (payload : List ℕ) (user : Option UserPlace) (r s : LocalState) →
    IsSlice frames session job earlier None r s → may_cross call ≡ true → Along r call held →
    All (λ h. held_kind h.mem ≡ memory_number (queue_of r h.queue).memory) held →
    way_of session.id r call
    ≡ Crosses (record { command = Ioctl session.id code payload; user = user }) →
    Comes session code payload held

-- A quiet session is closed: the handle is closed in the state ahead, and what the session holds
-- comes back.
abbrev pub SliceCloses : Type 0
SliceCloses =
    (frames : List ℕ) (session : SessionState) (job : Option JobParts) (earlier : List Unsent)
    (line : ℕ) (r s : LocalState) →
    IsSlice frames session job earlier None r s → is_quiet session ≡ true →
    IsCall s line CloseHandle Done (closed s)
    × ComeBack s (closed s) CloseHandle (queued_memories session.queues)
    × LeadAhead session.id r (Some (Called line CloseHandle Done)) (earlier ++ session.unsent)
    (closed s)
