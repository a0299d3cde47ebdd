-- What holds of the world between steps. It is said of slices, one for each handle, and of a few
-- things that are about several handles.
use Rattle.std.specs.Prelude.{ℕ, ◌≡◌, ◌≢◌, ◌≤◌, ◌<◌, ◌+◌, ◌*◌, Bool, true, false, List, [], ◌∷◌, ◌++◌, All, Option, Some, None, IfSome, IsSome, Ok, length, slice_get, slice_index_or, if◌then◌else◌, ◌^◌, Contains}
use Rattle.std.specs.Option.{option_map, option_to_list}
use Rattle.v4l_const.specs.Errno.{errno_number}
use Rattle.v4l_const.specs.declared.errno.Errno.{Errno}
use Rattle.v4l_const.specs.declared.errno.Errno.TheVariants.{Eio}
use Rattle.v4l_const.specs.declared.model.Model.{Model}
use Rattle.v4l_const.specs.Model.{picture_queue}
use Rattle.vm_frame.specs.declared.mem.Held.{Held}
use Rattle.vm_job.specs.declared.spec.JobSpec.{JobSpec}
use Rattle.vm_wire.specs.Wire.{response_bytes}
use Rattle.vm_wire.specs.Message.Ask.{Judged}
use Rattle.vm_wire.specs.declared.command.Command.{Command}
use Rattle.vm_wire.specs.declared.command.Command.TheVariants.{OpenSession, CloseSession, Ioctl, Map as MapFrame, Unmap}
use Rattle.vm_wire.specs.declared.delivery.Delivery.{Delivery}
use Rattle.vm_wire.specs.declared.event.EventMsg.{EventMsg}
use Rattle.vm_wire.specs.declared.event.EventMsg.TheVariants.{Dequeued, Happened}
use Rattle.vm_wire.specs.declared.response.Response.TheVariants.{Refused as Denied, Opened}
use Rattle.vm_local.specs.declared.call.Call.{Call}
use Rattle.vm_local.specs.declared.entry.Entry.{Entry}
use Rattle.vm_local.specs.declared.entry.Entry.TheVariants.{Called, Finish, Bad, Give}
use Rattle.vm_local.specs.declared.reply.Reply.{Reply}
use Rattle.vm_local.specs.Same.{address_in}
use Rattle.vm_local.specs.State.{LocalState}
use Rattle.vm_local.specs.Log.{IsCall}
use Rattle.vm_home.specs.Moves.{ComeWith, is_refusal, is_stopping, stops}
use Rattle.vm_home.specs.Reached.{IsReached}
use Rattle.vm_log.specs.LegalLog.{IsSound as IsSoundLog}
use Rattle.vm_exchange.specs.Exchange.{response_to}
use Rattle.vm_exchange.specs.Range.{AreWords}
use Rattle.vm_exchange.specs.declared.crossing.Crossing.{Crossing}
use Rattle.vm_handle.specs.Handle.{HandleState, Keeps, crossing_from}
use Rattle.vm_handle.specs.declared.stage.Stage.TheVariants.{Underway}
use Rattle.vm_pump.specs.Pump.{handle_room}
use Rattle.vm_session.specs.State.{SessionState}
use Rattle.vm_session.specs.Sound.{IsSound as IsSoundSession}
use Rattle.vm_stands.specs.Flight.{LeadAll}
use Rattle.vm_stands.specs.Laws.{Along}
use Rattle.vm_stands.specs.Slice.{IsSlice, LeadAhead}
use Rattle.vm_device.specs.Device.{session_of, DeviceState}
use Rattle.vm_device.specs.Keeps.{IsSound as IsSoundDevice}
use Rattle.vm_host.specs.Part.{Call as WaitingCall}
use Rattle.vm_guest.specs.Chain.{event_chains}
use Rattle.vm_guest.specs.Guest.{process_at, raw_answer, handle_seated, handle_named, seat_of}
use Rattle.vm_wire.specs.Message.{Posting, Returning}
use Rattle.vm_guest.specs.Message.{OfCall, OfRaw, posting_of}
use Rattle.vm_guest.specs.Orderly.{IsDriver, IsFitScript}
use Rattle.vm_guest.specs.Process.{ProcessState, crossing, is_crossing, handle_at}
use Rattle.vm_guest.specs.Raw.{raw_ask, raw_errno}
use Rattle.vm_guest.specs.declared.asked.Statement.{Statement}
use Rattle.vm_guest.specs.declared.seat.Seat.{Seat}
use Rattle.vm_region.specs.Region.{IsSoundJournal, AreApart}
use Rattle.vm_script.specs.Script.{ScriptLines}
use Rattle.vm_script.specs.declared.line.LineKind.{LineKind}
use Rattle.vm_script.specs.declared.line.LineKind.TheVariants.{OnHandle, Raw}
use Rattle.vm_script.specs.declared.line.RawChain.{RawChain}
use Rattle.vm_realm.specs.World.{WorldState, statement_count, handle_count}
use Rattle.vm_realm.specs.Left.{left_of}
use Rattle.vm_realm.specs.Mapped.{Share, mappings_of, IsJournalOf, AreLive, AreLow}
use Rattle.vm_realm.specs.Inner.{Inner, inner_of, driver_state, id_in, under_way, unsent_in}
use Rattle.vm_realm.specs.Slice.{Slice, Out, slice_at, out_of, out_at, id_ahead, earlier_of, requests_of, calls_of, replies_of}
use Rattle.vm_realm.specs.Slice.Out.{Nowhere, Asked, Kept, Told, Astray}
use Rattle.vm_realm.specs.SliceSteps.{holds_back, IsFirst}
use Rattle.vm_realm.specs.Users.{KeepsUsers}
use Rattle.vm_script.specs.Reading.{opens}
use Rattle.vm_script.specs.declared.line.Line.{Line}
use Rattle.vm_local.specs.declared.call.Call.TheVariants.{OpenHandle}

-- ---- scripts

-- a command that names a session that no script opens
abbrev pub NamesNone : Command → Type 0
NamesNone OpenSession = ⊥
NamesNone (CloseSession session) = 16384 ≤ session
NamesNone (Ioctl session code payload) = 16384 ≤ session
NamesNone (MapFrame session writable offset) = 16384 ≤ session
NamesNone (Unmap addr) = ⊥

-- what a raw line asks is refused, whatever was opened
abbrev pub IsRefused : RawChain → Type 0
IsRefused chain = (c : Command) → raw_ask chain ≡ Judged (Ok c) → NamesNone c

-- the numbers of a call go over the wire
abbrev pub CanRun : LineKind → Type 0
CanRun (OnHandle h call) = AreWords call
CanRun (Raw chain) = IsRefused chain

-- Behind lines that opened so many handles an open is of the next one, and any other call is on one
-- that is opened.
abbrev pub FitsOpened : ℕ → LineKind → Type 0
FitsOpened opened (OnHandle h (OpenHandle nonblock)) = h ≡ opened
FitsOpened opened (OnHandle h call) = h < opened
FitsOpened opened (Raw chain) = Unit {0}

-- The lines open the handles one after the other, each once, and before any other call on it; their
-- numbers go into four bytes.
abbrev pub OpenInOrder : ℕ → List Line → Type 0
OpenInOrder opened [] = Unit {0}
OpenInOrder opened (l ∷ ls) =
    FitsOpened opened l.what × (l.number < 2 ^ 32) × OpenInOrder (opened + opens l.what) ls

-- What the world needs of a script; each that a reader gives has it.
pub record IsRunnable (script : ScriptLines) : Type 0 where
  pub fit : IsFitScript script
  pub each : All (λ p. All (λ l. CanRun l.what) p.lines) script.processes
  pub opens : All (λ p. OpenInOrder 0 p.lines) script.processes

-- ---- a call that is out

-- the posting is that of the call that is underway, with the memory that goes along
pub record IsPosted (x : Slice) (m : Posting) : Type 0 where
  pub line : ℕ
  pub call : Call
  pub crossing : Crossing
  pub along : Option Held
  pub underway : x.handle.stage ≡ Underway line call
  pub crosses : crossing_from x.handle call ≡ Some crossing
  pub words : AreWords call
  pub first : IsFirst x.handle call
  pub says : m ≡ posting_of x.who (OfCall crossing along)
  pub memory : Along (driver_state x) call (option_to_list along)

-- It waits in the device: it is a stopping call in a live session, and nothing went along.
pub record IsKept (x : Slice) (m : Posting) : Type 0 where
  pub posted : IsPosted x m
  pub stops : is_stopping posted.call ≡ true
  pub live : IsSome x.session

-- the state before the call: a stopping one comes behind all messages that are under way
abbrev pub IsBefore : Bool → Slice → LocalState → Type 0
IsBefore true x before = LeadAll (id_in x) (driver_state x) (under_way x) before
IsBefore false x before = before ≡ driver_state x

-- The reply is that of the call that is underway, which was executed: its bytes are those of the
-- response, and its memories are the call's.
pub record IsTold (x : Slice) (v : Inner) (r : Returning) : Type 0 where
  pub line : ℕ
  pub call : Call
  pub reply : Reply
  pub next : LocalState
  pub underway : x.handle.stage ≡ Underway line call
  pub crosses : IsSome (crossing_from x.handle call)
  pub first : IsFirst x.handle call
  pub executed : v.executed ≡ Some (Called line call reply)
  pub before : IsBefore (is_stopping call) x v.before
  pub is_call : IsCall v.before line call reply next
  pub who : r.reply.who ≡ x.who
  pub bytes : r.reply.bytes ≡ response_bytes (response_to (id_in x) (driver_state x) call reply)
  -- an address that it brings goes over the wire
  pub address : address_in reply < 2 ^ 64
  -- and so does the id of a session that it opens
  pub small : (id : ℕ) → response_to (id_in x) (driver_state x) call reply ≡ Opened id →
      id < 2 ^ 32
  pub memories : ComeWith v.before next call reply r.held
  -- behind a stopping call that was done nothing is unsent, and no job runs
  pub quiet : is_stopping call ≡ true → is_refusal reply ≡ false →
      (unsent_in x.session ≡ []) × (x.job ≡ None)

-- nothing was executed that isn't collected
pub record NothingExecuted (x : Slice) (v : Inner) : Type 0 where
  pub executed : v.executed ≡ None
  pub before : v.before ≡ driver_state x

abbrev pub IsOut : Out → Slice → Inner → Type 0
IsOut Nowhere x v =
    NothingExecuted x v × ((line : ℕ) (call : Call) → x.handle.stage ≢ Underway line call)
IsOut (Asked m) x v = NothingExecuted x v × IsPosted x m
IsOut (Kept m) x v = NothingExecuted x v × IsKept x m
IsOut (Told r) x v = IsTold x v r
IsOut Astray x v = ⊥

-- ---- its session

-- No session is live: the handle is closed in the state ahead.
pub record IsShut (x : Slice) (v : Inner) : Type 0 where
  pub reached : IsReached (driver_state x)
  pub leads : LeadAhead (id_in x) (driver_state x) v.executed (earlier_of x) v.ahead
  pub shut : v.ahead.opened ≡ false
  pub owed : v.ahead.owed ≡ []
  pub none_runs : x.job ≡ None
  -- a session that was never there made no frame
  pub unmade : id_ahead x.handle x.out ≡ None → v.frames ≡ []

-- The session stands for the handle in the state ahead, and the job that is out is the frame that
-- is possible there, as it went out.
abbrev pub IsSeated : Option SessionState → Slice → Inner → Type 0
IsSeated None x v = IsShut x v
IsSeated (Some s) x v =
    IsSlice v.frames s x.job (earlier_of x) v.executed (driver_state x) v.ahead

-- ---- a stopping call that was logged last

abbrev pub last_call_from : Option Entry → List Entry → Option Entry
last_call_from last [] = last
last_call_from last (Called line call reply ∷ es) =
    last_call_from (Some (Called line call reply)) es
last_call_from last (Finish ∷ es) = last_call_from last es
last_call_from last (Bad ∷ es) = last_call_from last es
last_call_from last (Give ∷ es) = last_call_from last es

-- the queue that a message is of; an event is of the pictures'
abbrev pub queue_told : Model → EventMsg → ℕ
queue_told m (Dequeued session b) = b.kind
queue_told m (Happened session event) = picture_queue m

-- the queues that an entry stopped
abbrev pub stopped_by : LocalState → Option Entry → List ℕ
stopped_by s (Some (Called line call reply)) = if is_refusal reply then [] else stops s call
stopped_by s e = []

-- those that the last call of the log stopped
abbrev pub stopped_last : Slice → List ℕ
stopped_last x = stopped_by (driver_state x) (last_call_from None x.handle.log.entries)

-- no message that is under way is of one of these
abbrev pub IsStill : Slice → Type 0
IsStill x =
    All (λ e. ¬ Contains (stopped_last x) (queue_told x.handle.log.model e.msg)) (under_way x)

-- ---- a handle

-- events are held back only while a call is out that they come behind
abbrev pub HoldsFew : Bool → List Delivery → Type 0
HoldsFew true ds = Unit {0}
HoldsFew false ds = ds ≡ []

-- the job that is out is the one that runs in the session
abbrev pub spec_running : Option SessionState → Option JobSpec
spec_running None = None
spec_running (Some s) = option_map (λ r. r.spec) s.running

-- The slice is sound: the log is, with each memory at home in its place and the lease that is out
-- as it went out; the call that is out is where it is as it was begun; the session has the id that
-- the handle has for it, and stands for the state ahead; and the user's memories stay in their
-- pages.
pub record IsSoundSlice (x : Slice) (v : Inner) : Type 0 where
  pub log : IsSoundLog x.handle.log
  pub handle : Keeps x.handle.log x.handle.session x.handle.stage
  pub out : IsOut x.out x v
  pub seated : IsSeated x.session x v
  pub named : IfSome x.session (λ s. id_ahead x.handle x.out ≡ Some s.id)
  pub runs : spec_running x.session ≡ option_map (λ j. j.spec) x.job
  pub still : IsStill x
  pub held : HoldsFew (holds_back x.handle.stage) x.held
  pub users : KeepsUsers x v

-- ---- raw lines

-- what is written for a raw line: nothing, or the refusal of its errno
abbrev pub raw_reply : Errno → List ℕ
raw_reply Eio = []
raw_reply errno = response_bytes (Denied (errno_number errno))

-- the raw line's chain waits as it was posted, or came back with its answer
abbrev pub IsRawOut : Out → ℕ → RawChain → Type 0
IsRawOut (Asked m) n chain = m ≡ posting_of n (OfRaw chain)
IsRawOut (Told r) n chain =
    r ≡ record { reply = record { who = n; bytes = raw_reply (raw_errno chain) }; held = [] }
IsRawOut Nowhere n chain = ⊥
IsRawOut (Kept m) n chain = ⊥
IsRawOut Astray n chain = ⊥

abbrev pub IsLineOut : WorldState → ℕ → Option Statement → Type 0
IsLineOut w n None = Unit {0}
IsLineOut w n (Some s) = (chain : RawChain) → s.what ≡ Raw chain → IsRawOut (out_of w n) n chain

-- Each answered raw line has its errno, and one that is out is as it was posted or as it is
-- answered.
pub record AnswersRaws (w : WorldState) : Type 0 where
  pub answered : (n k : ℕ) (s : Statement) (chain : RawChain) →
      slice_get (process_at w.guest n).statements k ≡ Some s → s.what ≡ Raw chain →
      k < (process_at w.guest n).answered → raw_answer w.guest n k ≡ Some (raw_errno chain)
  pub out : (n : ℕ) → IsLineOut w n (crossing (process_at w.guest n))

-- ---- processes and the link

-- how much of a process is on the link or waits in the device
abbrev pub out_count : WorldState → ℕ → ℕ
out_count w n = length (requests_of w n) + length (calls_of w n) + length (replies_of w n)

abbrev pub one_if : Bool → ℕ
one_if true = 1
one_if false = 0

-- Each process has at most one line that is begun and not answered: a chain of it is under way
-- exactly where the line crosses. All event chains are with the device or have an event.
pub record IsQuiet (w : WorldState) : Type 0 where
  pub one : (n : ℕ) → out_count w n ≡ one_if (is_crossing (process_at w.guest n).status)
  pub chains : w.chains + length w.events ≡ event_chains
  pub room : w.guest.pump.room ≡ handle_room * length w.guest.processes

-- ---- sessions and handles

-- the handle in a place of a process is one of the script's
abbrev pub IsHandle : WorldState → ℕ → ℕ → Type 0
IsHandle w n h = IsSome (handle_named w.guest n h)

abbrev pub id_at : WorldState → ℕ → ℕ → Option ℕ
id_at w n h = id_ahead (slice_at w n h).handle (slice_at w n h).out

-- The ids of the sessions are the numbers below their count, and each is that of one handle: the
-- one whose open was answered so. The driver finds that handle by it once the answer is logged.
pub record AgreeOnIds (w : WorldState) : Type 0 where
  pub below : (n h id : ℕ) → IsHandle w n h → id_at w n h ≡ Some id →
      id < length w.host.device.sessions
  pub there : (id : ℕ) → id < length w.host.device.sessions →
      (n : ℕ) × (h : ℕ) × IsHandle w n h × (id_at w n h ≡ Some id)
  pub once : (n h m k id : ℕ) → IsHandle w n h → IsHandle w m k → id_at w n h ≡ Some id →
      id_at w m k ≡ Some id → (n ≡ m) × (h ≡ k)
  pub seats : (n h id : ℕ) → IsHandle w n h →
      (handle_at (process_at w.guest n) h).session ≡ Some id →
      seat_of w.guest id ≡ Some (record { process = n; handle = h })
  pub seated : (id : ℕ) (seat : Seat) → seat_of w.guest id ≡ Some seat →
      (handle_seated w.guest seat).session ≡ Some id
  pub places : length w.guest.seats ≡ handle_count w.script

-- whose events these are: each is of a session that a handle has
abbrev pub AreOfHandles : WorldState → List Delivery → Type 0
AreOfHandles w ds = All (λ d. IsSome (seat_of w.guest d.session)) ds

-- ---- the calls that wait

-- their sessions rise, from a number on
abbrev pub RiseFrom : ℕ → List WaitingCall → Type 0
RiseFrom from [] = Unit {0}
RiseFrom from (c ∷ cs) = (from ≤ c.session) × RiseFrom (c.session + 1) cs

-- a call that waits is the one that a handle has in the device, in the session of that handle
abbrev pub WaitInOwn : WorldState → Type 0
WaitInOwn w = All (λ c. (n : ℕ) × (h : ℕ) × IsHandle w n h × (out_at w n h ≡ Kept c.posting)
    × (id_at w n h ≡ Some c.session)) w.host.calls

-- Each event is that of a session, and each call waits in its own one.
pub record IsSaid (w : WorldState) : Type 0 where
  pub sent : AreOfHandles w w.events
  pub held : AreOfHandles w w.guest.pump.held
  pub rising : RiseFrom 0 w.host.calls
  pub waiting : WaitInOwn w

-- ---- the device

-- It is of the script's model, with a place for the session of each handle, and keeps to itself.
pub record IsDeviceFor (script : ScriptLines) (d : DeviceState) : Type 0 where
  pub model : d.model ≡ script.model
  pub opens : d.opens ≡ handle_count script
  pub sound : IsSoundDevice d

-- ---- numbers

-- the frames that a live session made are few
abbrev pub MadeWithin : ℕ → ℕ → Option SessionState → Type 0
MadeWithin left statements None = Unit {0}
MadeWithin left statements (Some s) = s.made + 32 * left ≤ 384 * statements

pub record IsWithin (w : WorldState) : Type 0 where
  pub jobs : w.host.device.begun + left_of w ≤ 12 * statement_count w.script
  pub frames : (id : ℕ) →
      MadeWithin (left_of w) (statement_count w.script) (session_of w.host.device id)

-- ---- the world

abbrev pub share_of : Model → HandleState → Inner → Option ℕ → Share
share_of model h v id =
    record { mappings = mappings_of model h.log.entries v.executed; id = id; frames = v.frames }

abbrev pub inner_at : WorldState → List (List Inner) → ℕ → ℕ → Inner
inner_at w rows n h =
    slice_index_or (slice_index_or rows n []) h (inner_of (driver_state (slice_at w n h)))

-- of a process n the handles from h on, with what they have to do with the region
abbrev pub shares_from : WorldState → List (List Inner) → ℕ → ℕ → List HandleState → List Share
shares_from w rows n h [] = []
shares_from w rows n h (handle ∷ hs) =
    share_of w.script.model handle (inner_at w rows n h) (id_at w n h)
    ∷ shares_from w rows n (h + 1) hs

-- all handles of the processes from n on
abbrev pub all_shares : WorldState → List (List Inner) → ℕ → List ProcessState → List Share
all_shares w rows n [] = []
all_shares w rows n (p ∷ ps) =
    shares_from w rows n 0 p.handles ++ all_shares w rows (n + 1) ps

-- The world is a sound one.
pub record IsSoundBy (w : WorldState) (rows : List (List Inner)) : Type 0 where
  pub script : IsRunnable w.script
  -- each handle's log answers the first lines on it, in order
  pub lines : IsDriver w.script w.guest
  -- each handle has a legal log, its memories in their places, its call that is out as it began,
  -- and a session that stands for the state ahead
  pub slices : (n h : ℕ) → IsHandle w n h → IsSoundSlice (slice_at w n h) (inner_at w rows n h)
  pub ids : AgreeOnIds w
  pub device : IsDeviceFor w.script w.host.device
  pub mapped : IsJournalOf (all_shares w rows 0 w.guest.processes) w.host.device.region
  pub said : IsSaid w
  pub raws : AnswersRaws w
  pub quiet : IsQuiet w
  pub within : IsWithin w

abbrev pub IsSound : WorldState → Type 0
IsSound w = (rows : List (List Inner)) × IsSoundBy w rows

-- ---- what the two ends keep by themselves

-- what a handle and its session keep
pub record IsWholeSlice (x : Slice) : Type 0 where
  pub log : IsSoundLog x.handle.log
  pub handle : Keeps x.handle.log x.handle.session x.handle.stage
  pub session : IfSome x.session IsSoundSession

-- What the driver's and the device's own types keep, whatever is said on the link.
pub record IsWhole (w : WorldState) : Type 0 where
  pub driver : IsDriver w.script w.guest
  pub slices : (n h : ℕ) → IsHandle w n h → IsWholeSlice (slice_at w n h)
  pub device : IsSoundDevice w.host.device
  pub journal : IsSoundJournal w.host.device.region.journal
  pub live : AreLive w.host.device.region
  pub apart : AreApart w.host.device.region.ranges
  pub low : AreLow w.host.device.region.ranges
