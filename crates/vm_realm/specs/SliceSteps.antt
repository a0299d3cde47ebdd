-- What the steps of the world do to the slice of a handle.
use Rattle.std.specs.Prelude.{ℕ, ◌≡◌, ◌⊎◌, IsTrue, Bool, true, false, not, List, [], ◌∷◌, ◌++◌, length, replicate, Option, Some, None, Ok, Contains, IsSome}
use Rattle.v4l_rules.specs.Refusals.{first_refusal}
use Rattle.vm_frame.specs.declared.mem.Held.{Held}
use Rattle.vm_home.specs.Moves.{is_stopping}
use Rattle.vm_job.specs.Job.{JobParts, DoneParts, CameBack, HasPicture}
use Rattle.vm_lease.specs.Lease.{LeaseParts, CameBackDone}
use Rattle.vm_lease.specs.declared.lease_out.LeaseOut.{LeaseOut}
use Rattle.vm_local.specs.declared.call.Call.{Call}
use Rattle.vm_local.specs.declared.reply.Reply.{Reply}
use Rattle.vm_log.specs.Answers.{with_line, Leases, given_back}
use Rattle.vm_log.specs.LegalLog.{LogState, state_of, lease_in}
use Rattle.vm_log.specs.declared.leased.Leased.{Leased}
use Rattle.vm_wire.specs.Message.Ask.{Judged}
use Rattle.vm_wire.specs.Wire.{response_bytes, response_of}
use Rattle.vm_wire.specs.declared.command.Command.{Command}
use Rattle.vm_wire.specs.declared.delivery.Delivery.{Delivery}
use Rattle.vm_wire.specs.declared.event.EventMsg.{EventMsg}
use Rattle.vm_exchange.specs.Exchange.{IsAnswer, command_in}
use Rattle.vm_exchange.specs.declared.way.Way.{Way}
use Rattle.vm_exchange.specs.declared.way.Way.TheVariants.{Crosses, AnsweredHere, Waits, TouchesMemory}
use Rattle.vm_handle.specs.Answers.{row_from, with_reply, delivered}
use Rattle.vm_handle.specs.Handle.{HandleState, way_from, crossing_from}
use Rattle.vm_handle.specs.declared.stage.Stage.{Stage}
use Rattle.vm_handle.specs.declared.stage.Stage.TheVariants.{AtRest, Underway, Waiting}
use Rattle.vm_session.specs.State.{SessionState}
use Rattle.vm_session.specs.Streaming.{can_begin, next_job, begun, finished, oldest, sent}
use Rattle.vm_device.specs.Device.{DeviceState, is_at_rest}
use Rattle.vm_device.specs.Keeps.{IsSound as IsSoundDevice}
use Rattle.vm_device.specs.Perform.{Answer, Performs, must_wait}
use Rattle.vm_guest.specs.Asking.{begins_with_events, ends_with_events}
use Rattle.vm_guest.specs.Guest.{GuestState, process_at}
use Rattle.vm_guest.specs.Lines.{GoesOut, AnswersItself, waiting, MayAnswer}
use Rattle.vm_wire.specs.Message.{Posting, Returning}
use Rattle.vm_guest.specs.Message.{OfCall, posting_of}
use Rattle.vm_guest.specs.Process.{issuing, crossing}
use Rattle.vm_guest.specs.declared.asked.Statement.{Statement}
use Rattle.vm_realm.specs.declared.step.Step.{Step}
use Rattle.vm_realm.specs.declared.step.Step.TheVariants.{Issue, Execute, Resume, Begin, Finish, Announce, Collect, Pump, Lease, GiveBack}
use Rattle.vm_realm.specs.World.{WorldState}
use Rattle.vm_realm.specs.Steps.{Steps, Leads}
use Rattle.vm_realm.specs.Slice.{Slice, Out, id_ahead, session_in, slice_at, SameElsewhere}
use Rattle.vm_realm.specs.Slice.Out.{Nowhere, Asked, Kept, Told}
use Rattle.vm_exchange.specs.Range.{AreWords}
use Rattle.vm_local.specs.declared.bound.Bound.{Bound}
use Rattle.vm_local.specs.declared.bound.BoundKind.TheVariants.{Mapping}
use Rattle.vm_region.specs.Region.{range_at}
use Rattle.vm_realm.specs.Inner.{driver_state}
use Rattle.vm_realm.specs.Mapped.{AreLow}
use Rattle.vm_local.specs.declared.call.Call.TheVariants.{OpenHandle}

-- ---- its line

-- an open is the first call that a handle begins: it has no session yet
abbrev pub IsFirst : HandleState → Call → Type 0
IsFirst h (OpenHandle nonblock) = h.session ≡ None
IsFirst h call = Unit {0}

-- no call of the handle is out, nor a lease
pub record MayStart (x : Slice) : Type 0 where
  pub out : x.out ≡ Nowhere
  pub answered : x.handle.log.unanswered ≡ false

-- the handle's next call is begun in this way
abbrev pub StartsBy : Way → ℕ → Call → Slice → Slice → Type 0
StartsBy (Crosses c) line call x x' =
    (along : Option Held) × (handle : HandleState) × GoesOut x.handle line call along handle
    × (x' ≡ record x { handle = handle; out = Asked (posting_of x.who (OfCall c along)) })
StartsBy AnsweredHere line call x x' =
    (handle : HandleState) × AnswersItself x.handle line call handle
    × (x' ≡ record x { handle = handle })
StartsBy Waits line call x x' = x' ≡ record x { handle = waiting x.handle line call }
StartsBy TouchesMemory line call x x' = ⊥

-- it is begun where its numbers go over the wire
abbrev pub Starts : Slice → Slice → Type 0
Starts x x' =
    (line : ℕ) × (call : Call) × MayStart x × AreWords call × IsFirst x.handle call
    × StartsBy (way_from x.handle call) line call x x'

abbrev pub Lends : Slice → Slice → Type 0
Lends x x' =
    (line : ℕ) × (call : Call) × (leased : Leased) × (log : LogState) × MayStart x
    × Leases (first_refusal (row_from x.handle.log line call).refusals)
    (with_line x.handle.log) line call leased log
    × (x' ≡ record x { handle = record x.handle { log = log } })

abbrev pub GetsBack : Slice → Slice → Type 0
GetsBack x x' =
    (entry : LeaseOut) × (lease : LeaseParts) × (lease_in x.handle.log.away ≡ Some entry)
    × CameBackDone entry lease
    × (x' ≡ record x { handle = record x.handle { log = given_back x.handle.log lease } })

-- ---- its call in the device

abbrev pub told_by : Posting → Answer → Returning
told_by m a = record {
  reply = record { who = m.request.who; bytes = response_bytes a.response };
  held = a.held;
}

-- The device keeps to itself, is of the handle's model, has its session, and has a live range for
-- each of its mappings; and each live range ends within the region.
pub record IsDeviceOf (x : Slice) (d : DeviceState) : Type 0 where
  pub sound : IsSoundDevice d
  pub model : d.model ≡ x.handle.log.model
  pub session : session_in d x.handle.session ≡ x.session
  pub ranges : (b : Bound) (addr len : ℕ) (writable : Bool) → Contains (driver_state x).bound b →
      b.kind ≡ Mapping addr len writable → IsSome (range_at addr d.region.ranges)
  pub low : AreLow d.region.ranges

-- The device does the command of the posting: its reply is told, and the session is as the device
-- has it then.
abbrev pub IsServed : Posting → Command → DeviceState → Slice → Slice → Type 0
IsServed m c d x x' =
    (a : Answer) × Performs d c m.behind m.held a
    × (x' ≡ record x {
      out = Told (told_by m a);
      session = session_in a.device (id_ahead x.handle (Told (told_by m a)));
    })

-- it does so unless the command has to wait
abbrev pub IsServedUnless : Bool → Posting → Command → DeviceState → Slice → Slice → Type 0
IsServedUnless true m c d x x' = x' ≡ record x { out = Kept m }
IsServedUnless false m c d x x' = IsServed m c d x x'

abbrev pub Executes : Slice → Slice → Type 0
Executes x x' =
    (m : Posting) × (c : Command) × (d : DeviceState) × (x.out ≡ Asked m)
    × (m.request.asks ≡ Judged (Ok c)) × IsDeviceOf x d
    × IsServedUnless (must_wait d c) m c d x x'

abbrev pub Resumes : Slice → Slice → Type 0
Resumes x x' =
    (m : Posting) × (c : Command) × (d : DeviceState) × (x.out ≡ Kept m)
    × (m.request.asks ≡ Judged (Ok c)) × IsDeviceOf x d × (is_at_rest x.session ≡ true)
    × IsServed m c d x x'

-- ---- its frames

-- a call waits in the device
abbrev pub is_kept_waiting : Out → Bool
is_kept_waiting (Kept m) = true
is_kept_waiting out = false

abbrev pub Begins : Slice → Slice → Type 0
Begins x x' =
    (s : SessionState) × (number : ℕ) × (job : JobParts) × (x.session ≡ Some s)
    × (is_kept_waiting x.out ≡ false) × (can_begin s ≡ true) × (next_job s number ≡ Some job)
    × (x' ≡ record x { session = Some (begun s number); job = Some job })

abbrev pub Finishes : Slice → Slice → Type 0
Finishes x x' =
    (s : SessionState) × (job : JobParts) × (done : DoneParts) × (x.session ≡ Some s)
    × (x.job ≡ Some job) × CameBack job done × (IsTrue done.good → HasPicture done.job)
    × (x' ≡ record x { session = Some (finished s done); job = None })

abbrev pub Sends : Slice → Slice → Type 0
Sends x x' =
    (s : SessionState) × (msg : EventMsg) × (held : Option Held) × (x.session ≡ Some s)
    × (oldest s ≡ Some (msg, held))
    × (x' ≡ record x {
      session = Some (sent s);
      events = x.events ++ record { session = s.id; msg = msg; held = held } ∷ [];
    })

-- ---- what the driver takes

-- a call is underway that doesn't stop queues
abbrev pub holds_back : Stage → Bool
holds_back AtRest = false
holds_back (Waiting line call) = false
holds_back (Underway line call) = not (is_stopping call)

abbrev pub all_delivered : HandleState → List Delivery → HandleState
all_delivered h [] = h
all_delivered h (d ∷ ds) = all_delivered (delivered h d.msg d.held) ds

-- the first event is held back, or delivered
abbrev pub taken : Bool → Delivery → List Delivery → Slice → Slice
taken true d ds x = record x { held = x.held ++ d ∷ []; events = ds }
taken false d ds x = record x { handle = delivered x.handle d.msg d.held; events = ds }

abbrev pub Takes : Slice → Slice → Type 0
Takes x x' =
    (d : Delivery) × (ds : List Delivery) × (x.events ≡ d ∷ ds)
    × (x' ≡ taken (holds_back x.handle.stage) d ds x)

-- The reply is logged, and behind it the events that were held back. All events were taken before
-- the reply to a call that stops queues.
abbrev pub Collects : Slice → Slice → Type 0
Collects x x' =
    (line : ℕ) × (call : Call) × (c : Command) × (r : Returning) × (reply : Reply)
    × (x.handle.stage ≡ Underway line call) × (x.out ≡ Told r)
    × (command_in (crossing_from x.handle call) ≡ Some c)
    × (is_stopping call ≡ true → x.events ≡ []) × MayAnswer x.handle line call c r
    × IsAnswer (state_of x.handle.log) line call (response_of c r.reply.bytes) reply
    × (x' ≡ record x {
      handle = all_delivered
          (with_reply x.handle line call reply (response_of c r.reply.bytes) r.held) x.held;
      out = Nowhere;
      held = [];
    })

-- ---- by the step of the world

abbrev pub SliceDoes : Step → Slice → Slice → Type 0
SliceDoes (Issue n) x x' = Starts x x'
SliceDoes Execute x x' = Executes x x'
SliceDoes (Resume session) x x' = Resumes x x'
SliceDoes (Begin session) x x' = Begins x x'
SliceDoes (Finish number) x x' = Finishes x x'
SliceDoes Announce x x' = Sends x x'
SliceDoes Collect x x' = Collects x x'
SliceDoes Pump x x' = Takes x x'
SliceDoes (Lease n) x x' = Lends x x'
SliceDoes (GiveBack n) x x' = GetsBack x x'

-- The step does this to the slice of one handle, and nothing to the others.
pub record MovesOne (s : Step) (w w' : WorldState) : Type 0 where
  pub process : ℕ
  pub handle : ℕ
  pub does : SliceDoes s (slice_at w process handle) (slice_at w' process handle)
  pub others : SameElsewhere process handle w w'

-- ---- the events that a step takes first

abbrev pub takes_by : Option Statement → (Statement → Bool) → Bool
takes_by None test = false
takes_by (Some s) test = test s

abbrev pub takes_for : GuestState → List Returning → Bool
takes_for g [] = false
takes_for g (r ∷ rs) =
    takes_by (crossing (process_at g r.reply.who)) (λ s. ends_with_events s.what)

-- the step takes all events before all else
abbrev pub takes_all : WorldState → Step → Bool
takes_all w (Issue n) = takes_by (issuing (process_at w.guest n)) (λ s. begins_with_events s.what)
takes_all w Collect = takes_for w.guest w.replies
takes_all w s = false

-- it takes none but the one that it is about
abbrev pub TakesNone : WorldState → Step → Type 0
TakesNone w s = (takes_all w s ≡ false) ⊎ (w.events ≡ [])

-- ---- the laws

-- a step that takes all events before all else is as many steps that take one, and then itself
abbrev pub TakingIsPumping : Type 0
TakingIsPumping =
    (w w' : WorldState) (s : Step) → takes_all w s ≡ true → Steps w s w' →
    (u : WorldState) × Leads w (replicate (length w.events) Pump) u × (u.events ≡ []) × Steps u s w'
