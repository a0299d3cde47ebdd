-- A handle's slice of the world: all of it that is about this handle.
use Rattle.std.specs.Prelude.{ℕ, ◌≡◌, ◌==◌, Bool, false, List, [], ◌∷◌, ◌++◌, map, find, Option, Some, None, if◌then◌else◌}
use Rattle.std.specs.List.{filter}
use Rattle.std.specs.Option.{option_map}
use Rattle.vm_job.specs.Entry.{parts_of}
use Rattle.vm_job.specs.Job.{JobParts}
use Rattle.vm_job.specs.declared.job_out.JobOut.{JobOut}
use Rattle.vm_local.specs.declared.reply.Reply.TheVariants.{Done}
use Rattle.vm_wire.specs.Wire.{response_of}
use Rattle.vm_wire.specs.declared.command.Command.TheVariants.{OpenSession}
use Rattle.vm_wire.specs.declared.delivery.Delivery.{Delivery}
use Rattle.vm_handle.specs.Answers.{session_from}
use Rattle.vm_handle.specs.Handle.{HandleState}
use Rattle.vm_handle.specs.declared.stage.Stage.{Stage}
use Rattle.vm_handle.specs.declared.stage.Stage.TheVariants.{AtRest, Underway, Waiting}
use Rattle.vm_session.specs.State.{SessionState}
use Rattle.vm_session.specs.declared.unsent.Unsent.{Unsent}
use Rattle.vm_device.specs.Device.{DeviceState, session_of}
use Rattle.vm_host.specs.Part.{Call}
use Rattle.vm_guest.specs.Events.{events_of}
use Rattle.vm_guest.specs.Guest.{process_at}
use Rattle.vm_wire.specs.Message.{Posting, Returning}
use Rattle.vm_guest.specs.Process.{crossing_call, handle_at}
use Rattle.vm_guest.specs.declared.asked.Asked.{Asked as AskedCall}
use Rattle.vm_realm.specs.World.{WorldState, jobs_out}

-- Where the call of a handle is that crosses.
pub data Out : Type 0 where
  -- no call crosses
  Nowhere : Out
  -- its request waits for the device
  Asked : Posting → Out
  -- it waits in the device until the session is quiet
  Kept : Posting → Out
  -- its reply waits for the driver
  Told : Returning → Out
  -- at none of these places, or at several: this never comes
  Astray : Out

-- The process, the handle with its log and what is at home, its call that crosses; the events that
-- are held back and those that were sent; the session while it is live, with the events that it
-- hasn't sent; and the session's job that is out. A blocked dqbuf and a lease that is out stand in
-- the handle.
pub record Slice : Type 0 where
  pub who : ℕ
  pub handle : HandleState
  pub out : Out
  pub held : List Delivery
  pub events : List Delivery
  pub session : Option SessionState
  pub job : Option JobParts

-- ---- where the call is

abbrev pub requests_of : WorldState → ℕ → List Posting
requests_of w n = filter (λ m. m.request.who == n) w.requests

abbrev pub calls_of : WorldState → ℕ → List Call
calls_of w n = filter (λ c. c.posting.request.who == n) w.host.calls

abbrev pub replies_of : WorldState → ℕ → List Returning
replies_of w n = filter (λ r. r.reply.who == n) w.replies

abbrev pub out_from : List Posting → List Call → List Returning → Out
out_from (m ∷ []) [] [] = Asked m
out_from [] (c ∷ []) [] = Kept c.posting
out_from [] [] (r ∷ []) = Told r
out_from ms cs rs = Astray

-- what a process has on the link and in the device
abbrev pub out_of : WorldState → ℕ → Out
out_of w n = out_from (requests_of w n) (calls_of w n) (replies_of w n)

-- the call is on this handle
abbrev pub is_on : Option AskedCall → ℕ → Bool
is_on None h = false
is_on (Some a) h = a.handle == h

abbrev pub out_at : WorldState → ℕ → ℕ → Out
out_at w n h = if is_on (crossing_call (process_at w.guest n)) h then out_of w n else Nowhere

-- ---- its session

-- the id that a handle has once this reply is collected: that of its session, or the one that its
-- open is answered
abbrev pub id_told : Stage → Option ℕ → Returning → Option ℕ
id_told AtRest session r = session
id_told (Waiting line call) session r = session
id_told (Underway line call) session r =
    session_from session call Done (response_of OpenSession r.reply.bytes)

abbrev pub id_ahead : HandleState → Out → Option ℕ
id_ahead h Nowhere = h.session
id_ahead h (Asked m) = h.session
id_ahead h (Kept m) = h.session
id_ahead h (Told r) = id_told h.stage h.session r
id_ahead h Astray = h.session

abbrev pub session_in : DeviceState → Option ℕ → Option SessionState
session_in d None = None
session_in d (Some id) = session_of d id

abbrev pub job_in : List JobOut → Option ℕ → Option JobParts
job_in jobs None = None
job_in jobs (Some id) = option_map parts_of (find (λ e. e.spec.session == id) jobs)

abbrev pub events_for : Option ℕ → List Delivery → List Delivery
events_for None ds = []
events_for (Some id) ds = events_of id ds

-- ---- the slice

abbrev pub slice_with : WorldState → ℕ → HandleState → Out → Slice
slice_with w n handle out =
    let id : Option ℕ = id_ahead handle out in
    record {
      who = n;
      handle = handle;
      out = out;
      held = events_for id w.guest.pump.held;
      events = events_for id w.events;
      session = session_in w.host.device id;
      job = job_in (jobs_out w) id;
    }

-- the slice of the handle in a place of a process
abbrev pub slice_at : WorldState → ℕ → ℕ → Slice
slice_at w n h = slice_with w n (handle_at (process_at w.guest n) h) (out_at w n h)

-- the messages that were sent and aren't delivered, the first one first
abbrev pub unsent_by : Delivery → Unsent
unsent_by d = record { msg = d.msg; held = d.held }

abbrev pub earlier_of : Slice → List Unsent
earlier_of x = map unsent_by (x.held ++ x.events)

-- ---- two worlds

-- the slices of all handles are the same
abbrev pub SameEverywhere : WorldState → WorldState → Type 0
SameEverywhere w w' = (n h : ℕ) → slice_at w' n h ≡ slice_at w n h

-- those of all handles but one
abbrev pub SameElsewhere : ℕ → ℕ → WorldState → WorldState → Type 0
SameElsewhere n h w w' =
    (m k : ℕ) → ¬ ((m ≡ n) × (k ≡ h)) → slice_at w' m k ≡ slice_at w m k
