-- What each step does: it is the driver's part or the device's part, over the world's lists.
use Rattle.std.specs.Prelude.{ℕ, ◌≡◌, ◌+◌, ◌-◌, ◌==◌, IsTrue, true, List, [], ◌∷◌, ◌++◌, find, Option, Some, Bool, false, not, ◌&&◌}
use Rattle.std.specs.Option.{option_to_list}
use Rattle.vm_job.specs.Entry.{IsOf}
use Rattle.vm_job.specs.Job.{JobParts, DoneParts, CameBack, HasPicture}
use Rattle.vm_job.specs.declared.job_out.JobOut.{JobOut}
use Rattle.vm_lease.specs.Lease.{LeaseParts, CameBackDone}
use Rattle.vm_lease.specs.declared.lease_out.LeaseOut.{LeaseOut}
use Rattle.vm_link.specs.declared.link.Turn.{Turn}
use Rattle.vm_link.specs.declared.link.Turn.TheVariants.{Did, Idle}
use Rattle.vm_log.specs.declared.leased.Leased.{Leased}
use Rattle.vm_wire.specs.declared.delivery.Delivery.{Delivery}
use Rattle.vm_device.specs.Device.{DeviceState}
use Rattle.vm_device.specs.Stream.{Begins, Finishes}
use Rattle.vm_host.specs.Part.{Part, Executed, Resumed, Announced}
use Rattle.vm_guest.specs.Guest.{GuestState, process_at}
use Rattle.vm_wire.specs.Message.{Posting, Returning}
use Rattle.vm_guest.specs.Part.{Inbox, Outbox, Issues, Collects, Pumps}
use Rattle.vm_guest.specs.Process.{lease_out}
use Rattle.vm_guest.specs.Steps.{Leases, given_back}
use Rattle.vm_realm.specs.declared.step.Step.{Step}
use Rattle.vm_realm.specs.declared.step.Step.TheVariants.{Issue, Execute, Resume, Begin, Finish, Announce, Collect, Pump, Lease, GiveBack}
use Rattle.vm_realm.specs.World.{WorldState, jobs_out}
use Rattle.vm_realm.specs.Enabled.{is_enabled}

-- ---- the driver's part

-- what is finished for the driver
abbrev pub inbox_of : WorldState → Inbox
inbox_of w = record { replies = w.replies; events = w.events }

-- the world once the driver came to this, left these, and posted those
abbrev pub after_driver : WorldState → GuestState → Inbox → Outbox → WorldState
after_driver w g left posted = record w {
  guest = g;
  requests = w.requests ++ posted.commands;
  replies = left.replies;
  chains = w.chains + posted.chains;
  events = left.events;
}

-- a part of the driver that is done leads from the one world to the other
abbrev pub DriverDoes : (GuestState → Inbox → Turn → GuestState → Inbox → Outbox → Type 0)
    → WorldState → WorldState → Type 0
DriverDoes DoesPart w w' =
    (g : GuestState) × (left : Inbox) × (posted : Outbox)
    × DoesPart w.guest (inbox_of w) Did g left posted × (w' ≡ after_driver w g left posted)

-- the driver's next line is refused, or its memory goes out
abbrev pub DoesLease : ℕ → WorldState → WorldState → Type 0
DoesLease n w w' =
    (leased : Leased) × (g : GuestState) × Leases n w.guest leased g × (w' ≡ record w { guest = g })

-- The lease that is out of a process comes back, with its call done.
abbrev pub DoesGiveBack : ℕ → WorldState → WorldState → Type 0
DoesGiveBack n w w' =
    (entry : LeaseOut) × (lease : LeaseParts) × (lease_out (process_at w.guest n) ≡ Some entry)
    × CameBackDone entry lease × (w' ≡ record w { guest = given_back n w.guest lease })

-- ---- the device's part

-- the world once the device came to this, and returned that, if anything
abbrev pub after_device : WorldState → Part → Option Returning → WorldState
after_device w host out =
    record w { host = host; replies = w.replies ++ option_to_list out }

-- the first request is done, or its call waits
abbrev pub DoesExecute : List Posting → WorldState → WorldState → Type 0
DoesExecute [] w w' = ⊥
DoesExecute (m ∷ ms) w w' =
    (out : Option Returning) × (host : Part) × Executed m w.host out host
    × (w' ≡ after_device (record w { requests = ms }) host out)

-- the call of a session that waits is done
abbrev pub DoesResume : ℕ → WorldState → WorldState → Type 0
DoesResume session w w' =
    (r : Returning) × (host : Part) × Resumed session w.host r host
    × (w' ≡ after_device w host (Some r))

abbrev pub with_device : WorldState → DeviceState → WorldState
with_device w d = record w { host = record w.host { device = d } }

-- the session's next job goes out
abbrev pub DoesBegin : ℕ → WorldState → WorldState → Type 0
DoesBegin session w w' =
    (job : JobParts) × (d : DeviceState) × Begins w.host.device session (Some job) d
    × (w' ≡ with_device w d)

-- The job went out as the entry says, and came back like this: a good one has its picture.
pub record ComesBack (entry : JobOut) (done : DoneParts) : Type 0 where
  pub job : JobParts
  pub out : IsOf entry job
  pub back : CameBack job done
  pub picture : IsTrue done.good → HasPicture done.job

-- the job that is out under a number
abbrev pub job_out : ℕ → WorldState → Option JobOut
job_out number w = find (λ e. e.spec.number == number) (jobs_out w)

-- The job that is out under a number comes back, good or bad.
abbrev pub DoesFinishWith : DoneParts → ℕ → WorldState → WorldState → Type 0
DoesFinishWith done number w w' =
    (entry : JobOut) × (d : DeviceState) × (job_out number w ≡ Some entry) × ComesBack entry done
    × Finishes w.host.device done d × (w' ≡ with_device w d)

abbrev pub DoesFinish : ℕ → WorldState → WorldState → Type 0
DoesFinish number w w' = (done : DoneParts) × DoesFinishWith done number w w'

-- the oldest event that is unsent takes a chain
abbrev pub DoesAnnounce : WorldState → WorldState → Type 0
DoesAnnounce w w' =
    (delivery : Delivery) × (host : Part) × Announced w.host delivery host
    × (w' ≡ record w { host = host; chains = w.chains - 1; events = w.events ++ delivery ∷ [] })

-- ---- each step

abbrev pub Does : Step → WorldState → WorldState → Type 0
Does (Issue n) w w' = DriverDoes (Issues n) w w'
Does Execute w w' = DoesExecute w.requests w w'
Does (Resume session) w w' = DoesResume session w w'
Does (Begin session) w w' = DoesBegin session w w'
Does (Finish number) w w' = DoesFinish number w w'
Does Announce w w' = DoesAnnounce w w'
Does Collect w w' = DriverDoes Collects w w'
Does Pump w w' = DriverDoes Pumps w w'
Does (Lease n) w w' = DoesLease n w w'
Does (GiveBack n) w w' = DoesGiveBack n w w'

-- The step may come next, and leads from the one world to the other. Two things alone are free in
-- it: whether there is memory for a call that may be refused for want of it, and whether a job that
-- comes back is good. Beside these the order in which the region keeps its live ranges is open,
-- which nothing tells.
abbrev pub Steps : WorldState → Step → WorldState → Type 0
Steps w s w' = (is_enabled w s ≡ true) × Does s w w'

-- a job or a lease goes out, or comes back: such a step has a call of its own
abbrev pub hands_over : Step → Bool
hands_over (Issue n) = false
hands_over Execute = false
hands_over (Resume session) = false
hands_over (Begin session) = true
hands_over (Finish number) = true
hands_over Announce = false
hands_over Collect = false
hands_over Pump = false
hands_over (Lease n) = true
hands_over (GiveBack n) = true

-- A step that was done leads from the one world to the other. Nothing is done exactly where the
-- step may not come next, or has a call of its own.
abbrev pub Turns : Turn → WorldState → Step → WorldState → Type 0
Turns Did w s w' = (hands_over s ≡ false) × Steps w s w'
Turns Idle w s w' = ((is_enabled w s && not (hands_over s)) ≡ false) × (w' ≡ w)

-- each of the steps may come next in its place, and they lead from the one world to the other
abbrev pub Leads : WorldState → List Step → WorldState → Type 0
Leads w [] w' = w' ≡ w
Leads w (s ∷ ss) w' = (next : WorldState) × Steps w s next × Leads next ss w'
