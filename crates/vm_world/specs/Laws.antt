-- What an end does at the link is the world's step, and what is on the link stays as it should be.
use Rattle.std.specs.Prelude.{ℕ, ◌≡◌, true, Option}
use Rattle.vm_job.specs.Job.{JobParts, DoneParts}
use Rattle.vm_lease.specs.Lease.{LeaseParts}
use Rattle.vm_link.specs.Queue.{Queues}
use Rattle.vm_link.specs.declared.link.Turn.{Turn}
use Rattle.vm_log.specs.declared.leased.Leased.{Leased}
use Rattle.vm_pump.specs.Pump.{session_of}
use Rattle.vm_wire.specs.declared.delivery.Delivery.{Delivery}
use Rattle.vm_script.specs.Script.{ScriptLines}
use Rattle.vm_host.specs.Host.{HostState}
use Rattle.vm_host.specs.Part.{Part, Announced}
use Rattle.vm_device.specs.Perform.{EachMadeFew}
use Rattle.vm_host.specs.Steps.{Executes, Resumes, Announces, Begins, Finishes, HasPlace, IsAlone, HasRoom, IsOut, IsReadyForEvent, HasRoomForOne}
use Rattle.vm_guest.specs.Guest.{GuestState, process_at}
use Rattle.vm_guest.specs.Process.{is_lent_for}
use Rattle.vm_guest.specs.Steps.{Leases, given_back}
use Rattle.vm_guest.specs.Orderly.{IsDriver}
use Rattle.vm_guest.specs.Queues.{IssuesAt, CollectsAt, PumpsAt, CanIssueAt, CanCollectAt, CanPumpAt}
use Rattle.vm_across.specs.Served.{SendsFit}
use Rattle.vm_realm.specs.Laws.{CanGoOn}
use Rattle.vm_realm.specs.Sound.{IsQuiet, IsSound}
use Rattle.vm_realm.specs.Steps.{Turns, DoesFinishWith}
use Rattle.vm_realm.specs.World.{WorldState}
use Rattle.vm_realm.specs.declared.step.Step.{Step}
use Rattle.vm_realm.specs.declared.step.Step.TheVariants.{Issue, Execute, Resume, Announce, Collect, Pump}
use Rattle.vm_world.specs.Calls.{BeginsJob, IsBackAsItWent, LeasesLine}
use Rattle.vm_world.specs.Carried.{IsCarried, world_of}

-- The step leads from the world that these two ends and queues make to the one that those make, and
-- what is on the link is as it should be.
pub record LeadsOver (script : ScriptLines) (s : Step) (turn : Turn) (g : GuestState)
    (h : HostState) (queues : Queues) (g' : GuestState) (h' : HostState)
    (queues' : Queues) : Type 0 where
  pub turns : Turns turn (world_of script g h queues) s (world_of script g' h' queues')
  pub carried : IsCarried g' h' queues'

-- ---- the device's steps

abbrev pub ExecutesOver : Type 0
ExecutesOver =
    (script : ScriptLines) (g : GuestState) (h h' : HostState) (queues queues' : Queues)
    (turn : Turn) → IsCarried g h queues →
    Executes queues.command.waiting h queues.command turn h' queues'.command →
    queues'.event ≡ queues.event → LeadsOver script Execute turn g h queues g h' queues'

abbrev pub ResumesOver : Type 0
ResumesOver =
    (script : ScriptLines) (session : ℕ) (g : GuestState) (h h' : HostState)
    (queues queues' : Queues) (turn : Turn) → IsCarried g h queues →
    Resumes session h queues.command turn h' queues'.command →
    queues'.event ≡ queues.event → LeadsOver script (Resume session) turn g h queues g h' queues'

abbrev pub AnnouncesOver : Type 0
AnnouncesOver =
    (script : ScriptLines) (g : GuestState) (h h' : HostState) (queues queues' : Queues)
    (turn : Turn) → IsCarried g h queues → SendsFit h h' →
    Announces h queues.event turn h' queues'.event →
    queues'.command ≡ queues.command → LeadsOver script Announce turn g h queues g h' queues'

-- ---- what the ends ask of the link

pub record DeviceCan (h : HostState) (queues : Queues) : Type 0 where
  pub place : HasPlace h.device queues.command.waiting
  pub alone : IsAlone h queues.command.waiting
  pub room : HasRoom queues.command.waiting
  pub frames : EachMadeFew h.device
  pub out : (session : ℕ) → IsOut session h queues.command
  pub ready : IsReadyForEvent h queues.event.waiting
  pub one : HasRoomForOne queues.event.waiting

pub record DriverCan (g : GuestState) (queues : Queues) : Type 0 where
  pub issue : (n : ℕ) → CanIssueAt n g queues
  pub collect : CanCollectAt g queues
  pub pump : CanPumpAt g queues

-- a world that can go on has it
abbrev pub CarriedCan : Type 0
CarriedCan =
    (script : ScriptLines) (g : GuestState) (h : HostState) (queues : Queues) →
    IsCarried g h queues → IsQuiet (world_of script g h queues) →
    CanGoOn (world_of script g h queues) → DeviceCan h queues × DriverCan g queues

-- ---- the driver's steps

abbrev pub IssuesOver : Type 0
IssuesOver =
    (script : ScriptLines) (n : ℕ) (g g' : GuestState) (h : HostState) (queues queues' : Queues)
    (turn : Turn) → IsCarried g h queues → IsDriver script g →
    IssuesAt n g queues turn g' queues' → LeadsOver script (Issue n) turn g h queues g' h queues'

abbrev pub CollectsOver : Type 0
CollectsOver =
    (script : ScriptLines) (g g' : GuestState) (h : HostState) (queues queues' : Queues)
    (turn : Turn) → IsCarried g h queues → IsQuiet (world_of script g h queues) →
    CollectsAt g queues turn g' queues' → LeadsOver script Collect turn g h queues g' h queues'

abbrev pub PumpsOver : Type 0
PumpsOver =
    (script : ScriptLines) (g g' : GuestState) (h : HostState) (queues queues' : Queues)
    (turn : Turn) → IsCarried g h queues → PumpsAt g queues turn g' queues' →
    LeadsOver script Pump turn g h queues g' h queues'

-- ---- what goes out and comes back

abbrev pub BeginsOver : Type 0
BeginsOver =
    (script : ScriptLines) (session : ℕ) (g : GuestState) (h h' : HostState) (queues : Queues)
    (job : Option JobParts) → IsCarried g h queues → Begins session h job h' →
    BeginsJob session (world_of script g h queues) job (world_of script g h' queues)
    × IsCarried g h' queues

abbrev pub FinishesOver : Type 0
FinishesOver =
    (script : ScriptLines) (g : GuestState) (h h' : HostState) (queues : Queues)
    (done : DoneParts) → IsCarried g h queues → IsBackAsItWent done (world_of script g h queues) →
    Finishes h done h' →
    DoesFinishWith done done.job.spec.number (world_of script g h queues)
    (world_of script g h' queues) × IsCarried g h' queues

abbrev pub LeasesOver : Type 0
LeasesOver =
    (script : ScriptLines) (n : ℕ) (g g' : GuestState) (h : HostState) (queues : Queues)
    (leased : Leased) → IsCarried g h queues → Leases n g leased g' →
    LeasesLine n (world_of script g h queues) leased (world_of script g' h queues)
    × IsCarried g' h queues

abbrev pub GivesBackOver : Type 0
GivesBackOver =
    (n : ℕ) (g : GuestState) (h : HostState) (queues : Queues) (lease : LeaseParts) →
    IsCarried g h queues → is_lent_for (process_at g n) lease.line ≡ true →
    IsCarried (given_back n g lease) h queues

-- ---- what the device sends

-- an event is of the session for which it is sent
abbrev pub SendsItsOwn : Type 0
SendsItsOwn =
    (w : WorldState) (d : Delivery) (host : Part) → IsSound w → Announced w.host d host →
    session_of d.msg ≡ d.session
