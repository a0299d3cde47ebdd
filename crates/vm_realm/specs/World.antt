-- The driver, the device, and what is under way between them.
use Rattle.std.specs.Prelude.{ℕ, ◌≡◌, List, [], length, sum_by}
use Rattle.std.specs.List.{filter_map, flat_map}
use Rattle.vm_wire.specs.declared.delivery.Delivery.{Delivery}
use Rattle.vm_script.specs.Script.{ScriptLines}
use Rattle.vm_lease.specs.declared.lease_out.LeaseOut.{LeaseOut}
use Rattle.vm_job.specs.declared.job_out.JobOut.{JobOut}
use Rattle.vm_handle.specs.Handle.{HandleState}
use Rattle.vm_device.specs.Device.{fresh_device}
use Rattle.vm_host.specs.Part.{Part}
use Rattle.vm_guest.specs.Chain.{event_chains}
use Rattle.vm_guest.specs.Guest.{GuestState, IsDone as IsGuestDone}
use Rattle.vm_wire.specs.Message.{Posting, Returning}
use Rattle.vm_guest.specs.Orderly.{IsFreshGuest}
use Rattle.vm_guest.specs.Process.{lease_out}

-- The script that is run, the driver, and the device with the calls that wait in it; the requests
-- that the device hasn't taken, the replies and the events that the driver hasn't taken, and how
-- many chains wait for an event. In each list the first one comes first.
pub record WorldState : Type 0 where
  pub script : ScriptLines
  pub guest : GuestState
  pub host : Part
  pub requests : List Posting
  pub replies : List Returning
  pub chains : ℕ
  pub events : List Delivery

-- ---- what is out of it

-- the jobs that are out, as they went out, by rising number
abbrev pub jobs_out : WorldState → List JobOut
jobs_out w = w.host.device.jobs

-- the leases that are out, as they went out, process by process
abbrev pub leases_out : WorldState → List LeaseOut
leases_out w = filter_map lease_out w.guest.processes

-- ---- its script

abbrev pub handle_count : ScriptLines → ℕ
handle_count script = sum_by (λ p. length p.handles) script.processes

abbrev pub statement_count : ScriptLines → ℕ
statement_count script = sum_by (λ p. length p.lines) script.processes

-- all handles, process by process
abbrev pub handles_of : WorldState → List HandleState
handles_of w = flat_map (λ p. p.handles) w.guest.processes

-- every line is answered
abbrev pub IsDone : WorldState → Type 0
IsDone w = IsGuestDone w.guest

-- The world before the first line of a script: nothing was begun, nothing is under way, and all
-- event chains wait. As many sessions may be opened as the script has handles.
pub record IsOpening (script : ScriptLines) (w : WorldState) : Type 0 where
  pub is : w.script ≡ script
  pub guest : IsFreshGuest script w.guest
  pub device : w.host.device ≡ fresh_device script.model (handle_count script)
  pub calls : w.host.calls ≡ []
  pub requests : w.requests ≡ []
  pub replies : w.replies ≡ []
  pub chains : w.chains ≡ event_chains
  pub events : w.events ≡ []
