-- How many steps may be left in a world, at most; and how many frames failed.
use Rattle.std.specs.Prelude.{ℕ, ◌+◌, ◌-◌, ◌*◌, List, [], ◌++◌, length, map, sum_by, Option, Some, None, Ok, Err}
use Rattle.std.specs.List.{flat_map}
use Rattle.v4l_const.specs.declared.ioctl_code.IoctlCode.TheVariants.{QBuf}
use Rattle.vm_local.specs.declared.entry.Entry.{Entry}
use Rattle.vm_local.specs.declared.entry.Entry.TheVariants.{Bad}
use Rattle.vm_wire.specs.Message.{Ask}
use Rattle.vm_wire.specs.Message.Ask.{Unusable, Judged}
use Rattle.vm_wire.specs.declared.command.Command.{Command}
use Rattle.vm_wire.specs.declared.command.Command.TheVariants.{Ioctl}
use Rattle.vm_wire.specs.declared.event.EventMsg.{EventMsg}
use Rattle.vm_session.specs.State.{SessionState}
use Rattle.vm_exchange.specs.Messages.{flight_of}
use Rattle.vm_guest.specs.Process.{ProcessState, begun}
use Rattle.vm_realm.specs.World.{WorldState, jobs_out, leases_out, handles_of}

-- ---- the steps that are left

-- A posted command counts by what may still come of it: a buffer that is queued brings a frame, and
-- its event.
abbrev pub command_weight : Command → ℕ
command_weight (Ioctl session QBuf payload) = 9
command_weight c = 3

abbrev pub request_weight : Ask → ℕ
request_weight Unusable = 3
request_weight (Judged (Ok c)) = command_weight c
request_weight (Judged (Err fault)) = 3

-- how many lines of a process weren't begun
abbrev pub unbegun : ProcessState → ℕ
unbegun p = length p.statements - begun p

-- how many buffers are queued in a session, if it is live
abbrev pub queued_in : Option SessionState → ℕ
queued_in None = 0
queued_in (Some s) = sum_by (λ q. length q.queued) s.queues

-- A bound on the steps that are left: for each line that wasn't begun 12, for each request 9 or 3,
-- for each call that waits 2, for each reply 1, for each buffer that is queued in a session 6, for
-- each job that is out 5, for each event 2 until it is sent and 1 until it is taken, and for each
-- lease that is out 1.
abbrev pub left_of : WorldState → ℕ
left_of w =
    12 * sum_by unbegun w.guest.processes
    + sum_by (λ m. request_weight m.request.asks) w.requests
    + 2 * length w.host.calls
    + length w.replies
    + 6 * sum_by queued_in w.host.device.sessions
    + 5 * length (jobs_out w)
    + 2 * length w.host.device.unsent
    + length w.events
    + length (leases_out w)

-- ---- the frames that failed

abbrev pub one_if_bad : Entry → ℕ
one_if_bad Bad = 1
one_if_bad e = 0

abbrev pub bad_in : List Entry → ℕ
bad_in entries = sum_by one_if_bad entries

abbrev pub unsent_in : Option SessionState → List EventMsg
unsent_in None = []
unsent_in (Some s) = map (λ e. e.msg) s.unsent

-- the messages of the device that are under way, of all sessions: held back, sent, and unsent
abbrev pub messages_of : WorldState → List EventMsg
messages_of w =
    map (λ d. d.msg) w.guest.pump.held
    ++ (map (λ d. d.msg) w.events ++ flat_map unsent_in w.host.device.sessions)

-- how many frames failed, by all logs and by what is still to be logged
abbrev pub bad_count : WorldState → ℕ
bad_count w =
    sum_by (λ h. bad_in h.log.entries) (handles_of w)
    + bad_in (flight_of w.script.model (messages_of w))
