-- What the device answers to a command, and what it is after it. All is this project's own, after
-- the sessions of the VIRTIO 1.4 draft's media device.
use Rattle.std.specs.Prelude.{ℕ, ◌≡◌, ◌<◌, ◌-◌, ◌^◌, ◌⊎◌, ◌&&◌, Bool, true, false, not, Option, Some, None, Result, Ok, Err, List, [], ◌∷◌, ◌++◌, length, ⊤}
use Rattle.v4l_const.specs.Errno.{errno_number}
use Rattle.v4l_const.specs.declared.errno.Errno.{Errno}
use Rattle.v4l_const.specs.declared.errno.Errno.TheVariants.{Einval, Enomem, Ebadf}
use Rattle.v4l_const.specs.declared.ioctl_code.IoctlCode.{IoctlCode}
use Rattle.vm_frame.specs.declared.mem.Held.{Held}
use Rattle.vm_region.specs.Region.{RegionState, Maps, Unmaps, map_count, range_at, range_of}
use Rattle.vm_region.specs.declared.live_range.LiveRange.{LiveRange}
use Rattle.vm_wire.specs.Payload.{HasItsLength}
use Rattle.vm_wire.specs.declared.command.Command.{Command}
use Rattle.vm_wire.specs.declared.command.Command.TheVariants.{OpenSession, CloseSession, Ioctl, Map, Unmap}
use Rattle.vm_wire.specs.declared.response.Response.{Response}
use Rattle.vm_wire.specs.declared.response.Response.TheVariants.{Refused, Opened, Closed, Answered, Mapped, Unmapped}
use Rattle.vm_session.specs.State.{SessionState, opening_session, is_quiet}
use Rattle.vm_session.specs.Buffers.{queued_memories}
use Rattle.vm_session.specs.Rows.{IoctlAnswer, ioctl_outcome, held_after, puts_back, stops}
use Rattle.vm_device.specs.Brought.{comes_with}
use Rattle.vm_device.specs.Device.{DeviceState, session_of, with_session, without_session}
use Rattle.vm_device.specs.Mappings.{frame_in, pages_of}

-- a reply, the memories that go with it, and the device after it
pub record Answer : Type 0 where
  pub response : Response
  pub held : List Held
  pub device : DeviceState

-- a refusal leaves the device as it was
abbrev pub refused : Errno → List Held → DeviceState → Answer
refused errno held d = record { response = Refused (errno_number errno); held = held; device = d }

-- ---- sessions

-- The next session is opened, under the next id. Whether there is memory for it is free.
abbrev pub opened : Bool → List Held → DeviceState → Answer
opened true held d = record {
  response = Opened (length d.sessions);
  held = held;
  device = record d {
    sessions = d.sessions ++ Some (opening_session d.model (length d.sessions)) ∷
        [];
  };
}
opened false held d = refused Enomem held d

-- A session is closed, if it is live: all its queues stop, and the memories that are queued in it
-- go back. What is mapped of its frames stays so.
abbrev pub closed : DeviceState → ℕ → List Held → Option SessionState → Answer
closed d id held None = refused Ebadf held d
closed d id held (Some s) = record {
  response = Closed;
  held = held ++ queued_memories s.queues;
  device = without_session d id;
}

-- ---- calls in a session

-- what a call that came with these memories gives
abbrev pub called : DeviceState → ℕ → IoctlCode → List Held → Result IoctlAnswer Errno → Answer
called d id code held (Ok a) = record {
  response = Answered a.payload;
  held = held_after code held a.back;
  device = with_session d id a.next;
}
called d id code held (Err errno) = refused errno held d

-- The session does the call with what it comes with, if nothing is wrong with that. Where it
-- refuses the call, what came goes back as it came on the wire. Whether memory came for its frames
-- is free.
abbrev pub called_with : Bool → DeviceState → ℕ → SessionState → IoctlCode → List ℕ → List Held →
    Result (List Held) Errno → Answer
called_with memory d id s code payload held (Ok come) =
    called d id code come (ioctl_outcome memory s code payload come)
called_with memory d id s code payload held (Err errno) = refused errno held d

-- a call with these bytes behind its payload and these memories, in a session if it is live
abbrev pub in_session : Bool → DeviceState → ℕ → Option SessionState → IoctlCode → List ℕ → List ℕ →
    List Held → Answer
in_session memory d id None code payload wire held = refused Ebadf held d
in_session memory d id (Some s) code payload wire held =
    called_with memory d id s code payload held (comes_with s code payload wire held)

-- the reply to a call with this outcome, whose payload is this one after it
abbrev pub reply_to : Result (Unit {0}) Errno → List ℕ → Response
reply_to (Ok done) payload = Answered payload
reply_to (Err errno) payload = Refused (errno_number errno)

-- ---- mappings

abbrev pub with_region : DeviceState → RegionState → DeviceState
with_region d region = record d { region = region }

-- The frame of this tag and length is mapped: its range's address and its length are told. Whether
-- there is memory is free.
abbrev pub MapsFrame : DeviceState → List Held → ℕ → ℕ → Answer → Type 0
MapsFrame d held tag len a =
    (a ≡ refused Enomem held d)
    ⊎ ((addr : ℕ) × (region : RegionState) ×
    Maps (range_of tag d.region.ranges) d.region tag (pages_of len) addr region
    × (a ≡ record { response = Mapped addr len; held = held; device = with_region d region }))

-- the same of a frame that is looked for
abbrev pub MapsFound : DeviceState → List Held → Result (ℕ × ℕ) Errno → Answer → Type 0
MapsFound d held (Ok frame) a = MapsFrame d held frame.0 frame.1 a
MapsFound d held (Err errno) a = a ≡ refused errno held d

-- a mapping of the live range that starts at an address is given back, if there is one
abbrev pub UnmapsAt : DeviceState → List Held → ℕ → Option LiveRange → Answer → Type 0
UnmapsAt d held addr (Some r) a =
    (region : RegionState) × Unmaps d.region addr r region
    × (a ≡ record { response = Unmapped; held = held; device = with_region d region })
UnmapsAt d held addr None a = a ≡ refused Einval held d

-- ---- commands

-- What a command with these bytes behind it and these memories may come to.
abbrev pub Performs : DeviceState → Command → List ℕ → List Held → Answer → Type 0
Performs d OpenSession wire held a = (memory : Bool) × (a ≡ opened memory held d)
Performs d (CloseSession id) wire held a = a ≡ closed d id held (session_of d id)
Performs d (Ioctl id code payload) wire held a =
    (memory : Bool) × (a ≡ in_session memory d id (session_of d id) code payload wire held)
Performs d (Map id writable offset) wire held a =
    MapsFound d held (frame_in (session_of d id) offset) a
Performs d (Unmap addr) wire held a = UnmapsAt d held addr (range_at addr d.region.ranges) a

-- ---- commands that wait

-- a live session has a job that runs or an event that is unsent
abbrev pub is_busy : Option SessionState → Bool
is_busy None = false
is_busy (Some s) = not (is_quiet s)

-- a call in a live session is a stopping one that isn't refused at once
abbrev pub stops_in : Option SessionState → IoctlCode → List ℕ → Bool
stops_in None code payload = false
stops_in (Some s) code payload = stops s code payload

-- the command stops queues of a session that is busy, so that it waits until the session is quiet
abbrev pub must_wait : DeviceState → Command → Bool
must_wait d OpenSession = false
must_wait d (CloseSession id) = is_busy (session_of d id)
must_wait d (Ioctl id code payload) =
    stops_in (session_of d id) code payload && is_busy (session_of d id)
must_wait d (Map id writable offset) = false
must_wait d (Unmap addr) = false

-- ---- what is asked of a command

-- the command may put back memories that are queued in its session
abbrev pub gives_back : Command → Bool
gives_back OpenSession = false
gives_back (CloseSession id) = true
gives_back (Ioctl id code payload) = puts_back code
gives_back (Map id writable offset) = false
gives_back (Unmap addr) = false

-- the payload has its length
abbrev pub FitsCall : Command → Type 0
FitsCall (Ioctl id code payload) = HasItsLength code payload
FitsCall c = ⊤

-- there is a place for what a command adds: a session, or a mapping in the journal
abbrev pub HasPlaceFor : DeviceState → Command → Type 0
HasPlaceFor d OpenSession = length d.sessions < d.opens
HasPlaceFor d (Map id writable offset) = map_count d.region.journal < 16384
HasPlaceFor d c = ⊤

-- a session made few enough frames for one more call
abbrev pub MadeFew : Option SessionState → Type 0
MadeFew None = ⊤
MadeFew (Some s) = s.made < 2 ^ 32 - 32

-- each live session did
abbrev pub EachMadeFew : DeviceState → Type 0
EachMadeFew d = (id : ℕ) → MadeFew (session_of d id)
