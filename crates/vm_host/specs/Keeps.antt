-- What the device's end of the link keeps to.
use Rattle.std.specs.Prelude.{ℕ, ◌≡◌, ◌≤◌, ◌<◌, ◌+◌, Bool, true, false, Some, Ok, List, [], ◌∷◌, length, ⊤}
use Rattle.vm_chain.specs.declared.desc.Desc.{Desc}
use Rattle.vm_link.specs.declared.parcel.Parcel.{Parcel}
use Rattle.vm_wire.specs.declared.command.Command.{Command}
use Rattle.vm_wire.specs.declared.command.Command.TheVariants.{OpenSession, CloseSession, Ioctl, Map, Unmap}
use Rattle.vm_device.specs.Device.{DeviceState}
use Rattle.vm_device.specs.Perform.{HasPlaceFor, must_wait}
use Rattle.vm_host.specs.Chains.{chain_in, asked_by, HasRoomFor, named_session}
use Rattle.vm_host.specs.Host.{HostState}
use Rattle.vm_host.specs.declared.waiting.Waiting.{Waiting}

-- a command that may have to wait for its session
abbrev pub may_wait : Command → Bool
may_wait OpenSession = false
may_wait (CloseSession session) = true
may_wait (Ioctl session code payload) = true
may_wait (Map session writable offset) = false
may_wait (Unmap addr) = false

-- The chain of a call that waits has no fault, and asks a command of the call's session that may
-- wait. There is room for the memories that go back with its reply.
pub record IsWaiting (w : Waiting) : Type 0 where
  pub descs : List Desc
  pub command : Command
  pub walked : chain_in w.parcel ≡ Ok descs
  pub asked : asked_by descs w.parcel.pages ≡ Ok command
  pub named : named_session command ≡ Some w.session
  pub waits : may_wait command ≡ true
  pub room : HasRoomFor w.parcel command

-- each of these calls does
abbrev pub AreWaiting : List Waiting → Type 0
AreWaiting [] = ⊤
AreWaiting (w ∷ ws) = IsWaiting w × AreWaiting ws

-- Such a chain asks a command that needs no place and needn't wait any more, and there is room for
-- the memories that go back with its reply.
pub record CanGoOn (d : DeviceState) (p : Parcel) : Type 0 where
  pub descs : List Desc
  pub command : Command
  pub walked : chain_in p ≡ Ok descs
  pub asked : asked_by descs p.pages ≡ Ok command
  pub place : HasPlaceFor d command
  pub waits : must_wait d command ≡ false
  pub room : HasRoomFor p command

-- the sessions of these calls rise, from a number on, and are below another one
abbrev pub RiseWithin : ℕ → ℕ → List Waiting → Type 0
RiseWithin from end [] = ⊤
RiseWithin from end (w ∷ ws) =
    (from ≤ w.session) × (w.session < end) × RiseWithin (w.session + 1) end ws

-- No more sessions were opened than may be, and the calls that wait are calls of these, by rising
-- session. So there are never more of them than sessions may be opened.
pub record IsSound (h : HostState) : Type 0 where
  pub few : length h.device.sessions ≤ h.device.opens
  pub rising : RiseWithin 0 (length h.device.sessions) h.waiting
  pub calls : AreWaiting h.waiting
