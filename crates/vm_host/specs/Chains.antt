-- What a chain asks, and how it goes back.
-- Source: own, after VIRTIO 1.3, 2.7 "Split Virtqueues", and the VIRTIO 1.4 draft, "Media Device".
use Rattle.std.specs.Prelude.{ℕ, ◌≡◌, ◌≤◌, ◌+◌, true, List, ◌++◌, length, drop, Option, Some, None, Result}
use Rattle.std.specs.Option.{option_to_list}
use Rattle.v4l_const.specs.Errno.{errno_number}
use Rattle.vm_chain.specs.Chain.{writable_bytes}
use Rattle.vm_chain.specs.Walk.{walk_of}
use Rattle.vm_chain.specs.declared.desc.Desc.{Desc}
use Rattle.vm_chain.specs.declared.fault.ChainFault.{ChainFault}
use Rattle.vm_frame.specs.declared.mem.Held.{Held}
use Rattle.vm_link.specs.Parcel.{homes_of}
use Rattle.vm_link.specs.declared.parcel.Parcel.{Parcel}
use Rattle.vm_mem.specs.declared.page.Page.{Page}
use Rattle.vm_wire.specs.Event.{event_bytes}
use Rattle.vm_wire.specs.Message.{errno_of_fault}
use Rattle.vm_wire.specs.Wire.{judged, command_bytes, response_bytes}
use Rattle.vm_wire.specs.declared.command.Command.{Command}
use Rattle.vm_wire.specs.declared.command.Command.TheVariants.{OpenSession, CloseSession, Ioctl, Map, Unmap}
use Rattle.vm_wire.specs.declared.command.CmdFault.{CmdFault}
use Rattle.vm_wire.specs.declared.event.EventMsg.{EventMsg}
use Rattle.vm_wire.specs.declared.response.Response.{Response}
use Rattle.vm_wire.specs.declared.response.Response.TheVariants.{Refused}
use Rattle.vm_carrier.specs.Carrier.{readable_of, written}
use Rattle.vm_device.specs.Perform.{gives_back}

-- ---- what a chain asks

-- how many descriptors of a chain the device visits at most
abbrev pub chain_limit : ℕ
chain_limit = 64

-- the descriptors of a parcel's chain, or its first fault
abbrev pub chain_in : Parcel → Result (List Desc) ChainFault
chain_in p = walk_of p.table 0 chain_limit (homes_of p)

-- the command that a chain's bytes are, or their first fault
abbrev pub asked_by : List Desc → List Page → Result Command CmdFault
asked_by descs pages = judged (readable_of descs pages) (writable_bytes descs)

-- the bytes of a chain behind those of its command
abbrev pub behind : Command → List Desc → List Page → List ℕ
behind c descs pages = drop (length (command_bytes c)) (readable_of descs pages)

-- there is room for the memories that a command may give back, 64 at most, behind those of its
-- chain
abbrev pub HasRoomFor : Parcel → Command → Type 0
HasRoomFor p c = gives_back c ≡ true → length p.held + 64 ≤ p.room

-- the session that a command names, if it names one
abbrev pub named_session : Command → Option ℕ
named_session OpenSession = None
named_session (CloseSession session) = Some session
named_session (Ioctl session code payload) = Some session
named_session (Map session writable offset) = Some session
named_session (Unmap addr) = None

abbrev pub refusal_of_fault : CmdFault → Response
refusal_of_fault f = Refused (errno_number (errno_of_fault f))

-- ---- how a chain goes back

-- how many bytes were written, and the parcel
pub record Sent : Type 0 where
  pub used : ℕ
  pub parcel : Parcel

-- nothing was written
abbrev pub sent_empty : Parcel → Sent
sent_empty p = record { used = 0; parcel = p }

-- these bytes stand at the front of what may be written, and these memories go along
abbrev pub sent_with : Parcel → List Desc → List ℕ → List Held → Sent
sent_with p descs bytes held = record {
  used = length bytes;
  parcel = record p { pages = written descs bytes p.pages; held = held };
}

-- with a reply
abbrev pub sent_reply : Parcel → List Desc → Response → List Held → Sent
sent_reply p descs response held = sent_with p descs (response_bytes response) held

-- with an event, whose memory goes behind those that the chain holds
abbrev pub sent_event : Parcel → List Desc → EventMsg → Option Held → Sent
sent_event p descs msg memory =
    sent_with p descs (event_bytes msg) (p.held ++ option_to_list memory)
