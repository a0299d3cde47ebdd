-- What one end of the link writes, the other reads: tables and pages say just what was said.
-- Source: own, after VIRTIO 1.3, 2.7 "Split Virtqueues", and the VIRTIO 1.4 draft, "Media Device".
use Rattle.std.specs.Prelude.{ℕ, ◌≡◌, ◌<◌, ◌≤◌, ◌+◌, true, List, [], length, None, Ok}
use Rattle.std.specs.Option.{option_to_list}
use Rattle.vm_chain.specs.Chain.{writable_bytes}
use Rattle.vm_chain.specs.declared.desc.Desc.{Desc}
use Rattle.vm_frame.specs.declared.mem.Held.{Held}
use Rattle.vm_link.specs.declared.chains.DoneChain.{DoneChain}
use Rattle.vm_link.specs.declared.parcel.Parcel.{Parcel}
use Rattle.vm_wire.specs.Event.{IsEvent}
use Rattle.vm_wire.specs.Message.{Returning}
use Rattle.vm_wire.specs.declared.command.Command.{Command}
use Rattle.vm_wire.specs.declared.delivery.Delivery.{Delivery}
use Rattle.vm_pump.specs.Pump.{session_of}
use Rattle.vm_device.specs.Perform.{gives_back}
use Rattle.vm_exchange.specs.Entries.{crossing_bytes}
use Rattle.vm_host.specs.Chains.{Sent, chain_in, asked_by, HasRoomFor, sent_empty, sent_with, sent_event}
use Rattle.vm_host.specs.Part.{posting_of as posting_in}
use Rattle.vm_host.specs.Steps.{TakesEvent}
use Rattle.vm_guest.specs.Chain.{IsChain, IsEventChain, chain_table}
use Rattle.vm_guest.specs.Message.{Sending, OfCall, OfRaw, Carries, posting_of, returning_of}
use Rattle.vm_guest.specs.Orderly.{process_limit}
use Rattle.vm_guest.specs.Queues.{Brings, emptied}
use Rattle.vm_guest.specs.Raw.{raw_table, IsFitRaw}

-- ---- from the driver to the device

-- What a process may send: the bytes of a raw line stay in their pages, and no memory goes along
-- with a command that gives memories back.
abbrev pub IsFit : Sending → Type 0
IsFit (OfCall c along) = gives_back c.command ≡ true → along ≡ None
IsFit (OfRaw chain) = IsFitRaw chain

-- the device reads in a parcel just what the process sends in it
abbrev pub IsRead : Type 0
IsRead =
    (n : ℕ) (sending : Sending) (p : Parcel) → n < process_limit → IsFit sending →
    Carries n sending p → posting_in p ≡ posting_of n sending

-- and finds room in it for the memories that it gives back
abbrev pub HasRoom : Type 0
HasRoom =
    (n : ℕ) (sending : Sending) (p : Parcel) (descs : List Desc) (c : Command) →
    n < process_limit → IsFit sending → Carries n sending p → chain_in p ≡ Ok descs →
    asked_by descs p.pages ≡ Ok c → HasRoomFor p c

-- ---- from the device to the driver

-- the table with which a process posts what it sends
abbrev pub table_of : ℕ → Sending → List Desc
table_of n (OfCall c along) = chain_table n (length (crossing_bytes c))
table_of n (OfRaw chain) = raw_table n chain

-- The parcel is the process's chain, with the table and the pages with which it was posted for what
-- the process sent, whatever stands in the pages and whichever memories are in it now.
abbrev pub IsChainOf : ℕ → Sending → Parcel → Type 0
IsChainOf n sending p = IsChain n (table_of n sending) [] p.held p

-- a chain that goes back is the one that was posted, and says this
pub record ComesBack (n : ℕ) (sending : Sending) (head : ℕ) (sent : Sent)
    (r : Returning) : Type 0 where
  pub chain : IsChainOf n sending sent.parcel
  pub says : returning_of (record { head = head; used = sent.used; parcel = sent.parcel }) ≡ r

-- the bytes that the device writes are those that the driver reads
abbrev pub IsReturned : Type 0
IsReturned =
    (n head : ℕ) (sending : Sending) (p : Parcel) (descs : List Desc) (bytes : List ℕ)
    (held : List Held) → n < process_limit → IsFit sending → Carries n sending p →
    chain_in p ≡ Ok descs → length bytes ≤ writable_bytes descs →
    ComesBack n sending head (sent_with p descs bytes held)
    (record { reply = record { who = n; bytes = bytes }; held = held })

-- and where it writes none the driver reads none
abbrev pub IsReturnedEmpty : Type 0
IsReturnedEmpty =
    (n head : ℕ) (sending : Sending) (p : Parcel) → Carries n sending p →
    ComesBack n sending head (sent_empty p)
    (record { reply = record { who = n; bytes = [] }; held = p.held })

-- ---- events

-- an event chain takes any event, and one memory with it
abbrev pub TakesEvents : Type 0
TakesEvents =
    (k : ℕ) (p : Parcel) → IsEventChain k [] p →
    TakesEvent p × (length p.held + 1 ≤ p.room)

-- the chain that brings an event, which the driver reads as the device sent it
pub record BringsBack (k head : ℕ) (sent : Sent) (d : Delivery) : Type 0 where
  pub chain : IsEventChain k (option_to_list d.held) sent.parcel
  pub brings : Brings (record { head = head; used = sent.used; parcel = sent.parcel }) d

-- an event of a session comes to the driver in its chain as it left the device
abbrev pub IsDelivered : Type 0
IsDelivered =
    (k head : ℕ) (p : Parcel) (descs : List Desc) (d : Delivery) → IsEventChain k [] p →
    chain_in p ≡ Ok descs → IsEvent d.msg → session_of d.msg ≡ d.session →
    BringsBack k head (sent_event p descs d.msg d.held) d

-- and once its memory is taken out, it is the event chain that was posted
abbrev pub IsPostedAgain : Type 0
IsPostedAgain =
    (k : ℕ) (held : List Held) (c : DoneChain) → IsEventChain k held c.finished.parcel →
    IsEventChain k [] (emptied c)
