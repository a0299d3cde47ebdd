-- What the link's parcels are to the world: each is what it says.
use Rattle.std.specs.Prelude.{ℕ, ◌≡◌, ◌≢◌, ◌≤◌, ◌<◌, ◌==◌, List, [], ◌∷◌, Some, All, length, map, sum_by, find, take, drop, if◌then◌else◌}
use Rattle.v4l_layout.specs.declared.event_rec.EventRec.{EventRec}
use Rattle.vm_link.specs.Queue.{Queue, Queues}
use Rattle.vm_link.specs.declared.chains.DoneChain.{DoneChain}
use Rattle.vm_link.specs.declared.chains.OutChain.{OutChain}
use Rattle.vm_link.specs.declared.parcel.Parcel.{Parcel}
use Rattle.vm_wire.specs.Buffers.{buffer_in}
use Rattle.vm_wire.specs.Event.{SpellsEvent}
use Rattle.vm_wire.specs.Wire.{number_at, long_at}
use Rattle.vm_wire.specs.declared.delivery.Delivery.{Delivery}
use Rattle.vm_wire.specs.declared.event.EventMsg.{EventMsg}
use Rattle.vm_wire.specs.declared.event.EventMsg.TheVariants.{Dequeued, Happened}
use Rattle.vm_pump.specs.Pump.{event_bytes_in, delivery_of}
use Rattle.vm_host.specs.Host.{HostState}
use Rattle.vm_host.specs.Part.{posting_of, part_of}
use Rattle.vm_host.specs.declared.waiting.Waiting.{Waiting}
use Rattle.vm_script.specs.Script.{ScriptLines}
use Rattle.vm_script.specs.declared.line.LineKind.{LineKind}
use Rattle.vm_script.specs.declared.line.LineKind.TheVariants.{OnHandle, Raw}
use Rattle.vm_guest.specs.Chain.{IsEventChain}
use Rattle.vm_guest.specs.Guest.{GuestState, process_at}
use Rattle.vm_guest.specs.Message.{Sending, OfCall, OfRaw, Carries, returning_of}
use Rattle.vm_guest.specs.Orderly.{process_limit}
use Rattle.vm_guest.specs.Process.{crossing}
use Rattle.vm_guest.specs.Queues.{CameBack}
use Rattle.vm_guest.specs.declared.asked.Statement.{Statement}
use Rattle.vm_across.specs.Across.{IsFit, IsChainOf}
use Rattle.vm_realm.specs.World.{WorldState}

-- how many descriptors the queues of commands and of events have at least
abbrev pub command_room : ℕ
command_room = 64

abbrev pub event_room : ℕ
event_room = 16

abbrev pub IsEmpty : Queue → Type 0
IsEmpty q = (q.waiting ≡ []) × (q.out ≡ []) × (q.done ≡ [])

-- ---- what the link says

-- the record of an event that is no buffer's
abbrev pub event_record_in : List ℕ → EventRec
event_record_in bytes = record {
  kind = number_at 0 bytes;
  u = take 64 (drop 8 bytes);
  pending = number_at 72 bytes;
  sequence = number_at 76 bytes;
  seconds = long_at 80 bytes;
  nanos = long_at 88 bytes;
  id = number_at 96 bytes;
}

-- the message that bytes spell
abbrev pub message_in : List ℕ → EventMsg
message_in bytes =
    if number_at 0 bytes == 1 then Dequeued (number_at 4 bytes) (buffer_in (drop 8 bytes))
    else Happened (number_at 4 bytes) (event_record_in (drop 8 bytes))

-- the event that a chain brings
abbrev pub event_in : DoneChain → Delivery
event_in d =
    delivery_of (message_in (event_bytes_in d.finished)) d.finished.parcel.held

-- the world by its two ends and the link's queues
abbrev pub world_of : ScriptLines → GuestState → HostState → Queues → WorldState
world_of script guest host queues = record {
  script = script;
  guest = guest;
  host = part_of host;
  requests = map posting_of queues.command.waiting;
  replies = map (λ d. returning_of d.finished) queues.command.done;
  chains = length queues.event.waiting;
  events = map event_in queues.event.done;
}

-- the world where this is what is on the link
abbrev pub over : Queues → WorldState → WorldState
over queues w = record w {
  requests = map posting_of queues.command.waiting;
  replies = map (λ d. returning_of d.finished) queues.command.done;
  chains = length queues.event.waiting;
  events = map event_in queues.event.done;
}

-- ---- the chains of the processes

-- a process sends this for such a line
abbrev pub IsFor : LineKind → Sending → Type 0
IsFor (OnHandle h call) (OfCall c along) = Unit {0}
IsFor (Raw chain) (OfRaw sent) = sent ≡ chain
IsFor (OnHandle h call) (OfRaw sent) = ⊥
IsFor (Raw chain) (OfCall c along) = ⊥

-- The process has sent this for its line that is on its way.
pub record HasSent (g : GuestState) (n : ℕ) (sending : Sending) : Type 0 where
  pub within : n < process_limit
  pub statement : Statement
  pub under_way : crossing (process_at g n) ≡ Some statement
  pub for : IsFor statement.what sending
  pub fit : IsFit sending

-- a chain as its process posted it
abbrev pub IsPosted : GuestState → Parcel → Type 0
IsPosted g p = (sending : Sending) × HasSent g p.who sending × Carries p.who sending p

-- A chain that was finished is the one that its process posted, and no longer than it was then.
abbrev pub IsBack : GuestState → DoneChain → Type 0
IsBack g d =
    (sending : Sending) × HasSent g d.finished.parcel.who sending
    × IsChainOf d.finished.parcel.who sending d.finished.parcel × (d.count ≤ 2)

-- ---- the chains of calls that wait

abbrev pub ApartFrom : ℕ → List Waiting → Type 0
ApartFrom head ws = All (λ w. w.head ≢ head) ws

-- no two of them have one head
abbrev pub HaveOwnHeads : List Waiting → Type 0
HaveOwnHeads [] = Unit {0}
HaveOwnHeads (w ∷ ws) = ApartFrom w.head ws × HaveOwnHeads ws

-- the chain of a call that waits is one of these
abbrev pub IsOutAs : List OutChain → Waiting → Type 0
IsOutAs out w =
    find (λ o. o.head == w.head) out ≡
    Some (record { head = w.head; count = length w.parcel.table })

-- Just the chains of the calls that wait are taken and not finished.
pub record KeepsOut (out : List OutChain) (ws : List Waiting) : Type 0 where
  pub each : All (IsOutAs out) ws
  pub apart : HaveOwnHeads ws
  pub total : sum_by (λ o. o.count) out ≤ sum_by (λ w. length w.parcel.table) ws

-- ---- the event chains

abbrev pub WaitsForEvent : Parcel → Type 0
WaitsForEvent p = (k : ℕ) × IsEventChain k [] p

-- an event chain that came back brings an event
abbrev pub BringsOne : DoneChain → Type 0
BringsOne d =
    CameBack d × SpellsEvent (event_bytes_in d.finished) (message_in (event_bytes_in d.finished))

-- So many event chains wait in a queue of this size, and nothing else is in it.
pub record HasPosted (count size : ℕ) (q : Queue) : Type 0 where
  pub size_is : q.size ≡ size
  pub waiting : All WaitsForEvent q.waiting
  pub count_is : length q.waiting ≡ count
  pub out : q.out ≡ []
  pub done : q.done ≡ []

-- ---- both queues

-- What is on the link: the chains of processes whose lines are on their way, and the event chains.
pub record IsCarried (g : GuestState) (h : HostState) (queues : Queues) : Type 0 where
  pub room : command_room ≤ queues.command.size
  pub posted : All (IsPosted g) queues.command.waiting
  pub waiting : All (λ w. IsPosted g w.parcel) h.waiting
  pub out : KeepsOut queues.command.out h.waiting
  pub back : All (IsBack g) queues.command.done
  pub free : All WaitsForEvent queues.event.waiting
  pub brought : All BringsOne queues.event.done
