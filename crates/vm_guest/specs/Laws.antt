-- What the driver does at its end of the link is its part of the step, over what is said there;
-- each script that is read is one for it; and what is told of raw lines.
use Rattle.std.specs.Prelude.{ℕ, ◌≡◌, ◌+◌, ◌<◌, ◌^◌, nat_lt, List, [], ◌∷◌, ◌++◌, length, map, Some, Result, Ok, Err, if◌then◌else◌}
use Rattle.v4l_const.specs.Errno.{errno_number}
use Rattle.v4l_const.specs.declared.errno.Errno.{Errno}
use Rattle.vm_chain.specs.Chain.{writable_bytes}
use Rattle.vm_chain.specs.Walk.{walk_of}
use Rattle.vm_chain.specs.declared.desc.Desc.{Desc}
use Rattle.vm_chain.specs.declared.fault.ChainFault.{ChainFault}
use Rattle.vm_link.specs.Queue.{Queues}
use Rattle.vm_link.specs.declared.link.Turn.{Turn}
use Rattle.vm_link.specs.declared.parcel.Parcel.{Parcel}
use Rattle.vm_script.specs.Reading.{IsReadProcess}
use Rattle.vm_script.specs.Script.{ProcessLines}
use Rattle.vm_script.specs.declared.line.RawChain.{RawChain}
use Rattle.vm_wire.specs.Message.{Ask}
use Rattle.vm_wire.specs.Message.Ask.{Unusable, Judged}
use Rattle.vm_wire.specs.Wire.{judged, response_bytes}
use Rattle.vm_wire.specs.declared.response.Response.TheVariants.{Refused}
use Rattle.vm_guest.specs.Guest.{GuestState}
use Rattle.vm_wire.specs.Message.{Posting}
use Rattle.vm_guest.specs.Message.{Sending, Carries, posting_of, returning_of}
use Rattle.vm_guest.specs.Orderly.{IsFitProcess}
use Rattle.vm_guest.specs.Part.{Inbox, Outbox, Issues, Collects, Pumps}
use Rattle.vm_guest.specs.Chain.{command_page, reply_page}
use Rattle.vm_guest.specs.Raw.{raw_table, raw_bytes, raw_ask, errno_told, IsFitRaw}
use Rattle.vm_guest.specs.Queues.{AreEvents, IssuesAt, CollectsAt, PumpsAt}

-- what the queues have for the driver
pub record Shows (queues : Queues) (i : Inbox) : Type 0 where
  pub replies : i.replies ≡ map (λ c. returning_of c.finished) queues.command.done
  pub events : AreEvents queues.event.done i.events

-- the parcel says this
abbrev pub Says : Posting → Parcel → Type 0
Says m parcel =
    (sending : Sending) × Carries parcel.who sending parcel × (m ≡ posting_of parcel.who sending)

-- the parcels say these, in order
abbrev pub AllSay : List Posting → List Parcel → Type 0
AllSay [] [] = Unit {0}
AllSay [] (p ∷ ps) = ⊥
AllSay (m ∷ ms) [] = ⊥
AllSay (m ∷ ms) (p ∷ ps) = Says m p × AllSay ms ps

-- behind what waited, what a step posts waits
pub record Adds (o : Outbox) (queues queues' : Queues) : Type 0 where
  pub parcels : List Parcel
  pub commands : queues'.command.waiting ≡ queues.command.waiting ++ parcels
  pub say : AllSay o.commands parcels
  pub chains : length queues'.event.waiting ≡ length queues.event.waiting + o.chains

-- From these queues, which have this for the driver, a step leads to those, and does its part.
abbrev pub IsPart : (Inbox → Inbox → Outbox → Type 0) → Queues → Queues → Inbox → Type 0
IsPart Step queues queues' i =
    (left : Inbox) × (out : Outbox) × Step i left out × Shows queues' left × Adds out queues queues'

abbrev pub IssuesAsPart : Type 0
IssuesAsPart =
    (n : ℕ) (g g' : GuestState) (queues queues' : Queues) (turn : Turn) (i : Inbox) →
    Shows queues i → IssuesAt n g queues turn g' queues' →
    IsPart (λ j left out. Issues n g j turn g' left out) queues queues' i

abbrev pub CollectsAsPart : Type 0
CollectsAsPart =
    (g g' : GuestState) (queues queues' : Queues) (turn : Turn) (i : Inbox) →
    Shows queues i → CollectsAt g queues turn g' queues' →
    IsPart (λ j left out. Collects g j turn g' left out) queues queues' i

abbrev pub PumpsAsPart : Type 0
PumpsAsPart =
    (g g' : GuestState) (queues queues' : Queues) (turn : Turn) (i : Inbox) →
    Shows queues i → PumpsAt g queues turn g' queues' →
    IsPart (λ j left out. Pumps g j turn g' left out) queues queues' i

-- a process that a reader gives is one for the driver
abbrev pub ReadLinesFit : Type 0
ReadLinesFit = (p : ProcessLines) → IsReadProcess p → IsFitProcess p

-- What a chain with these bytes at its front asks, by the outcome of its walk: nothing where it has
-- a fault, or fewer than 8 bytes to write.
abbrev pub walked_ask : Result (List Desc) ChainFault → List ℕ → Ask
walked_ask (Err fault) bytes = Unusable
walked_ask (Ok descs) bytes =
    if nat_lt (writable_bytes descs) 8 then Unusable
    else Judged (judged bytes (writable_bytes descs))

-- the walk of a raw line's chain, in the two pages of its process
abbrev pub raw_walk : ℕ → RawChain → Result (List Desc) ChainFault
raw_walk p chain = walk_of (raw_table p chain) 0 64 (command_page p ∷ reply_page p ∷ [])

-- what a raw line asks is what its chain does
abbrev pub RawLinesAskByChain : Type 0
RawLinesAskByChain =
    (p : ℕ) (chain : RawChain) → p < 2 ^ 16 → IsFitRaw chain →
    raw_ask chain ≡ walked_ask (raw_walk p chain) (raw_bytes chain)

-- a refusal of the device tells its errno
abbrev pub RefusalsAreTold : Type 0
RefusalsAreTold = (e : Errno) → errno_told (response_bytes (Refused (errno_number e))) ≡ Some e
