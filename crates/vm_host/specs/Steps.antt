-- The steps of the device's end of the link.
-- Source: own, after the VIRTIO 1.4 draft, "Media Device".
use Rattle.std.specs.Prelude.{ℕ, ◌≡◌, ◌≤◌, ◌+◌, Bool, true, false, Option, Some, None, Result, Ok, Err, IfOk, IfSome, List, [], ◌∷◌, ◌++◌, length, nat_lt, Contains, ⊤}
use Rattle.vm_chain.specs.Chain.{readable_bytes, writable_bytes}
use Rattle.vm_chain.specs.declared.desc.Desc.{Desc}
use Rattle.vm_chain.specs.declared.fault.ChainFault.{ChainFault}
use Rattle.vm_frame.specs.declared.mem.Held.{Held}
use Rattle.vm_job.specs.Job.{JobParts, DoneParts}
use Rattle.vm_link.specs.Queue.{Queue, heads_of, out_heads, finished}
use Rattle.vm_link.specs.declared.chains.DoneChain.{DoneChain}
use Rattle.vm_link.specs.declared.link.Turn.{Turn}
use Rattle.vm_link.specs.declared.link.Turn.TheVariants.{Did, Idle}
use Rattle.vm_link.specs.declared.parcel.Parcel.{Parcel}
use Rattle.vm_wire.specs.declared.command.Command.{Command}
use Rattle.vm_wire.specs.declared.command.CmdFault.{CmdFault}
use Rattle.vm_wire.specs.Event.{IsEvent}
use Rattle.vm_wire.specs.declared.event.EventMsg.{EventMsg}
use Rattle.vm_device.specs.Device.{DeviceState, session_of, is_at_rest}
use Rattle.vm_device.specs.Perform.{Answer, Performs, HasPlaceFor, must_wait}
use Rattle.vm_device.specs.Stream.{Begins as BeginsIn, Finishes as FinishesIn, Sends}
use Rattle.vm_host.specs.Chains.{Sent, chain_in, asked_by, behind, HasRoomFor, named_session, refusal_of_fault, sent_empty, sent_reply, sent_event}
use Rattle.vm_host.specs.Host.{HostState, waiting_for, with_call, without_call, waits}
use Rattle.vm_host.specs.declared.chains.Fate.{Fate}
use Rattle.vm_host.specs.declared.chains.Fate.TheVariants.{Returns, Waits}
use Rattle.vm_host.specs.declared.waiting.Waiting.{Waiting}

-- ---- chains of the queues

-- the chain of so many descriptors that was sent under this head
abbrev pub done_as : ℕ → ℕ → Sent → DoneChain
done_as head count sent =
    record {
      finished = record { head = head; used = sent.used; parcel = sent.parcel };
      count = count;
    }

-- The chain that waited first, of so many descriptors, waits no more: it stands behind those that
-- are finished, as it was sent, or it was taken and isn't finished.
abbrev pub moved_on : Queue → List Parcel → ℕ → ℕ → Option Sent → Queue
moved_on q rest head count (Some sent) =
    record q { waiting = rest; done = q.done ++ done_as head count sent ∷ [] }
moved_on q rest head count None =
    record q { waiting = rest; out = q.out ++ record { head = head; count = count } ∷ [] }

-- ---- a chain is served

-- The command of a chain is done, with the bytes behind it and the chain's memories, and its reply
-- goes back.
abbrev pub Completes : DeviceState → Parcel → List Desc → Command → Sent → DeviceState → Type 0
Completes d p descs c sent d' =
    (a : Answer) × Performs d c (behind c descs p.pages) p.held a ×
    (sent ≡ sent_reply p descs a.response a.held)
    × (d' ≡ a.device)

-- The call of a command in a chain that was taken under a head waits.
abbrev pub BeginsToWait : HostState → Parcel → ℕ → Command → HostState → Type 0
BeginsToWait h p head c h' =
    (session : ℕ) × (named_session c ≡ Some session)
    × (h' ≡ record h {
      waiting = with_call
          (record { session = session; head = head; parcel = p }) h.waiting;
    })

-- A command that has to wait isn't answered yet.
abbrev pub ServesCommand : Bool → HostState → Parcel → ℕ → List Desc → Command → Option Sent →
    HostState → Type 0
ServesCommand true h p head descs c sent h' = (sent ≡ None) × BeginsToWait h p head c h'
ServesCommand false h p head descs c sent h' =
    (reply : Sent) × (d' : DeviceState) × Completes h.device p descs c reply d' ×
    (sent ≡ Some reply)
    × (h' ≡ record h { device = d' })

-- A malformed command is refused by its fault, and changes nothing.
abbrev pub ServesAsked : Result Command CmdFault → HostState → Parcel → ℕ → List Desc →
    Option Sent → HostState → Type 0
ServesAsked (Ok c) h p head descs sent h' =
    ServesCommand (must_wait h.device c) h p head descs c sent h'
ServesAsked (Err f) h p head descs sent h' =
    (sent ≡ Some (sent_reply p descs (refusal_of_fault f) p.held)) × (h' ≡ h)

-- A chain with too few bytes to write goes back empty, and changes nothing.
abbrev pub ServesRoom : Bool → HostState → Parcel → ℕ → List Desc → Option Sent → HostState → Type 0
ServesRoom true h p head descs sent h' = (sent ≡ Some (sent_empty p)) × (h' ≡ h)
ServesRoom false h p head descs sent h' =
    ServesAsked (asked_by descs p.pages) h p head descs sent h'

-- What becomes of a parcel that was taken under a head, whose chain has these descriptors or a
-- fault: it goes back, or its call waits. One with a fault goes back empty.
abbrev pub Serves : Result (List Desc) ChainFault → HostState → Parcel → ℕ → Option Sent →
    HostState → Type 0
Serves (Err fault) h p head sent h' = (sent ≡ Some (sent_empty p)) × (h' ≡ h)
Serves (Ok descs) h p head sent h' =
    ServesRoom (nat_lt (writable_bytes descs) 8) h p head descs sent h'

-- The first chain that waits is taken and served; where none waits, nothing is done.
abbrev pub Executes : List Parcel → HostState → Queue → Turn → HostState → Queue → Type 0
Executes [] h q turn h' q' = (turn ≡ Idle) × (h' ≡ h) × (q' ≡ q)
Executes (p ∷ ps) h q turn h' q' =
    (turn ≡ Did) × ((head : ℕ) × (sent : Option Sent) × (¬ Contains (heads_of q) head) ×
    Serves (chain_in p) h p head sent h'
    × (q' ≡ moved_on q ps head (length p.table) sent))

-- what is asked of the chain that waits first, if any, where its command is to be done
abbrev pub AsksOf : (Command → Type 0) → List Parcel → Type 0
AsksOf P [] = ⊤
AsksOf P (p ∷ ps) = IfOk (chain_in p) (λ descs. IfOk (asked_by descs p.pages) P)

-- there is a place for what it adds
abbrev pub HasPlace : DeviceState → List Parcel → Type 0
HasPlace d waiting = AsksOf (HasPlaceFor d) waiting

-- no call of its session waits
abbrev pub IsAlone : HostState → List Parcel → Type 0
IsAlone h waiting =
    AsksOf (λ c. IfSome (named_session c) (λ session. waits h session ≡ false)) waiting

-- there is room for what the command of the chain that waits first, if any, may give back
abbrev pub HasRoom : List Parcel → Type 0
HasRoom [] = ⊤
HasRoom (p ∷ ps) = IfOk (chain_in p) (λ descs. IfOk (asked_by descs p.pages) (HasRoomFor p))

-- ---- a call that waited goes on

-- The command of a parcel whose chain was taken before is done, and its reply goes back.
abbrev pub GoesOn : DeviceState → Parcel → Sent → DeviceState → Type 0
GoesOn d p sent d' =
    (descs : List Desc) × (c : Command) × (chain_in p ≡ Ok descs) × (asked_by descs p.pages ≡ Ok c)
    × Completes d p descs c sent d'

-- The call of a session that waits is done as the session is quiet, and its chain goes back.
abbrev pub ResumesCall : Bool → Option Waiting → HostState → Queue → Turn → HostState → Queue →
    Type 0
ResumesCall true (Some w) h q turn h' q' =
    (turn ≡ Did) × ((sent : Sent) × (d' : DeviceState) × GoesOn h.device w.parcel sent d'
    × (h' ≡ record { device = d'; waiting = without_call w.session h.waiting })
    × (q' ≡ finished q (record { head = w.head; used = sent.used; parcel = sent.parcel })))
ResumesCall true None h q turn h' q' = (turn ≡ Idle) × (h' ≡ h) × (q' ≡ q)
ResumesCall false call h q turn h' q' = (turn ≡ Idle) × (h' ≡ h) × (q' ≡ q)

-- Nothing is done exactly where no call of the session waits or the session isn't quiet.
abbrev pub Resumes : ℕ → HostState → Queue → Turn → HostState → Queue → Type 0
Resumes session h q turn h' q' =
    ResumesCall (is_at_rest (session_of h.device session))
    (waiting_for session h.waiting) h q turn h' q'

-- the chain of a session's waiting call, if one waits, is taken and not finished
abbrev pub IsOut : ℕ → HostState → Queue → Type 0
IsOut session h q = IfSome (waiting_for session h.waiting) (λ w. Contains (out_heads q) w.head)

-- ---- jobs

-- no job of a session begins while a call of it waits
abbrev pub BeginsUnless : Bool → ℕ → HostState → Option JobParts → HostState → Type 0
BeginsUnless true session h job h' = (job ≡ None) × (h' ≡ h)
BeginsUnless false session h job h' =
    BeginsIn h.device session job h'.device × (h'.waiting ≡ h.waiting)

abbrev pub Begins : ℕ → HostState → Option JobParts → HostState → Type 0
Begins session h job h' = BeginsUnless (waits h session) session h job h'

abbrev pub Finishes : HostState → DoneParts → HostState → Type 0
Finishes h done h' = FinishesIn h.device done h'.device × (h'.waiting ≡ h.waiting)

-- ---- events

-- An event chain with these descriptors, which was taken under a head, goes back with the oldest
-- event.
abbrev pub Announce : Parcel → List Desc → ℕ → HostState → Sent → HostState → Type 0
Announce p descs head h sent h' =
    (msg : EventMsg) × (memory : Option Held) ×
    Sends h.device h.device.unsent (Some (msg, memory)) h'.device
    × (h'.waiting ≡ h.waiting) × (sent ≡ sent_event p descs msg memory) × IsEvent msg

-- Nothing is done exactly where no event is unsent or no event chain waits.
abbrev pub AnnouncesIf : Bool → List Parcel → HostState → Queue → Turn → HostState → Queue → Type 0
AnnouncesIf true (p ∷ ps) h q turn h' q' =
    (turn ≡ Did) × ((head : ℕ) × (descs : List Desc) × (sent : Sent) ×
    (¬ Contains (heads_of q) head)
    × (chain_in p ≡ Ok descs) × Announce p descs head h sent h' ×
    (q' ≡ moved_on q ps head (length p.table) (Some sent)))
AnnouncesIf true [] h q turn h' q' = (turn ≡ Idle) × (h' ≡ h) × (q' ≡ q)
AnnouncesIf false waiting h q turn h' q' = (turn ≡ Idle) × (h' ≡ h) × (q' ≡ q)

abbrev pub Announces : HostState → Queue → Turn → HostState → Queue → Type 0
Announces h q turn h' q' = AnnouncesIf (nat_lt 0 (length h.device.unsent)) q.waiting h q turn h' q'

-- a chain without a fault, with nothing to read and room for an event
abbrev pub TakesEvent : Parcel → Type 0
TakesEvent p =
    (descs : List Desc) × (chain_in p ≡ Ok descs) × (readable_bytes descs ≡ 0) ×
    (608 ≤ writable_bytes descs)

-- there is room for one memory more behind those of the chain that waits first, if any
abbrev pub HasRoomForOne : List Parcel → Type 0
HasRoomForOne [] = ⊤
HasRoomForOne (p ∷ ps) = length p.held + 1 ≤ p.room

-- where an event is unsent, the first event chain that waits, if any, takes it
abbrev pub IsReadyForEvent : HostState → List Parcel → Type 0
IsReadyForEvent h [] = ⊤
IsReadyForEvent h (p ∷ ps) = nat_lt 0 (length h.device.unsent) ≡ true → TakesEvent p

-- ---- what became of a chain

-- how a chain goes back that has become this, if it does
abbrev pub sent_as : Fate → Parcel → Option Sent
sent_as (Returns used) p = Some (record { used = used; parcel = p })
sent_as (Waits session) p = None

-- the calls that wait then, where the chain was taken under a head
abbrev pub calls_after : Fate → Parcel → ℕ → List Waiting → List Waiting
calls_after (Returns used) p head calls = calls
calls_after (Waits session) p head calls =
    with_call (record { session = session; head = head; parcel = p }) calls

-- the descriptors of a chain, unless it has a fault
abbrev pub ok_unless : Option ChainFault → List Desc → Result (List Desc) ChainFault
ok_unless None descs = Ok descs
ok_unless (Some fault) descs = Err fault

-- A parcel whose chain has this fault or these descriptors is served, whatever its head is and
-- whichever calls wait.
abbrev pub Served : Option ChainFault → List Desc → Parcel → DeviceState → Fate → Parcel →
    DeviceState → Type 0
Served fault descs p d fate p' d' =
    (head : ℕ) (calls : List Waiting)
    → Serves (ok_unless fault descs) (record { device = d; waiting = calls }) p head
    (sent_as fate p')
    (record { device = d'; waiting = calls_after fate p' head calls })
