-- The steps of the driver at its end of the link, over the link's queues.
use Rattle.std.specs.Prelude.{ℕ, ◌≡◌, ◌≤◌, Bool, true, false, List, [], ◌∷◌, ◌++◌, All, length, map, Option, Some, None}
use Rattle.vm_link.specs.Queue.{Queue, Queues, posted, collected, free_count}
use Rattle.vm_link.specs.declared.chains.DoneChain.{DoneChain}
use Rattle.vm_link.specs.declared.link.Turn.{Turn}
use Rattle.vm_link.specs.declared.link.Turn.TheVariants.{Did, Idle}
use Rattle.vm_link.specs.declared.parcel.Finished.{Finished}
use Rattle.vm_link.specs.declared.parcel.Parcel.{Parcel}
use Rattle.vm_pump.specs.Pump.{event_bytes_in, delivery_of}
use Rattle.vm_script.specs.declared.line.LineKind.{LineKind}
use Rattle.vm_script.specs.declared.line.LineKind.TheVariants.{OnHandle, Raw}
use Rattle.vm_wire.specs.Event.{SpellsEvent}
use Rattle.vm_wire.specs.declared.delivery.Delivery.{Delivery}
use Rattle.vm_wire.specs.declared.event.EventMsg.{EventMsg}
use Rattle.vm_handle.specs.Handle.{Keeps}
use Rattle.vm_guest.specs.Asking.{begins_with_events, ends_with_events}
use Rattle.vm_guest.specs.Chain.{IsChain, IsOwn, IsEventChain}
use Rattle.vm_guest.specs.Events.{taken, all_taken, CanTakeAll, CanSettle}
use Rattle.vm_guest.specs.Guest.{GuestState, process_at, with_process}
use Rattle.vm_guest.specs.Message.{Sending, Carries, returning_of}
use Rattle.vm_guest.specs.Lines.{Begins, sends_in, AnsweredFor, CanAnswer}
use Rattle.vm_guest.specs.Process.{ProcessState, issuing, crossing, handle_at}
use Rattle.vm_guest.specs.Raw.{raw_table}
use Rattle.vm_guest.specs.Steps.{all_if, Issued, Collected}
use Rattle.vm_guest.specs.declared.asked.Statement.{Statement}

-- ---- event chains

-- the event that a chain brought
abbrev pub Brings : Finished → Delivery → Type 0
Brings f d =
    (msg : EventMsg) × SpellsEvent (event_bytes_in f) msg × (d ≡ delivery_of msg f.parcel.held)

-- the events that these chains brought, in order
abbrev pub AreEvents : List DoneChain → List Delivery → Type 0
AreEvents [] [] = Unit {0}
AreEvents [] (d ∷ ds) = ⊥
AreEvents (c ∷ cs) [] = ⊥
AreEvents (c ∷ cs) (d ∷ ds) = Brings c.finished d × AreEvents cs ds

-- a chain as it is posted again
abbrev pub emptied : DoneChain → Parcel
emptied c = record c.finished.parcel { held = [] }

-- the queue once the first finished chain waits again, and these are left
abbrev pub one_again : Queue → DoneChain → List DoneChain → Queue
one_again q c cs = record q { waiting = q.waiting ++ emptied c ∷ []; done = cs }

-- once all of them do
abbrev pub all_again : Queue → Queue
all_again q = record q { waiting = q.waiting ++ map emptied q.done; done = [] }

abbrev pub again_if : Bool → Queue → Queue
again_if true q = all_again q
again_if false q = q

-- A chain is one of the driver's event chains, with one memory at most. Its one descriptor is free
-- once it is collected.
pub record CameBack (c : DoneChain) : Type 0 where
  pub few : length c.finished.parcel.held ≤ 1
  pub chain : (k : ℕ) × IsEventChain k c.finished.parcel.held c.finished.parcel
  pub one : c.count ≡ 1

-- These finished chains came back, and their events, which are these, can be taken in their turn.
pub record CanTakeFrom (chains : List DoneChain) (g : GuestState)
    (events : List Delivery) : Type 0 where
  pub back : All CameBack chains
  pub bring : AreEvents chains events
  pub each : CanTakeAll g events

-- ---- Issue

-- the finished event chains that a step takes, if it takes them
abbrev pub chains_if : Bool → Queues → List DoneChain
chains_if takes queues = all_if takes queues.event.done

-- what a process sends is posted in its chain
abbrev pub Posts : ℕ → Option Sending → Queue → Queue → Type 0
Posts n None q q' = q' ≡ q
Posts n (Some sending) q q' = (parcel : Parcel) × Carries n sending parcel × (q' ≡ posted q parcel)

-- where a line that is begun sends something, four descriptors are free
abbrev pub HasRoomFor : ProcessState → LineKind → Queue → Type 0
HasRoomFor p what q = sends_in p what ≡ true → 4 ≤ free_count q

-- A process begins a line, and what it sends is posted.
pub record BeginsAt (line : ℕ) (what : LineKind) (p : ProcessState) (q : Queue) (p' : ProcessState)
    (q' : Queue) : Type 0 where
  pub sends : Option Sending
  pub begins : Begins line what p p' sends
  pub posts : Posts p.number sends q q'

-- A statement is begun, behind the events that are taken first, and what it sends is posted. The
-- chains have brought one list of events alone.
pub record IssuesStatement (n : ℕ) (s : Statement) (g : GuestState) (queues : Queues)
    (g' : GuestState) (queues' : Queues) : Type 0 where
  pub sends : Option Sending
  pub issued : (events : List Delivery)
      → AreEvents (chains_if (begins_with_events s.what) queues) events
      → Issued n s g events g' sends
  pub posts : Posts n sends queues.command queues'.command
  pub again : queues'.event ≡ again_if (begins_with_events s.what) queues.event

abbrev pub IssuesIf : Option Statement → ℕ → GuestState → Queues → Turn → GuestState → Queues →
    Type 0
IssuesIf None n g queues turn g' queues' = (turn ≡ Idle) × (g' ≡ g) × (queues' ≡ queues)
IssuesIf (Some s) n g queues turn g' queues' =
    (turn ≡ Did) × IssuesStatement n s g queues g' queues'

-- A process begins its next statement, exactly where it has one to issue.
abbrev pub IssuesAt : ℕ → GuestState → Queues → Turn → GuestState → Queues → Type 0
IssuesAt n g queues turn g' queues' = IssuesIf (issuing (process_at g n)) n g queues turn g' queues'

-- Where the statement sends something four descriptors are free, and where it tells of events they
-- can be taken.
pub record CanIssueStatement (n : ℕ) (s : Statement) (g : GuestState)
    (queues : Queues) : Type 0 where
  pub room : HasRoomFor (process_at g n) s.what queues.command
  pub events : (events : List Delivery)
      × CanTakeFrom (chains_if (begins_with_events s.what) queues) g events

abbrev pub CanIssueIf : Option Statement → ℕ → GuestState → Queues → Type 0
CanIssueIf None n g queues = Unit {0}
CanIssueIf (Some s) n g queues = CanIssueStatement n s g queues

abbrev pub CanIssueAt : ℕ → GuestState → Queues → Type 0
CanIssueAt n g queues = CanIssueIf (issuing (process_at g n)) n g queues

-- ---- Collect

-- The statement of a process is answered by what came back, behind the events that are taken first.
pub record CollectsReply (f : Finished) (g : GuestState) (queues : Queues) (g' : GuestState)
    (queues' : Queues) : Type 0 where
  pub statement : Statement
  pub under_way : crossing (process_at g f.parcel.who) ≡ Some statement
  pub collects : (events : List Delivery)
      → AreEvents (chains_if (ends_with_events statement.what) queues) events
      → Collected statement g events (returning_of f) g'
  pub commands : queues'.command ≡ collected queues.command
  pub again : queues'.event ≡ again_if (ends_with_events statement.what) queues.event

abbrev pub CollectsIf : List DoneChain → GuestState → Queues → Turn → GuestState → Queues → Type 0
CollectsIf [] g queues turn g' queues' = (turn ≡ Idle) × (g' ≡ g) × (queues' ≡ queues)
CollectsIf (d ∷ ds) g queues turn g' queues' =
    (turn ≡ Did) × CollectsReply d.finished g queues g' queues'

-- The first reply is collected, if one is finished.
abbrev pub CollectsAt : GuestState → Queues → Turn → GuestState → Queues → Type 0
CollectsAt g queues turn g' queues' = CollectsIf queues.command.done g queues turn g' queues'

-- the process's chain as it was posted for a statement
abbrev pub IsChainFor : ℕ → LineKind → Parcel → Type 0
IsChainFor n (OnHandle h call) parcel = IsOwn n parcel
IsChainFor n (Raw chain) parcel = IsChain n (raw_table n chain) [] parcel.held parcel

-- What came back answers the statement of a process that is on its way.
pub record CanBeAnswered (p : ProcessState) (f : Finished) : Type 0 where
  pub statement : Statement
  pub under_way : crossing p ≡ Some statement
  pub chain : IsChainFor p.number statement.what f.parcel
  pub answers : CanAnswer statement.line statement.what p (returning_of f)

-- the handle of a line keeps what each handle does
abbrev pub KeepsFor : LineKind → ProcessState → Type 0
KeepsFor (OnHandle h call) p =
    Keeps (handle_at p h).log (handle_at p h).session (handle_at p h).stage
KeepsFor (Raw chain) p = Unit {0}

-- It is answered so.
pub record IsAnswered (p : ProcessState) (f : Finished) (p' : ProcessState) : Type 0 where
  pub statement : Statement
  pub under_way : crossing p ≡ Some statement
  pub answers : AnsweredFor statement.line statement.what p (returning_of f) p'
  pub keeps : KeepsFor statement.what p'

abbrev pub AnswersAt : ℕ → GuestState → Finished → GuestState → Type 0
AnswersAt n g f g' =
    (process : ProcessState) × IsAnswered (process_at g n) f process
    × (g' ≡ with_process g n process)

-- What came back is the chain of a process whose statement is on its way, and answers it behind the
-- events that are to be taken first. What was held back for its handle can be delivered then.
pub record CanCollectReply (f : Finished) (g : GuestState) (queues : Queues) : Type 0 where
  pub statement : Statement
  pub under_way : crossing (process_at g f.parcel.who) ≡ Some statement
  pub chain : IsChainFor f.parcel.who statement.what f.parcel
  pub events : List Delivery
  pub takes : CanTakeFrom (chains_if (ends_with_events statement.what) queues) g events
  pub answers : CanAnswer statement.line statement.what
      (process_at (all_taken g events) f.parcel.who) (returning_of f)
  pub settles : (process : ProcessState)
      → AnsweredFor statement.line statement.what (process_at (all_taken g events) f.parcel.who)
      (returning_of f) process
      → CanSettle statement.what
      (with_process (all_taken g events) f.parcel.who process) f.parcel.who

abbrev pub CanCollectIf : List DoneChain → GuestState → Queues → Type 0
CanCollectIf [] g queues = Unit {0}
CanCollectIf (d ∷ ds) g queues = CanCollectReply d.finished g queues

abbrev pub CanCollectAt : GuestState → Queues → Type 0
CanCollectAt g queues = CanCollectIf queues.command.done g queues

-- ---- Pump

abbrev pub PumpsIf : List DoneChain → GuestState → Queues → Turn → GuestState → Queues → Type 0
PumpsIf [] g queues turn g' queues' = (turn ≡ Idle) × (g' ≡ g) × (queues' ≡ queues)
PumpsIf (c ∷ cs) g queues turn g' queues' =
    (turn ≡ Did) × ((d : Delivery) → Brings c.finished d → g' ≡ taken g d)
    × (queues' ≡ record queues { event = one_again queues.event c cs })

-- The first event is taken, if one is finished, and its chain waits again.
abbrev pub PumpsAt : GuestState → Queues → Turn → GuestState → Queues → Type 0
PumpsAt g queues turn g' queues' = PumpsIf queues.event.done g queues turn g' queues'

abbrev pub CanPumpIf : List DoneChain → GuestState → Type 0
CanPumpIf [] g = Unit {0}
CanPumpIf (c ∷ cs) g = (d : Delivery) × CanTakeFrom (c ∷ []) g (d ∷ [])

abbrev pub CanPumpAt : GuestState → Queues → Type 0
CanPumpAt g queues = CanPumpIf queues.event.done g

-- ---- all events, one after the other

-- All events are taken, and their chains wait again.
pub record TakesAll (g : GuestState) (queues : Queues) (g' : GuestState)
    (queues' : Queues) : Type 0 where
  pub takes : (events : List Delivery) → AreEvents queues.event.done events
      → g' ≡ all_taken g events
  pub again : queues' ≡ record queues { event = all_again queues.event }

-- Where they are to be taken, they are.
pub record TakesIf (takes : Bool) (g : GuestState) (queues : Queues) (g' : GuestState)
    (queues' : Queues) : Type 0 where
  pub took : (events : List Delivery) → AreEvents (chains_if takes queues) events
      → g' ≡ all_taken g events
  pub again : queues' ≡ record queues { event = again_if takes queues.event }

abbrev pub CanTakeAllFrom : GuestState → Queues → Type 0
CanTakeAllFrom g queues =
    (events : List Delivery) × CanTakeFrom queues.event.done g events
