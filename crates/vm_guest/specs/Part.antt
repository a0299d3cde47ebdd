-- The driver's part of each step, over what is said on the link: no table, page or head is seen.
use Rattle.std.specs.Prelude.{ℕ, ◌≡◌, Bool, true, false, List, [], ◌∷◌, length, Option, Some, None}
use Rattle.vm_link.specs.declared.link.Turn.{Turn}
use Rattle.vm_link.specs.declared.link.Turn.TheVariants.{Did, Idle}
use Rattle.vm_wire.specs.declared.delivery.Delivery.{Delivery}
use Rattle.vm_guest.specs.Asking.{begins_with_events, ends_with_events}
use Rattle.vm_guest.specs.Events.{taken}
use Rattle.vm_guest.specs.Guest.{GuestState, process_at}
use Rattle.vm_wire.specs.Message.{Posting, Returning}
use Rattle.vm_guest.specs.Message.{Sending, posting_of}
use Rattle.vm_guest.specs.Process.{issuing, crossing}
use Rattle.vm_guest.specs.Steps.{all_if, Issued, Collected}
use Rattle.vm_guest.specs.declared.asked.Statement.{Statement}

-- what is finished for the driver and not collected, the first ones first
pub record Inbox : Type 0 where
  pub replies : List Returning
  pub events : List Delivery

-- what a step posts: commands, and so many event chains again
pub record Outbox : Type 0 where
  pub commands : List Posting
  pub chains : ℕ

abbrev pub nothing : Outbox
nothing = record { commands = []; chains = 0 }

abbrev pub none_if : {A : Type 0} → Bool → List A → List A
none_if true xs = []
none_if false xs = xs

abbrev pub postings : ℕ → Option Sending → List Posting
postings n None = []
postings n (Some sending) = posting_of n sending ∷ []

-- nothing is done
abbrev pub IsIdle : GuestState → Inbox → Turn → GuestState → Inbox → Outbox → Type 0
IsIdle g i turn g' i' o = (turn ≡ Idle) × (g' ≡ g) × (i' ≡ i) × (o ≡ nothing)

-- the events that are taken first, if they are, and what is left then
abbrev pub events_first : Bool → Inbox → List Delivery
events_first first i = all_if first i.events

abbrev pub inbox_left : Bool → Inbox → Inbox
inbox_left first i = record i { events = none_if first i.events }

-- ---- Issue

-- A process begins this statement, behind the events that are taken first, and posts what it sends.
pub record IssuesNext (n : ℕ) (s : Statement) (g : GuestState) (i : Inbox) (g' : GuestState)
    (i' : Inbox) (o : Outbox) : Type 0 where
  pub sends : Option Sending
  pub issued : Issued n s g (events_first (begins_with_events s.what) i) g' sends
  pub left : i' ≡ inbox_left (begins_with_events s.what) i
  pub commands : o.commands ≡ postings n sends
  pub chains : o.chains ≡ length (events_first (begins_with_events s.what) i)

abbrev pub IssuesFor : Option Statement → ℕ → GuestState → Inbox → Turn → GuestState → Inbox →
    Outbox → Type 0
IssuesFor None n g i turn g' i' o = IsIdle g i turn g' i' o
IssuesFor (Some s) n g i turn g' i' o = (turn ≡ Did) × IssuesNext n s g i g' i' o

-- A process begins its next statement: it is answered here, or it is blocked, or its command is
-- posted. All events are taken first where the statement tells of them. Nothing is done exactly
-- where it has no statement to issue.
abbrev pub Issues : ℕ → GuestState → Inbox → Turn → GuestState → Inbox → Outbox → Type 0
Issues n g i turn g' i' o = IssuesFor (issuing (process_at g n)) n g i turn g' i' o

-- ---- Collect

pub record CollectsFirst (r : Returning) (rs : List Returning) (g : GuestState) (i : Inbox)
    (g' : GuestState) (i' : Inbox) (o : Outbox) : Type 0 where
  pub statement : Statement
  pub under_way : crossing (process_at g r.reply.who) ≡ Some statement
  pub collected : Collected statement g (events_first (ends_with_events statement.what) i) r g'
  pub left : i' ≡ record (inbox_left (ends_with_events statement.what) i) { replies = rs }
  pub commands : o.commands ≡ []
  pub chains : o.chains ≡ length (events_first (ends_with_events statement.what) i)

abbrev pub CollectsFrom : List Returning → GuestState → Inbox → Turn → GuestState → Inbox → Outbox →
    Type 0
CollectsFrom [] g i turn g' i' o = IsIdle g i turn g' i' o
CollectsFrom (r ∷ rs) g i turn g' i' o = (turn ≡ Did) × CollectsFirst r rs g i g' i' o

-- The first reply is collected and logged, and what was held back for its handle is delivered. All
-- events are taken first where the call is one that stops queues. Nothing is done exactly where no
-- reply is finished.
abbrev pub Collects : GuestState → Inbox → Turn → GuestState → Inbox → Outbox → Type 0
Collects g i turn g' i' o = CollectsFrom i.replies g i turn g' i' o

-- ---- Pump

abbrev pub PumpsFrom : List Delivery → GuestState → Inbox → Turn → GuestState → Inbox → Outbox →
    Type 0
PumpsFrom [] g i turn g' i' o = IsIdle g i turn g' i' o
PumpsFrom (d ∷ ds) g i turn g' i' o =
    (turn ≡ Did) × (g' ≡ taken g d) × (i' ≡ record i { events = ds })
    × (o ≡ record { commands = []; chains = 1 })

-- The first event is taken. Nothing is done exactly where none is finished.
abbrev pub Pumps : GuestState → Inbox → Turn → GuestState → Inbox → Outbox → Type 0
Pumps g i turn g' i' o = PumpsFrom i.events g i turn g' i' o
