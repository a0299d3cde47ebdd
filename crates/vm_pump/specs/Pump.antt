-- The events that a driver holds back, and the event that a chain brought.
-- Source: own, after the events of the VIRTIO 1.4 draft's media device.
use Rattle.std.specs.Prelude.{ℕ, ◌==◌, List, [], ◌∷◌, ◌++◌, find, take, Option, slice_index_or, if◌then◌else◌}
use Rattle.vm_mem.specs.Lists.{first_of}
use Rattle.vm_mem.specs.declared.page.Page.{Page}
use Rattle.vm_frame.specs.declared.mem.Held.{Held}
use Rattle.vm_link.specs.declared.parcel.Finished.{Finished}
use Rattle.vm_wire.specs.Event.{SpellsEvent}
use Rattle.vm_wire.specs.declared.delivery.Delivery.{Delivery}
use Rattle.vm_wire.specs.declared.event.EventMsg.{EventMsg}
use Rattle.vm_wire.specs.declared.event.EventMsg.TheVariants.{Dequeued, Happened}

-- ---- what is held back

-- The events that are held back, the oldest first, and how many there is room for.
pub record PumpState : Type 0 where
  pub held : List Delivery
  pub room : ℕ

-- how many events there is room for, for each handle
abbrev pub handle_room : ℕ
handle_room = 96

-- the oldest of these events that is for a session
abbrev pub first_for : ℕ → List Delivery → Option Delivery
first_for session ds = find (λ d. d.session == session) ds

-- these events without the oldest one for a session
abbrev pub without_first : ℕ → List Delivery → List Delivery
without_first session [] = []
without_first session (d ∷ ds) =
    if d.session == session then ds else d ∷ without_first session ds

-- ---- what a chain brought

abbrev pub no_page : Page
no_page = record { number = 0; bytes = [] }

-- the bytes that the device wrote to the chain's page
abbrev pub event_bytes_in : Finished → List ℕ
event_bytes_in f = take f.used (slice_index_or f.parcel.pages 0 no_page).bytes

-- the session that a message is for
abbrev pub session_of : EventMsg → ℕ
session_of (Dequeued session buffer) = session
session_of (Happened session event) = session

-- a message with the memory that came along, if one did
abbrev pub delivery_of : EventMsg → List Held → Delivery
delivery_of msg held = record { session = session_of msg; msg = msg; held = first_of held }

-- The device wrote a message, which its bytes spell.
abbrev pub BringsEvent : Finished → Type 0
BringsEvent f = (msg : EventMsg) × SpellsEvent (event_bytes_in f) msg
