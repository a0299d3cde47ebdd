-- Events on their way to the handles: they are delivered, or held back while a call is answered
-- first.
use Rattle.std.specs.Prelude.{ℕ, ◌<◌, ◌==◌, ◌&&◌, Bool, true, false, not, List, [], ◌∷◌, ◌++◌, filter, length, Option, Some, None, slice_set, if◌then◌else◌}
use Rattle.vm_home.specs.Moves.{is_stopping}
use Rattle.vm_log.specs.LegalLog.{state_of}
use Rattle.vm_script.specs.declared.line.LineKind.{LineKind}
use Rattle.vm_script.specs.declared.line.LineKind.TheVariants.{OnHandle, Raw}
use Rattle.vm_wire.specs.declared.delivery.Delivery.{Delivery}
use Rattle.vm_handle.specs.Answers.{delivered}
use Rattle.vm_handle.specs.Messages.{Delivers}
use Rattle.vm_guest.specs.Guest.{GuestState, process_in, process_at, seat_of}
use Rattle.vm_guest.specs.Process.{ProcessState, current_call, crossing_call, is_blocked, is_answered_in, handle_at, with_handle, rested}
use Rattle.vm_guest.specs.declared.asked.Asked.{Asked}
use Rattle.vm_guest.specs.declared.seat.Seat.{Seat}

-- ---- one event is delivered

-- a process that is blocked is at rest once its handle has answered
abbrev pub woken : ProcessState → ProcessState
woken p = if is_blocked p.status && is_answered_in p.handles (current_call p) then rested p else p

-- a process whose handle has taken the event
abbrev pub told : ProcessState → ℕ → Delivery → ProcessState
told p h d = woken (with_handle p h (delivered (handle_at p h) d.msg d.held))

-- the processes, where the handle in a seat has taken the event
abbrev pub told_at : List ProcessState → Seat → Delivery → List ProcessState
told_at processes seat d =
    slice_set processes seat.process (told (process_in processes seat.process) seat.handle d)

-- these events, one after the other
abbrev pub all_told : List ProcessState → Seat → List Delivery → List ProcessState
all_told processes seat [] = processes
all_told processes seat (d ∷ ds) = all_told (told_at processes seat d) seat ds

abbrev pub given : GuestState → Seat → Delivery → GuestState
given g seat d = record g { processes = told_at g.processes seat d }

-- ---- one event is taken from the link

-- The call that is on its way is on this handle, and stops nothing: what the device tells meanwhile
-- is held back, since the call is logged first.
abbrev pub is_overtaken : Option Asked → ℕ → Bool
is_overtaken None h = false
is_overtaken (Some a) h = (a.handle == h) && not (is_stopping a.call)

abbrev pub holds_back : GuestState → Seat → Bool
holds_back g seat = is_overtaken (crossing_call (process_at g seat.process)) seat.handle

abbrev pub held_back : GuestState → Delivery → GuestState
held_back g d = record g { pump = record g.pump { held = g.pump.held ++ d ∷ [] } }

abbrev pub taken_at : Option Seat → GuestState → Delivery → GuestState
taken_at None g d = g
taken_at (Some seat) g d = if holds_back g seat then held_back g d else given g seat d

-- the event is taken: it is held back, or the handle that has its session has it
abbrev pub taken : GuestState → Delivery → GuestState
taken g d = taken_at (seat_of g d.session) g d

-- these events, one after the other
abbrev pub all_taken : GuestState → List Delivery → GuestState
all_taken g [] = g
all_taken g (d ∷ ds) = all_taken (taken g d) ds

-- ---- a handle's held events are released

abbrev pub events_of : ℕ → List Delivery → List Delivery
events_of session ds = filter (λ d. d.session == session) ds

abbrev pub events_of_others : ℕ → List Delivery → List Delivery
events_of_others session ds = filter (λ d. not (d.session == session)) ds

-- The handle in a seat has logged a call. Its session, if it has one, has this seat, and what was
-- held back for it is delivered in order.
abbrev pub caught_up : Option ℕ → GuestState → Seat → GuestState
caught_up None g seat = g
caught_up (Some session) g seat = record g {
  processes = all_told g.processes seat (events_of session g.pump.held);
  pump = record g.pump { held = events_of_others session g.pump.held };
  seats = slice_set g.seats session (Some seat);
}

-- what was held back for the handle of a process's line is delivered; a raw line has none
abbrev pub settled : LineKind → GuestState → ℕ → GuestState
settled (OnHandle h call) g n =
    caught_up (handle_at (process_at g n) h).session g (record { process = n; handle = h })
settled (Raw chain) g n = g

-- ---- what is asked of the events

-- the handle in the seat can take the event
abbrev pub CanTell : List ProcessState → Seat → Delivery → Type 0
CanTell processes seat d =
    Delivers (state_of (handle_at (process_in processes seat.process) seat.handle).log) d.msg d.held

-- it can take each of these in its turn
abbrev pub CanTellAll : List ProcessState → Seat → List Delivery → Type 0
CanTellAll processes seat [] = Unit {0}
CanTellAll processes seat (d ∷ ds) =
    CanTell processes seat d × CanTellAll (told_at processes seat d) seat ds

-- where it is held back there is room for it, and else its handle can take it
abbrev pub CanTakeBy : Bool → GuestState → Seat → Delivery → Type 0
CanTakeBy true g seat d = length g.pump.held < g.pump.room
CanTakeBy false g seat d = CanTell g.processes seat d

abbrev pub CanTakeAt : Option Seat → GuestState → Delivery → Type 0
CanTakeAt None g d = ⊥
CanTakeAt (Some seat) g d = CanTakeBy (holds_back g seat) g seat d

-- a handle has the event's session
abbrev pub CanTake : GuestState → Delivery → Type 0
CanTake g d = CanTakeAt (seat_of g d.session) g d

-- each of these events can be taken in its turn
abbrev pub CanTakeAll : GuestState → List Delivery → Type 0
CanTakeAll g [] = Unit {0}
CanTakeAll g (d ∷ ds) = CanTake g d × CanTakeAll (taken g d) ds

-- the handle in a seat can take what is held back for its session
abbrev pub CanCatchUp : Option ℕ → GuestState → Seat → Type 0
CanCatchUp None g seat = Unit {0}
CanCatchUp (Some session) g seat = CanTellAll g.processes seat (events_of session g.pump.held)

abbrev pub CanSettle : LineKind → GuestState → ℕ → Type 0
CanSettle (OnHandle h call) g n =
    CanCatchUp (handle_at (process_at g n) h).session g (record { process = n; handle = h })
CanSettle (Raw chain) g n = Unit {0}
