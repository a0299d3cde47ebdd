-- The driver of all processes.
use Rattle.std.specs.Prelude.{ℕ, ◌≡◌, Bool, true, List, [], All, Option, None, is_some, slice_get, slice_index_or, slice_set}
use Rattle.std.specs.Option.{option_and_then}
use Rattle.v4l_const.specs.declared.errno.Errno.{Errno}
use Rattle.v4l_const.specs.declared.model.Model.{Model}
use Rattle.vm_handle.specs.Handle.{HandleState}
use Rattle.vm_pump.specs.Pump.{PumpState}
use Rattle.vm_guest.specs.Process.{ProcessState, is_done, issuing, leasing, handle_at}
use Rattle.vm_guest.specs.declared.seat.Seat.{Seat}
use Rattle.vm_guest.specs.declared.status.Status.TheVariants.{AtRest}

-- The processes, the events that are held back, and by its id the handle of each session.
pub record GuestState : Type 0 where
  pub model : Model
  pub processes : List ProcessState
  pub pump : PumpState
  pub seats : List (Option Seat)

-- a process that no script has
abbrev pub no_process : ProcessState
no_process =
    record { number = 0; statements = []; handles = []; answered = 0; status = AtRest; raws = [] }

abbrev pub process_in : List ProcessState → ℕ → ProcessState
process_in processes n = slice_index_or processes n no_process

abbrev pub process_at : GuestState → ℕ → ProcessState
process_at g n = process_in g.processes n

abbrev pub with_process : GuestState → ℕ → ProcessState → GuestState
with_process g n p = record g { processes = slice_set g.processes n p }

-- the handle in a place of a process's, if there is one
abbrev pub handle_named : GuestState → ℕ → ℕ → Option HandleState
handle_named g n k =
    option_and_then (λ (p : ProcessState). slice_get p.handles k) (slice_get g.processes n)

-- the handle that has the session of an id
abbrev pub seat_of : GuestState → ℕ → Option Seat
seat_of g session = slice_index_or g.seats session None

abbrev pub handle_seated : GuestState → Seat → HandleState
handle_seated g seat = handle_at (process_at g seat.process) seat.handle

-- the errno of a process's statement, where it is an answered raw line
abbrev pub raw_answer : GuestState → ℕ → ℕ → Option Errno
raw_answer g n k = slice_index_or (process_at g n).raws k None

-- every statement of every process is answered
abbrev pub IsDone : GuestState → Type 0
IsDone g = All (λ p. is_done p ≡ true) g.processes

-- a process may begin its next statement, by itself or with a lease
abbrev pub can_issue : GuestState → ℕ → Bool
can_issue g n = is_some (issuing (process_at g n))

abbrev pub can_lease : GuestState → ℕ → Bool
can_lease g n = is_some (leasing (process_at g n))
