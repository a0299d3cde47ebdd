-- One handle of the driver.
use Rattle.std.specs.Prelude.{ℕ, ◌≡◌, Bool, true, false, List, Option, Some, None, IsSome, is_some, unwrap_or}
use Rattle.std.specs.List.{list_any}
use Rattle.v4l_const.specs.declared.model.Model.{Model}
use Rattle.vm_local.specs.declared.call.Call.{Call}
use Rattle.vm_local.specs.declared.call.Call.TheVariants.{OpenHandle, DqBuf}
use Rattle.vm_local.specs.declared.entry.Entry.{Entry}
use Rattle.vm_local.specs.declared.entry.Entry.TheVariants.{Called}
use Rattle.vm_local.specs.declared.reply.Reply.TheVariants.{Done}
use Rattle.vm_local.specs.State.{LocalState}
use Rattle.vm_local.specs.Log.{IsLegal}
use Rattle.vm_home.specs.Moves.{goes_along, touches_bytes}
use Rattle.vm_log.specs.LegalLog.{LogState, fresh_log, state_of}
use Rattle.vm_log.specs.declared.away.Away.{Away}
use Rattle.vm_log.specs.declared.away.Away.TheVariants.{Nothing, Sent, Lent}
use Rattle.vm_exchange.specs.declared.crossing.Crossing.{Crossing}
use Rattle.vm_exchange.specs.declared.way.Way.{Way}
use Rattle.vm_exchange.specs.declared.way.Way.TheVariants.{Waits}
use Rattle.vm_exchange.specs.Exchange.{way_of, crossing_of}
use Rattle.vm_exchange.specs.Range.{IsInRange}
use Rattle.vm_handle.specs.declared.stage.Stage.{Stage}
use Rattle.vm_handle.specs.declared.stage.Stage.TheVariants.{AtRest, Underway, Waiting}

-- The log with the memories at home, the session's id where an open was answered ok, and what
-- became of the line that was begun last.
pub record HandleState : Type 0 where
  pub log : LogState
  pub session : Option ℕ
  pub stage : Stage

-- a handle before its first line
abbrev pub fresh_handle : Model → ℕ → HandleState
fresh_handle model lines = record { log = fresh_log model lines; session = None; stage = AtRest }

-- ---- how its calls are begun

-- the id under which a handle's commands go
abbrev pub id_of : Option ℕ → ℕ
id_of session = unwrap_or session 0

abbrev pub way_from : HandleState → Call → Way
way_from h call = way_of (id_of h.session) (state_of h.log) call

-- what crosses for a call of this handle, if it crosses
abbrev pub crossing_from : HandleState → Call → Option Crossing
crossing_from h call = crossing_of (id_of h.session) (state_of h.log) call

-- ---- its session

-- the entry is an open that was answered ok
abbrev pub opens_session : Entry → Bool
opens_session (Called line (OpenHandle nonblock) Done) = true
opens_session e = false

-- an open was answered ok
abbrev pub has_opened : List Entry → Bool
has_opened log = list_any opens_session log

-- ---- its stage

-- No call is out. A line is unanswered exactly where the memory that it touches is out with a
-- lease.
abbrev pub IsAtRest : Away → Bool → Type 0
IsAtRest Nothing unanswered = unanswered ≡ false
IsAtRest (Sent number) unanswered = ⊥
IsAtRest (Lent entry) unanswered = (unanswered ≡ true) × (touches_bytes entry.call ≡ true)

-- the memory that goes along with a call is on its way, if one does
abbrev pub IsAlong : Option ℕ → Away → Type 0
IsAlong None away = away ≡ Nothing
IsAlong (Some number) away = away ≡ Sent number

-- The stage fits the state: a call that is underway is one that crosses from there, and a call that
-- waits has no answer there.
abbrev pub FitsStage : ℕ → LocalState → Away → Bool → Stage → Type 0
FitsStage session s away unanswered AtRest = IsAtRest away unanswered
FitsStage session s away unanswered (Underway line call) =
    (unanswered ≡ true) × IsSome (crossing_of session s call) × IsAlong (goes_along s call) away
FitsStage session s away unanswered (Waiting line call) =
    (unanswered ≡ true) × (away ≡ Nothing) × (way_of session s call ≡ Waits)

-- What a handle keeps: its log is legal, with numbers that go over the wire, it has a session where
-- an open was answered ok, and the stage fits.
pub record Keeps (log : LogState) (session : Option ℕ) (stage : Stage) : Type 0 where
  pub legal : IsLegal log.model log.entries
  pub range : IsInRange (state_of log)
  pub opened : is_some session ≡ has_opened log.entries
  pub fits : FitsStage (id_of session) (state_of log) log.away log.unanswered stage

-- ---- while a message is logged

abbrev pub is_dqbuf : Call → Bool
is_dqbuf (DqBuf t) = true
is_dqbuf call = false

-- the stage fits, but a dqbuf that waits may have an answer by now
abbrev pub FitsUnwoken : ℕ → LocalState → Away → Bool → Stage → Type 0
FitsUnwoken session s away unanswered AtRest = FitsStage session s away unanswered AtRest
FitsUnwoken session s away unanswered (Underway line call) =
    FitsStage session s away unanswered (Underway line call)
FitsUnwoken session s away unanswered (Waiting line call) =
    (unanswered ≡ true) × (away ≡ Nothing) × (is_dqbuf call ≡ true)

pub record KeepsUnwoken (log : LogState) (session : Option ℕ) (stage : Stage) : Type 0 where
  pub legal : IsLegal log.model log.entries
  pub range : IsInRange (state_of log)
  pub opened : is_some session ≡ has_opened log.entries
  pub fits : FitsUnwoken (id_of session) (state_of log) log.away log.unanswered stage
