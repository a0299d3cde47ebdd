-- What the functions of one process's driver do with its handles and its chain.
use Rattle.std.specs.Prelude.{ℕ, ◌≡◌, ◌<◌, ◌+◌, false, List, Option, Some, None, length, slice_set, slice_index_or}
use Rattle.v4l_rules.specs.Refusals.{first_refusal}
use Rattle.vm_frame.specs.declared.mem.Held.{Held}
use Rattle.vm_lease.specs.Lease.{LeaseParts}
use Rattle.vm_link.specs.declared.parcel.Finished.{Finished}
use Rattle.vm_link.specs.declared.parcel.Parcel.{Parcel}
use Rattle.vm_local.specs.State.{LocalState}
use Rattle.vm_local.specs.declared.reply.Reply.{Reply}
use Rattle.vm_log.specs.Answers.{with_line, AsksFew, Leases, given_back}
use Rattle.vm_log.specs.LegalLog.{LogState, state_of}
use Rattle.vm_log.specs.declared.away.Away.{Away}
use Rattle.vm_log.specs.declared.leased.Leased.{Leased}
use Rattle.vm_script.specs.declared.line.LineKind.{LineKind}
use Rattle.vm_script.specs.declared.line.LineKind.TheVariants.{OnHandle, Raw}
use Rattle.vm_wire.specs.Wire.{response_of}
use Rattle.vm_wire.specs.declared.command.Command.{Command}
use Rattle.vm_exchange.specs.Entries.{crossing_bytes}
use Rattle.vm_exchange.specs.Exchange.{IsAnswer, command_in}
use Rattle.vm_exchange.specs.declared.way.Way.{Way}
use Rattle.vm_exchange.specs.declared.way.Way.TheVariants.{Crosses, AnsweredHere, Waits, TouchesMemory}
use Rattle.vm_handle.specs.Answers.{row_from, with_reply}
use Rattle.vm_handle.specs.Handle.{HandleState, way_from, crossing_from}
use Rattle.vm_handle.specs.declared.stage.Stage.TheVariants.{Underway}
use Rattle.vm_handle.specs.declared.started.Started.{Started}
use Rattle.vm_handle.specs.declared.started.Started.TheVariants.{Answered, Send, Wait}
use Rattle.vm_guest.specs.Chain.{IsHome, reply_bytes}
use Rattle.vm_guest.specs.Lines.{GoesOut, AnswersItself, waiting, MayAnswer}
use Rattle.vm_guest.specs.Message.{OfCall, Carries, returning_of}
use Rattle.vm_guest.specs.Process.{handle_in}
use Rattle.vm_guest.specs.declared.asked.Asked.{Asked}

-- how many lines are on each handle, with one more
abbrev pub counted : List ℕ → LineKind → List ℕ
counted counts (OnHandle h call) = slice_set counts h (slice_index_or counts h 0 + 1)
counted counts (Raw chain) = counts

-- What is asked can be begun: it is on one of the handles, which has answered all its lines and has
-- room for one more.
pub record CanBegin (handles : List HandleState) (a : Asked) : Type 0 where
  pub within : a.handle < length handles
  pub rests : (handle_in handles a.handle).log.unanswered ≡ false
  pub more : (handle_in handles a.handle).log.begun < (handle_in handles a.handle).log.lines
  pub few : AsksFew a.call

-- how a call is begun, and the command by which it crosses, if it does
abbrev pub way_in : List HandleState → Asked → Way
way_in handles a = way_from (handle_in handles a.handle) a.call

abbrev pub command_asked : List HandleState → Asked → Option Command
command_asked handles a = command_in (crossing_from (handle_in handles a.handle) a.call)

-- the state of the handle on which the call is
abbrev pub state_in : List HandleState → Asked → LocalState
state_in handles a = state_of (handle_in handles a.handle).log

abbrev pub with_asked : List HandleState → Asked → HandleState → List HandleState
with_asked handles a handle = slice_set handles a.handle handle

-- ---- a call is begun

abbrev pub StartsBy : Way → Asked → List HandleState → Parcel → Started → List HandleState →
    Parcel → Type 0
StartsBy (Crosses c) a handles chain started handles' chain' =
    (along : Option Held) × (handle : HandleState)
    × GoesOut (handle_in handles a.handle) a.line a.call along handle
    × (handles' ≡ with_asked handles a handle) × (started ≡ Send (length (crossing_bytes c)))
    × ((p : ℕ) → IsHome p chain → Carries p (OfCall c along) chain')
StartsBy AnsweredHere a handles chain started handles' chain' =
    (handle : HandleState) × AnswersItself (handle_in handles a.handle) a.line a.call handle
    × (handles' ≡ with_asked handles a handle) × (started ≡ Answered) × (chain' ≡ chain)
StartsBy Waits a handles chain started handles' chain' =
    (handles' ≡ with_asked handles a (waiting (handle_in handles a.handle) a.line a.call))
    × (started ≡ Wait) × (chain' ≡ chain)
StartsBy TouchesMemory a handles chain started handles' chain' = ⊥

-- A call on a handle is begun: what crosses stands in the chain.
abbrev pub Starts : Asked → List HandleState → Parcel → Started → List HandleState → Parcel → Type 0
Starts a handles chain started handles' chain' =
    StartsBy (way_in handles a) a handles chain started handles' chain'

-- ---- a call is answered

-- What came back can be logged: it answers the call that is out on its handle.
pub record CanLog (handles : List HandleState) (a : Asked) (f : Finished) : Type 0 where
  pub within : a.handle < length handles
  pub out : (handle_in handles a.handle).stage ≡ Underway a.line a.call
  pub pages : length f.parcel.pages ≡ 2
  pub command : Command
  pub crossed : command_asked handles a ≡ Some command
  pub may : MayAnswer (handle_in handles a.handle) a.line a.call command (returning_of f)

abbrev pub LogsBy : Option Command → List HandleState → Asked → Finished → List HandleState → Type 0
LogsBy None handles a f handles' = ⊥
LogsBy (Some c) handles a f handles' =
    (reply : Reply) → IsAnswer (state_in handles a) a.line a.call
    (response_of c (reply_bytes f)) reply
    → handles' ≡ with_asked handles a
    (with_reply (handle_in handles a.handle) a.line a.call reply
    (response_of c (reply_bytes f)) f.parcel.held)

-- the handles with each reply that the response stands for logged; there is one alone
abbrev pub Logs : List HandleState → Asked → Finished → List HandleState → Type 0
Logs handles a f handles' = LogsBy (command_asked handles a) handles a f handles'

-- ---- leases

-- A call on a handle is refused, or its memory goes out.
abbrev pub LeasesIn : Asked → List HandleState → Leased → List HandleState → Type 0
LeasesIn a handles leased handles' =
    (log : LogState)
    × Leases (first_refusal (row_from (handle_in handles a.handle).log a.line a.call).refusals)
    (with_line (handle_in handles a.handle).log) a.line a.call leased log
    × (handles' ≡ with_asked handles a (record (handle_in handles a.handle) { log = log }))

-- what is out of the handle in a place
abbrev pub away_in : List HandleState → ℕ → Away
away_in handles at = (handle_in handles at).log.away

-- the handles once a lease is back in the one in a place
abbrev pub with_returned : List HandleState → ℕ → LeaseParts → List HandleState
with_returned handles at lease =
    slice_set handles at
    (record (handle_in handles at) { log = given_back (handle_in handles at).log lease })
