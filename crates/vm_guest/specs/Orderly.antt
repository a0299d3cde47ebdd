-- What holds of the driver between steps: each handle's log answers just the lines so far, and just
-- the handle of the statement that is under way has a call out.
use Rattle.std.specs.Prelude.{ℕ, ◌≡◌, ◌≢◌, ◌<◌, ◌≤◌, ◌*◌, ◌&&◌, nat_lt, slice_get, Bool, true, false, List, [], ◌∷◌, All, length, take, drop, map, replicate, sum_by, is_some, Option, Some, None, IfSome, zero, suc, slice_index_or}
use Rattle.v4l_const.specs.declared.model.Model.{Model}
use Rattle.vm_chain.specs.declared.desc.Desc.{Desc}
use Rattle.vm_handle.specs.Handle.{HandleState, Keeps, fresh_handle}
use Rattle.vm_handle.specs.declared.stage.Stage.TheVariants.{Underway, Waiting}
use Rattle.vm_lease.specs.declared.lease_out.LeaseOut.{LeaseOut}
use Rattle.vm_link.specs.declared.parcel.Parcel.{Parcel}
use Rattle.vm_log.specs.Answers.{AsksFew}
use Rattle.vm_log.specs.LegalLog.{IsSound, lease_in}
use Rattle.vm_pump.specs.Pump.{handle_room}
pub use Rattle.vm_script.specs.Drafts.{process_limit}
use Rattle.vm_script.specs.Grammar.{statement_limit}
use Rattle.vm_script.specs.Lines.{lines_of, calls_of}
use Rattle.vm_script.specs.Script.{ProcessLines, ScriptLines}
use Rattle.vm_script.specs.declared.line.Line.{Line}
use Rattle.vm_script.specs.declared.line.LineKind.{LineKind}
use Rattle.vm_script.specs.declared.line.LineKind.TheVariants.{OnHandle, Raw}
use Rattle.vm_guest.specs.Asking.{statements_of}
use Rattle.vm_guest.specs.Chain.{IsHome, chain_table}
use Rattle.vm_guest.specs.Guest.{GuestState, process_in, process_at}
use Rattle.vm_guest.specs.Process.{ProcessState, begun, crossing, current_call, handle_at}
use Rattle.vm_guest.specs.Raw.{raw_table, IsFitRaw}
use Rattle.vm_guest.specs.declared.asked.Asked.{Asked}
use Rattle.vm_guest.specs.declared.asked.Statement.{Statement}
use Rattle.vm_guest.specs.declared.seat.Seat.{Seat}
use Rattle.vm_guest.specs.declared.status.Status.{Status}
use Rattle.vm_guest.specs.declared.status.Status.TheVariants.{AtRest, Crossing, Blocked, Lent}

-- ---- scripts

-- a call is on one of so many handles, and a read asks for few bytes
abbrev pub IsFitKind : ℕ → LineKind → Type 0
IsFitKind handles (OnHandle h call) = (h < handles) × AsksFew call
IsFitKind handles (Raw chain) = IsFitRaw chain

pub record IsFitProcess (p : ProcessLines) : Type 0 where
  pub limit : length p.lines ≤ statement_limit
  pub named : length p.handles ≤ length p.lines
  pub each : All (λ l. IsFitKind (length p.handles) l.what) p.lines

-- What the driver needs of a script; each that a reader gives has it.
pub record IsFitScript (script : ScriptLines) : Type 0 where
  pub few : length script.processes ≤ process_limit
  pub each : All IsFitProcess script.processes

abbrev pub no_lines : ProcessLines
no_lines = record { handles = []; lines = [] }

abbrev pub lines_at : ScriptLines → ℕ → ProcessLines
lines_at script n = slice_index_or script.processes n no_lines

-- ---- one process

-- A handle's log is legal, has its memories in place, and answers just the answered lines on it; it
-- counts the lines on it that were begun, and has room for all.
pub record AnswersLines (device : Model) (all started answered : List Line) (h : ℕ)
    (handle : HandleState) : Type 0 where
  pub keeps : Keeps handle.log handle.session handle.stage
  pub sound : IsSound handle.log
  pub model : handle.log.model ≡ device
  pub calls : calls_of handle.log.entries ≡ lines_of h answered
  pub begun : handle.log.begun ≡ length (lines_of h started)
  pub lines : handle.log.lines ≡ length (lines_of h all)

-- the handle's call is out as the process's status says
abbrev pub IsOut : Status → Asked → HandleState → Type 0
IsOut AtRest a h = h.log.unanswered ≡ false
IsOut Crossing a h = h.stage ≡ Underway a.line a.call
IsOut Blocked a h = h.stage ≡ Waiting a.line a.call
IsOut Lent a h =
    (entry : LeaseOut) × (lease_in h.log.away ≡ Some entry) × (entry.line ≡ a.line)
    × (entry.call ≡ a.call)

-- just the handle of the call that is under way, if one is, has a call out
abbrev pub IsOutAt : Status → Option Asked → ℕ → HandleState → Type 0
IsOutAt status None h handle = handle.log.unanswered ≡ false
IsOutAt status (Some a) h handle =
    (a.handle ≡ h → IsOut status a handle) × (a.handle ≢ h → handle.log.unanswered ≡ false)

-- a raw line is on its way, or none
abbrev pub MayBeRaw : Status → Option Asked → Type 0
MayBeRaw Blocked None = ⊥
MayBeRaw Lent None = ⊥
MayBeRaw status asked = Unit {0}

abbrev pub is_raw : LineKind → Bool
is_raw (OnHandle h call) = false
is_raw (Raw chain) = true

abbrev pub is_raw_statement : Option Statement → Bool
is_raw_statement None = false
is_raw_statement (Some s) = is_raw s.what

-- the statement in a place is a raw line, and is answered
abbrev pub is_raw_answered : ProcessState → ℕ → Bool
is_raw_answered p k = nat_lt k p.answered && is_raw_statement (slice_get p.statements k)

abbrev pub is_raw_at : List Line → ℕ → Bool
is_raw_at [] k = false
is_raw_at (l ∷ ls) zero = is_raw l.what
is_raw_at (l ∷ ls) (suc k) = is_raw_at ls k

-- A process of these lines is orderly.
pub record IsOrderly (model : Model) (lines : ProcessLines) (p : ProcessState) : Type 0 where
  pub fit : IsFitProcess lines
  pub statements : p.statements ≡ statements_of lines.lines
  pub named : length p.handles ≡ length lines.handles
  pub within : begun p ≤ length lines.lines
  pub each : (h : ℕ) → h < length p.handles
      → AnswersLines model lines.lines (take (begun p) lines.lines) (take p.answered lines.lines) h
      (handle_at p h)
  pub out : (h : ℕ) → h < length p.handles → IsOutAt p.status (current_call p) h (handle_at p h)
  pub raw : MayBeRaw p.status (current_call p)
  -- just the answered raw lines have an answer
  pub all_raws : length p.raws ≡ length lines.lines
  pub raws : (k : ℕ) → k < length p.raws
      → is_some (slice_index_or p.raws k None) ≡ is_raw_at (take p.answered lines.lines) k

-- it is orderly for some lines
abbrev pub HasOrder : ProcessState → Type 0
HasOrder p = (model : Model) × (lines : ProcessLines) × IsOrderly model lines p

abbrev pub AreInOrder : List ProcessState → Type 0
AreInOrder processes = (n : ℕ) → n < length processes → HasOrder (process_in processes n)

-- ---- the driver

-- the seat is that of a handle of these processes
abbrev pub IsSeat : List ProcessState → Seat → Type 0
IsSeat processes seat =
    (seat.process < length processes)
    × (seat.handle < length (process_in processes seat.process).handles)

-- the handle of a process's line is one of the process's, if the line is on one
abbrev pub HasSeat : LineKind → List ProcessState → ℕ → Type 0
HasSeat (OnHandle h call) processes n = IsSeat processes (record { process = n; handle = h })
HasSeat (Raw chain) processes n = Unit {0}

-- The driver of a script: each process is orderly, and has its place for its number.
pub record IsDriver (script : ScriptLines) (g : GuestState) : Type 0 where
  pub model : g.model ≡ script.model
  pub count : length g.processes ≡ length script.processes
  pub few : length g.processes ≤ process_limit
  pub numbered : (n : ℕ) → n < length g.processes → (process_at g n).number ≡ n
  pub orderly : (n : ℕ) → n < length g.processes
      → IsOrderly script.model (lines_at script n) (process_at g n)
  pub seats : All (λ seat. IfSome seat (IsSeat g.processes)) g.seats

-- ---- before the first line

-- the handle at a place, with room for the lines on it
abbrev pub fresh_at : Model → ProcessLines → ℕ → HandleState
fresh_at model lines h = fresh_handle model (length (lines_of h lines.lines))

-- the process before its first line
pub record IsFresh (device : Model) (n : ℕ) (lines : ProcessLines) (p : ProcessState) : Type 0 where
  pub number : p.number ≡ n
  pub statements : p.statements ≡ statements_of lines.lines
  pub answered : p.answered ≡ 0
  pub status : p.status ≡ AtRest
  pub named : length p.handles ≡ length lines.handles
  pub fresh : (h : ℕ) → h < length p.handles → handle_at p h ≡ fresh_at device lines h
  pub raws : p.raws ≡ replicate (length lines.lines) None

-- The driver before the first line. Nothing is held back, and no session is there. One handle of
-- each process at most has events held back, and there is a seat for each handle.
pub record IsFreshGuest (script : ScriptLines) (g : GuestState) : Type 0 where
  pub model : g.model ≡ script.model
  pub count : length g.processes ≡ length script.processes
  pub fresh : (n : ℕ) → n < length g.processes
      → IsFresh script.model n (lines_at script n) (process_at g n)
  pub pump : g.pump ≡ record { held = []; room = handle_room * length script.processes }
  pub seats : g.seats ≡ replicate (sum_by (λ p. length p.handles) script.processes) None

-- ---- what a process keeps besides

-- a chain that is at home is the process's
abbrev pub IsThere : ℕ → Option Parcel → Type 0
IsThere n None = ⊥
IsThere n (Some parcel) = IsHome n parcel

-- the chain is at home, unless it is on the link
abbrev pub HasChain : ℕ → Status → Option Parcel → Type 0
HasChain n AtRest chain = IsThere n chain
HasChain n Crossing chain = Unit {0}
HasChain n Blocked chain = IsThere n chain
HasChain n Lent chain = IsThere n chain

-- the table that a statement's chain has in place of the process's own
abbrev pub table_for : ℕ → LineKind → List Desc
table_for n (OnHandle h call) = []
table_for n (Raw chain) = raw_table n chain

-- each statement from a place on has its table ready
abbrev pub HasTables : ℕ → List Statement → ℕ → List (List Desc) → Type 0
HasTables n statements at tables =
    (length tables ≡ length statements)
    × (drop at tables ≡ map (λ s. table_for n s.what) (drop at statements))

-- while a raw line's chain is on the link, the process's own table stands in its place
abbrev pub IsOwnTable : ℕ → LineKind → List Desc → Type 0
IsOwnTable n (OnHandle h call) table = Unit {0}
IsOwnTable n (Raw chain) table = (len : ℕ) × (table ≡ chain_table n len)

abbrev pub HasOwnTable : ℕ → Option Statement → List Desc → Type 0
HasOwnTable n None table = Unit {0}
HasOwnTable n (Some s) table = IsOwnTable n s.what table

-- What a process keeps besides: its chain, and the tables of its raw lines.
pub record HasChains (p : ProcessState) (chain : Option Parcel)
    (tables : List (List Desc)) : Type 0 where
  pub at_home : HasChain p.number p.status chain
  pub ready : HasTables p.number p.statements (begun p) tables
  pub own : HasOwnTable p.number (crossing p) (slice_index_or tables p.answered [])
