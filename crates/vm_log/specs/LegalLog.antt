-- The log of one handle of the driver, and the memories of the handle that are at home.
use Rattle.std.specs.Prelude.{ℕ, ◌≡◌, ◌≤◌, ◌+◌, ◌*◌, Bool, true, false, List, [], ◌∷◌, ◌++◌, Option, Some, None, IsSome, length, unwrap_or, if◌then◌else◌, ◌==◌}
use Rattle.v4l_const.specs.declared.model.Model.{Model}
use Rattle.vm_frame.specs.declared.mem.Mem.{Mem}
use Rattle.vm_lease.specs.declared.lease_out.LeaseOut.{LeaseOut}
use Rattle.vm_local.specs.declared.entry.Entry.{Entry}
use Rattle.vm_local.specs.State.{LocalState, opening}
use Rattle.vm_local.specs.Memory.{is_lent}
use Rattle.vm_local.specs.Log.{after, replay, IsLegal}
use Rattle.vm_local.specs.Record.{without_bytes}
use Rattle.vm_home.specs.Home.{IsMemory, AreInPlace, kept_only}
use Rattle.vm_home.specs.Laws.{IsUnrefused}
use Rattle.vm_home.specs.Moves.{touches_bytes, touched}
use Rattle.vm_home.specs.ToCome.{entries_to_come}
use Rattle.vm_log.specs.declared.away.Away.{Away}
use Rattle.vm_log.specs.declared.away.Away.TheVariants.{Nothing, Sent, Lent}

pub record LogState : Type 0 where
  pub model : Model
  pub entries : List Entry
  -- of the memories that the handle has those that are at home, each in the place of its number
  pub home : List (Option Mem)
  -- the memory that is out with a call or a lease
  pub away : Away
  -- for how many lines there is room, how many were begun, and whether the last of them is still
  -- unanswered
  pub lines : ℕ
  pub begun : ℕ
  pub unanswered : Bool

-- a log before the first line
abbrev pub fresh_log : Model → ℕ → LogState
fresh_log model lines =
    record {
      model = model;
      entries = [];
      home = [];
      away = Nothing;
      lines = lines;
      begun = 0;
      unanswered = false;
    }

-- ---- the state of the log

-- the state that a legal log leads to
abbrev pub state_after : Model → List Entry → LocalState
state_after model log = unwrap_or (replay model log) (opening model)

abbrev pub state_of : LogState → LocalState
state_of l = state_after l.model l.entries

-- the entry is legal behind the log
abbrev pub MayFollow : LogState → Entry → Type 0
MayFollow l e = IsSome (after (state_of l) e)

-- ---- what is out

-- the number of the memory that is out
abbrev pub number_away : LocalState → Away → Option ℕ
number_away s Nothing = None
number_away s (Sent number) = Some number
number_away s (Lent entry) = Some (touched s entry.call)

-- the lease that is out
abbrev pub lease_in : Away → Option LeaseOut
lease_in Nothing = None
lease_in (Sent number) = None
lease_in (Lent entry) = Some entry

-- the lease of this line is out
abbrev pub is_lent_to : Away → ℕ → Bool
is_lent_to Nothing line = false
is_lent_to (Sent number) line = false
is_lent_to (Lent entry) line = entry.line == line

-- A memory that is out with a call isn't the device's yet. One that is out with a lease is the
-- memory of its line, which nothing refuses, as the state has it. A line is still unanswered then.
abbrev pub IsAway : LocalState → Away → Bool → Type 0
IsAway s Nothing unanswered = Unit {0}
IsAway s (Sent number) unanswered = (unanswered ≡ true) × (is_lent s number ≡ false)
IsAway s (Lent entry) unanswered =
    (unanswered ≡ true) × (touches_bytes entry.call ≡ true) × IsUnrefused s entry.call
    × IsMemory s (touched s entry.call) entry.mem.value

-- ---- what a log keeps

-- so many where a line is still unanswered, else none
abbrev pub reserved : ℕ → Bool → ℕ
reserved n unanswered = if unanswered then n else 0

-- There is room for each line that was begun: four entries, those to come among them, and 32
-- memories.
pub record IsWithin (s : LocalState) (logged lines begun : ℕ) (unanswered : Bool) : Type 0 where
  pub few : begun ≤ lines
  pub to_come : logged + entries_to_come s + reserved 4 unanswered ≤ 4 * begun
  pub made : length s.memories + reserved 32 unanswered ≤ 32 * begun

-- The log is legal, each memory is in its place, and there is room for what is to come.
pub record IsSound (l : LogState) : Type 0 where
  pub legal : IsLegal l.model l.entries
  pub in_place : AreInPlace (state_of l) (number_away (state_of l) l.away) l.home
  pub out : IsAway (state_of l) l.away l.unanswered
  pub within : IsWithin (state_of l) (length l.entries) l.lines l.begun l.unanswered

-- What the fields of a log keep: the log is legal, the record shows the state that it leads to, and
-- each memory is in its place.
pub record Keeps (m : Model) (log : List Entry) (kept : LocalState) (home : List (Option Mem))
    (away : Away) (unanswered : Bool) : Type 0 where
  pub legal : IsLegal m log
  pub shown : kept ≡ without_bytes (state_after m log)
  pub in_place : AreInPlace (state_after m log) (number_away (state_after m log) away) home
  pub out : IsAway (state_after m log) away unanswered

-- ---- what is logged

-- One more entry. Of what is at home then, that counts which the handle has.
abbrev pub with_entry : LogState → Entry → List (Option Mem) → LogState
with_entry l e home =
    let entries : List Entry = l.entries ++ e ∷ [] in
    record l { entries = entries; home = kept_only (state_after l.model entries) home }
