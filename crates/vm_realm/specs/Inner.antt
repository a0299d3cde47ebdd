-- What is behind the slice of a handle: the states that its log and the messages under way lead to.
use Rattle.std.specs.Prelude.{ℕ, List, [], ◌++◌, Option, Some, None}
use Rattle.vm_local.specs.declared.entry.Entry.{Entry}
use Rattle.vm_local.specs.State.{LocalState}
use Rattle.vm_log.specs.LegalLog.{state_of}
use Rattle.vm_handle.specs.Handle.{id_of}
use Rattle.vm_session.specs.State.{SessionState}
use Rattle.vm_session.specs.declared.unsent.Unsent.{Unsent}
use Rattle.vm_realm.specs.Slice.{Slice, id_ahead, earlier_of}

-- The call that was executed and isn't collected, with its reply; the state before that call, and
-- the state ahead; and the numbers of the memories of all frames that the session made.
pub record Inner : Type 0 where
  pub executed : Option Entry
  pub before : LocalState
  pub ahead : LocalState
  pub frames : List ℕ

-- where nothing was executed and nothing is under way
abbrev pub inner_of : LocalState → Inner
inner_of s = record { executed = None; before = s; ahead = s; frames = [] }

-- the driver's state: that of the handle's log
abbrev pub driver_state : Slice → LocalState
driver_state x = state_of x.handle.log

-- the id of the session
abbrev pub id_in : Slice → ℕ
id_in x = id_of (id_ahead x.handle x.out)

abbrev pub unsent_in : Option SessionState → List Unsent
unsent_in None = []
unsent_in (Some s) = s.unsent

-- the messages that are under way: those that were sent, and those that are unsent
abbrev pub under_way : Slice → List Unsent
under_way x = earlier_of x ++ unsent_in x.session
