-- What a statement asks.
use Rattle.std.specs.Prelude.{ℕ, Bool, true, false, List, Option, Some, None, map}
use Rattle.vm_home.specs.Moves.{touches_bytes, is_stopping}
use Rattle.vm_local.specs.declared.call.Call.{Call}
use Rattle.vm_local.specs.declared.call.Call.TheVariants.{DqBuf, DqEvent}
use Rattle.vm_script.specs.declared.line.Line.{Line}
use Rattle.vm_script.specs.declared.line.LineKind.{LineKind}
use Rattle.vm_script.specs.declared.line.LineKind.TheVariants.{OnHandle, Raw}
use Rattle.vm_guest.specs.declared.asked.Asked.{Asked}
use Rattle.vm_guest.specs.declared.asked.Statement.{Statement}

-- a script's line as the driver keeps it, without its words
abbrev pub statement_of : Line → Statement
statement_of l = record { line = l.number; what = l.what }

abbrev pub statements_of : List Line → List Statement
statements_of ls = map statement_of ls

abbrev pub asked_in : ℕ → LineKind → Option Asked
asked_in line (OnHandle h call) = Some (record { line = line; handle = h; call = call })
asked_in line (Raw chain) = None

-- the call on a handle that the statement asks; a raw line asks none
abbrev pub asked_by : Statement → Option Asked
asked_by s = asked_in s.line s.what

-- a line that touches a memory's bytes is begun by a lease
abbrev pub is_leased : LineKind → Bool
is_leased (OnHandle h call) = touches_bytes call
is_leased (Raw chain) = false

-- a call that tells what is done or has happened: all that is finished is taken before it is begun
abbrev pub asks_events : Call → Bool
asks_events (DqBuf t) = true
asks_events DqEvent = true
asks_events call = false

abbrev pub begins_with_events : LineKind → Bool
begins_with_events (OnHandle h call) = asks_events call
begins_with_events (Raw chain) = false

-- a call that stops queues: all that is finished is taken before its reply is logged
abbrev pub ends_with_events : LineKind → Bool
ends_with_events (OnHandle h call) = is_stopping call
ends_with_events (Raw chain) = false
