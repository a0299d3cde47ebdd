-- One process of the driver: its handles, and how far its statements have come.
use Rattle.std.specs.Prelude.{ℕ, ◌+◌, Bool, true, false, ◌&&◌, not, ◌==◌, List, Option, Some, None, length, slice_get, slice_index_or, slice_set, if◌then◌else◌}
use Rattle.std.specs.Option.{option_and_then, option_map_or}
use Rattle.v4l_const.specs.declared.errno.Errno.{Errno}
use Rattle.v4l_const.specs.declared.model.Model.TheVariants.{Capture}
use Rattle.vm_lease.specs.declared.lease_out.LeaseOut.{LeaseOut}
use Rattle.vm_log.specs.LegalLog.{LogState, lease_in}
use Rattle.vm_script.specs.declared.line.LineKind.{LineKind}
use Rattle.vm_handle.specs.Handle.{HandleState, fresh_handle}
use Rattle.vm_guest.specs.Asking.{asked_by, is_leased}
use Rattle.vm_guest.specs.declared.asked.Asked.{Asked}
use Rattle.vm_guest.specs.declared.asked.Statement.{Statement}
use Rattle.vm_guest.specs.declared.status.Status.{Status}
use Rattle.vm_guest.specs.declared.status.Status.TheVariants.{AtRest, Crossing, Blocked, Lent}

-- The process's number, its statements and handles, how many of its statements are answered, what
-- it does with the next one, and by statement the errno of each raw line that is answered.
pub record ProcessState : Type 0 where
  pub number : ℕ
  pub statements : List Statement
  pub handles : List HandleState
  pub answered : ℕ
  pub status : Status
  pub raws : List (Option Errno)

-- ---- how far it has come

abbrev pub is_at_rest : Status → Bool
is_at_rest AtRest = true
is_at_rest status = false

abbrev pub is_crossing : Status → Bool
is_crossing Crossing = true
is_crossing status = false

abbrev pub is_blocked : Status → Bool
is_blocked Blocked = true
is_blocked status = false

abbrev pub is_lent : Status → Bool
is_lent Lent = true
is_lent status = false

-- how many of its statements were begun
abbrev pub begun : ProcessState → ℕ
begun p = if is_at_rest p.status then p.answered else p.answered + 1

-- every statement is answered
abbrev pub is_done : ProcessState → Bool
is_done p = is_at_rest p.status && (p.answered == length p.statements)

-- the first statement that isn't answered
abbrev pub current : ProcessState → Option Statement
current p = slice_get p.statements p.answered

-- the call that it asks of a handle
abbrev pub current_call : ProcessState → Option Asked
current_call p = option_and_then asked_by (current p)

abbrev pub some_if : {A : Type 0} → Bool → Option A → Option A
some_if true x = x
some_if false x = None

-- the statement that may be begun: the first that isn't answered, unless it was begun
abbrev pub next : ProcessState → Option Statement
next p = some_if (is_at_rest p.status) (current p)

abbrev pub kept_by : (LineKind → Bool) → Option Statement → Option Statement
kept_by f None = None
kept_by f (Some s) = if f s.what then Some s else None

-- the statement that may be issued: the next one, where it touches no memory's bytes
abbrev pub issuing : ProcessState → Option Statement
issuing p = kept_by (λ what. not (is_leased what)) (next p)

-- the call that may be begun by a lease: that of the next statement, where it does
abbrev pub leasing : ProcessState → Option Asked
leasing p = option_and_then asked_by (kept_by is_leased (next p))

-- the statement whose chain is on the link, and the call that it asks of a handle
abbrev pub crossing : ProcessState → Option Statement
crossing p = some_if (is_crossing p.status) (current p)

abbrev pub crossing_call : ProcessState → Option Asked
crossing_call p = some_if (is_crossing p.status) (current_call p)

-- ---- its handles

-- a handle that no script names
abbrev pub no_handle : HandleState
no_handle = fresh_handle Capture 0

abbrev pub handle_in : List HandleState → ℕ → HandleState
handle_in handles h = slice_index_or handles h no_handle

abbrev pub handle_at : ProcessState → ℕ → HandleState
handle_at p h = handle_in p.handles h

abbrev pub with_handle : ProcessState → ℕ → HandleState → ProcessState
with_handle p h handle = record p { handles = slice_set p.handles h handle }

abbrev pub with_log : ProcessState → ℕ → LogState → ProcessState
with_log p h log = with_handle p h (record (handle_at p h) { log = log })

-- the call is answered on its handle
abbrev pub is_answered_in : List HandleState → Option Asked → Bool
is_answered_in handles None = false
is_answered_in handles (Some a) = not (handle_in handles a.handle).log.unanswered

-- ---- what it does with the next statement

-- it is begun, and not answered
abbrev pub doing : Status → ProcessState → ProcessState
doing status p = record p { status = status }

-- it is answered
abbrev pub rested : ProcessState → ProcessState
rested p = record p { answered = p.answered + 1; status = AtRest }

-- ---- its lease

abbrev pub lease_on : ProcessState → Option Asked → Option LeaseOut
lease_on p None = None
lease_on p (Some a) = lease_in (handle_at p a.handle).log.away

-- the lease that is out
abbrev pub lease_out : ProcessState → Option LeaseOut
lease_out p = some_if (is_lent p.status) (lease_on p (current_call p))

-- the lease of this line is the one that is out
abbrev pub is_lent_for : ProcessState → ℕ → Bool
is_lent_for p line = option_map_or (λ entry. entry.line == line) (lease_out p) false
