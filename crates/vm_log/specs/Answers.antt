-- What the calls of a handle's log answer.
use Rattle.std.specs.Prelude.{ℕ, ◌≡◌, ◌≤◌, ◌+◌, replicate, true, false, List, [], ◌∷◌, Option, Some, None, slice_set}
use Rattle.v4l_const.specs.declared.errno.Errno.{Errno}
use Rattle.vm_frame.specs.declared.mem.Held.{Held}
use Rattle.vm_frame.specs.declared.mem.Mem.{Mem}
use Rattle.vm_lease.specs.Lease.{LeaseParts, IsOf, CameBackDone, lent}
use Rattle.vm_lease.specs.declared.lease_out.LeaseOut.{LeaseOut}
use Rattle.vm_local.specs.declared.call.Call.{Call}
use Rattle.vm_local.specs.declared.call.Call.TheVariants.{UAlloc, QBuf, Peek}
use Rattle.vm_local.specs.declared.entry.Entry.TheVariants.{Called, Give}
use Rattle.vm_local.specs.declared.owed.Owed.{Owed}
use Rattle.vm_local.specs.declared.owed.OwedItem.{OwedItem}
use Rattle.vm_local.specs.declared.owed.OwedItem.TheVariants.{Buffer as OwedBuffer, Sync}
use Rattle.vm_local.specs.declared.reply.Reply.{Reply}
use Rattle.vm_local.specs.declared.reply.Reply.TheVariants.{Pages, Refused}
use Rattle.vm_local.specs.State.{LocalState}
use Rattle.vm_home.specs.Home.{home_of}
use Rattle.vm_home.specs.Moves.{is_refusal, memory_at, touched, home_with}
use Rattle.vm_log.specs.LegalLog.{LogState, state_of, with_entry}
use Rattle.vm_log.specs.declared.away.Away.{Away}
use Rattle.vm_log.specs.declared.away.Away.TheVariants.{Nothing, Sent, Lent}
use Rattle.vm_log.specs.declared.leased.Leased.{Leased}
use Rattle.vm_log.specs.declared.leased.Leased.TheVariants.{Out, Answered}

-- ---- lines

abbrev pub with_line : LogState → LogState
with_line l = record l { begun = l.begun + 1; unanswered = true }

-- the line that was begun is answered, and this is at home then
abbrev pub answered_with : LogState → ℕ → Call → Reply → List (Option Mem) → LogState
answered_with l line call reply home =
    record (with_entry l (Called line call reply) home) { away = Nothing; unanswered = false }

-- its reply came with these memories
abbrev pub replied : LogState → ℕ → Call → Reply → List Held → LogState
replied l line call reply held =
    answered_with l line call reply (home_with (state_of l) call held l.home)

-- the call makes user memory, is answered so, and these are the memory's bytes
abbrev pub IsMadeBy : Call → Reply → List ℕ → Type 0
IsMadeBy (UAlloc u len off) (Pages pages) bytes = bytes ≡ replicate len 0
IsMadeBy call reply bytes = ⊥

-- ---- to the device

-- the memory is that of the buffer which the call queues
abbrev pub IsQueuedBy : Call → Held → Type 0
IsQueuedBy (QBuf t i user used ts) held = (held.queue ≡ t) × (held.index ≡ i)
IsQueuedBy call held = ⊥

-- The memory that goes to the device with the call, if one does, was at home and is away from then
-- on.
abbrev pub Sends : Option ℕ → LogState → Call → Option Held → LogState → Type 0
Sends None old call sent new = (sent ≡ None) × (new ≡ old)
Sends (Some number) old call None new = ⊥
Sends (Some number) old call (Some held) new =
    IsQueuedBy call held × (home_of old.home number ≡ Some held.mem)
    × (new ≡ record old { home = slice_set old.home number None; away = Sent number })

-- A call that takes a memory along was made on its way, and isn't refused. Else none is out.
abbrev pub AlongWith : Option ℕ → Away → Reply → Type 0
AlongWith None away reply = away ≡ Nothing
AlongWith (Some number) away reply = (away ≡ Sent number) × (is_refusal reply ≡ false)

-- ---- from the device

-- the number of the memory that is owed first
abbrev pub number_in : LocalState → OwedItem → ℕ → ℕ
number_in s (OwedBuffer i) t = memory_at s t i
number_in s (Sync frame) t = 0

abbrev pub number_owed : LocalState → List Owed → ℕ
number_owed s [] = 0
number_owed s (o ∷ owed) = number_in s o.item o.queue

abbrev pub first_number : LocalState → ℕ
first_number s = number_owed s s.owed

-- the first buffer that is owed is given, with its memory
abbrev pub given_with : LogState → Mem → LogState
given_with l mem = with_entry l Give (slice_set l.home (first_number (state_of l)) (Some mem))

-- ---- leases

-- a read asks for at most 256 bytes
abbrev pub AsksFew : Call → Type 0
AsksFew (Peek m off len) = len ≤ 256
AsksFew call = Unit {0}

-- the memory of the line was at home, and is out with this lease
pub record GoesOut (old : LogState) (line : ℕ) (call : Call) (out : LeaseParts)
    (new : LogState) : Type 0 where
  pub mem : Mem
  pub entry : LeaseOut
  pub there : home_of old.home (touched (state_of old) call) ≡ Some mem
  pub lent_out : out ≡ lent line call mem
  pub noted : IsOf entry out
  pub left : new ≡ record old {
    home = slice_set old.home (touched (state_of old) call) None;
    away = Lent entry;
  }

-- A line that touches a memory is refused and answered so, or else its memory goes out.
abbrev pub Leases : Option Errno → LogState → ℕ → Call → Leased → LogState → Type 0
Leases (Some errno) old line call Answered new =
    new ≡ answered_with old line call (Refused errno) old.home
Leases None old line call (Out lease) new = GoesOut old line call lease new
Leases refused old line call leased new = ⊥

-- it went out as the entry says, and its call was done
abbrev pub IsDone : Option LeaseOut → LeaseParts → Type 0
IsDone None lease = Unit {0}
IsDone (Some entry) lease = CameBackDone entry lease

-- the lease's memory is at home, and its line is answered
abbrev pub given_back : LogState → LeaseParts → LogState
given_back l lease =
    answered_with l lease.line lease.call lease.reply
    (slice_set l.home (touched (state_of l) lease.call) (Some lease.mem))
