-- A call that follows steps of the device, and the same call before them.
use Rattle.std.specs.Prelude.{◌≡◌, ℕ, Bool, true, false, not, ◌&&◌, ◌||◌, List, [], Some, All}
use Rattle.v4l_const.specs.declared.errno.Errno.{Errno}
use Rattle.vm_local.specs.declared.call.Call.{Call}
use Rattle.vm_local.specs.declared.call.Call.TheVariants.{OpenHandle, CloseHandle, QueryCap, EnumFmt, GFmt, TryFmt, SFmt, EnumInput, GInput, SInput, ReqBufs, QueryBuf, UAlloc, QBuf, StreamOn, StreamOff, DqBuf, Mmap, Munmap, Peek, Hash, Poke, Fill, Subscribe, Unsubscribe, DqEvent}
use Rattle.vm_local.specs.declared.entry.Entry.{Entry}
use Rattle.vm_local.specs.declared.entry.Entry.TheVariants.{Called, Finish, Bad, Give}
use Rattle.vm_local.specs.declared.reply.Reply.{Reply}
use Rattle.vm_local.specs.declared.reply.Reply.TheVariants.{Buf, Refused}
use Rattle.vm_local.specs.State.{LocalState}
use Rattle.vm_local.specs.Record.{is_refusal}
use Rattle.vm_local.specs.Log.{IsCall, replay_from}

-- ---- the calls

-- A call of this kind may cross to the device. Whether it does depends on the state too: the driver
-- refuses some by itself.
abbrev pub may_cross : Call → Bool
may_cross (OpenHandle nonblock) = true
may_cross CloseHandle = true
may_cross QueryCap = true
may_cross (EnumFmt t i) = true
may_cross (GFmt t) = true
may_cross (TryFmt t f w h) = true
may_cross (SFmt t f w h) = true
may_cross (EnumInput i) = true
may_cross GInput = true
may_cross (SInput i) = true
may_cross (ReqBufs t m n) = true
may_cross (QueryBuf t i) = true
may_cross (UAlloc u len off) = false
may_cross (QBuf t i user used ts) = true
may_cross (StreamOn t) = true
may_cross (StreamOff t) = true
may_cross (DqBuf t) = false
may_cross (Mmap m t i ro) = true
may_cross (Munmap m) = true
may_cross (Peek m off len) = false
may_cross (Hash m) = false
may_cross (Poke m off bytes) = false
may_cross (Fill m seed) = false
may_cross (Subscribe e) = true
may_cross (Unsubscribe e) = true
may_cross DqEvent = false

abbrev pub is_open : Call → Bool
is_open (OpenHandle nonblock) = true
is_open call = false

-- the calls that stop queues
abbrev pub is_stopping : Call → Bool
is_stopping CloseHandle = true
is_stopping (ReqBufs t m n) = true
is_stopping (StreamOff t) = true
is_stopping call = false

-- a call that may cross, and is neither an open nor a stopping call that was done
abbrev pub may_go_first : Call → Reply → Bool
may_go_first call reply =
    may_cross call && (not (is_open call) && (not (is_stopping call) || is_refusal reply))

-- ---- the steps

abbrev pub is_step : Entry → Bool
is_step (Called line call reply) = false
is_step Finish = true
is_step Bad = true
is_step Give = true

-- the entries are all steps that the device makes of its own
abbrev pub AreSteps : List Entry → Type 0
AreSteps entries = All (λ e. is_step e ≡ true) entries

-- ---- what the order changes

-- a reply but for the flags that QUERYBUF tells
abbrev pub without_flags : Reply → Reply
without_flags (Buf length flags) = Buf length 0
without_flags reply = reply

-- the replies are the same but for the flags that QUERYBUF tells
abbrev pub SameButFlags : Reply → Reply → Type 0
SameButFlags reply other = without_flags reply ≡ without_flags other

-- a state but for its subscription, its events and the number of the next event
abbrev pub without_events : LocalState → LocalState
without_events s = record s { subscribed = false; events = []; next_event = 0 }

-- the states are the same but for these
abbrev pub SameButEvents : LocalState → LocalState → Type 0
SameButEvents s other = without_events s ≡ without_events other

-- From the state s the call has this reply, but for flags, before the steps; the steps are legal
-- after it; and they lead to the state `next`, but for events.
pub record GoesFirst (s : LocalState) (steps : List Entry) (line : ℕ) (call : Call)
    (reply : Reply) (next : LocalState) : Type 0 where
  pub first_reply : Reply
  -- the state after the call, before the steps
  pub between : LocalState
  -- the state after both
  pub last : LocalState
  pub same_reply : SameButFlags first_reply reply
  pub is_call : IsCall s line call first_reply between
  pub are_legal : replay_from between steps ≡ Some last
  pub same_state : SameButEvents last next

-- ---- the laws

-- After some steps a call that may go first has a reply, and leads to a state: then it goes first.
abbrev pub CallsGoFirst : LocalState → Type 0
CallsGoFirst s =
    (steps : List Entry) (after : LocalState) (line : ℕ) (call : Call) (reply : Reply)
    (next : LocalState) →
    AreSteps steps → replay_from s steps ≡ Some after → may_go_first call reply ≡ true →
    IsCall after line call reply next → GoesFirst s steps line call reply next

-- A call that may cross and is refused after some steps is refused so before them.
abbrev pub RefusalsComeFirst : LocalState → Type 0
RefusalsComeFirst s =
    (steps : List Entry) (after : LocalState) (line : ℕ) (call : Call) (e : Errno)
    (next : LocalState) →
    AreSteps steps → replay_from s steps ≡ Some after → may_cross call ≡ true →
    IsCall after line call (Refused e) next → IsCall s line call (Refused e) s
