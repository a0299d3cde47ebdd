-- Which memories a call moves: that which goes along with it, those that come back with its reply,
-- and the one that it touches.
use Rattle.std.specs.Prelude.{ℕ, ◌≡◌, Bool, true, false, not, ◌&&◌, List, [], ◌∷◌, ◌++◌, All, Option, Some, None, length, map, take, drop, slice_set, if◌then◌else◌}
use Rattle.std.specs.List.{flat_map, range_with_len}
use Rattle.v4l_const.specs.Model.{queues as types_of}
use Rattle.vm_frame.specs.declared.mem.Held.{Held}
use Rattle.vm_frame.specs.declared.mem.Mem.{Mem}
use Rattle.vm_local.specs.declared.call.Call.{Call}
use Rattle.vm_local.specs.declared.call.Call.TheVariants.{OpenHandle, CloseHandle, ReqBufs, UAlloc, QBuf, StreamOff, Peek, Hash, Poke, Fill}
use Rattle.vm_local.specs.declared.entry.Entry.{Entry}
use Rattle.vm_local.specs.declared.entry.Entry.TheVariants.{Called, Finish, Bad, Give}
use Rattle.vm_local.specs.declared.owed.Owed.{Owed}
use Rattle.vm_local.specs.declared.owed.OwedItem.{OwedItem}
use Rattle.vm_local.specs.declared.owed.OwedItem.TheVariants.{Buffer as OwedBuffer, Sync}
use Rattle.vm_local.specs.declared.reply.Reply.{Reply}
use Rattle.vm_local.specs.declared.reply.Reply.TheVariants.{Refused}
use Rattle.vm_local.specs.State.{LocalState, queue_of, buffer_of}
use Rattle.vm_local.specs.Memory.{named, memory_of}
use Rattle.vm_local.specs.Queue.{is_user_ptr, is_owed, brought, memory_from}
use Rattle.vm_local.specs.Steps.{number_of}
use Rattle.vm_home.specs.Home.{IsMemory}

-- the calls that move a memory, make one or write to one
abbrev pub moves_memory : Call → Bool
moves_memory (OpenHandle nonblock) = true
moves_memory CloseHandle = true
moves_memory (ReqBufs t m n) = true
moves_memory (UAlloc u len off) = true
moves_memory (QBuf t i user used ts) = true
moves_memory (StreamOff t) = true
moves_memory (Poke m off bytes) = true
moves_memory (Fill m seed) = true
moves_memory call = false

abbrev pub is_refusal : Reply → Bool
is_refusal (Refused errno) = true
is_refusal reply = false

abbrev pub is_buffer : OwedItem → Bool
is_buffer (OwedBuffer i) = true
is_buffer (Sync frame) = false

-- the first thing owed is a buffer
abbrev pub owes_buffer : List Owed → Bool
owes_buffer [] = false
owes_buffer (o ∷ owed) = is_buffer o.item

-- The entries that move a memory: such a call that isn't refused, and the step that gives a buffer.
abbrev pub moves_at : LocalState → Entry → Bool
moves_at s (Called line call reply) = not (is_refusal reply) && moves_memory call
moves_at s Finish = false
moves_at s Bad = false
moves_at s Give = owes_buffer s.owed

-- ---- along with a call

-- the number of the memory of a buffer
abbrev pub memory_at : LocalState → ℕ → ℕ → ℕ
memory_at s t i = number_of (buffer_of (queue_of s t) i)

-- the number of the memory that goes to the device with a call: that of the buffer which it queues
abbrev pub goes_along : LocalState → Call → Option ℕ
goes_along s (QBuf t i user used ts) = memory_from (brought s user) (buffer_of (queue_of s t) i)
goes_along s call = None

-- ---- lent

-- the calls that touch the bytes of a memory
abbrev pub touches_bytes : Call → Bool
touches_bytes (Peek m off len) = true
touches_bytes (Hash m) = true
touches_bytes (Poke m off bytes) = true
touches_bytes (Fill m seed) = true
touches_bytes call = false

-- the number of that memory
abbrev pub touched : LocalState → Call → ℕ
touched s (Peek m off len) = memory_of (named s m)
touched s (Hash m) = memory_of (named s m)
touched s (Poke m off bytes) = memory_of (named s m)
touched s (Fill m seed) = memory_of (named s m)
touched s call = 0

-- ---- with a reply

-- a buffer of a handle
pub record Place : Type 0 where
  pub queue : ℕ
  pub index : ℕ

abbrev pub places_on : ℕ → List ℕ → List Place
places_on t indices = map (λ i. record { queue = t; index = i }) indices

-- the buffers that are queued, of one queue and of all, the first one first
abbrev pub queued_on : LocalState → ℕ → List Place
queued_on s t = places_on t (queue_of s t).queued

-- the calls that stop queues
abbrev pub is_stopping : Call → Bool
is_stopping CloseHandle = true
is_stopping (ReqBufs t m n) = true
is_stopping (StreamOff t) = true
is_stopping call = false

-- the queues that a call stops
abbrev pub stops : LocalState → Call → List ℕ
stops s CloseHandle = types_of s.model
stops s (ReqBufs t m n) = t ∷ []
stops s (StreamOff t) = t ∷ []
stops s call = []

-- the device makes frames for all buffers of a queue whose memory isn't the user's
abbrev pub made_on : LocalState → ℕ → List Place
made_on s t =
    if is_user_ptr (queue_of s t).memory then []
    else places_on t (range_with_len 0 (length (queue_of s t).buffers))

abbrev pub made_by : LocalState → Call → List Place
made_by next (ReqBufs t m n) = made_on next t
made_by next call = []

-- these memories are those of these buffers, in order, as the state has them
abbrev pub AreMemories : LocalState → List Place → List Held → Type 0
AreMemories s [] [] = Unit {0}
AreMemories s [] (h ∷ hs) = ⊥
AreMemories s (p ∷ ps) [] = ⊥
AreMemories s (p ∷ ps) (h ∷ hs) =
    (h.queue ≡ p.queue) × (h.index ≡ p.index)
    × IsMemory s (memory_at s p.queue p.index) h.mem × AreMemories s ps hs

-- Of the queues that the call stops nothing is owed; the memories that were queued on them come
-- back first, as the state before has them, and then the fresh ones, as the state after does.
pub record ComeBack (s next : LocalState) (call : Call) (held : List Held) : Type 0 where
  pub settled : All (λ t. is_owed s t ≡ false) (stops s call)
  pub back : List Held
  pub fresh : List Held
  pub ordered : held ≡ back ++ fresh
  pub queued : AreMemories s (flat_map (queued_on s) (stops s call)) back
  pub made : AreMemories next (made_by next call) fresh

-- no memory comes with a refusal
abbrev pub ComeWith : LocalState → LocalState → Call → Reply → List Held → Type 0
ComeWith s next call (Refused errno) held = held ≡ []
ComeWith s next call reply held = ComeBack s next call held

-- ---- what is at home then

-- without the memory of this number, if there is one
abbrev pub home_without : Option ℕ → List (Option Mem) → List (Option Mem)
home_without None home = home
home_without (Some m) home = slice_set home m None

-- with these memories in the places of their buffers' memories
abbrev pub put_back : LocalState → List Held → List (Option Mem) → List (Option Mem)
put_back s [] home = home
put_back s (h ∷ hs) home = put_back s hs (slice_set home (memory_at s h.queue h.index) (Some h.mem))

-- how many buffers are queued on the queues that a call stops
abbrev pub stopped_count : LocalState → Call → ℕ
stopped_count s call = length (flat_map (queued_on s) (stops s call))

-- with the memories that come with a call's reply: first those that were queued, and then fresh
-- ones behind all others
abbrev pub home_with : LocalState → Call → List Held → List (Option Mem) → List (Option Mem)
home_with s call held home =
    put_back s (take (stopped_count s call) held) home ++
    map (λ h. Some h.mem) (drop (stopped_count s call) held)
