-- Who owns a buffer.
use Rattle.std.specs.Prelude.{ℕ, Bool, true, false, Option, slice_get}
use Rattle.std.specs.Option.{option_map}
use Rattle.vm_local.specs.declared.buffer.BufferState.{BufferState}
use Rattle.vm_local.specs.declared.buffer.BufferState.TheVariants.{Idle, Queued, Owed, Done}
use Rattle.vm_local.specs.declared.call.Call.{Call}
use Rattle.vm_local.specs.declared.call.Call.TheVariants.{OpenHandle, CloseHandle, QueryCap, EnumFmt, GFmt, TryFmt, SFmt, EnumInput, GInput, SInput, ReqBufs, QueryBuf, UAlloc, QBuf, StreamOn, StreamOff, DqBuf, Mmap, Munmap, Peek, Hash, Poke, Fill, Subscribe, Unsubscribe, DqEvent}
use Rattle.vm_local.specs.declared.entry.Entry.{Entry}
use Rattle.vm_local.specs.declared.entry.Entry.TheVariants.{Called, Finish, Bad, Give}
use Rattle.vm_local.specs.State.{LocalState, queue_of}

pub data Owner : Type 0 where
  Guest : Owner
  Queue : Owner
  Device : Owner

-- the guest owns an Idle or a Done buffer, the queue a Queued one, and the device an Owed one
abbrev pub owner_by : BufferState → Owner
owner_by Idle = Guest
owner_by Queued = Queue
owner_by Owed = Device
owner_by Done = Guest

-- the owner of the i-th buffer of the queue with type t, where there is one
abbrev pub owner_of : LocalState → ℕ → ℕ → Option Owner
owner_of s t i = option_map (λ b. owner_by b.state) (slice_get (queue_of s t).buffers i)

-- the calls at which an owner may change
abbrev pub moves_by : Call → Bool
moves_by (OpenHandle nonblock) = true
moves_by CloseHandle = true
moves_by QueryCap = false
moves_by (EnumFmt t i) = false
moves_by (GFmt t) = false
moves_by (TryFmt t f w h) = false
moves_by (SFmt t f w h) = false
moves_by (EnumInput i) = false
moves_by GInput = false
moves_by (SInput i) = false
moves_by (ReqBufs t m n) = true
moves_by (QueryBuf t i) = false
moves_by (UAlloc u len off) = false
moves_by (QBuf t i user used ts) = true
moves_by (StreamOn t) = false
moves_by (StreamOff t) = true
moves_by (DqBuf t) = true
moves_by (Mmap m t i ro) = false
moves_by (Munmap m) = false
moves_by (Peek m off len) = false
moves_by (Hash m) = false
moves_by (Poke m off bytes) = false
moves_by (Fill m seed) = false
moves_by (Subscribe e) = false
moves_by (Unsubscribe e) = false
moves_by DqEvent = false

-- the entries at which an owner may change
abbrev pub moves : Entry → Bool
moves (Called line call reply) = moves_by call
moves Finish = true
moves Bad = true
moves Give = true
