-- The numbers of a handle that go over the wire.
use Rattle.std.specs.Prelude.{ℕ, ◌≡◌, ◌<◌, ◌≤◌, ◌^◌, All, length, slice_index_or}
use Rattle.v4l_format.specs.Fmt.{IsAdjusted}
use Rattle.v4l_format.specs.Pattern.{patterns}
use Rattle.vm_local.specs.declared.bound.BoundKind.{BoundKind}
use Rattle.vm_local.specs.declared.bound.BoundKind.TheVariants.{Mapping, User}
use Rattle.vm_local.specs.declared.call.Call.{Call}
use Rattle.vm_local.specs.declared.call.Call.TheVariants.{EnumFmt, GFmt, TryFmt, SFmt, EnumInput, SInput, ReqBufs, QueryBuf, QBuf, StreamOn, StreamOff, Mmap, Subscribe, Unsubscribe}
use Rattle.vm_local.specs.declared.entry.Entry.{Entry}
use Rattle.vm_local.specs.declared.entry.Entry.TheVariants.{Called}
use Rattle.vm_local.specs.declared.reply.Reply.{Reply}
use Rattle.vm_local.specs.declared.reply.Reply.TheVariants.{Done, Format, Buf}
use Rattle.vm_local.specs.State.{QueueState, LocalState, opening_queue}
use Rattle.vm_local.specs.Same.{address_in}
use Rattle.vm_local.specs.Record.{without_bytes}

-- the line of user memory, and the place of its first byte in a page; or the address of a mapping
abbrev pub IsKindInRange : BoundKind → Type 0
IsKindInRange (Mapping addr len writable) = addr < 2 ^ 64
IsKindInRange (User line off) = (line < 2 ^ 32) × (off ≤ 4095)

-- The format is one that the device offers, there are at most 32 buffers, and none is longer than a
-- memory may be.
pub record IsQueueInRange (q : QueueState) : Type 0 where
  pub format : IsAdjusted q.format
  pub few : length q.buffers ≤ 32
  pub lengths : All (λ b. b.length ≤ 925696) q.buffers

-- The input is one that the device has, queues and names are in range, and no memory is longer than
-- one may be.
pub record IsInRange (s : LocalState) : Type 0 where
  pub input : s.input < length patterns
  pub queues : (p : ℕ) → IsQueueInRange (slice_index_or s.queues p opening_queue)
  pub memories : All (λ bytes. length bytes ≤ 925696) s.memories
  pub bound : All (λ b. IsKindInRange b.kind) s.bound

-- a record: a state in range, without the bytes of its memories
pub record IsRecord (r : LocalState) : Type 0 where
  pub bare : r ≡ without_bytes r
  pub range : IsInRange r

-- the numbers that a call brings to the device fit into 32 bits
abbrev pub AreWords : Call → Type 0
AreWords (EnumFmt t i) = (t < 2 ^ 32) × (i < 2 ^ 32)
AreWords (GFmt t) = t < 2 ^ 32
AreWords (TryFmt t f w h) = (t < 2 ^ 32) × (f.0 < 2 ^ 32) × (w < 2 ^ 32) × (h < 2 ^ 32)
AreWords (SFmt t f w h) = (t < 2 ^ 32) × (f.0 < 2 ^ 32) × (w < 2 ^ 32) × (h < 2 ^ 32)
AreWords (EnumInput i) = i < 2 ^ 32
AreWords (SInput i) = i < 2 ^ 32
AreWords (ReqBufs t m n) = (t < 2 ^ 32) × (m < 2 ^ 32) × (n < 2 ^ 32)
AreWords (QueryBuf t i) = (t < 2 ^ 32) × (i < 2 ^ 32)
AreWords (QBuf t i user used ts) = (t < 2 ^ 32) × (i < 2 ^ 32) × (used < 2 ^ 32) × (ts < 2 ^ 32)
AreWords (StreamOn t) = t < 2 ^ 32
AreWords (StreamOff t) = t < 2 ^ 32
AreWords (Mmap m t i ro) = (t < 2 ^ 32) × (i < 2 ^ 32)
AreWords (Subscribe e) = e < 2 ^ 32
AreWords (Unsubscribe e) = e < 2 ^ 32
AreWords call = Unit {0}

-- the number of an entry's line, and the address that its reply brings, fit
abbrev pub HasWords : Entry → Type 0
HasWords (Called line call reply) = (line < 2 ^ 32) × (address_in reply < 2 ^ 64)
HasWords e = Unit {0}

-- a reply's format is one that the device offers, and a buffer that is told of or queued is one
-- that a queue may have
abbrev pub IsOffered : Call → Reply → Type 0
IsOffered call (Format f line size) = IsAdjusted f
IsOffered (QueryBuf t i) (Buf len flags) = i < 32
IsOffered (QBuf t i user used ts) Done = i < 32
IsOffered call reply = Unit {0}
