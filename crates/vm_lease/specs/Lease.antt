-- A line that touches a memory's bytes: its memory goes out, the call is done on it, and it comes
-- back.
use Rattle.std.specs.Prelude.{ℕ, ◌≡◌, ◌+◌, ◌≤◌, List, length, take, drop, ◌++◌}
use Rattle.sha2.specs.Sha256.{sha256}
use Rattle.vm_mem.specs.Seeded.{seeded}
use Rattle.vm_frame.specs.Mem.{mem_bytes, mem_rest}
use Rattle.vm_frame.specs.declared.mem.Mem.{Mem}
use Rattle.vm_local.specs.declared.call.Call.{Call}
use Rattle.vm_local.specs.declared.call.Call.TheVariants.{Peek, Hash, Poke, Fill}
use Rattle.vm_local.specs.declared.reply.Reply.{Reply}
use Rattle.vm_local.specs.declared.reply.Reply.TheVariants.{Done, Bytes, Digest}
use Rattle.vm_lease.specs.declared.lease_out.LeaseOut.{LeaseOut}

-- a lease: the line and its call, the memory, and the reply, which means nothing before the call is
-- done
pub record LeaseParts : Type 0 where
  pub line : ℕ
  pub call : Call
  pub mem : Mem
  pub reply : Reply

-- the call touches a memory of so many bytes, and no bytes behind them; a read tells at most 256
abbrev pub Touches : Call → ℕ → Type 0
Touches (Peek m off len) size = (off + len ≤ size) × (len ≤ 256)
Touches (Hash m) size = Unit {0}
Touches (Poke m off bytes) size = off + length bytes ≤ size
Touches (Fill m seed) size = Unit {0}
Touches call size = ⊥

-- a memory on its way out for the call of a line
abbrev pub lent : ℕ → Call → Mem → LeaseParts
lent line call mem = record { line = line; call = call; mem = mem; reply = Done }

-- the entry is that of the lease
abbrev pub IsOf : LeaseOut → LeaseParts → Type 0
IsOf entry lease =
    (entry.line ≡ lease.line) × (entry.call ≡ lease.call) × (entry.mem.value ≡ lease.mem)

-- ---- what a call does on a memory's bytes

-- the bytes that it leaves of these
abbrev pub bytes_left : Call → List ℕ → List ℕ
bytes_left (Poke m off bytes) old = take off old ++ (bytes ++ drop (off + length bytes) old)
bytes_left (Fill m seed) old = seeded seed (length old)
bytes_left call old = old

-- what it answers
abbrev pub reply_from : Call → List ℕ → Reply
reply_from (Peek m off len) bytes = Bytes (take len (drop off bytes))
reply_from (Hash m) bytes = Digest (sha256 bytes)
reply_from call bytes = Done

-- The call is done on the memory that went out: its bytes are those that the call leaves, it is the
-- same memory else, and the reply is the call's.
pub record IsDoneOn (call : Call) (before after : Mem) (reply : Reply) : Type 0 where
  pub bytes : mem_bytes after ≡ bytes_left call (mem_bytes before)
  pub rest : mem_rest after ≡ mem_rest before
  pub replies : reply ≡ reply_from call (mem_bytes before)

-- the same lease, with its call done
pub record IsApplied (old new : LeaseParts) : Type 0 where
  pub line : new.line ≡ old.line
  pub call : new.call ≡ old.call
  pub done : IsDoneOn old.call old.mem new.mem new.reply

-- The lease went out as the entry says, and its call was done.
pub record CameBackDone (entry : LeaseOut) (lease : LeaseParts) : Type 0 where
  pub line : lease.line ≡ entry.line
  pub call : lease.call ≡ entry.call
  pub done : IsDoneOn entry.call entry.mem.value lease.mem lease.reply
