-- The memories of a handle that its buffers and names have.
use Rattle.std.specs.Prelude.{ℕ, Bool, not, length, All, Option, Some, None, ◌<◌, ◌&&◌, ◌||◌, ◌==◌, ⊤}
use Rattle.std.specs.List.{list_any}
use Rattle.vm_local.specs.declared.bound.MemoryKind.{MemoryKind}
use Rattle.vm_local.specs.declared.bound.MemoryKind.TheVariants.{Mmap, UserPtr}
use Rattle.vm_local.specs.State.{LocalState}
use Rattle.vm_local.specs.Memory.{is_just, is_in_use}
use Rattle.vm_local.specs.Queue.{is_user_ptr}

-- the number is that of one of the memories that were made
abbrev pub IsMade : LocalState → ℕ → Type 0
IsMade s m = m < length s.memories

-- the memory of a buffer: one of the device's that was made; or one of the guest's own that was
-- made, or none yet
abbrev pub IsBacked : LocalState → MemoryKind → Option ℕ → Type 0
IsBacked s Mmap None = ⊥
IsBacked s Mmap (Some m) = IsMade s m
IsBacked s UserPtr None = ⊤
IsBacked s UserPtr (Some m) = IsMade s m

-- the memories of all buffers and of all names are made
abbrev pub AreBacked : LocalState → Type 0
AreBacked s =
    All (λ q. All (λ b. IsBacked s q.memory b.memory) q.buffers) s.queues ×
    All (λ b. IsMade s b.memory) s.bound

-- the memory is that of a buffer that the device made
abbrev pub is_of_device : LocalState → ℕ → Bool
is_of_device s m =
    list_any (λ q. not (is_user_ptr q.memory) &&
    list_any (λ b. is_just b.memory m) q.buffers) s.queues

-- a name is bound to the memory
abbrev pub is_named : LocalState → ℕ → Bool
is_named s m = list_any (λ b. b.memory == m) s.bound

-- The memory is live: it is that of a buffer that isn't Idle or that the device made, or a name is
-- bound to it.
abbrev pub is_live : LocalState → ℕ → Bool
is_live s m = is_in_use s m || (is_of_device s m || is_named s m)
