-- The names that a handle has bound, and the memories behind them.
use Rattle.std.specs.Prelude.{ℕ, Bool, false, not, List, [], ◌∷◌, ◌++◌, ◌+◌, ◌/◌, ◌&&◌, ◌==◌, slice_index_or, slice_set, Option, Some, None}
use Rattle.std.specs.List.{list_any, find, filter}
use Rattle.std.specs.Str.{bytes_eq}
use Rattle.vm_local.specs.declared.bound.Bound.{Bound}
use Rattle.vm_local.specs.declared.buffer.Buffer.{Buffer}
use Rattle.vm_local.specs.State.{LocalState}
use Rattle.vm_local.specs.Kinds.{is_idle, is_away, is_mapping_kind, is_writable_kind}

-- ---- bound names

-- what a name is bound to
abbrev pub named_in : List Bound → List ℕ → Option Bound
named_in bound name = find (λ b. bytes_eq b.name name) bound

abbrev pub named : LocalState → List ℕ → Option Bound
named s name = named_in s.bound name

abbrev pub is_mapping : Option Bound → Bool
is_mapping None = false
is_mapping (Some b) = is_mapping_kind b.kind

abbrev pub is_user : Option Bound → Bool
is_user None = false
is_user (Some b) = not (is_mapping_kind b.kind)

abbrev pub is_writable : Option Bound → Bool
is_writable None = false
is_writable (Some b) = is_writable_kind b.kind

-- the number of the memory that a name is bound to
abbrev pub memory_of : Option Bound → ℕ
memory_of None = 0
memory_of (Some b) = b.memory

abbrev pub without_name : List Bound → List ℕ → List Bound
without_name bound name = filter (λ b. not (bytes_eq b.name name)) bound

abbrev pub unbound : LocalState → List ℕ → LocalState
unbound s name = record s { bound = without_name s.bound name }

-- a name that is bound anew stands for the new memory alone
abbrev pub with_bound : LocalState → Bound → LocalState
with_bound s b = record s { bound = without_name s.bound b.name ++ b ∷ [] }

-- ---- memories

-- the bytes of the memory with this number
abbrev pub bytes_of : LocalState → ℕ → List ℕ
bytes_of s m = slice_index_or s.memories m []

abbrev pub with_bytes : LocalState → ℕ → List ℕ → LocalState
with_bytes s m bytes = record s { memories = slice_set s.memories m bytes }

-- how many pages of 4096 bytes hold n bytes
abbrev pub pages_of : ℕ → ℕ
pages_of n = (n + 4095) / 4096

-- ---- the buffer of a memory

abbrev pub is_just : Option ℕ → ℕ → Bool
is_just None n = false
is_just (Some m) n = m == n

-- one of the handle's buffers passes the test
abbrev pub some_buffer : (Buffer → Bool) → LocalState → Bool
some_buffer test s = list_any (λ q. list_any test q.buffers) s.queues

-- the memory's buffer is Queued or Owed. A memory that has no buffer counts as Idle: one whose
-- buffer was freed, and user memory outside the time from a qbuf until that buffer is Idle again
abbrev pub is_lent : LocalState → ℕ → Bool
is_lent s m = some_buffer (λ b. is_just b.memory m && is_away b.state) s

-- the memory's buffer isn't Idle
abbrev pub is_in_use : LocalState → ℕ → Bool
is_in_use s m = some_buffer (λ b. is_just b.memory m && not (is_idle b.state)) s

-- a mapping of the memory is bound
abbrev pub is_mapped : LocalState → Option ℕ → Bool
is_mapped s m = list_any (λ b. is_mapping_kind b.kind && is_just m b.memory) s.bound
