-- Where the lists of a handle have its buffers.
use Rattle.std.specs.Prelude.{◌≡◌, ℕ, Bool, true, false, List, count_by, ◌&&◌, ◌==◌, if◌then◌else◌, length, All, ◌<◌, ⊤}
use Rattle.vm_local.specs.declared.buffer.Buffer.{Buffer}
use Rattle.vm_local.specs.declared.buffer.BufferState.{BufferState}
use Rattle.vm_local.specs.declared.buffer.BufferState.TheVariants.{Idle, Queued, Owed, Done}
use Rattle.vm_local.specs.declared.owed.Owed.{Owed as OwedEntry}
use Rattle.vm_local.specs.declared.owed.OwedItem.{OwedItem}
use Rattle.vm_local.specs.declared.owed.OwedItem.TheVariants.{Buffer as OwedBuffer, Sync}
use Rattle.vm_local.specs.State.{QueueState, LocalState, queue_of, buffer_of}
use Rattle.vm_local.specs.Kinds.{is_done}

abbrev pub is_queued : BufferState → Bool
is_queued Idle = false
is_queued Queued = true
is_queued Owed = false
is_queued Done = false

abbrev pub is_with_device : BufferState → Bool
is_with_device Idle = false
is_with_device Queued = false
is_with_device Owed = true
is_with_device Done = false

abbrev pub is_index : OwedItem → ℕ → Bool
is_index (OwedBuffer j) i = j == i
is_index (Sync frame) i = false

-- how often a list of indices has the i-th buffer
abbrev pub times : List ℕ → ℕ → ℕ
times indices i = count_by (λ j. j == i) indices

-- how often the owed list has the i-th buffer of the queue with type t
abbrev pub times_owed : List OwedEntry → ℕ → ℕ → ℕ
times_owed owed t i = count_by (λ o. o.queue == t && is_index o.item i) owed

-- once where it is so, else never
abbrev pub once : Bool → ℕ
once so = if so then 1 else 0

-- The queue's queued list has the i-th buffer once where that buffer is Queued, and else never. The
-- owed list, which has it so often, has it once where it is Owed, and else never; and the done list
-- once where it is Done.
abbrev pub IsInPlace : QueueState → ℕ → ℕ → Type 0
IsInPlace q owed i =
    let b : Buffer = buffer_of q i in
    (times q.queued i ≡ once (is_queued b.state)) × (owed ≡ once (is_with_device b.state)) ×
    (times q.done i ≡ once (is_done b.state))

-- The lists have the buffers of all queues so. An index behind the last buffer, or of a type that
-- the model doesn't have, stands for no buffer, which is Idle: no list has it.
abbrev pub AreListed : LocalState → Type 0
AreListed s = (t i : ℕ) → IsInPlace (queue_of s t) (times_owed s.owed t i) i

-- a buffer of the queue with this state
abbrev pub IsThere : BufferState → QueueState → ℕ → Type 0
IsThere state q i = (i < length q.buffers) × ((buffer_of q i).state ≡ state)

abbrev pub IsOwedThere : LocalState → ℕ → OwedItem → Type 0
IsOwedThere s t (OwedBuffer i) = IsThere Owed (queue_of s t) i
IsOwedThere s t (Sync frame) = ⊤

-- the lists have buffers of the handle alone, each of the list's state
abbrev pub AreThere : LocalState → Type 0
AreThere s =
    ((t : ℕ) →
    All (IsThere Queued (queue_of s t)) (queue_of s t).queued ×
    All (IsThere Done (queue_of s t)) (queue_of s t).done) ×
    All (λ o. IsOwedThere s o.queue o.item) s.owed
