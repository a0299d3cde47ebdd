-- Tests of the kinds of things.
use Rattle.std.specs.Prelude.{Bool, true, false}
use Rattle.vm_local.specs.declared.bound.BoundKind.{BoundKind}
use Rattle.vm_local.specs.declared.bound.BoundKind.TheVariants.{Mapping, User}
use Rattle.vm_local.specs.declared.buffer.BufferState.{BufferState}
use Rattle.vm_local.specs.declared.buffer.BufferState.TheVariants.{Idle, Queued, Owed, Done}

abbrev pub is_idle : BufferState → Bool
is_idle Idle = true
is_idle Queued = false
is_idle Owed = false
is_idle Done = false

-- the buffer is Queued or Owed
abbrev pub is_away : BufferState → Bool
is_away Idle = false
is_away Queued = true
is_away Owed = true
is_away Done = false

abbrev pub is_done : BufferState → Bool
is_done Idle = false
is_done Queued = false
is_done Owed = false
is_done Done = true

abbrev pub is_mapping_kind : BoundKind → Bool
is_mapping_kind (Mapping addr len writable) = true
is_mapping_kind (User line off) = false

-- user memory may always be written
abbrev pub is_writable_kind : BoundKind → Bool
is_writable_kind (Mapping addr len writable) = writable
is_writable_kind (User line off) = true
