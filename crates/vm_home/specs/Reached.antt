-- What is so of each state that a legal log leads to.
use Rattle.std.specs.Prelude.{ℕ, ◌≡◌, List, Some, false}
use Rattle.v4l_const.specs.declared.model.Model.{Model}
use Rattle.vm_local.specs.declared.entry.Entry.{Entry}
use Rattle.vm_local.specs.State.{LocalState, queue_of, buffer_of}
use Rattle.vm_local.specs.Kinds.{is_idle}
use Rattle.vm_local.specs.Queue.{is_user_ptr}
use Rattle.vm_local.specs.Log.{replay}

-- a legal log leads to the state
abbrev pub IsReached : LocalState → Type 0
IsReached s = (m : Model) × (log : List Entry) × (replay m log ≡ Some s)

-- the i-th buffer of the queue with type t has the memory with this number
abbrev pub HasMemory : LocalState → ℕ → ℕ → ℕ → Type 0
HasMemory s t i m = (buffer_of (queue_of s t) i).memory ≡ Some m

abbrev pub IsBusy : LocalState → ℕ → ℕ → Type 0
IsBusy s t i = is_idle (buffer_of (queue_of s t) i).state ≡ false

-- Each memory has one owner: two buffers that aren't Idle never have one memory, and no other
-- buffer has one that the device made for a buffer.
pub record HasOneOwner (s : LocalState) : Type 0 where
  pub busy : (t i u j m : ℕ) → IsBusy s t i → IsBusy s u j → HasMemory s t i m → HasMemory s u j m →
      (t ≡ u) × (i ≡ j)
  pub frames : (t i u j m : ℕ) → is_user_ptr (queue_of s t).memory ≡ false → HasMemory s t i m →
      HasMemory s u j m → (t ≡ u) × (i ≡ j)
