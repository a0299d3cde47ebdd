-- The memories of a handle that are with the driver.
use Rattle.std.specs.Prelude.{ℕ, ◌≡◌, ◌&&◌, ◌||◌, Bool, true, false, List, Option, Some, None, length, map, slice_index_or, if◌then◌else◌}
use Rattle.std.specs.List.{range_with_len}
use Rattle.vm_frame.specs.Mem.{mem_bytes}
use Rattle.vm_frame.specs.declared.mem.Mem.{Mem}
use Rattle.vm_frame.specs.declared.mem.Mem.TheVariants.{OfFrame, OfUser}
use Rattle.vm_local.specs.State.{LocalState}
use Rattle.vm_local.specs.Memory.{bytes_of, is_just, is_lent, is_in_use}
use Rattle.vm_local.specs.Live.{is_of_device, is_named}

-- the memories that are with the driver, and for how many there is room in all
pub record HomeState : Type 0 where
  pub places : List (Option Mem)
  pub room : ℕ

-- what is at home of the memory with this number; the list has a place for each memory that was
-- made
abbrev pub home_of : List (Option Mem) → ℕ → Option Mem
home_of home m = slice_index_or home m None

-- The handle still has the memory: a name is bound to it, or the handle is open and it is that of
-- one of its buffers.
abbrev pub is_kept : LocalState → ℕ → Bool
is_kept s m = is_named s m || (s.opened && (is_of_device s m || is_in_use s m))

-- the memory is a frame of the device's making
abbrev pub is_frame : Mem → Bool
is_frame (OfFrame frame) = true
is_frame (OfUser user) = false

-- It is the memory with this number: it has its bytes, and is a frame where a buffer of the
-- device's making has it.
pub record IsMemory (s : LocalState) (m : ℕ) (mem : Mem) : Type 0 where
  pub bytes : mem_bytes mem ≡ bytes_of s m
  pub frame : is_of_device s m ≡ true → is_frame mem ≡ true

abbrev pub IsThere : LocalState → ℕ → Option Mem → Type 0
IsThere s m None = ⊥
IsThere s m (Some mem) = IsMemory s m mem

-- the memory is away with a buffer that is queued or owed, or out along with a call or a lease
abbrev pub is_out : LocalState → Option ℕ → ℕ → Bool
is_out s out m = is_lent s m || is_just out m

-- A memory that is out isn't at home; one that the handle has else is. At the place of one that the
-- handle has no more anything may be left.
abbrev pub IsInPlace : Bool → Bool → LocalState → ℕ → Option Mem → Type 0
IsInPlace true kept s m at_home = at_home ≡ None
IsInPlace false true s m at_home = IsThere s m at_home
IsInPlace false false s m at_home = Unit {0}

-- Each memory is in place, where one of them may be out with a call or a lease.
pub record AreInPlace (s : LocalState) (out : Option ℕ) (home : List (Option Mem)) : Type 0 where
  pub places : length home ≡ length s.memories
  pub each : (m : ℕ) → IsInPlace (is_out s out m) (is_kept s m) s m (home_of home m)

-- what is at home of the memories that the handle has
abbrev pub kept_only : LocalState → List (Option Mem) → List (Option Mem)
kept_only s home =
    map (λ m. if is_kept s m then home_of home m else None) (range_with_len 0 (length s.memories))
