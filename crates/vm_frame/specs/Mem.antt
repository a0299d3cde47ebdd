-- The memory of a buffer, whichever it is.
use Rattle.std.specs.Prelude.{ℕ, List, map}
use Rattle.vm_frame.specs.declared.mem.Mem.{Mem}
use Rattle.vm_frame.specs.declared.mem.Mem.TheVariants.{OfFrame, OfUser}
use Rattle.vm_frame.specs.Scatter.{scatter_bytes}
use Rattle.vm_frame.specs.User.{Places}

abbrev pub mem_bytes : Mem → List ℕ
mem_bytes (OfFrame frame) = frame.bytes
mem_bytes (OfUser user) = scatter_bytes user.entries user.pages

-- what a memory is besides its bytes: a frame with its tag, or a user's memory with the places of
-- its bytes
pub data MemRest : Type 0 where
  Tagged : ℕ → MemRest
  Scattered : Places → MemRest

abbrev pub mem_rest : Mem → MemRest
mem_rest (OfFrame frame) = Tagged frame.tag
mem_rest (OfUser user) =
    Scattered (record { entries = user.entries; numbers = map (λ page. page.number) user.pages })
