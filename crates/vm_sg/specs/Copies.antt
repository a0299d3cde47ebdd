-- The bytes that a user's entries name, and a run that is written over some of them.
use Rattle.std.specs.Prelude.{ℕ, ◌+◌, List, ◌++◌, length, take, drop}
use Rattle.vm_frame.specs.Scatter.{scatter_bytes}
use Rattle.vm_frame.specs.User.{ScatteredPages}

abbrev pub named_bytes : ScatteredPages → List ℕ
named_bytes user = scatter_bytes user.entries user.pages

-- the bytes where those from a place on are these
abbrev pub overwritten : ℕ → List ℕ → List ℕ → List ℕ
overwritten at by bytes = take at bytes ++ (by ++ drop (at + length by) bytes)
