use Rattle.std.proofs.Common.{ℕ, ◌≡◌, ◌<◌, length, get_or}
use Rattle.vm_handle.specs.Handle.{fresh_handle}
use Rattle.vm_guest.specs.Process.{handle_in}
use Rattle.vm_guest.proofs.fresh.make_handles.Given as goal

-- there is a fresh handle for each count so far
abbrev pub invariant-loop-lines : goal.invariant-loop-lines
invariant-loop-lines l =
    (length l.handles.items ≡ l.lines-index) × ((j : ℕ) → j < length l.handles.items → handle_in l.handles.items j ≡ fresh_handle l.model (get_or l.lines-items j 0))
