use Rattle.std.proofs.Common.{ℕ, ◌≡◌, ◌<◌, length}
use Rattle.vm_guest.specs.Guest.{process_in}
use Rattle.vm_guest.specs.Orderly.{IsFresh, lines_at}
use Rattle.vm_guest.proofs.guest.Guest.new.Given as goal

-- there is a fresh process for each one so far
abbrev pub invariant-loop-at : goal.invariant-loop-at
invariant-loop-at l =
    (length l.callers.items ≡ l.at) × ((n : ℕ) → n < l.at → IsFresh l.script.model n (lines_at l.script n) (process_in l.callers.items n))
