use Rattle.std.proofs.Common.{ℕ, ◌≡◌, ◌<◌, take, length, get_or}
use Rattle.vm_script.specs.Lines.{lines_of}
use Rattle.vm_guest.proofs.fresh.count_lines.Given as goal

-- the counts of the lines so far
abbrev pub invariant-loop-line : goal.invariant-loop-line
invariant-loop-line l =
    (length l.counts.items ≡ l.handles) × ((h : ℕ) → h < l.handles → get_or l.counts.items h 0 ≡ length (lines_of h (take l.line-index l.lines)))
