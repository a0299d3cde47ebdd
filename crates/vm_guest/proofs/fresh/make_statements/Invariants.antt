use Rattle.std.proofs.Common.{◌≡◌, ◌≤◌, take, length}
use Rattle.std.specs.Prelude.{vec_capacity}
use Rattle.vm_guest.specs.Asking.{statements_of}
use Rattle.vm_guest.proofs.fresh.make_statements.Given as goal

-- the statements of the lines so far, and room for all
abbrev pub invariant-loop-line : goal.invariant-loop-line
invariant-loop-line l = (l.statements.items ≡ statements_of (take l.line-index l.lines)) × (length l.lines ≤ vec_capacity l.statements)
