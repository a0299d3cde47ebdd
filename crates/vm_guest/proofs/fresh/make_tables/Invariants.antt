use Rattle.std.proofs.Common.{◌≡◌, ◌≤◌, take, length, map}
use Rattle.std.specs.Prelude.{vec_capacity}
use Rattle.vm_guest.specs.Orderly.{table_for}
use Rattle.vm_guest.proofs.fresh.make_tables.Given as goal

-- the tables of the lines so far, and room for all
abbrev pub invariant-loop-line : goal.invariant-loop-line
invariant-loop-line l =
    (l.tables.items ≡ map (λ s. table_for l.number s.what) (take l.line-index l.lines)) × (length l.lines ≤ vec_capacity l.tables)
