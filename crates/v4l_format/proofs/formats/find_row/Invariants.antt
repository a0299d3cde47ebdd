use Rattle.std.proofs.Common.{◌≡◌, drop}
use Rattle.v4l_format.specs.FormatRow.{row_in}
use Rattle.v4l_format.proofs.formats.find_row.Given as goal

-- the rows that are left give the row that all of them give
abbrev pub invariant-loop-row : goal.invariant-loop-row
invariant-loop-row l = row_in (drop l.row-index l.rows) l.code ≡ row_in l.fn.rows l.fn.code
