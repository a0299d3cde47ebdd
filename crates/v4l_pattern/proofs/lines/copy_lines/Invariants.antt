use Rattle.std.proofs.Common.{◌≡◌}
use Rattle.v4l_pattern.specs.Lines.{pattern_of, IsPlane}
use Rattle.v4l_pattern.proofs.lines.copy_lines.Given as goal

-- the lines before y are copied
abbrev pub invariant-loop-y : goal.invariant-loop-y
invariant-loop-y g l = record {
  plane : IsPlane l.kind (pattern_of l.shown.input) l.shown.seq l.shown.width l.y l.at (g.D.Store.bytes_of l.fn.dst) (g.D.Store.bytes_of l.dst);
  rest : g.D.Store.rest_of l.dst ≡ g.D.Store.rest_of l.fn.dst;
}
