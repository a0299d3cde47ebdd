use Rattle.std.proofs.Common.{◌≡◌, ◌+◌, ◌*◌, ◌++◌, take, drop, length}
use Rattle.v4l_convert.specs.Lines.{converted_lines, kind_at, line_size, order_at}
use Rattle.v4l_convert.proofs.plane.write_plane.Given as goal

-- the lines so far
abbrev pub invariant-loop-n : goal.invariant-loop-n
invariant-loop-n g l = record {
  place : l.at ≡ l.fn.start + line_size (kind_at (order_at g.row.G) g.row.P) l.w * l.n;
  bytes : g.D.Store.bytes_of l.dst ≡ take l.fn.start (g.D.Store.bytes_of l.fn.dst) ++ (converted_lines (order_at g.row.F) (kind_at (order_at g.row.G) g.row.P) l.w l.h (g.S.Store.bytes_of l.src) l.n ++ drop (l.fn.start + line_size (kind_at (order_at g.row.G) g.row.P) l.w * l.n) (g.D.Store.bytes_of l.fn.dst));
  size : length (g.D.Store.bytes_of l.dst) ≡ length (g.D.Store.bytes_of l.fn.dst);
  rest : g.D.Store.rest_of l.dst ≡ g.D.Store.rest_of l.fn.dst;
}
