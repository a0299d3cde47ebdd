use Rattle.std.proofs.Common.{◌≡◌, ◌≤◌, ◌-◌, ◌++◌, take, drop, length}
use Rattle.v4l_convert.proofs.copy.copy_front.Given as goal

-- the bytes so far
abbrev pub invariant-parts : goal.invariant-parts
invariant-parts g l = record {
  within : l.at ≤ l.count;
  part : length l.part ≡ 4096;
  bytes : g.D.Store.bytes_of l.dst ≡ take l.at (g.S.Store.bytes_of l.src) ++ drop l.at (g.D.Store.bytes_of l.fn.dst);
  size : length (g.D.Store.bytes_of l.dst) ≡ length (g.D.Store.bytes_of l.fn.dst);
  rest : g.D.Store.rest_of l.dst ≡ g.D.Store.rest_of l.fn.dst;
}

abbrev pub decreases-parts : goal.decreases-parts
decreases-parts g l = l.count - l.at
