use Rattle.std.proofs.Common.{◌≡◌, ◌*◌, take, length}
use Rattle.std.specs.List.{flat_map, range_with_len}
use Rattle.v4l_convert.specs.Lines.{converted_pair, pair_size}
use Rattle.v4l_convert.proofs.line.make_by_pairs.Given as goal

-- the pairs so far
abbrev pub invariant-loop-k : goal.invariant-loop-k
invariant-loop-k g l = record {
  long : length l.out ≡ 1920;
  made : take (pair_size l.kind * l.k) l.out ≡ flat_map (converted_pair l.order l.kind l.fn.w 2 l.line 0) (range_with_len 0 l.k);
}
