use Rattle.std.proofs.Common.{◌≡◌, ◌*◌, take, length}
use Rattle.std.specs.List.{flat_map, range_with_len}
use Rattle.v4l_convert.proofs.PixelLemmas.{pixel_piece}
use Rattle.v4l_convert.proofs.line.make_by_pixels.Given as goal

-- the pixels so far
abbrev pub invariant-loop-x : goal.invariant-loop-x
invariant-loop-x g l = record {
  long : length l.out ≡ 1920;
  made : take (2 * l.x) l.out ≡ flat_map (pixel_piece l.order l.kind l.fn.w l.line) (range_with_len 0 l.x);
}
