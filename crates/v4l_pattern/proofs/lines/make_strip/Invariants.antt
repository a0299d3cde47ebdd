use Rattle.std.proofs.Common.{◌≡◌, ◌<◌, ℕ, length, slice_index}
use Rattle.v4l_pattern.specs.Lines.{pattern_of, strip_byte}
use Rattle.v4l_pattern.proofs.lines.make_strip.Given as goal

-- the bytes before k are made
abbrev pub invariant-loop-k : goal.invariant-loop-k
invariant-loop-k l = record {
  size : length l.strip ≡ length l.fn.strip;
  made : (i : ℕ) → i < l.k → slice_index l.strip i ≡ strip_byte l.kind (pattern_of l.shown.input) l.shown.seq l.shown.width i;
}
