use Rattle.std.proofs.Common.{◌≡◌, map, vec_len}
use Rattle.std.specs.List.{range_with_len}
use Rattle.v4l_format.specs.Picture.{pattern_byte_at}
use Rattle.vm_local.proofs.pictures.pattern_picture.Given as goal

abbrev pub invariant-loop-i : goal.invariant-loop-i
invariant-loop-i l = record { bytes : l.picture.items ≡ map (pattern_byte_at l.fn.input l.fn.seq l.f) (range_with_len 0 l.i); size : vec_len l.picture ≡ l.i }
