use Rattle.std.proofs.Common.{◌≡◌, map, vec_len}
use Rattle.std.specs.List.{range_with_len}
use Rattle.v4l_format.specs.Picture.{converted_byte_at}
use Rattle.vm_local.proofs.pictures.converted_picture.Given as goal

abbrev pub invariant-loop-i : goal.invariant-loop-i
invariant-loop-i l = record { bytes : l.picture.items ≡ map (converted_byte_at l.from l.bytes l.to) (range_with_len 0 l.i); size : vec_len l.picture ≡ l.i }
