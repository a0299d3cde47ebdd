use Rattle.std.proofs.Common.{◌≡◌, length, take, map}
use Rattle.std.specs.List.{range_with_len}
use Rattle.v4l_format.specs.Picture.{pattern_byte_at}
use Rattle.vm_frame.specs.Mem.{mem_bytes}
use Rattle.vm_host.proofs.tests.capture.draw.Given as goal

abbrev pub invariant-loop-i : goal.invariant-loop-i
invariant-loop-i l = record {
  size : length (mem_bytes l.mem) ≡ length (mem_bytes l.fn.mem);
  drawn : take l.i (mem_bytes l.mem) ≡ map (pattern_byte_at l.spec.input l.spec.seq l.spec.dst) (range_with_len 0 l.i);
}
