use Rattle.std.proofs.Common.{◌≡◌, length, take, map}
use Rattle.std.specs.List.{range_with_len}
use Rattle.vm_sg.specs.Wire.{entry_at}
use Rattle.vm_sg.proofs.wire.read_entries.Given as goal

abbrev pub invariant-loop-i : goal.invariant-loop-i
invariant-loop-i l = record {
  read : take l.i l.into ≡ map (entry_at l.wire) (range_with_len 0 l.i);
  room : length l.into ≡ length l.fn.into;
}
