use Rattle.std.proofs.Common.{◌≡◌, ◌+◌, ◌*◌, ◌%◌, take}
use Rattle.vm_mem.specs.Seeded.{seeded}
use Rattle.vm_frame.proofs.frame.Frame.fill.Given as goal

abbrev pub invariant-loop-byte : goal.invariant-loop-byte
invariant-loop-byte l = record {
  value : l.value ≡ (7 * l.byte-index + l.fn.seed) % 256;
  filled : take l.byte-index l.byte-items ≡ seeded l.fn.seed l.byte-index;
}
