use Rattle.std.proofs.Common.{◌≡◌, take}
use Rattle.vm_mem.specs.Seeded.{seeded}
use Rattle.vm_local.proofs.bytes.fill.Given as goal

abbrev pub invariant-loop-i : goal.invariant-loop-i
invariant-loop-i l = take l.i l.bytes ≡ seeded l.seed l.i
