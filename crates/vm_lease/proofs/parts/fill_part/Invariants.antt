use Rattle.std.proofs.Common.{◌≡◌, take}
use Rattle.vm_mem.specs.Seeded.{seeded}
use Rattle.vm_lease.proofs.parts.fill_part.Given as goal

abbrev pub invariant-loop-i : goal.invariant-loop-i
invariant-loop-i l = take l.i l.part ≡ seeded l.seed l.i
