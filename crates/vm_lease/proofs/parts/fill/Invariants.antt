use Rattle.std.proofs.Common.{◌≡◌, ◌*◌, ◌++◌, drop, min}
use Rattle.vm_frame.specs.Mem.{mem_bytes, mem_rest}
use Rattle.vm_mem.specs.Seeded.{seeded}
use Rattle.vm_lease.proofs.parts.fill.Given as goal

abbrev pub invariant-loop-k : goal.invariant-loop-k
invariant-loop-k l =
    (mem_bytes l.mem ≡ seeded l.seed (min (4096 * l.k) l.size) ++ drop (min (4096 * l.k) l.size) (mem_bytes l.initial.mem))
    × (mem_rest l.mem ≡ mem_rest l.initial.mem)
