use Rattle.std.proofs.Common.{◌≡◌, length}
use Rattle.vm_local.specs.declared.bound.MemoryKind.TheVariants.{Mmap}
use Rattle.vm_local.specs.Queue.{fresh_buffers}
use Rattle.vm_local.proofs.fresh.mapped_buffers.Given as goal

abbrev pub invariant-loop-k : goal.invariant-loop-k
invariant-loop-k l = record { items : l.buffers.items ≡ fresh_buffers Mmap l.size l.first l.k; len : length l.buffers.items ≡ l.k }
