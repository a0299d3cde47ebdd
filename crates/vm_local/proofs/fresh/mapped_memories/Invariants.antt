use Rattle.std.proofs.Common.{◌≡◌, replicate}
use Rattle.vm_local.proofs.fresh.mapped_memories.Given as goal

abbrev pub invariant-loop-k : goal.invariant-loop-k
invariant-loop-k l = l.memories.items ≡ replicate l._k (replicate l.size 0)
