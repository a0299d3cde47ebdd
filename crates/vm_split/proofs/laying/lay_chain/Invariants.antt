use Rattle.std.proofs.Common.{◌≡◌, length}
use Rattle.vm_split.proofs.LayLemmas.{LaidTo, KeptTo}
use Rattle.vm_split.proofs.laying.lay_chain.Given as goal

abbrev pub invariant-loop-k : goal.invariant-loop-k
invariant-loop-k l = record {
  laid : LaidTo l.k l.ring.contents.table l.places l.table;
  kept : KeptTo l.k l.ring.contents.table l.places l.fn.ring.contents.table;
  room : length l.ring.contents.table ≡ length l.fn.ring.contents.table;
  rest : l.ring.contents ≡ record l.fn.ring.contents { table = l.ring.contents.table };
  size : l.ring.size ≡ l.fn.ring.size;
}
