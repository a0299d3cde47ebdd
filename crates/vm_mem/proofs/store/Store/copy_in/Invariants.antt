use Rattle.std.proofs.Common.{◌≡◌, ◌+◌}
use Rattle.std.proofs.Math.Seq.{paste}
use Rattle.vm_mem.proofs.store.Store.copy_in.Given as goal

abbrev pub invariant-loop-byte : goal.invariant-loop-byte
invariant-loop-byte g l = record {
  place : l.place ≡ l.fn.at + l.byte-index;
  bytes : g.Self.Store.bytes_of l.self ≡ paste (g.Self.Store.bytes_of l.initial.self) l.fn.at l.from l.byte-index;
  rest : g.Self.Store.rest_of l.self ≡ g.Self.Store.rest_of l.initial.self;
}
