use Rattle.std.proofs.Common.{◌≡◌, ◌+◌, take, drop}
use Rattle.vm_mem.proofs.store.Store.copy_out.Given as goal

abbrev pub invariant-loop-byte : goal.invariant-loop-byte
invariant-loop-byte g l =
    (l.place ≡ l.at + l.byte-index)
    × (take l.byte-index l.into ≡ take l.byte-index (drop l.at (g.Self.Store.bytes_of l.self)))
