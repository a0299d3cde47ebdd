-- The bytes so far are those that came, no read failed, and each turn adds at least one, up to the limit.
use Rattle.std.proofs.Common.{◌≡◌, ◌≤◌, ◌-◌, vec_len}
use Rattle.vm_io.specs.Bytes.{WasRead}
use Rattle.vm_io.proofs.reading.read_all.Given as goal

abbrev pub invariant-pieces : goal.invariant-pieces
invariant-pieces g l = record {
  read : WasRead (g.S.Source.left l.fn.src) (g.S.Source.left l.src) l.bytes.items;
  within : vec_len l.bytes ≤ l.limit;
  well : g.S.Source.faults l.src ≡ g.S.Source.faults l.fn.src;
}

abbrev pub decreases-pieces : goal.decreases-pieces
decreases-pieces g l = l.limit - vec_len l.bytes
