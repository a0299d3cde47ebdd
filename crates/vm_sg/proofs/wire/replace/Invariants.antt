use Rattle.std.proofs.Common.{◌≡◌, take, vec_capacity}
use Rattle.vm_sg.proofs.wire.replace.Given as goal

abbrev pub invariant-loop-entry : goal.invariant-loop-entry
invariant-loop-entry l = record {
  items : l.entries.items ≡ take l.entry-index l.by;
  room : vec_capacity l.entries ≡ vec_capacity l.fn.entries;
}
