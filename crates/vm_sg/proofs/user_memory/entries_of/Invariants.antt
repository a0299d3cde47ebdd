use Rattle.std.proofs.Common.{◌≡◌, ◌≤◌, map, vec_capacity}
use Rattle.std.specs.List.{range_with_len}
use Rattle.vm_sg.specs.UserMemory.{entry_of}
use Rattle.vm_sg.proofs.user_memory.entries_of.Given as goal

abbrev pub invariant-loop-i : goal.invariant-loop-i
invariant-loop-i l = record {
  items : l.entries.items ≡ map (entry_of l.line l.len l.off) (range_with_len 0 l.i);
  room : 249 ≤ vec_capacity l.entries;
}
