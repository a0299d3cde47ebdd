use Rattle.std.proofs.Common.{◌≡◌, ◌≤◌, ◌++◌, length, drop, ◌*◌}
use Rattle.vm_sg.specs.UserMemory.{entry_of}
use Rattle.vm_exchange.proofs.EntryLemmas.{first_entries}
use Rattle.vm_exchange.proofs.entries.put_entries.Given as goal

abbrev pub invariant-loop-i : goal.invariant-loop-i
invariant-loop-i l = record {
  written : l.out ≡ first_entries (entry_of l.place.line l.place.length l.place.off) l.i ++ drop (16 * l.i) l.fn.out;
  room : 16 * l.count ≤ length l.fn.out;
  long : length l.out ≡ length l.fn.out;
}
