use Rattle.std.proofs.Common.{◌≡◌, map}
use Rattle.std.specs.List.{range_with_len}
use Rattle.vm_sg.specs.UserMemory.{page_of}
use Rattle.vm_sg.proofs.user_memory.zero_pages.Given as goal

abbrev pub invariant-loop-i : goal.invariant-loop-i
invariant-loop-i l = l.pages.items ≡ map (page_of l.line l.count) (range_with_len 0 l.i)
