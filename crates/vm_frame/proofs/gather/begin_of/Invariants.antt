use Rattle.std.proofs.Common.{◌≡◌, ◌+◌, take}
use Rattle.vm_frame.proofs.ScatterLemmas.{total}
use Rattle.vm_frame.proofs.gather.begin_of.Given as goal

abbrev pub invariant-entries : goal.invariant-entries
invariant-entries l = record { before : total (take l.i l.entries) + l.ahead ≡ l.fn.at }
