use Rattle.std.proofs.Common.{◌≡◌, ◌∷◌}
use Rattle.std.specs.Prelude.{codes}
use Rattle.vm_bulk.specs.Bulk.{ended, below, process_lines}
use Rattle.vm_bulk.proofs.script.make_script.Given as goal

abbrev pub invariant-loop-p : goal.invariant-loop-p
invariant-loop-p l = l.text.items ≡ ended (codes "device capture" ∷ below l.p process_lines)
