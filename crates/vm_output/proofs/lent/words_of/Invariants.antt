use Rattle.std.proofs.Common.{◌≡◌, ◌++◌, flat_map, drop}
use Rattle.vm_script.specs.Lines.{echoes_by_handle}
use Rattle.vm_output.proofs.lent.words_of.Given as goal

abbrev pub invariant-loop-process : goal.invariant-loop-process
invariant-loop-process l =
    l.words.items ++ flat_map echoes_by_handle (drop l.process-index l.script.processes) ≡ flat_map echoes_by_handle l.script.processes
