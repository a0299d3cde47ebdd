use Rattle.std.proofs.Common.{◌≡◌, [], take}
use Rattle.vm_script.specs.Lines.{echoes_from}
use Rattle.vm_output.proofs.echoes.no_echoes.Given as goal

abbrev pub invariant-loop-name : goal.invariant-loop-name
invariant-loop-name l = l.words.items ≡ echoes_from 0 (take l._name-index l.names) []
