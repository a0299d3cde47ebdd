use Rattle.std.proofs.Common.{◌≡◌, take}
use Rattle.vm_script.specs.Lines.{echoes_from}
use Rattle.vm_output.proofs.echoes.group_echoes.Given as goal

abbrev pub invariant-loop-line : goal.invariant-loop-line
invariant-loop-line l = l.words.items ≡ echoes_from 0 l.names (take l.line-index l.lines)
