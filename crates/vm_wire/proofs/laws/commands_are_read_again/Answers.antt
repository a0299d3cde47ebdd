use Rattle.vm_wire.proofs.WireLemmas.{command_again, command_before}
use Rattle.vm_wire.proofs.laws.commands_are_read_again.Goals as goal

pub returns-clause-alone : goal.returns-clause-alone
returns-clause-alone c = command_again

pub returns-clause-before : goal.returns-clause-before
returns-clause-before c = command_before
