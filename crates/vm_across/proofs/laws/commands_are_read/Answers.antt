use Rattle.vm_across.proofs.ReadLemmas.{is_read, has_room}
use Rattle.vm_across.proofs.laws.commands_are_read.Goals as goal

pub returns-clause-read : goal.returns-clause-read
returns-clause-read c = is_read

pub returns-clause-room : goal.returns-clause-room
returns-clause-room c = has_room
