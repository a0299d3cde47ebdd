use Rattle.vm_wire.proofs.EventLemmas.{message_size}
use Rattle.vm_wire.proofs.WireLemmas.{command_fits, room_fits, reply_fits}
use Rattle.vm_wire.proofs.laws.written_bytes_fit.Goals as goal

pub returns-clause-command : goal.returns-clause-command
returns-clause-command c = command_fits

pub returns-clause-room : goal.returns-clause-room
returns-clause-room c = room_fits

pub returns-clause-reply : goal.returns-clause-reply
returns-clause-reply c = reply_fits

pub returns-clause-message : goal.returns-clause-message
returns-clause-message c = message_size
