use Rattle.vm_log.specs.LegalLog.{state_of}
use Rattle.vm_handle.proofs.HereLemmas.{refused_is_here}
use Rattle.vm_handle.proofs.answer.refuse.Goals as goal

pub call-requires-clause-legal : goal.call-requires-clause-legal
call-requires-clause-legal c = (refused_is_here (state_of c.args.log.now) c.args.line c.args.call.now c.args.errno c.requires.refused).goes
