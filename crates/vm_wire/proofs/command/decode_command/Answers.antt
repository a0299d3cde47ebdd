use Rattle.std.proofs.Common.{rules}
use Rattle.vm_wire.proofs.DecidedLemmas.{judged_ok, judged_only, judged_fault}
use Rattle.vm_wire.proofs.command.decode_command.Goals as goal

-- src/command.rt:128:1
pub returns-in-3-clause-exact : goal.returns-in-3-clause-exact
returns-in-3-clause-exact c = search rules

pub returns-in-3-clause-ok : goal.returns-in-3-clause-ok
returns-in-3-clause-ok c = judged_ok c.args.b.now c.args.writable c.decode_ioctl.result (returns-in-3-clause-exact c)

pub returns-in-3-clause-only : goal.returns-in-3-clause-only
returns-in-3-clause-only c = judged_only c.args.b.now c.args.writable c.decode_ioctl.result (returns-in-3-clause-exact c)

pub returns-in-3-clause-fault : goal.returns-in-3-clause-fault
returns-in-3-clause-fault c = judged_fault c.args.b.now c.args.writable c.decode_ioctl.result (returns-in-3-clause-exact c)
