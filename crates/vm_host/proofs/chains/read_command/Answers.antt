use Rattle.std.proofs.Common.{rules}
use Rattle.vm_host.proofs.ReadLemmas.{read_fits, read_size, read_follow}
use Rattle.vm_host.proofs.chains.read_command.Goals as goal

pub returns-clause-payload : goal.returns-clause-payload
returns-clause-payload c = read_fits _ _ c.decode_command.result c.decode_command.ensures.ok

pub returns-clause-size : goal.returns-clause-size
returns-clause-size c = read_size c.deref.result.now c.gather.new.bytes.items c.args.writable c.decode_command.result (search rules) c.decode_command.ensures.ok

pub returns-clause-entries : goal.returns-clause-entries
returns-clause-entries c =
    read_follow c.deref.result.now _ c.args.writable c.decode_command.result (search rules) c.decode_command.ensures.ok
