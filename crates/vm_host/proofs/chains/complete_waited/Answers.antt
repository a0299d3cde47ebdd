use Rattle.vm_host.proofs.ReadLemmas.{writable_fits}
use Rattle.vm_host.proofs.ServeLemmas.{chain_fits}
use Rattle.vm_host.proofs.chains.complete_waited.Goals as goal

pub writable_in-writable-requires : goal.writable_in-writable-requires
writable_in-writable-requires c = writable_fits c.args.descs.now (chain_fits c.args.parcel.now c.args.descs.now c.requires.chain)

pub read_command-requires-clause-few : goal.read_command-requires-clause-few
read_command-requires-clause-few c = (chain_fits c.args.parcel.now c.args.descs.now c.requires.chain).0

pub complete-requires-clause-stay : goal.complete-requires-clause-stay
complete-requires-clause-stay c = (chain_fits c.args.parcel.now c.args.descs.now c.requires.chain).1
