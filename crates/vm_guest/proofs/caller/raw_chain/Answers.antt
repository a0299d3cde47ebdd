use Rattle.vm_guest.proofs.ChainLemmas.{own_home}
use Rattle.vm_guest.proofs.caller.raw_chain.Goals as goal

pub put_bytes-requires-clause-chain : goal.put_bytes-requires-clause-chain
put_bytes-requires-clause-chain c = (c.requires.chain.0, own_home c.requires.chain.0 c.args.chain c.requires.chain.1)
