use Rattle.vm_wire.proofs.BufferLemmas.{offsets_apart}
use Rattle.vm_wire.proofs.laws.offsets_are_apart.Goals as goal

pub returns : goal.returns
returns c = offsets_apart
