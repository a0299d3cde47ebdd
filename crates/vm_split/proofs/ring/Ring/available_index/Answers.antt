use Rattle.std.proofs.Common.{rules}
use Rattle.vm_split.specs.Ring.{contents_of}
use Rattle.vm_split.proofs.ring.Ring.available_index.Goals as goal

pub returns : goal.returns
unfolding contents_of
returns c = search rules
