use Rattle.vm_stands.proofs.LengthLemmas.{lengths_are}
use Rattle.vm_stands.proofs.laws.memories_have_lengths.Goals as goal

pub returns : goal.returns
returns c = lengths_are
