use Rattle.vm_local.proofs.WithoutBytesLemmas.{same_made, long_of}
use Rattle.vm_local.proofs.laws.records_know_lengths.Goals as goal

pub returns : goal.returns
returns c = record { made = same_made; bytes = long_of }
