use Rattle.vm_realm.proofs.PlaceBytesLemmas.{bytes_ahead}
use Rattle.vm_realm.proofs.laws.each_memory_has_its_bytes.Goals as goal

pub returns : goal.returns
returns c = λ x v sound. bytes_ahead x v sound
