use Rattle.vm_realm.proofs.PlaceSameLemmas.{places_alone}
use Rattle.vm_realm.proofs.laws.a_slice_has_its_places.Goals as goal

pub returns : goal.returns
returns c = λ x v v' sound goes. places_alone x v v' sound goes
