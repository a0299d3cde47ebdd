use Rattle.vm_realm.proofs.PlaceMoveLemmas.{places_stay}
use Rattle.vm_realm.proofs.laws.memories_stay_at_their_places.Goals as goal

pub returns : goal.returns
returns c = λ w w' s n h m v v' spot sound does still delivers before goes live. places_stay w w' s n h m v v' spot sound does still delivers before goes live
