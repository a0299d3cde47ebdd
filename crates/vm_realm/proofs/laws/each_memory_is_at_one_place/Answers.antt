use Rattle.vm_realm.proofs.PlaceLemmas.{owners_agree}
use Rattle.vm_realm.proofs.PlaceOnceLemmas.{placed_once}
use Rattle.vm_realm.proofs.laws.each_memory_is_at_one_place.Goals as goal

pub returns : goal.returns
returns c = λ x v sound. (placed_once x v sound, owners_agree x v sound)
