use Rattle.vm_realm.proofs.PlaceFramesLemmas.{frames_made}
use Rattle.vm_realm.proofs.laws.only_a_reqbufs_makes_frames.Goals as goal

pub returns : goal.returns
returns c = λ w w' s n h m v v' sound does before goes lacks has. frames_made w w' s n h m v v' sound does before goes lacks has
