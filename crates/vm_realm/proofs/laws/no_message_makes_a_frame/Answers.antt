use Rattle.vm_realm.proofs.PlaceFrameLemmas.{no_frame_ahead}
use Rattle.vm_realm.proofs.laws.no_message_makes_a_frame.Goals as goal

pub returns : goal.returns
returns c = λ x v m sound none has. no_frame_ahead x v m sound none has
