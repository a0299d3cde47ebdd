use Rattle.vm_stands.proofs.SentLemmas.{sending_stands}
use Rattle.vm_stands.proofs.laws.sending_keeps.Goals as goal

pub returns : goal.returns
returns c = sending_stands
