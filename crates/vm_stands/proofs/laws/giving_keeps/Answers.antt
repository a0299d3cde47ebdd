use Rattle.vm_stands.proofs.GivenLemmas.{giving_stands}
use Rattle.vm_stands.proofs.laws.giving_keeps.Goals as goal

pub returns : goal.returns
returns c = giving_stands
