use Rattle.vm_realm.proofs.OpeningLemmas.{opening_left}
use Rattle.vm_realm.proofs.laws.few_steps_are_left_at_first.Goals as goal

pub returns : goal.returns
returns c = opening_left
