use Rattle.vm_realm.proofs.StepLemmas.{steps_move_one}
use Rattle.vm_realm.proofs.laws.each_step_moves_one_handle.Goals as goal

pub returns : goal.returns
returns c = steps_move_one
