use Rattle.vm_realm.proofs.KeepCallLemmas.{execute_keeps, resume_keeps}
use Rattle.vm_realm.proofs.laws.commands_keep_a_slice.Goals as goal

pub returns-clause-execute : goal.returns-clause-execute
returns-clause-execute c = execute_keeps

pub returns-clause-resume : goal.returns-clause-resume
returns-clause-resume c = resume_keeps
