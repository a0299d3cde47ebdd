use Rattle.vm_realm.proofs.StallLemmas.{no_stall, no_stall_once_begun}
use Rattle.vm_realm.proofs.laws.no_line_stalls.Goals as goal

pub returns-clause-goes : goal.returns-clause-goes
returns-clause-goes c = λ w sound undone. no_stall w sound.0 sound.1 undone

pub returns-clause-once_begun : goal.returns-clause-once_begun
returns-clause-once_begun c = λ w n sound busy. no_stall_once_begun w sound.0 n sound.1 busy
