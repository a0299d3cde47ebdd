-- Where no event is to be taken first, each step is one of one handle, or of none.
use Rattle.std.proofs.Common.{inl}
use Rattle.vm_realm.specs.Laws.{StepMovesOne}
use Rattle.vm_realm.specs.declared.step.Step.{Step}
use Rattle.vm_realm.specs.declared.step.Step.TheVariants.{Issue, Execute, Resume, Begin, Finish, Announce, Collect, Pump, Lease, GiveBack}
use Rattle.vm_realm.proofs.MoveLemmas.{announce_moves, begin_moves, finish_moves}
use Rattle.vm_realm.proofs.LendLemmas.{lease_moves, give_back_moves}
use Rattle.vm_realm.proofs.IssueLemmas.{issue_moves}
use Rattle.vm_realm.proofs.TakeLemmas.{pump_moves}
use Rattle.vm_realm.proofs.CollectLemmas.{collect_moves}
use Rattle.vm_realm.proofs.CommandLemmas.{execute_moves, resume_moves}

pub steps_move_one : (s : Step) → StepMovesOne s
steps_move_one (Issue n) = λ w w' sound none does. issue_moves w w' sound.0 n sound.1 none does.0 does.1
steps_move_one Execute = λ w w' sound none does. execute_moves w w' sound.0 sound.1 does.1
steps_move_one (Resume session) = λ w w' sound none does. inl (resume_moves w w' sound.0 session sound.1 does.1)
steps_move_one (Begin session) = λ w w' sound none does. inl (begin_moves w w' sound.0 session sound.1 does.0 does.1)
steps_move_one (Finish number) = λ w w' sound none does. inl (finish_moves w w' sound.0 number sound.1 does.1)
steps_move_one Announce = λ w w' sound none does. inl (announce_moves w w' sound.0 sound.1 does.1)
steps_move_one Collect = λ w w' sound none does. collect_moves w w' sound.0 sound.1 none does.1
steps_move_one Pump = λ w w' sound none does. inl (pump_moves w w' sound.0 sound.1 does.1)
steps_move_one (Lease n) = λ w w' sound none does. inl (lease_moves w w' sound.0 n sound.1 does.0 does.1)
steps_move_one (GiveBack n) = λ w w' sound none does. inl (give_back_moves w w' sound.0 n sound.1 does.1)
