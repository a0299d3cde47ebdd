use Rattle.vm_stands.proofs.SliceCallLemmas.{slice_answers, slice_stops_for}
use Rattle.vm_stands.proofs.SliceComeLemmas.{slice_refuses_for, slice_comes}
use Rattle.vm_stands.proofs.ApartLemmas.{slice_stays_apart, slice_closes}
use Rattle.vm_stands.proofs.laws.a_slice_answers_calls.Goals as goal

pub returns-clause-answers : goal.returns-clause-answers
returns-clause-answers c = slice_answers

pub returns-clause-stops : goal.returns-clause-stops
returns-clause-stops c = slice_stops_for

pub returns-clause-refuses : goal.returns-clause-refuses
returns-clause-refuses c = slice_refuses_for

pub returns-clause-comes : goal.returns-clause-comes
returns-clause-comes c = slice_comes

pub returns-clause-apart : goal.returns-clause-apart
returns-clause-apart c = slice_stays_apart

pub returns-clause-closes : goal.returns-clause-closes
returns-clause-closes c = slice_closes
