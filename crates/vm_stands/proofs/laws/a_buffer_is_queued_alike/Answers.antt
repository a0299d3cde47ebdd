use Rattle.vm_stands.proofs.ComesLemmas.{comes_with}
use Rattle.vm_stands.proofs.QBufLemmas.{qbuf_served}
use Rattle.vm_stands.proofs.laws.a_buffer_is_queued_alike.Goals as goal

pub returns-clause-comes : goal.returns-clause-comes
returns-clause-comes c = comes_with

pub returns-clause-served : goal.returns-clause-served
returns-clause-served c = qbuf_served
