use Rattle.vm_exchange.proofs.ReplyLemmas.{here_answered}
use Rattle.vm_exchange.proofs.laws.each_call_has_its_way.Goals as goal

pub returns-clause-answered : goal.returns-clause-answered
returns-clause-answered c = here_answered
