use Rattle.vm_exchange.proofs.ReplyLemmas.{answer_fits}
use Rattle.vm_exchange.proofs.laws.answers_fit.Goals as goal

pub returns : goal.returns
returns c = answer_fits
