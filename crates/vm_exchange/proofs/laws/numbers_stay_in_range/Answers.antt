use Rattle.vm_exchange.proofs.RangeLemmas.{opening_in_range, after_in_range}
use Rattle.vm_exchange.proofs.OfferLemmas.{reply_offered}
use Rattle.vm_exchange.proofs.laws.numbers_stay_in_range.Goals as goal

pub returns-clause-opening : goal.returns-clause-opening
returns-clause-opening c = opening_in_range

pub returns-clause-after : goal.returns-clause-after
returns-clause-after c = after_in_range

pub returns-clause-replies : goal.returns-clause-replies
returns-clause-replies c = reply_offered
