use Rattle.vm_carrier.proofs.SpreadLemmas.{front_holds, others_stay, pages_stay}
use Rattle.vm_carrier.proofs.laws.replies_are_spread.Goals as goal

pub returns-clause-front : goal.returns-clause-front
returns-clause-front c = front_holds

pub returns-clause-others : goal.returns-clause-others
returns-clause-others c = others_stay

pub returns-clause-pages : goal.returns-clause-pages
returns-clause-pages c = pages_stay
