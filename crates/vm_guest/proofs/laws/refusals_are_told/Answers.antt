use Rattle.vm_guest.proofs.AskLemmas.{refusal_told}
use Rattle.vm_guest.proofs.laws.refusals_are_told.Goals as goal

pub returns : goal.returns
returns c = refusal_told
