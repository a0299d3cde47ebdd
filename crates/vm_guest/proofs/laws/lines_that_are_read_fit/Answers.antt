use Rattle.vm_guest.proofs.AskLemmas.{read_fits}
use Rattle.vm_guest.proofs.laws.lines_that_are_read_fit.Goals as goal

pub returns : goal.returns
returns c = read_fits
