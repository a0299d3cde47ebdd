use Rattle.vm_exchange.proofs.FitLemmas.{queued_fits, crossing_fits}
use Rattle.vm_exchange.proofs.laws.crossings_fit.Goals as goal

pub returns-clause-crossing : goal.returns-clause-crossing
returns-clause-crossing c = crossing_fits

pub returns-clause-buffer : goal.returns-clause-buffer
returns-clause-buffer c = queued_fits
