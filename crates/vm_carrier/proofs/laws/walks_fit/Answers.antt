use Rattle.vm_carrier.proofs.CarrierLemmas.{walk_fits}
use Rattle.vm_carrier.proofs.laws.walks_fit.Goals as goal

pub returns : goal.returns
returns c = walk_fits
