use Rattle.vm_handle.proofs.OpenLemmas.{opened, denied}
use Rattle.vm_handle.proofs.tests.lines.lines_that_need_no_device.Goals as goal

pub open-requires : goal.open-requires
open-requires g c = λ s line. denied s line

pub open-requires-2 : goal.open-requires-2
open-requires-2 g c = λ s line. opened s line 7
