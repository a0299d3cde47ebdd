use Rattle.vm_output.proofs.OpensLemmas.{opens_first}
use Rattle.vm_output.proofs.laws.the_first_line_opens_its_handle.Goals as goal

pub returns : goal.returns
returns c = opens_first
