use Rattle.vm_script.proofs.StatementLemmas.{reads_range, reads_one}
use Rattle.vm_script.proofs.laws.texts_read_as_one_call.Goals as goal

pub returns-clause-range : goal.returns-clause-range
returns-clause-range c = reads_range

pub returns-clause-one : goal.returns-clause-one
returns-clause-one c = reads_one
