use Rattle.vm_script.proofs.ScriptLemmas.{script_read}
use Rattle.vm_script.proofs.laws.scripts_are_read.Goals as goal

pub returns : goal.returns
returns c = script_read
