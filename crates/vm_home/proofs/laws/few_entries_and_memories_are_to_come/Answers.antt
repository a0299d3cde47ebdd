use Rattle.vm_home.proofs.LawLemmas.{call_few, step_one}
use Rattle.vm_home.proofs.laws.few_entries_and_memories_are_to_come.Goals as goal

pub returns : goal.returns
returns c = record { call = call_few; step = step_one }
