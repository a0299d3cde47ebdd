use Rattle.vm_local.proofs.WithoutBytesLemmas.{same_refusals, same_lacks, same_waits, same_replies, same_call}
use Rattle.vm_local.proofs.laws.records_decide_as_states.Goals as goal

pub returns : goal.returns
returns c = record { refusals = same_refusals; may_lack_memory = same_lacks; waits = same_waits; reply = same_replies; next = same_call }
