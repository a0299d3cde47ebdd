use Rattle.vm_local.proofs.ListedLemmas.{listed_log}
use Rattle.vm_local.proofs.ThereLemmas.{there_log}
use Rattle.vm_local.proofs.laws.lists_have_each_buffer_once.Goals as goal

pub returns : goal.returns
returns c = record { once = listed_log; there = there_log }
