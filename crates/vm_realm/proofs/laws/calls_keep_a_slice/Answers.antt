use Rattle.vm_realm.proofs.KeepOpenLemmas.{open_keeps, close_keeps}
use Rattle.vm_realm.proofs.KeepPlainLemmas.{plain_keeps}
use Rattle.vm_realm.proofs.KeepUnmapLemmas.{unmap_keeps}
use Rattle.vm_realm.proofs.KeepHaltLemmas.{halt_keeps}
use Rattle.vm_realm.proofs.KeepQueueLemmas.{queue_keeps}
use Rattle.vm_realm.proofs.KeepMapLemmas.{map_keeps}
use Rattle.vm_realm.proofs.laws.calls_keep_a_slice.Goals as goal

pub returns-clause-opens : goal.returns-clause-opens
returns-clause-opens c = open_keeps

pub returns-clause-closes : goal.returns-clause-closes
returns-clause-closes c = close_keeps

pub returns-clause-plain : goal.returns-clause-plain
returns-clause-plain c = plain_keeps

pub returns-clause-unmaps : goal.returns-clause-unmaps
returns-clause-unmaps c = unmap_keeps

pub returns-clause-halts : goal.returns-clause-halts
returns-clause-halts c = halt_keeps

pub returns-clause-queues : goal.returns-clause-queues
returns-clause-queues c = queue_keeps

pub returns-clause-maps : goal.returns-clause-maps
returns-clause-maps c = map_keeps
