use Rattle.vm_local.proofs.LiveLemmas.{backed_log, live_made}
use Rattle.vm_local.proofs.laws.live_memories_are_made.Goals as goal

pub returns : goal.returns
returns c = record { backed = backed_log; live = live_made }
