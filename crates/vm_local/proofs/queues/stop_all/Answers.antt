use Rattle.std.proofs.Common.{rules}
use Rattle.std.proofs.lemmas.List.Edits.{map_over_more}
use Rattle.vm_local.specs.Queue.{stopped_queue}
use Rattle.vm_local.proofs.queues.stop_all.Goals as goal

pub loop-queue-preserved : goal.loop-queue-preserved
loop-queue-preserved c = search (rules, map_over_more stopped_queue)
