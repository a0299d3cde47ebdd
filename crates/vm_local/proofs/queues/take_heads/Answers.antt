use Rattle.std.proofs.Common.{rules}
use Rattle.std.proofs.lemmas.List.Edits.{map_over_more}
use Rattle.vm_local.specs.Steps.{taken}
use Rattle.vm_local.proofs.queues.take_heads.Goals as goal

pub loop-queue-preserved : goal.loop-queue-preserved
loop-queue-preserved c = search (rules, map_over_more (taken c.args.good c.args.timestamp))
