use Rattle.std.proofs.Common.{rules}
use Rattle.std.proofs.lemmas.List.Edits.{map_over_more}
use Rattle.vm_local.specs.Sizes.{resized}
use Rattle.vm_local.proofs.queues.resize.Goals as goal

pub loop-queue-preserved : goal.loop-queue-preserved
loop-queue-preserved c = search (rules, map_over_more (resized c.args.format))
