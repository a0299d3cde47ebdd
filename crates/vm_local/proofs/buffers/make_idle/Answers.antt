use Rattle.std.proofs.Common.{rules}
use Rattle.std.proofs.lemmas.List.Edits.{map_over_more}
use Rattle.vm_local.specs.Queue.{made_idle}
use Rattle.vm_local.proofs.buffers.make_idle.Goals as goal

pub loop-buffer-preserved : goal.loop-buffer-preserved
loop-buffer-preserved c = search (rules, map_over_more made_idle)
