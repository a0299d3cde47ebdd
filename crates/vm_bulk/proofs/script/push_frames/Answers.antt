use Rattle.std.proofs.Common.{◌%◌}
use Rattle.vm_bulk.specs.Bulk.{taking}
use Rattle.vm_bulk.proofs.BulkLemmas.{begun, grown}
use Rattle.vm_bulk.proofs.script.push_frames.Goals as goal

pub loop-r-init : goal.loop-r-init
loop-r-init c = begun c.args.text.now.items (λ r. taking (r % 4))

pub loop-r-preserved : goal.loop-r-preserved
loop-r-preserved c = grown c.args.text.now.items c.loop-r.text.items c.push_taking.new.text.items c.loop-r.r (λ r. taking (r % 4)) c.loop-r.invariant c.in_ok-push_taking.ensures
