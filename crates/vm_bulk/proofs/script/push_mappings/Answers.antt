use Rattle.vm_bulk.specs.Bulk.{mapping}
use Rattle.vm_bulk.proofs.BulkLemmas.{begun, grown}
use Rattle.vm_bulk.proofs.script.push_mappings.Goals as goal

pub loop-k-init : goal.loop-k-init
loop-k-init c = begun c.args.text.now.items mapping

pub loop-k-preserved : goal.loop-k-preserved
loop-k-preserved c = grown c.args.text.now.items c.loop-k.text.items c.push_mapping.new.text.items c.loop-k.k mapping c.loop-k.invariant c.in_ok-push_mapping.ensures
