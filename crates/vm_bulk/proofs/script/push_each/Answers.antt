use Rattle.vm_bulk.specs.Bulk.{numbered}
use Rattle.vm_bulk.proofs.BulkLemmas.{begun, grown}
use Rattle.vm_bulk.proofs.script.push_each.Goals as goal

pub loop-k-init : goal.loop-k-init
loop-k-init c = begun c.args.text.now.items (numbered c.args.words.now)

pub loop-k-preserved : goal.loop-k-preserved
loop-k-preserved c = grown c.args.text.now.items c.loop-k.text.items c.push_numbered.new.text.items c.loop-k.k (numbered c.args.words.now) c.loop-k.invariant c.in_ok-push_numbered.ensures
