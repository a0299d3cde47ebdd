use Rattle.std.proofs.Common.{codes}
use Rattle.vm_bulk.specs.Bulk.{process_lines}
use Rattle.vm_bulk.proofs.BulkLemmas.{first_begun}
use Rattle.vm_bulk.proofs.script.make_script.Goals as goal

pub loop-p-init : goal.loop-p-init
loop-p-init c = first_begun c.new-text.result.items c.push_line.new.text.items (codes "device capture") process_lines c.new-text.ensures.items c.in_ok-push_line.ensures
