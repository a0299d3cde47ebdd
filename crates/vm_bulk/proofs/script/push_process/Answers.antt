use Rattle.vm_bulk.specs.Bulk.{beginning, statements}
use Rattle.vm_bulk.proofs.BulkLemmas.{ok_then, chain}
use Rattle.vm_bulk.proofs.script.push_process.Goals as goal

pub returns : goal.returns
returns c =
    ok_then c.push_statements.result _ _ (λ last.
    chain c.args.text.now.items c.push_beginning.new.text.items c.push_statements.new.text.items (beginning c.args.p) (statements c.args.p) c.in_ok-push_beginning.ensures last)
    c.push_statements.ensures
