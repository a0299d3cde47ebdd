-- The script that is made is one that is read.
use Rattle.std.proofs.Common.{◌∙◌}
use Rattle.vm_script.proofs.ScriptLemmas.{script_read}
use Rattle.vm_bulk.specs.Bulk.{bulk_text}
use Rattle.vmedia.proofs.ProgramLemmas.{as_few, no_fault, same_script}
use Rattle.vmedia.proofs.bulk.made_script.Goals as goal

pub read_script-requires : goal.read_script-requires
read_script-requires c = as_few c.deref.result.now (bulk_text c.args.n) (c.deref.ensures.value ∙ c.in_ok-bytes.ensures) (c.bulk_scripts_are_read.ensures.short c.args.n c.requires.few)

pub unreachable-requires : goal.unreachable-requires
unreachable-requires c =
    let law = c.bulk_scripts_are_read.ensures.read c.args.n c.requires.some c.requires.few in
    no_fault c.deref.result.now (bulk_text c.args.n) law.0 _ _ (c.deref.ensures.value ∙ c.in_ok-bytes.ensures) law.1 c.in-Err-Fault.field-0-is c.in-Err-Fault.ensures

pub returns-in-Ok-clause-made : goal.returns-in-Ok-clause-made
returns-in-Ok-clause-made c = same_script c.deref.result.now (bulk_text c.args.n) c.in-Ok.script (c.deref.ensures.value ∙ c.in_ok-bytes.ensures) c.in-Ok.ensures

pub returns-in-Ok-clause-read : goal.returns-in-Ok-clause-read
returns-in-Ok-clause-read c =
    let few = as_few c.deref.result.now (bulk_text c.args.n) (c.deref.ensures.value ∙ c.in_ok-bytes.ensures) (c.bulk_scripts_are_read.ensures.short c.args.n c.requires.few) in
    script_read c.deref.result.now c.in-Ok.script few c.in-Ok.ensures
