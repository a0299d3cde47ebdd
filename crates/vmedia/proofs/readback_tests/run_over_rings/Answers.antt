use Rattle.vm_realm.proofs.RunnableLemmas.{read_runnable}
use Rattle.vm_script.proofs.ScriptLemmas.{script_read}
use Rattle.vmedia.proofs.readback_tests.run_over_rings.Goals as goal

pub new-requires-2-clause-read : goal.new-requires-2-clause-read
new-requires-2-clause-read c = read_runnable c.in_ok-script.script (script_read c.args.bytes.now c.in_ok-script.script c.requires c.in_ok-script.ensures)

pub run_world-requires : goal.run_world-requires
run_world-requires c = record { opening = (c.in_ok-script.script, script_read c.args.bytes.now c.in_ok-script.script c.requires c.in_ok-script.ensures, c.in_ok-world.ensures) }
