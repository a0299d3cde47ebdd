use Rattle.std.proofs.Common.{◌<◌, length, arith}
use Rattle.std.proofs.lemmas.Bool.Decides.{nat_tests}
use Rattle.std.proofs.lemmas.Grind.{common_steps}
use Rattle.vm_realm.proofs.RunnableLemmas.{read_runnable}
use Rattle.vm_script.proofs.ScriptLemmas.{script_read}
use Rattle.vm_sched.proofs.tests.scripts.script_of.Goals as goal

pub returns : goal.returns
returns c =
    let few : length c.args.text.now < 4096 = grind (arith, common_steps, nat_tests) in
    read_runnable c.in_ok-script.script (script_read c.args.text.now c.in_ok-script.script (omega (arith, few)) c.in_ok-script.ensures)
