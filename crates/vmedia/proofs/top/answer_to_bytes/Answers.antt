use Rattle.std.proofs.Common.{arith}
use Rattle.vm_script.proofs.ScriptLemmas.{script_read}
use Rattle.vmedia.proofs.top.answer_to_bytes.Goals as goal

pub text_of-requires : goal.text_of-requires
text_of-requires g c =
    let few = c.requires in
    script_read c.args.bytes.now c.in-Ok.script (omega (arith, few)) c.in-Ok.ensures
