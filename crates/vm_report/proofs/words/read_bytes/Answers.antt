use Rattle.std.proofs.Common.{rules, refl}
use Rattle.vm_report.proofs.CodeLemmas.{reads_decoded}
use Rattle.vm_report.proofs.words.read_bytes.Goals as goal

pub returns : goal.returns
returns c =
    reads_decoded _ c.args.word.now c.decode_to_slice.new.out c.decode_to_slice.result _ c.is_printed.result refl c.decode_to_slice.ensures.value (search rules) c.is_printed.ensures
