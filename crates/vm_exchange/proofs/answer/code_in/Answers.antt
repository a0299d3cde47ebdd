use Rattle.std.proofs.Common.{arith, sym, ◌∙◌}
use Rattle.std.proofs.lemmas.Grind.{common_steps}
use Rattle.v4l_layout.specs.Layout.{ReadsAs}
use Rattle.v4l_layout.specs.Records.{fmtdesc_fields}
use Rattle.vm_exchange.proofs.ReadLemmas.{given_by, fmtdesc_long, code_told}
use Rattle.vm_exchange.proofs.answer.code_in.Goals as goal

pub returns-in_err-record : goal.returns-in_err-record
returns-in_err-record c = λ t i code type index letters are. let long = fmtdesc_long c.args.bytes.now t i code type index letters are in grind (arith, common_steps)

pub returns : goal.returns
returns c = λ t i code type index letters are.
    code_told c.args.bytes.now c.in_ok-record.record t i code type index letters are
    (given_by (λ r. ReadsAs c.args.bytes.now (fmtdesc_fields r)) c.read_fmtdesc.result c.in_ok-record.record c.read_fmtdesc.ensures.ok (sym c.ok.ensures.value ∙ c.in_ok-record.was))
