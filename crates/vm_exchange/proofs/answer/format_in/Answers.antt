use Rattle.std.proofs.Common.{arith, sym, ◌∙◌}
use Rattle.std.proofs.lemmas.Grind.{common_steps}
use Rattle.v4l_layout.specs.Layout.{ReadsAs}
use Rattle.v4l_layout.specs.Records.{format_fields}
use Rattle.vm_exchange.proofs.ReadLemmas.{given_by, format_long, format_told}
use Rattle.vm_exchange.proofs.answer.format_in.Goals as goal

pub returns-in_err-record : goal.returns-in_err-record
returns-in_err-record c = λ t f type offered are. let long = format_long c.args.bytes.now t f type offered are in grind (arith, common_steps)

pub returns : goal.returns
returns c = λ t f type offered are.
    format_told c.args.bytes.now c.in_ok-record.record t f type offered are
    (given_by (λ r. ReadsAs c.args.bytes.now (format_fields r)) c.read_format.result c.in_ok-record.record c.read_format.ensures.ok (sym c.ok.ensures.value ∙ c.in_ok-record.was))
