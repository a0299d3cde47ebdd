use Rattle.std.proofs.Common.{arith, sym, ◌∙◌}
use Rattle.std.proofs.lemmas.Grind.{common_steps}
use Rattle.v4l_layout.specs.Layout.{ReadsAs}
use Rattle.v4l_layout.specs.Records.{input_fields}
use Rattle.vm_exchange.proofs.ReadLemmas.{given_by, input_long, name_told}
use Rattle.vm_exchange.proofs.answer.name_in.Goals as goal

pub returns-in_err-record : goal.returns-in_err-record
returns-in_err-record c = λ i index are. let long = input_long c.args.bytes.now i index are in grind (arith, common_steps)

pub returns : goal.returns
returns c = λ i index are.
    name_told c.args.bytes.now c.in_ok-record.record i index are
    (given_by (λ r. ReadsAs c.args.bytes.now (input_fields r)) c.read_input.result c.in_ok-record.record c.read_input.ensures.ok (sym c.ok.ensures.value ∙ c.in_ok-record.was))
