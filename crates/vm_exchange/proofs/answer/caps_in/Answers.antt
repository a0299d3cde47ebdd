use Rattle.std.proofs.Common.{arith, sym, ◌∙◌}
use Rattle.std.proofs.lemmas.Grind.{common_steps}
use Rattle.v4l_layout.specs.Layout.{ReadsAs}
use Rattle.v4l_layout.specs.Records.{capability_fields}
use Rattle.vm_exchange.proofs.ReadLemmas.{given_by, capability_long, caps_told}
use Rattle.vm_exchange.proofs.answer.caps_in.Goals as goal

pub returns-in_err-record : goal.returns-in_err-record
returns-in_err-record c = λ m are. let long = capability_long c.args.bytes.now m are in grind (arith, common_steps)

pub returns : goal.returns
returns c = λ m are.
    caps_told c.args.bytes.now c.in_ok-record.record m are
    (given_by (λ r. ReadsAs c.args.bytes.now (capability_fields r)) c.read_capability.result c.in_ok-record.record c.read_capability.ensures.ok (sym c.ok.ensures.value ∙ c.in_ok-record.was))
