use Rattle.std.proofs.Common.{arith, sym, ◌∙◌}
use Rattle.std.proofs.lemmas.Grind.{common_steps}
use Rattle.v4l_layout.specs.Layout.{ReadsAs}
use Rattle.v4l_layout.specs.Records.{request_fields}
use Rattle.vm_exchange.proofs.ReadLemmas.{given_by, request_long, count_told}
use Rattle.vm_exchange.proofs.answer.count_in.Goals as goal

pub returns-in_err-record : goal.returns-in_err-record
returns-in_err-record c = λ model t memory count small_t small_m small_c are. let long = request_long c.args.bytes.now model t memory count are in grind (arith, common_steps)

pub returns : goal.returns
returns c = λ model t memory count small_t small_m small_c are.
    count_told c.args.bytes.now c.in_ok-record.record model t memory count small_t small_m small_c are
    (given_by (λ r. ReadsAs c.args.bytes.now (request_fields r)) c.read_request.result c.in_ok-record.record c.read_request.ensures.ok (sym c.ok.ensures.value ∙ c.in_ok-record.was))
