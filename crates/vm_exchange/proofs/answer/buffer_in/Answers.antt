use Rattle.std.proofs.Common.{arith, sym, ap, ◌∙◌}
use Rattle.std.proofs.lemmas.Grind.{common_steps}
use Rattle.v4l_layout.specs.Layout.{ReadsAs}
use Rattle.v4l_layout.specs.Records.{buffer_fields}
use Rattle.vm_local.specs.Queue.{flags_of}
use Rattle.vm_exchange.proofs.ReadLemmas.{given_by, buffer_long, length_told, buf_as}
use Rattle.vm_exchange.proofs.answer.buffer_in.Goals as goal

pub returns-in_err-record : goal.returns-in_err-record
returns-in_err-record c = λ model memory len small_t few small_m small_l are. let long = buffer_long c.args.bytes.now model c.args.t c.args.i memory len are in grind (arith, common_steps)

pub returns : goal.returns
returns c = λ model memory len small_t few small_m small_l are.
    let told = length_told c.args.bytes.now c.in_ok-record.record model c.args.t c.args.i memory len small_t few small_m small_l are
    (given_by (λ r. ReadsAs c.args.bytes.now (buffer_fields r)) c.read_buffer.result c.in_ok-record.record c.read_buffer.ensures.ok (sym c.ok.ensures.value ∙ c.in_ok-record.was)) in
    buf_as _ len _ _ told (c.flags_of.ensures ∙ ap (λ b. flags_of c.args.kept.now.local b) c.buffer_of.ensures)
