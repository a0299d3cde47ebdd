use Rattle.std.proofs.Common.{length, take_while, ap, ◌∙◌, arith}
use Rattle.vm_host.proofs.WaitingLemmas.{is_other, first_counted, rest_counted, none_counted, same_counted}
use Rattle.vm_host.proofs.waiting.take_call.Goals as goal

pub returns-then-place-len-clause-call : goal.returns-then-place-len-clause-call
returns-then-place-len-clause-call c =
    let counted = c.place_for-place.ensures ∙ ap (λ ds. length (take_while (is_other c.args.session) ds)) c.as_slice.ensures.value in
    none_counted c.args.session c.place_for-place.result c.args.calls.now.items counted
    (omega (arith, c.if-place-len.true, c.len.ensures, c.as_slice.ensures.len, ap length c.as_slice.ensures.value))

pub returns-then-place-len-clause-rest : goal.returns-then-place-len-clause-rest
returns-then-place-len-clause-rest c =
    let counted = c.place_for-place.ensures ∙ ap (λ ds. length (take_while (is_other c.args.session) ds)) c.as_slice.ensures.value in
    same_counted c.args.session c.place_for-place.result c.args.calls.now.items counted
    (omega (arith, c.if-place-len.true, c.len.ensures, c.as_slice.ensures.len, ap length c.as_slice.ensures.value))

pub returns-clause-call : goal.returns-clause-call
returns-clause-call c =
    let counted = c.place_for-place.ensures ∙ ap (λ ds. length (take_while (is_other c.args.session) ds)) c.as_slice.ensures.value in
    first_counted c.args.session c.place_for-place.result c.args.calls.now.items c.remove.result counted
    (omega (arith, c.if-place-len.false, c.len.ensures, c.as_slice.ensures.len, ap length c.as_slice.ensures.value)) c.remove.ensures.value

pub returns-clause-rest : goal.returns-clause-rest
returns-clause-rest c =
    let counted = c.place_for-place.ensures ∙ ap (λ ds. length (take_while (is_other c.args.session) ds)) c.as_slice.ensures.value in
    rest_counted c.args.session c.place_for-place.result c.args.calls.now.items c.remove.new.self.items counted c.remove.ensures.items
