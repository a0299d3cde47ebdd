use Rattle.std.proofs.Common.{length, take_while, ap, ◌∙◌}
use Rattle.vm_host.proofs.WaitingLemmas.{is_below, put_counted}
use Rattle.vm_host.proofs.waiting.put_call.Goals as goal

pub returns-clause-calls : goal.returns-clause-calls
returns-clause-calls c =
    let counted = c.place_behind-place.ensures ∙ ap (λ ws. length (take_while (is_below c.args.call.session) ws)) c.as_slice.ensures.value in
    put_counted c.args.call c.place_behind-place.result c.args.calls.now.items c.insert_reserved.new.calls.items counted c.insert_reserved.ensures.items
