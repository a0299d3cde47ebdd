use Rattle.std.proofs.Common.{Some, None, sym, ap, ◌∙◌}
use Rattle.std.specs.Option.{option_map}
use Rattle.vm_guest.proofs.GuestLemmas.{overtaken_by, overtaken_nowhere}
use Rattle.vm_guest.proofs.guest.holds_back.Goals as goal

pub returns-in_default : goal.returns-in_default
returns-in_default c = overtaken_nowhere c.args.callers.now c.args.seat (sym (ap (option_map (λ x. x.now)) c.in_default.is) ∙ c.caller_at.ensures)

pub returns-in-Some-crossing_call : goal.returns-in-Some-crossing_call
returns-in-Some-crossing_call c =
    c.is_overtaken.ensures ∙ overtaken_by c.args.callers.now c.args.seat c.in-Some.caller.now (Some c.in-Some-crossing_call.asked) c.in-Some.ensures c.in-Some-crossing_call.ensures

pub returns-in-None : goal.returns-in-None
returns-in-None c = overtaken_by c.args.callers.now c.args.seat c.in-Some.caller.now None c.in-Some.ensures c.in-None.ensures
