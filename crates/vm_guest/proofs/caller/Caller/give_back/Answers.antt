use Rattle.std.proofs.Common.{sym, ◌∙◌}
use Rattle.vm_guest.proofs.CallerLeaseLemmas.{call_within}
use Rattle.vm_guest.proofs.caller.Caller.give_back.Goals as goal

pub return_lease-requires-clause-within : goal.return_lease-requires-clause-within
return_lease-requires-clause-within c =
    call_within _ c.args.self.now c.unwrap-asked.result c.self.view_is c.requires.orderly (sym c.current_call.ensures ∙ c.unwrap-asked.ensures)
