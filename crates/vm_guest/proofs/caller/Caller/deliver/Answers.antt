use Rattle.std.proofs.Common.{ap, length, ◌∙◌, length-set}
use Rattle.vm_guest.proofs.CallerLeaseLemmas.{asked_within}
use Rattle.vm_guest.proofs.caller.Caller.deliver.Goals as goal

pub is_woken-requires : goal.is_woken-requires
is_woken-requires c =
    asked_within _ c.args.self.now c.deliver_to.new.handles.items c.self.view_is c.requires.orderly (ap length c.deliver_to.ensures ∙ length-set _ _ _)
