use Rattle.std.proofs.Common.{sym, subst}
use Rattle.vm_log.specs.LegalLog.{LogState, state_of}
use Rattle.vm_handle.specs.Handle.{HandleState, KeepsUnwoken}
use Rattle.vm_handle.specs.Messages.{Delivers}
use Rattle.vm_handle.proofs.DeliverLemmas.{delivered_keeps}
use Rattle.vm_handle.proofs.handle.Handle.deliver.Goals as goal

pub awake-self-inside-requires : goal.awake-self-inside-requires
awake-self-inside-requires c =
    let may : Delivers (state_of c.self.inside.log) c.args.d.msg c.args.d.held =
    subst (λ (h : HandleState). Delivers (state_of h.log) c.args.d.msg c.args.d.held) (sym c.self.view_is) c.requires in
    subst (λ (l : LogState). KeepsUnwoken l c.self.inside.session c.self.inside.stage) (sym c.log_message.ensures)
    (delivered_keeps c.self.inside.log c.self.inside.session c.self.inside.stage c.args.d.msg c.args.d.held c.self.invariant may)
