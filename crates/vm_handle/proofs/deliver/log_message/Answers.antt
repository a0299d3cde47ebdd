use Rattle.std.proofs.Common.{sym, subst}
use Rattle.vm_log.specs.LegalLog.{LogState, state_of}
use Rattle.vm_handle.specs.Messages.{GivesFirst}
use Rattle.vm_handle.proofs.DeliverLemmas.{gives_there}
use Rattle.vm_handle.proofs.deliver.log_message.Goals as goal

pub log_made-requires : goal.log_made-requires
log_made-requires c = c.requires.message.legal

pub give-requires : goal.give-requires
give-requires c = (
  c.args.msg.now,
  subst (λ (l : LogState). GivesFirst (state_of l) (state_of l).owed c.args.msg.now c.args.held) (sym c.log_made.ensures)
      (gives_there c.args.log.now c.args.msg.now c.args.held c.requires.log c.requires.message),
)
