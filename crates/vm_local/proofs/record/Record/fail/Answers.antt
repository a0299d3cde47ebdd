use Rattle.std.proofs.Common.{◌∙◌, sym}
use Rattle.vm_local.proofs.MovesLemmas.{failure_moves, none_failed}
use Rattle.vm_local.proofs.record.Record.fail.Goals as goal

pub returns-then-can_finish-clause-moves : goal.returns-then-can_finish-clause-moves
returns-then-can_finish-clause-moves c s t shown leads = failure_moves c.args.self.now.local s t _ shown leads c.take_frame.ensures.frame

pub returns-else-can_finish-clause-moves : goal.returns-else-can_finish-clause-moves
returns-else-can_finish-clause-moves c s t shown leads = none_failed _ s t shown leads (sym c.can_finish.ensures ∙ c.if-can_finish.false)
