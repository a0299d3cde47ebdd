use Rattle.std.proofs.Common.{◌∙◌, sym}
use Rattle.vm_local.proofs.MovesLemmas.{gift_moves, none_given}
use Rattle.vm_local.proofs.record.Record.give.Goals as goal

pub returns-in-Some-clause-moves : goal.returns-in-Some-clause-moves
returns-in-Some-clause-moves c s t shown leads =
    gift_moves c.args.self.now.local s t _ c.in-Some.first shown leads (sym c.first_owed.ensures ∙ c.in-Some.is) c.give_item.ensures.item

pub returns-in_default-clause-moves : goal.returns-in_default-clause-moves
returns-in_default-clause-moves c s t shown leads = none_given _ s t shown leads (sym c.first_owed.ensures ∙ c.in_default.is)
