use Rattle.std.proofs.Common.{◌∙◌, sym, ap, is_some}
use Rattle.vm_local.specs.Same.{address_in}
use Rattle.vm_local.proofs.MovesLemmas.{stays_refused, none_stopped, none_waits, goes_on}
use Rattle.vm_local.proofs.record.Record.call.Goals as goal
use Rattle.vm_local.proofs.record.Record.call.Goals.{then-is_refusal-via-then-is_refusal, then-is_refusal-via-else-is_refusal+then-is_some, then-is_refusal-via-else-is_refusal+else-is_some+then-row_waits}

pub returns-then-is_refusal-clause-moves : goal.returns-then-is_refusal-clause-moves
returns-then-is_refusal-clause-moves c s t shown leads =
    elim c.then-is_refusal.branch [
      | then-is_refusal-via-then-is_refusal w ↦
          stays_refused _ s t c.args.line c.args.call.now c.args.reply.now shown leads (sym c.is_refusal.ensures ∙ w.if-is_refusal.true)
      | then-is_refusal-via-else-is_refusal+then-is_some w ↦
          none_stopped _ s t c.args.line c.args.call.now c.args.reply.now shown leads (sym c.is_refusal.ensures ∙ w.if-is_refusal.false)
          (ap (λ o. is_some o) (sym (w.row_refusal.ensures c.args.line (address_in c.args.reply.now))) ∙ (sym w.is_some.ensures ∙ w.if-is_some.true))
      | then-is_refusal-via-else-is_refusal+else-is_some+then-row_waits w ↦
          none_waits _ s t c.args.line c.args.call.now c.args.reply.now shown leads (sym c.is_refusal.ensures ∙ w.if-is_refusal.false)
          (sym (w.row_waits.ensures c.args.line (address_in c.args.reply.now)) ∙ w.if-row_waits.true)
    ]

pub returns-clause-moves : goal.returns-clause-moves
returns-clause-moves c s t shown leads =
    goes_on c.args.self.now.local s t _ c.args.line c.address.result c.args.call.now c.args.reply.now shown leads
    (sym c.is_refusal.ensures ∙ c.if-is_refusal.false) c.address.ensures c.perform.ensures.next
