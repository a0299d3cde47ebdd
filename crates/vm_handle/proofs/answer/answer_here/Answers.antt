use Rattle.std.proofs.Common.{◌≡◌, ◌∙◌, None, sym, subst}
use Rattle.v4l_rules.specs.Refusals.{first_refusal}
use Rattle.vm_local.specs.declared.call.Call.{Call}
use Rattle.vm_local.specs.Calls.{row_of}
use Rattle.vm_log.specs.LegalLog.{state_of}
use Rattle.vm_handle.proofs.HereLemmas.{IsRowHere, row_is_here}
use Rattle.vm_handle.proofs.answer.answer_here.Goals as goal

pub allocate-requires-clause-unrefused : goal.allocate-requires-clause-unrefused
allocate-requires-clause-unrefused c =
    subst (λ (x : Call). first_refusal (row_of (state_of c.args.log.now) c.args.line 0 x).refusals ≡ None) c.in-UAlloc.is
    (sym (c.refusal_of.ensures c.args.line) ∙ c.in_default.is)

pub reply_by_row-requires : goal.reply_by_row-requires
reply_by_row-requires c =
    let w : IsRowHere (state_of c.args.log.now) c.args.line c.args.call.now =
    row_is_here c.requires.here.0 (state_of c.args.log.now) c.args.line c.args.call.now c.requires.here.1
    (sym (c.refusal_of.ensures c.args.line) ∙ c.in_default.is) c.in_default-call.not-UAlloc in
    record { begun = c.requires.begun; none_out = c.requires.none_out; legal = w.here.goes; stays = w.stays; silent = w.silent }
