use Rattle.std.proofs.Common.{◌<◌, ◌^◌, Option, ℕ, sym, subst, arith}
use Rattle.std.proofs.lemmas.Grind.{common_steps}
use Rattle.vm_local.specs.declared.reply.Reply.{Reply}
use Rattle.vm_home.specs.Moves.{ComeWith}
use Rattle.vm_log.specs.LegalLog.{state_of}
use Rattle.vm_exchange.specs.Range.{IsRecord}
use Rattle.vm_exchange.proofs.RecordLemmas.{record_of}
use Rattle.vm_handle.specs.declared.stage.Stage.TheVariants.{AtRest}
use Rattle.vm_handle.specs.Handle.{HandleState, Keeps}
use Rattle.vm_handle.proofs.ReplyLemmas.{IsRead, is_read, read_call, read_along, one_reply, replied_view, replied_keeps}
use Rattle.vm_handle.proofs.handle.Handle.reply.Goals as goal

pub reply_in-requires : goal.reply_in-requires
reply_in-requires c = subst IsRecord (sym c.record.ensures) (record_of (state_of c.self.inside.log) c.self.invariant.range)

pub reply-requires-clause-along : goal.reply-requires-clause-along
reply-requires-clause-along c =
    let h : HandleState = record { log = c.self.inside.log; session = c.self.inside.session; stage = c.self.inside.stage } in
    let w : IsRead h c.args.line c.args.call.now c.args.response.now c.args.held.now.items c.words-reply.result =
    is_read h c.args.self.now c.args.line c.args.call.now c.args.response.now c.args.held.now.items c.record.result.now.local c.reply_in.result c.words-reply.result
    c.self.view_is c.requires.underway c.requires.answer c.self.invariant c.record.ensures c.reply_in.ensures c.words-reply.ensures.same in
    read_along h c.args.line c.args.call.now c.args.response.now c.args.held.now.items c.words-reply.result w

pub reply-requires-clause-answer : goal.reply-requires-clause-answer
reply-requires-clause-answer c =
    let h : HandleState = record { log = c.self.inside.log; session = c.self.inside.session; stage = c.self.inside.stage } in
    let w : IsRead h c.args.line c.args.call.now c.args.response.now c.args.held.now.items c.words-reply.result =
    is_read h c.args.self.now c.args.line c.args.call.now c.args.response.now c.args.held.now.items c.record.result.now.local c.reply_in.result c.words-reply.result
    c.self.view_is c.requires.underway c.requires.answer c.self.invariant c.record.ensures c.reply_in.ensures c.words-reply.ensures.same in (
      w.answer.next,
      read_call h c.args.line c.args.call.now c.args.response.now c.args.held.now.items c.words-reply.result w,
      subst (λ (r : Reply). ComeWith (state_of h.log) w.answer.next c.args.call.now r c.args.held.now.items) (sym w.is) w.answer.memories,
    )

pub invariant_of-self : goal.invariant_of-self
invariant_of-self c =
    let h : HandleState = record { log = c.self.inside.log; session = c.self.inside.session; stage = c.self.inside.stage } in
    let w : IsRead h c.args.line c.args.call.now c.args.response.now c.args.held.now.items c.words-reply.result =
    is_read h c.args.self.now c.args.line c.args.call.now c.args.response.now c.args.held.now.items c.record.result.now.local c.reply_in.result c.words-reply.result
    c.self.view_is c.requires.underway c.requires.answer c.self.invariant c.record.ensures c.reply_in.ensures c.words-reply.ensures.same in
    let short : c.args.line < 2 ^ 32 = grind (arith, common_steps) in
    subst (λ (x : Option ℕ). Keeps c.reply.new.self x AtRest) (sym c.session_from-self-inside.ensures)
    (replied_keeps c.self.inside.log c.reply.new.self c.self.inside.session c.self.inside.stage c.args.line c.args.call.now c.args.response.now c.args.held.now.items c.words-reply.result
    w.answer c.self.invariant w.is short c.words-reply.ensures.fit c.reply.ensures.log)

pub returns-clause-replied : goal.returns-clause-replied
returns-clause-replied c = λ reply may.
    let h : HandleState = record { log = c.self.inside.log; session = c.self.inside.session; stage = c.self.inside.stage } in
    let w : IsRead h c.args.line c.args.call.now c.args.response.now c.args.held.now.items c.words-reply.result =
    is_read h c.args.self.now c.args.line c.args.call.now c.args.response.now c.args.held.now.items c.record.result.now.local c.reply_in.result c.words-reply.result
    c.self.view_is c.requires.underway c.requires.answer c.self.invariant c.record.ensures c.reply_in.ensures c.words-reply.ensures.same in
    replied_view h c.args.self.now c.reply.new.self c.session_from-self-inside.result c.args.line c.args.call.now c.words-reply.result reply c.args.response.now c.args.held.now.items
    c.self.view_is c.reply.ensures.log c.session_from-self-inside.ensures
    (one_reply h c.args.self.now c.args.line c.args.call.now c.args.response.now c.args.held.now.items c.record.result.now.local c.reply_in.result c.words-reply.result reply
    c.self.view_is c.record.ensures c.reply_in.ensures c.words-reply.ensures.same w may)

pub returns-clause-keeps : goal.returns-clause-keeps
returns-clause-keeps c =
    let h : HandleState = record { log = c.self.inside.log; session = c.self.inside.session; stage = c.self.inside.stage } in
    let w : IsRead h c.args.line c.args.call.now c.args.response.now c.args.held.now.items c.words-reply.result =
    is_read h c.args.self.now c.args.line c.args.call.now c.args.response.now c.args.held.now.items c.record.result.now.local c.reply_in.result c.words-reply.result
    c.self.view_is c.requires.underway c.requires.answer c.self.invariant c.record.ensures c.reply_in.ensures c.words-reply.ensures.same in
    let short : c.args.line < 2 ^ 32 = grind (arith, common_steps) in
    subst (λ (x : Option ℕ). Keeps c.reply.new.self x AtRest) (sym c.session_from-self-inside.ensures)
    (replied_keeps c.self.inside.log c.reply.new.self c.self.inside.session c.self.inside.stage c.args.line c.args.call.now c.args.response.now c.args.held.now.items c.words-reply.result
    w.answer c.self.invariant w.is short c.words-reply.ensures.fit c.reply.ensures.log)
