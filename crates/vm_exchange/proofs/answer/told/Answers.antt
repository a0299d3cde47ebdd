use Rattle.std.proofs.Common.{inl, inr, Some, sym, ap, subst, ◌∙◌}
use Rattle.vm_commute.specs.Commute.{may_cross}
use Rattle.vm_wire.specs.declared.response.Response.TheVariants.{Answered}
use Rattle.vm_exchange.specs.Range.{AreWords}
use Rattle.vm_exchange.proofs.AnswerLemmas.{seen_tells, answer_as}
use Rattle.vm_exchange.proofs.answer.told.Goals as goal

pub returns-in-Answered : goal.returns-in-Answered
returns-in-Answered c = λ line reply crosses may.
    c.read_in.ensures line reply (ap (λ x. may_cross x) c.words-call.ensures.same ∙ crosses)
    (answer_as c.args.kept.now.local line c.args.call.now _ c.args.response.now _ reply c.words-call.ensures.same
    (c.in-Answered.is ∙ ap (λ b. Answered b) (sym c.as_bytes.ensures.bytes)) may)

pub returns-in-Mapped : goal.returns-in-Mapped
returns-in-Mapped c = λ line reply crosses may.
    let words : AreWords c.args.call.now = subst AreWords c.words-call.ensures.same c.words-call.ensures.fit in
    let tells = seen_tells c.args.kept.now.local line c.args.call.now reply c.args.response.now _ c.in-Mapped.is crosses words c.requires.range may in
    c.mapping_in.ensures tells.1 ∙ ap (λ r. Some r) (sym tells.0)

pub returns-in-Opened : goal.returns-in-Opened
returns-in-Opened c = λ line reply crosses may.
    let words : AreWords c.args.call.now = subst AreWords c.words-call.ensures.same c.words-call.ensures.fit in
    elim c.in-Opened.is [
      | inl is ↦ ap (λ r. Some r) (sym (seen_tells c.args.kept.now.local line c.args.call.now reply c.args.response.now _ is.1 crosses words c.requires.range may))
      | inr other ↦ elim other [
        | inl is ↦ ap (λ r. Some r) (sym (seen_tells c.args.kept.now.local line c.args.call.now reply c.args.response.now _ is crosses words c.requires.range may))
        | inr is ↦ ap (λ r. Some r) (sym (seen_tells c.args.kept.now.local line c.args.call.now reply c.args.response.now _ is crosses words c.requires.range may))
      ]
    ]
