use Rattle.std.proofs.Common.{◌≡◌, [], false, rules, refl, sym, subst, length, IfOk, IfErr}
use Rattle.v4l_layout.specs.declared.buffer_rec.BufferRec.{BufferRec}
use Rattle.vm_session.specs.State.{SessionState}
use Rattle.vm_session.specs.Rows.{IoctlRow, ioctl_row, qbuf_row, moves_memories, Answers, MayRefuse}
use Rattle.vm_session.proofs.CallLemmas.{looks_at_none, may_be_refused, none_behind, same_held, sized_as_asked, streamoff_stops}
use Rattle.vm_session.proofs.session.Session.answer.Goals as goal

pub returns-in_default : goal.returns-in_default
returns-in_default c =
    let s : SessionState = c.args.self.now in
    let p = c.args.request.now in
    let held = c.args.held.now.items in
    let alone : moves_memories c.args.code ≡ false = search rules in
    let same : ioctl_row s c.args.code p [] ≡ ioctl_row s c.args.code p held = sym (looks_at_none s c.args.code p held alone) in
    let refused = may_be_refused (ioctl_row s c.args.code p []) c.answer_alone.result c.answer_alone.ensures.err in
    record {
      ok = subst (λ (r : IoctlRow). IfOk c.answer_alone.result (λ payload. Answers r payload c.answer_alone.new.self)) same c.answer_alone.ensures.ok;
      err = subst (λ (r : IoctlRow). IfErr c.answer_alone.result (λ e. MayRefuse r e)) same refused;
      kept = c.answer_alone.ensures.kept;
      held = none_behind s c.args.code p held c.answer_alone.result alone;
      held_kept = same_held held c.answer_alone.result;
      capacity = refl;
      size = c.answer_alone.ensures.size;
    }

pub streamoff-requires-clause-quiet : goal.streamoff-requires-clause-quiet
streamoff-requires-clause-quiet c =
    λ typed. c.requires.quiet (rw c.in-StreamOff.is (streamoff_stops c.args.self.now c.args.request.now c.number_in.result c.number_in.ensures typed))

pub returns-in-QBuf-clause-ok : goal.returns-in-QBuf-clause-ok
returns-in-QBuf-clause-ok c =
    rw c.in-QBuf.is (subst (λ (b : BufferRec). IfOk c.qbuf.result (λ payload. Answers (qbuf_row c.args.self.now b c.args.held.now.items) payload c.qbuf.new.self))
    c.buffer_in.ensures c.qbuf.ensures.ok)

pub returns-in-QBuf-clause-size : goal.returns-in-QBuf-clause-size
returns-in-QBuf-clause-size c =
    let sized : length c.args.request.now ≡ 88 = rw c.in-QBuf.is at c.requires.payload in
    sized_as_asked c.qbuf.result 88 (length c.args.request.now) (sym sized) c.qbuf.ensures.size
