use Rattle.std.proofs.Common.{IsSome, refl, sym, subst}
use Rattle.vm_local.specs.declared.call.Call.TheVariants.{UAlloc}
use Rattle.vm_local.specs.declared.reply.Reply.{Reply}
use Rattle.vm_local.specs.Log.{called}
use Rattle.vm_log.specs.LegalLog.{state_of}
use Rattle.vm_handle.proofs.HereLemmas.{lacking_is_here, ualloc_may, ualloc_here}
use Rattle.vm_handle.proofs.UserLemmas.{ualloc_sizes}
use Rattle.vm_handle.proofs.AnswerLemmas.{made_is, made_here, lacking_here}
use Rattle.vm_handle.proofs.answer.allocate.Goals as goal

pub of_user-requires-clause-some : goal.of_user-requires-clause-some
of_user-requires-clause-some c = (ualloc_sizes (state_of c.args.log.now) c.args.line c.args.len c.args.off c.args.u c.requires.unrefused).0

pub of_user-requires-clause-small : goal.of_user-requires-clause-small
of_user-requires-clause-small c = (ualloc_sizes (state_of c.args.log.now) c.args.line c.args.len c.args.off c.args.u c.requires.unrefused).1

pub of_user-requires-clause-in_a_page : goal.of_user-requires-clause-in_a_page
of_user-requires-clause-in_a_page c = (ualloc_sizes (state_of c.args.log.now) c.args.line c.args.len c.args.off c.args.u c.requires.unrefused).2

pub allocate-requires-clause-legal : goal.allocate-requires-clause-legal
allocate-requires-clause-legal c =
    subst (λ (r : Reply). IsSome (called (state_of c.args.log.now) c.args.line (UAlloc c.args.u c.args.len c.args.off) r))
    (sym (c.reply-reply.ensures (state_of c.args.log.now) c.args.line c.record.ensures refl))
    (ualloc_here (state_of c.args.log.now) c.args.line c.args.len c.args.off c.args.u c.requires.unrefused).goes

pub allocate-requires-clause-made : goal.allocate-requires-clause-made
allocate-requires-clause-made c =
    made_is (state_of c.args.log.now) c.args.line c.args.len c.args.off c.args.u c.reply-reply.result c.in-Ok.user c.requires.unrefused
    (c.reply-reply.ensures (state_of c.args.log.now) c.args.line c.record.ensures refl) c.in-Ok.ensures

pub call-requires-clause-legal : goal.call-requires-clause-legal
call-requires-clause-legal c =
    (lacking_is_here (state_of c.args.log.now) c.args.line (UAlloc c.args.u c.args.len c.args.off) c.requires.unrefused
    (ualloc_may (state_of c.args.log.now) c.args.line c.args.len c.args.off c.args.u)).goes

pub returns-in-Ok : goal.returns-in-Ok
returns-in-Ok c =
    made_here c.args.log.now c.allocate.new.self c.args.line c.args.len c.args.off c.args.u c.reply-reply.result c.in-Ok.user c.requires.unrefused
    (c.reply-reply.ensures (state_of c.args.log.now) c.args.line c.record.ensures refl) c.in-Ok.ensures c.allocate.ensures

pub returns-in-Err : goal.returns-in-Err
returns-in-Err c = lacking_here c.args.log.now c.call.new.self c.args.line c.args.len c.args.off c.args.u c.requires.unrefused c.call.ensures
