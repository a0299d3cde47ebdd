use Rattle.std.proofs.Common.{◌≡◌, true, sym, subst}
use Rattle.vm_log.specs.LegalLog.{is_lent_to, lease_in}
use Rattle.vm_log.specs.Answers.{IsDone}
use Rattle.vm_handle.specs.Handle.{HandleState}
use Rattle.vm_handle.proofs.ReplyLemmas.{gave_keeps}
use Rattle.vm_handle.proofs.handle.Handle.give_back.Goals as goal

pub invariant_of-self : goal.invariant_of-self
invariant_of-self c =
    let done : is_lent_to c.self.inside.log.away c.args.lease.line ≡ true → IsDone (lease_in c.self.inside.log.away) c.args.lease =
    subst (λ (h : HandleState). is_lent_to h.log.away c.args.lease.line ≡ true → IsDone (lease_in h.log.away) c.args.lease) (sym c.self.view_is) c.requires in
    gave_keeps c.self.inside.log c.give_back.new.self c.self.inside.session c.self.inside.stage c.args.lease c.give_back.result c.self.invariant done
    c.give_back.ensures.other c.give_back.ensures.ok c.give_back.ensures.legal c.give_back.ensures.err
