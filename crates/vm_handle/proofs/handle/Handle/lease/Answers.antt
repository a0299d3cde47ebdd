use Rattle.std.proofs.Common.{◌∙◌, ◌<◌, ◌^◌, ap, arith}
use Rattle.std.proofs.lemmas.Grind.{common_steps}
use Rattle.vm_handle.specs.Handle.{HandleState}
use Rattle.vm_handle.proofs.ReplyLemmas.{leased_keeps}
use Rattle.vm_handle.proofs.handle.Handle.lease.Goals as goal

pub invariant_of-self : goal.invariant_of-self
invariant_of-self c =
    let short : c.args.line < 2 ^ 32 = grind (arith, common_steps) in
    leased_keeps c.self.inside.log c.begin_line.new.self c.lease.new.self c.self.inside.session c.self.inside.stage c.args.line c.args.call.now c.lease.result
    c.begin_line.ensures c.self.invariant (ap (λ (h : HandleState). h.log.unanswered) c.self.view_is ∙ c.requires.answered) c.requires.payload short c.lease.ensures
