use Rattle.vm_log.specs.Answers.{with_line}
use Rattle.vm_handle.proofs.BegunLemmas.{may_give_back}
use Rattle.vm_handle.proofs.tests.rig.Rig.touch.Goals as goal

pub give_back-requires : goal.give_back-requires
give_back-requires g c = λ mine.
    may_give_back _ (with_line c.self.inside.handle.log) c.line-line.result c.args.call.now c.in-Out.lease c.apply.new.self c.lease.new.self.log c.in-Out.ensures.leases c.apply.ensures
