use Rattle.std.proofs.Common.{sym, subst}
use Rattle.vm_world.specs.Calls.{IsBackAsItWent}
use Rattle.vm_world.proofs.HandOverLemmas.{finishes_keeps, finished_with}
use Rattle.vm_realm.proofs.EachLemmas.{step_sound}
use Rattle.vm_world.proofs.world.World.finish_job.Goals as goal

pub invariant_of-self : goal.invariant_of-self
invariant_of-self g c =
    finishes_keeps step_sound c.self.inside.script c.self.inside.guest c.self.inside.host c.finish.new.self (g.L.Link.queues c.self.inside.link) c.args.done c.finish.result c.self.invariant
    (subst (λ w. IsBackAsItWent c.args.done w) (sym c.self.view_is) c.requires) c.finish.ensures.finished c.finish.ensures.kept

pub returns-clause-finished : goal.returns-clause-finished
returns-clause-finished g c =
    finished_with c.self.inside.script c.self.inside.guest c.self.inside.host c.finish.new.self (g.L.Link.queues c.self.inside.link) c.args.self.now c.args.done c.finish.result c.self.view_is c.self.invariant.1 c.requires c.finish.ensures.finished
