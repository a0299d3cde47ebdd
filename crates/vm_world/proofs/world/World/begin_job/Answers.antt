use Rattle.std.proofs.Common.{subst}
use Rattle.vm_world.specs.Calls.{BeginsJob}
use Rattle.vm_world.specs.Carried.{world_of}
use Rattle.vm_world.proofs.HandOverLemmas.{few_begun, begins_over, begins_keeps}
use Rattle.vm_realm.proofs.EachLemmas.{step_sound}
use Rattle.vm_world.proofs.world.World.begin_job.Goals as goal

pub begin-requires : goal.begin-requires
begin-requires g c = few_begun (world_of c.self.inside.script c.self.inside.guest c.self.inside.host (g.L.Link.queues c.self.inside.link)) c.self.invariant.0

pub invariant_of-self : goal.invariant_of-self
invariant_of-self g c = begins_keeps step_sound c.self.inside.script c.args.session c.self.inside.guest c.self.inside.host c.begin.new.self (g.L.Link.queues c.self.inside.link) c.begin.result c.self.invariant c.begin.ensures

pub returns : goal.returns
returns g c = record {
  begins = subst (λ w. BeginsJob c.args.session w c.begin.result (world_of c.self.inside.script c.self.inside.guest c.begin.new.self (g.L.Link.queues c.self.inside.link))) c.self.view_is
      (begins_over c.self.inside.script c.args.session c.self.inside.guest c.self.inside.host c.begin.new.self (g.L.Link.queues c.self.inside.link) c.begin.result c.self.invariant.1 c.begin.ensures).0;
}
