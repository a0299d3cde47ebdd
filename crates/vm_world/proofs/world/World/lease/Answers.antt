use Rattle.std.proofs.Common.{subst}
use Rattle.vm_world.specs.Calls.{LeasesLine}
use Rattle.vm_world.specs.Carried.{world_of}
use Rattle.vm_world.proofs.HandOverLemmas.{leases_over, leases_keeps}
use Rattle.vm_realm.proofs.EachLemmas.{step_sound}
use Rattle.vm_world.proofs.world.World.lease.Goals as goal

pub invariant_of-self : goal.invariant_of-self
invariant_of-self g c = leases_keeps step_sound c.self.inside.script c.args.p c.self.inside.guest c.lease.new.self c.self.inside.host (g.L.Link.queues c.self.inside.link) c.lease.result c.self.invariant c.lease.ensures.leases

pub returns : goal.returns
returns g c =
    subst (λ w. LeasesLine c.args.p w c.lease.result (world_of c.self.inside.script c.lease.new.self c.self.inside.host (g.L.Link.queues c.self.inside.link))) c.self.view_is
    (leases_over c.self.inside.script c.args.p c.self.inside.guest c.lease.new.self c.self.inside.host (g.L.Link.queues c.self.inside.link) c.lease.result c.self.invariant.1 c.lease.ensures.leases).0
