use Rattle.vm_world.specs.Kinds.{kinds}
use Rattle.vm_world.proofs.KindLemmas.{found_here, found_later, found_may}
use Rattle.vm_world.proofs.world.World.enabled_at.Goals as goal

pub returns-then-place-count-clause-may : goal.returns-then-place-count-clause-may
returns-then-place-count-clause-may g c =
    found_may c.args.self.now c.args.k c.at.result
    (found_here c.args.self.now kinds c.loop-kind.kind-index c.loop-kind.place _ c.count-count.result c.at.result _
    c.loop-kind-test.true c.count-count.ensures.count c.if-place-count.true c.at.ensures c.loop-kind.invariant)

pub loop-kind-preserved : goal.loop-kind-preserved
loop-kind-preserved g c =
    found_later c.args.self.now kinds c.loop-kind.kind-index c.loop-kind.place _ c.count-count.result _
    c.loop-kind-test.true c.count-count.ensures.count c.if-place-count.false c.loop-kind.invariant
