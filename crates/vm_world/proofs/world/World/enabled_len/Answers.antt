use Rattle.std.proofs.Common.{arith}
use Rattle.vm_world.specs.Kinds.{kinds}
use Rattle.vm_world.proofs.KindLemmas.{count_more}
use Rattle.vm_world.proofs.world.World.enabled_len.Goals as goal

pub loop-kind-preserved : goal.loop-kind-preserved
loop-kind-preserved g c = (
  count_more c.args.self.now kinds c.loop-kind.kind-index _ c.loop-kind.count c.count-count.result c.loop-kind-test.true c.loop-kind.invariant.0 c.count-count.ensures.count,
  omega (arith, c.loop-kind.invariant.1, c.count-count.ensures.few),
)
