use Rattle.std.proofs.Common.{arith}
use Rattle.std.proofs.lemmas.Grind.{common_steps}
use Rattle.vm_region.proofs.CountLemmas.{recount_is_counted}
use Rattle.vm_region.proofs.live_range.set_count.Goals as goal

pub returns-else-count-eq0 : goal.returns-else-count-eq0
returns-else-count-eq0 c =
    let done = recount_is_counted c.args.addr c.args.count c.args.ranges.now.items (grind (arith, common_steps)) in grind (arith, common_steps, done)
