use Rattle.std.proofs.Common.{rules}
use Rattle.std.proofs.lemmas.List.Edits.{map_over_more}
use Rattle.vm_region.specs.Region.{with_count}
use Rattle.vm_region.proofs.live_range.recount.Goals as goal

pub loop-range-preserved : goal.loop-range-preserved
loop-range-preserved c = search (rules, map_over_more (with_count c.args.addr c.args.count))
