use Rattle.vm_guest.proofs.FreshLemmas.{small_counts, counts_more}
use Rattle.vm_guest.proofs.fresh.count_lines.Goals as goal

pub count_line-requires : goal.count_line-requires
count_line-requires c = small_counts c.loop-line.counts.items c.args.handles c.args.lines.now c.loop-line.line-index c.loop-line.invariant c.loop-line-test.true c.requires

pub loop-line-preserved : goal.loop-line-preserved
loop-line-preserved c =
    counts_more c.loop-line.counts.items c.count_line.new.counts.items c.args.handles c.args.lines.now c.loop-line.line-index c.line-item.result
    c.loop-line.invariant c.loop-line-test.true c.line-item.is c.count_line.ensures
