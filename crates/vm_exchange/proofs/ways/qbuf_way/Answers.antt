use Rattle.std.proofs.Common.{sym, ◌∙◌}
use Rattle.vm_exchange.proofs.WayLemmas.{queued_index}
use Rattle.vm_exchange.proofs.ways.qbuf_way.Goals as goal

pub qbuf_crossing-requires : goal.qbuf_crossing-requires
qbuf_crossing-requires c = queued_index c.args.kept.now.local 0 0 c.args.t c.args.i c.args.used c.args.ts c.args.user c.requires.range (sym c.refusal_of.ensures ∙ c.in-None.is)
