use Rattle.std.proofs.Common.{sym, ◌∙◌}
use Rattle.vm_exchange.proofs.WayLemmas.{mapped_index}
use Rattle.vm_exchange.proofs.ways.mmap_way.Goals as goal

pub buffer_offset-requires : goal.buffer_offset-requires
buffer_offset-requires c = mapped_index c.args.kept.now.local 0 0 c.args.m c.args.t c.args.i c.args.ro c.requires.range (sym c.refusal_of.ensures ∙ c.in-None.is)
