use Rattle.std.proofs.Common.{◌∙◌, sym}
use Rattle.vm_frame.proofs.ScatterLemmas.{length-scatter_bytes, total_fits}
use Rattle.vm_frame.proofs.gather.total_of.Goals as goal

pub sum_of_lens-requires : goal.sum_of_lens-requires
sum_of_lens-requires c = total_fits c.args.entries.now c.args.pages.now c.requires

pub returns : goal.returns
returns c = c.sum_of_lens.ensures ∙ sym (length-scatter_bytes c.args.entries.now c.args.pages.now c.requires)
