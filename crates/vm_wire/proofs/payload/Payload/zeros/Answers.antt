use Rattle.std.proofs.Common.{◌∙◌}
use Rattle.std.proofs.lemmas.List.{take-replicate}
use Rattle.vm_wire.proofs.payload.Payload.zeros.Goals as goal

pub returns : goal.returns
returns c = c.new.ensures ∙ take-replicate c.args.len 208 0 c.requires
