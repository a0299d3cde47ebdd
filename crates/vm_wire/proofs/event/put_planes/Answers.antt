use Rattle.std.proofs.Common.{refl}
use Rattle.vm_wire.proofs.WrittenLemmas.{zeros_written}
use Rattle.vm_wire.proofs.event.put_planes.Goals as goal

pub returns : goal.returns
returns c = zeros_written c.args.out.now c.fill.new.self 96 608 512 refl c.requires (c.fill.ensures.after (λ y e. e))
