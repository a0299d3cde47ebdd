use Rattle.std.proofs.Common.{arith}
use Rattle.vm_local.proofs.RangeLemmas.{mapped_more}
use Rattle.vm_local.proofs.pictures.converted_picture.Goals as goal

pub loop-i-preserved : goal.loop-i-preserved
loop-i-preserved c = record {
  bytes = mapped_more _ c.loop-i.picture.items c.push.new.self.items c.converted_byte.result c.loop-i.i c.loop-i.invariant.bytes c.converted_byte.ensures c.in_ok-push.ensures.items;
  size = grind arith;
}
