use Rattle.std.proofs.Common.{rules, arith}
use Rattle.vm_carrier.proofs.CarrierLemmas.{gathered_more, gathered_room}
use Rattle.vm_carrier.proofs.carrier.gather.Goals as goal

pub loop-desc-preserved : goal.loop-desc-preserved
loop-desc-preserved c = record {
  bytes = gathered_more c.args.descs.now c.args.pages.now c.loop-desc.desc-index _ c.readable_at.result.now c.loop-desc.bytes.items c.extend_from_slice.new.self.items
      (search rules) c.readable_at.ensures.bytes (search rules) c.loop-desc.invariant.bytes;
  room = gathered_room c.loop-desc.desc-index c.readable_at.result.now c.loop-desc.bytes.items c.extend_from_slice.new.self.items (search rules) c.readable_at.ensures.size c.loop-desc.invariant.room;
  capacity = omega (arith, c.loop-desc.invariant.capacity, c.extend_from_slice.ensures.capacity);
}
