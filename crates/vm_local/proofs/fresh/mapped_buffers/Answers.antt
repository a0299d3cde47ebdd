use Rattle.std.proofs.Common.{◌+◌, ap, arith, Some}
use Rattle.vm_local.specs.Queue.{fresh_buffer}
use Rattle.vm_local.proofs.RangeLemmas.{mapped_from}
use Rattle.vm_local.proofs.fresh.mapped_buffers.Goals as goal

pub loop-k-preserved : goal.loop-k-preserved
loop-k-preserved c = record {
  items = mapped_from (λ m. fresh_buffer c.args.size (Some m)) c.args.first c.loop-k.buffers.items _ _ c.loop-k.k c.loop-k.invariant.items
      (ap (λ k. fresh_buffer c.args.size (Some (c.args.first + k))) c.from.ensures) c.push.ensures.items;
  len = omega (arith, c.push.ensures.len, c.loop-k.invariant.len);
}
