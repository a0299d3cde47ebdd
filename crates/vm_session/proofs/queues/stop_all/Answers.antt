use Rattle.std.proofs.Common.{◌≡◌, ◌<◌, length, get_or, set, ap, ◌∙◌, arith}
use Rattle.std.proofs.lemmas.Grind.{common_steps}
use Rattle.vm_session.specs.State.{opening_queue}
use Rattle.vm_session.proofs.FrameLemmas.{still_there, stopped_more, one_more}
use Rattle.vm_session.proofs.queues.stop_all.Goals as goal

pub loop-queue-preserved : goal.loop-queue-preserved
loop-queue-preserved c =
    let qs = c.args.queues.now in
    let i = c.loop-queue.queue-index in
    let q = get_or c.loop-queue.queues i c.queue-item.result in
    let within : i < length qs = grind (arith, common_steps) in
    let own : q ≡ get_or qs i opening_queue = ap (λ xs. get_or xs i c.queue-item.result) c.loop-queue.invariant.queues ∙ still_there qs i c.queue-item.result within in
    let few = c.loop-queue.invariant.few in
    let more = c.stop.ensures.few in
    record {
      queues = ap (λ xs. set xs i c.stop.new.self) c.loop-queue.invariant.queues ∙ stopped_more qs i q c.stop.new.self within own c.stop.ensures.queue;
      memories = one_more qs i q c.args.back.now.items c.loop-queue.back.items c.stop.new.back.items within own c.loop-queue.invariant.memories c.stop.ensures.memories;
      few = omega (arith, few, more);
      room = c.stop.ensures.room ∙ c.loop-queue.invariant.room;
    }
