use Rattle.std.proofs.Common.{◌≤◌, ◌<◌, length, rules, arith}
use Rattle.std.proofs.lemmas.Grind.{common_steps}
use Rattle.std.proofs.lemmas.List.{take_more_set, take_all}
use Rattle.std.proofs.lemmas.List.Edits.{map_over_more}
use Rattle.std.proofs.lemmas.List.Elements.{All-push}
use Rattle.vm_session.specs.State.{SessionQueue}
use Rattle.vm_session.specs.Streaming.{counted}
use Rattle.vm_session.proofs.returns.count_frame.Goals as goal

pub loop-queue-preserved : goal.loop-queue-preserved
loop-queue-preserved c =
    let within : c.loop-queue.queue-index < length c.loop-queue.queues = grind (arith, common_steps) in
    record {
      queues = search (rules, map_over_more counted);
      few = rw (take_more_set c.loop-queue.queues c.loop-queue.queue-index c.count_frame.new.self within)
          (All-push (λ (q : SessionQueue). length q.out ≤ 32) _ _ c.loop-queue.invariant.few c.count_frame.ensures.few);
    }

pub returns-clause-few : goal.returns-clause-few
returns-clause-few c =
    let all : length c.loop-queue.queues ≤ c.loop-queue.queue-index = grind (arith, common_steps) in
    rw (← take_all c.loop-queue.queue-index c.loop-queue.queues all) c.loop-queue.invariant.few
