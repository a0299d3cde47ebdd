use Rattle.std.proofs.Common.{◌≡◌, Some, ◌∙◌}
use Rattle.std.proofs.lemmas.Grind.{common_steps}
use Rattle.std.proofs.Common.{arith}
use Rattle.vm_link.specs.Queue.{queue_at, finished}
use Rattle.vm_link.proofs.QueueLemmas.{takes_some, taken_is_out, taken_apart, still_out_taken, still_out_finished, queue_at_with}
use Rattle.vm_link.proofs.tests.send_two.Goals as goal

pub finish-requires : goal.finish-requires
finish-requires c =
    let took : c.take-2.result ≡ Some c.in_ok-second.second = grind (arith, common_steps) in
    let second = takes_some (queue_at c.args.q c.take.new.self) c.take.new.chain c.take-2.result (queue_at c.args.q c.take-2.new.self) c.take-2.new.chain c.in_ok-second.second
    c.take-2.ensures.taken took in
    rw c.done.ensures (taken_is_out (queue_at c.args.q c.take.new.self) c.take.new.chain c.in_ok-second.second (queue_at c.args.q c.take-2.new.self) c.take-2.new.chain second)

pub finish-requires-2 : goal.finish-requires-2
finish-requires-2 c =
    let took : c.take.result ≡ Some c.in_ok-first.first = grind (arith, common_steps) in
    let first = takes_some (queue_at c.args.q c.post-2.new.self) c.in_ok-chain.chain c.take.result (queue_at c.args.q c.take.new.self) c.take.new.chain c.in_ok-first.first
    c.take.ensures.taken took in
    let took_too : c.take-2.result ≡ Some c.in_ok-second.second = grind (arith, common_steps) in
    let second = takes_some (queue_at c.args.q c.take.new.self) c.take.new.chain c.take-2.result (queue_at c.args.q c.take-2.new.self) c.take-2.new.chain c.in_ok-second.second
    c.take-2.ensures.taken took_too in
    let out = taken_is_out (queue_at c.args.q c.post-2.new.self) c.in_ok-chain.chain c.in_ok-first.first (queue_at c.args.q c.take.new.self) c.take.new.chain first in
    let apart = taken_apart c.in_ok-first.first.head (queue_at c.args.q c.take.new.self) c.take.new.chain c.in_ok-second.second (queue_at c.args.q c.take-2.new.self) c.take-2.new.chain second out in
    let still = still_out_taken c.in_ok-first.first.head (queue_at c.args.q c.take.new.self) c.take.new.chain c.in_ok-second.second (queue_at c.args.q c.take-2.new.self) c.take-2.new.chain second out in
    let last = still_out_finished c.in_ok-first.first.head (queue_at c.args.q c.take-2.new.self) c.done.result still (λ same. apart (same ∙ c.done.ensures)) in
    let now : queue_at c.args.q c.finish.new.self ≡ finished (queue_at c.args.q c.take-2.new.self) c.done.result = rw c.finish.ensures (queue_at_with c.args.q _ _) in
    rw (c.done-2.ensures, now) last
