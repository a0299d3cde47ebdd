use Rattle.std.proofs.Common.{◌≡◌, Some, arith}
use Rattle.std.proofs.lemmas.Grind.{common_steps}
use Rattle.vm_link.specs.Queue.{queue_at, finished}
use Rattle.vm_link.specs.declared.parcel.Finished.{Finished}
use Rattle.vm_link.proofs.QueueLemmas.{takes_some, taken_is_out, taken_apart, still_out_taken, still_out_finished, queue_at_with}
use Rattle.vm_split.specs.Link.{queues_of}
use Rattle.vm_split.proofs.tests.serve_two.Goals as goal

pub finish-requires : goal.finish-requires
finish-requires c =
    let before = queue_at c.args.q (queues_of c.take.new.self) in
    let after = queue_at c.args.q (queues_of c.take-2.new.self) in
    let took : c.take-2.result ≡ Some c.in_ok-second.second = grind (arith, common_steps) in
    let takes = takes_some before c.take.new.chain c.take-2.result after c.take-2.new.chain c.in_ok-second.second c.take-2.ensures.taken took in
    taken_is_out before c.take.new.chain c.in_ok-second.second after c.take-2.new.chain takes

pub finish-requires-2 : goal.finish-requires-2
finish-requires-2 c =
    let start = queue_at c.args.q (queues_of c.args.link.now) in
    let between = queue_at c.args.q (queues_of c.take.new.self) in
    let after = queue_at c.args.q (queues_of c.take-2.new.self) in
    let took : c.take.result ≡ Some c.in_ok-first.first = grind (arith, common_steps) in
    let first = takes_some start c.args.chain.now c.take.result between c.take.new.chain c.in_ok-first.first c.take.ensures.taken took in
    let took_too : c.take-2.result ≡ Some c.in_ok-second.second = grind (arith, common_steps) in
    let second = takes_some between c.take.new.chain c.take-2.result after c.take-2.new.chain c.in_ok-second.second c.take-2.ensures.taken took_too in
    let out = taken_is_out start c.args.chain.now c.in_ok-first.first between c.take.new.chain first in
    let apart = taken_apart c.in_ok-first.first.head between c.take.new.chain c.in_ok-second.second after c.take-2.new.chain second out in
    let still = still_out_taken c.in_ok-first.first.head between c.take.new.chain c.in_ok-second.second after c.take-2.new.chain second out in
    let early : Finished = record { head = c.in_ok-second.second.head; used = 8; parcel = c.in_ok-second.second.parcel } in
    let last = still_out_finished c.in_ok-first.first.head after early still apart in
    let now : queue_at c.args.q (queues_of c.finish.new.self) ≡ finished after early = rw c.finish.ensures.queues (queue_at_with c.args.q _ _) in
    rw now last
