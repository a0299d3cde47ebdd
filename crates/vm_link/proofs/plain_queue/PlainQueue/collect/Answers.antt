use Rattle.std.proofs.Common.{arith}
use Rattle.std.proofs.lemmas.Grind.{common_steps}
use Rattle.vm_link.specs.Queue.{Queue}
use Rattle.vm_link.proofs.SoundLemmas.{collected_sound}
use Rattle.vm_link.proofs.plain_queue.PlainQueue.collect.Goals as goal

pub invariant_of-self-2 : goal.invariant_of-self-2
invariant_of-self-2 c =
    let q : Queue = record { size = c.self.inside.size; waiting = c.self.inside.waiting.items; out = c.self.inside.out.items; done = c.self.inside.done.items } in
    let sound = collected_sound c.self.inside.free_heads.items q c.in_ok-chain.chain c.pop_front.new.self.items c.self.invariant.0 c.in_ok-chain.ensures.items in
    let roomy = c.self.invariant.1 in
    (rw c.push_reserved.ensures.items sound, record { free = grind (arith, common_steps); waiting = roomy.waiting; out = roomy.out; done = grind (arith, common_steps) })
