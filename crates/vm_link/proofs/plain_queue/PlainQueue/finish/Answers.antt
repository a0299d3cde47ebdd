use Rattle.std.proofs.Common.{◌≡◌, ◌++◌, ◌∷◌, [], Contains, subst, sym, arith}
use Rattle.std.proofs.lemmas.Grind.{common_steps}
use Rattle.vm_link.specs.declared.chains.DoneChain.{DoneChain}
use Rattle.vm_link.specs.Queue.{Queue, out_heads, count_at}
use Rattle.vm_link.proofs.SoundLemmas.{finished_sound}
use Rattle.vm_link.proofs.plain_queue.PlainQueue.finish.Goals as goal

pub invariant_of-self : goal.invariant_of-self
invariant_of-self c =
    let q : Queue = record { size = c.self.inside.size; waiting = c.self.inside.waiting.items; out = c.self.inside.out.items; done = c.self.inside.done.items } in
    let there : Contains (out_heads q) c.args.done.head = subst (λ q. Contains (out_heads q) c.args.done.head) (sym c.self.view_is) c.requires in
    let sound = finished_sound c.self.inside.free_heads.items q c.args.done c.self.invariant.0 there in
    let chain : DoneChain = record { finished = c.args.done; count = count_at c.args.done.head q.out } in
    let pushed : c.push_back.new.self.items ≡ q.done ++ chain ∷ [] = grind (arith, common_steps) in
    let roomy = c.self.invariant.1 in
    (rw (c.remove.ensures.list, pushed) sound, record { free = roomy.free; waiting = roomy.waiting; out = grind (arith, common_steps); done = grind (arith, common_steps) })
