use Rattle.std.proofs.Common.{◌≡◌, ℕ, List, length, Option, ap, sym, ◌∙◌, subst}
use Rattle.vm_link.specs.Queue.{free_count}
use Rattle.vm_split.specs.Kept.{Kept}
use Rattle.vm_split.specs.Owners.{free_places}
use Rattle.vm_split.specs.Stands.{SplitState}
use Rattle.vm_split.proofs.KeptLemmas.{free_is}
use Rattle.vm_split.proofs.split_queue.SplitQueue.free.Goals as goal

pub returns : goal.returns
returns c =
    let k : Kept = record { size = c.self.inside.ring.size; contents = c.self.inside.ring.contents; taken = c.self.inside.taken; collected = c.self.inside.collected; owners = c.self.inside.owners.items; parcels = c.self.inside.parcels.items; out = c.self.inside.out.items } in
    subst (λ (s : SplitState). c.count_free.result ≡ free_count s.queue) c.self.view_is
    (c.count_free.ensures ∙ (ap (λ (os : List (Option ℕ)). length (free_places os)) c.as_slice.ensures.value ∙ sym (free_is k c.self.invariant.0)))
