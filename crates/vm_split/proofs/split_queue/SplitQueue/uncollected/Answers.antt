use Rattle.std.proofs.Common.{◌≡◌, ◌-◌, ◌+◌, ◌%◌, length, sym, subst}
use Rattle.vm_split.specs.Kept.{Kept}
use Rattle.vm_split.specs.Stands.{SplitState}
use Rattle.vm_split.proofs.KeptLemmas.{done_length}
use Rattle.vm_split.proofs.split_queue.SplitQueue.uncollected.Goals as goal

pub returns : goal.returns
returns c =
    let k : Kept = record { size = c.self.inside.ring.size; contents = c.self.inside.ring.contents; taken = c.self.inside.taken; collected = c.self.inside.collected; owners = c.self.inside.owners.items; parcels = c.self.inside.parcels.items; out = c.self.inside.out.items } in
    subst (λ (s : SplitState). (c.used_index.result + (65536 - c.self.inside.collected)) % 65536 ≡ length s.queue.done) c.self.view_is
    (rw c.used_index.ensures (sym (done_length k)))
