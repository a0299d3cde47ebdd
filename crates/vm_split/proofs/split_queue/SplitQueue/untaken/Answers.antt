use Rattle.std.proofs.Common.{◌≡◌, ◌-◌, ◌+◌, ◌%◌, length, sym, subst}
use Rattle.vm_split.specs.Kept.{Kept}
use Rattle.vm_split.specs.Stands.{SplitState}
use Rattle.vm_split.proofs.KeptLemmas.{waiting_length}
use Rattle.vm_split.proofs.split_queue.SplitQueue.untaken.Goals as goal

pub returns : goal.returns
returns c =
    let k : Kept = record { size = c.self.inside.ring.size; contents = c.self.inside.ring.contents; taken = c.self.inside.taken; collected = c.self.inside.collected; owners = c.self.inside.owners.items; parcels = c.self.inside.parcels.items; out = c.self.inside.out.items } in
    subst (λ (s : SplitState). (c.available_index.result + (65536 - c.self.inside.taken)) % 65536 ≡ length s.queue.waiting) c.self.view_is
    (rw c.available_index.ensures (sym (waiting_length k)))
