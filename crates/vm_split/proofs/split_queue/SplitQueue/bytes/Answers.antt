use Rattle.std.proofs.Common.{◌≡◌, ◌∙◌, length, ap, sym, subst}
use Rattle.vm_split.specs.Kept.{Kept}
use Rattle.vm_split.specs.Stands.{SplitState, StandsFor}
use Rattle.vm_split.proofs.StandsLemmas.{stands_for}
use Rattle.vm_split.proofs.split_queue.SplitQueue.bytes.Goals as goal

pub returns-clause-stands : goal.returns-clause-stands
returns-clause-stands c =
    let k : Kept = record { size = c.self.inside.ring.size; contents = c.self.inside.ring.contents; taken = c.self.inside.taken; collected = c.self.inside.collected; owners = c.self.inside.owners.items; parcels = c.self.inside.parcels.items; out = c.self.inside.out.items } in
    let page : length c.self.inside.ring.bytes ≡ 4096 = ap length (sym c.bytes.ensures.value) ∙ c.bytes.ensures.page in
    subst (λ (s : SplitState). StandsFor s) c.self.view_is (stands_for k c.self.inside.ring.bytes c.self.invariant.0 c.bytes.ensures.contents page)
