use Rattle.std.proofs.Common.{sym, ap, ◌∙◌, arith}
use Rattle.vm_count.proofs.Keeps.{looks}
use Rattle.vm_count.proofs.count.Count.load.Goals as goal

pub load-requires : goal.load-requires
load-requires g c =
    let by = c.by.inside.seat in
    let table = c.self.inside.table.shared in (
      ap (λ p. p.table) c.by.view_is ∙ (c.requires.count ∙ sym c.self.view_is),
      (let w = c.self.invariant in omega (arith, w)),
      looks table.table_id.slots by.id table.key by.me,
    )
