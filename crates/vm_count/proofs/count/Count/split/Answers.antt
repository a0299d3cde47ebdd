use Rattle.std.proofs.Common.{sym, ap, ◌∙◌, arith}
use Rattle.vm_count.proofs.Keeps.{splits}
use Rattle.vm_count.proofs.count.Count.split.Goals as goal

pub split_seat-requires : goal.split_seat-requires
split_seat-requires g c =
    let by = c.by.inside.seat in (
      ap (λ p. p.table) c.by.view_is ∙ (c.requires.count ∙ sym c.self.view_is),
      (let w = c.self.invariant in omega (arith, w)),
      splits by.id c.self.inside.table.shared.key by.me.0,
    )
