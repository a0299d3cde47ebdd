use Rattle.std.proofs.Common.{sym, ap, ◌∙◌, arith}
use Rattle.vm_count.proofs.Keeps.{joins, looks}
use Rattle.vm_count.proofs.count.Count.join.Goals as goal

pub join_seat-requires : goal.join_seat-requires
join_seat-requires g c =
    let by = c.by.inside.seat in
    let other = c.other.inside.seat in (
      ap (λ p. p.table) c.by.view_is ∙ (c.requires.count ∙ sym c.self.view_is),
      ap (λ p. p.table) c.other.view_is ∙ (c.requires.other ∙ sym c.self.view_is),
      c.other.invariant.0,
      (let w = c.self.invariant in omega (arith, w)),
      joins by.id c.self.inside.table.shared.key by.me.0 other.id other.me.0,
    )

pub load-requires : goal.load-requires
load-requires g c =
    let table = c.self.inside.table.shared in
    let joined = c.join_seat.new.seat in (
      c.join_seat.ensures.0 ∙ (ap (λ p. p.table) c.by.view_is ∙ (c.requires.count ∙ sym c.self.view_is)),
      (let w = c.self.invariant in omega (arith, w)),
      looks table.table_id.slots joined.id table.key joined.me,
    )
