use Rattle.std.proofs.Common.{length, refl, sym, ap, ◌∙◌, arith}
use Rattle.vm_count.proofs.Keeps.{appends}
use Rattle.vm_count.proofs.count.Count.add.Goals as goal

pub compare_exchange_with-requires : goal.compare_exchange_with-requires
compare_exchange_with-requires g c =
    let holder = c.holder.inside.seat in
    let table = c.self.inside.table.shared in
    let view = c.holder.view_is ∙ c.load-length.ensures.same in (
      ap (λ p. p.table) view ∙ (c.requires.count ∙ sym c.self.view_is),
      (let w = c.self.invariant in omega (arith, w)),
      appends table.table_id.slots holder.id table.key holder.me c.load-length.result c.args.entry.now
          (ap (λ p. p.holds) view ∙ c.requires.holder)
          (c.load-length.ensures.whole c.requires.holder ∙ sym (ap (λ p. length p.entries) view)),
    )

pub invariant_of-holder : goal.invariant_of-holder
invariant_of-holder g c =
    let i = c.holder.invariant in
    let added = c.compare_exchange_with.ensures.2 c.args.entry.now refl in (
      ap (λ m. m.1) added ∙ i.0,
      (
        (i.1.0.0, ap (λ m. m.0.fixed) added ∙ i.1.0.1),
        ap (λ m. m.0.met) added,
        ap (λ m. m.0.met_fixed) added,
      ),
    )
