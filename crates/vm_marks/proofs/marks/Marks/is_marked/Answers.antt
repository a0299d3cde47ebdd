use Rattle.vm_marks.proofs.MarkLemmas.{marks_rise, found_or_not}
use Rattle.vm_marks.proofs.marks.Marks.is_marked.Goals as goal

pub place_of-requires : goal.place_of-requires
place_of-requires c = rw c.deref.ensures.value (marks_rise c.self.inside.count c.self.inside.marked.items c.self.invariant.0)

pub returns : goal.returns
returns c =
    let ms = c.self.inside.marked.items in
    let found = c.place_of.ensures in
    rw (← c.self.view_is, c.is_ok.ensures.value) (found_or_not c.self.inside.count ms c.args.number c.place_of.result c.self.invariant.0 (rw (← c.deref.ensures.value) found))
