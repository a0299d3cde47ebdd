use Rattle.std.proofs.Common.{◌<◌, true, false, length, refl, sym, subst, arith}
use Rattle.vm_marks.specs.Marks.{MarkState}
use Rattle.vm_marks.specs.Kept.{IsAt, IsBetween}
use Rattle.vm_marks.proofs.MarkLemmas.{marks_rise, found_flag, missing_flag, unmark_kept, mark_kept, room_kept, same_kept, below_count}
use Rattle.vm_marks.proofs.marks.Marks.set.Goals as goal

pub place_of-requires : goal.place_of-requires
place_of-requires c = rw c.deref.ensures.value (marks_rise c.self.inside.count c.self.inside.marked.items c.self.invariant.0)

pub invariant_of-self : goal.invariant_of-self
invariant_of-self c =
    let ms = c.self.inside.marked.items in
    let at : IsAt ms c.args.number c.in-Ok.place = rw (← c.deref.ensures.value) c.in-Ok.ensures in
    (rw c.remove.ensures.items (unmark_kept c.self.inside.count ms c.args.number c.in-Ok.place c.self.invariant.0 at).1, rw c.remove.ensures.capacity c.self.invariant.1)

pub insert_reserved-requires-clause-place : goal.insert_reserved-requires-clause-place
insert_reserved-requires-clause-place c = rw (← c.deref.ensures.len) c.in-Err.ensures.0

pub insert_reserved-requires-clause-room : goal.insert_reserved-requires-clause-room
insert_reserved-requires-clause-room c =
    let ms = c.self.inside.marked.items in
    let P : MarkState → Type 0 = λ m. c.args.number < length m.flags in
    let below = below_count c.self.inside.count ms c.args.number (subst P (sym c.self.view_is) c.requires) in
    let between : IsBetween ms c.args.number c.in-Err.place = rw (← c.deref.ensures.value) c.in-Err.ensures in
    let fewer = room_kept c.self.inside.count ms c.args.number c.in-Err.place c.self.invariant.0 below between in
    let room = c.self.invariant.1 in
    omega (arith, fewer, room)

pub invariant_of-self-then-marked : goal.invariant_of-self-then-marked
invariant_of-self-then-marked c =
    let ms = c.self.inside.marked.items in
    let P : MarkState → Type 0 = λ m. c.args.number < length m.flags in
    let below = below_count c.self.inside.count ms c.args.number (subst P (sym c.self.view_is) c.requires) in
    let between : IsBetween ms c.args.number c.in-Err.place = rw (← c.deref.ensures.value) c.in-Err.ensures in
    let kept = mark_kept c.self.inside.count ms c.args.number c.in-Err.place c.self.invariant.0 below between in
    (rw c.insert_reserved.ensures.items kept.1, rw c.insert_reserved.ensures.capacity c.self.invariant.1)

pub returns-then-not-marked : goal.returns-then-not-marked
returns-then-not-marked c =
    let ms = c.self.inside.marked.items in
    let at : IsAt ms c.args.number c.in-Ok.place = rw (← c.deref.ensures.value) c.in-Ok.ensures in
    let kept = unmark_kept c.self.inside.count ms c.args.number c.in-Ok.place c.self.invariant.0 at in
    rw (← c.self.view_is, c.if-not-marked.true, c.remove.ensures.items, c.remove.ensures.capacity, kept.0) refl

pub returns-else-not-marked : goal.returns-else-not-marked
returns-else-not-marked c =
    let ms = c.self.inside.marked.items in
    let P : MarkState → Type 0 = λ m. c.args.number < length m.flags in
    let below = below_count c.self.inside.count ms c.args.number (subst P (sym c.self.view_is) c.requires) in
    let at : IsAt ms c.args.number c.in-Ok.place = rw (← c.deref.ensures.value) c.in-Ok.ensures in
    let is = found_flag c.self.inside.count ms c.args.number c.in-Ok.place c.self.invariant.0 at in
    let same = same_kept c.self.inside.count ms c.args.number true below is in
    rw (← c.self.view_is, c.if-not-marked.false, ← same) refl

pub returns-then-marked : goal.returns-then-marked
returns-then-marked c =
    let ms = c.self.inside.marked.items in
    let P : MarkState → Type 0 = λ m. c.args.number < length m.flags in
    let below = below_count c.self.inside.count ms c.args.number (subst P (sym c.self.view_is) c.requires) in
    let between : IsBetween ms c.args.number c.in-Err.place = rw (← c.deref.ensures.value) c.in-Err.ensures in
    let kept = mark_kept c.self.inside.count ms c.args.number c.in-Err.place c.self.invariant.0 below between in
    rw (← c.self.view_is, c.if-marked.true, c.insert_reserved.ensures.items, c.insert_reserved.ensures.capacity, kept.0) refl

pub returns-else-marked : goal.returns-else-marked
returns-else-marked c =
    let ms = c.self.inside.marked.items in
    let P : MarkState → Type 0 = λ m. c.args.number < length m.flags in
    let below = below_count c.self.inside.count ms c.args.number (subst P (sym c.self.view_is) c.requires) in
    let between : IsBetween ms c.args.number c.in-Err.place = rw (← c.deref.ensures.value) c.in-Err.ensures in
    let is = missing_flag c.self.inside.count ms c.args.number c.in-Err.place c.self.invariant.0 between in
    let same = same_kept c.self.inside.count ms c.args.number false below is in
    rw (← c.self.view_is, c.if-marked.false, ← same) refl
