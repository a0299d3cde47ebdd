use Rattle.std.proofs.Common.{arith}
use Rattle.std.proofs.lemmas.Grind.{common_steps}
use Rattle.vm_marks.proofs.MarkLemmas.{pushed_kept}
use Rattle.vm_marks.proofs.marks.Marks.push.Goals as goal

pub invariant_of-self : goal.invariant_of-self
invariant_of-self c =
    let view = c.self.view_is in
    let room = c.requires in
    let all = c.self.invariant.1 in
    let kept = pushed_kept c.self.inside.count c.self.inside.marked.items c.self.invariant.0 in
    (kept.1, grind (arith, common_steps))

pub returns : goal.returns
returns c =
    let kept = pushed_kept c.self.inside.count c.self.inside.marked.items c.self.invariant.0 in
    rw (← c.self.view_is, kept.0) (grind (arith, common_steps))
