use Rattle.std.proofs.Common.{arith}
use Rattle.vm_marks.proofs.MarkLemmas.{few_marks}
use Rattle.vm_marks.proofs.marks.Marks.reserve.Goals as goal

pub overflow_sub-spare : goal.overflow_sub-spare
overflow_sub-spare c = let few = few_marks c.self.inside.count c.self.inside.marked.items c.self.invariant.0 in let len = c.len.ensures in omega (arith, few, len)
