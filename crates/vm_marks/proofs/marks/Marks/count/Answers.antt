use Rattle.std.proofs.Common.{sym}
use Rattle.vm_marks.proofs.MarkLemmas.{length_flags}
use Rattle.vm_marks.proofs.marks.Marks.count.Goals as goal

pub returns : goal.returns
returns c = rw (← c.self.view_is) (sym (length_flags 0 c.self.inside.count c.self.inside.marked.items))
