use Rattle.std.proofs.lemmas.List.Sorted.{searched}
use Rattle.vm_marks.proofs.marks.place_of.Goals as goal

pub returns : goal.returns
returns c = searched c.args.marked.now c.args.number c.binary_search.result c.binary_search.ensures.position c.requires
