use Rattle.std.proofs.Common.{◌≡◌, None, rules}
use Rattle.vm_frame.specs.Scatter.{scatter_fault}
use Rattle.vm_sg.proofs.SizeLemmas.{length-scatter_bytes}
use Rattle.vm_sg.proofs.wire.load.Goals as goal

pub returns-clause-size : goal.returns-clause-size
returns-clause-size c =
    let fine : scatter_fault c.replace.new.entries.items c.user.inside.pages.items ≡ None = search rules in
    rw (length-scatter_bytes c.replace.new.entries.items c.user.inside.pages.items c.user.invariant.0.whole fine) (search rules)
