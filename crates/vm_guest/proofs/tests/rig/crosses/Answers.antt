use Rattle.std.proofs.Common.{sym, ◌∙◌}
use Rattle.vm_guest.proofs.ByHandLemmas.{crosses_open}
use Rattle.vm_guest.proofs.tests.rig.crosses.Goals as goal

pub returns : goal.returns
returns c = λ some. crosses_open c.args.handle.now c.command.result c.command.ensures.asks (sym c.is_some.ensures ∙ some)
