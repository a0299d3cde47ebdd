use Rattle.std.proofs.Common.{None, sym, subst}
use Rattle.vm_log.specs.LegalLog.{LogState}
use Rattle.vm_handle.specs.declared.stage.Stage.TheVariants.{AtRest}
use Rattle.vm_handle.specs.Handle.{Keeps}
use Rattle.vm_handle.proofs.StartLemmas.{fresh_keeps}
use Rattle.vm_handle.proofs.handle.Handle.make.Goals as goal

pub invariant_of-result : goal.invariant_of-result
invariant_of-result c = subst (λ (l : LogState). Keeps l None AtRest) (sym c.in_ok-make.ensures) (fresh_keeps c.args.model c.args.lines)
