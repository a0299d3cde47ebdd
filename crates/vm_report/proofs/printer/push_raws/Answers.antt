use Rattle.std.proofs.Common.{sym, ◌∙◌}
use Rattle.vm_report.proofs.PrinterLemmas.{none_own}
use Rattle.vm_report.proofs.printer.push_raws.Goals as goal

pub returns-then-not-has_raws-clause-fits : goal.returns-then-not-has_raws-clause-fits
returns-then-not-has_raws-clause-fits c = none_own c.args.process c.args.raws.now (sym c.has_raws.ensures ∙ c.if-not-has_raws.true)
