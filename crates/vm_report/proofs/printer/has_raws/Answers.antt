use Rattle.std.proofs.Common.{rules, tests, sym, ◌∙◌}
use Rattle.std.specs.Prelude.{◌==◌}
use Rattle.std.proofs.lemmas.Iterator.{YieldsList-from_slice}
use Rattle.std.proofs.lemmas.Iterator.Search.{any_from_yields_List}
use Rattle.vm_report.proofs.PrinterLemmas.{any_own}
use Rattle.vm_report.proofs.printer.has_raws.Goals as goal

pub returns : goal.returns
returns c =
    any_from_yields_List (λ r. r.process == c.args.process) _ _ _ c.any.ensures.ran (YieldsList-from_slice c.args.raws.now cc) (λ x b q k. search (rules, tests)) ∙
    sym (any_own c.args.process c.args.raws.now)
