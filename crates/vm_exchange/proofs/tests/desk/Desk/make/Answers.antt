use Rattle.std.proofs.Common.{◌∙◌, sym, ap, subst}
use Rattle.vm_local.specs.State.{LocalState}
use Rattle.vm_local.specs.Record.{without_bytes}
use Rattle.vm_exchange.specs.Range.{IsInRange}
use Rattle.vm_exchange.proofs.RangeLemmas.{opening_in_range}
use Rattle.vm_exchange.proofs.tests.desk.Desk.make.Goals as goal

pub invariant_of-result : goal.invariant_of-result
invariant_of-result c =
    (c.in_ok-kept.ensures ∙ ap (λ (s : LocalState). without_bytes s) (sym c.new.ensures), subst IsInRange (sym c.new.ensures) (opening_in_range c.args.model))
