use Rattle.std.proofs.Common.{◌∙◌, ap}
use Rattle.v4l_rules.specs.Refusals.{first_refusal}
use Rattle.vm_local.specs.State.{LocalState}
use Rattle.vm_local.specs.Calls.{row_of}
use Rattle.vm_local.proofs.WithoutBytesLemmas.{same_refusals}
use Rattle.vm_local.proofs.record.Record.refusal.Goals as goal

pub returns : goal.returns
returns c s shown line addr =
    c.row_refusal.ensures line addr ∙ (ap (λ (r : LocalState). first_refusal (row_of r line addr c.args.call.now).refusals) shown ∙
    ap (λ rs. first_refusal rs) (same_refusals s line addr c.args.call.now))
