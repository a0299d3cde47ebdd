use Rattle.std.proofs.Common.{◌∙◌, ap}
use Rattle.vm_local.specs.State.{LocalState}
use Rattle.vm_local.specs.Calls.{row_of}
use Rattle.vm_local.proofs.WithoutBytesLemmas.{same_waits}
use Rattle.vm_local.proofs.record.Record.waits.Goals as goal

pub returns : goal.returns
returns c s shown line addr =
    c.row_waits.ensures line addr ∙ (ap (λ (r : LocalState). (row_of r line addr c.args.call.now).waits) shown ∙ same_waits s line addr c.args.call.now)
