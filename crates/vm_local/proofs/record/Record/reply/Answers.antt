use Rattle.std.proofs.Common.{◌∙◌, ap}
use Rattle.vm_local.specs.State.{LocalState}
use Rattle.vm_local.specs.Calls.{row_of}
use Rattle.vm_local.proofs.WithoutBytesLemmas.{same_replies}
use Rattle.vm_local.proofs.record.Record.reply.Goals as goal

pub returns : goal.returns
returns c s line shown silent =
    c.row_reply.ensures line silent ∙ (ap (λ (r : LocalState). (row_of r line c.args.addr c.args.call.now).reply) shown ∙
    same_replies s line c.args.addr c.args.call.now silent)
