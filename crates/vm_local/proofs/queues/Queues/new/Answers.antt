use Rattle.v4l_rules.proofs.ModelLemmas.{types_most}
use Rattle.vm_local.proofs.queues.Queues.new.Goals as goal

pub begun-requires : goal.begun-requires
begun-requires c = rw c.queues.ensures (types_most c.args.model)
