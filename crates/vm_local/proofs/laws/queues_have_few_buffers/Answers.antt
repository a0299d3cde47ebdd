use Rattle.vm_local.proofs.FewLemmas.{few_buffers, few_queued, few_done}
use Rattle.vm_local.proofs.laws.queues_have_few_buffers.Goals as goal

pub returns : goal.returns
returns c = record { buffers = few_buffers; queued = few_queued; done = few_done }
