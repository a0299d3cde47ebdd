use Rattle.vm_link.specs.Queue.{queue_at}
use Rattle.vm_link.proofs.QueueLemmas.{taken_is_out}
use Rattle.vm_split.specs.Link.{queues_of}
use Rattle.vm_split.proofs.tests.serve.Goals as goal

pub finish-requires : goal.finish-requires
finish-requires c =
    taken_is_out (queue_at c.args.q (queues_of c.args.link.now)) c.args.chain.now c.in-Some.taken (queue_at c.args.q (queues_of c.take.new.self)) c.take.new.chain c.in-Some.ensures.taken
