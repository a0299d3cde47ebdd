use Rattle.std.proofs.Common.{arith}
use Rattle.vm_world.proofs.FirstLemmas.{has_room, posted_next}
use Rattle.vm_world.proofs.world.post_event_chains.Goals as goal

pub post-requires-clause-room : goal.post-requires-clause-room
post-requires-clause-room g c =
    has_room c.loop-k.k (g.L.Link.queues c.args.link.now).event.size c.loop-k.k (g.L.Link.queues c.loop-k.link).event c.in_ok-event_chain.field-0
    c.loop-k.invariant.1 (omega (arith, c.loop-k-test.true, c.requires.room)) c.in_ok-event_chain.ensures

pub loop-k-preserved : goal.loop-k-preserved
loop-k-preserved g c =
    posted_next c.loop-k.k (g.L.Link.queues c.args.link.now).event.size (g.L.Link.queues c.loop-k.link) (g.L.Link.queues c.post.new.self) c.in_ok-event_chain.field-0
    (g.L.Link.queues c.args.link.now).command c.loop-k.invariant (c.loop-k.k, c.in_ok-event_chain.ensures) c.post.ensures
