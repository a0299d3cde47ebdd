use Rattle.std.proofs.Common.{◌≡◌}
use Rattle.vm_world.specs.Carried.{HasPosted}
use Rattle.vm_world.proofs.world.post_event_chains.Given as goal

-- as many chains wait, and the queue of commands stays
abbrev pub invariant-loop-k : goal.invariant-loop-k
invariant-loop-k g l =
    ((g.L.Link.queues l.link).command ≡ (g.L.Link.queues l.fn.link).command)
    × HasPosted l.k (g.L.Link.queues l.fn.link).event.size (g.L.Link.queues l.link).event
