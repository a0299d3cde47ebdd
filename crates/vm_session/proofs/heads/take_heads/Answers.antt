use Rattle.vm_session.proofs.StreamLemmas.{ready_head}
use Rattle.vm_session.proofs.heads.take_heads.Goals as goal

pub unwrap-dst-requires : goal.unwrap-dst-requires
unwrap-dst-requires c =
    let some = ready_head c.args.model c.args.queues.now c.requires.all c.requires.ready in
    rw (c.pop_at.ensures.first, c.place_in.ensures, c.picture_queue.ensures, c.queues-types.ensures) some
