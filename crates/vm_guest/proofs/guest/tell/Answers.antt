use Rattle.vm_guest.proofs.GuestLemmas.{seat_order}
use Rattle.vm_guest.proofs.guest.tell.Goals as goal

pub deliver-requires-clause-orderly : goal.deliver-requires-clause-orderly
deliver-requires-clause-orderly c =
    seat_order c.args.callers.now.items c.args.seat c.index_mut-caller.result.now c.requires.orderly c.requires.within c.index_mut-caller.ensures.value
