use Rattle.vm_link.specs.Queue.{Queues}
use Rattle.vm_guest.proofs.EventTakenLemmas.{first_back, back_pages, back_few, back_spells, back_postable, back_room, can_take, pumped}
use Rattle.vm_guest.proofs.guest.Guest.pump.Goals as goal

pub open_event-chain-requires-clause-page : goal.open_event-chain-requires-clause-page
open_event-chain-requires-clause-page g c =
    let q : Queues = g.L.Link.queues c.args.link.now in
    back_pages q c.in-Some.done c.args.self.now (first_back q c.in-Some.done c.args.self.now c.in-Some.ensures.done c.requires)

pub open_event-chain-requires-clause-brings : goal.open_event-chain-requires-clause-brings
open_event-chain-requires-clause-brings g c =
    let q : Queues = g.L.Link.queues c.args.link.now in
    back_spells q c.in-Some.done c.args.self.now (first_back q c.in-Some.done c.args.self.now c.in-Some.ensures.done c.requires)

pub open_event-chain-requires-clause-held : goal.open_event-chain-requires-clause-held
open_event-chain-requires-clause-held g c =
    let q : Queues = g.L.Link.queues c.args.link.now in
    back_few q c.in-Some.done c.args.self.now (first_back q c.in-Some.done c.args.self.now c.in-Some.ensures.done c.requires)

pub take_event-requires : goal.take_event-requires
take_event-requires g c =
    let q : Queues = g.L.Link.queues c.args.link.now in
    let b = first_back q c.in-Some.done c.args.self.now c.in-Some.ensures.done c.requires in
    can_take q c.in-Some.done c.args.self.now _ b c.open_event-chain.ensures.event

pub post-requires-clause-postable : goal.post-requires-clause-postable
post-requires-clause-postable g c =
    let q : Queues = g.L.Link.queues c.args.link.now in
    let b = first_back q c.in-Some.done c.args.self.now c.in-Some.ensures.done c.requires in
    back_postable q c.in-Some.done c.args.self.now _ b c.open_event-chain.ensures.chain

pub post-requires-clause-room : goal.post-requires-clause-room
post-requires-clause-room g c =
    let q : Queues = g.L.Link.queues c.args.link.now in
    let b = first_back q c.in-Some.done c.args.self.now c.in-Some.ensures.done c.requires in
    back_room q _ c.in-Some.done c.args.self.now _ b c.open_event-chain.ensures.chain c.in-Some.ensures.queues c.in-Some.ensures.fits

pub returns-clause-pumps : goal.returns-clause-pumps
returns-clause-pumps g c =
    let q : Queues = g.L.Link.queues c.args.link.now in
    let b = first_back q c.in-Some.done c.args.self.now c.in-Some.ensures.done c.requires in
    pumped q _ _ c.in-Some.done c.args.self.now _ _ _ b c.open_event-chain.ensures.event c.open_event-chain.ensures.chain c.take_event.ensures.takes c.in-Some.ensures.queues c.post.ensures
