use Rattle.vm_world.proofs.OfferLemmas.{found_beginning, none_beginning}
use Rattle.vm_world.proofs.offers.begin_in_place.Goals as goal

pub returns-then-left-eq0 : goal.returns-then-left-eq0
returns-then-left-eq0 c =
    found_beginning c.args.host.now c.ready-session-items.result.now c.loop-session.session-index c.loop-session.left c.args.place c.can_begin.result
    c.loop-session-test.true c.can_begin.ensures c.if-can_begin.true c.if-left-eq0.true c.loop-session.invariant

pub returns : goal.returns
returns c =
    none_beginning c.args.host.now c.ready-session-items.result.now c.loop-session.session-index c.loop-session.left c.args.place c.loop-session-test.false c.loop-session.invariant
