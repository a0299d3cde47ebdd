use Rattle.std.proofs.Common.{sym, ◌∙◌}
use Rattle.vm_guest.proofs.EventReleaseLemmas.{releasing, can_release, released, fewer_left, all_released}
use Rattle.vm_guest.proofs.guest.release.Goals as goal

pub events-init : goal.events-init
events-init c = releasing c.args.session c.args.seat c.args.callers.now.items c.args.held.now c.requires.orderly c.requires.within c.requires.can

pub tell-requires-clause-orderly : goal.tell-requires-clause-orderly
tell-requires-clause-orderly c = c.events.invariant.orderly

pub tell-requires-clause-within : goal.tell-requires-clause-within
tell-requires-clause-within c = c.events.invariant.within

pub tell-requires-clause-can : goal.tell-requires-clause-can
tell-requires-clause-can c = can_release _ _ _ _ _ _ c.in-Some.event c.events.invariant c.in-Some.ensures.first

pub events-preserved : goal.events-preserved
events-preserved c = released _ _ _ _ _ _ c.in-Some.event _ _ c.events.invariant c.in-Some.ensures.first c.tell.ensures c.in-Some.ensures.rest

pub events-smaller : goal.events-smaller
events-smaller c = fewer_left _ _ c.in-Some.event _ c.in-Some.ensures.first c.in-Some.ensures.rest

pub returns-clause-told : goal.returns-clause-told
returns-clause-told c = (all_released _ _ _ _ _ _ c.release.new.self c.events.invariant (sym c.in_default.is ∙ c.release.ensures.first) c.release.ensures.rest).0

pub returns-clause-left : goal.returns-clause-left
returns-clause-left c = (all_released _ _ _ _ _ _ c.release.new.self c.events.invariant (sym c.in_default.is ∙ c.release.ensures.first) c.release.ensures.rest).1
