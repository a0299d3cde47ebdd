use Rattle.std.proofs.Common.{◌<◌, length, arith}
use Rattle.vm_link.specs.Queue.{Queues}
use Rattle.vm_guest.proofs.QueueLemmas.{leads_on, can_pump_first, pumped_on, leads_further, takes_all}
use Rattle.vm_guest.proofs.guest.Guest.take_events.Goals as goal

pub events-init : goal.events-init
events-init g c = record { leads = leads_on c.args.self.now (g.L.Link.queues c.args.link.now); can = c.requires; driver = λ script driver. driver }

pub pump-requires : goal.pump-requires
pump-requires g c = let can = c.events.invariant.can in can_pump_first _ c.events.self can.0 can.1

pub events-preserved : goal.events-preserved
events-preserved g c =
    let q : Queues = g.L.Link.queues c.events.link in
    let some : 0 < length q.event.done = omega (arith, c.uncollected.ensures, c.events-test.true) in
    let led = pumped_on c.events.self q _ _ _ some c.events.invariant.can c.pump.ensures.pumps in
    record {
      leads = leads_further c.args.self.now (g.L.Link.queues c.args.link.now) c.events.self q _ _ c.events.invariant.leads led.leads;
      can = led.can;
      driver = λ script driver. c.pump.ensures.driver script (c.events.invariant.driver script driver);
    }

pub events-smaller : goal.events-smaller
events-smaller g c =
    let q : Queues = g.L.Link.queues c.events.link in
    let some : 0 < length q.event.done = omega (arith, c.uncollected.ensures, c.events-test.true) in
    (pumped_on c.events.self q _ _ _ some c.events.invariant.can c.pump.ensures.pumps).fewer

pub returns-clause-takes : goal.returns-clause-takes
returns-clause-takes g c =
    takes_all c.args.self.now (g.L.Link.queues c.args.link.now) c.events.self (g.L.Link.queues c.events.link) c.events.invariant.leads (omega (arith, c.uncollected.ensures, c.events-test.false))
