use Rattle.std.proofs.Common.{◌≡◌, true, nat_lt, length, sym, ap, subst, refl, ◌∙◌}
use Rattle.vm_carrier.specs.Carrier.{StayInPages}
use Rattle.vm_link.specs.Queue.{Queue, queue_at}
use Rattle.vm_link.specs.declared.link.QueueId.TheVariants.{Event}
use Rattle.vm_link.specs.declared.link.Turn.TheVariants.{Did}
use Rattle.vm_link.proofs.QueueLemmas.{taken_is_out}
use Rattle.vm_host.specs.Host.{HostState}
use Rattle.vm_host.specs.Steps.{Announces, IsReadyForEvent}
use Rattle.vm_host.proofs.ServeLemmas.{chain_fits, event_walked, announced}
use Rattle.vm_host.proofs.host.Host.announce.Goals as goal

pub tell-used-requires-clause-stay : goal.tell-used-requires-clause-stay
tell-used-requires-clause-stay g c =
    let h : HostState = record { device = c.self.inside.device; waiting = c.self.inside.waiting.items } in
    let q : Queue = queue_at Event (g.L.Link.queues c.args.link.now) in
    let unsent : nat_lt 0 (length h.device.unsent) ≡ true = sym c.has_unsent.ensures ∙ c.if-not-has_unsent.false in
    let ready = subst (λ (x : HostState). IsReadyForEvent x q.waiting) (sym c.self.view_is) c.requires.chain in
    let walked = event_walked q (queue_at Event (g.L.Link.queues c.take.new.self)) c.self.inside.chain c.take.new.chain c.in-Some.taken h c.self.invariant.2 c.in-Some.ensures.taken ready unsent in
    subst StayInPages (sym c.descs.ensures) (chain_fits c.in-Some.taken.parcel c.take.new.chain.descs walked).1

pub finish-requires : goal.finish-requires
finish-requires g c =
    taken_is_out (queue_at Event (g.L.Link.queues c.args.link.now)) c.self.inside.chain c.in-Some.taken (queue_at Event (g.L.Link.queues c.take.new.self)) c.take.new.chain c.in-Some.ensures.taken

pub returns-clause-announces : goal.returns-clause-announces
returns-clause-announces g c =
    let h : HostState = record { device = c.self.inside.device; waiting = c.self.inside.waiting.items } in
    let q : Queue = queue_at Event (g.L.Link.queues c.args.link.now) in
    let unsent : nat_lt 0 (length h.device.unsent) ≡ true = sym c.has_unsent.ensures ∙ c.if-not-has_unsent.false in
    let ready = subst (λ (x : HostState). IsReadyForEvent x q.waiting) (sym c.self.view_is) c.requires.chain in
    let told = c.tell-used.ensures in
    subst (λ (x : HostState). Announces x q Did (record { device = c.tell-used.new.device; waiting = c.self.inside.waiting.items }) (queue_at Event (g.L.Link.queues c.finish.new.self))) c.self.view_is (
    announced q (queue_at Event (g.L.Link.queues c.take.new.self)) (queue_at Event (g.L.Link.queues c.finish.new.self)) c.self.inside.chain c.take.new.chain c.in-Some.taken h c.descs.result.now
    c.tell-used.new.device c.tell-used.result c.tell-used.new.parcel (record { head = c.in-Some.taken.head; used = c.tell-used.result; parcel = c.tell-used.new.parcel })
    told.0 told.1 c.self.invariant.2 c.in-Some.ensures.taken ready unsent c.descs.ensures told.2 told.3 told.4 refl (ap (queue_at Event) c.finish.ensures))
