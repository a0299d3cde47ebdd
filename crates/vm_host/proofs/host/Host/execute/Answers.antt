use Rattle.std.proofs.Common.{◌≡◌, ◌≤◌, vec_capacity, sym, ap, subst, refl, ◌∙◌, arith}
use Rattle.vm_chain.specs.Chain.{WalkedChain}
use Rattle.vm_link.specs.Queue.{Queue, queue_at}
use Rattle.vm_link.specs.declared.link.QueueId.TheVariants.{Command}
use Rattle.vm_link.specs.declared.link.Turn.TheVariants.{Did}
use Rattle.vm_link.proofs.QueueLemmas.{taken_is_out}
use Rattle.vm_device.specs.Perform.{EachMadeFew}
use Rattle.vm_host.specs.Host.{HostState, with_call}
use Rattle.vm_host.specs.Keeps.{IsSound}
use Rattle.vm_host.specs.Steps.{Executes, HasPlace, IsAlone}
use Rattle.vm_host.specs.declared.waiting.Waiting.{Waiting}
use Rattle.vm_host.proofs.GrowthLemmas.{grown_sound, grown_room}
use Rattle.vm_host.proofs.ServeLemmas.{walked_fits, taken_place, taken_room, served_grow, waited, waited_sound, waited_place, waited_device, executed_returns, executed_waits}
use Rattle.vm_host.proofs.host.Host.execute.Goals as goal

pub serve-requires-clause-fits : goal.serve-requires-clause-fits
serve-requires-clause-fits g c =
    walked_fits (queue_at Command (g.L.Link.queues c.args.link.now)) (queue_at Command (g.L.Link.queues c.take.new.self)) c.self.inside.chain c.take.new.chain c.in-Some.taken c.self.invariant.2 c.in-Some.ensures.taken

pub serve-requires-clause-place : goal.serve-requires-clause-place
serve-requires-clause-place g c =
    taken_place c.self.inside.device (queue_at Command (g.L.Link.queues c.args.link.now)) (queue_at Command (g.L.Link.queues c.take.new.self)) c.self.inside.chain c.take.new.chain c.in-Some.taken c.self.invariant.2 c.in-Some.ensures.taken
    (subst (λ (h : HostState). HasPlace h.device (queue_at Command (g.L.Link.queues c.args.link.now)).waiting) (sym c.self.view_is) c.requires.place)

pub serve-requires-clause-held : goal.serve-requires-clause-held
serve-requires-clause-held g c =
    taken_room (queue_at Command (g.L.Link.queues c.args.link.now)) (queue_at Command (g.L.Link.queues c.take.new.self)) c.self.inside.chain c.take.new.chain c.in-Some.taken c.self.invariant.2 c.in-Some.ensures.taken c.requires.room

pub serve-requires-clause-frames : goal.serve-requires-clause-frames
serve-requires-clause-frames g c = subst (λ (h : HostState). EachMadeFew h.device) (sym c.self.view_is) c.requires.frames

pub finish-requires : goal.finish-requires
finish-requires g c =
    taken_is_out (queue_at Command (g.L.Link.queues c.args.link.now)) c.self.inside.chain c.in-Some.taken (queue_at Command (g.L.Link.queues c.take.new.self)) c.take.new.chain c.in-Some.ensures.taken

pub invariant_of-self-in-Returns : goal.invariant_of-self-in-Returns
invariant_of-self-in-Returns g c =
    let grows =
    served_grow (queue_at Command (g.L.Link.queues c.args.link.now)) (queue_at Command (g.L.Link.queues c.take.new.self)) c.self.inside.chain c.take.new.chain c.in-Some.taken c.self.inside.device c.serve.new.device c.in-Returns.used c.serve.new.parcel
    c.self.invariant.2 c.in-Some.ensures.taken
    (subst (λ (h : HostState). HasPlace h.device (queue_at Command (g.L.Link.queues c.args.link.now)).waiting) (sym c.self.view_is) c.requires.place) c.in-Returns.ensures.served in
    let roomy : 262144 ≤ vec_capacity c.serve.new.bytes = (let before = c.self.invariant.4 in let after = c.in-Returns.ensures.room in omega (arith, before, after)) in (
      grown_sound c.self.inside.device c.serve.new.device c.self.inside.waiting.items c.self.invariant.0 grows,
      grown_room c.self.inside.device c.serve.new.device (vec_capacity c.self.inside.waiting) c.self.invariant.1 grows,
      ap (λ (x : WalkedChain). x.limit) c.in-Some.ensures.taken.chain ∙ c.self.invariant.2,
      c.self.invariant.3,
      roomy,
    )

pub put_call-requires : goal.put_call-requires
put_call-requires g c =
    let h : HostState = record { device = c.self.inside.device; waiting = c.self.inside.waiting.items } in
    let call : Waiting = record { session = c.in-Waits.session; head = c.in-Some.taken.head; parcel = c.serve.new.parcel } in
    let h' : HostState = record { device = c.serve.new.device; waiting = with_call call h.waiting } in
    let q : Queue = queue_at Command (g.L.Link.queues c.args.link.now) in
    let q1 : Queue = queue_at Command (g.L.Link.queues c.take.new.self) in
    let began =
    waited q q1 c.self.inside.chain c.take.new.chain c.in-Some.taken c.self.inside.device c.serve.new.device h.waiting c.in-Waits.session c.serve.new.parcel
    c.self.invariant.2 c.in-Some.ensures.taken c.in-Waits.ensures.served in
    let sound : IsSound h' =
    waited_sound q q1 c.self.inside.chain c.take.new.chain c.in-Some.taken h h' c.in-Some.ensures.taken
    (subst (λ (x : HostState). IsAlone x q.waiting) (sym c.self.view_is) c.requires.alone) c.requires.room c.self.invariant.0 began in
    let same : h'.device ≡ h.device = waited_device _ h h' _ _ began in
    let enough : h'.device.opens ≤ vec_capacity c.self.inside.waiting = subst (λ d. d.opens ≤ vec_capacity c.self.inside.waiting) (sym same) c.self.invariant.1 in
    waited_place h' call h.waiting (vec_capacity c.self.inside.waiting) refl sound enough

pub invariant_of-self-in-Waits : goal.invariant_of-self-in-Waits
invariant_of-self-in-Waits g c =
    let h : HostState = record { device = c.self.inside.device; waiting = c.self.inside.waiting.items } in
    let call : Waiting = record { session = c.in-Waits.session; head = c.in-Some.taken.head; parcel = c.serve.new.parcel } in
    let h' : HostState = record { device = c.serve.new.device; waiting = with_call call h.waiting } in
    let q : Queue = queue_at Command (g.L.Link.queues c.args.link.now) in
    let q1 : Queue = queue_at Command (g.L.Link.queues c.take.new.self) in
    let began =
    waited q q1 c.self.inside.chain c.take.new.chain c.in-Some.taken c.self.inside.device c.serve.new.device h.waiting c.in-Waits.session c.serve.new.parcel
    c.self.invariant.2 c.in-Some.ensures.taken c.in-Waits.ensures.served in
    let sound : IsSound h' =
    waited_sound q q1 c.self.inside.chain c.take.new.chain c.in-Some.taken h h' c.in-Some.ensures.taken
    (subst (λ (x : HostState). IsAlone x q.waiting) (sym c.self.view_is) c.requires.alone) c.requires.room c.self.invariant.0 began in
    let same : h'.device ≡ h.device = waited_device _ h h' _ _ began in
    let enough : h'.device.opens ≤ vec_capacity c.self.inside.waiting = subst (λ d. d.opens ≤ vec_capacity c.self.inside.waiting) (sym same) c.self.invariant.1 in
    let roomy : 262144 ≤ vec_capacity c.serve.new.bytes = (let before = c.self.invariant.4 in let after = c.in-Waits.ensures.room in omega (arith, before, after)) in (
      subst (λ ws. IsSound (record { device = c.serve.new.device; waiting = ws })) (sym c.put_call.ensures.calls) sound,
      subst (λ n. c.serve.new.device.opens ≤ n) (sym c.put_call.ensures.capacity) enough,
      ap (λ (x : WalkedChain). x.limit) c.in-Some.ensures.taken.chain ∙ c.self.invariant.2,
      c.self.invariant.3,
      roomy,
    )

pub returns-in-Returns-clause-executes : goal.returns-in-Returns-clause-executes
returns-in-Returns-clause-executes g c =
    let q : Queue = queue_at Command (g.L.Link.queues c.args.link.now) in
    let h : HostState = record { device = c.self.inside.device; waiting = c.self.inside.waiting.items } in
    let P : HostState → Type 0 = λ x. Executes q.waiting x q Did (record { device = c.serve.new.device; waiting = c.self.inside.waiting.items }) (queue_at Command (g.L.Link.queues c.finish.new.self)) in
    subst P c.self.view_is (
    executed_returns q (queue_at Command (g.L.Link.queues c.take.new.self)) (queue_at Command (g.L.Link.queues c.finish.new.self)) c.self.inside.chain c.take.new.chain c.in-Some.taken h
    c.serve.new.device c.in-Returns.used c.serve.new.parcel (record { head = c.in-Some.taken.head; used = c.in-Returns.used; parcel = c.serve.new.parcel }) c.self.invariant.2 c.in-Some.ensures.taken
    c.in-Returns.ensures.served refl (ap (queue_at Command) c.finish.ensures))

pub returns-in-Waits-clause-executes : goal.returns-in-Waits-clause-executes
returns-in-Waits-clause-executes g c =
    let q : Queue = queue_at Command (g.L.Link.queues c.args.link.now) in
    let q1 : Queue = queue_at Command (g.L.Link.queues c.take.new.self) in
    let h : HostState = record { device = c.self.inside.device; waiting = c.self.inside.waiting.items } in
    let P : HostState → Type 0 = λ x. Executes q.waiting x q Did (record { device = c.serve.new.device; waiting = c.put_call.new.calls.items }) q1 in
    let R : _ → Type 0 = λ ws. Executes q.waiting h q Did (record { device = c.serve.new.device; waiting = ws }) q1 in
    subst P c.self.view_is (subst R (sym c.put_call.ensures.calls) (
    executed_waits q q1 c.self.inside.chain c.take.new.chain c.in-Some.taken h c.serve.new.device c.in-Waits.session c.serve.new.parcel
    c.self.invariant.2 c.in-Some.ensures.taken c.in-Waits.ensures.served))
