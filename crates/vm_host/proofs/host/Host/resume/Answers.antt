use Rattle.std.proofs.Common.{◌≡◌, ◌≤◌, true, Some, None, vec_capacity, sym, ap, subst, refl, ◌∙◌, arith}
use Rattle.vm_link.specs.Queue.{Queue, queue_at}
use Rattle.vm_link.specs.declared.link.QueueId.TheVariants.{Command}
use Rattle.vm_link.specs.declared.link.Turn.TheVariants.{Did, Idle}
use Rattle.vm_device.specs.Device.{session_of, is_at_rest}
use Rattle.vm_host.specs.Chains.{Sent}
use Rattle.vm_host.specs.Host.{HostState, waiting_for}
use Rattle.vm_host.specs.Keeps.{IsSound, CanGoOn}
use Rattle.vm_host.specs.Steps.{Resumes}
use Rattle.vm_host.proofs.GrowthLemmas.{grown_room}
use Rattle.vm_host.proofs.RiseLemmas.{waiting_found, found_named}
use Rattle.vm_host.proofs.ServeLemmas.{can_go_on, none_out, goes_grow, resumed_sound, resumed_call, resumed_none}
use Rattle.vm_host.proofs.host.Host.resume.Goals as goal

pub invariant_of-self : goal.invariant_of-self
invariant_of-self g c =
    let none : None ≡ waiting_for c.args.session c.self.inside.waiting.items = sym c.in_default.is ∙ c.take_call.ensures.call in
    let same = none_out c.args.session c.self.inside.waiting.items c.take_call.new.calls.items none c.take_call.ensures.rest in (
      subst (λ ws. IsSound (record { device = c.self.inside.device; waiting = ws })) (sym same) c.self.invariant.0,
      subst (λ n. c.self.inside.device.opens ≤ n) (sym c.take_call.ensures.capacity) c.self.invariant.1,
      c.self.invariant.2,
      c.self.invariant.3,
      c.self.invariant.4,
    )

pub returns-in_default-clause-resumes : goal.returns-in_default-clause-resumes
returns-in_default-clause-resumes g c =
    let h : HostState = record { device = c.self.inside.device; waiting = c.self.inside.waiting.items } in
    let h' : HostState = record { device = c.self.inside.device; waiting = c.take_call.new.calls.items } in
    let q : Queue = queue_at Command (g.L.Link.queues c.args.link.now) in
    let none : None ≡ waiting_for c.args.session h.waiting = sym c.in_default.is ∙ c.take_call.ensures.call in
    let same : h' ≡ h = ap (λ ws. record { device = c.self.inside.device; waiting = ws }) (none_out c.args.session h.waiting c.take_call.new.calls.items none c.take_call.ensures.rest) in
    let rest : is_at_rest (session_of h.device c.args.session) ≡ true = sym c.is_quiet.ensures ∙ c.if-not-is_quiet.false in
    subst (λ (x : HostState). Resumes c.args.session x q Idle h' q) c.self.view_is (resumed_none c.args.session h h' q q rest none same refl)

pub go_on-used-requires-clause-waited : goal.go_on-used-requires-clause-waited
go_on-used-requires-clause-waited g c =
    let found : Some c.in-Some.call ≡ waiting_for c.args.session c.self.inside.waiting.items = sym c.in-Some.is ∙ c.take_call.ensures.call in
    let named = found_named c.args.session c.self.inside.waiting.items c.in-Some.call (sym found) in
    let rest : is_at_rest (session_of c.self.inside.device c.args.session) ≡ true = sym c.is_quiet.ensures ∙ c.if-not-is_quiet.false in
    can_go_on c.self.inside.device c.in-Some.call (waiting_found c.args.session c.self.inside.waiting.items c.in-Some.call c.self.invariant.0.calls (sym found))
    (subst (λ n. is_at_rest (session_of c.self.inside.device n) ≡ true) (sym named) rest)

pub invariant_of-self-2 : goal.invariant_of-self-2
invariant_of-self-2 g c =
    let found : Some c.in-Some.call ≡ waiting_for c.args.session c.self.inside.waiting.items = sym c.in-Some.is ∙ c.take_call.ensures.call in
    let named = found_named c.args.session c.self.inside.waiting.items c.in-Some.call (sym found) in
    let rest : is_at_rest (session_of c.self.inside.device c.args.session) ≡ true = sym c.is_quiet.ensures ∙ c.if-not-is_quiet.false in
    let can : CanGoOn c.self.inside.device c.in-Some.call.parcel =
    can_go_on c.self.inside.device c.in-Some.call (waiting_found c.args.session c.self.inside.waiting.items c.in-Some.call c.self.invariant.0.calls (sym found))
    (subst (λ n. is_at_rest (session_of c.self.inside.device n) ≡ true) (sym named) rest) in
    let sent : Sent = record { used = c.go_on-used.result; parcel = c.go_on-used.new.parcel } in
    let grows = goes_grow c.self.inside.device c.go_on-used.new.device c.in-Some.call.parcel sent can c.go_on-used.ensures.completes in
    let sound = resumed_sound c.self.inside.device c.go_on-used.new.device c.args.session c.self.inside.waiting.items c.self.invariant.0 grows in
    let places : c.go_on-used.new.device.opens ≤ vec_capacity c.self.inside.waiting = grown_room c.self.inside.device c.go_on-used.new.device (vec_capacity c.self.inside.waiting) c.self.invariant.1 grows in
    let lists : 65 ≤ vec_capacity c.go_on-used.new.descs = (let before = c.self.invariant.3 in let same = c.go_on-used.ensures.descs_room in omega (arith, before, same)) in
    let roomy : 262144 ≤ vec_capacity c.go_on-used.new.bytes = (let before = c.self.invariant.4 in let after = c.go_on-used.ensures.room in omega (arith, before, after)) in (
      subst (λ ws. IsSound (record { device = c.go_on-used.new.device; waiting = ws })) (sym c.take_call.ensures.rest) sound,
      subst (λ n. c.go_on-used.new.device.opens ≤ n) (sym c.take_call.ensures.capacity) places,
      c.self.invariant.2,
      lists,
      roomy,
    )

pub returns-clause-resumes : goal.returns-clause-resumes
returns-clause-resumes g c =
    let h : HostState = record { device = c.self.inside.device; waiting = c.self.inside.waiting.items } in
    let q : Queue = queue_at Command (g.L.Link.queues c.args.link.now) in
    let q1 : Queue = queue_at Command (g.L.Link.queues c.finish.new.self) in
    let found : Some c.in-Some.call ≡ waiting_for c.args.session h.waiting = sym c.in-Some.is ∙ c.take_call.ensures.call in
    let rest : is_at_rest (session_of h.device c.args.session) ≡ true = sym c.is_quiet.ensures ∙ c.if-not-is_quiet.false in
    let sent : Sent = record { used = c.go_on-used.result; parcel = c.go_on-used.new.parcel } in
    let resumes = resumed_call c.args.session h q q1 c.in-Some.call c.go_on-used.new.device sent rest found c.go_on-used.ensures.completes (ap (queue_at Command) c.finish.ensures) in
    subst (λ (x : HostState). Resumes c.args.session x q Did (record { device = c.go_on-used.new.device; waiting = c.take_call.new.calls.items }) q1) c.self.view_is
    (subst (λ ws. Resumes c.args.session h q Did (record { device = c.go_on-used.new.device; waiting = ws }) q1) (sym c.take_call.ensures.rest) resumes)
