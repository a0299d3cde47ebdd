use Rattle.std.proofs.Common.{◌≡◌, ◌<◌, ◌^◌, ℕ, rules, Some, length, sym, ap, subst, ◌∙◌}
use Rattle.vm_link.specs.Queue.{Queues}
use Rattle.vm_guest.specs.Guest.{GuestState, process_at, process_in}
use Rattle.vm_guest.specs.Orderly.{HasOrder, IsDriver}
use Rattle.vm_guest.specs.Process.{ProcessState, issuing}
use Rattle.vm_guest.specs.Queues.{HasRoomFor}
use Rattle.vm_guest.proofs.GuestLemmas.{driver_order, stands_in}
use Rattle.vm_guest.proofs.GuestStepLemmas.{can_issue_it, may_take, begins_here, issues_it, begun_at}
use Rattle.vm_guest.proofs.guest.Guest.issue.Goals as goal

pub take_events_if-requires : goal.take_events_if-requires
take_events_if-requires g c =
    let w : GuestState = c.args.self.now in
    let is : issuing (process_at w c.args.p) ≡ Some c.in-Some.statement =
    ap (λ (x : GuestState). issuing (process_at x c.args.p)) (sym c.self.view_is) ∙ (ap (λ xs. issuing (process_in xs c.args.p)) (sym c.deref.ensures.value) ∙ sym c.in-Some.ensures) in
    may_take c.args.p c.in-Some.statement w (g.L.Link.queues c.args.link.now) _ c.begins_with_events.ensures (can_issue_it c.args.p c.in-Some.statement w (g.L.Link.queues c.args.link.now) is c.requires)

pub index_mut-caller-requires : goal.index_mut-caller-requires
index_mut-caller-requires g c =
    let w : GuestState = c.args.self.now in
    let q : Queues = g.L.Link.queues c.args.link.now in
    let is : issuing (process_at w c.args.p) ≡ Some c.in-Some.statement =
    ap (λ (x : GuestState). issuing (process_at x c.args.p)) (sym c.self.view_is) ∙ (ap (λ xs. issuing (process_in xs c.args.p)) (sym c.deref.ensures.value) ∙ sym c.in-Some.ensures) in
    let here = begins_here c.args.p c.in-Some.statement w q c.take_events_if.new.self (g.L.Link.queues c.take_events_if.new.link) _ is (can_issue_it c.args.p c.in-Some.statement w q is c.requires) c.begins_with_events.ensures c.take_events_if.ensures.takes in
    let within : c.args.p < length c.self-2.inside.callers.items = subst (λ (x : GuestState). c.args.p < length x.processes) (sym c.self-2.view_is) here.within in
    subst (λ (n : ℕ). c.args.p < n) (sym c.self-2.inside.callers.ok.0) within

pub begin-requires-clause-orderly : goal.begin-requires-clause-orderly
begin-requires-clause-orderly g c =
    let w : GuestState = c.args.self.now in
    let q : Queues = g.L.Link.queues c.args.link.now in
    let is : issuing (process_at w c.args.p) ≡ Some c.in-Some.statement =
    ap (λ (x : GuestState). issuing (process_at x c.args.p)) (sym c.self.view_is) ∙ (ap (λ xs. issuing (process_in xs c.args.p)) (sym c.deref.ensures.value) ∙ sym c.in-Some.ensures) in
    let here = begins_here c.args.p c.in-Some.statement w q c.take_events_if.new.self (g.L.Link.queues c.take_events_if.new.link) _ is (can_issue_it c.args.p c.in-Some.statement w q is c.requires) c.begins_with_events.ensures c.take_events_if.ensures.takes in
    let g1 : GuestState = record { model = c.self-2.inside.model; processes = c.self-2.inside.callers.items; pump = c.self-2.inside.held; seats = c.self-2.inside.seats.items } in
    let there = stands_in g1 c.take_events_if.new.self c.args.p c.index_mut-caller.result.now c.self-2.view_is here.within c.index_mut-caller.ensures.value in
    let driver : IsDriver c.self-2.invariant.0 c.take_events_if.new.self = subst (λ (x : GuestState). IsDriver c.self-2.invariant.0 x) c.self-2.view_is c.self-2.invariant.1 in
    subst (λ (p : ProcessState). HasOrder p) there (driver_order c.self-2.invariant.0 c.take_events_if.new.self c.args.p driver here.within)

pub begin-requires-clause-issuing : goal.begin-requires-clause-issuing
begin-requires-clause-issuing g c =
    let w : GuestState = c.args.self.now in
    let q : Queues = g.L.Link.queues c.args.link.now in
    let is : issuing (process_at w c.args.p) ≡ Some c.in-Some.statement =
    ap (λ (x : GuestState). issuing (process_at x c.args.p)) (sym c.self.view_is) ∙ (ap (λ xs. issuing (process_in xs c.args.p)) (sym c.deref.ensures.value) ∙ sym c.in-Some.ensures) in
    let here = begins_here c.args.p c.in-Some.statement w q c.take_events_if.new.self (g.L.Link.queues c.take_events_if.new.link) _ is (can_issue_it c.args.p c.in-Some.statement w q is c.requires) c.begins_with_events.ensures c.take_events_if.ensures.takes in
    let g1 : GuestState = record { model = c.self-2.inside.model; processes = c.self-2.inside.callers.items; pump = c.self-2.inside.held; seats = c.self-2.inside.seats.items } in
    let there = stands_in g1 c.take_events_if.new.self c.args.p c.index_mut-caller.result.now c.self-2.view_is here.within c.index_mut-caller.ensures.value in
    ap issuing (sym there) ∙ here.issuing

pub begin-requires-clause-room : goal.begin-requires-clause-room
begin-requires-clause-room g c =
    let w : GuestState = c.args.self.now in
    let q : Queues = g.L.Link.queues c.args.link.now in
    let is : issuing (process_at w c.args.p) ≡ Some c.in-Some.statement =
    ap (λ (x : GuestState). issuing (process_at x c.args.p)) (sym c.self.view_is) ∙ (ap (λ xs. issuing (process_in xs c.args.p)) (sym c.deref.ensures.value) ∙ sym c.in-Some.ensures) in
    let here = begins_here c.args.p c.in-Some.statement w q c.take_events_if.new.self (g.L.Link.queues c.take_events_if.new.link) _ is (can_issue_it c.args.p c.in-Some.statement w q is c.requires) c.begins_with_events.ensures c.take_events_if.ensures.takes in
    let g1 : GuestState = record { model = c.self-2.inside.model; processes = c.self-2.inside.callers.items; pump = c.self-2.inside.held; seats = c.self-2.inside.seats.items } in
    let there = stands_in g1 c.take_events_if.new.self c.args.p c.index_mut-caller.result.now c.self-2.view_is here.within c.index_mut-caller.ensures.value in
    subst (λ (p : ProcessState). HasRoomFor p c.in-Some.statement.what (g.L.Link.queues c.take_events_if.new.link).command) there here.room

pub invariant_of-self : goal.invariant_of-self
invariant_of-self g c =
    let w : GuestState = c.args.self.now in
    let q : Queues = g.L.Link.queues c.args.link.now in
    let is : issuing (process_at w c.args.p) ≡ Some c.in-Some.statement =
    ap (λ (x : GuestState). issuing (process_at x c.args.p)) (sym c.self.view_is) ∙ (ap (λ xs. issuing (process_in xs c.args.p)) (sym c.deref.ensures.value) ∙ sym c.in-Some.ensures) in
    let here = begins_here c.args.p c.in-Some.statement w q c.take_events_if.new.self (g.L.Link.queues c.take_events_if.new.link) _ is (can_issue_it c.args.p c.in-Some.statement w q is c.requires) c.begins_with_events.ensures c.take_events_if.ensures.takes in
    let g1 : GuestState = record { model = c.self-2.inside.model; processes = c.self-2.inside.callers.items; pump = c.self-2.inside.held; seats = c.self-2.inside.seats.items } in
    let driver : IsDriver c.self-2.invariant.0 c.take_events_if.new.self = subst (λ (x : GuestState). IsDriver c.self-2.invariant.0 x) c.self-2.view_is c.self-2.invariant.1 in
    let short : c.in-Some.statement.line < 2 ^ 32 = search rules in
    (c.self-2.invariant.0, begun_at c.args.p c.in-Some.statement w q c.take_events_if.new.self (g.L.Link.queues c.take_events_if.new.link) c.self-2.invariant.0 g1 c.index_mut-caller.result.now c.begin.new.self _ here c.self-2.view_is driver c.index_mut-caller.ensures.value short c.begin.ensures.begins)

pub returns-clause-issues : goal.returns-clause-issues
returns-clause-issues g c =
    let w : GuestState = c.args.self.now in
    let q : Queues = g.L.Link.queues c.args.link.now in
    let is : issuing (process_at w c.args.p) ≡ Some c.in-Some.statement =
    ap (λ (x : GuestState). issuing (process_at x c.args.p)) (sym c.self.view_is) ∙ (ap (λ xs. issuing (process_in xs c.args.p)) (sym c.deref.ensures.value) ∙ sym c.in-Some.ensures) in
    let here = begins_here c.args.p c.in-Some.statement w q c.take_events_if.new.self (g.L.Link.queues c.take_events_if.new.link) _ is (can_issue_it c.args.p c.in-Some.statement w q is c.requires) c.begins_with_events.ensures c.take_events_if.ensures.takes in
    let g1 : GuestState = record { model = c.self-2.inside.model; processes = c.self-2.inside.callers.items; pump = c.self-2.inside.held; seats = c.self-2.inside.seats.items } in
    issues_it c.args.p c.in-Some.statement w q c.take_events_if.new.self (g.L.Link.queues c.take_events_if.new.link) c.self-2.invariant.0 g1 c.index_mut-caller.result.now c.begin.new.self (g.L.Link.queues c.begin.new.link) is here c.self-2.view_is c.self-2.invariant.1 c.index_mut-caller.ensures.value c.begin.ensures.begins c.begin.ensures.events

pub returns-clause-driver : goal.returns-clause-driver
returns-clause-driver g c = λ script driver.
    let w : GuestState = c.args.self.now in
    let q : Queues = g.L.Link.queues c.args.link.now in
    let is : issuing (process_at w c.args.p) ≡ Some c.in-Some.statement =
    ap (λ (x : GuestState). issuing (process_at x c.args.p)) (sym c.self.view_is) ∙ (ap (λ xs. issuing (process_in xs c.args.p)) (sym c.deref.ensures.value) ∙ sym c.in-Some.ensures) in
    let here = begins_here c.args.p c.in-Some.statement w q c.take_events_if.new.self (g.L.Link.queues c.take_events_if.new.link) _ is (can_issue_it c.args.p c.in-Some.statement w q is c.requires) c.begins_with_events.ensures c.take_events_if.ensures.takes in
    let g1 : GuestState = record { model = c.self-2.inside.model; processes = c.self-2.inside.callers.items; pump = c.self-2.inside.held; seats = c.self-2.inside.seats.items } in
    let short : c.in-Some.statement.line < 2 ^ 32 = search rules in
    begun_at c.args.p c.in-Some.statement w q c.take_events_if.new.self (g.L.Link.queues c.take_events_if.new.link) script g1 c.index_mut-caller.result.now c.begin.new.self _ here c.self-2.view_is (c.take_events_if.ensures.driver script driver) c.index_mut-caller.ensures.value short c.begin.ensures.begins
