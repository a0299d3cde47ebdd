use Rattle.std.proofs.Common.{◌≡◌, ◌<◌, ◌^◌, ℕ, Some, sym, subst, ap, ◌∙◌, rules}
use Rattle.vm_guest.specs.Guest.{GuestState, process_at, process_in}
use Rattle.vm_guest.specs.Orderly.{IsDriver, HasOrder}
use Rattle.vm_guest.specs.Process.{ProcessState, leasing}
use Rattle.vm_guest.proofs.GuestLemmas.{driver_order, read_process}
use Rattle.vm_guest.proofs.GuestLeaseLemmas.{leases_within, leases_there, leases_at, leases_is_driver}
use Rattle.vm_guest.proofs.guest.Guest.lease.Goals as goal

pub index_mut-caller-requires : goal.index_mut-caller-requires
index_mut-caller-requires c =
    let g : GuestState = record { model = c.self.inside.model; processes = c.self.inside.callers.items; pump = c.self.inside.held; seats = c.self.inside.seats.items } in
    let is : leasing (process_at c.args.self.now c.args.p) ≡ Some c.in-Some.asked =
    ap (λ (x : GuestState). leasing (process_at x c.args.p)) (sym c.self.view_is) ∙ (ap (λ xs. leasing (process_in xs c.args.p)) (sym c.deref.ensures.value) ∙ sym c.in-Some.ensures) in
    let within = leases_within c.args.p g c.args.self.now c.in-Some.asked c.self.view_is is in
    subst (λ (n : ℕ). c.args.p < n) (sym c.self.inside.callers.ok.0) within

pub lease-requires-clause-orderly : goal.lease-requires-clause-orderly
lease-requires-clause-orderly c =
    let g : GuestState = record { model = c.self.inside.model; processes = c.self.inside.callers.items; pump = c.self.inside.held; seats = c.self.inside.seats.items } in
    let is : leasing (process_at c.args.self.now c.args.p) ≡ Some c.in-Some.asked =
    ap (λ (x : GuestState). leasing (process_at x c.args.p)) (sym c.self.view_is) ∙ (ap (λ xs. leasing (process_in xs c.args.p)) (sym c.deref.ensures.value) ∙ sym c.in-Some.ensures) in
    let within = leases_within c.args.p g c.args.self.now c.in-Some.asked c.self.view_is is in
    subst (λ (p : ProcessState). HasOrder p) (read_process g.processes c.args.p c.index_mut-caller.result.now within c.index_mut-caller.ensures.value)
    (driver_order c.self.invariant.0 g c.args.p c.self.invariant.1 within)

pub lease-requires-clause-leasing : goal.lease-requires-clause-leasing
lease-requires-clause-leasing c =
    let g : GuestState = record { model = c.self.inside.model; processes = c.self.inside.callers.items; pump = c.self.inside.held; seats = c.self.inside.seats.items } in
    let is : leasing (process_at c.args.self.now c.args.p) ≡ Some c.in-Some.asked =
    ap (λ (x : GuestState). leasing (process_at x c.args.p)) (sym c.self.view_is) ∙ (ap (λ xs. leasing (process_in xs c.args.p)) (sym c.deref.ensures.value) ∙ sym c.in-Some.ensures) in
    leases_there c.args.p g c.args.self.now c.index_mut-caller.result.now c.in-Some.asked c.self.view_is c.index_mut-caller.ensures.value is

pub invariant_of-self : goal.invariant_of-self
invariant_of-self c =
    let g : GuestState = record { model = c.self.inside.model; processes = c.self.inside.callers.items; pump = c.self.inside.held; seats = c.self.inside.seats.items } in
    let is : leasing (process_at c.args.self.now c.args.p) ≡ Some c.in-Some.asked =
    ap (λ (x : GuestState). leasing (process_at x c.args.p)) (sym c.self.view_is) ∙ (ap (λ xs. leasing (process_in xs c.args.p)) (sym c.deref.ensures.value) ∙ sym c.in-Some.ensures) in
    let within = leases_within c.args.p g c.args.self.now c.in-Some.asked c.self.view_is is in
    let there = leases_there c.args.p g c.args.self.now c.index_mut-caller.result.now c.in-Some.asked c.self.view_is c.index_mut-caller.ensures.value is in
    let short : c.in-Some.asked.line < 2 ^ 32 = search rules in (
      c.self.invariant.0,
      leases_is_driver c.self.invariant.0 c.args.p g c.args.self.now c.index_mut-caller.result.now c.in-Some.asked c.lease.result c.lease.new.self c.self.view_is within c.index_mut-caller.ensures.value (sym there) short c.lease.ensures
          (subst (λ (x : GuestState). IsDriver c.self.invariant.0 x) c.self.view_is c.self.invariant.1),
    )

pub returns-clause-leases : goal.returns-clause-leases
returns-clause-leases c =
    let g : GuestState = record { model = c.self.inside.model; processes = c.self.inside.callers.items; pump = c.self.inside.held; seats = c.self.inside.seats.items } in
    let is : leasing (process_at c.args.self.now c.args.p) ≡ Some c.in-Some.asked =
    ap (λ (x : GuestState). leasing (process_at x c.args.p)) (sym c.self.view_is) ∙ (ap (λ xs. leasing (process_in xs c.args.p)) (sym c.deref.ensures.value) ∙ sym c.in-Some.ensures) in
    let within = leases_within c.args.p g c.args.self.now c.in-Some.asked c.self.view_is is in
    let there = leases_there c.args.p g c.args.self.now c.index_mut-caller.result.now c.in-Some.asked c.self.view_is c.index_mut-caller.ensures.value is in
    leases_at c.args.p g c.args.self.now c.index_mut-caller.result.now c.in-Some.asked c.lease.result c.lease.new.self c.self.view_is within c.index_mut-caller.ensures.value (sym there) c.lease.ensures

pub returns-clause-driver : goal.returns-clause-driver
returns-clause-driver c = λ script driver.
    let g : GuestState = record { model = c.self.inside.model; processes = c.self.inside.callers.items; pump = c.self.inside.held; seats = c.self.inside.seats.items } in
    let is : leasing (process_at c.args.self.now c.args.p) ≡ Some c.in-Some.asked =
    ap (λ (x : GuestState). leasing (process_at x c.args.p)) (sym c.self.view_is) ∙ (ap (λ xs. leasing (process_in xs c.args.p)) (sym c.deref.ensures.value) ∙ sym c.in-Some.ensures) in
    let within = leases_within c.args.p g c.args.self.now c.in-Some.asked c.self.view_is is in
    let there = leases_there c.args.p g c.args.self.now c.index_mut-caller.result.now c.in-Some.asked c.self.view_is c.index_mut-caller.ensures.value is in
    let short : c.in-Some.asked.line < 2 ^ 32 = search rules in
    leases_is_driver script c.args.p g c.args.self.now c.index_mut-caller.result.now c.in-Some.asked c.lease.result c.lease.new.self c.self.view_is within c.index_mut-caller.ensures.value (sym there) short c.lease.ensures driver
