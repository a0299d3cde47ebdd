use Rattle.std.proofs.Common.{◌≡◌, ◌<◌, ◌≤◌, false, length, subst, refl, arith}
use Rattle.vm_guest.specs.Guest.{GuestState, process_at}
use Rattle.vm_guest.specs.Orderly.{IsDriver, HasOrder}
use Rattle.vm_guest.specs.Process.{ProcessState, is_lent_for}
use Rattle.vm_guest.proofs.GuestLemmas.{driver_order, read_process}
use Rattle.vm_guest.proofs.GuestLeaseLemmas.{lent_past, gives_back, may_take_back, gave_other, gave_ok, gave_err, gave_is_driver}
use Rattle.vm_guest.proofs.guest.Guest.give_back.Goals as goal

pub returns-then-at-len-clause-other : goal.returns-then-at-len-clause-other
returns-then-at-len-clause-other c =
    let g : GuestState = record { model = c.self.inside.model; processes = c.self.inside.callers.items; pump = c.self.inside.held; seats = c.self.inside.seats.items } in
    let past : length g.processes ≤ c.args.p = omega (arith, c.if-at-len.true, c.len.ensures) in
    let none : is_lent_for (process_at c.args.self.now c.args.p) c.args.lease.line ≡ false =
    subst (λ (w : GuestState). is_lent_for (process_at w c.args.p) c.args.lease.line ≡ false) c.self.view_is (lent_past c.args.p g c.args.lease.line past) in
    (λ _. none, λ _. refl)

pub give_back-requires-clause-orderly : goal.give_back-requires-clause-orderly
give_back-requires-clause-orderly c =
    let g : GuestState = record { model = c.self.inside.model; processes = c.self.inside.callers.items; pump = c.self.inside.held; seats = c.self.inside.seats.items } in
    let within : c.args.p < length g.processes = omega (arith, c.if-at-len.false, c.len.ensures) in
    subst (λ (p : ProcessState). HasOrder p) (read_process g.processes c.args.p c.index_mut-caller.result.now within c.index_mut-caller.ensures.value)
    (driver_order c.self.invariant.0 g c.args.p c.self.invariant.1 within)

pub give_back-requires-clause-done : goal.give_back-requires-clause-done
give_back-requires-clause-done c =
    let g : GuestState = record { model = c.self.inside.model; processes = c.self.inside.callers.items; pump = c.self.inside.held; seats = c.self.inside.seats.items } in
    let within : c.args.p < length g.processes = omega (arith, c.if-at-len.false, c.len.ensures) in
    may_take_back c.args.p g c.args.self.now c.index_mut-caller.result.now c.args.lease c.self.view_is within c.index_mut-caller.ensures.value c.requires

pub invariant_of-self : goal.invariant_of-self
invariant_of-self c =
    let g : GuestState = record { model = c.self.inside.model; processes = c.self.inside.callers.items; pump = c.self.inside.held; seats = c.self.inside.seats.items } in
    let within : c.args.p < length g.processes = omega (arith, c.if-at-len.false, c.len.ensures) in
    let b = gives_back c.args.p g c.args.self.now c.index_mut-caller.result.now c.args.lease c.give_back.result c.give_back.new.self c.self.view_is within c.index_mut-caller.ensures.value c.give_back.ensures.other c.give_back.ensures.ok c.give_back.ensures.err in
    (c.self.invariant.0, gave_is_driver c.self.invariant.0 c.args.p g c.args.self.now c.index_mut-caller.result.now c.args.lease c.give_back.result c.give_back.new.self b c.requires (subst (λ (x : GuestState). IsDriver c.self.invariant.0 x) c.self.view_is c.self.invariant.1))

pub returns-clause-other : goal.returns-clause-other
returns-clause-other c =
    let g : GuestState = record { model = c.self.inside.model; processes = c.self.inside.callers.items; pump = c.self.inside.held; seats = c.self.inside.seats.items } in
    let within : c.args.p < length g.processes = omega (arith, c.if-at-len.false, c.len.ensures) in
    let b = gives_back c.args.p g c.args.self.now c.index_mut-caller.result.now c.args.lease c.give_back.result c.give_back.new.self c.self.view_is within c.index_mut-caller.ensures.value c.give_back.ensures.other c.give_back.ensures.ok c.give_back.ensures.err in
    gave_other c.args.p g c.args.self.now c.index_mut-caller.result.now c.args.lease c.give_back.result c.give_back.new.self b

pub returns-clause-ok : goal.returns-clause-ok
returns-clause-ok c =
    let g : GuestState = record { model = c.self.inside.model; processes = c.self.inside.callers.items; pump = c.self.inside.held; seats = c.self.inside.seats.items } in
    let within : c.args.p < length g.processes = omega (arith, c.if-at-len.false, c.len.ensures) in
    let b = gives_back c.args.p g c.args.self.now c.index_mut-caller.result.now c.args.lease c.give_back.result c.give_back.new.self c.self.view_is within c.index_mut-caller.ensures.value c.give_back.ensures.other c.give_back.ensures.ok c.give_back.ensures.err in
    gave_ok c.args.p g c.args.self.now c.index_mut-caller.result.now c.args.lease c.give_back.result c.give_back.new.self b

pub returns-clause-err : goal.returns-clause-err
returns-clause-err c =
    let g : GuestState = record { model = c.self.inside.model; processes = c.self.inside.callers.items; pump = c.self.inside.held; seats = c.self.inside.seats.items } in
    let within : c.args.p < length g.processes = omega (arith, c.if-at-len.false, c.len.ensures) in
    let b = gives_back c.args.p g c.args.self.now c.index_mut-caller.result.now c.args.lease c.give_back.result c.give_back.new.self c.self.view_is within c.index_mut-caller.ensures.value c.give_back.ensures.other c.give_back.ensures.ok c.give_back.ensures.err in
    gave_err c.args.p g c.args.self.now c.index_mut-caller.result.now c.args.lease c.give_back.result c.give_back.new.self b

pub returns-clause-driver : goal.returns-clause-driver
returns-clause-driver c = λ script driver.
    let g : GuestState = record { model = c.self.inside.model; processes = c.self.inside.callers.items; pump = c.self.inside.held; seats = c.self.inside.seats.items } in
    let within : c.args.p < length g.processes = omega (arith, c.if-at-len.false, c.len.ensures) in
    let b = gives_back c.args.p g c.args.self.now c.index_mut-caller.result.now c.args.lease c.give_back.result c.give_back.new.self c.self.view_is within c.index_mut-caller.ensures.value c.give_back.ensures.other c.give_back.ensures.ok c.give_back.ensures.err in
    gave_is_driver script c.args.p g c.args.self.now c.index_mut-caller.result.now c.args.lease c.give_back.result c.give_back.new.self b c.requires driver
