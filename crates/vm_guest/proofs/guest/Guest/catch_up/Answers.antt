use Rattle.std.proofs.Common.{◌≡◌, Some, None, sym, subst, ap, ◌∙◌}
use Rattle.vm_guest.specs.Events.{caught_up}
use Rattle.vm_guest.specs.Guest.{GuestState, handle_seated}
use Rattle.vm_guest.specs.Orderly.{IsSeat, IsDriver}
use Rattle.vm_guest.proofs.GuestLemmas.{driver_in_order}
use Rattle.vm_guest.proofs.GuestAnswerLemmas.{session_found, session_seated, can_tell_all, caught_up_then, caught_up_is_driver}
use Rattle.vm_guest.proofs.guest.Guest.catch_up.Goals as goal

pub release-requires-clause-orderly : goal.release-requires-clause-orderly
release-requires-clause-orderly c = driver_in_order c.self.invariant.0 _ c.self.invariant.1

pub release-requires-clause-within : goal.release-requires-clause-within
release-requires-clause-within c = subst (λ (x : GuestState). IsSeat x.processes c.args.seat) (sym c.self.view_is) c.requires.within

pub release-requires-clause-can : goal.release-requires-clause-can
release-requires-clause-can c =
    let g : GuestState = record { model = c.self.inside.model; processes = c.self.inside.callers.items; pump = c.self.inside.held; seats = c.self.inside.seats.items } in
    let is : Some c.in-Some.session ≡ (handle_seated c.args.self.now c.args.seat).session = session_seated g c.args.self.now c.args.seat _ c.self.view_is c.requires.within (c.in-Some.ensures ∙ ap (λ xs. session_found xs c.args.seat) c.deref.ensures.value) in
    can_tell_all g c.args.self.now c.args.seat c.in-Some.session c.self.view_is is c.requires.can

pub invariant_of-self : goal.invariant_of-self
invariant_of-self c =
    let g : GuestState = record { model = c.self.inside.model; processes = c.self.inside.callers.items; pump = c.self.inside.held; seats = c.self.inside.seats.items } in
    let is : Some c.in-Some.session ≡ (handle_seated c.args.self.now c.args.seat).session = session_seated g c.args.self.now c.args.seat _ c.self.view_is c.requires.within (c.in-Some.ensures ∙ ap (λ xs. session_found xs c.args.seat) c.deref.ensures.value) in
    let led = caught_up_then g c.args.self.now c.args.seat c.in-Some.session c.release.new.callers.items c.release.new.held c.note_seat.new.seats.items c.self.view_is is c.release.ensures.told c.release.ensures.left c.note_seat.ensures in
    (c.self.invariant.0, caught_up_is_driver c.self.invariant.0 c.args.self.now _ c.args.seat (subst (λ (x : GuestState). IsDriver c.self.invariant.0 x) c.self.view_is c.self.invariant.1) c.requires.within c.requires.can led)

pub returns-in-Some-clause-catches_up : goal.returns-in-Some-clause-catches_up
returns-in-Some-clause-catches_up c =
    let g : GuestState = record { model = c.self.inside.model; processes = c.self.inside.callers.items; pump = c.self.inside.held; seats = c.self.inside.seats.items } in
    let is : Some c.in-Some.session ≡ (handle_seated c.args.self.now c.args.seat).session = session_seated g c.args.self.now c.args.seat _ c.self.view_is c.requires.within (c.in-Some.ensures ∙ ap (λ xs. session_found xs c.args.seat) c.deref.ensures.value) in
    caught_up_then g c.args.self.now c.args.seat c.in-Some.session c.release.new.callers.items c.release.new.held c.note_seat.new.seats.items c.self.view_is is c.release.ensures.told c.release.ensures.left c.note_seat.ensures

pub returns-in-Some-clause-driver : goal.returns-in-Some-clause-driver
returns-in-Some-clause-driver c = λ script driver.
    let g : GuestState = record { model = c.self.inside.model; processes = c.self.inside.callers.items; pump = c.self.inside.held; seats = c.self.inside.seats.items } in
    let is : Some c.in-Some.session ≡ (handle_seated c.args.self.now c.args.seat).session = session_seated g c.args.self.now c.args.seat _ c.self.view_is c.requires.within (c.in-Some.ensures ∙ ap (λ xs. session_found xs c.args.seat) c.deref.ensures.value) in
    let led = caught_up_then g c.args.self.now c.args.seat c.in-Some.session c.release.new.callers.items c.release.new.held c.note_seat.new.seats.items c.self.view_is is c.release.ensures.told c.release.ensures.left c.note_seat.ensures in
    caught_up_is_driver script c.args.self.now _ c.args.seat driver c.requires.within c.requires.can led

pub returns-in_default-clause-catches_up : goal.returns-in_default-clause-catches_up
returns-in_default-clause-catches_up c =
    let g : GuestState = record { model = c.self.inside.model; processes = c.self.inside.callers.items; pump = c.self.inside.held; seats = c.self.inside.seats.items } in
    let is : None ≡ (handle_seated c.args.self.now c.args.seat).session =
    session_seated g c.args.self.now c.args.seat _ c.self.view_is c.requires.within (sym c.in_default.is ∙ c.session_at.ensures ∙ ap (λ xs. session_found xs c.args.seat) c.deref.ensures.value) in
    ap (λ o. caught_up o c.args.self.now c.args.seat) is
