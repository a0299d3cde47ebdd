use Rattle.std.proofs.Common.{◌≡◌, true, false, Some, None, slice_index_or, sym, subst, ◌∙◌, ap}
use Rattle.vm_guest.specs.Events.{CanTake, taken, holds_back, is_overtaken}
use Rattle.vm_guest.specs.Guest.{GuestState, seat_of, process_in}
use Rattle.vm_guest.specs.Process.{crossing_call}
use Rattle.vm_guest.proofs.EventTakenLemmas.{has_seat, can_hold, can_tell, kept_back, delivered_at, taken_is_driver}
use Rattle.vm_guest.proofs.GuestLemmas.{driver_in_order}
use Rattle.vm_guest.proofs.OrderlyLemmas.{seat_within}
use Rattle.vm_guest.proofs.guest.Guest.take_event.Goals as goal

pub unwrap-seat-requires : goal.unwrap-seat-requires
unwrap-seat-requires c =
    let g : GuestState = record { model = c.self.inside.model; processes = c.self.inside.callers.items; pump = c.self.inside.held; seats = c.self.inside.seats.items } in
    let can : CanTake g c.args.event = subst (λ (x : GuestState). CanTake x c.args.event) (sym c.self.view_is) c.requires in
    has_seat c.seat_in.result g c.args.event (c.seat_in.ensures ∙ ap (λ xs. slice_index_or xs c.args.event.session None) c.deref.ensures.value) can

pub hold-requires : goal.hold-requires
hold-requires c =
    let g : GuestState = record { model = c.self.inside.model; processes = c.self.inside.callers.items; pump = c.self.inside.held; seats = c.self.inside.seats.items } in
    let seat = c.unwrap-seat.result in
    let can : CanTake g c.args.event = subst (λ (x : GuestState). CanTake x c.args.event) (sym c.self.view_is) c.requires in
    let some : Some seat ≡ seat_of g c.args.event.session = sym c.unwrap-seat.ensures ∙ (c.seat_in.ensures ∙ ap (λ xs. slice_index_or xs c.args.event.session None) c.deref.ensures.value) in
    let holds : holds_back g seat ≡ true = ap (λ xs. is_overtaken (crossing_call (process_in xs seat.process)) seat.handle) (sym c.deref-2.ensures.value) ∙ (sym c.holds_back.ensures ∙ c.if-holds_back.true) in
    can_hold g c.args.event seat some can holds

pub tell-requires-clause-orderly : goal.tell-requires-clause-orderly
tell-requires-clause-orderly c = driver_in_order c.self.invariant.0 _ c.self.invariant.1

pub tell-requires-clause-within : goal.tell-requires-clause-within
tell-requires-clause-within c =
    let some = sym c.unwrap-seat.ensures ∙ (c.seat_in.ensures ∙ ap (λ xs. slice_index_or xs c.args.event.session None) c.deref.ensures.value) in
    seat_within c.self.invariant.0 _ c.args.event.session _ c.self.invariant.1 (sym some)

pub tell-requires-clause-can : goal.tell-requires-clause-can
tell-requires-clause-can c =
    let g : GuestState = record { model = c.self.inside.model; processes = c.self.inside.callers.items; pump = c.self.inside.held; seats = c.self.inside.seats.items } in
    let seat = c.unwrap-seat.result in
    let can : CanTake g c.args.event = subst (λ (x : GuestState). CanTake x c.args.event) (sym c.self.view_is) c.requires in
    let some : Some seat ≡ seat_of g c.args.event.session = sym c.unwrap-seat.ensures ∙ (c.seat_in.ensures ∙ ap (λ xs. slice_index_or xs c.args.event.session None) c.deref.ensures.value) in
    let holds : holds_back g seat ≡ false = ap (λ xs. is_overtaken (crossing_call (process_in xs seat.process)) seat.handle) (sym c.deref-2.ensures.value) ∙ (sym c.holds_back.ensures ∙ c.if-holds_back.false) in
    can_tell g c.args.event seat some can holds

pub invariant_of-self : goal.invariant_of-self
invariant_of-self c =
    let g : GuestState = record { model = c.self.inside.model; processes = c.self.inside.callers.items; pump = c.self.inside.held; seats = c.self.inside.seats.items } in
    let seat = c.unwrap-seat.result in
    let can : CanTake g c.args.event = subst (λ (x : GuestState). CanTake x c.args.event) (sym c.self.view_is) c.requires in
    let some : Some seat ≡ seat_of g c.args.event.session = sym c.unwrap-seat.ensures ∙ (c.seat_in.ensures ∙ ap (λ xs. slice_index_or xs c.args.event.session None) c.deref.ensures.value) in
    let holds : holds_back g seat ≡ true = ap (λ xs. is_overtaken (crossing_call (process_in xs seat.process)) seat.handle) (sym c.deref-2.ensures.value) ∙ (sym c.holds_back.ensures ∙ c.if-holds_back.true) in
    (c.self.invariant.0, taken_is_driver c.self.invariant.0 g _ c.args.event c.self.invariant.1 can (kept_back g c.args.event seat c.hold.new.self some holds c.hold.ensures))

pub returns-then-holds_back-clause-takes : goal.returns-then-holds_back-clause-takes
returns-then-holds_back-clause-takes c =
    let g : GuestState = record { model = c.self.inside.model; processes = c.self.inside.callers.items; pump = c.self.inside.held; seats = c.self.inside.seats.items } in
    let seat = c.unwrap-seat.result in
    let some : Some seat ≡ seat_of g c.args.event.session = sym c.unwrap-seat.ensures ∙ (c.seat_in.ensures ∙ ap (λ xs. slice_index_or xs c.args.event.session None) c.deref.ensures.value) in
    let holds : holds_back g seat ≡ true = ap (λ xs. is_overtaken (crossing_call (process_in xs seat.process)) seat.handle) (sym c.deref-2.ensures.value) ∙ (sym c.holds_back.ensures ∙ c.if-holds_back.true) in
    kept_back g c.args.event seat c.hold.new.self some holds c.hold.ensures ∙ ap (λ (x : GuestState). taken x c.args.event) c.self.view_is

pub returns-then-holds_back-clause-driver : goal.returns-then-holds_back-clause-driver
returns-then-holds_back-clause-driver c = λ script driver.
    let g : GuestState = record { model = c.self.inside.model; processes = c.self.inside.callers.items; pump = c.self.inside.held; seats = c.self.inside.seats.items } in
    let seat = c.unwrap-seat.result in
    let some : Some seat ≡ seat_of g c.args.event.session = sym c.unwrap-seat.ensures ∙ (c.seat_in.ensures ∙ ap (λ xs. slice_index_or xs c.args.event.session None) c.deref.ensures.value) in
    let holds : holds_back g seat ≡ true = ap (λ xs. is_overtaken (crossing_call (process_in xs seat.process)) seat.handle) (sym c.deref-2.ensures.value) ∙ (sym c.holds_back.ensures ∙ c.if-holds_back.true) in
    taken_is_driver script c.args.self.now _ c.args.event driver c.requires (kept_back g c.args.event seat c.hold.new.self some holds c.hold.ensures ∙ ap (λ (x : GuestState). taken x c.args.event) c.self.view_is)

pub invariant_of-self-else-holds_back : goal.invariant_of-self-else-holds_back
invariant_of-self-else-holds_back c =
    let g : GuestState = record { model = c.self.inside.model; processes = c.self.inside.callers.items; pump = c.self.inside.held; seats = c.self.inside.seats.items } in
    let seat = c.unwrap-seat.result in
    let can : CanTake g c.args.event = subst (λ (x : GuestState). CanTake x c.args.event) (sym c.self.view_is) c.requires in
    let some : Some seat ≡ seat_of g c.args.event.session = sym c.unwrap-seat.ensures ∙ (c.seat_in.ensures ∙ ap (λ xs. slice_index_or xs c.args.event.session None) c.deref.ensures.value) in
    let holds : holds_back g seat ≡ false = ap (λ xs. is_overtaken (crossing_call (process_in xs seat.process)) seat.handle) (sym c.deref-2.ensures.value) ∙ (sym c.holds_back.ensures ∙ c.if-holds_back.false) in
    (c.self.invariant.0, taken_is_driver c.self.invariant.0 g _ c.args.event c.self.invariant.1 can (delivered_at g c.args.event seat c.tell.new.callers.items some holds c.tell.ensures))

pub returns-else-holds_back-clause-takes : goal.returns-else-holds_back-clause-takes
returns-else-holds_back-clause-takes c =
    let g : GuestState = record { model = c.self.inside.model; processes = c.self.inside.callers.items; pump = c.self.inside.held; seats = c.self.inside.seats.items } in
    let seat = c.unwrap-seat.result in
    let some : Some seat ≡ seat_of g c.args.event.session = sym c.unwrap-seat.ensures ∙ (c.seat_in.ensures ∙ ap (λ xs. slice_index_or xs c.args.event.session None) c.deref.ensures.value) in
    let holds : holds_back g seat ≡ false = ap (λ xs. is_overtaken (crossing_call (process_in xs seat.process)) seat.handle) (sym c.deref-2.ensures.value) ∙ (sym c.holds_back.ensures ∙ c.if-holds_back.false) in
    delivered_at g c.args.event seat c.tell.new.callers.items some holds c.tell.ensures ∙ ap (λ (x : GuestState). taken x c.args.event) c.self.view_is

pub returns-else-holds_back-clause-driver : goal.returns-else-holds_back-clause-driver
returns-else-holds_back-clause-driver c = λ script driver.
    let g : GuestState = record { model = c.self.inside.model; processes = c.self.inside.callers.items; pump = c.self.inside.held; seats = c.self.inside.seats.items } in
    let seat = c.unwrap-seat.result in
    let some : Some seat ≡ seat_of g c.args.event.session = sym c.unwrap-seat.ensures ∙ (c.seat_in.ensures ∙ ap (λ xs. slice_index_or xs c.args.event.session None) c.deref.ensures.value) in
    let holds : holds_back g seat ≡ false = ap (λ xs. is_overtaken (crossing_call (process_in xs seat.process)) seat.handle) (sym c.deref-2.ensures.value) ∙ (sym c.holds_back.ensures ∙ c.if-holds_back.false) in
    taken_is_driver script c.args.self.now _ c.args.event driver c.requires (delivered_at g c.args.event seat c.tell.new.callers.items some holds c.tell.ensures ∙ ap (λ (x : GuestState). taken x c.args.event) c.self.view_is)
