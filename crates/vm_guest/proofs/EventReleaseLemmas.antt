-- What is held back for a handle is delivered to it, one event after the other.
use Rattle.std.proofs.Common.{◌≡◌, ◌<◌, ◌==◌, ℕ, Bool, true, false, List, [], ◌∷◌, length, Some, None, refl, sym, ap, subst, ◌∙◌, arith, if◌then◌else◌}
use Rattle.vm_pump.specs.Pump.{PumpState, first_for, without_first}
use Rattle.vm_pump.proofs.FilterLemmas.{none_for, others_then, first_then, others_left, one_less}
use Rattle.vm_wire.specs.declared.delivery.Delivery.{Delivery}
use Rattle.vm_guest.specs.Events.{events_of, events_of_others, told_at, all_told, CanTell, CanTellAll}
use Rattle.vm_guest.specs.Orderly.{AreInOrder, IsSeat}
use Rattle.vm_guest.specs.Process.{ProcessState}
use Rattle.vm_guest.specs.declared.seat.Seat.{Seat}
use Rattle.vm_guest.proofs.OrderlyLemmas.{told_in_order}

-- From these processes and what is held back it came to those. What is left can be delivered, and
-- leads to the same.
pub record Releasing (session : ℕ) (seat : Seat) (processes : List ProcessState) (pump : PumpState) (processes' : List ProcessState) (pump' : PumpState) : Type 0 where
  pub orderly : AreInOrder processes'
  pub within : IsSeat processes' seat
  pub can : CanTellAll processes' seat (events_of session pump'.held)
  pub told : all_told processes' seat (events_of session pump'.held) ≡ all_told processes seat (events_of session pump.held)
  pub others : events_of_others session pump'.held ≡ events_of_others session pump.held
  pub room : pump'.room ≡ pump.room

pub releasing : (session : ℕ) (seat : Seat) (processes : List ProcessState) (pump : PumpState) → AreInOrder processes → IsSeat processes seat → CanTellAll processes seat (events_of session pump.held) →
    Releasing session seat processes pump processes pump
releasing session seat processes pump orderly within can = record { orderly = orderly; within = within; can = can; told = refl; others = refl; room = refl }

can_first : (session : ℕ) (seat : Seat) (processes : List ProcessState) (ds : List Delivery) (d : Delivery) → Some d ≡ first_for session ds → CanTellAll processes seat (events_of session ds) →
    CanTellAll processes seat (d ∷ events_of session (without_first session ds))
can_first session seat processes ds d some can = subst (λ (xs : List Delivery). CanTellAll processes seat xs) (first_then session ds d (sym some)) can

-- the first event can be delivered
pub can_release : (session : ℕ) (seat : Seat) (processes : List ProcessState) (pump : PumpState) (processes' : List ProcessState) (pump' : PumpState) (d : Delivery) →
    Releasing session seat processes pump processes' pump' → Some d ≡ first_for session pump'.held → CanTell processes' seat d
can_release session seat processes pump processes' pump' d r some = (can_first session seat processes' pump'.held d some r.can).0

-- it is delivered
pub released : (session : ℕ) (seat : Seat) (processes : List ProcessState) (pump : PumpState) (processes' : List ProcessState) (pump' : PumpState) (d : Delivery)
    (processes'' : List ProcessState) (pump'' : PumpState) →
    Releasing session seat processes pump processes' pump' → Some d ≡ first_for session pump'.held → processes'' ≡ told_at processes' seat d → pump'' ≡ record pump' { held = without_first session pump'.held } →
    Releasing session seat processes pump processes'' pump''
released session seat processes pump processes' pump' d processes'' pump'' r some tells leaves =
    let can = can_first session seat processes' pump'.held d some r.can in
    let keeps = told_in_order processes' seat d r.orderly r.within can.0 in
    let next : PumpState = record pump' { held = without_first session pump'.held } in
    let here : Releasing session seat processes pump (told_at processes' seat d) next = record {
      orderly = keeps.0;
      within = keeps.1;
      can = can.1;
      told = ap (λ (xs : List Delivery). all_told processes' seat xs) (sym (first_then session pump'.held d (sym some))) ∙ r.told;
      others = sym (others_left session pump'.held) ∙ r.others;
      room = r.room;
    } in
    subst (λ (x : PumpState). Releasing session seat processes pump processes'' x) (sym leaves)
    (subst (λ (x : List ProcessState). Releasing session seat processes pump x next) (sym tells) here)

pub fewer_left : (session : ℕ) (pump : PumpState) (d : Delivery) (pump' : PumpState) → Some d ≡ first_for session pump.held → pump' ≡ record pump { held = without_first session pump.held } →
    length pump'.held < length pump.held
fewer_left session pump d pump' some leaves = let less = one_less session pump.held d (sym some) in rw leaves (omega (arith, less))

-- ---- where there is none

out_if : (b : Bool) (session : ℕ) (d : Delivery) (ds : List Delivery) → (if b then Some d else first_for session ds) ≡ None → (first_for session ds ≡ None → without_first session ds ≡ ds) →
    (if b then ds else d ∷ without_first session ds) ≡ d ∷ ds
out_if true session d ds none rest = cc
out_if false session d ds none rest = ap (λ xs. d ∷ xs) (rest none)

none_out : (session : ℕ) (ds : List Delivery) → first_for session ds ≡ None → without_first session ds ≡ ds
none_out session [] none = refl
none_out session (d ∷ ds) none = out_if (d.session == session) session d ds none (λ there. none_out session ds there)

-- none is left
pub all_released : (session : ℕ) (seat : Seat) (processes : List ProcessState) (pump : PumpState) (processes' : List ProcessState) (pump' pump'' : PumpState) →
    Releasing session seat processes pump processes' pump' → None ≡ first_for session pump'.held → pump'' ≡ record pump' { held = without_first session pump'.held } →
    (processes' ≡ all_told processes seat (events_of session pump.held)) × (pump'' ≡ record pump { held = events_of_others session pump.held })
all_released session seat processes pump processes' pump' pump'' r none leaves =
    let same : without_first session pump'.held ≡ events_of_others session pump.held = none_out session pump'.held (sym none) ∙ sym (others_then session pump'.held (sym none)) ∙ r.others in (
      ap (λ (xs : List Delivery). all_told processes' seat xs) (sym (none_for session pump'.held (sym none))) ∙ r.told,
      leaves ∙ (ap (λ (xs : List Delivery). record pump' { held = xs }) same ∙ ap (λ (n : ℕ). record pump { held = events_of_others session pump.held; room = n }) r.room),
    )
