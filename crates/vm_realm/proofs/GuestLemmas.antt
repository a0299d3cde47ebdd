-- What is left in the driver, over the events that it takes and the statements that it begins and answers.
use Rattle.std.proofs.Common.{◌≡◌, ℕ, ◌≤◌, false, List, [], ◌∷◌, Option, Some, None, length, refl, sym, ap, ◌∙◌, subst, arith, inl, inr}
use Rattle.std.specs.Prelude.{sum_by}
use Rattle.std.proofs.lemmas.Bool.{cases_eq, cases_lt, cond_both}
use Rattle.std.proofs.lemmas.List.{length-set, set_past, get_or-set_same, get_or-set_other}
use Rattle.vm_script.specs.declared.line.LineKind.{LineKind}
use Rattle.vm_script.specs.declared.line.LineKind.TheVariants.{OnHandle, Raw}
use Rattle.vm_wire.specs.declared.delivery.Delivery.{Delivery}
use Rattle.vm_guest.specs.Events.{told, told_at, all_told, holds_back, held_back, given, taken_at, taken, all_taken, events_of, caught_up, settled}
use Rattle.vm_guest.specs.Guest.{GuestState, no_process, process_in, process_at, seat_of}
use Rattle.vm_guest.specs.Process.{ProcessState, is_blocked, handle_at}
use Rattle.vm_guest.specs.declared.seat.Seat.{Seat}
use Rattle.vm_realm.proofs.SumLemmas.{sum_set_few}
use Rattle.vm_realm.proofs.ProcessLemmas.{weight, told_weight, Stays, stays, stays_on, told_stays}

abbrev pub all_weight : GuestState → ℕ
all_weight g = sum_by weight g.processes

-- ---- processes that are told

pub told_at_weight : (ps : List ProcessState) (seat : Seat) (d : Delivery) → sum_by weight (told_at ps seat d) ≤ sum_by weight ps
told_at_weight ps seat d =
    let p : ProcessState = process_in ps seat.process in
    let few = sum_set_few weight ps seat.process 0 (told p seat.handle d) no_process (omega (arith, told_weight p seat.handle d)) in
    omega (arith, few)

pub all_told_weight : (ps : List ProcessState) (seat : Seat) (ds : List Delivery) → sum_by weight (all_told ps seat ds) ≤ sum_by weight ps
all_told_weight ps seat [] = omega arith
all_told_weight ps seat (d ∷ ds) = omega (arith, told_at_weight ps seat d, all_told_weight (told_at ps seat d) seat ds)

told_at_stays : (ps : List ProcessState) (seat : Seat) (d : Delivery) (n : ℕ) → is_blocked (process_in ps n).status ≡ false → Stays (process_in ps n) (process_in (told_at ps seat d) n)
told_at_stays ps seat d n awake = elim (cases_eq n seat.process) [ inl same ↦ here same | inr other ↦ subst (Stays (process_in ps n)) (sym (get_or-set_other ps seat.process n _ no_process other)) (stays (process_in ps n)) ]
  where
    by_length : is_blocked (process_in ps seat.process).status ≡ false → Stays (process_in ps seat.process) (process_in (told_at ps seat d) seat.process)
    by_length awake = elim (cases_lt seat.process (length ps)) [
      | inl within ↦ subst (Stays (process_in ps seat.process)) (sym (get_or-set_same ps seat.process _ no_process within)) (told_stays (process_in ps seat.process) seat.handle d awake)
      | inr past ↦ subst (λ qs. Stays (process_in ps seat.process) (process_in qs seat.process)) (sym (set_past ps seat.process _ past)) (stays (process_in ps seat.process))
    ]

    here : n ≡ seat.process → Stays (process_in ps n) (process_in (told_at ps seat d) n)
    here same = subst (λ i. Stays (process_in ps i) (process_in (told_at ps seat d) i)) (sym same) (by_length (subst (λ i. is_blocked (process_in ps i).status ≡ false) same awake))

-- ---- events that are taken

-- what an event that is taken leaves of the driver
record Takes (g g' : GuestState) : Type 0 where
  weight : all_weight g' ≤ all_weight g
  count : length g'.processes ≡ length g.processes
  each : (n : ℕ) → is_blocked (process_at g n).status ≡ false → Stays (process_at g n) (process_at g' n)

takes_none : (g g' : GuestState) → g'.processes ≡ g.processes → Takes g g'
takes_none g g' same = record {
  weight = omega (arith, ap (sum_by weight) same);
  count = ap length same;
  each = λ n awake. subst (λ ps. Stays (process_at g n) (process_in ps n)) (sym same) (stays (process_at g n));
}

takes_at : (o : Option Seat) (g : GuestState) (d : Delivery) → Takes g (taken_at o g d)
takes_at None g d = takes_none g g refl
takes_at (Some seat) g d =
    cond_both (holds_back g seat) (held_back g d) (given g seat d) (Takes g)
    (λ holds. takes_none g (held_back g d) refl)
    (λ gives. record {
      weight = told_at_weight g.processes seat d;
      count = length-set g.processes seat.process _;
      each = λ n awake. told_at_stays g.processes seat d n awake;
    })

takes_all : (g : GuestState) (ds : List Delivery) → Takes g (all_taken g ds)
takes_all g [] = takes_none g g refl
takes_all g (d ∷ ds) =
    let one : Takes g (taken g d) = takes_at (seat_of g d.session) g d in
    let rest : Takes (taken g d) (all_taken (taken g d) ds) = takes_all (taken g d) ds in
    record {
      weight = omega (arith, one.weight, rest.weight);
      count = rest.count ∙ one.count;
      each = λ n awake.
          let first : Stays (process_at g n) (process_at (taken g d) n) = one.each n awake in
          stays_on (process_at g n) (process_at (taken g d) n) (process_at (all_taken (taken g d) ds) n) first
          (rest.each n (ap is_blocked first.status ∙ awake));
    }

pub taken_weight : (g : GuestState) (ds : List Delivery) → all_weight (all_taken g ds) ≤ all_weight g
taken_weight g ds = (takes_all g ds).weight

pub taken_count : (g : GuestState) (ds : List Delivery) → length (all_taken g ds).processes ≡ length g.processes
taken_count g ds = (takes_all g ds).count

pub taken_stays : (g : GuestState) (ds : List Delivery) (n : ℕ) → is_blocked (process_at g n).status ≡ false → Stays (process_at g n) (process_at (all_taken g ds) n)
taken_stays g ds n awake = (takes_all g ds).each n awake

-- ---- what was held back is delivered

caught_up_weight : (o : Option ℕ) (g : GuestState) (seat : Seat) → all_weight (caught_up o g seat) ≤ all_weight g
caught_up_weight None g seat = omega arith
caught_up_weight (Some session) g seat = all_told_weight g.processes seat (events_of session g.pump.held)

pub settled_weight : (what : LineKind) (g : GuestState) (n : ℕ) → all_weight (settled what g n) ≤ all_weight g
settled_weight (OnHandle h call) g n = caught_up_weight (handle_at (process_at g n) h).session g (record { process = n; handle = h })
settled_weight (Raw chain) g n = omega arith
