-- The statement of a process is answered, and what was held back for its handle is delivered.
use Rattle.std.proofs.Common.{◌≡◌, ◌<◌, ℕ, List, length, slice_get, slice_set, get_or, Option, Some, refl, sym, ap, subst, ◌∙◌}
use Rattle.std.specs.Option.{option_and_then}
use Rattle.std.proofs.lemmas.Option.{slice_get-get_or}
use Rattle.vm_handle.specs.Handle.{HandleState}
use Rattle.vm_link.specs.declared.parcel.Finished.{Finished}
use Rattle.vm_pump.specs.Pump.{PumpState}
use Rattle.vm_script.specs.Script.{ScriptLines}
use Rattle.vm_guest.specs.Events.{events_of, events_of_others, all_told, caught_up, CanTellAll, CanCatchUp}
use Rattle.vm_guest.specs.Guest.{GuestState, no_process, process_at, with_process, handle_seated}
use Rattle.vm_guest.specs.Message.{returning_of}
use Rattle.vm_guest.specs.Orderly.{HasOrder, IsSeat, IsDriver}
use Rattle.vm_guest.specs.Process.{ProcessState, no_handle}
use Rattle.vm_guest.specs.Queues.{CanBeAnswered, IsAnswered, AnswersAt}
use Rattle.vm_guest.specs.declared.seat.Seat.{Seat}
use Rattle.vm_guest.proofs.GuestLemmas.{stands_in, driver_order}
use Rattle.vm_guest.proofs.OrderlyLemmas.{crossing_within, answered_driver, caught_up_driver}

-- ---- the statement is answered

-- The process stands in its place, and can be answered.
pub record AnswersThere (f : Finished) (n : ℕ) (g w : GuestState) (p : ProcessState) : Type 0 where
  pub same : g ≡ w
  pub within : n < length w.processes
  pub there : process_at w n ≡ p

pub answered_within : (f : Finished) (n : ℕ) (g w : GuestState) → g ≡ w → CanBeAnswered (process_at w n) f → n < length g.processes
answered_within f n g w same can = subst (λ (x : GuestState). n < length x.processes) (sym same) (crossing_within w n can.statement can.under_way)

pub answers_there : (f : Finished) (n : ℕ) (g w : GuestState) (p : ProcessState) → g ≡ w → CanBeAnswered (process_at w n) f → p ≡ get_or g.processes n p → AnswersThere f n g w p
answers_there f n g w p same can at =
    let within = crossing_within w n can.statement can.under_way in
    record { same = same; within = within; there = stands_in g w n p same within at }

pub there_in_order : (f : Finished) (n : ℕ) (g w : GuestState) (p : ProcessState) (script : ScriptLines) → AnswersThere f n g w p → IsDriver script g → HasOrder p
there_in_order f n g w p script a driver =
    subst (λ (x : ProcessState). HasOrder x) a.there (driver_order script w n (subst (λ (x : GuestState). IsDriver script x) a.same driver) a.within)

pub answered_at : (f : Finished) (n : ℕ) (g w : GuestState) (p p' : ProcessState) → AnswersThere f n g w p → IsAnswered p f p' → AnswersAt n w f (with_process g n p')
answered_at f n g w p p' a answers =
    (p', subst (λ (x : ProcessState). IsAnswered x f p') (sym a.there) answers, ap (λ (x : GuestState). with_process x n p') a.same)

pub answered_is_driver : (f : Finished) (n : ℕ) (g w : GuestState) (p p' : ProcessState) (script : ScriptLines) → AnswersThere f n g w p → IsAnswered p f p' → IsDriver script w → IsDriver script (with_process g n p')
answered_is_driver f n g w p p' script a answers driver =
    let here : IsAnswered (process_at w n) f p' = subst (λ (x : ProcessState). IsAnswered x f p') (sym a.there) answers in
    subst (λ (x : GuestState). IsDriver script (with_process x n p')) (sym a.same) (answered_driver script w n here.statement (returning_of f) p' driver here.under_way here.answers here.keeps)

-- ---- what was held back is delivered

abbrev pub session_found : List ProcessState → Seat → Option ℕ
session_found processes seat = option_and_then (λ (h : HandleState). h.session) (option_and_then (λ (p : ProcessState). slice_get p.handles seat.handle) (slice_get processes seat.process))

seated_session : (g : GuestState) (seat : Seat) → IsSeat g.processes seat → session_found g.processes seat ≡ (handle_seated g seat).session
seated_session g seat within =
    let p : ProcessState = process_at g seat.process in
    ap (λ (o : Option ProcessState). option_and_then (λ (h : HandleState). h.session) (option_and_then (λ (q : ProcessState). slice_get q.handles seat.handle) o)) (slice_get-get_or g.processes seat.process no_process within.0)
    ∙ ap (λ (o : Option HandleState). option_and_then (λ (h : HandleState). h.session) o) (slice_get-get_or p.handles seat.handle no_handle within.1)

-- the session that is found is that of the handle in the seat
pub session_seated : (g w : GuestState) (seat : Seat) (o : Option ℕ) → g ≡ w → IsSeat w.processes seat → o ≡ session_found g.processes seat → o ≡ (handle_seated w seat).session
session_seated g w seat o same within found = found ∙ (ap (λ (x : GuestState). session_found x.processes seat) same ∙ seated_session w seat within)

pub can_tell_all : (g w : GuestState) (seat : Seat) (session : ℕ) → g ≡ w → Some session ≡ (handle_seated w seat).session → CanCatchUp (handle_seated w seat).session w seat →
    CanTellAll g.processes seat (events_of session g.pump.held)
can_tell_all g w seat session same is can =
    subst (λ (x : GuestState). CanTellAll x.processes seat (events_of session x.pump.held)) (sym same) (subst (λ (o : Option ℕ). CanCatchUp o w seat) (sym is) can)

pub caught_up_then : (g w : GuestState) (seat : Seat) (session : ℕ) (processes : List ProcessState) (pump : PumpState) (seats : List (Option Seat)) → g ≡ w → Some session ≡ (handle_seated w seat).session →
    processes ≡ all_told g.processes seat (events_of session g.pump.held) → pump ≡ record g.pump { held = events_of_others session g.pump.held } → seats ≡ slice_set g.seats session (Some seat) →
    record g { processes = processes; pump = pump; seats = seats } ≡ caught_up (handle_seated w seat).session w seat
caught_up_then g w seat session processes pump seats same is told left noted =
    let here : record g { processes = processes; pump = pump; seats = seats } ≡ caught_up (Some session) g seat = rw (told, left, noted) refl in
    here ∙ (ap (λ (x : GuestState). caught_up (Some session) x seat) same ∙ ap (λ (o : Option ℕ). caught_up o w seat) is)

pub caught_up_is_driver : (script : ScriptLines) (w g' : GuestState) (seat : Seat) → IsDriver script w → IsSeat w.processes seat → CanCatchUp (handle_seated w seat).session w seat →
    g' ≡ caught_up (handle_seated w seat).session w seat → IsDriver script g'
caught_up_is_driver script w g' seat driver within can is =
    subst (λ (x : GuestState). IsDriver script x) (sym is) (caught_up_driver script (handle_seated w seat).session w seat driver within can)
