-- A reply is collected behind the events that are taken first, and what was held back is delivered.
use Rattle.std.proofs.Common.{◌≡◌, ◌<◌, ℕ, Bool, true, false, List, [], ◌∷◌, length, IsSome, Option, Some, refl, sym, ap, subst, ◌∙◌, arith}
use Rattle.std.specs.Option.{option_and_then}
use Rattle.vm_link.specs.Queue.{Queue, Queues, collected, first_finished}
use Rattle.vm_link.specs.declared.chains.DoneChain.{DoneChain}
use Rattle.vm_link.specs.declared.link.Turn.TheVariants.{Did}
use Rattle.vm_link.specs.declared.parcel.Finished.{Finished}
use Rattle.vm_script.specs.Script.{ScriptLines}
use Rattle.vm_script.specs.declared.line.LineKind.{LineKind}
use Rattle.vm_script.specs.declared.line.LineKind.TheVariants.{OnHandle, Raw}
use Rattle.vm_wire.specs.declared.delivery.Delivery.{Delivery}
use Rattle.vm_guest.specs.Asking.{asked_by, ends_with_events}
use Rattle.vm_guest.specs.Events.{all_taken, settled, CanSettle}
use Rattle.vm_guest.specs.Guest.{GuestState, process_at, with_process}
use Rattle.vm_guest.specs.Lines.{AnsweredFor, CanAnswer}
use Rattle.vm_guest.specs.Message.{returning_of}
use Rattle.vm_guest.specs.Orderly.{IsDriver, IsSeat, HasSeat}
use Rattle.vm_guest.specs.Process.{ProcessState, current, current_call, crossing, is_crossing, some_if}
use Rattle.vm_guest.specs.Queues.{AreEvents, chains_if, again_if, IsChainFor, CanBeAnswered, AnswersAt, CanCollectReply, CanCollectIf, CollectsReply, CollectsIf, TakesIf, CanTakeFrom, CanTakeAllFrom}
use Rattle.vm_guest.specs.declared.asked.Asked.{Asked}
use Rattle.vm_guest.specs.declared.asked.Statement.{Statement}
use Rattle.vm_guest.specs.declared.seat.Seat.{Seat}
use Rattle.vm_guest.specs.declared.status.Status.{Status}
use Rattle.vm_guest.proofs.GuestLemmas.{driver_order}
use Rattle.vm_guest.proofs.GuestStepLemmas.{can_take_all, took_commands, took_events}
use Rattle.vm_guest.proofs.OrderlyLemmas.{current_within, crossing_within, still_crossing}

-- ---- which reply

reply_in : (done : List DoneChain) (f : Finished) (g : GuestState) (queues : Queues) → Some f ≡ first_finished done → CanCollectIf done g queues → CanCollectReply f g queues
reply_in [] f g queues some can = absurd cc
reply_in (c ∷ cs) f g queues some can = subst (λ (x : Finished). CanCollectReply x g queues) (let e : c.finished ≡ f = cc in e) can

pub can_collect : (f : Finished) (g : GuestState) (queues : Queues) → Some f ≡ first_finished queues.command.done → CanCollectIf queues.command.done g queues → CanCollectReply f g queues
can_collect f g queues some can = reply_in queues.command.done f g queues some can

-- another queue of commands makes no difference
pub can_collect_still : (f : Finished) (g : GuestState) (queues queues0 : Queues) → CanCollectReply f g queues → queues0 ≡ record queues { command = collected queues.command } → CanCollectReply f g queues0
can_collect_still f g queues queues0 can left = subst (λ (x : Queues). CanCollectReply f g x) (sym left) (record {
  statement = can.statement;
  under_way = can.under_way;
  chain = can.chain;
  events = can.events;
  takes = can.takes;
  answers = can.answers;
  settles = can.settles;
})

collects_in : (done : List DoneChain) (f : Finished) (g : GuestState) (queues : Queues) (g' : GuestState) (queues' : Queues) → Some f ≡ first_finished done → CollectsReply f g queues g' queues' →
    CollectsIf done g queues Did g' queues'
collects_in [] f g queues g' queues' some collects = absurd cc
collects_in (c ∷ cs) f g queues g' queues' some collects = (refl, subst (λ (x : Finished). CollectsReply x g queues g' queues') (let e : f ≡ c.finished = cc in e) collects)

pub collects : (f : Finished) (g : GuestState) (queues : Queues) (g' : GuestState) (queues' : Queues) → Some f ≡ first_finished queues.command.done → CollectsReply f g queues g' queues' →
    CollectsIf queues.command.done g queues Did g' queues'
collects f g queues g' queues' some made = collects_in queues.command.done f g queues g' queues' some made

-- ---- which statement

pub same_statement : (o : Option Statement) (s s' : Statement) → o ≡ Some s → o ≡ Some s' → s ≡ s'
same_statement o s s' one two = cc

-- ---- behind the events

pub crossing_yet : (n : ℕ) (s : Statement) (g : GuestState) (queues : Queues) (g' : GuestState) (queues' : Queues) (events : List Delivery) → crossing (process_at g n) ≡ Some s →
    TakesIf (ends_with_events s.what) g queues g' queues' → CanTakeFrom (chains_if (ends_with_events s.what) queues) g events → crossing (process_at g' n) ≡ Some s
crossing_yet n s g queues g' queues' events is took can =
    subst (λ (x : GuestState). crossing (process_at x n) ≡ Some s) (sym (took.took events can.bring)) (still_crossing g events n s is)

pub can_be_answered : (f : Finished) (s : Statement) (g : GuestState) (queues : Queues) (g' : GuestState) (queues' : Queues) → (can : CanCollectReply f g queues) → can.statement ≡ s →
    TakesIf (ends_with_events s.what) g queues g' queues' → (process_at g' f.parcel.who).number ≡ f.parcel.who → CanBeAnswered (process_at g' f.parcel.who) f
can_be_answered f s g queues g' queues' can same took numbered =
    let n : ℕ = f.parcel.who in
    let took' : TakesIf (ends_with_events can.statement.what) g queues g' queues' = subst (λ (x : Statement). TakesIf (ends_with_events x.what) g queues g' queues') (sym same) took in
    record {
      statement = can.statement;
      under_way = crossing_yet n can.statement g queues g' queues' can.events can.under_way took' can.takes;
      chain = subst (λ (m : ℕ). IsChainFor m can.statement.what f.parcel) (sym numbered) can.chain;
      answers = subst (λ (x : GuestState). CanAnswer can.statement.line can.statement.what (process_at x n) (returning_of f)) (sym (took'.took can.events can.takes.bring)) can.answers;
    }

-- ---- the handle of the line

crossed_by : (status : Status) (o : Option Statement) (s : Statement) → some_if (is_crossing status) o ≡ Some s → o ≡ Some s
crossed_by status o s is = elim (is_crossing status) as (λ (b : Bool). some_if b o ≡ Some s → o ≡ Some s) [ true ↦ λ e. e | false ↦ λ e. absurd cc ] is

asks_call : (p : ProcessState) (s : Statement) (a : Asked) → crossing p ≡ Some s → asked_by s ≡ Some a → current_call p ≡ Some a
asks_call p s a is asks = ap (option_and_then asked_by) (crossed_by p.status (current p) s is) ∙ asks

-- the handle of a line that is on its way is one of its process's
seat_for : (script : ScriptLines) (g : GuestState) (n line : ℕ) (what : LineKind) → IsDriver script g → crossing (process_at g n) ≡ Some (record { line = line; what = what }) → HasSeat what g.processes n
seat_for script g n line (OnHandle h call) driver is =
    let within = crossing_within g n (record { line = line; what = OnHandle h call }) is in (
      within,
      current_within (process_at g n) (record { line = line; handle = h; call = call }) (driver_order script g n driver within) (asks_call (process_at g n) _ _ is refl),
    )
seat_for script g n line (Raw chain) driver is = tt

pub line_seat : (script : ScriptLines) (g : GuestState) (n : ℕ) (s : Statement) → IsDriver script g → crossing (process_at g n) ≡ Some s → HasSeat s.what g.processes n
line_seat script g n s driver is = seat_for script g n s.line s.what driver is

-- a seat stays one
seat_kept : (script : ScriptLines) (g g' : GuestState) (seat : Seat) → IsDriver script g → IsDriver script g' → IsSeat g.processes seat → IsSeat g'.processes seat
seat_kept script g g' seat driver driver' within =
    let a = driver.count in
    let b = driver'.count in
    let w = within.0 in
    let there : seat.process < length g'.processes = omega arith in
    let before = (driver.orderly seat.process within.0).named in
    let after = (driver'.orderly seat.process there).named in
    let inside = within.1 in (
      there,
      omega (arith, before, after, inside),
    )

pub has_seat_kept : (script : ScriptLines) (g g' : GuestState) (n : ℕ) (what : LineKind) → IsDriver script g → IsDriver script g' → HasSeat what g.processes n → HasSeat what g'.processes n
has_seat_kept script g g' n (OnHandle h call) driver driver' within = seat_kept script g g' (record { process = n; handle = h }) driver driver' within
has_seat_kept script g g' n (Raw chain) driver driver' within = tt

-- ---- the reply is logged

-- The statement is answered behind the events that are taken first.
pub record AnsweredIn (f : Finished) (s : Statement) (g1 : GuestState) (g2 : GuestState) : Type 0 where
  pub process : ProcessState
  pub answers : AnsweredFor s.line s.what (process_at g1 f.parcel.who) (returning_of f) process
  pub after : g2 ≡ with_process g1 f.parcel.who process

pub answered_in : (f : Finished) (s : Statement) (g1 g2 : GuestState) → crossing (process_at g1 f.parcel.who) ≡ Some s → AnswersAt f.parcel.who g1 f g2 →
    AnsweredIn f s g1 g2
answered_in f s g1 g2 is answers =
    let same = same_statement (crossing (process_at g1 f.parcel.who)) answers.1.statement s answers.1.under_way is in
    record {
      process = answers.0;
      answers = subst (λ (x : Statement). AnsweredFor x.line x.what (process_at g1 f.parcel.who) (returning_of f) answers.0) same answers.1.answers;
      after = answers.2;
    }

-- what was held back can be delivered then
pub can_settle : (f : Finished) (s : Statement) (g : GuestState) (queues : Queues) (g1 : GuestState) (queues1 : Queues) (g2 : GuestState) → (can : CanCollectReply f g queues) → can.statement ≡ s →
    TakesIf (ends_with_events s.what) g queues g1 queues1 → AnsweredIn f s g1 g2 → CanSettle s.what g2 f.parcel.who
can_settle f s g queues g1 queues1 g2 can same took a =
    let took' : TakesIf (ends_with_events can.statement.what) g queues g1 queues1 = subst (λ (x : Statement). TakesIf (ends_with_events x.what) g queues g1 queues1) (sym same) took in
    let n : ℕ = f.parcel.who in
    let e : g1 ≡ all_taken g can.events = took'.took can.events can.takes.bring in
    let here : AnsweredFor can.statement.line can.statement.what (process_at (all_taken g can.events) n) (returning_of f) a.process =
    subst (λ (x : GuestState). AnsweredFor can.statement.line can.statement.what (process_at x n) (returning_of f) a.process) e
    (subst (λ (x : Statement). AnsweredFor x.line x.what (process_at g1 n) (returning_of f) a.process) (sym same) a.answers) in
    let settles = can.settles a.process here in
    subst (λ (x : GuestState). CanSettle s.what x n) (ap (λ (x : GuestState). with_process x n a.process) (sym e) ∙ sym a.after)
    (subst (λ (x : Statement). CanSettle x.what (with_process (all_taken g can.events) n a.process) n) same settles)

pub collected_reply : (f : Finished) (s : Statement) (g : GuestState) (queues queues0 : Queues) (g1 : GuestState) (queues1 : Queues) (g2 g' : GuestState) → crossing (process_at g f.parcel.who) ≡ Some s →
    queues0 ≡ record queues { command = collected queues.command } → TakesIf (ends_with_events s.what) g queues0 g1 queues1 → AnsweredIn f s g1 g2 → g' ≡ settled s.what g2 f.parcel.who →
    CollectsReply f g queues g' queues1
collected_reply f s g queues queues0 g1 queues1 g2 g' is left took a after =
    let n : ℕ = f.parcel.who in
    let events_same : queues0.event ≡ queues.event = ap (λ (x : Queues). x.event) left in
    record {
      statement = s;
      under_way = is;
      collects = λ events are. (
          let e : g1 ≡ all_taken g events = took.took events (subst (λ (x : Queues). AreEvents (chains_if (ends_with_events s.what) x) events) (sym left) are) in
          record {
            process = a.process;
            answers = subst (λ (x : GuestState). AnsweredFor s.line s.what (process_at x n) (returning_of f) a.process) e a.answers;
            after = after ∙ ap (λ (x : GuestState). settled s.what x n) (a.after ∙ ap (λ (x : GuestState). with_process x n a.process) e);
          });
      commands = took_commands _ g queues0 g1 queues1 took ∙ ap (λ (x : Queues). x.command) left;
      again = took_events _ g queues0 g1 queues1 took ∙ ap (λ (q : Queue). again_if (ends_with_events s.what) q) events_same;
    }

-- ---- the call

-- What came back first is for this statement of the process in a place.
pub record IsFor (f : Finished) (n : ℕ) (s : Statement) (w : GuestState) (queues queues0 : Queues) : Type 0 where
  pub first : Some f ≡ first_finished queues.command.done
  pub left : queues0 ≡ record queues { command = collected queues.command }
  pub who : n ≡ f.parcel.who
  pub can : CanCollectReply f w queues0
  pub is : crossing (process_at w f.parcel.who) ≡ Some s
  pub same : can.statement ≡ s

pub found_statement : (f : Finished) (n : ℕ) (o : Option Statement) (w : GuestState) (queues : Queues) → o ≡ crossing (process_at w n) → n ≡ f.parcel.who → Some f ≡ first_finished queues.command.done →
    CanCollectIf queues.command.done w queues → IsSome o
found_statement f n o w queues found who first can =
    let c = can_collect f w queues first can in
    subst (λ (x : Option Statement). IsSome x) (sym (found ∙ (ap (λ (m : ℕ). crossing (process_at w m)) who ∙ c.under_way))) refl

pub is_for : (f : Finished) (n : ℕ) (s : Statement) (w : GuestState) (queues queues0 : Queues) → Some s ≡ crossing (process_at w n) → n ≡ f.parcel.who → Some f ≡ first_finished queues.command.done →
    CanCollectIf queues.command.done w queues → queues0 ≡ record queues { command = collected queues.command } → IsFor f n s w queues queues0
is_for f n s w queues queues0 found who first can left =
    let c = can_collect_still f w queues queues0 (can_collect f w queues first can) left in
    let is : crossing (process_at w f.parcel.who) ≡ Some s = ap (λ (m : ℕ). crossing (process_at w m)) (sym who) ∙ sym found in
    record { first = first; left = left; who = who; can = c; is = is; same = same_statement (crossing (process_at w f.parcel.who)) c.statement s c.under_way is }

pub may_take_first : (f : Finished) (n : ℕ) (s : Statement) (w : GuestState) (queues queues0 : Queues) (tells : Bool) → IsFor f n s w queues queues0 → tells ≡ ends_with_events s.what → tells ≡ true →
    CanTakeAllFrom w queues0
may_take_first f n s w queues queues0 tells it is true_is =
    let same : ends_with_events it.can.statement.what ≡ tells = ap (λ (x : Statement). ends_with_events x.what) it.same ∙ sym is in
    can_take_all tells w queues0 it.can.events true_is (subst (λ (b : Bool). CanTakeFrom (chains_if b queues0) w it.can.events) same it.can.takes)

-- The events were taken that come first.
pub record TookFirst (f : Finished) (n : ℕ) (s : Statement) (w : GuestState) (queues0 : Queues) (script : ScriptLines) (w1 : GuestState) (queues1 : Queues) : Type 0 where
  pub took : TakesIf (ends_with_events s.what) w queues0 w1 queues1
  pub is : crossing (process_at w1 f.parcel.who) ≡ Some s
  pub driver : IsDriver script w1

pub took_first : (f : Finished) (n : ℕ) (s : Statement) (w : GuestState) (queues queues0 : Queues) (tells : Bool) (script : ScriptLines) (w1 : GuestState) (queues1 : Queues) → IsFor f n s w queues queues0 →
    tells ≡ ends_with_events s.what → TakesIf tells w queues0 w1 queues1 → IsDriver script w1 → TookFirst f n s w queues0 script w1 queues1
took_first f n s w queues queues0 tells script w1 queues1 it is takes driver =
    let took : TakesIf (ends_with_events s.what) w queues0 w1 queues1 = subst (λ (b : Bool). TakesIf b w queues0 w1 queues1) is takes in
    let events : CanTakeFrom (chains_if (ends_with_events s.what) queues0) w it.can.events = subst (λ (x : Statement). CanTakeFrom (chains_if (ends_with_events x.what) queues0) w it.can.events) it.same it.can.takes in
    record { took = took; is = crossing_yet f.parcel.who s w queues0 w1 queues1 it.can.events it.is took events; driver = driver }

pub may_answer : (f : Finished) (n : ℕ) (s : Statement) (w : GuestState) (queues queues0 : Queues) (script : ScriptLines) (w1 : GuestState) (queues1 : Queues) → IsFor f n s w queues queues0 →
    TookFirst f n s w queues0 script w1 queues1 → CanBeAnswered (process_at w1 n) f
may_answer f n s w queues queues0 script w1 queues1 it t =
    let numbered = t.driver.numbered f.parcel.who (crossing_within w1 f.parcel.who s t.is) in
    subst (λ (m : ℕ). CanBeAnswered (process_at w1 m) f) (sym it.who) (can_be_answered f s w queues0 w1 queues1 it.can it.same t.took numbered)

answered_here : (f : Finished) (n : ℕ) (s : Statement) (w : GuestState) (queues queues0 : Queues) (script : ScriptLines) (w1 : GuestState) (queues1 : Queues) (w2 : GuestState) → IsFor f n s w queues queues0 →
    TookFirst f n s w queues0 script w1 queues1 → AnswersAt n w1 f w2 → AnsweredIn f s w1 w2
answered_here f n s w queues queues0 script w1 queues1 w2 it t answers =
    answered_in f s w1 w2 t.is (subst (λ (m : ℕ). AnswersAt m w1 f w2) it.who answers)

pub settles_within : (f : Finished) (n : ℕ) (s : Statement) (w : GuestState) (queues queues0 : Queues) (script : ScriptLines) (w1 : GuestState) (queues1 : Queues) (w2 : GuestState) → IsFor f n s w queues queues0 →
    TookFirst f n s w queues0 script w1 queues1 → IsDriver script w2 → HasSeat s.what w2.processes n
settles_within f n s w queues queues0 script w1 queues1 w2 it t driver =
    subst (λ (m : ℕ). HasSeat s.what w2.processes m) (sym it.who) (has_seat_kept script w1 w2 f.parcel.who s.what t.driver driver (line_seat script w1 f.parcel.who s t.driver t.is))

pub may_settle : (f : Finished) (n : ℕ) (s : Statement) (w : GuestState) (queues queues0 : Queues) (script : ScriptLines) (w1 : GuestState) (queues1 : Queues) (w2 : GuestState) → IsFor f n s w queues queues0 →
    TookFirst f n s w queues0 script w1 queues1 → AnswersAt n w1 f w2 → CanSettle s.what w2 n
may_settle f n s w queues queues0 script w1 queues1 w2 it t answers =
    subst (λ (m : ℕ). CanSettle s.what w2 m) (sym it.who) (can_settle f s w queues0 w1 queues1 w2 it.can it.same t.took (answered_here f n s w queues queues0 script w1 queues1 w2 it t answers))

pub collects_it : (f : Finished) (n : ℕ) (s : Statement) (w : GuestState) (queues queues0 : Queues) (script : ScriptLines) (w1 : GuestState) (queues1 : Queues) (w2 w3 : GuestState) → IsFor f n s w queues queues0 →
    TookFirst f n s w queues0 script w1 queues1 → AnswersAt n w1 f w2 → w3 ≡ settled s.what w2 n → CollectsIf queues.command.done w queues Did w3 queues1
collects_it f n s w queues queues0 script w1 queues1 w2 w3 it t answers settles =
    collects f w queues w3 queues1 it.first
    (collected_reply f s w queues queues0 w1 queues1 w2 w3 it.is it.left t.took (answered_here f n s w queues queues0 script w1 queues1 w2 it t answers)
    (settles ∙ ap (λ (m : ℕ). settled s.what w2 m) it.who))
