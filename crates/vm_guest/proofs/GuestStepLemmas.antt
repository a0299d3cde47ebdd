-- A statement is begun or answered behind the events that are taken first.
use Rattle.std.proofs.Common.{◌≡◌, ◌<◌, ◌^◌, ℕ, Bool, true, false, List, [], ◌∷◌, length, get_or, Option, Some, refl, sym, ap, subst, ◌∙◌}
use Rattle.vm_link.specs.Queue.{Queue, Queues}
use Rattle.vm_link.specs.declared.link.Turn.TheVariants.{Did}
use Rattle.vm_script.specs.Script.{ScriptLines}
use Rattle.vm_script.specs.declared.line.LineKind.{LineKind}
use Rattle.vm_wire.specs.declared.delivery.Delivery.{Delivery}
use Rattle.vm_guest.specs.Asking.{begins_with_events}
use Rattle.vm_guest.specs.Events.{all_taken}
use Rattle.vm_guest.specs.Guest.{GuestState, process_at, with_process}
use Rattle.vm_guest.specs.Lines.{Begins}
use Rattle.vm_guest.specs.Orderly.{IsDriver}
use Rattle.vm_guest.specs.Process.{ProcessState, issuing}
use Rattle.vm_guest.specs.Queues.{AreEvents, chains_if, again_if, Posts, HasRoomFor, BeginsAt, IssuesStatement, IssuesIf, CanIssueStatement, CanIssueIf, TakesIf, CanTakeFrom, CanTakeAllFrom}
use Rattle.vm_guest.specs.declared.asked.Statement.{Statement}
use Rattle.vm_guest.proofs.GuestLemmas.{stands_in}
use Rattle.vm_guest.proofs.OrderlyLemmas.{issuing_within, still_issuing, begins_driver, asks_no_room}

-- ---- the events that are taken first

none_taken : (events : List Delivery) (g : GuestState) → AreEvents [] events → g ≡ all_taken g events
none_taken [] g are = refl
none_taken (d ∷ ds) g are = absurd are

-- they can be
pub can_take_all : (takes : Bool) (g : GuestState) (queues : Queues) (events : List Delivery) → takes ≡ true → CanTakeFrom (chains_if takes queues) g events → CanTakeAllFrom g queues
can_take_all takes g queues events true_is can = (events, subst (λ (b : Bool). CanTakeFrom (chains_if b queues) g events) true_is can)

pub took_commands : (takes : Bool) (g : GuestState) (queues : Queues) (g' : GuestState) (queues' : Queues) → TakesIf takes g queues g' queues' → queues'.command ≡ queues.command
took_commands takes g queues g' queues' took = ap (λ (x : Queues). x.command) took.again

pub took_events : (takes : Bool) (g : GuestState) (queues : Queues) (g' : GuestState) (queues' : Queues) → TakesIf takes g queues g' queues' → queues'.event ≡ again_if takes queues.event
took_events takes g queues g' queues' took = ap (λ (x : Queues). x.event) took.again

-- ---- a statement is begun

pub issuing_yet : (n : ℕ) (s : Statement) (g : GuestState) (queues : Queues) (g' : GuestState) (queues' : Queues) (events : List Delivery) → issuing (process_at g n) ≡ Some s →
    TakesIf (begins_with_events s.what) g queues g' queues' → CanTakeFrom (chains_if (begins_with_events s.what) queues) g events → issuing (process_at g' n) ≡ Some s
issuing_yet n s g queues g' queues' events is took can =
    subst (λ (x : GuestState). issuing (process_at x n) ≡ Some s) (sym (took.took events can.bring)) (still_issuing g events n s is)

room_by : (takes : Bool) (p p' : ProcessState) (what : LineKind) (q : Queue) → begins_with_events what ≡ takes → (takes ≡ false → p' ≡ p) → HasRoomFor p what q → HasRoomFor p' what q
room_by true p p' what q is same room = λ sends. absurd (let false_is = asks_no_room p' what is in cc)
room_by false p p' what q is same room = subst (λ (x : ProcessState). HasRoomFor x what q) (sym (same refl)) room

same_without : (takes : Bool) (g : GuestState) (queues : Queues) (g' : GuestState) (queues' : Queues) → TakesIf takes g queues g' queues' → takes ≡ false → g' ≡ g
same_without takes g queues g' queues' took false_is = took.took [] (subst (λ (b : Bool). AreEvents (chains_if b queues) []) (sym false_is) tt)

pub room_yet : (n : ℕ) (s : Statement) (g : GuestState) (queues : Queues) (g' : GuestState) (queues' : Queues) → TakesIf (begins_with_events s.what) g queues g' queues' →
    HasRoomFor (process_at g n) s.what queues.command → HasRoomFor (process_at g' n) s.what queues'.command
room_yet n s g queues g' queues' took room =
    subst (λ (q : Queue). HasRoomFor (process_at g' n) s.what q) (sym (took_commands _ g queues g' queues' took))
    (room_by (begins_with_events s.what) (process_at g n) (process_at g' n) s.what queues.command refl
    (λ false_is. ap (λ (x : GuestState). process_at x n) (same_without _ g queues g' queues' took false_is)) room)

pub issued : (n : ℕ) (s : Statement) (g : GuestState) (queues : Queues) (g1 : GuestState) (queues1 : Queues) (p : ProcessState) (g' : GuestState) (queues' : Queues) →
    TakesIf (begins_with_events s.what) g queues g1 queues1 → (process_at g1 n).number ≡ n → BeginsAt s.line s.what (process_at g1 n) queues1.command p queues'.command →
    g' ≡ with_process g1 n p → queues'.event ≡ queues1.event → IssuesStatement n s g queues g' queues'
issued n s g queues g1 queues1 p g' queues' took numbered begins is kept = record {
  sends = begins.sends;
  issued = λ events are. (
      let e = took.took events are in
      record {
        process = p;
        begins = subst (λ (x : GuestState). Begins s.line s.what (process_at x n) p begins.sends) e begins.begins;
        after = is ∙ ap (λ (x : GuestState). with_process x n p) e;
      });
  posts = subst (λ (q : Queue). Posts n begins.sends q queues'.command) (took_commands _ g queues g1 queues1 took)
      (subst (λ (m : ℕ). Posts m begins.sends queues1.command queues'.command) numbered begins.posts);
  again = kept ∙ took_events _ g queues g1 queues1 took;
}

-- the driver is one then
pub begun_driver : (script : ScriptLines) (n : ℕ) (s : Statement) (g : GuestState) (q : Queue) (p : ProcessState) (g' : GuestState) (q' : Queue) → IsDriver script g → issuing (process_at g n) ≡ Some s →
    s.line < 2 ^ 32 → BeginsAt s.line s.what (process_at g n) q p q' → g' ≡ with_process g n p → IsDriver script g'
begun_driver script n s g q p g' q' driver is short begins same =
    subst (λ (x : GuestState). IsDriver script x) (sym same) (begins_driver script g n s p begins.sends driver is short begins.begins)

-- ---- the call

pub can_issue_it : (n : ℕ) (s : Statement) (g : GuestState) (queues : Queues) → issuing (process_at g n) ≡ Some s → CanIssueIf (issuing (process_at g n)) n g queues → CanIssueStatement n s g queues
can_issue_it n s g queues is can = subst (λ (o : Option Statement). CanIssueIf o n g queues) is can

pub may_take : (n : ℕ) (s : Statement) (g : GuestState) (queues : Queues) (tells : Bool) → tells ≡ begins_with_events s.what → CanIssueStatement n s g queues → tells ≡ true → CanTakeAllFrom g queues
may_take n s g queues tells is can true_is =
    can_take_all tells g queues can.events.0 true_is (subst (λ (b : Bool). CanTakeFrom (chains_if b queues) g can.events.0) (sym is) can.events.1)

-- The process is at its place once the events are taken, and its statement can be begun.
pub record BeginsHere (n : ℕ) (s : Statement) (w : GuestState) (queues : Queues) (w1 : GuestState) (queues1 : Queues) : Type 0 where
  pub took : TakesIf (begins_with_events s.what) w queues w1 queues1
  pub issuing : issuing (process_at w1 n) ≡ Some s
  pub within : n < length w1.processes
  pub room : HasRoomFor (process_at w1 n) s.what queues1.command

pub begins_here : (n : ℕ) (s : Statement) (w : GuestState) (queues : Queues) (w1 : GuestState) (queues1 : Queues) (tells : Bool) → issuing (process_at w n) ≡ Some s → CanIssueStatement n s w queues →
    tells ≡ begins_with_events s.what → TakesIf tells w queues w1 queues1 → BeginsHere n s w queues w1 queues1
begins_here n s w queues w1 queues1 tells is can same took =
    let took' : TakesIf (begins_with_events s.what) w queues w1 queues1 = subst (λ (b : Bool). TakesIf b w queues w1 queues1) same took in
    let yet = issuing_yet n s w queues w1 queues1 can.events.0 is took' can.events.1 in
    record { took = took'; issuing = yet; within = issuing_within w1 n s yet; room = room_yet n s w queues w1 queues1 took' can.room }

pub issues_it : (n : ℕ) (s : Statement) (w : GuestState) (queues : Queues) (w1 : GuestState) (queues1 : Queues) (script : ScriptLines) (g1 : GuestState) (p p' : ProcessState) (queues' : Queues) →
    issuing (process_at w n) ≡ Some s → BeginsHere n s w queues w1 queues1 → g1 ≡ w1 → IsDriver script g1 → p ≡ get_or g1.processes n p → BeginsAt s.line s.what p queues1.command p' queues'.command →
    queues'.event ≡ queues1.event → IssuesIf (issuing (process_at w n)) n w queues Did (with_process g1 n p') queues'
issues_it n s w queues w1 queues1 script g1 p p' queues' is here same driver at begins kept =
    let there = stands_in g1 w1 n p same here.within at in
    let driver1 : IsDriver script w1 = subst (λ (x : GuestState). IsDriver script x) same driver in
    subst (λ (o : Option Statement). IssuesIf o n w queues Did (with_process g1 n p') queues') (sym is) (
      refl,
      issued n s w queues w1 queues1 p' (with_process g1 n p') queues' here.took (driver1.numbered n here.within)
          (subst (λ (x : ProcessState). BeginsAt s.line s.what x queues1.command p' queues'.command) (sym there) begins)
          (ap (λ (x : GuestState). with_process x n p') same) kept,
    )

-- the driver is one then, by what it was before
pub begun_at : (n : ℕ) (s : Statement) (w : GuestState) (queues : Queues) (w1 : GuestState) (queues1 : Queues) (script : ScriptLines) (g1 : GuestState) (p p' : ProcessState) (q' : Queue) →
    BeginsHere n s w queues w1 queues1 → g1 ≡ w1 → IsDriver script w1 → p ≡ get_or g1.processes n p → s.line < 2 ^ 32 → BeginsAt s.line s.what p queues1.command p' q' → IsDriver script (with_process g1 n p')
begun_at n s w queues w1 queues1 script g1 p p' q' here same driver at short begins =
    let there = stands_in g1 w1 n p same here.within at in
    begun_driver script n s w1 queues1.command p' (with_process g1 n p') q' driver here.issuing short
    (subst (λ (x : ProcessState). BeginsAt s.line s.what x queues1.command p' q') (sym there) begins) (ap (λ (x : GuestState). with_process x n p') same)
