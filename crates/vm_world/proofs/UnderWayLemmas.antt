-- Lemmas on the lines that are on their way: a step leaves them so, but for the line that it begins or answers.
use Rattle.std.proofs.Common.{◌≡◌, ◌≢◌, ℕ, true, false, List, [], ◌∷◌, Option, Some, None, length, map, refl, sym, ap, ◌∙◌, subst, inl, inr}
use Rattle.std.specs.Prelude.{slice_get}
use Rattle.std.specs.List.{All}
use Rattle.std.proofs.lemmas.Bool.{cases_eq}
use Rattle.std.proofs.lemmas.List.Elements.{All-map}
use Rattle.std.proofs.lemmas.Option.{slice_get_within, get_or_from_slice_get}
use Rattle.v4l_const.specs.declared.model.Model.{Model}
use Rattle.vm_link.specs.declared.chains.DoneChain.{DoneChain}
use Rattle.vm_link.specs.declared.parcel.Parcel.{Parcel}
use Rattle.vm_local.specs.declared.call.Call.{Call}
use Rattle.vm_script.specs.Script.{ProcessLines}
use Rattle.vm_script.specs.declared.line.LineKind.{LineKind}
use Rattle.vm_script.specs.declared.line.LineKind.TheVariants.{OnHandle, Raw}
use Rattle.vm_wire.specs.declared.delivery.Delivery.{Delivery}
use Rattle.vm_exchange.specs.declared.way.Way.{Way}
use Rattle.vm_exchange.specs.declared.way.Way.TheVariants.{Crosses, AnsweredHere, Waits, TouchesMemory}
use Rattle.vm_handle.specs.Handle.{way_from}
use Rattle.vm_guest.specs.Asking.{statement_of}
use Rattle.vm_guest.specs.Events.{told, told_at, all_told, all_taken, caught_up, settled, events_of}
use Rattle.vm_guest.specs.Guest.{GuestState, process_in, process_at, with_process}
use Rattle.vm_guest.specs.Lines.{Begins, BeginsCall}
use Rattle.vm_guest.specs.Message.{Sending, OfCall, OfRaw}
use Rattle.vm_guest.specs.Orderly.{IsOrderly, IsFitKind}
use Rattle.vm_guest.specs.Process.{ProcessState, current, crossing, issuing, handle_at, is_crossing}
use Rattle.vm_guest.specs.declared.asked.Statement.{Statement}
use Rattle.vm_guest.specs.declared.seat.Seat.{Seat}
use Rattle.vm_guest.proofs.OrderlyLemmas.{at_other, still_crossing}
use Rattle.vm_guest.proofs.ProcessLemmas.{is_next, if_some, line_at}
use Rattle.vm_guest.proofs.StatementLemmas.{issuing_next}
use Rattle.vm_world.specs.Carried.{IsFor, HasSent, IsPosted, IsBack}

-- the line of a process that is on its way still is
abbrev pub StaysUnderWay : GuestState → GuestState → ℕ → Type 0
StaysUnderWay g g' n = (s : Statement) → crossing (process_at g n) ≡ Some s → crossing (process_at g' n) ≡ Some s

sent_still : (g g' : GuestState) (n : ℕ) (sending : Sending) → StaysUnderWay g g' n → HasSent g n sending → HasSent g' n sending
sent_still g g' n sending stays has = record {
  within = has.within;
  statement = has.statement;
  under_way = stays has.statement has.under_way;
  for = has.for;
  fit = has.fit;
}

pub posted_still : (g g' : GuestState) (p : Parcel) → StaysUnderWay g g' p.who → IsPosted g p → IsPosted g' p
posted_still g g' p stays is = (is.0, sent_still g g' p.who is.0 stays is.1, is.2)

pub back_still : (g g' : GuestState) (d : DoneChain) → StaysUnderWay g g' d.finished.parcel.who → IsBack g d → IsBack g' d
back_still g g' d stays is = (is.0, sent_still g g' d.finished.parcel.who is.0 stays is.1, is.2, is.3)

-- ---- a line that is begun

one_sent : (s t : Sending) → Some s ≡ Some t → t ≡ s
one_sent s t is = cc

-- what is sent is sent for this line
sent_call : (w : Way) (line h : ℕ) (call : Call) (p p' : ProcessState) (sending : Sending) → BeginsCall w line h call p p' (Some sending)
    → IsFor (OnHandle h call) sending × (crossing p' ≡ current p)
sent_call (Crosses c) line h call p p' sending does = (
  subst (IsFor (OnHandle h call)) (one_sent sending (OfCall c does.0) does.4) tt,
  ap crossing does.3,
)
sent_call AnsweredHere line h call p p' sending does = (let never = does.3 in cc)
sent_call Waits line h call p p' sending does = (let never = does.1 in cc)
sent_call TouchesMemory line h call p p' sending does = absurd does

sent_line : (line : ℕ) (what : LineKind) (p p' : ProcessState) (sending : Sending) → Begins line what p p' (Some sending) → IsFor what sending × (crossing p' ≡ current p)
sent_line line (OnHandle h call) p p' sending begins = sent_call (way_from (handle_at p h) call) line h call p p' sending begins
sent_line line (Raw chain) p p' sending begins = (subst (IsFor (Raw chain)) (one_sent sending (OfRaw chain) begins.1) refl, ap crossing begins.0)

pub sent_for : (line : ℕ) (what : LineKind) (p p' : ProcessState) (sending : Sending) → Begins line what p p' (Some sending) → IsFor what sending
sent_for line what p p' sending begins = (sent_line line what p p' sending begins).0

pub sent_crossing : (line : ℕ) (what : LineKind) (p p' : ProcessState) (sending : Sending) → Begins line what p p' (Some sending) → crossing p' ≡ current p
sent_crossing line what p p' sending begins = (sent_line line what p p' sending begins).1

pub issuing_current : (p : ProcessState) (s : Statement) → issuing p ≡ Some s → current p ≡ Some s
issuing_current p s is = (is_next p s (issuing_next p s is).0).at

-- a process that may begin a line has none on its way
issuing_rests : (p : ProcessState) (s t : Statement) → issuing p ≡ Some s → ¬ (crossing p ≡ Some t)
issuing_rests p s t is crosses =
    let rests = (is_next p s (issuing_next p s is).0).rests in
    let on = (if_some (is_crossing p.status) (current p) t crosses).0 in
    let never : true ≡ false = sym on ∙ ap is_crossing rests in
    cc

pub issue_stays : (g : GuestState) (ds : List Delivery) (n m : ℕ) (s : Statement) (p : ProcessState) → issuing (process_at g n) ≡ Some s → StaysUnderWay g (with_process (all_taken g ds) n p) m
issue_stays g ds n m s p is t crosses = elim (cases_eq m n) [
  | inl same ↦ absurd (issuing_rests (process_at g n) s t is (ap (λ k. crossing (process_at g k)) (sym same) ∙ crosses))
  | inr other ↦ ap crossing (at_other (all_taken g ds).processes n m p other) ∙ still_crossing g ds m t crosses
]

-- ---- what it sends is fit

holds_at : {A : Type 0} (P : A → Type 0) (xs : List A) (k : ℕ) (x : A) → All P xs → slice_get xs k ≡ Some x → P x
holds_at P xs k x all is = subst P (get_or_from_slice_get xs k x x is) (all k x (slice_get_within xs k x is))

pub line_fits : (model : Model) (lines : ProcessLines) (p : ProcessState) (s : Statement) → IsOrderly model lines p → current p ≡ Some s → IsFitKind (length lines.handles) s.what
line_fits model lines p s order at =
    let P : Statement → Type 0 = λ t. IsFitKind (length lines.handles) t.what in
    holds_at P (map statement_of lines.lines) p.answered s (All-map P statement_of lines.lines order.fit.each) (line_at model lines p s order at)

-- ---- what was held back is delivered

told_stays : (ds : List Delivery) (ps : List ProcessState) (seat : Seat) (m : ℕ) → m ≢ seat.process → process_in (all_told ps seat ds) m ≡ process_in ps m
told_stays [] ps seat m other = refl
told_stays (d ∷ ds) ps seat m other =
    told_stays ds (told_at ps seat d) seat m other ∙ at_other ps seat.process m (told (process_in ps seat.process) seat.handle d) other

caught_stays : (session : Option ℕ) (g : GuestState) (seat : Seat) (m : ℕ) → m ≢ seat.process → process_at (caught_up session g seat) m ≡ process_at g m
caught_stays None g seat m other = refl
caught_stays (Some session) g seat m other = told_stays (events_of session g.pump.held) g.processes seat m other

settled_stays : (what : LineKind) (g : GuestState) (n m : ℕ) → m ≢ n → process_at (settled what g n) m ≡ process_at g m
settled_stays (OnHandle h call) g n m other = caught_stays (handle_at (process_at g n) h).session g (record { process = n; handle = h }) m other
settled_stays (Raw chain) g n m other = refl

pub collect_stays : (g : GuestState) (ds : List Delivery) (what : LineKind) (n m : ℕ) (p : ProcessState) → m ≢ n → StaysUnderWay g (settled what (with_process (all_taken g ds) n p) n) m
collect_stays g ds what n m p other t crosses =
    ap crossing (settled_stays what (with_process (all_taken g ds) n p) n m other)
    ∙ (ap crossing (at_other (all_taken g ds).processes n m p other) ∙ still_crossing g ds m t crosses)
