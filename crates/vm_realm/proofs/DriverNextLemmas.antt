-- The driver keeps to itself in each step that takes no events before all else.
use Rattle.std.proofs.Common.{◌≡◌, ◌⊎◌, ℕ, ◌+◌, ◌<◌, ◌^◌, Bool, true, false, List, [], ◌∷◌, Option, Some, None, is_some, length, refl, sym, ap, ◌∙◌, subst, arith, inl, inr, eqb, get_or-set_same}
use Rattle.std.specs.Prelude.{All, slice_get}
use Rattle.std.specs.Option.{option_map_or}
use Rattle.std.proofs.lemmas.Bool.{false≢true, eq-eqb}
use Rattle.std.proofs.lemmas.List.Elements.{All-nil, All-cons, All-get_or}
use Rattle.std.proofs.lemmas.Option.{same_Some}
use Rattle.vm_home.specs.Moves.{is_stopping}
use Rattle.vm_lease.specs.Lease.{LeaseParts, CameBackDone}
use Rattle.vm_lease.specs.declared.lease_out.LeaseOut.{LeaseOut}
use Rattle.vm_link.specs.declared.link.Turn.TheVariants.{Did, Idle}
use Rattle.vm_log.specs.Answers.{IsDone}
use Rattle.vm_log.specs.LegalLog.{state_of}
use Rattle.vm_log.specs.declared.leased.Leased.{Leased}
use Rattle.vm_script.specs.Script.{ProcessLines}
use Rattle.vm_script.specs.declared.line.Line.{Line}
use Rattle.vm_script.specs.declared.line.LineKind.{LineKind}
use Rattle.vm_script.specs.declared.line.LineKind.TheVariants.{OnHandle, Raw}
use Rattle.vm_script.specs.Reading.{opens}
use Rattle.vm_wire.specs.Message.{Posting, Returning}
use Rattle.vm_wire.specs.Wire.{response_of}
use Rattle.vm_wire.specs.declared.delivery.Delivery.{Delivery}
use Rattle.vm_wire.specs.declared.response.Response.{Response}
use Rattle.vm_exchange.specs.Exchange.{IsAnswer, command_in}
use Rattle.vm_handle.specs.Answers.{AnswersWith, with_reply}
use Rattle.vm_handle.specs.Handle.{HandleState, Keeps}
use Rattle.vm_handle.proofs.ReplyLemmas.{replied_keeps}
use Rattle.vm_guest.specs.Asking.{begins_with_events, ends_with_events}
use Rattle.vm_guest.specs.Events.{all_taken, CanTakeAll, CanSettle}
use Rattle.vm_guest.specs.Guest.{GuestState, process_at, with_process}
use Rattle.vm_guest.specs.Lines.{AnsweredFor, CallAnswered}
use Rattle.vm_guest.specs.Orderly.{IsDriver, IsOrderly, HasSeat, lines_at}
use Rattle.vm_guest.specs.Part.{Inbox, Outbox, IssuesFor, CollectsFrom, PumpsFrom}
use Rattle.vm_guest.specs.Process.{ProcessState, is_at_rest, is_crossing, current, next, issuing, leasing, crossing, lease_out, is_lent_for, handle_at, no_handle}
use Rattle.vm_guest.specs.Queues.{KeepsFor}
use Rattle.vm_guest.specs.Steps.{Issued, Collected, LeasesFor, given_back}
use Rattle.vm_guest.specs.declared.asked.Asked.{Asked as AskedCall}
use Rattle.vm_guest.specs.declared.asked.Statement.{Statement}
use Rattle.vm_guest.proofs.GuestCollectLemmas.{line_seat, has_seat_kept, same_statement}
use Rattle.vm_guest.proofs.OrderlyLemmas.{issuing_within, crossing_within, leasing_within, begins_driver, answered_driver, leases_driver, given_back_driver, taken_driver, settled_driver, HasHandle}
use Rattle.vm_guest.proofs.ProcessLemmas.{asked_what_is}
use Rattle.vm_guest.proofs.StatementLemmas.{issuing_next, leasing_next}
use Rattle.vm_realm.specs.declared.step.Step.{Step}
use Rattle.vm_realm.specs.declared.step.Step.TheVariants.{Issue, Execute, Resume, Begin, Finish, Announce, Collect, Pump, Lease, GiveBack}
use Rattle.vm_realm.specs.World.{WorldState}
use Rattle.vm_realm.specs.Inner.{Inner, driver_state, id_in}
use Rattle.vm_realm.specs.Laws.{CanCollect, behind_events}
use Rattle.vm_realm.specs.Steps.{Steps, DoesExecute, after_driver, inbox_of}
use Rattle.vm_realm.specs.Slice.{Slice, slice_at, events_for}
use Rattle.vm_realm.specs.SliceSteps.{TakesNone, takes_by, takes_for}
use Rattle.vm_realm.specs.Sound.{OpenInOrder, IsTold, IsSoundBy, IsSound, id_at, inner_at}
use Rattle.vm_realm.proofs.CanCollectLemmas.{IsFirstTold, told_first, IsHandleTold, handle_told, own_call, Reads, reads, can_collect}
use Rattle.vm_realm.proofs.CanTakeLemmas.{can_take_all, room_there}
use Rattle.vm_realm.proofs.CollectLemmas.{none_for}
use Rattle.vm_realm.proofs.FewMessagesLemmas.{held_few}
use Rattle.vm_realm.proofs.IssueLemmas.{none_first}
use Rattle.vm_realm.proofs.LendLemmas.{line_at}
use Rattle.vm_realm.proofs.ProcessLemmas.{some_where}

-- ---- a line's number

numbers_short : (opened : ℕ) (ls : List Line) → OpenInOrder opened ls → All (λ (l : Line). l.number < 2 ^ 32) ls
numbers_short opened [] order = All-nil (λ (l : Line). l.number < 2 ^ 32)
numbers_short opened (l ∷ ls) order = All-cons (λ (l : Line). l.number < 2 ^ 32) l ls order.1 (numbers_short (opened + opens l.what) ls order.2)

-- goes into four bytes
pub short_line : (w : WorldState) (rows : List (List Inner)) (n : ℕ) (s : Statement) → IsSoundBy w rows → n < length w.guest.processes → current (process_at w.guest n) ≡ Some s → s.line < 2 ^ 32
short_line w rows n s sound within now =
    let p : ProcessState = process_at w.guest n in
    let lines : ProcessLines = lines_at w.script n in
    let orderly : IsOrderly w.script.model lines p = sound.lines.orderly n within in
    let at : _ = line_at lines.lines p.answered s (ap (λ ss. slice_get ss p.answered) (sym orderly.statements) ∙ now) in
    let order : OpenInOrder 0 lines.lines = All-get_or (λ (q : ProcessLines). OpenInOrder 0 q.lines) w.script.processes n _ (omega (arith, within, sound.lines.count)) sound.script.opens in
    subst (λ k. k < 2 ^ 32) (ap (λ (t : Statement). t.line) (sym at.1)) (at.2 (λ (l : Line). l.number < 2 ^ 32) (numbers_short 0 lines.lines order))

-- the statement that comes next is the first that isn't answered
pub next_current : (p : ProcessState) (s : Statement) → next p ≡ Some s → current p ≡ Some s
next_current p s is = (some_where (is_at_rest p.status) (current p) s is).1

crossing_current : (p : ProcessState) (s : Statement) → crossing p ≡ Some s → current p ≡ Some s
crossing_current p s is = (some_where (is_crossing p.status) (current p) s is).1

-- ---- events

-- each event can be taken in its turn
pub events_can : (w : WorldState) → IsSound w → CanTakeAll w.guest w.events
events_can w sound = can_take_all (room_there (λ w rows n h by named. held_few (slice_at w n h) (inner_at w rows n h) (by.slices n h named))) w sound

-- ---- Issue

issue_driver : (w : WorldState) (rows : List (List Inner)) (n : ℕ) (o : Option Statement) (g : GuestState) (left : Inbox) (posted : Outbox) → IsSoundBy w rows → issuing (process_at w.guest n) ≡ o → is_some o ≡ true →
    (takes_by o (λ s. begins_with_events s.what) ≡ false) ⊎ (w.events ≡ []) → IssuesFor o n w.guest (inbox_of w) Did g left posted → IsDriver w.script g
issue_driver w rows n None g left posted sound is may none does = absurd (false≢true may)
issue_driver w rows n (Some s) g left posted sound is may none (turn, d) =
    let first : _ = none_first (begins_with_events s.what) w.events none in
    let begun : Issued n s w.guest [] g d.sends = subst (λ es. Issued n s w.guest es g d.sends) first.0 d.issued in
    let within : n < length w.guest.processes = issuing_within w.guest n s is in
    let short : s.line < 2 ^ 32 = short_line w rows n s sound within (next_current (process_at w.guest n) s (issuing_next (process_at w.guest n) s is).0) in
    subst (IsDriver w.script) (sym begun.after) (begins_driver w.script w.guest n s begun.process d.sends sound.lines is short begun.begins)

-- ---- Collect

-- the handle of a call that is answered keeps what each handle does
call_keeps : (w : WorldState) (rows : List (List Inner)) (h : ℕ) (r : Returning) → IsSoundBy w rows → r.reply.who < length w.guest.processes → (t : IsHandleTold w rows h r) →
    Reads (slice_at w r.reply.who h) (inner_at w rows r.reply.who h) r t.told → t.told.line < 2 ^ 32 →
    (p' : ProcessState) → CallAnswered t.told.line h t.told.call (process_at w.guest r.reply.who) r p' → Keeps (handle_at p' h).log (handle_at p' h).session (handle_at p' h).stage
call_keeps w rows h r sound within t reading short p' a =
    let n : ℕ = r.reply.who in
    let p : ProcessState = process_at w.guest n in
    let hd : HandleState = handle_at p h in
    let x : Slice = slice_at w n h in
    let told : IsTold x (inner_at w rows n h) r = t.told in
    let same : reading.crossing.command ≡ a.command = same_Some reading.crossing.command a.command (sym (ap command_in reading.crosses) ∙ a.crossed) in
    let response : Response = response_of a.command r.reply.bytes in
    let is : response ≡ _ = ap (λ c. response_of c r.reply.bytes) (sym same) ∙ reading.read in
    let answer : IsAnswer (driver_state x) told.line told.call response told.reply = (reading.from.next, id_in x, (reading.from.is_call, is)) in
    let with : AnswersWith (state_of hd.log) told.line told.call response r.held = record {
      reply = told.reply;
      next = reading.from.next;
      session = id_in x;
      is_call = reading.from.is_call;
      told = is;
      memories = reading.from.memories;
    } in
    let y : HandleState = with_reply hd told.line told.call told.reply response r.held in
    let now : handle_at p' h ≡ y =
    ap (λ (z : ProcessState). handle_at z h) (a.after told.reply answer) ∙ get_or-set_same p.handles h y no_handle t.there in
    let keeps : Keeps y.log y.session y.stage =
    replied_keeps hd.log y.log hd.session hd.stage told.line told.call response r.held told.reply with (sound.slices n h t.named).handle refl short told.address refl in
    subst (λ (z : HandleState). Keeps z.log z.session z.stage) (sym now) keeps

keeps_for : (w : WorldState) (rows : List (List Inner)) (r : Returning) (rs : List Returning) (s : Statement) (what : LineKind) (p' : ProcessState) → IsSoundBy w rows → w.replies ≡ r ∷ rs →
    crossing (process_at w.guest r.reply.who) ≡ Some s → s.what ≡ what → (ends_with_events what ≡ true → w.events ≡ []) → AnsweredFor s.line what (process_at w.guest r.reply.who) r p' → KeepsFor what p'
keeps_for w rows r rs s (Raw chain) p' sound is now what quiet answers = tt
keeps_for w rows r rs s (OnHandle h call) p' sound is now what quiet answers =
    let n : ℕ = r.reply.who in
    let first : IsFirstTold w r = told_first w rows r rs sound is in
    let same : first.statement ≡ s = same_Some first.statement s (sym first.now ∙ crossing_current (process_at w.guest n) s now) in
    let is_call : first.statement.what ≡ OnHandle h call = ap (λ (t : Statement). t.what) same ∙ what in
    let t : IsHandleTold w rows h r = handle_told w rows r h call sound first is_call in
    let own : _ = own_call w rows r h call sound first is_call t in
    let none : is_stopping t.told.call ≡ true → (slice_at w n h).events ≡ [] =
    λ stops. ap (events_for (id_at w n h)) (quiet (ap is_stopping (sym own.1) ∙ stops)) ∙ none_for (id_at w n h) in
    let reading : Reads (slice_at w n h) (inner_at w rows n h) r t.told = reads w rows h r sound t none in
    let line : t.told.line ≡ s.line = own.0 ∙ ap (λ (t : Statement). t.line) same in
    let short : t.told.line < 2 ^ 32 = subst (λ k. k < 2 ^ 32) (sym line) (short_line w rows n s sound first.within (crossing_current (process_at w.guest n) s now)) in
    call_keeps w rows h r sound first.within t reading short p'
    (subst (λ k. CallAnswered k h t.told.call (process_at w.guest n) r p') (sym line) (subst (λ c. CallAnswered s.line h c (process_at w.guest n) r p') (sym own.1) answers))

seat_handle : (g : GuestState) (n : ℕ) (what : LineKind) → HasSeat what g.processes n → HasHandle what (process_at g n)
seat_handle g n (OnHandle h call) seat = seat.1
seat_handle g n (Raw chain) seat = tt

not_idle : Did ≡ Idle → ⊥
not_idle same = cc

collect_driver : (w : WorldState) (rows : List (List Inner)) (replies : List Returning) (g : GuestState) (left : Inbox) (posted : Outbox) → IsSoundBy w rows → w.replies ≡ replies →
    (takes_for w.guest replies ≡ false) ⊎ (w.events ≡ []) → CollectsFrom replies w.guest (inbox_of w) Did g left posted → IsDriver w.script g
collect_driver w rows [] g left posted sound is none (turn, same, kept, nothing) = absurd (not_idle turn)
collect_driver w rows (r ∷ rs) g left posted sound is none (turn, d) =
    let n : ℕ = r.reply.who in
    let s : Statement = d.statement in
    let b : Bool = ends_with_events s.what in
    let takes : takes_for w.guest (r ∷ rs) ≡ b = ap (λ o. takes_by o (λ (t : Statement). ends_with_events t.what)) d.under_way in
    let quiet : (b ≡ false) ⊎ (w.events ≡ []) = elim none [ inl free ↦ inl (sym takes ∙ free) | inr empty ↦ inr empty ] in
    let first : _ = none_first b w.events quiet in
    let done : Collected s w.guest [] r g = subst (λ es. Collected s w.guest es r g) first.0 d.collected in
    let at : b ≡ true → w.events ≡ [] = elim quiet [ inl free ↦ λ ends. absurd (false≢true (sym free ∙ ends)) | inr empty ↦ λ ends. empty ] in
    let mid : GuestState = with_process w.guest n done.process in
    let driver : IsDriver w.script mid =
    answered_driver w.script w.guest n s r done.process sound.lines d.under_way done.answers (keeps_for w rows r rs s s.what done.process sound is d.under_way refl at done.answers) in
    let seat : HasSeat s.what mid.processes n = has_seat_kept w.script w.guest mid n s.what sound.lines driver (line_seat w.script w.guest n s sound.lines d.under_way) in
    let c : CanCollect w r = can_collect w rows r rs sound is in
    let P : Statement → GuestState → Type 0 = λ t z. (p : ProcessState) → AnsweredFor t.line t.what (process_at z n) r p → CanSettle t.what (with_process z n p) n in
    let settles : P s (behind_events w s.what) = subst (λ (t : Statement). P t (behind_events w t.what)) (same_statement (crossing (process_at w.guest n)) c.statement s c.under_way d.under_way) c.settles in
    let here : P s w.guest = subst (P s) (ap (all_taken w.guest) first.0) settles in
    subst (IsDriver w.script) (sym done.after)
    (settled_driver w.script s.what mid n driver (seat_handle mid n s.what seat) (omega (arith, sound.lines.count, driver.count, crossing_within w.guest n s d.under_way)) (here done.process done.answers))

-- ---- Pump

pump_driver : (w : WorldState) (ds : List Delivery) (g : GuestState) (left : Inbox) (posted : Outbox) → IsSound w → w.events ≡ ds → PumpsFrom ds w.guest (inbox_of w) Did g left posted → IsDriver w.script g
pump_driver w [] g left posted sound is (turn, same, kept, nothing) = absurd (not_idle turn)
pump_driver w (d ∷ ds) g left posted sound is (turn, took, kept, again) =
    let can : CanTakeAll w.guest (d ∷ ds) = subst (CanTakeAll w.guest) is (events_can w sound) in
    subst (IsDriver w.script) (sym took) (taken_driver w.script w.guest d sound.1.lines can.0)

-- ---- Lease

lease_driver : (w : WorldState) (rows : List (List Inner)) (n : ℕ) (o : Option AskedCall) (leased : Leased) (g : GuestState) → IsSoundBy w rows → leasing (process_at w.guest n) ≡ o → is_some o ≡ true → LeasesFor o n w.guest leased g →
    IsDriver w.script g
lease_driver w rows n None leased g sound is may does = absurd (false≢true may)
lease_driver w rows n (Some a) leased g sound is may (moved, does, after) =
    let p : ProcessState = process_at w.guest n in
    let asks : _ = leasing_next p a is in
    let within : n < length w.guest.processes = leasing_within w.guest n a is in
    let line : asks.0.line ≡ a.line = (asked_what_is asks.0 a asks.2).0 in
    let short : a.line < 2 ^ 32 = subst (λ k. k < 2 ^ 32) line (short_line w rows n asks.0 sound within (next_current p asks.0 asks.1)) in
    subst (IsDriver w.script) (sym after) (leases_driver w.script w.guest n a leased moved sound.lines is short does)

-- ---- GiveBack

back_driver : (w : WorldState) (n : ℕ) (entry : LeaseOut) (lease : LeaseParts) → IsDriver w.script w.guest → lease_out (process_at w.guest n) ≡ Some entry → CameBackDone entry lease → IsDriver w.script (given_back n w.guest lease)
back_driver w n entry lease driver out back =
    let p : ProcessState = process_at w.guest n in
    let lent : is_lent_for p lease.line ≡ true =
    ap (λ o. option_map_or (λ (e : LeaseOut). eqb e.line lease.line) o false) out ∙ eq-eqb entry.line lease.line (sym back.line) in
    given_back_driver w.script w.guest n lease driver lent (subst (λ o. IsDone o lease) (sym out) back)

-- ---- each step

execute_driver : (w w' : WorldState) (ms : List Posting) → IsDriver w.script w.guest → DoesExecute ms w w' → IsDriver w'.script w'.guest
execute_driver w w' [] driver does = absurd does
execute_driver w w' (m ∷ ms) driver (out, host, does, after) = subst (λ (v : WorldState). IsDriver v.script v.guest) (sym after) driver

by_driver : (w w' : WorldState) (g : GuestState) (left : Inbox) (posted : Outbox) → w' ≡ after_driver w g left posted → IsDriver w.script g → IsDriver w'.script w'.guest
by_driver w w' g left posted after driver = subst (λ (v : WorldState). IsDriver v.script v.guest) (sym after) driver

pub driver_next : (w w' : WorldState) (s : Step) → IsSound w → TakesNone w s → Steps w s w' → IsDriver w'.script w'.guest
driver_next w w' (Issue n) sound none (may, (g, left, posted, does, after)) =
    by_driver w w' g left posted after (issue_driver w sound.0 n (issuing (process_at w.guest n)) g left posted sound.1 refl may none does)
driver_next w w' Execute sound none (may, does) = execute_driver w w' w.requests sound.1.lines does
driver_next w w' (Resume session) sound none (may, (r, host, does, after)) = subst (λ (v : WorldState). IsDriver v.script v.guest) (sym after) sound.1.lines
driver_next w w' (Begin session) sound none (may, (job, d, does, after)) = subst (λ (v : WorldState). IsDriver v.script v.guest) (sym after) sound.1.lines
driver_next w w' (Finish number) sound none (may, (done, (entry, d, out, back, does, after))) = subst (λ (v : WorldState). IsDriver v.script v.guest) (sym after) sound.1.lines
driver_next w w' Announce sound none (may, (delivery, host, does, after)) = subst (λ (v : WorldState). IsDriver v.script v.guest) (sym after) sound.1.lines
driver_next w w' Collect sound none (may, (g, left, posted, does, after)) =
    by_driver w w' g left posted after (collect_driver w sound.0 w.replies g left posted sound.1 refl none does)
driver_next w w' Pump sound none (may, (g, left, posted, does, after)) = by_driver w w' g left posted after (pump_driver w w.events g left posted sound refl does)
driver_next w w' (Lease n) sound none (may, (leased, g, does, after)) =
    subst (λ (v : WorldState). IsDriver v.script v.guest) (sym after) (lease_driver w sound.0 n (leasing (process_at w.guest n)) leased g sound.1 refl may does)
driver_next w w' (GiveBack n) sound none (may, (entry, lease, out, back, after)) =
    subst (λ (v : WorldState). IsDriver v.script v.guest) (sym after) (back_driver w n entry lease sound.1.lines out back)
