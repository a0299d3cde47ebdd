-- Each step of the driver that may come next can be done.
use Rattle.std.proofs.Common.{◌≡◌, inl, ℕ, ◌<◌, Bool, true, false, not, List, [], ◌∷◌, Option, Some, None, is_some, length, set, refl, sym, ap, ◌∙◌, subst, if◌then◌else◌}
use Rattle.std.specs.Prelude.{IsSome}
use Rattle.std.proofs.lemmas.Bool.{false≢true, true≢false}
use Rattle.v4l_const.specs.declared.errno.Errno.{Errno}
use Rattle.v4l_rules.specs.Refusals.{first_refusal}
use Rattle.vm_frame.specs.declared.mem.Held.{Held}
use Rattle.vm_frame.specs.declared.mem.Mem.{Mem}
use Rattle.vm_link.specs.declared.link.Turn.TheVariants.{Did}
use Rattle.vm_local.specs.Calls.{row_of}
use Rattle.vm_local.specs.State.{LocalState}
use Rattle.vm_local.specs.declared.call.Call.{Call}
use Rattle.vm_local.specs.declared.call.Call.TheVariants.{OpenHandle, UAlloc, QBuf, DqBuf, Mmap, Munmap, Peek, Hash, Poke, Fill, DqEvent}
use Rattle.vm_local.specs.declared.reply.Reply.{Reply}
use Rattle.vm_home.specs.Home.{home_of, AreInPlace, IsThere}
use Rattle.vm_home.specs.Moves.{goes_along, touches_bytes}
use Rattle.vm_home.proofs.LawLemmas.{queued_goes}
use Rattle.vm_log.specs.Answers.{with_line, Sends}
use Rattle.vm_log.specs.LegalLog.{LogState, IsSound as IsSoundLog, state_of, number_away}
use Rattle.vm_log.specs.declared.away.Away.TheVariants.{Nothing, Sent}
use Rattle.vm_script.specs.declared.line.LineKind.{LineKind}
use Rattle.vm_script.specs.declared.line.LineKind.TheVariants.{OnHandle, Raw}
use Rattle.vm_wire.specs.Message.{Returning}
use Rattle.vm_wire.specs.Wire.{response_of}
use Rattle.vm_wire.specs.declared.delivery.Delivery.{Delivery}
use Rattle.vm_exchange.specs.Exchange.{IsAnswer, unless_by, once_answered, way_of}
use Rattle.vm_exchange.specs.declared.crossing.Crossing.{Crossing as CrossingOf}
use Rattle.vm_exchange.specs.declared.way.Way.{Way}
use Rattle.vm_exchange.specs.declared.way.Way.TheVariants.{Crosses, AnsweredHere, Waits, TouchesMemory}
use Rattle.vm_handle.specs.Answers.{answered_here}
use Rattle.vm_handle.specs.Handle.{HandleState, id_of, way_from}
use Rattle.vm_handle.specs.declared.stage.Stage.TheVariants.{Underway}
use Rattle.vm_handle.proofs.StartLemmas.{rests, crosses_unrefused}
use Rattle.vm_guest.specs.Asking.{begins_with_events, ends_with_events, asked_in, is_leased}
use Rattle.vm_guest.specs.Events.{all_taken, settled}
use Rattle.vm_guest.specs.Guest.{GuestState, process_at, with_process}
use Rattle.vm_guest.specs.Lines.{Begins, BeginsCall, waiting, sends_by, sends_in, CanAnswer, AnsweredFor, replied}
use Rattle.vm_guest.specs.Message.{Sending, OfCall, OfRaw}
use Rattle.vm_guest.specs.Orderly.{IsOrderly, lines_at}
use Rattle.vm_guest.specs.Part.{Inbox, Outbox, postings, events_first, inbox_left, IssuesFor, Issues, CollectsFrom, Collects, Pumps}
use Rattle.vm_guest.specs.Process.{ProcessState, current, current_call, next, issuing, handle_at, with_handle, doing, rested}
use Rattle.vm_guest.specs.Raw.{errno_told}
use Rattle.vm_guest.specs.declared.asked.Asked.{Asked as AskedCall}
use Rattle.vm_guest.specs.declared.asked.Statement.{Statement}
use Rattle.vm_guest.specs.declared.status.Status.TheVariants.{Crossing, Blocked}
use Rattle.vm_guest.proofs.OrderlyLemmas.{issuing_within, asks_no_room}
use Rattle.vm_guest.proofs.StatementLemmas.{issuing_next}
use Rattle.vm_realm.specs.World.{WorldState}
use Rattle.vm_realm.specs.Enabled.{is_some_of}
use Rattle.vm_realm.specs.Inner.{Inner}
use Rattle.vm_realm.specs.Laws.{CanCollect, behind_events}
use Rattle.vm_realm.specs.Sound.{IsSoundBy}
use Rattle.vm_realm.specs.Steps.{DriverDoes, inbox_of, after_driver}
use Rattle.vm_realm.proofs.CanCollectLemmas.{can_collect}
use Rattle.vm_realm.proofs.DriverNextLemmas.{next_current}
use Rattle.vm_realm.proofs.KeepReplyLemmas.{one_answer}
use Rattle.vm_realm.proofs.LendLemmas.{call_there, rest_answered}
use Rattle.vm_realm.proofs.ProcessLemmas.{next_is}
use Rattle.vm_realm.proofs.PumpingLemmas.{pumped_once, pump_may}
use Rattle.vm_realm.proofs.ShareLemmas.{log_state}

-- ---- Pump

pub pump_can : (w : WorldState) (ds : List Delivery) → w.events ≡ ds → is_some_of ds ≡ true → (w' : WorldState) × DriverDoes Pumps w w'
pump_can w [] is may = absurd (false≢true may)
pump_can w (d ∷ ds) is may = (pumped_once w d ds, (pump_may w d ds is).1)

-- ---- Collect

some_errno : (o : Option Errno) → IsSome o → (e : Errno) × (o ≡ Some e)
some_errno None some = absurd (false≢true some)
some_errno (Some e) some = (e, refl)

-- what can answer a line does
answers_some : (line : ℕ) (what : LineKind) (p : ProcessState) (r : Returning) → CanAnswer line what p r → (p' : ProcessState) × AnsweredFor line what p r p'
answers_some line (Raw chain) p r can = let e : _ = some_errno (errno_told r.reply.bytes) can.1 in (rested (record p { raws = set p.raws p.answered (Some e.0) }), (e.0, e.1, refl))
answers_some line (OnHandle h call) p r (command, crossed, may) =
    let a = may.may in
    let response = response_of command r.reply.bytes in
    let answer : IsAnswer (state_of (handle_at p h).log) line call response a.reply = (a.next, a.session, (a.is_call, a.told)) in (
      replied p line h call a.reply response r.held,
      record {
        command = command;
        crossed = crossed;
        may = may;
        after = λ reply other. ap (λ (q : Reply). replied p line h call q response r.held) (one_answer (state_of (handle_at p h).log) line call response a.reply reply answer other);
      },
    )

pub collect_can : (w : WorldState) (rows : List (List Inner)) (replies : List Returning) → IsSoundBy w rows → w.replies ≡ replies → is_some_of replies ≡ true → (w' : WorldState) × DriverDoes Collects w w'
collect_can w rows [] sound is may = absurd (false≢true may)
collect_can w rows (r ∷ rs) sound is may =
    let c : CanCollect w r = can_collect w rows r rs sound is in
    let n : ℕ = r.reply.who in
    let s : Statement = c.statement in
    let b : Bool = ends_with_events s.what in
    let before : GuestState = behind_events w s.what in
    let a : (p' : ProcessState) × AnsweredFor s.line s.what (process_at before n) r p' = answers_some s.line s.what (process_at before n) r c.answers in
    let g : GuestState = settled s.what (with_process before n a.0) n in
    let left : Inbox = record (inbox_left b (inbox_of w)) { replies = rs } in
    let posted : Outbox = record { commands = []; chains = length (events_first b (inbox_of w)) } in
    let does : CollectsFrom (r ∷ rs) w.guest (inbox_of w) Did g left posted = (
      refl,
      record {
        statement = s;
        under_way = c.under_way;
        collected = record { process = a.0; answers = a.1; after = refl };
        left = refl;
        commands = refl;
        chains = refl;
      },
    ) in
    (after_driver w g left posted, (g, left, posted, subst (λ xs. CollectsFrom xs w.guest (inbox_of w) Did g left posted) (sym is) does, refl))

-- ---- a memory at home

pub placed : (l : LogState) → IsSoundLog l → l.away ≡ Nothing → AreInPlace (state_of l) None l.home
placed l sound none = subst (λ a. AreInPlace (state_of l) (number_away (state_of l) a) l.home) none sound.in_place

pub there_mem : (s : LocalState) (n : ℕ) (o : Option Mem) → IsThere s n o → (mem : Mem) × (o ≡ Some mem)
there_mem s n None there = absurd there
there_mem s n (Some mem) there = (mem, refl)

-- what goes along with a call that crosses is there
sends_some : (hd : HandleState) (call : Call) (c : CrossingOf) → IsSoundLog hd.log → hd.log.away ≡ Nothing → way_from hd call ≡ Crosses c →
    (along : Option Held) × (log : LogState) × Sends (goes_along (state_of hd.log) call) (with_line hd.log) call along log
sends_some hd (QBuf t i user used ts) c sound none is =
    let l : LogState = hd.log in
    let s : LocalState = state_of l in
    let call : Call = QBuf t i user used ts in
    let goes : _ = queued_goes s t i used ts user l.home (l.model, l.entries, log_state l sound.legal) (crosses_unrefused (id_of hd.session) s t i used ts user call c is refl) (placed l sound none) in
    let mem : _ = there_mem s goes.0 (home_of l.home goes.0) goes.2 in
    let held : Held = record { queue = t; index = i; mem = mem.0 } in
    let log : LogState = record (with_line l) { home = set l.home goes.0 None; away = Sent goes.0 } in
    (Some held, log, subst (λ o. Sends o (with_line l) call (Some held) log) (sym goes.1) ((refl, refl), mem.1, refl))
sends_some hd call c sound none is = (None, with_line hd.log, (refl, refl))

-- ---- Issue

abbrev is_touch : Way → Bool
is_touch (Crosses c) = false
is_touch AnsweredHere = false
is_touch Waits = false
is_touch TouchesMemory = true

opened_way : (b : Bool) (way : Way) → is_touch way ≡ false → is_touch (if b then way else AnsweredHere) ≡ false
opened_way true way free = free
opened_way false way free = refl

unless_way : (o : Option Errno) (way : Way) → is_touch way ≡ false → is_touch (unless_by o way) ≡ false
unless_way None way free = free
unless_way (Some e) way free = refl

waits_way : (b : Bool) → is_touch (if b then Waits else AnsweredHere) ≡ false
waits_way true = refl
waits_way false = refl

-- only a call that touches a memory's bytes is begun by a lease
touch_way : (id : ℕ) (s : LocalState) (call : Call) → touches_bytes call ≡ false → is_touch (way_of id s call) ≡ false
touch_way id s (OpenHandle nonblock) free = refl
touch_way id s (UAlloc u len off) free = refl
touch_way id s DqEvent free = refl
touch_way id s (QBuf t i user used ts) free = unless_way (first_refusal (row_of s 0 0 (QBuf t i user used ts)).refusals) _ refl
touch_way id s (DqBuf t) free = unless_way (first_refusal (row_of s 0 0 (DqBuf t)).refusals) (once_answered s (DqBuf t)) (waits_way (row_of s 0 0 (DqBuf t)).waits)
touch_way id s (Mmap m t i ro) free = unless_way (first_refusal (row_of s 0 0 (Mmap m t i ro)).refusals) _ refl
touch_way id s (Munmap m) free = unless_way (first_refusal (row_of s 0 0 (Munmap m)).refusals) _ refl
touch_way id s (Peek m off len) free = absurd (true≢false free)
touch_way id s (Hash m) free = absurd (true≢false free)
touch_way id s (Poke m off bytes) free = absurd (true≢false free)
touch_way id s (Fill m seed) free = absurd (true≢false free)
touch_way id s call free = opened_way s.opened _ refl

record CanSend (p : ProcessState) (h : ℕ) (call : Call) : Type 0 where
  sound : IsSoundLog (handle_at p h).log
  none : (handle_at p h).log.away ≡ Nothing

-- a call is begun
begins_call : (way : Way) (line h : ℕ) (call : Call) (p : ProcessState) → way_from (handle_at p h) call ≡ way → touches_bytes call ≡ false → (sends_by way ≡ true → CanSend p h call) →
    (p' : ProcessState) × (sends : Option Sending) × BeginsCall way line h call p p' sends
begins_call (Crosses c) line h call p is free can =
    let ready : CanSend p h call = can refl in
    let hd : HandleState = handle_at p h in
    let sends : _ = sends_some hd call c ready.sound ready.none is in
    let handle : HandleState = record hd { log = sends.1; stage = Underway line call } in
    (doing Crossing (with_handle p h handle), Some (OfCall c sends.0), (sends.0, handle, record { log = sends.1; sends = sends.2; after = refl }, refl, refl))
begins_call AnsweredHere line h call p is free can =
    let hd : HandleState = handle_at p h in
    let log : LogState = answered_here (with_line hd.log) line call in
    let handle : HandleState = record hd { log = log } in
    (rested (with_handle p h handle), None, (handle, record { log = log; answers = inl refl; after = refl }, refl, refl))
begins_call Waits line h call p is free can = (doing Blocked (with_handle p h (waiting (handle_at p h) line call)), None, (refl, refl))
begins_call TouchesMemory line h call p is free can = absurd (true≢false (sym (ap is_touch is) ∙ touch_way (id_of (handle_at p h).session) (state_of (handle_at p h).log) call free))

-- a handle that is asked for what it has to send
abbrev MaySend : LineKind → ProcessState → Type 0
MaySend (OnHandle h call) p = CanSend p h call
MaySend (Raw chain) p = Unit {0}

begins_some : (line : ℕ) (what : LineKind) (p : ProcessState) → is_leased what ≡ false → (sends_in p what ≡ true → MaySend what p) → (p' : ProcessState) × (sends : Option Sending) × Begins line what p p' sends
begins_some line (OnHandle h call) p free can = begins_call (way_from (handle_at p h) call) line h call p refl free can
begins_some line (Raw chain) p free can = (doing Crossing p, Some (OfRaw chain), (refl, refl))

not_true : (b : Bool) → not b ≡ true → b ≡ false
not_true true is = absurd (false≢true is)
not_true false is = refl

-- a process at rest may send what its next line has to
may_send : (w : WorldState) (rows : List (List Inner)) (n : ℕ) (s : Statement) (what : LineKind) → IsSoundBy w rows → issuing (process_at w.guest n) ≡ Some s → s.what ≡ what → MaySend what (process_at w.guest n)
may_send w rows n s (Raw chain) sound is what = tt
may_send w rows n s (OnHandle h call) sound is what =
    let p : ProcessState = process_at w.guest n in
    let within : n < length w.guest.processes = issuing_within w.guest n s is in
    let comes : next p ≡ Some s = (issuing_next p s is).0 in
    let now : current p ≡ Some s = next_current p s comes in
    let asked : AskedCall = record { line = s.line; handle = h; call = call } in
    let there : h < length p.handles = call_there w n s asked sound.lines within now (ap (asked_in s.line) what) in
    let orderly : IsOrderly w.script.model (lines_at w.script n) p = sound.lines.orderly n within in
    let answered = rest_answered p.status (current_call p) h (handle_at p h) (next_is p s comes).0 (orderly.out h there) in
    let each = orderly.each h there in
    record {
      sound = each.sound;
      none = (rests (id_of (handle_at p h).session) (state_of (handle_at p h).log) (handle_at p h).log.away (handle_at p h).log.unanswered (handle_at p h).stage answered each.keeps.fits).1;
    }

issues_some : (w : WorldState) (rows : List (List Inner)) (n : ℕ) (o : Option Statement) → IsSoundBy w rows → issuing (process_at w.guest n) ≡ o → is_some o ≡ true →
    (g : GuestState) × (left : Inbox) × (posted : Outbox) × IssuesFor o n w.guest (inbox_of w) Did g left posted
issues_some w rows n None sound is may = absurd (false≢true may)
issues_some w rows n (Some s) sound is may = by_begun (begins_some s.line s.what p (not_true (is_leased s.what) (issuing_next (process_at w.guest n) s is).1) (can (begins_with_events s.what) refl))
  where
    events : List Delivery
    events = events_first (begins_with_events s.what) (inbox_of w)

    p : ProcessState
    p = process_at (all_taken w.guest (events_first (begins_with_events s.what) (inbox_of w))) n

    can : (b : Bool) → begins_with_events s.what ≡ b → sends_in p s.what ≡ true → MaySend s.what p
    can true asks sends = absurd (false≢true (sym (asks_no_room p s.what asks) ∙ sends))
    can false asks sends =
        let same : p ≡ process_at w.guest n = ap (λ b. process_at (all_taken w.guest (events_first b (inbox_of w))) n) asks in
        subst (MaySend s.what) (sym same) (may_send w rows n s s.what sound is refl)

    by_begun : (p' : ProcessState) × (sends : Option Sending) × Begins s.line s.what p p' sends →
        (g : GuestState) × (left : Inbox) × (posted : Outbox) × IssuesFor (Some s) n w.guest (inbox_of w) Did g left posted
    by_begun (p', sends, begins) = (
      with_process (all_taken w.guest events) n p',
      inbox_left (begins_with_events s.what) (inbox_of w),
      record { commands = postings n sends; chains = length events },
      (refl, record { sends = sends; issued = record { process = p'; begins = begins; after = refl }; left = refl; commands = refl; chains = refl }),
    )

pub issue_can : (w : WorldState) (rows : List (List Inner)) (n : ℕ) → IsSoundBy w rows → is_some (issuing (process_at w.guest n)) ≡ true → (w' : WorldState) × DriverDoes (Issues n) w w'
issue_can w rows n sound may =
    let i : _ = issues_some w rows n (issuing (process_at w.guest n)) sound refl may in
    (after_driver w i.0 i.1 i.2, (i.0, i.1, i.2, i.3, refl))
