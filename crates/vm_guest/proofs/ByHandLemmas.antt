-- What tests make by hand is what the driver's steps ask for.
use Rattle.std.proofs.Common.{◌≡◌, ◌≢◌, ℕ, ◌+◌, ◌<◌, ◌≤◌, ◌^◌, ◌*◌, ◌==◌, not, Bool, true, false, List, [], ◌∷◌, ◌++◌, Option, Some, None, All, length, take, drop, get_or, if◌then◌else◌, refl, sym, ap, ◌∙◌, subst, arith}
use Rattle.std.proofs.lemmas.Bool.Decides.{nat_tests}
use Rattle.std.proofs.lemmas.List.{length-append, get_or-set_same}
use Rattle.std.proofs.lemmas.List.Elements.{All-push, All-tail, All-filter}
use Rattle.std.proofs.lemmas.List.Filters.{length-filter_both}
use Rattle.std.proofs.lemmas.Option.{get_or_from_slice_get, slice_get_within}
use Rattle.std.specs.Option.{option_map_or, option_and_then}
use Rattle.std.specs.Prelude.{Result, Ok, Err, OnOk, IfSome, is_some, slice_get}
use Rattle.v4l_rules.specs.Queues.{has_type}
use Rattle.v4l_const.specs.declared.errno.Errno.TheVariants.{Ebadf, Einval}
use Rattle.v4l_const.specs.declared.ioctl_code.IoctlCode.TheVariants.{StreamOff as StreamOffCode}
use Rattle.v4l_const.specs.declared.model.Model.{Model}
use Rattle.v4l_const.specs.declared.model.Model.TheVariants.{Capture, Convert}
use Rattle.v4l_rules.specs.Refusals.{first_refusal}
use Rattle.vm_chain.specs.Chain.{WalkedChain}
use Rattle.vm_exchange.specs.Exchange.{command_in, crossing as crossed, asks}
use Rattle.vm_exchange.specs.declared.way.Way.{Way}
use Rattle.vm_exchange.specs.declared.way.Way.TheVariants.{AnsweredHere}
use Rattle.vm_handle.specs.Answers.{AnswersWith, with_reply as with_answer}
use Rattle.vm_handle.specs.Handle.{HandleState, crossing_from, id_of}
use Rattle.vm_local.specs.Calls.{Row, row_of, streamoff_row}
use Rattle.vm_local.specs.Log.{answered, called}
use Rattle.vm_local.specs.State.{LocalState}
use Rattle.vm_local.specs.declared.reply.Reply.TheVariants.{Refused}
use Rattle.vm_wire.specs.Wire.{le, response_bytes, response_of, ReadsBack}
use Rattle.vm_wire.specs.declared.command.Command.{Command}
use Rattle.vm_link.specs.Queue.{Queue, Queues, queue_at, with_queue, free_count, finished, TakesFirst}
use Rattle.vm_link.specs.declared.chains.DoneChain.{DoneChain}
use Rattle.vm_link.specs.declared.link.QueueId.{QueueId}
use Rattle.vm_link.specs.declared.link.QueueId.TheVariants.{Command as Commands, Event as Events}
use Rattle.vm_link.specs.declared.link.Turn.{Turn}
use Rattle.vm_link.specs.declared.parcel.Finished.{Finished}
use Rattle.vm_link.specs.declared.parcel.Parcel.{Parcel}
use Rattle.vm_link.specs.declared.parcel.Taken.{Taken}
use Rattle.vm_link.proofs.QueueLemmas.{taken_then_finished}
use Rattle.vm_local.specs.declared.call.Call.{Call}
use Rattle.vm_local.specs.declared.call.Call.TheVariants.{OpenHandle, StreamOff}
use Rattle.vm_log.specs.LegalLog.{state_of}
use Rattle.vm_link.specs.Parcel.{IsPostable}
use Rattle.vm_pump.specs.Pump.{PumpState, session_of, delivery_of}
use Rattle.vm_script.specs.Script.{ScriptLines}
use Rattle.vm_guest.specs.Orderly.{IsFreshGuest}
use Rattle.vm_script.specs.declared.line.LineKind.{LineKind}
use Rattle.vm_script.specs.declared.line.LineKind.TheVariants.{OnHandle, Raw}
use Rattle.vm_wire.specs.Event.{SpellsEvent}
use Rattle.vm_wire.specs.Message.{Returning}
use Rattle.vm_wire.specs.declared.command.Command.TheVariants.{OpenSession, Ioctl}
use Rattle.vm_wire.specs.declared.delivery.Delivery.{Delivery}
use Rattle.vm_wire.specs.declared.event.EventMsg.{EventMsg}
use Rattle.vm_wire.specs.declared.response.Response.{Response}
use Rattle.vm_wire.specs.declared.response.Response.TheVariants.{Opened, Refused as Denied}
use Rattle.vm_wire.proofs.WireLemmas.{response_again}
use Rattle.vm_handle.proofs.OpenLemmas.{opened}
use Rattle.vm_guest.specs.Asking.{begins_with_events, ends_with_events}
use Rattle.vm_guest.specs.ByHand.{BringsOne, HoldsFew, Replies, with_reply, came_back}
use Rattle.vm_guest.specs.Chain.{IsEventChain, IsChain, IsHome, chain_table, no_page}
use Rattle.vm_guest.specs.Events.{taken, taken_at, all_taken, held_back, given, holds_back, settled, caught_up, events_of, events_of_others, CanTake, CanTakeAt, CanTakeBy, CanTellAll, CanCatchUp, CanSettle}
use Rattle.vm_guest.specs.Guest.{GuestState, no_process, process_at, with_process, handle_named, seat_of}
use Rattle.vm_guest.specs.Lines.{AnsweredFor, CallAnswered, MayAnswer, CanAnswer, replied}
use Rattle.vm_guest.specs.Message.{returning_of}
use Rattle.vm_guest.specs.Process.{ProcessState, issuing, crossing, no_handle, handle_at}
use Rattle.vm_guest.specs.Queues.{AreEvents, CameBack, CanTakeFrom, IsChainFor, CanCollectReply, chains_if, IssuesAt, IssuesIf, CanIssueAt, CanIssueIf, CollectsAt, CollectsIf, CanCollectAt, CanCollectIf, PumpsAt, PumpsIf, CanPumpAt, CanPumpIf}
use Rattle.vm_guest.specs.declared.asked.Statement.{Statement}
use Rattle.vm_guest.specs.declared.seat.Seat.{Seat}

-- the event is of the first session
abbrev pub OfFirst : Delivery → Type 0
OfFirst d = d.session ≡ 1

all_none : {A : Type 0} (P : A → Type 0) → All P []
all_none P = λ k d within. absurd (omega (arith, within))

all_one : {A : Type 0} (P : A → Type 0) (x : A) → P x → All P (x ∷ [])
all_one P x is = All-push P [] x (all_none P) is

pub empty_of : {A : Type 0} (xs : List A) → length xs ≡ 0 → xs ≡ []
empty_of [] is = refl
empty_of (x ∷ xs) is = cc

pub on_ok : {A : Type 0} {E : Type 0} (r : Result A E) (P Q : Type 0) → (P → Q) → OnOk r P → OnOk r Q
on_ok (Ok x) P Q f p = f p
on_ok (Err e) P Q f p = tt

-- ---- the device's end

with_twice : (q : QueueId) (x y : Queue) (l : Queues) → with_queue q x (with_queue q y l) ≡ with_queue q x l
with_twice Commands x y l = refl
with_twice Events x y l = refl

-- a chain that is taken and finished at once
pub sent_back : (q : QueueId) (l l1 l2 : Queues) (before after : WalkedChain) (taken : Taken) (used count : ℕ) (parcel : Parcel) → TakesFirst (queue_at q l) before taken (queue_at q l1) after
    → l1 ≡ with_queue q (queue_at q l1) l → length taken.parcel.table ≡ count
    → l2 ≡ with_queue q (finished (queue_at q l1) (record { head = taken.head; used = used; parcel = parcel })) l1
    → l2 ≡ with_queue q (came_back (queue_at q l) taken.head used parcel count) l
sent_back q l l1 l2 before after taken used count parcel takes others long is =
    let done : Finished = record { head = taken.head; used = used; parcel = parcel } in
    let back : finished (queue_at q l1) done ≡ came_back (queue_at q l) taken.head used parcel count =
    taken_then_finished (queue_at q l) before taken (queue_at q l1) after done takes refl ∙ ap (λ n. came_back (queue_at q l) taken.head used parcel n) long in
    is ∙ ap (λ x. with_queue q x l1) back ∙ ap (λ x. with_queue q (came_back (queue_at q l) taken.head used parcel count) x) others
    ∙ with_twice q (came_back (queue_at q l) taken.head used parcel count) (queue_at q l1) l

-- ---- parcels

front : {A : Type 0} (xs ys : List A) → take (length xs) (xs ++ ys) ≡ xs
front [] ys = refl
front (x ∷ xs) ys = ap (λ zs. x ∷ zs) (front xs ys)

front_in : {A : Type 0} (xs ys zs : List A) → take (length xs) ((xs ++ ys) ++ zs) ≡ xs
front_in [] ys zs = refl
front_in (x ∷ xs) ys zs = ap (λ ws. x ∷ ws) (front_in xs ys zs)

whole : {A : Type 0} (xs ys : List A) → length xs ≤ length ys → length (xs ++ drop (length xs) ys) ≡ length ys
whole [] ys fits = refl
whole (x ∷ xs) [] fits = absurd (omega (arith, fits))
whole (x ∷ xs) (y ∷ ys) fits = let rest = whole xs ys (omega (arith, fits)) in omega (arith, rest)

-- a process's chain with a reply is one
pub home_reply : (p : ℕ) (chain chain' : Parcel) (bytes : List ℕ) → length bytes ≤ 4096 → IsHome p chain → chain' ≡ with_reply chain bytes → IsHome p chain'
home_reply p chain chain' bytes small home is = (
  home.0,
  record {
    behind = home.1.behind;
    reply = bytes ++ drop (length bytes) home.1.reply;
    room = home.1.room;
    is = is ∙ ap (λ (x : Parcel). with_reply x bytes) home.1.is;
    roomy = home.1.roomy;
    whole_command = home.1.whole_command;
    whole_reply = whole bytes home.1.reply (omega (arith, small, home.1.whole_reply)) ∙ home.1.whole_reply;
  },
)

-- and has it at its front
pub home_tells : (p : ℕ) (chain chain' : Parcel) (bytes told rest : List ℕ) → IsHome p chain → chain' ≡ with_reply chain bytes → bytes ≡ told ++ rest
    → take (length told) (get_or chain'.pages 1 no_page).bytes ≡ told
home_tells p chain chain' bytes told rest home is front_is =
    ap (λ (x : Parcel). take (length told) (get_or x.pages 1 no_page).bytes) (is ∙ ap (λ (x : Parcel). with_reply x bytes) home.1.is)
    ∙ ap (λ bs. take (length told) (bs ++ drop (length bytes) home.1.reply)) front_is
    ∙ front_in told rest (drop (length bytes) home.1.reply)

pub front_of : (bytes behind : List ℕ) → length bytes ≡ 608 → take 608 (bytes ++ behind) ≡ bytes
front_of bytes behind size = ap (λ n. take n (bytes ++ behind)) (sym size) ∙ front bytes behind

-- an event chain came back alone
pub event_back : (session head : ℕ) (q q' : Queue) (parcel : Parcel) (msg : EventMsg) → length q.done ≡ 0 → q' ≡ came_back q head 608 parcel 1 → IsEventChain 0 [] parcel
    → SpellsEvent (take 608 (get_or parcel.pages 0 no_page).bytes) msg → session_of msg ≡ session → BringsOne session q'.done
event_back session head q q' parcel msg none is chain spells of =
    let f : Finished = record { head = head; used = 608; parcel = parcel } in
    let back : DoneChain = record { finished = f; count = 1 } in
    let empty : parcel.held ≡ [] = ap (λ (x : Parcel). x.held) chain.is in
    record {
      chain = back;
      only = ap (λ (x : Queue). x.done) is ∙ ap (λ cs. cs ++ back ∷ []) (empty_of q.done none);
      back = record {
        few = (let n : length parcel.held ≡ 0 = ap length empty in omega (arith, n));
        chain = (0, subst (λ hs. IsEventChain 0 hs parcel) (sym empty) chain);
        one = refl;
      };
      event = delivery_of msg parcel.held;
      brings = (msg, spells, refl);
      of = of;
    }

-- a process's chain came back alone
pub reply_back : (p head len : ℕ) (q q' : Queue) (parcel : Parcel) (response : Response) → length q.done ≡ 0 → q' ≡ came_back q head len parcel 2 → IsHome p parcel
    → len ≡ length (response_bytes response) → take (length (response_bytes response)) (get_or parcel.pages 1 no_page).bytes ≡ response_bytes response → Replies p response q'.done
reply_back p head len q q' parcel response none is home count tells =
    let f : Finished = record { head = head; used = len; parcel = parcel } in
    let back : DoneChain = record { finished = f; count = 2 } in
    record {
      chain = back;
      only = ap (λ (x : Queue). x.done) is ∙ ap (λ cs. cs ++ back ∷ []) (empty_of q.done none);
      home = home;
      bytes = ap (λ n. take n (get_or parcel.pages 1 no_page).bytes) count ∙ tells;
    }

-- ---- events that are held back

no_chains : (b : Bool) (q : Queues) → length q.event.done ≡ 0 → chains_if b q ≡ []
no_chains true q none = empty_of q.event.done none
no_chains false q none = refl

no_events : (chains : List DoneChain) (g : GuestState) → chains ≡ [] → CanTakeFrom chains g []
no_events chains g is = subst (λ cs. CanTakeFrom cs g []) (sym is) (record { back = all_none CameBack; bring = tt; each = tt })

bring_none : (chains : List DoneChain) → chains ≡ [] → AreEvents chains []
bring_none chains is = subst (λ cs. AreEvents cs []) (sym is) tt

-- the event of a session would be held back
abbrev pub would_hold : GuestState → ℕ → Bool
would_hold g session = option_map_or (λ seat. holds_back g seat) (seat_of g session) false

can_take : (g : GuestState) (d : Delivery) (session : ℕ) → d.session ≡ session → would_hold g session ≡ true → length g.pump.held < g.pump.room → CanTake g d
can_take g d session of holds room = subst (λ n. CanTakeAt (seat_of g n) g d) (sym of) (by_seat (seat_of g session) holds)
  where
    by_seat : (o : Option Seat) → option_map_or (λ seat. holds_back g seat) o false ≡ true → CanTakeAt o g d
    by_seat None is = absurd cc
    by_seat (Some seat) is = subst (λ b. CanTakeBy b g seat d) (sym is) room

can_take_one : (g : GuestState) (session : ℕ) (chains : List DoneChain) (b : BringsOne session chains) → would_hold g session ≡ true → length g.pump.held < g.pump.room → CanTakeFrom chains g (b.event ∷ [])
can_take_one g session chains b holds room = subst (λ cs. CanTakeFrom cs g (b.event ∷ [])) (sym b.only) (record {
  back = all_one CameBack b.chain b.back;
  bring = (b.brings, tt);
  each = (can_take g b.event session b.of holds room, tt);
})

pub can_pump : (g : GuestState) (q : Queues) (session : ℕ) → BringsOne session q.event.done → would_hold g session ≡ true → length g.pump.held < g.pump.room → CanPumpAt g q
can_pump g q session b holds room =
    let one : CanTakeFrom (b.chain ∷ []) g (b.event ∷ []) = subst (λ cs. CanTakeFrom cs g (b.event ∷ [])) b.only (can_take_one g session q.event.done b holds room) in
    subst (λ cs. CanPumpIf cs g) (sym b.only) (b.event, one)

-- ---- lines that are begun

pub can_issue : (n : ℕ) (g : GuestState) (q : Queues) → length q.event.done ≡ 0 → 4 ≤ free_count q.command → CanIssueAt n g q
can_issue n g q none free = by_statement (issuing (process_at g n))
  where
    by_statement : (o : Option Statement) → CanIssueIf o n g q
    by_statement None = tt
    by_statement (Some s) = record {
      room = λ sends. free;
      events = ([], no_events (chains_if (begins_with_events s.what) q) g (no_chains (begins_with_events s.what) q none));
    }

events_if : (b : Bool) (g : GuestState) (q : Queues) (session : ℕ) → BringsOne session q.event.done → would_hold g session ≡ true → length g.pump.held < g.pump.room
    → (events : List Delivery) × CanTakeFrom (chains_if b q) g events
events_if true g q session one holds room = (one.event ∷ [], can_take_one g session q.event.done one holds room)
events_if false g q session one holds room = ([], no_events [] g refl)

pub can_issue_behind : (n : ℕ) (g : GuestState) (q : Queues) (session : ℕ) → BringsOne session q.event.done → would_hold g session ≡ true → length g.pump.held < g.pump.room
    → 4 ≤ free_count q.command → CanIssueAt n g q
can_issue_behind n g q session one holds room free = by_statement (issuing (process_at g n))
  where
    by_statement : (o : Option Statement) → CanIssueIf o n g q
    by_statement None = tt
    by_statement (Some s) = record { room = λ sends. free; events = events_if (begins_with_events s.what) g q session one holds room }

-- ---- how many events are held back then

-- at most so many more are held back, all of the first session, and there is room for as many as before
pub record Grows (n : ℕ) (g g' : GuestState) : Type 0 where
  pub more : length g'.pump.held ≤ length g.pump.held + n
  pub room : g'.pump.room ≡ g.pump.room
  pub first : All OfFirst g.pump.held → All OfFirst g'.pump.held

as_before : (n : ℕ) (g g' : GuestState) → g'.pump ≡ g.pump → Grows n g g'
as_before n g g' same =
    let held : length g'.pump.held ≡ length g.pump.held = ap (λ p. length p.held) same in
    record { more = omega (arith, held); room = ap (λ p. p.room) same; first = λ all. subst (λ ds. All OfFirst ds) (sym (ap (λ p. p.held) same)) all }

taken_by : (b : Bool) (g : GuestState) (seat : Seat) (d : Delivery) → d.session ≡ 1 → Grows 1 g (if b then held_back g d else given g seat d)
taken_by true g seat d of = record {
  more = (let n = length-append g.pump.held (d ∷ []) in omega (arith, n));
  room = refl;
  first = λ all. All-push OfFirst g.pump.held d all of;
}
taken_by false g seat d of = as_before 1 g (given g seat d) refl

taken_grows : (g : GuestState) (d : Delivery) → d.session ≡ 1 → Grows 1 g (taken g d)
taken_grows g d of = by_seat (seat_of g d.session)
  where
    by_seat : (o : Option Seat) → Grows 1 g (taken_at o g d)
    by_seat None = as_before 1 g g refl
    by_seat (Some seat) = taken_by (holds_back g seat) g seat d of

grows_to : (n : ℕ) (g g' g'' : GuestState) → Grows n g g' → Grows 0 g' g'' → Grows n g g''
grows_to n g g' g'' grows later =
    let one = grows.more in
    let two = later.more in
    record { more = omega (arith, one, two); room = later.room ∙ grows.room; first = λ all. later.first (grows.first all) }

pub issues_still : (n : ℕ) (g g' : GuestState) (q q' : Queues) (turn : Turn) → length q.event.done ≡ 0 → IssuesAt n g q turn g' q' → Grows 0 g g'
issues_still n g g' q q' turn none does = by_statement (issuing (process_at g n)) does
  where
    by_statement : (o : Option Statement) → IssuesIf o n g q turn g' q' → Grows 0 g g'
    by_statement None same = as_before 0 g g' (ap (λ (x : GuestState). x.pump) same.1)
    by_statement (Some s) made =
        let issued = made.1.issued [] (bring_none (chains_if (begins_with_events s.what) q) (no_chains (begins_with_events s.what) q none)) in
        as_before 0 g g' (ap (λ (x : GuestState). x.pump) issued.after)

pub issues_grows : (n : ℕ) (g g' : GuestState) (q q' : Queues) (turn : Turn) → BringsOne 1 q.event.done → IssuesAt n g q turn g' q' → Grows 1 g g'
issues_grows n g g' q q' turn one does = by_statement (issuing (process_at g n)) does
  where
    by_taking : (b : Bool) (s : Statement) → begins_with_events s.what ≡ b → IssuesIf (Some s) n g q turn g' q' → Grows 1 g g'
    by_taking true s is made =
        let bring : AreEvents (chains_if (begins_with_events s.what) q) (one.event ∷ []) =
        subst (λ b. AreEvents (chains_if b q) (one.event ∷ [])) (sym is) (subst (λ cs. AreEvents cs (one.event ∷ [])) (sym one.only) (one.brings, tt)) in
        let issued = made.1.issued (one.event ∷ []) bring in
        grows_to 1 g (taken g one.event) g' (taken_grows g one.event one.of) (as_before 0 (taken g one.event) g' (ap (λ (x : GuestState). x.pump) issued.after))
    by_taking false s is made =
        let bring : AreEvents (chains_if (begins_with_events s.what) q) [] = subst (λ b. AreEvents (chains_if b q) []) (sym is) tt in
        let issued = made.1.issued [] bring in
        as_before 1 g g' (ap (λ (x : GuestState). x.pump) issued.after)

    by_statement : (o : Option Statement) → IssuesIf o n g q turn g' q' → Grows 1 g g'
    by_statement None same = as_before 1 g g' (ap (λ (x : GuestState). x.pump) same.1)
    by_statement (Some s) made = by_taking (begins_with_events s.what) s refl made

pub pumps_grows : (g g' : GuestState) (q q' : Queues) (turn : Turn) → BringsOne 1 q.event.done → PumpsAt g q turn g' q' → Grows 1 g g'
pumps_grows g g' q q' turn one does =
    let made : PumpsIf (one.chain ∷ []) g q turn g' q' = subst (λ cs. PumpsIf cs g q turn g' q') one.only does in
    grows_to 1 g (taken g one.event) g' (taken_grows g one.event one.of) (as_before 0 (taken g one.event) g' (ap (λ (x : GuestState). x.pump) (made.1 one.event one.brings)))

-- ---- an open is answered

may_open : (h : HandleState) (line id : ℕ) (r : Returning) → id < 2 ^ 32 → r.reply.bytes ≡ response_bytes (Opened id) → r.held ≡ [] → MayAnswer h line (OpenHandle false) OpenSession r
may_open h line id r small bytes none =
    let again : ReadsBack OpenSession (Opened id) r.reply.bytes = subst (λ bs. ReadsBack OpenSession (Opened id) bs) (sym bytes) (response_again OpenSession (Opened id) small) in
    let may : AnswersWith (state_of h.log) line (OpenHandle false) (Opened id) r.held = subst (λ hs. AnswersWith (state_of h.log) line (OpenHandle false) (Opened id) hs) (sym none) (opened (state_of h.log) line id) in
    record { enough = again.0; may = subst (λ (x : Response). AnswersWith (state_of h.log) line (OpenHandle false) x r.held) (sym again.1) may }

catch_none : (o : Option ℕ) (g : GuestState) (seat : Seat) → g.pump.held ≡ [] → CanCatchUp o g seat
catch_none None g seat none = tt
catch_none (Some session) g seat none = subst (λ ds. CanTellAll g.processes seat (events_of session ds)) (sym none) tt

home_who : (p : ℕ) (parcel : Parcel) → IsHome p parcel → parcel.who ≡ p
home_who p parcel home = ap (λ (x : Parcel). x.who) home.1.is

home_held : (p : ℕ) (parcel : Parcel) → IsHome p parcel → parcel.held ≡ []
home_held p parcel home = ap (λ (x : Parcel). x.held) home.1.is

-- a process's chain is its own, whatever memories are in it
home_own : (p : ℕ) (what : LineKind) (h : ℕ) (call : Call) (parcel : Parcel) → IsHome p parcel → what ≡ OnHandle h call → IsChainFor p what parcel
home_own p what h call parcel home is = subst (λ w. IsChainFor p w parcel) (sym is)
    (home.0, subst (λ hs. IsChain p (chain_table p home.0) [] hs parcel) (sym (home_held p parcel home)) home.1)

pub can_collect_open : (p id : ℕ) (g : GuestState) (q : Queues) (s : Statement) (h : ℕ) → Replies p (Opened id) q.command.done → id < 2 ^ 32 → length q.event.done ≡ 0
    → length g.pump.held ≡ 0 → crossing (process_at g p) ≡ Some s → s.what ≡ OnHandle h (OpenHandle false) → CanCollectAt g q
can_collect_open p id g q s h back small none quiet out is =
    let f : Finished = back.chain.finished in
    let who : f.parcel.who ≡ p = home_who p f.parcel back.home in
    let empty : g.pump.held ≡ [] = empty_of g.pump.held quiet in
    let r : Returning = returning_of f in
    let can : CanAnswer s.line (OnHandle h (OpenHandle false)) (process_at g f.parcel.who) r =
    (OpenSession, refl, may_open (handle_at (process_at g f.parcel.who) h) s.line id r small back.bytes (home_held p f.parcel back.home)) in
    let reply : CanCollectReply f g q = record {
      statement = s;
      under_way = subst (λ n. crossing (process_at g n) ≡ Some s) (sym who) out;
      chain = subst (λ n. IsChainFor n s.what f.parcel) (sym who) (home_own p s.what h (OpenHandle false) f.parcel back.home is);
      events = [];
      takes = no_events (chains_if (ends_with_events s.what) q) g (no_chains (ends_with_events s.what) q none);
      answers = subst (λ w. CanAnswer s.line w (process_at g f.parcel.who) r) (sym is) can;
      settles = λ process answered. subst (λ w. CanSettle w (with_process g f.parcel.who process) f.parcel.who) (sym is)
          (catch_none (handle_at (process_at (with_process g f.parcel.who process) f.parcel.who) h).session (with_process g f.parcel.who process) (record { process = f.parcel.who; handle = h }) empty);
    } in
    subst (λ cs. CanCollectIf cs g q) (sym back.only) reply

-- those of others are fewer
fewer : (session : ℕ) (ds : List Delivery) → length (events_of_others session ds) ≤ length ds
fewer session ds = let both = length-filter_both (λ (d : Delivery). d.session == session) (λ d. not (d.session == session)) (λ d. refl) ds in omega (arith, both)

caught_shrinks : (o : Option ℕ) (g : GuestState) (seat : Seat) → Grows 0 g (caught_up o g seat)
caught_shrinks None g seat = as_before 0 g g refl
caught_shrinks (Some session) g seat = record {
  more = (let few = fewer session g.pump.held in omega (arith, few));
  room = refl;
  first = λ all. All-filter (λ (d : Delivery). not (d.session == session)) OfFirst g.pump.held all;
}

settled_shrinks : (what : LineKind) (g : GuestState) (n : ℕ) → Grows 0 g (settled what g n)
settled_shrinks (OnHandle h call) g n = caught_shrinks (handle_at (process_at g n) h).session g (record { process = n; handle = h })
settled_shrinks (Raw chain) g n = as_before 0 g g refl

pub collects_still : (p : ℕ) (response : Response) (g g' : GuestState) (q q' : Queues) (turn : Turn) → Replies p response q.command.done → length q.event.done ≡ 0
    → CollectsAt g q turn g' q' → Grows 0 g g'
collects_still p response g g' q q' turn back none does =
    let made : CollectsIf (back.chain ∷ []) g q turn g' q' = subst (λ cs. CollectsIf cs g q turn g' q') back.only does in
    let what : LineKind = made.1.statement.what in
    let n : ℕ = back.chain.finished.parcel.who in
    let collected = made.1.collects [] (bring_none (chains_if (ends_with_events what) q) (no_chains (ends_with_events what) q none)) in
    let g1 : GuestState = with_process g n collected.process in
    let still : Grows 0 g1 (settled what g1 n) = settled_shrinks what g1 n in
    grows_to 0 g g1 g' (as_before 0 g g1 refl) (subst (λ (x : GuestState). Grows 0 g1 x) (sym collected.after) still)

-- ---- a call that stops nothing that is there is refused

pub collects_grows : (p : ℕ) (response : Response) (g g' : GuestState) (q q' : Queues) (turn : Turn) → Replies p response q.command.done → BringsOne 1 q.event.done
    → CollectsAt g q turn g' q' → Grows 1 g g'
collects_grows p response g g' q q' turn back one does =
    let made : CollectsIf (back.chain ∷ []) g q turn g' q' = subst (λ cs. CollectsIf cs g q turn g' q') back.only does in
    by_taking (ends_with_events made.1.statement.what) made refl
  where
    by_taking : (b : Bool) → (made : CollectsIf (back.chain ∷ []) g q turn g' q') → ends_with_events made.1.statement.what ≡ b → Grows 1 g g'
    by_taking true made is =
        let what : LineKind = made.1.statement.what in
        let n : ℕ = back.chain.finished.parcel.who in
        let bring : AreEvents (chains_if (ends_with_events what) q) (one.event ∷ []) =
        subst (λ b. AreEvents (chains_if b q) (one.event ∷ [])) (sym is) (subst (λ cs. AreEvents cs (one.event ∷ [])) (sym one.only) (one.brings, tt)) in
        let collected = made.1.collects (one.event ∷ []) bring in
        let g1 : GuestState = with_process (taken g one.event) n collected.process in
        let still : Grows 0 g1 (settled what g1 n) = settled_shrinks what g1 n in
        let grown : Grows 1 g g1 = grows_to 1 g (taken g one.event) g1 (taken_grows g one.event one.of) (as_before 0 (taken g one.event) g1 refl) in
        grows_to 1 g g1 g' grown (subst (λ (x : GuestState). Grows 0 g1 x) (sym collected.after) still)
    by_taking false made is =
        let what : LineKind = made.1.statement.what in
        let n : ℕ = back.chain.finished.parcel.who in
        let bring : AreEvents (chains_if (ends_with_events what) q) [] = subst (λ b. AreEvents (chains_if b q) []) (sym is) tt in
        let collected = made.1.collects [] bring in
        let g1 : GuestState = with_process g n collected.process in
        let still : Grows 0 g1 (settled what g1 n) = settled_shrinks what g1 n in
        grows_to 1 g g1 g' (as_before 1 g g1 refl) (subst (λ (x : GuestState). Grows 0 g1 x) (sym collected.after) still)

abbrev pub stop : Call
stop = StreamOff 99

no_queue : (m : Model) → has_type m 99 ≡ false
no_queue Capture = refl
no_queue Convert = refl

refused_by : (s : LocalState) (b b' : Bool) (row : Row) → b ≡ true → b' ≡ false
    → answered (first_refusal ((not b, Ebadf) ∷ (not b', Einval) ∷ [])) row s (Refused Einval) ≡ Some s
refused_by s true false row is is' = refl
refused_by s false b' row is is' = absurd cc
refused_by s true true row is is' = absurd cc

refused_stop : (s : LocalState) (line : ℕ) → s.opened ≡ true → AnswersWith s line (StreamOff 99) (Denied 22) []
unfolding called streamoff_row
refused_stop s line opened = record {
  reply = Refused Einval;
  next = s;
  session = 0;
  is_call = refused_by s s.opened (has_type s.model 99) (row_of s line 0 (StreamOff 99)) opened (no_queue s.model);
  told = refl;
  memories = refl;
}

opened_by : (b : Bool) (w : Way) (c : Command) → command_in (crossed (if b then w else AnsweredHere)) ≡ Some c → b ≡ true
opened_by true w c is = refl
opened_by false w c is = absurd cc

crossed_by : (b : Bool) (session : ℕ) → b ≡ true → (c : Command) × (command_in (crossed (if b then asks session StreamOffCode (le 99) else AnsweredHere)) ≡ Some c)
crossed_by true session is = (Ioctl session StreamOffCode (le 99), refl)
crossed_by false session is = absurd cc

-- the call crosses from an open handle alone
pub crosses_open : (h : HandleState) (o : Option Command) → o ≡ command_in (crossing_from h (StreamOff 99)) → is_some o ≡ true → (state_of h.log).opened ≡ true
crosses_open h None is some = absurd cc
crosses_open h (Some c) is some = opened_by (state_of h.log).opened (asks (id_of h.session) StreamOffCode (le 99)) c (sym is)

may_stop : (h : HandleState) (line : ℕ) (c : Command) (r : Returning) → (state_of h.log).opened ≡ true → r.reply.bytes ≡ response_bytes (Denied 22) → r.held ≡ [] → MayAnswer h line (StreamOff 99) c r
may_stop h line c r opened bytes none =
    let again : ReadsBack c (Denied 22) r.reply.bytes = subst (λ bs. ReadsBack c (Denied 22) bs) (sym bytes) (response_again c (Denied 22) (omega arith, omega arith)) in
    let may : AnswersWith (state_of h.log) line (StreamOff 99) (Denied 22) r.held = subst (λ hs. AnswersWith (state_of h.log) line (StreamOff 99) (Denied 22) hs) (sym none) (refused_stop (state_of h.log) line opened) in
    record { enough = again.0; may = subst (λ (x : Response). AnswersWith (state_of h.log) line (StreamOff 99) x r.held) (sym again.1) may }

-- the only handle of a process
pub found : (g : GuestState) (n : ℕ) (h : HandleState) → handle_named g n 0 ≡ Some h → (n < length g.processes) × (0 < length (process_at g n).handles) × (handle_at (process_at g n) 0 ≡ h)
found g n h is = by_process (slice_get g.processes n) refl is
  where
    by_process : (o : Option ProcessState) → slice_get g.processes n ≡ o → option_and_then (λ (p : ProcessState). slice_get p.handles 0) o ≡ Some h
        → (n < length g.processes) × (0 < length (process_at g n).handles) × (handle_at (process_at g n) 0 ≡ h)
    by_process None at none = absurd cc
    by_process (Some p) at there =
        let same : process_at g n ≡ p = get_or_from_slice_get g.processes n p no_process at in
        let inside : n < length g.processes = slice_get_within g.processes n p at in
        let here : handle_at p 0 ≡ h = get_or_from_slice_get p.handles 0 h no_handle there in
        let within : 0 < length p.handles = slice_get_within p.handles 0 h there in
        subst (λ (x : ProcessState). (n < length g.processes) × (0 < length x.handles) × (handle_at x 0 ≡ h)) (sym same) (inside, within, here)

-- events of the first session are those of no other
none_of : (session : ℕ) (ds : List Delivery) → session ≢ 1 → All OfFirst ds → events_of session ds ≡ []
none_of session [] other all = refl
none_of session (d ∷ ds) other all =
    let of : d.session ≡ 1 = all 0 d (omega arith) in
    let not_own : (d.session == session) ≡ false = grind (arith, nat_tests, of, other) in
    ap (λ b. if b then d ∷ events_of session ds else events_of session ds) not_own ∙ none_of session ds other (All-tail OfFirst d ds all)

catch_others : (o : Option ℕ) (g : GuestState) (seat : Seat) → IfSome o (λ n. n ≢ 1) → All OfFirst g.pump.held → CanCatchUp o g seat
catch_others None g seat other all = tt
catch_others (Some session) g seat other all = subst (λ ds. CanTellAll g.processes seat ds) (sym (none_of session g.pump.held other all)) tt

-- what would be held back is
taken_held : (g : GuestState) (d : Delivery) → d.session ≡ 1 → would_hold g 1 ≡ true → taken g d ≡ held_back g d
taken_held g d of holds = ap (λ n. taken_at (seat_of g n) g d) of ∙ by_seat (seat_of g 1) holds
  where
    by_seat : (o : Option Seat) → option_map_or (λ seat. holds_back g seat) o false ≡ true → taken_at o g d ≡ held_back g d
    by_seat None is = absurd cc
    by_seat (Some seat) is = ap (λ b. if b then held_back g d else given g seat d) is

-- the handle's session stays where the call is refused
stays : (p process : ProcessState) (line : ℕ) (r : Returning) → 0 < length p.handles → CallAnswered line 0 (StreamOff 99) p r process → (handle_at process 0).session ≡ (handle_at p 0).session
stays p process line r within answered =
    let may = answered.may.may in
    let is : process ≡ replied p line 0 (StreamOff 99) may.reply (response_of answered.command r.reply.bytes) r.held = answered.after may.reply (may.next, may.session, (may.is_call, may.told)) in
    let h : HandleState = with_answer (handle_at p 0) line (StreamOff 99) may.reply (response_of answered.command r.reply.bytes) r.held in
    ap (λ (x : ProcessState). (handle_at x 0).session) is ∙ ap (λ (x : HandleState). x.session) (get_or-set_same p.handles 0 h no_handle within)

settles_stop : (g : GuestState) (n : ℕ) (process : ProcessState) (line : ℕ) (r : Returning) → n < length g.processes → 0 < length (process_at g n).handles
    → IfSome (handle_at (process_at g n) 0).session (λ s. s ≢ 1) → All OfFirst g.pump.held → CallAnswered line 0 (StreamOff 99) (process_at g n) r process
    → CanSettle (OnHandle 0 (StreamOff 99)) (with_process g n process) n
settles_stop g n process line r inside within other all answered =
    let same : process_at (with_process g n process) n ≡ process = get_or-set_same g.processes n process no_process inside in
    let session : (handle_at (process_at (with_process g n process) n) 0).session ≡ (handle_at (process_at g n) 0).session =
    ap (λ (x : ProcessState). (handle_at x 0).session) same ∙ stays (process_at g n) process line r within answered in
    catch_others (handle_at (process_at (with_process g n process) n) 0).session (with_process g n process) (record { process = n; handle = 0 })
    (subst (λ o. IfSome o (λ s. s ≢ 1)) (sym session) other) all

pub can_collect_stop : (p : ℕ) (g : GuestState) (q : Queues) (s : Statement) (h : HandleState) → Replies p (Denied 22) q.command.done → BringsOne 1 q.event.done → would_hold g 1 ≡ true
    → length g.pump.held < g.pump.room → All OfFirst g.pump.held → crossing (process_at g p) ≡ Some s → s.what ≡ OnHandle 0 (StreamOff 99) → handle_named g p 0 ≡ Some h
    → (state_of h.log).opened ≡ true → IfSome h.session (λ n. n ≢ 1) → CanCollectAt g q
can_collect_stop p g q s h back one holds room all out is named opens other =
    let f : Finished = back.chain.finished in
    let who : f.parcel.who ≡ p = home_who p f.parcel back.home in
    let r : Returning = returning_of f in
    let g1 : GuestState = held_back g one.event in
    let behind : all_taken g (one.event ∷ []) ≡ g1 = taken_held g one.event one.of holds in
    let at = found g p h named in
    let ready : (state_of (handle_at (process_at g p) 0).log).opened ≡ true = ap (λ (x : HandleState). (state_of x.log).opened) at.2 ∙ opens in
    let session : IfSome (handle_at (process_at g p) 0).session (λ n. n ≢ 1) = subst (λ (x : HandleState). IfSome x.session (λ n. n ≢ 1)) (sym at.2) other in
    let command = crossed_by (state_of (handle_at (process_at g p) 0).log).opened (id_of (handle_at (process_at g p) 0).session) ready in
    let answers : CanAnswer s.line (OnHandle 0 (StreamOff 99)) (process_at g p) r =
    (command.0, command.1, may_stop (handle_at (process_at g p) 0) s.line command.0 r ready back.bytes (home_held p f.parcel back.home)) in
    let first : All OfFirst g1.pump.held = All-push OfFirst g.pump.held one.event all one.of in
    let settles : (process : ProcessState) → AnsweredFor s.line (OnHandle 0 (StreamOff 99)) (process_at g1 p) r process → CanSettle (OnHandle 0 (StreamOff 99)) (with_process g1 p process) p =
    λ process answered. settles_stop g1 p process s.line r at.0 at.1 session first answered in
    let takes : CanTakeFrom (chains_if true q) g (one.event ∷ []) = can_take_one g 1 q.event.done one holds room in
    let reply : CanCollectReply f g q = record {
      statement = s;
      under_way = subst (λ n. crossing (process_at g n) ≡ Some s) (sym who) out;
      chain = subst (λ n. IsChainFor n s.what f.parcel) (sym who) (home_own p s.what 0 (StreamOff 99) f.parcel back.home is);
      events = one.event ∷ [];
      takes = subst (λ (w : LineKind). CanTakeFrom (chains_if (ends_with_events w) q) g (one.event ∷ [])) (sym is) takes;
      answers = subst (λ (w : LineKind). CanAnswer s.line w (process_at (all_taken g (one.event ∷ [])) f.parcel.who) r) (sym is)
          (subst (λ (x : GuestState). CanAnswer s.line (OnHandle 0 (StreamOff 99)) (process_at x f.parcel.who) r) (sym behind)
          (subst (λ n. CanAnswer s.line (OnHandle 0 (StreamOff 99)) (process_at g1 n) r) (sym who) answers));
      settles = subst (λ (w : LineKind). (process : ProcessState) → AnsweredFor s.line w (process_at (all_taken g (one.event ∷ [])) f.parcel.who) r process
          → CanSettle w (with_process (all_taken g (one.event ∷ [])) f.parcel.who process) f.parcel.who) (sym is)
          (subst (λ (x : GuestState). (process : ProcessState) → AnsweredFor s.line (OnHandle 0 (StreamOff 99)) (process_at x f.parcel.who) r process
          → CanSettle (OnHandle 0 (StreamOff 99)) (with_process x f.parcel.who process) f.parcel.who) (sym behind)
          (subst (λ n. (process : ProcessState) → AnsweredFor s.line (OnHandle 0 (StreamOff 99)) (process_at g1 n) r process
          → CanSettle (OnHandle 0 (StreamOff 99)) (with_process g1 n process) n) (sym who) settles));
    } in
    subst (λ cs. CanCollectIf cs g q) (sym back.only) reply

-- ---- between steps

pub few_still : (held : ℕ) (g g' : GuestState) → Grows 0 g g' → HoldsFew held g → HoldsFew held g'
few_still held g g' grows few =
    let more = grows.more in
    let before = few.few in
    record { few = omega (arith, more, before); room = subst (λ n. 96 ≤ n) (sym grows.room) few.room; first = grows.first few.first }

pub one_more : (held : ℕ) (g g' : GuestState) → Grows 1 g g' → HoldsFew held g → HoldsFew (held + 1) g'
one_more held g g' grows few =
    let more = grows.more in
    let before = few.few in
    record { few = omega (arith, more, before); room = subst (λ n. 96 ≤ n) (sym grows.room) few.room; first = grows.first few.first }

pub has_room : (held : ℕ) (g : GuestState) → HoldsFew held g → held < 96 → length g.pump.held < g.pump.room
has_room held g few less =
    let most = few.few in
    let room = few.room in
    omega (arith, most, room, less)

pub few_fresh : (script : ScriptLines) (g : GuestState) → IsFreshGuest script g → 1 ≤ length script.processes → HoldsFew 0 g
few_fresh script g fresh some =
    let held : length g.pump.held ≡ 0 = ap (λ (p : PumpState). length p.held) fresh.pump in
    let room : g.pump.room ≡ 96 * length script.processes = ap (λ (p : PumpState). p.room) fresh.pump in
    record {
      few = omega (arith, held);
      room = omega (arith, room, some);
      first = subst (λ ds. All OfFirst ds) (sym (ap (λ (p : PumpState). p.held) fresh.pump)) (all_none OfFirst);
    }

pub event_postable : (k : ℕ) (parcel : Parcel) → IsEventChain k [] parcel → IsPostable parcel
event_postable k parcel chain = subst IsPostable (sym chain.is) (omega arith, omega arith, omega arith)

pub event_fits : (k : ℕ) (parcel : Parcel) (q : Queue) → IsEventChain k [] parcel → 1 ≤ free_count q → length parcel.table ≤ free_count q
event_fits k parcel q chain free = let one : length parcel.table ≡ 1 = ap (λ (x : Parcel). length x.table) chain.is in omega (arith, one, free)
