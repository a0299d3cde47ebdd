-- Lemmas on what the ends ask of the link before a step: it is there, by what is on the link and by what the world can go on with.
use Rattle.std.proofs.Common.{◌≡◌, ℕ, ◌-◌, Bool, true, false, List, [], ◌∷◌, length, map, Option, Some, None, Result, Ok, Err, IfOk, IfSome, refl, sym, ap, ◌∙◌, subst}
use Rattle.std.specs.List.{All, Contains}
use Rattle.std.proofs.lemmas.List.Elements.{All-head, All-nil, All-cons}
use Rattle.vm_chain.specs.declared.desc.Desc.{Desc}
use Rattle.vm_chain.specs.declared.fault.ChainFault.{ChainFault}
use Rattle.vm_link.specs.Queue.{Queues, out_heads}
use Rattle.vm_link.specs.declared.chains.DoneChain.{DoneChain}
use Rattle.vm_link.specs.declared.parcel.Parcel.{Parcel}
use Rattle.vm_wire.specs.Message.{Returning}
use Rattle.vm_wire.specs.Message.Ask.{Judged}
use Rattle.vm_wire.specs.declared.command.Command.{Command}
use Rattle.vm_wire.specs.declared.command.CmdFault.{CmdFault}
use Rattle.vm_device.specs.Perform.{HasPlaceFor}
use Rattle.vm_script.specs.Script.{ScriptLines}
use Rattle.vm_host.specs.Chains.{chain_in, asked_by, HasRoomFor, named_session}
use Rattle.vm_host.specs.Host.{HostState, waiting_for, waits as waits_at}
use Rattle.vm_host.specs.Part.{posting_of as posting_in, part_of}
use Rattle.vm_host.specs.Steps.{AsksOf, HasPlace, IsAlone, HasRoom, IsOut, IsReadyForEvent, HasRoomForOne}
use Rattle.vm_host.specs.declared.waiting.Waiting.{Waiting}
use Rattle.vm_guest.specs.Events.{CanTakeAll}
use Rattle.vm_guest.specs.Guest.{GuestState, process_at}
use Rattle.vm_guest.specs.Asking.{begins_with_events, ends_with_events}
use Rattle.vm_guest.specs.Message.{Sending, OfCall, OfRaw, returning_of}
use Rattle.vm_guest.specs.Process.{issuing, crossing}
use Rattle.vm_guest.specs.Queues.{CanTakeFrom, CanIssueAt, CanIssueIf, CanIssueStatement, CanCollectAt, CanCollectIf, CanCollectReply, CanPumpAt, CanPumpIf, IsChainFor, chains_if}
use Rattle.vm_guest.specs.declared.asked.Statement.{Statement}
use Rattle.vm_exchange.specs.Entries.{crossing_bytes}
use Rattle.vm_script.specs.declared.line.LineKind.{LineKind}
use Rattle.vm_script.specs.declared.line.LineKind.TheVariants.{OnHandle, Raw}
use Rattle.vm_guest.specs.Steps.{all_if}
use Rattle.vm_across.specs.Across.{IsChainOf}
use Rattle.vm_across.proofs.EventLemmas.{takes_event}
use Rattle.vm_across.proofs.ReadLemmas.{has_room}
use Rattle.vm_across.proofs.ServeLemmas.{asks_command}
use Rattle.vm_realm.specs.Enabled.{waits}
use Rattle.vm_realm.specs.Laws.{CanGoOn, CanCollect}
use Rattle.vm_realm.specs.Sound.{IsQuiet}
use Rattle.vm_realm.specs.World.{WorldState}
use Rattle.vm_world.specs.Carried.{IsFor, IsPosted, IsBack, IsOutAs, IsCarried, WaitsForEvent, BringsOne, event_in, world_of}
use Rattle.vm_world.proofs.BroughtLemmas.{are_events, came_back}
use Rattle.vm_world.proofs.OfferLemmas.{waits_alike}
use Rattle.vm_world.proofs.OutLemmas.{found_all, is_out}
use Rattle.vm_world.proofs.RoomLemmas.{four_free}

-- ---- Execute

-- what holds of each command that a chain asks holds of what is asked of it
asks_if : (P : Command → Type 0) (p : Parcel) → ((descs : List Desc) (c : Command) → chain_in p ≡ Ok descs → asked_by descs p.pages ≡ Ok c → P c) → IfOk (chain_in p) (λ descs. IfOk (asked_by descs p.pages) P)
asks_if P p each = by_chain (chain_in p) refl
  where
    by_asked : (descs : List Desc) (o : Result Command CmdFault) → chain_in p ≡ Ok descs → asked_by descs p.pages ≡ o → IfOk o P
    by_asked descs (Ok c) walked asked = each descs c walked asked
    by_asked descs (Err fault) walked asked = tt

    by_chain : (o : Result (List Desc) ChainFault) → chain_in p ≡ o → IfOk o (λ descs. IfOk (asked_by descs p.pages) P)
    by_chain (Ok descs) walked = by_asked descs (asked_by descs p.pages) walked refl
    by_chain (Err fault) walked = tt

asks_first : (P : Command → Type 0) (ps : List Parcel) → ((p : Parcel) (rest : List Parcel) (c : Command) → ps ≡ p ∷ rest → (posting_in p).request.asks ≡ Judged (Ok c) → P c) → AsksOf P ps
asks_first P [] each = tt
asks_first P (p ∷ ps) each = asks_if P p (λ descs c walked asked. each p ps c refl (asks_command p descs c walked asked))

pub has_place : (script : ScriptLines) (g : GuestState) (h : HostState) (queues : Queues) → CanGoOn (world_of script g h queues) → HasPlace h.device queues.command.waiting
has_place script g h queues can =
    asks_first (HasPlaceFor h.device) queues.command.waiting (λ p ps c at asks. can.place (posting_in p) (map posting_in ps) c (ap (map posting_in) at) asks)

none_waits : (h : HostState) (o : Option ℕ) → IfSome o (λ id. waits (part_of h) id ≡ false) → IfSome o (λ id. waits_at h id ≡ false)
none_waits h None is = tt
none_waits h (Some id) is = sym (waits_alike h id) ∙ is

pub is_alone : (script : ScriptLines) (g : GuestState) (h : HostState) (queues : Queues) → CanGoOn (world_of script g h queues) → IsAlone h queues.command.waiting
is_alone script g h queues can =
    asks_first (λ c. IfSome (named_session c) (λ session. waits_at h session ≡ false)) queues.command.waiting
    (λ p ps c at asks. none_waits h (named_session c) (can.alone (posting_in p) (map posting_in ps) c (ap (map posting_in) at) asks))

room_for : (g : GuestState) (ps : List Parcel) → All (IsPosted g) ps → HasRoom ps
room_for g [] posted = tt
room_for g (p ∷ ps) posted =
    let first = All-head (IsPosted g) p ps posted in
    asks_if (HasRoomFor p) p (λ descs c walked asked. has_room p.who first.0 p descs c first.1.within first.1.fit first.2 walked asked)

pub has_room_for : (g : GuestState) (h : HostState) (queues : Queues) → IsCarried g h queues → HasRoom queues.command.waiting
has_room_for g h queues carried = room_for g queues.command.waiting carried.posted

-- ---- Resume

pub its_chain_is_out : (session : ℕ) (g : GuestState) (h : HostState) (queues : Queues) → IsCarried g h queues → IsOut session h queues.command
its_chain_is_out session g h queues carried = by_call (waiting_for session h.waiting) refl
  where
    by_call : (o : Option Waiting) → waiting_for session h.waiting ≡ o → IfSome o (λ w. Contains (out_heads queues.command) w.head)
    by_call None found = tt
    by_call (Some w) found = is_out queues.command.out w (found_all (IsOutAs queues.command.out) session h.waiting w carried.out.each found)

-- ---- Announce

takes_one : (h : HostState) (ps : List Parcel) → All WaitsForEvent ps → IsReadyForEvent h ps
takes_one h [] free = tt
takes_one h (p ∷ ps) free = (let first = All-head WaitsForEvent p ps free in λ unsent. (takes_event first.0 p first.1).0)

pub is_ready_for : (g : GuestState) (h : HostState) (queues : Queues) → IsCarried g h queues → IsReadyForEvent h queues.event.waiting
is_ready_for g h queues carried = takes_one h queues.event.waiting carried.free

one_more : (ps : List Parcel) → All WaitsForEvent ps → HasRoomForOne ps
one_more [] free = tt
one_more (p ∷ ps) free = (let first = All-head WaitsForEvent p ps free in (takes_event first.0 p first.1).1)

pub has_room_for_one : (g : GuestState) (h : HostState) (queues : Queues) → IsCarried g h queues → HasRoomForOne queues.event.waiting
has_room_for_one g h queues carried = one_more queues.event.waiting carried.free

-- ---- events that are taken

can_take : (chains : List DoneChain) (g : GuestState) → All BringsOne chains → CanTakeAll g (map event_in chains) → CanTakeFrom chains g (map event_in chains)
can_take chains g brought can = record { back = came_back chains brought; bring = are_events chains brought; each = can }

-- those that a step takes, if it takes them
pub can_take_if : (b : Bool) (g : GuestState) (queues : Queues) → All BringsOne queues.event.done → CanTakeAll g (map event_in queues.event.done)
    → CanTakeFrom (chains_if b queues) g (all_if b (map event_in queues.event.done))
can_take_if true g queues brought can = can_take queues.event.done g brought can
can_take_if false g queues brought can = can_take [] g (All-nil BringsOne) tt

pump_if : (chains : List DoneChain) (g : GuestState) → All BringsOne chains → CanTakeAll g (map event_in chains) → CanPumpIf chains g
pump_if [] g brought can = tt
pump_if (c ∷ cs) g brought can = (event_in c, can_take (c ∷ []) g (All-cons BringsOne c [] (All-head BringsOne c cs brought) (All-nil BringsOne)) (can.0, tt))

pub can_pump : (script : ScriptLines) (g : GuestState) (h : HostState) (queues : Queues) → IsCarried g h queues → CanGoOn (world_of script g h queues) → CanPumpAt g queues
can_pump script g h queues carried can = pump_if queues.event.done g carried.brought can.events

-- ---- Issue

issue_if : (n : ℕ) (s : Statement) (script : ScriptLines) (g : GuestState) (h : HostState) (queues : Queues) → IsCarried g h queues → IsQuiet (world_of script g h queues)
    → CanGoOn (world_of script g h queues) → CanIssueStatement n s g queues
issue_if n s script g h queues carried quiet can =
    let b : Bool = begins_with_events s.what in
    record { room = λ sends. four_free script g h queues carried quiet; events = (all_if b (map event_in queues.event.done), can_take_if b g queues carried.brought can.events) }

pub can_issue_here : (n : ℕ) (script : ScriptLines) (g : GuestState) (h : HostState) (queues : Queues) → IsCarried g h queues → IsQuiet (world_of script g h queues)
    → CanGoOn (world_of script g h queues) → CanIssueAt n g queues
can_issue_here n script g h queues carried quiet can = by_statement (issuing (process_at g n))
  where
    by_statement : (o : Option Statement) → CanIssueIf o n g queues
    by_statement None = tt
    by_statement (Some s) = issue_if n s script g h queues carried quiet can

-- ---- Collect

-- the chain that came back is the one that answers its line
back_for : (n : ℕ) (what : LineKind) (sending : Sending) (p : Parcel) → IsFor what sending → IsChainOf n sending p → IsChainFor n what p
back_for n (OnHandle h call) (OfCall c along) p for chain = (length (crossing_bytes c), chain)
back_for n (OnHandle h call) (OfRaw sent) p for chain = absurd for
back_for n (Raw line) (OfCall c along) p for chain = absurd for
back_for n (Raw line) (OfRaw sent) p for chain = subst (λ x. IsChainOf n (OfRaw x) p) for chain

same_line : (o : Option Statement) (s t : Statement) → o ≡ Some s → o ≡ Some t → s ≡ t
same_line o s t is other = let both : Some s ≡ Some t = sym is ∙ other in cc

collect_first : (script : ScriptLines) (g : GuestState) (h : HostState) (queues : Queues) (d : DoneChain) (ds : List DoneChain) → IsCarried g h queues → CanGoOn (world_of script g h queues)
    → queues.command.done ≡ d ∷ ds → CanCollectReply d.finished g queues
collect_first script g h queues d ds carried can at =
    let w : WorldState = world_of script g h queues in
    let r : Returning = returning_of d.finished in
    let n : ℕ = d.finished.parcel.who in
    let back : IsBack g d = All-head (IsBack g) d ds (subst (All (IsBack g)) at carried.back) in
    let first : CanCollect w r = can.reply r (map (λ (x : DoneChain). returning_of x.finished) ds) (ap (map (λ (x : DoneChain). returning_of x.finished)) at) in
    let s : Statement = first.statement in
    let line : back.1.statement ≡ s = same_line (crossing (process_at g n)) back.1.statement s back.1.under_way first.under_way in
    let for : IsFor s.what back.0 = subst (λ (x : Statement). IsFor x.what back.0) line back.1.for in
    let b : Bool = ends_with_events s.what in
    record {
      statement = s;
      under_way = first.under_way;
      chain = back_for n s.what back.0 d.finished.parcel for back.2;
      events = all_if b (map event_in queues.event.done);
      takes = can_take_if b g queues carried.brought can.events;
      answers = first.answers;
      settles = first.settles;
    }

pub can_collect_here : (script : ScriptLines) (g : GuestState) (h : HostState) (queues : Queues) → IsCarried g h queues → CanGoOn (world_of script g h queues) → CanCollectAt g queues
can_collect_here script g h queues carried can = by_done queues.command.done refl
  where
    by_done : (ds : List DoneChain) → queues.command.done ≡ ds → CanCollectIf ds g queues
    by_done [] at = tt
    by_done (d ∷ ds) at = collect_first script g h queues d ds carried can at
