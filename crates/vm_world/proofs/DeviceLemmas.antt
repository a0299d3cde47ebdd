-- Lemmas on what the device does at the link: it is the world's step, and what is on the link stays as it should be.
use Rattle.std.proofs.Common.{◌≡◌, ℕ, ◌+◌, ◌-◌, ◌≤◌, ◌==◌, ◌&&◌, Bool, true, false, not, nat_lt, is_some, List, [], ◌∷◌, ◌++◌, length, map, Option, Some, None, refl, sym, ap, ◌∙◌, subst, arith, if◌then◌else◌}
use Rattle.std.specs.List.{All, Contains}
use Rattle.std.specs.Option.{option_map}
use Rattle.std.proofs.lemmas.Bool.{and_from, lt-ltb}
use Rattle.std.proofs.lemmas.List.{append-nil, map_push}
use Rattle.std.proofs.lemmas.List.Elements.{All-head, All-tail, All-push, Contains-append_left}
use Rattle.vm_chain.specs.declared.desc.Desc.{Desc}
use Rattle.vm_link.specs.Queue.{Queue, Queues, heads_of, out_heads, done_heads, count_at, without}
use Rattle.vm_link.specs.declared.chains.DoneChain.{DoneChain}
use Rattle.vm_link.specs.declared.chains.OutChain.{OutChain}
use Rattle.vm_link.specs.declared.link.Turn.{Turn}
use Rattle.vm_link.specs.declared.link.Turn.TheVariants.{Did, Idle}
use Rattle.vm_link.specs.declared.parcel.Parcel.{Parcel}
use Rattle.vm_wire.specs.Message.{Returning}
use Rattle.vm_device.specs.Device.{session_of, is_at_rest}
use Rattle.vm_script.specs.Script.{ScriptLines}
use Rattle.vm_host.specs.Chains.{Sent}
use Rattle.vm_host.specs.Host.{HostState, waiting_for, with_call, without_call}
use Rattle.vm_host.specs.Part.{Call, Executed, posting_of as posting_in, call_of, part_of, call_for}
use Rattle.vm_host.specs.Steps.{Executes, Resumes, ResumesCall, Announces, AnnouncesIf, done_as, moved_on}
use Rattle.vm_host.specs.declared.waiting.Waiting.{Waiting}
use Rattle.vm_guest.specs.Guest.{GuestState}
use Rattle.vm_guest.specs.Message.{Sending, OfCall, OfRaw, Carries, posting_of, returning_of}
use Rattle.vm_guest.specs.Chain.{desc, command_start, reply_start}
use Rattle.vm_guest.specs.Raw.{raw_table}
use Rattle.vm_script.specs.declared.line.RawChain.{RawChain}
use Rattle.vm_script.specs.declared.line.RawChain.TheVariants.{Loop, Outside, Order, Zero, Addr, Indirect, Bytes}
use Rattle.vm_across.specs.Across.{ComesBack, IsChainOf}
use Rattle.vm_across.specs.Served.{ComesBackIf, SendsFit}
use Rattle.vm_across.proofs.ReadLemmas.{is_read}
use Rattle.vm_across.proofs.ServeLemmas.{is_served, is_resumed, is_announced}
use Rattle.vm_realm.specs.Enabled.{is_some_of, waits, is_enabled}
use Rattle.vm_realm.specs.Steps.{DoesExecute, after_device, hands_over}
use Rattle.vm_realm.specs.World.{WorldState}
use Rattle.vm_realm.specs.declared.step.Step.{Step}
use Rattle.vm_realm.specs.declared.step.Step.TheVariants.{Execute, Resume, Announce}
use Rattle.vm_world.specs.Carried.{HasSent, IsPosted, IsBack, IsCarried, KeepsOut, IsOutAs, WaitsForEvent, BringsOne, event_in, world_of}
use Rattle.vm_world.specs.Laws.{LeadsOver}
use Rattle.vm_world.proofs.BroughtLemmas.{brings_it, sent_brings}
use Rattle.vm_world.proofs.OutLemmas.{all_with, all_without, found_all, found_session, waits_out, count_out, goes_on_out}

-- ---- a process's chain

two_at_most : (b : Bool) (x y z : Desc) → length (if b then x ∷ [] else y ∷ (z ∷ [])) ≤ 2
two_at_most true x y z = omega arith
two_at_most false x y z = omega arith

raw_short : (n : ℕ) (chain : RawChain) → length (raw_table n chain) ≤ 2
raw_short n Loop = omega arith
raw_short n Outside = omega arith
raw_short n Order = omega arith
raw_short n Zero = omega arith
raw_short n Addr = omega arith
raw_short n Indirect = omega arith
raw_short n (Bytes bytes room) =
    two_at_most (room == 0) (desc (command_start n) (length bytes) 0 0) (desc (command_start n) (length bytes) 1 1) (desc (reply_start n) room 2 0)

-- it has two descriptors at most
pub short_chain : (n : ℕ) (sending : Sending) (p : Parcel) → Carries n sending p → length p.table ≤ 2
short_chain n (OfCall c along) p carries = omega (arith, ap (λ (x : Parcel). length x.table) carries.1.is)
short_chain n (OfRaw chain) p carries = omega (arith, ap (λ (x : Parcel). length x.table) carries.is, raw_short n chain)

-- one that was finished is back as it was posted
sent_back : (g : GuestState) (n head count : ℕ) (sending : Sending) (sent : Sent) (r : Returning) → HasSent g n sending → ComesBack n sending head sent r → count ≤ 2 → IsBack g (done_as head count sent)
sent_back g n head count sending sent r has back short =
    let who : sent.parcel.who ≡ n = ap (λ (x : Parcel). x.who) back.chain.is in (
      sending,
      subst (λ m. HasSent g m sending) (sym who) has,
      subst (λ m. IsChainOf m sending sent.parcel) (sym who) back.chain,
      short,
    )

-- ---- what is told

abbrev told : List DoneChain → List Returning
told ds = map (λ d. returning_of d.finished) ds

told_one : (ds : List DoneChain) (head count : ℕ) (sent : Sent) (r : Returning) → returning_of (record { head = head; used = sent.used; parcel = sent.parcel }) ≡ r
    → told (ds ++ done_as head count sent ∷ []) ≡ told ds ++ r ∷ []
told_one ds head count sent r says = map_push (λ (d : DoneChain). returning_of d.finished) ds (done_as head count sent) ∙ ap (λ x. told ds ++ x ∷ []) says

-- ---- nothing is done

nothing : (script : ScriptLines) (s : Step) (turn : Turn) (g : GuestState) (h h' : HostState) (queues queues' : Queues) → IsCarried g h queues
    → (is_enabled (world_of script g h queues) s && not (hands_over s)) ≡ false → turn ≡ Idle → h' ≡ h → queues'.command ≡ queues.command → queues'.event ≡ queues.event
    → LeadsOver script s turn g h queues g h' queues'
nothing script s turn g h h' queues queues' carried never idle host command event =
    let same : queues' ≡ queues = λ i. record { command = command i; event = event i } in
    let here : LeadsOver script s Idle g h queues g h queues = record { turns = (never, refl); carried = carried } in
    subst (λ t. LeadsOver script s t g h queues g h' queues') (sym idle)
    (subst (λ x. LeadsOver script s Idle g h queues g x queues') (sym host) (subst (λ q. LeadsOver script s Idle g h queues g h q) (sym same) here))

-- ---- Execute

one_executed : (script : ScriptLines) (g : GuestState) (h h' : HostState) (queues queues' : Queues) (p : Parcel) (ps : List Parcel) (head : ℕ) (sending : Sending) (sent : Option Sent)
    (out : Option Returning) → IsCarried g h queues → queues.command.waiting ≡ p ∷ ps → HasSent g p.who sending → Carries p.who sending p → ¬ Contains (heads_of queues.command) head
    → Executed (posting_in p) (part_of h) out (part_of h') → ComesBackIf p.who sending head p h h' out sent → queues'.command ≡ moved_on queues.command ps head (length p.table) sent
    → queues'.event ≡ queues.event → LeadsOver script Execute Did g h queues g h' queues'
one_executed script g h h' queues queues' p ps head sending sent None carried at has carries fresh does back after event =
    let call : Waiting = record { session = back.1.0; head = head; parcel = p } in
    let q : Queue = record queues.command { waiting = ps; out = queues.command.out ++ record { head = head; count = length p.table } ∷ [] } in
    let qs : Queues = record { command = q; event = queues.event } in
    let command : queues'.command ≡ q = after ∙ ap (moved_on queues.command ps head (length p.table)) back.0 in
    let same : queues' ≡ qs = λ i. record { command = command i; event = event i } in
    let w : WorldState = world_of script g h queues in
    let w' : WorldState = world_of script g h' qs in
    let posted : All (IsPosted g) (p ∷ ps) = subst (All (IsPosted g)) at carried.posted in
    let may : is_enabled w Execute ≡ true = ap (λ xs. is_some_of (map posting_in xs)) at in
    let world : w' ≡ after_device (record w { requests = map posting_in ps }) (part_of h') None = ap (λ rs. record w' { replies = rs }) (sym (append-nil (told queues.command.done))) in
    let steps : DoesExecute w.requests w w' = subst (λ ms. DoesExecute ms w w') (sym (ap (map posting_in) at)) (None, part_of h', does, world) in
    let calls : All (λ (x : Waiting). IsPosted g x.parcel) (with_call call h.waiting) =
    all_with (λ (x : Waiting). IsPosted g x.parcel) call h.waiting (sending, has, carries) carried.waiting in
    let fresh_out : ¬ Contains (out_heads queues.command) head = λ there. fresh (Contains-append_left (out_heads queues.command) (done_heads queues.command) head there) in
    let here : LeadsOver script Execute Did g h queues g h' qs = record {
      turns = (refl, (may, steps));
      carried = record {
        room = carried.room;
        posted = All-tail (IsPosted g) p ps posted;
        waiting = subst (All (λ (x : Waiting). IsPosted g x.parcel)) (sym back.1.1) calls;
        out = subst (KeepsOut q.out) (sym back.1.1) (waits_out queues.command.out h.waiting call carried.out fresh_out);
        back = carried.back;
        free = carried.free;
        brought = carried.brought;
      };
    } in
    subst (λ x. LeadsOver script Execute Did g h queues g h' x) (sym same) here
one_executed script g h h' queues queues' p ps head sending sent (Some r) carried at has carries fresh does back after event =
    let done : List DoneChain = queues.command.done ++ done_as head (length p.table) back.0 ∷ [] in
    let q : Queue = record queues.command { waiting = ps; done = done } in
    let qs : Queues = record { command = q; event = queues.event } in
    let command : queues'.command ≡ q = after ∙ ap (moved_on queues.command ps head (length p.table)) back.1 in
    let same : queues' ≡ qs = λ i. record { command = command i; event = event i } in
    let w : WorldState = world_of script g h queues in
    let w' : WorldState = world_of script g h' qs in
    let posted : All (IsPosted g) (p ∷ ps) = subst (All (IsPosted g)) at carried.posted in
    let may : is_enabled w Execute ≡ true = ap (λ xs. is_some_of (map posting_in xs)) at in
    let world : w' ≡ after_device (record w { requests = map posting_in ps }) (part_of h') (Some r) =
    ap (λ rs. record w' { replies = rs }) (told_one queues.command.done head (length p.table) back.0 r back.2.says) in
    let steps : DoesExecute w.requests w w' = subst (λ ms. DoesExecute ms w w') (sym (ap (map posting_in) at)) (Some r, part_of h', does, world) in
    let here : LeadsOver script Execute Did g h queues g h' qs = record {
      turns = (refl, (may, steps));
      carried = record {
        room = carried.room;
        posted = All-tail (IsPosted g) p ps posted;
        waiting = subst (All (λ (x : Waiting). IsPosted g x.parcel)) (sym back.3) carried.waiting;
        out = subst (KeepsOut queues.command.out) (sym back.3) carried.out;
        back = All-push (IsBack g) queues.command.done (done_as head (length p.table) back.0) carried.back
            (sent_back g p.who head (length p.table) sending back.0 r has back.2 (short_chain p.who sending p carries));
        free = carried.free;
        brought = carried.brought;
      };
    } in
    subst (λ x. LeadsOver script Execute Did g h queues g h' x) (sym same) here

pub executes_over : (script : ScriptLines) (g : GuestState) (h h' : HostState) (queues queues' : Queues) (turn : Turn) → IsCarried g h queues
    → Executes queues.command.waiting h queues.command turn h' queues'.command → queues'.event ≡ queues.event → LeadsOver script Execute turn g h queues g h' queues'
executes_over script g h h' queues queues' turn carried executes event = by_waiting queues.command.waiting refl executes
  where
    by_waiting : (ps : List Parcel) → queues.command.waiting ≡ ps → Executes ps h queues.command turn h' queues'.command → LeadsOver script Execute turn g h queues g h' queues'
    by_waiting [] at does = nothing script Execute turn g h h' queues queues' carried (ap (λ xs. is_some_of (map posting_in xs) && true) at) does.0 does.1 does.2 event
    by_waiting (p ∷ ps) at does =
        let first = All-head (IsPosted g) p ps (subst (All (IsPosted g)) at carried.posted) in
        let served = is_served p.who does.1.0 first.0 p h h' does.1.1 first.1.within first.1.fit first.2 does.1.3 in
        let read : posting_in p ≡ posting_of p.who first.0 = is_read p.who first.0 p first.1.within first.1.fit first.2 in
        let done : Executed (posting_in p) (part_of h) served.0 (part_of h') = subst (λ m. Executed m (part_of h) served.0 (part_of h')) (sym read) served.1 in
        subst (λ t. LeadsOver script Execute t g h queues g h' queues') (sym does.0)
        (one_executed script g h h' queues queues' p ps does.1.0 first.0 does.1.1 served.0 carried at first.1 first.2 does.1.2 done served.2 does.1.4 event)

-- ---- Resume

call_if : (b : Bool) (w : Waiting) (found : Option Call) (o : Option Waiting) → found ≡ option_map call_of o → (if b then Some (call_of w) else found) ≡ option_map call_of (if b then Some w else o)
call_if true w found o same = refl
call_if false w found o same = same

call_found : (session : ℕ) (ws : List Waiting) → call_for session (map call_of ws) ≡ option_map call_of (waiting_for session ws)
call_found session [] = refl
call_found session (w ∷ ws) = call_if (w.session == session) w (call_for session (map call_of ws)) (waiting_for session ws) (call_found session ws)

never_both : (a : Bool) → ((a && false) && true) ≡ false
never_both true = refl
never_both false = refl

pub resumes_over : (script : ScriptLines) (session : ℕ) (g : GuestState) (h h' : HostState) (queues queues' : Queues) (turn : Turn) → IsCarried g h queues
    → Resumes session h queues.command turn h' queues'.command → queues'.event ≡ queues.event → LeadsOver script (Resume session) turn g h queues g h' queues'
resumes_over script session g h h' queues queues' turn carried resumes event =
    by_call (is_at_rest (session_of h.device session)) (waiting_for session h.waiting) refl refl resumes
  where
    waits_by : (o : Option Waiting) → waiting_for session h.waiting ≡ o → waits (part_of h) session ≡ is_some (option_map call_of o)
    waits_by o found = ap is_some (call_found session h.waiting) ∙ ap (λ x. is_some (option_map call_of x)) found

    by_call : (b : Bool) (o : Option Waiting) → is_at_rest (session_of h.device session) ≡ b → waiting_for session h.waiting ≡ o → ResumesCall b o h queues.command turn h' queues'.command
        → LeadsOver script (Resume session) turn g h queues g h' queues'
    by_call false o rest found does =
        nothing script (Resume session) turn g h h' queues queues' carried (ap (λ b. (waits (part_of h) session && b) && true) rest ∙ never_both (waits (part_of h) session)) does.0 does.1 does.2 event
    by_call true None rest found does =
        nothing script (Resume session) turn g h h' queues queues' carried (ap (λ b. (b && is_at_rest (session_of h.device session)) && true) (waits_by None found)) does.0 does.1 does.2 event
    by_call true (Some w) rest found does =
        let first = found_all (λ (x : Waiting). IsPosted g x.parcel) session h.waiting w carried.waiting found in
        let on = is_resumed session w.parcel.who first.0 w h h' queues.command queues'.command first.1.within first.1.fit found first.2
        (subst (λ t. Resumes session h queues.command t h' queues'.command) does.0 resumes) in
        let count : ℕ = count_at w.head queues.command.out in
        let out : List OutChain = without w.head queues.command.out in
        let q : Queue = record queues.command { out = out; done = queues.command.done ++ done_as w.head count on.1 ∷ [] } in
        let qs : Queues = record { command = q; event = queues.event } in
        let same : queues' ≡ qs = λ i. record { command = on.4 i; event = event i } in
        let a : WorldState = world_of script g h queues in
        let b : WorldState = world_of script g h' qs in
        let may : is_enabled a (Resume session) ≡ true = and_from (waits (part_of h) session) (is_at_rest (session_of h.device session)) (waits_by (Some w) found) rest in
        let world : b ≡ after_device a (part_of h') (Some on.0) = ap (λ rs. record b { replies = rs }) (told_one queues.command.done w.head count on.1 on.0 on.3.says) in
        let calls : h'.waiting ≡ without_call session h.waiting = ap (λ (x : HostState). x.waiting) does.1.3 ∙ ap (λ n. without_call n h.waiting) (found_session session h.waiting w found) in
        let is_as : IsOutAs queues.command.out w = found_all (IsOutAs queues.command.out) session h.waiting w carried.out.each found in
        let short : count ≤ 2 = omega (arith, count_out queues.command.out w is_as, short_chain w.parcel.who first.0 w.parcel first.2) in
        let here : LeadsOver script (Resume session) Did g h queues g h' qs = record {
          turns = (refl, (may, (on.0, part_of h', on.2, world)));
          carried = record {
            room = carried.room;
            posted = carried.posted;
            waiting = subst (All (λ (x : Waiting). IsPosted g x.parcel)) (sym calls) (all_without (λ (x : Waiting). IsPosted g x.parcel) session h.waiting carried.waiting);
            out = subst (KeepsOut out) (sym calls) (goes_on_out queues.command.out h.waiting session w carried.out found);
            back = All-push (IsBack g) queues.command.done (done_as w.head count on.1) carried.back (sent_back g w.parcel.who w.head count first.0 on.1 on.0 first.1 on.3 short);
            free = carried.free;
            brought = carried.brought;
          };
        } in
        subst (λ t. LeadsOver script (Resume session) t g h queues g h' queues') (sym does.0)
        (subst (λ x. LeadsOver script (Resume session) Did g h queues g h' x) (sym same) here)

-- ---- Announce

unsent_some : {A : Type 0} (xs : List A) → is_some_of xs ≡ nat_lt 0 (length xs)
unsent_some [] = refl
unsent_some (x ∷ xs) = sym (lt-ltb 0 (length (x ∷ xs)) (omega arith))

pub announces_over : (script : ScriptLines) (g : GuestState) (h h' : HostState) (queues queues' : Queues) (turn : Turn) → IsCarried g h queues → SendsFit h h'
    → Announces h queues.event turn h' queues'.event → queues'.command ≡ queues.command → LeadsOver script Announce turn g h queues g h' queues'
announces_over script g h h' queues queues' turn carried fits announces command =
    by_both (nat_lt 0 (length h.device.unsent)) queues.event.waiting refl refl announces
  where
    unsent_by : (b : Bool) → nat_lt 0 (length h.device.unsent) ≡ b → is_some_of h.device.unsent ≡ b
    unsent_by b is = unsent_some h.device.unsent ∙ is

    by_both : (b : Bool) (ps : List Parcel) → nat_lt 0 (length h.device.unsent) ≡ b → queues.event.waiting ≡ ps → AnnouncesIf b ps h queues.event turn h' queues'.event
        → LeadsOver script Announce turn g h queues g h' queues'
    by_both false ps unsent at does =
        nothing script Announce turn g h h' queues queues' carried (ap (λ b. (b && nat_lt 0 (length queues.event.waiting)) && true) (unsent_by false unsent)) does.0 does.1 command does.2
    by_both true [] unsent at does =
        nothing script Announce turn g h h' queues queues' carried
        (ap (λ xs. (is_some_of h.device.unsent && nat_lt 0 (length xs)) && true) at ∙ never_both (is_some_of h.device.unsent)) does.0 does.1 command does.2
    by_both true (p ∷ ps) unsent at does =
        let free : All WaitsForEvent (p ∷ ps) = subst (All WaitsForEvent) at carried.free in
        let first = All-head WaitsForEvent p ps free in
        let head : ℕ = does.1.0 in
        let sent : Sent = does.1.2 in
        let goes = is_announced first.0 head p does.1.1 h h' sent first.1 does.1.4 fits does.1.5 in
        let done : DoneChain = done_as head (length p.table) sent in
        let q : Queue = record queues.event { waiting = ps; done = queues.event.done ++ done ∷ [] } in
        let qs : Queues = record { command = queues.command; event = q } in
        let same : queues' ≡ qs = λ i. record { command = command i; event = does.1.6 i } in
        let a : WorldState = world_of script g h queues in
        let b : WorldState = world_of script g h' qs in
        let waits_one : nat_lt 0 (length queues.event.waiting) ≡ true = ap (λ (xs : List Parcel). nat_lt 0 (length xs)) at ∙ lt-ltb 0 (length (p ∷ ps)) (omega arith) in
        let may : is_enabled a Announce ≡ true = and_from (is_some_of h.device.unsent) (nat_lt 0 (length queues.event.waiting)) (unsent_by true unsent) waits_one in
        let fewer : length ps ≡ length queues.event.waiting - 1 = omega (arith, ap (λ (xs : List Parcel). length xs) at) in
        let events : map event_in (queues.event.done ++ done ∷ []) ≡ map event_in queues.event.done ++ goes.0 ∷ [] =
        map_push event_in queues.event.done done ∙ ap (λ e. map event_in queues.event.done ++ e ∷ []) (brings_it done goes.0 goes.2.brings) in
        let world : b ≡ record a { host = part_of h'; chains = a.chains - 1; events = a.events ++ goes.0 ∷ [] } = λ i. record a { host = part_of h'; chains = fewer i; events = events i } in
        let here : LeadsOver script Announce Did g h queues g h' qs = record {
          turns = (refl, (may, (goes.0, part_of h', goes.1, world)));
          carried = record {
            room = carried.room;
            posted = carried.posted;
            waiting = subst (All (λ (x : Waiting). IsPosted g x.parcel)) (sym (does.1.5.3)) carried.waiting;
            out = subst (KeepsOut queues.command.out) (sym (does.1.5.3)) carried.out;
            back = carried.back;
            free = All-tail WaitsForEvent p ps free;
            brought = All-push BringsOne queues.event.done done carried.brought (sent_brings first.0 head p sent goes.0 first.1 goes.2);
          };
        } in
        subst (λ t. LeadsOver script Announce t g h queues g h' queues') (sym does.0) (subst (λ x. LeadsOver script Announce Did g h queues g h' x) (sym same) here)
