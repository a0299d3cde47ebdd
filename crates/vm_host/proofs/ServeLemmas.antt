-- Lemmas on a chain that is taken and served.
use Rattle.std.proofs.Common.{◌≡◌, ℕ, ◌+◌, ◌≤◌, ◌<◌, ◌&&◌, ◌==◌, Bool, true, false, not, nat_lt, Option, Some, None, is_some, Result, Ok, Err, IfOk, IfSome, List, [], ◌∷◌, length, refl, sym, ap, ◌∙◌, subst, arith, if◌then◌else◌}
use Rattle.std.specs.Result.{result_err, result_unwrap_or}
use Rattle.std.proofs.lemmas.Bool.Decides.{nat_tests}
use Rattle.vm_carrier.specs.Carrier.{Fits}
use Rattle.vm_carrier.proofs.CarrierLemmas.{walk_fits}
use Rattle.vm_chain.specs.Chain.{WalkedChain, writable_bytes}
use Rattle.vm_chain.specs.Walk.{walk_of}
use Rattle.vm_chain.specs.declared.desc.Desc.{Desc}
use Rattle.vm_chain.specs.declared.fault.ChainFault.{ChainFault}
use Rattle.vm_frame.specs.declared.mem.Held.{Held}
use Rattle.vm_link.specs.Parcel.{homes_of}
use Rattle.vm_link.specs.Queue.{Queue, TakesFirst, rest_of, finished}
use Rattle.vm_link.specs.declared.link.Turn.TheVariants.{Did, Idle}
use Rattle.vm_link.specs.declared.parcel.Finished.{Finished}
use Rattle.vm_link.specs.declared.parcel.Parcel.{Parcel}
use Rattle.vm_link.specs.declared.parcel.Taken.{Taken}
use Rattle.vm_link.proofs.QueueLemmas.{taken_then_finished}
use Rattle.vm_session.specs.State.{SessionState, is_quiet}
use Rattle.vm_wire.specs.declared.command.Command.{Command}
use Rattle.vm_wire.specs.declared.command.Command.TheVariants.{OpenSession, CloseSession, Ioctl, Map, Unmap}
use Rattle.vm_wire.specs.declared.command.CmdFault.{CmdFault}
use Rattle.vm_wire.specs.Event.{IsEvent}
use Rattle.vm_wire.specs.declared.event.EventMsg.{EventMsg}
use Rattle.vm_device.specs.Stream.{Sends}
use Rattle.vm_device.specs.Device.{DeviceState, session_of, is_at_rest}
use Rattle.vm_device.specs.Perform.{HasPlaceFor, must_wait, is_busy, stops_in}
use Rattle.vm_device.proofs.StepLemmas.{within}
use Rattle.vm_host.specs.Chains.{HasRoomFor, Sent, chain_in, asked_by, named_session, sent_event}
use Rattle.vm_host.specs.Host.{HostState, waiting_for, with_call, without_call, waits}
use Rattle.vm_host.specs.Keeps.{IsWaiting, CanGoOn, IsSound, may_wait}
use Rattle.vm_host.specs.Steps.{AsksOf, HasPlace, IsAlone, HasRoom, HasRoomForOne, Completes, GoesOn, Resumes, ResumesCall, Serves, ServesRoom, ServesAsked, ServesCommand, Served, Executes, Announces, AnnouncesIf, IsReadyForEvent, ok_unless, moved_on}
use Rattle.vm_host.specs.declared.chains.Fate.TheVariants.{Returns, Waits}
use Rattle.vm_host.specs.declared.waiting.Waiting.{Waiting}
use Rattle.vm_host.proofs.GrowthLemmas.{Grows, performs_grow, stays, grown_sound}
use Rattle.vm_host.proofs.RiseLemmas.{as_many, rise_with, rise_without, waiting_with, waiting_without, found_named, length_with}
use Rattle.vm_host.proofs.WaitingLemmas.{any_found}

-- ---- the walk of a chain that is taken

walked_by : (o : Result (List Desc) ChainFault) (f : Option ChainFault) (descs : List Desc) → f ≡ result_err o → descs ≡ result_unwrap_or o [] → ok_unless f descs ≡ o
walked_by (Ok ds) f descs fault is = rw (fault, is) refl
walked_by (Err e) f descs fault is = rw fault refl

pub walked : (q q' : Queue) (chain chain' : WalkedChain) (t : Taken) → chain.limit ≡ 64 → TakesFirst q chain t q' chain' → ok_unless t.fault chain'.descs ≡ chain_in t.parcel
walked q q' chain chain' t limit takes =
    let P : ℕ → Type 0 = λ n. (t.fault ≡ result_err (walk_at n)) × (chain'.descs ≡ result_unwrap_or (walk_at n) []) in
    let here = subst P limit (takes.fault, ap (λ c. c.descs) takes.chain) in
    walked_by (chain_in t.parcel) t.fault chain'.descs here.0 here.1
  where
    walk_at : ℕ → Result (List Desc) ChainFault
    walk_at n = walk_of t.parcel.table 0 n (homes_of t.parcel)

pub walked_whole : (q q' : Queue) (chain chain' : WalkedChain) (t : Taken) → chain.limit ≡ 64 → TakesFirst q chain t q' chain' → t.fault ≡ None → chain_in t.parcel ≡ Ok chain'.descs
walked_whole q q' chain chain' t limit takes none = sym (walked q q' chain chain' t limit takes) ∙ ap (λ f. ok_unless f chain'.descs) none

pub chain_fits : (p : Parcel) (descs : List Desc) → chain_in p ≡ Ok descs → Fits 64 descs
chain_fits p descs is = walk_fits p.table 0 64 (homes_of p) descs is

pub walked_fits : (q q' : Queue) (chain chain' : WalkedChain) (t : Taken) → chain.limit ≡ 64 → TakesFirst q chain t q' chain' → t.fault ≡ None → Fits 64 chain'.descs
walked_fits q q' chain chain' t limit takes none = chain_fits t.parcel chain'.descs (walked_whole q q' chain chain' t limit takes none)

ok_has : {A : Type 0} (P : A → Type 0) (o : Result A ChainFault) (x : A) → o ≡ Ok x → IfOk o P → P x
ok_has P (Ok y) x is has = (let same : y ≡ x = cc in subst P same has)
ok_has P (Err e) x is has = cc

-- what is asked of the chain that waits first is asked of the one that is taken
pub taken_asks : (P : Command → Type 0) (q q' : Queue) (chain chain' : WalkedChain) (t : Taken) → TakesFirst q chain t q' chain' → AsksOf P q.waiting
    → IfOk (chain_in t.parcel) (λ descs. IfOk (asked_by descs t.parcel.pages) P)
taken_asks P q q' chain chain' t takes asks = subst (λ (ps : List Parcel). AsksOf P ps) takes.first asks

pub taken_place : (d : DeviceState) (q q' : Queue) (chain chain' : WalkedChain) (t : Taken) → chain.limit ≡ 64 → TakesFirst q chain t q' chain' → HasPlace d q.waiting → t.fault ≡ None
    → IfOk (asked_by chain'.descs t.parcel.pages) (HasPlaceFor d)
taken_place d q q' chain chain' t limit takes place none =
    ok_has (λ descs. IfOk (asked_by descs t.parcel.pages) (HasPlaceFor d)) (chain_in t.parcel) chain'.descs (walked_whole q q' chain chain' t limit takes none)
    (taken_asks (HasPlaceFor d) q q' chain chain' t takes place)

-- so is the room for what it may give back
room_taken : (q q' : Queue) (chain chain' : WalkedChain) (t : Taken) → TakesFirst q chain t q' chain' → HasRoom q.waiting
    → IfOk (chain_in t.parcel) (λ descs. IfOk (asked_by descs t.parcel.pages) (HasRoomFor t.parcel))
room_taken q q' chain chain' t takes roomy = subst HasRoom takes.first roomy

pub taken_room : (q q' : Queue) (chain chain' : WalkedChain) (t : Taken) → chain.limit ≡ 64 → TakesFirst q chain t q' chain' → HasRoom q.waiting → t.fault ≡ None
    → IfOk (asked_by chain'.descs t.parcel.pages) (HasRoomFor t.parcel)
taken_room q q' chain chain' t limit takes roomy none =
    ok_has (λ descs. IfOk (asked_by descs t.parcel.pages) (HasRoomFor t.parcel)) (chain_in t.parcel) chain'.descs (walked_whole q q' chain chain' t limit takes none)
    (room_taken q q' chain chain' t takes roomy)

pub taken_room_for_one : (q q' : Queue) (chain chain' : WalkedChain) (t : Taken) → TakesFirst q chain t q' chain' → HasRoomForOne q.waiting → length t.parcel.held + 1 ≤ t.parcel.room
taken_room_for_one q q' chain chain' t takes roomy = subst HasRoomForOne takes.first roomy

-- ---- a command that needn't wait is done

if_none : (b : Bool) (session : ℕ) → (if b then Some session else None) ≡ None → b ≡ false
if_none true session none = cc
if_none false session none = refl

pub unawaited : (d : DeviceState) (c : Command) → (if must_wait d c then named_session c else None) ≡ None → must_wait d c ≡ false
unawaited d OpenSession none = refl
unawaited d (CloseSession id) none = if_none (must_wait d (CloseSession id)) id none
unawaited d (Ioctl id code payload) none = if_none (must_wait d (Ioctl id code payload)) id none
unawaited d (Map id writable offset) none = refl
unawaited d (Unmap addr) none = refl

no_less : (room : ℕ) → 8 ≤ room → nat_lt room 8 ≡ false
no_less room enough = grind (arith, nat_tests)

pub completed_served : (descs : List Desc) (p p' : Parcel) (d d' : DeviceState) (used room : ℕ) (c : Command) → 8 ≤ room → room ≡ writable_bytes descs → asked_by descs p.pages ≡ Ok c
    → must_wait d c ≡ false → Completes d p descs c (record { used = used; parcel = p' }) d' → Served None descs p d (Returns used) p' d'
completed_served descs p p' d d' used room c enough is asked waits completes = λ head calls.
    let sent : Sent = record { used = used; parcel = p' } in
    let h : HostState = record { device = d; waiting = calls } in
    let h' : HostState = record { device = d'; waiting = calls } in
    let P : Bool → Type 0 = λ b. ServesRoom b h p head descs (Some sent) h' in
    let Q : Result Command CmdFault → Type 0 = λ o. ServesAsked o h p head descs (Some sent) h' in
    let R : Bool → Type 0 = λ b. ServesCommand b h p head descs c (Some sent) h' in
    let test : nat_lt (writable_bytes descs) 8 ≡ false = ap (λ n. nat_lt n 8) (sym is) ∙ no_less room enough in
    subst P (sym test) (subst Q (sym asked) (subst R (sym waits) (sent, d', completes, refl, refl)))

-- ---- what it leaves

same_grows : (h h' : HostState) → h' ≡ h → Grows h.device h'.device
same_grows h h' same = subst (λ (x : HostState). Grows h.device x.device) (sym same) (stays h.device)

-- no place of a session is taken away
serves_grow : (o : Result (List Desc) ChainFault) (h h' : HostState) (p : Parcel) (head : ℕ) (sent : Option Sent) → Serves o h p head sent h'
    → IfOk o (λ descs. IfOk (asked_by descs p.pages) (HasPlaceFor h.device)) → Grows h.device h'.device
serves_grow (Err fault) h h' p head sent serves place = same_grows h h' serves.1
serves_grow (Ok descs) h h' p head sent serves place = by_room (nat_lt (writable_bytes descs) 8) serves
  where
    by_wait : (b : Bool) (c : Command) → HasPlaceFor h.device c → ServesCommand b h p head descs c sent h' → Grows h.device h'.device
    by_wait true c place does = subst (λ (x : HostState). Grows h.device x.device) (sym does.1.2) (stays h.device)
    by_wait false c place does =
        let grown : Grows h.device does.2.0.device = performs_grow h.device c _ p.held does.2.0 place does.2.1 in
        let there : Grows h.device does.1 = subst (Grows h.device) (sym does.2.3) grown in
        subst (λ (x : HostState). Grows h.device x.device) (sym does.4) there

    by_asked : (asked : Result Command CmdFault) → IfOk asked (HasPlaceFor h.device) → ServesAsked asked h p head descs sent h' → Grows h.device h'.device
    by_asked (Ok c) place does = by_wait (must_wait h.device c) c place does
    by_asked (Err f) place does = same_grows h h' does.1

    by_room : (b : Bool) → ServesRoom b h p head descs sent h' → Grows h.device h'.device
    by_room true does = same_grows h h' does.1
    by_room false does = by_asked (asked_by descs p.pages) place does

pub served_grow : (q q1 : Queue) (chain chain' : WalkedChain) (t : Taken) (d d' : DeviceState) (used : ℕ) (p' : Parcel) → chain.limit ≡ 64 → TakesFirst q chain t q1 chain'
    → HasPlace d q.waiting → Served t.fault chain'.descs t.parcel d (Returns used) p' d' → Grows d d'
served_grow q q1 chain chain' t d d' used p' limit takes place serves =
    let here = serves 0 [] in
    let there = subst (λ o. Serves o (record { device = d; waiting = [] }) t.parcel 0 (Some (record { used = used; parcel = p' })) (record { device = d'; waiting = [] })) (walked q q1 chain chain' t limit takes) here in
    serves_grow (chain_in t.parcel) (record { device = d; waiting = [] }) (record { device = d'; waiting = [] }) t.parcel 0 (Some (record { used = used; parcel = p' })) there
    (taken_asks (HasPlaceFor d) q q1 chain chain' t takes place)

-- ---- a call that begins to wait

pub record Waited (o : Result (List Desc) ChainFault) (h h' : HostState) (p : Parcel) (head : ℕ) : Type 0 where
  pub descs : List Desc
  pub command : Command
  pub session : ℕ
  pub walked : o ≡ Ok descs
  pub asked : asked_by descs p.pages ≡ Ok command
  pub named : named_session command ≡ Some session
  pub must : must_wait h.device command ≡ true
  pub is : h' ≡ record h { waiting = with_call (record { session = session; head = head; parcel = p }) h.waiting }

waited_by : (o : Result (List Desc) ChainFault) (h h' : HostState) (p : Parcel) (head : ℕ) → Serves o h p head None h' → Waited o h h' p head
waited_by (Err fault) h h' p head serves = cc
waited_by (Ok descs) h h' p head serves = by_room (nat_lt (writable_bytes descs) 8) serves
  where
    by_wait : (b : Bool) (c : Command) → asked_by descs p.pages ≡ Ok c → must_wait h.device c ≡ b → ServesCommand b h p head descs c None h' → Waited (Ok descs) h h' p head
    by_wait true c asked must does = record {
      descs = descs;
      command = c;
      session = does.1.0;
      walked = refl;
      asked = asked;
      named = does.1.1;
      must = must;
      is = does.1.2;
    }
    by_wait false c asked must does = (let never = does.3 in cc)

    by_asked : (asked : Result Command CmdFault) → asked_by descs p.pages ≡ asked → ServesAsked asked h p head descs None h' → Waited (Ok descs) h h' p head
    by_asked (Ok c) is does = by_wait (must_wait h.device c) c is refl does
    by_asked (Err f) is does = (let never = does.0 in cc)

    by_room : (b : Bool) → ServesRoom b h p head descs None h' → Waited (Ok descs) h h' p head
    by_room true does = (let never = does.0 in cc)
    by_room false does = by_asked (asked_by descs p.pages) refl does

pub waited : (q q1 : Queue) (chain chain' : WalkedChain) (t : Taken) (d d' : DeviceState) (calls : List Waiting) (session : ℕ) (p' : Parcel) → chain.limit ≡ 64 → TakesFirst q chain t q1 chain'
    → Served t.fault chain'.descs t.parcel d (Waits session) p' d'
    → Waited (chain_in t.parcel) (record { device = d; waiting = calls }) (record { device = d'; waiting = with_call (record { session = session; head = t.head; parcel = p' }) calls }) t.parcel t.head
waited q q1 chain chain' t d d' calls session p' limit takes serves =
    let h : HostState = record { device = d; waiting = calls } in
    let h' : HostState = record { device = d'; waiting = with_call (record { session = session; head = t.head; parcel = p' }) calls } in
    let there = subst (λ o. Serves o h t.parcel t.head None h') (walked q q1 chain chain' t limit takes) (serves t.head calls) in
    waited_by (chain_in t.parcel) h h' t.parcel t.head there

and_right : (a b : Bool) → (a && b) ≡ true → b ≡ true
and_right true b both = both
and_right false b both = cc

busy_within : (d : DeviceState) (id : ℕ) (o : Option SessionState) → session_of d id ≡ o → is_busy o ≡ true → id < length d.sessions
busy_within d id None is busy = cc
busy_within d id (Some s) is busy = within d.sessions id s is

-- a session whose command has to wait was opened
waits_within : (d : DeviceState) (c : Command) (session : ℕ) → named_session c ≡ Some session → must_wait d c ≡ true → session < length d.sessions
waits_within d OpenSession session named must = cc
waits_within d (CloseSession id) session named must =
    let same : id ≡ session = cc in
    subst (λ n. n < length d.sessions) same (busy_within d id (session_of d id) refl must)
waits_within d (Ioctl id code payload) session named must =
    let same : id ≡ session = cc in
    subst (λ n. n < length d.sessions) same
    (busy_within d id (session_of d id) refl (and_right (stops_in (session_of d id) code payload) (is_busy (session_of d id)) must))
waits_within d (Map id writable offset) session named must = cc
waits_within d (Unmap addr) session named must = cc

may : (d : DeviceState) (c : Command) → must_wait d c ≡ true → may_wait c ≡ true
may d OpenSession must = cc
may d (CloseSession id) must = refl
may d (Ioctl id code payload) must = refl
may d (Map id writable offset) must = cc
may d (Unmap addr) must = cc

some_has : (P : ℕ → Type 0) (o : Option ℕ) (n : ℕ) → o ≡ Some n → IfSome o P → P n
some_has P (Some m) n is has = (let same : m ≡ n = cc in subst P same has)
some_has P None n is has = cc

command_has : (P : Command → Type 0) (o : Result Command CmdFault) (c : Command) → o ≡ Ok c → IfOk o P → P c
command_has P (Ok b) c is has = (let same : b ≡ c = cc in subst P same has)
command_has P (Err f) c is has = cc

-- no other call of the session waits
alone_of : (q q1 : Queue) (chain chain' : WalkedChain) (t : Taken) (h h' : HostState) → TakesFirst q chain t q1 chain' → IsAlone h q.waiting
    → (w : Waited (chain_in t.parcel) h h' t.parcel t.head) → is_some (waiting_for w.session h.waiting) ≡ false
alone_of q q1 chain chain' t h h' takes alone w =
    let P : Command → Type 0 = λ c. IfSome (named_session c) (λ session. waits h session ≡ false) in
    let asked = ok_has (λ descs. IfOk (asked_by descs t.parcel.pages) P) (chain_in t.parcel) w.descs w.walked (taken_asks P q q1 chain chain' t takes alone) in
    let named = command_has P (asked_by w.descs t.parcel.pages) w.command w.asked asked in
    sym (any_found (λ (x : Waiting). x.session == w.session) h.waiting) ∙ some_has (λ session. waits h session ≡ false) (named_session w.command) w.session w.named named

-- what is kept is kept with it
pub waited_sound : (q q1 : Queue) (chain chain' : WalkedChain) (t : Taken) (h h' : HostState) → TakesFirst q chain t q1 chain' → IsAlone h q.waiting → HasRoom q.waiting
    → IsSound h → Waited (chain_in t.parcel) h h' t.parcel t.head → IsSound h'
waited_sound q q1 chain chain' t h h' takes alone roomy sound w =
    let call : Waiting = record { session = w.session; head = t.head; parcel = t.parcel } in
    let waiting : IsWaiting call = record {
      descs = w.descs;
      command = w.command;
      walked = w.walked;
      asked = w.asked;
      named = w.named;
      waits = may h.device w.command w.must;
      room = command_has (HasRoomFor t.parcel) (asked_by w.descs t.parcel.pages) w.command w.asked
          (ok_has (λ descs. IfOk (asked_by descs t.parcel.pages) (HasRoomFor t.parcel)) (chain_in t.parcel) w.descs w.walked (room_taken q q1 chain chain' t takes roomy));
    } in
    let kept : IsSound (record h { waiting = with_call call h.waiting }) = record {
      few = sound.few;
      rising = rise_with call 0 (length h.device.sessions) h.waiting (omega arith) (waits_within h.device w.command w.session w.named w.must)
          (alone_of q q1 chain chain' t h h' takes alone w) sound.rising;
      calls = waiting_with call h.waiting waiting sound.calls;
    } in
    subst IsSound (sym w.is) kept

-- there is a place for it
pub waited_place : (h : HostState) (call : Waiting) (calls : List Waiting) (room : ℕ) → h.waiting ≡ with_call call calls → IsSound h → h.device.opens ≤ room → length calls < room
waited_place h call calls room is sound enough =
    let all = as_many 0 (length h.device.sessions) h.waiting (omega arith) sound.rising in
    let more = ap length is ∙ length_with call calls in
    let few = sound.few in
    omega (arith, all, more, few, enough)

pub waited_device : (o : Result (List Desc) ChainFault) (h h' : HostState) (p : Parcel) (head : ℕ) → Waited o h h' p head → h'.device ≡ h.device
waited_device o h h' p head w = ap (λ (x : HostState). x.device) w.is

-- ---- the whole step

pub executed_returns : (q q1 q2 : Queue) (chain chain' : WalkedChain) (t : Taken) (h : HostState) (d' : DeviceState) (used : ℕ) (p' : Parcel) (done : Finished) → chain.limit ≡ 64
    → TakesFirst q chain t q1 chain' → Served t.fault chain'.descs t.parcel h.device (Returns used) p' d' → done ≡ record { head = t.head; used = used; parcel = p' } → q2 ≡ finished q1 done
    → Executes q.waiting h q Did (record h { device = d' }) q2
executed_returns q q1 q2 chain chain' t h d' used p' done limit takes serves is finishes =
    let sent : Sent = record { used = used; parcel = p' } in
    let h' : HostState = record h { device = d' } in
    let moved : q2 ≡ moved_on q (rest_of q.waiting) t.head (length t.parcel.table) (Some sent) =
    finishes ∙ taken_then_finished q chain t q1 chain' done takes (ap (λ d. d.head) is) ∙ rw is refl in
    let served = subst (λ o. Serves o h t.parcel t.head (Some sent) h') (walked q q1 chain chain' t limit takes) (serves t.head h.waiting) in
    let P : List Parcel → Type 0 = λ ps. Executes ps h q Did h' q2 in
    subst P (sym takes.first) (refl, (t.head, Some sent, takes.fresh, served, moved))

pub executed_waits : (q q1 : Queue) (chain chain' : WalkedChain) (t : Taken) (h : HostState) (d' : DeviceState) (session : ℕ) (p' : Parcel) → chain.limit ≡ 64
    → TakesFirst q chain t q1 chain' → Served t.fault chain'.descs t.parcel h.device (Waits session) p' d'
    → Executes q.waiting h q Did (record { device = d'; waiting = with_call (record { session = session; head = t.head; parcel = p' }) h.waiting }) q1
executed_waits q q1 chain chain' t h d' session p' limit takes serves =
    let h' : HostState = record { device = d'; waiting = with_call (record { session = session; head = t.head; parcel = p' }) h.waiting } in
    let moved : q1 ≡ moved_on q (rest_of q.waiting) t.head (length t.parcel.table) None = takes.queue in
    let served = subst (λ o. Serves o h t.parcel t.head None h') (walked q q1 chain chain' t limit takes) (serves t.head h.waiting) in
    let P : List Parcel → Type 0 = λ ps. Executes ps h q Did h' q1 in
    subst P (sym takes.first) (refl, (t.head, None, takes.fresh, served, moved))

-- ---- a call that waited

ok_same : (o : Result (List Desc) ChainFault) (xs ys : List Desc) → o ≡ Ok xs → o ≡ Ok ys → xs ≡ ys
ok_same (Ok zs) xs ys is are = cc
ok_same (Err e) xs ys is are = cc

command_same : (o : Result Command CmdFault) (c x : Command) → o ≡ Ok c → o ≡ Ok x → c ≡ x
command_same (Ok z) c x is are = cc
command_same (Err e) c x is are = cc

-- its chain still asks its command
pub waited_asks : (d : DeviceState) (p : Parcel) (descs : List Desc) → chain_in p ≡ Ok descs → (w : CanGoOn d p) → asked_by descs p.pages ≡ Ok w.command
waited_asks d p descs is w = subst (λ ds. asked_by ds p.pages ≡ Ok w.command) (ok_same (chain_in p) w.descs descs w.walked is) w.asked

pub waited_command : (d : DeviceState) (p : Parcel) (descs : List Desc) (r : Result Command CmdFault) (x : Command) → chain_in p ≡ Ok descs → (w : CanGoOn d p)
    → r ≡ asked_by descs p.pages → r ≡ Ok x → w.command ≡ x
waited_command d p descs r x is w read one = command_same r w.command x (read ∙ waited_asks d p descs is w) one

rest_where : (b : Bool) (o : Option SessionState) → is_at_rest o ≡ true → is_busy o ≡ false
rest_where b None rest = refl
rest_where b (Some s) rest = not_true (is_quiet s) rest
  where
    not_true : (q : Bool) → q ≡ true → not q ≡ false
    not_true true is = refl
    not_true false is = cc

and_false : (a b : Bool) → b ≡ false → (a && b) ≡ false
and_false true b is = is
and_false false b is = refl

-- a call of a session that is quiet can go on
pub can_go_on : (d : DeviceState) (w : Waiting) → IsWaiting w → is_at_rest (session_of d w.session) ≡ true → CanGoOn d w.parcel
can_go_on d w waiting rest = record {
  descs = waiting.descs;
  command = waiting.command;
  walked = waiting.walked;
  asked = waiting.asked;
  place = has_place waiting.command waiting.waits;
  waits = needs_not waiting.command waiting.named waiting.waits;
  room = waiting.room;
}
  where
    has_place : (c : Command) → may_wait c ≡ true → HasPlaceFor d c
    has_place OpenSession may = cc
    has_place (CloseSession id) may = tt
    has_place (Ioctl id code payload) may = tt
    has_place (Map id writable offset) may = cc
    has_place (Unmap addr) may = cc

    quiet : (id : ℕ) → Some id ≡ Some w.session → is_busy (session_of d id) ≡ false
    quiet id same = (let here : w.session ≡ id = cc in subst (λ n. is_busy (session_of d n) ≡ false) here (rest_where true (session_of d w.session) rest))

    needs_not : (c : Command) → named_session c ≡ Some w.session → may_wait c ≡ true → must_wait d c ≡ false
    needs_not OpenSession named may = refl
    needs_not (CloseSession id) named may = quiet id named
    needs_not (Ioctl id code payload) named may = and_false (stops_in (session_of d id) code payload) (is_busy (session_of d id)) (quiet id named)
    needs_not (Map id writable offset) named may = refl
    needs_not (Unmap addr) named may = refl

kept_if : (b : Bool) (session : ℕ) (w : Waiting) (ws : List Waiting) → (waiting_for session ws ≡ None → without_call session ws ≡ ws)
    → (if b then Some w else waiting_for session ws) ≡ None → (if b then ws else w ∷ without_call session ws) ≡ w ∷ ws
kept_if true session w ws rest none = cc
kept_if false session w ws rest none = ap (λ xs. w ∷ xs) (rest none)

none_kept : (session : ℕ) (ws : List Waiting) → waiting_for session ws ≡ None → without_call session ws ≡ ws
none_kept session [] none = refl
none_kept session (w ∷ ws) none = kept_if (w.session == session) session w ws (none_kept session ws) none

-- where no call of the session waits, the same calls wait
pub none_out : (session : ℕ) (ws ws' : List Waiting) → None ≡ waiting_for session ws → ws' ≡ without_call session ws → ws' ≡ ws
none_out session ws ws' none is = is ∙ none_kept session ws (sym none)

-- what it leaves
pub goes_grow : (d d' : DeviceState) (p : Parcel) (sent : Sent) → CanGoOn d p → GoesOn d p sent d' → Grows d d'
goes_grow d d' p sent w goes =
    let same : w.command ≡ goes.1 = command_same (asked_by goes.0 p.pages) w.command goes.1 (waited_asks d p goes.0 goes.2 w) goes.3 in
    let place : HasPlaceFor d goes.1 = subst (HasPlaceFor d) same w.place in
    let grown : Grows d goes.4.0.device = performs_grow d goes.1 _ p.held goes.4.0 place goes.4.1 in
    subst (Grows d) (sym goes.4.3) grown

pub resumed_sound : (d d' : DeviceState) (session : ℕ) (ws : List Waiting) → IsSound (record { device = d; waiting = ws }) → Grows d d' → IsSound (record { device = d'; waiting = without_call session ws })
resumed_sound d d' session ws sound grows =
    let kept = grown_sound d d' ws sound grows in
    record {
      few = kept.few;
      rising = rise_without session 0 (length d'.sessions) ws kept.rising;
      calls = waiting_without session ws kept.calls;
    }

pub resumed_call : (session : ℕ) (h : HostState) (q q' : Queue) (w : Waiting) (d' : DeviceState) (sent : Sent) → is_at_rest (session_of h.device session) ≡ true → Some w ≡ waiting_for session h.waiting
    → GoesOn h.device w.parcel sent d' → q' ≡ finished q (record { head = w.head; used = sent.used; parcel = sent.parcel })
    → Resumes session h q Did (record { device = d'; waiting = without_call session h.waiting }) q'
resumed_call session h q q' w d' sent rest found goes finishes =
    let h' : HostState = record { device = d'; waiting = without_call session h.waiting } in
    let P : Bool → Option Waiting → Type 0 = λ b o. ResumesCall b o h q Did h' q' in
    let named : w.session ≡ session = found_named session h.waiting w (sym found) in
    let same : h' ≡ record { device = d'; waiting = without_call w.session h.waiting } =
    ap (λ n. record { device = d'; waiting = without_call n h.waiting }) (sym named) in
    let here : ResumesCall true (Some w) h q Did h' q' = (refl, (sent, d', goes, same, finishes)) in
    subst (λ b. ResumesCall b (waiting_for session h.waiting) h q Did h' q') (sym rest) (subst (λ o. ResumesCall true o h q Did h' q') found here)

pub resumed_none : (session : ℕ) (h h' : HostState) (q q' : Queue) → is_at_rest (session_of h.device session) ≡ true → None ≡ waiting_for session h.waiting
    → h' ≡ h → q' ≡ q → Resumes session h q Idle h' q'
resumed_none session h h' q q' rest none same kept =
    subst (λ b. ResumesCall b (waiting_for session h.waiting) h q Idle h' q') (sym rest) (subst (λ o. ResumesCall true o h q Idle h' q') none (refl, same, kept))

-- ---- events

whole_if : (f : Option ChainFault) (xs ys : List Desc) → ok_unless f xs ≡ Ok ys → f ≡ None
whole_if None xs ys is = refl
whole_if (Some fault) xs ys is = cc

-- the event chain that is taken has no fault
pub event_walked : (q q1 : Queue) (chain chain' : WalkedChain) (t : Taken) (h : HostState) → chain.limit ≡ 64 → TakesFirst q chain t q1 chain' → IsReadyForEvent h q.waiting
    → nat_lt 0 (length h.device.unsent) ≡ true → chain_in t.parcel ≡ Ok chain'.descs
event_walked q q1 chain chain' t h limit takes ready unsent =
    let event = subst (λ (ps : List Parcel). IsReadyForEvent h ps) takes.first ready unsent in
    walked_whole q q1 chain chain' t limit takes (whole_if t.fault chain'.descs event.0 (walked q q1 chain chain' t limit takes ∙ event.1))

pub announced : (q q1 q2 : Queue) (chain chain' : WalkedChain) (t : Taken) (h : HostState) (descs : List Desc) (d' : DeviceState) (used : ℕ) (p' : Parcel) (done : Finished)
    (msg : EventMsg) (memory : Option Held) → chain.limit ≡ 64 → TakesFirst q chain t q1 chain' → IsReadyForEvent h q.waiting → nat_lt 0 (length h.device.unsent) ≡ true → descs ≡ chain'.descs
    → Sends h.device h.device.unsent (Some (msg, memory)) d' → record { used = used; parcel = p' } ≡ sent_event t.parcel descs msg memory → IsEvent msg
    → done ≡ record { head = t.head; used = used; parcel = p' } → q2 ≡ finished q1 done → Announces h q Did (record h { device = d' }) q2
announced q q1 q2 chain chain' t h descs d' used p' done msg memory limit takes ready unsent same sends tells fits is finishes =
    let sent : Sent = record { used = used; parcel = p' } in
    let h' : HostState = record h { device = d' } in
    let moved : q2 ≡ moved_on q (rest_of q.waiting) t.head (length t.parcel.table) (Some sent) =
    finishes ∙ taken_then_finished q chain t q1 chain' done takes (ap (λ d. d.head) is) ∙ rw is refl in
    let told : sent ≡ sent_event t.parcel chain'.descs msg memory = tells ∙ ap (λ ds. sent_event t.parcel ds msg memory) same in
    let P : List Parcel → Type 0 = λ ps. AnnouncesIf true ps h q Did h' q2 in
    let walked = event_walked q q1 chain chain' t h limit takes ready unsent in
    let all : AnnouncesIf true q.waiting h q Did h' q2 = subst P (sym takes.first) (refl, (t.head, chain'.descs, sent, takes.fresh, walked, (msg, memory, sends, refl, told, fits), moved)) in
    subst (λ b. AnnouncesIf b q.waiting h q Did h' q2) (sym unsent) all
