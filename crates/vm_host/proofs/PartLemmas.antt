-- The steps are the device's part of them, over what is said on the link.
use Rattle.std.proofs.Common.{◌≡◌, ℕ, ◌≤◌, ◌==◌, arith, IfOk, Bool, true, false, Option, Some, None, Result, Ok, Err, List, [], ◌∷◌, nat_lt, map, refl, sym, ap, ◌∙◌, subst, if◌then◌else◌}
use Rattle.vm_chain.specs.Chain.{writable_bytes}
use Rattle.vm_chain.specs.declared.desc.Desc.{Desc}
use Rattle.vm_chain.specs.declared.fault.ChainFault.{ChainFault}
use Rattle.vm_link.specs.declared.link.Turn.TheVariants.{Did}
use Rattle.vm_link.specs.Queue.{Queue}
use Rattle.vm_link.specs.declared.parcel.Parcel.{Parcel}
use Rattle.vm_wire.specs.Message.{Ask}
use Rattle.vm_wire.specs.Message.Ask.{Unusable, Judged}
use Rattle.std.proofs.lemmas.Bool.Decides.{nat_tests}
use Rattle.vm_carrier.specs.Carrier.{readable_of}
use Rattle.vm_wire.proofs.DecidedLemmas.{judged_ok}
use Rattle.vm_wire.specs.Wire.{Spells, response_bytes, reply_size}
use Rattle.vm_wire.specs.declared.command.Command.{Command}
use Rattle.vm_wire.specs.declared.command.Command.TheVariants.{OpenSession, CloseSession, Ioctl, Map, Unmap}
use Rattle.vm_wire.specs.declared.command.CmdFault.{CmdFault}
use Rattle.vm_wire.specs.declared.delivery.Delivery.{Delivery}
use Rattle.vm_device.specs.Device.{DeviceState, session_of, is_at_rest}
use Rattle.vm_device.specs.Perform.{Performs, must_wait}
use Rattle.vm_device.specs.Stream.{Sends}
use Rattle.vm_host.specs.Chains.{Sent, chain_in, asked_by, behind, refusal_of_fault}
use Rattle.vm_host.specs.Host.{HostState, waiting_for, with_call, without_call}
use Rattle.vm_wire.specs.Message.{Posting, Returning}
use Rattle.vm_host.specs.Part.{Completed, ExecutedAsk, ExecutedCommand, ResumedCall, AnnouncedTo, IsExecuted, IsResumed, IsAnnounced, CarriesIf, ask_by, behind_by, behind_asked, posting_of, call_of, part_of, call_for, returning}
use Rattle.vm_host.specs.Steps.{Completes, Serves, ServesRoom, ServesAsked, ServesCommand, Resumes, ResumesCall, Announce}
use Rattle.vm_host.specs.Waiting.{put_in, taken_out}
use Rattle.vm_host.specs.declared.waiting.Waiting.{Waiting}

-- ---- the calls that wait, without their chains

put_if : (b : Bool) (call w : Waiting) (ws : List Waiting) → map call_of (with_call call ws) ≡ put_in (λ c. c.session) (call_of call) (map call_of ws)
    → map call_of (if b then w ∷ with_call call ws else call ∷ (w ∷ ws)) ≡ (if b then call_of w ∷ put_in (λ c. c.session) (call_of call) (map call_of ws) else call_of call ∷ (call_of w ∷ map call_of ws))
put_if true call w ws rest = ap (λ cs. call_of w ∷ cs) rest
put_if false call w ws rest = refl

put_calls : (call : Waiting) (ws : List Waiting) → map call_of (with_call call ws) ≡ put_in (λ c. c.session) (call_of call) (map call_of ws)
put_calls call [] = refl
put_calls call (w ∷ ws) = put_if (nat_lt w.session call.session) call w ws (put_calls call ws)

out_if : (b : Bool) (session : ℕ) (w : Waiting) (ws : List Waiting) → map call_of (without_call session ws) ≡ taken_out (λ c. c.session) session (map call_of ws)
    → map call_of (if b then ws else w ∷ without_call session ws) ≡ (if b then map call_of ws else call_of w ∷ taken_out (λ c. c.session) session (map call_of ws))
out_if true session w ws rest = refl
out_if false session w ws rest = ap (λ cs. call_of w ∷ cs) rest

out_calls : (session : ℕ) (ws : List Waiting) → map call_of (without_call session ws) ≡ taken_out (λ c. c.session) session (map call_of ws)
out_calls session [] = refl
out_calls session (w ∷ ws) = out_if (w.session == session) session w ws (out_calls session ws)

found_if : (b : Bool) (session : ℕ) (w x : Waiting) (ws : List Waiting) → (waiting_for session ws ≡ Some x → call_for session (map call_of ws) ≡ Some (call_of x))
    → (if b then Some w else waiting_for session ws) ≡ Some x → (if b then Some (call_of w) else call_for session (map call_of ws)) ≡ Some (call_of x)
found_if true session w x ws rest is = (let same : w ≡ x = cc in ap (λ (v : Waiting). Some (call_of v)) same)
found_if false session w x ws rest is = rest is

found_call : (session : ℕ) (ws : List Waiting) (x : Waiting) → waiting_for session ws ≡ Some x → call_for session (map call_of ws) ≡ Some (call_of x)
found_call session [] x is = cc
found_call session (w ∷ ws) x is = found_if (w.session == session) session w x ws (found_call session ws x) is

-- ---- what is asked

asks_command : (p : Parcel) (descs : List Desc) (c : Command) → chain_in p ≡ Ok descs → nat_lt (writable_bytes descs) 8 ≡ false → asked_by descs p.pages ≡ Ok c
    → ask_by (chain_in p) p ≡ Judged (Ok c)
asks_command p descs c walked room asked =
    ap (λ o. ask_by o p) walked ∙ ap (λ b. if b then Unusable else Judged (asked_by descs p.pages)) room ∙ ap Judged asked

behind_command : (p : Parcel) (descs : List Desc) (c : Command) → chain_in p ≡ Ok descs → asked_by descs p.pages ≡ Ok c → behind_by (chain_in p) p ≡ behind c descs p.pages
behind_command p descs c walked asked = ap (λ o. behind_by o p) walked ∙ ap (λ o. behind_asked o descs p) asked

-- a command that is done is done by the part
completed : (d d' : DeviceState) (p : Parcel) (descs : List Desc) (c : Command) (sent : Sent) → chain_in p ≡ Ok descs → asked_by descs p.pages ≡ Ok c → (does : Completes d p descs c sent d')
    → Completed (posting_of p) c d (returning (posting_of p) (response_bytes does.0.response) does.0.held) d'
completed d d' p descs c sent walked asked does =
    let performs = subst (λ bs. Performs d c bs p.held does.0) (sym (behind_command p descs c walked asked)) does.1 in
    (does.0, performs, refl, does.3)

-- ---- a chain is served

-- with this ask
by_ask : (p : Parcel) (h h' : HostState) (sent : Option Sent) (ask : Ask) (out : Option Returning) → ask_by (chain_in p) p ≡ ask → ExecutedAsk ask (posting_of p) (part_of h) out (part_of h')
    → CarriesIf out sent → IsExecuted h p sent h'
by_ask p h h' sent ask out says does carries = (out, subst (λ a. ExecutedAsk a (posting_of p) (part_of h) out (part_of h')) (sym says) does, carries)

pub serves_part : (p : Parcel) (h h' : HostState) (head : ℕ) (sent : Option Sent) → Serves (chain_in p) h p head sent h' → IsExecuted h p sent h'
serves_part p h h' head sent serves = by_chain (chain_in p) refl serves
  where
    empty : ask_by (chain_in p) p ≡ Unusable → sent ≡ Some (record { used = 0; parcel = p }) → h' ≡ h → IsExecuted h p sent h'
    empty says is same =
        by_ask p h h' sent Unusable (Some (returning (posting_of p) [] p.held)) says (refl, ap part_of same) (record { used = 0; parcel = p }, is, (refl, refl, refl))

    by_wait : (b : Bool) (descs : List Desc) (c : Command) → chain_in p ≡ Ok descs → nat_lt (writable_bytes descs) 8 ≡ false → asked_by descs p.pages ≡ Ok c
        → must_wait h.device c ≡ b → ServesCommand b h p head descs c sent h' → IsExecuted h p sent h'
    by_wait true descs c walked room asked must does =
        let call : Waiting = record { session = does.1.0; head = head; parcel = p } in
        let same : part_of h' ≡ record (part_of h) { calls = put_in (λ w. w.session) (call_of call) (part_of h).calls } =
        ap part_of does.1.2 ∙ ap (λ cs. record { device = h.device; calls = cs }) (put_calls call h.waiting) in
        by_ask p h h' sent (Judged (Ok c)) None (asks_command p descs c walked room asked)
        (subst (λ b. ExecutedCommand b (posting_of p) c (part_of h) None (part_of h')) (sym must) (refl, (does.1.0, does.1.1, same))) does.0
    by_wait false descs c walked room asked must does =
        let r : Returning = returning (posting_of p) (response_bytes does.2.0.response) does.2.0.held in
        let done : Completed (posting_of p) c h.device r does.1 = completed h.device does.1 p descs c does.0 walked asked does.2 in
        by_ask p h h' sent (Judged (Ok c)) (Some r) (asks_command p descs c walked room asked)
        (subst (λ b. ExecutedCommand b (posting_of p) c (part_of h) (Some r) (part_of h')) (sym must) (r, does.1, done, refl, ap part_of does.4))
        (does.0, does.3, (ap (λ (s : Sent). s.used) does.2.2, ap (λ (s : Sent). s.parcel.held) does.2.2, ap (λ (s : Sent). s.parcel.who) does.2.2))

    by_asked : (o : Result Command CmdFault) (descs : List Desc) → chain_in p ≡ Ok descs → nat_lt (writable_bytes descs) 8 ≡ false → asked_by descs p.pages ≡ o
        → ServesAsked o h p head descs sent h' → IsExecuted h p sent h'
    by_asked (Ok c) descs walked room asked does = by_wait (must_wait h.device c) descs c walked room asked refl does
    by_asked (Err f) descs walked room asked does =
        let says = ap (λ o. ask_by o p) walked ∙ ap (λ b. if b then Unusable else Judged (asked_by descs p.pages)) room ∙ ap Judged asked in
        by_ask p h h' sent (Judged (Err f)) (Some (returning (posting_of p) (response_bytes (refusal_of_fault f)) p.held)) says (refl, ap part_of does.1) (_, does.0, (refl, refl, refl))

    by_room : (b : Bool) (descs : List Desc) → chain_in p ≡ Ok descs → nat_lt (writable_bytes descs) 8 ≡ b → ServesRoom b h p head descs sent h' → IsExecuted h p sent h'
    by_room true descs walked room does =
        empty (ap (λ o. ask_by o p) walked ∙ ap (λ b. if b then Unusable else Judged (asked_by descs p.pages)) room) does.0 does.1
    by_room false descs walked room does = by_asked (asked_by descs p.pages) descs walked room refl does

    by_chain : (o : Result (List Desc) ChainFault) → chain_in p ≡ o → Serves o h p head sent h' → IsExecuted h p sent h'
    by_chain (Err fault) is does = empty (ap (λ o. ask_by o p) is) does.0 does.1
    by_chain (Ok descs) is does = by_room (nat_lt (writable_bytes descs) 8) descs is refl does

-- ---- a call that waited goes on

some_reply : (c : Command) → 8 ≤ reply_size c
some_reply OpenSession = omega arith
some_reply (CloseSession session) = omega arith
some_reply (Ioctl session code payload) = omega arith
some_reply (Map session writable offset) = omega arith
some_reply (Unmap addr) = omega arith

spelled : (bytes : List ℕ) (room : ℕ) (o : Result Command CmdFault) (c : Command) → IfOk o (λ b. Spells bytes room b) → o ≡ Ok c → reply_size c ≤ room
spelled bytes room (Ok b) c spells is = (let same : b ≡ c = cc in subst (λ x. reply_size x ≤ room) same spells.1)
spelled bytes room (Err f) c spells is = cc

-- a chain that asks a command has room for its status
roomy : (descs : List Desc) (p : Parcel) (c : Command) → asked_by descs p.pages ≡ Ok c → nat_lt (writable_bytes descs) 8 ≡ false
roomy descs p c asked =
    let least = some_reply c in
    let fits = spelled (readable_of descs p.pages) (writable_bytes descs) (asked_by descs p.pages) c
    (judged_ok (readable_of descs p.pages) (writable_bytes descs) (asked_by descs p.pages) refl) asked in
    let enough : 8 ≤ writable_bytes descs = omega (arith, least, fits) in
    grind (arith, nat_tests, enough)

pub resumes_part : (session : ℕ) (h next : HostState) (q r : Queue) → Resumes session h q Did next r → IsResumed session h next
resumes_part session h next q r resumes = by_both (is_at_rest (session_of h.device session)) (waiting_for session h.waiting) refl refl resumes
  where
    by_both : (b : Bool) (o : Option Waiting) → is_at_rest (session_of h.device session) ≡ b → waiting_for session h.waiting ≡ o → ResumesCall b o h q Did next r → IsResumed session h next
    by_both true (Some w) rest found does =
        let goes = does.1.2 in
        let m : Posting = posting_of w.parcel in
        let reply : Returning = returning m (response_bytes goes.4.0.response) goes.4.0.held in
        let done : Completed m goes.1 h.device reply does.1.1 = completed h.device does.1.1 w.parcel goes.0 goes.1 does.1.0 goes.2 goes.3 goes.4 in
        let same : part_of next ≡ record { device = does.1.1; calls = taken_out (λ c. c.session) w.session (part_of h).calls } =
        ap part_of does.1.3 ∙ ap (λ cs. record { device = does.1.1; calls = cs }) (out_calls w.session h.waiting) in
        let asks = asks_command w.parcel goes.0 goes.1 goes.2 (roomy goes.0 w.parcel goes.1 goes.3) goes.3 in
        let here : ResumedCall (Some (call_of w)) (part_of h) reply (part_of next) = (goes.1, does.1.1, asks, done, same) in
        (reply, (rest, subst (λ o. ResumedCall o (part_of h) reply (part_of next)) (sym (found_call session h.waiting w found)) here))
    by_both true None rest found does = (let never = does.0 in cc)
    by_both false (Some w) rest found does = (let never = does.0 in cc)
    by_both false None rest found does = (let never = does.0 in cc)

-- ---- an event is sent

pub announces_part : (p : Parcel) (descs : List Desc) (head : ℕ) (h next : HostState) (sent : Sent) → Announce p descs head h sent next → IsAnnounced p h sent next
announces_part p descs head h next sent does = by_ids h.device.unsent refl
  where
    by_ids : (ids : List ℕ) → h.device.unsent ≡ ids → IsAnnounced p h sent next
    by_ids [] is =
        let sends = subst (λ ids. Sends h.device ids (Some (does.0, does.1)) next.device) is does.2 in
        let never = sends.0 in
        cc
    by_ids (session ∷ sessions) is =
        let delivery : Delivery = record { session = session; msg = does.0; held = does.1 } in
        let calls : (part_of next).calls ≡ (part_of h).calls = ap (λ ws. map call_of ws) does.3 in
        let here : AnnouncedTo (session ∷ sessions) (part_of h) delivery (part_of next) = (refl, does.2, calls) in
        (delivery, subst (λ ids. AnnouncedTo ids (part_of h) delivery (part_of next)) (sym is) here, ap (λ (s : Sent). s.used) does.4, ap (λ (s : Sent). s.parcel.held) does.4)
