-- Lemmas on the device's steps on posted chains: they are its part of the step over what was sent, and what it returns comes back.
use Rattle.std.proofs.Common.{◌≡◌, ℕ, ◌≤◌, ◌<◌, ◌==◌, Bool, true, false, nat_lt, List, [], ◌∷◌, length, map, Option, Some, None, Result, Ok, Err, IfOk, refl, sym, ap, ◌∙◌, subst, arith, inl, inr, if◌then◌else◌}
use Rattle.std.proofs.lemmas.Bool.Decides.{nat_tests}
use Rattle.v4l_const.specs.declared.errno.Errno.{Errno}
use Rattle.v4l_const.specs.declared.ioctl_code.IoctlCode.{IoctlCode}
use Rattle.vm_chain.specs.Chain.{writable_bytes}
use Rattle.vm_chain.specs.declared.desc.Desc.{Desc}
use Rattle.vm_chain.specs.declared.fault.ChainFault.{ChainFault}
use Rattle.vm_frame.specs.declared.mem.Held.{Held}
use Rattle.vm_region.specs.declared.live_range.LiveRange.{LiveRange}
use Rattle.vm_region.specs.Region.{range_at}
use Rattle.vm_carrier.specs.Carrier.{readable_of}
use Rattle.vm_link.specs.Queue.{Queue, finished}
use Rattle.vm_link.specs.declared.link.Turn.TheVariants.{Did}
use Rattle.vm_link.specs.declared.parcel.Parcel.{Parcel}
use Rattle.vm_wire.specs.Message.{Ask, Posting, Returning}
use Rattle.vm_wire.specs.Message.Ask.{Unusable, Judged}
use Rattle.vm_wire.specs.Payload.{HasItsLength}
use Rattle.vm_wire.specs.Wire.{Spells, response_bytes, reply_size}
use Rattle.vm_wire.specs.declared.command.Command.{Command}
use Rattle.vm_wire.specs.declared.command.Command.TheVariants.{OpenSession, CloseSession, Ioctl, Map, Unmap}
use Rattle.vm_wire.specs.declared.command.CmdFault.{CmdFault}
use Rattle.vm_wire.specs.declared.delivery.Delivery.{Delivery}
use Rattle.vm_wire.proofs.DecidedLemmas.{judged_ok}
use Rattle.vm_session.specs.State.{SessionState}
use Rattle.vm_session.specs.Rows.{IoctlAnswer, ioctl_outcome}
use Rattle.vm_session.proofs.SizeLemmas.{answer_length}
use Rattle.vm_device.specs.Brought.{comes_with}
use Rattle.vm_device.specs.Device.{DeviceState, session_of, is_at_rest}
use Rattle.vm_device.specs.Mappings.{frame_in}
use Rattle.vm_device.specs.Perform.{Answer, FitsCall, Performs, MapsFound, UnmapsAt, closed, opened, called, called_with, in_session, must_wait}
use Rattle.vm_device.specs.Stream.{Sends}
use Rattle.vm_host.specs.Chains.{Sent, chain_in, asked_by, behind, refusal_of_fault, sent_with, sent_empty}
use Rattle.vm_host.specs.Host.{HostState, waiting_for, with_call, without_call}
use Rattle.vm_host.specs.Part.{Completed, Executed, ExecutedAsk, ExecutedCommand, Resumed, ResumedCall, Announced, AnnouncedTo, ask_by, behind_by, behind_asked, posting_of as posting_in, call_of, part_of, call_for, returning}
use Rattle.vm_host.specs.Steps.{Completes, Serves, ServesRoom, ServesAsked, ServesCommand, Resumes, ResumesCall, Announce}
use Rattle.vm_host.specs.Waiting.{put_in, taken_out}
use Rattle.vm_host.specs.declared.waiting.Waiting.{Waiting}
use Rattle.vm_host.proofs.ReadLemmas.{spelled_fits}
use Rattle.vm_guest.specs.Chain.{IsEventChain}
use Rattle.vm_guest.specs.Message.{Sending, Carries, posting_of}
use Rattle.vm_guest.specs.Orderly.{process_limit}
use Rattle.vm_across.specs.Across.{IsFit, ComesBack, BringsBack}
use Rattle.vm_across.specs.Served.{ComesBackIf, SendsFit}
use Rattle.vm_across.proofs.AskLemmas.{some_reply}
use Rattle.vm_across.proofs.ReadLemmas.{is_read}
use Rattle.vm_across.proofs.BackLemmas.{posted, returned, returned_empty}
use Rattle.vm_across.proofs.EventLemmas.{brought_back}

-- ---- a response goes into the room that its command asks for

-- this many bytes are as many as the response to a command may have
abbrev Goes : Command → Answer → Type 0
Goes c a = length (response_bytes a.response) ≤ reply_size c

open_goes : (memory : Bool) (held : List Held) (d : DeviceState) → Goes OpenSession (opened memory held d)
open_goes true held d = omega arith
open_goes false held d = omega arith

close_goes : (d : DeviceState) (id : ℕ) (held : List Held) (o : Option SessionState) → Goes (CloseSession id) (closed d id held o)
close_goes d id held None = omega arith
close_goes d id held (Some s) = omega arith

called_goes : (d : DeviceState) (id : ℕ) (code : IoctlCode) (payload : List ℕ) (held : List Held) (o : Result IoctlAnswer Errno) → IfOk o (λ a. length a.payload ≡ length payload)
    → Goes (Ioctl id code payload) (called d id code held o)
called_goes d id code payload held (Ok a) sized = omega (arith, sized)
called_goes d id code payload held (Err errno) sized = omega arith

outcome_sized : (memory : Bool) (s : SessionState) (code : IoctlCode) (payload : List ℕ) (held : List Held) (o : Result IoctlAnswer Errno) → HasItsLength code payload
    → ioctl_outcome memory s code payload held ≡ o → IfOk o (λ a. length a.payload ≡ length payload)
outcome_sized memory s code payload held (Ok a) fits is = answer_length memory s code payload held a fits is
outcome_sized memory s code payload held (Err errno) fits is = tt

with_goes : (memory : Bool) (d : DeviceState) (id : ℕ) (s : SessionState) (code : IoctlCode) (payload : List ℕ) (held : List Held) (o : Result (List Held) Errno)
    → HasItsLength code payload → Goes (Ioctl id code payload) (called_with memory d id s code payload held o)
with_goes memory d id s code payload held (Ok come) fits =
    called_goes d id code payload come (ioctl_outcome memory s code payload come) (outcome_sized memory s code payload come (ioctl_outcome memory s code payload come) fits refl)
with_goes memory d id s code payload held (Err errno) fits = omega arith

session_goes : (memory : Bool) (d : DeviceState) (id : ℕ) (o : Option SessionState) (code : IoctlCode) (payload wire : List ℕ) (held : List Held)
    → HasItsLength code payload → Goes (Ioctl id code payload) (in_session memory d id o code payload wire held)
session_goes memory d id None code payload wire held fits = omega arith
session_goes memory d id (Some s) code payload wire held fits = with_goes memory d id s code payload held (comes_with s code payload wire held) fits

map_goes : (d : DeviceState) (held : List Held) (id offset : ℕ) (writable : Bool) (o : Result (ℕ × ℕ) Errno) (a : Answer) → MapsFound d held o a → Goes (Map id writable offset) a
map_goes d held id offset writable (Ok frame) a (inl is) = subst (Goes (Map id writable offset)) (sym is) (omega arith)
map_goes d held id offset writable (Ok frame) a (inr maps) = subst (Goes (Map id writable offset)) (sym maps.3) (omega arith)
map_goes d held id offset writable (Err errno) a is = subst (Goes (Map id writable offset)) (sym is) (omega arith)

unmap_goes : (d : DeviceState) (held : List Held) (addr : ℕ) (o : Option LiveRange) (a : Answer) → UnmapsAt d held addr o a → Goes (Unmap addr) a
unmap_goes d held addr (Some r) a unmaps = subst (Goes (Unmap addr)) (sym unmaps.2) (omega arith)
unmap_goes d held addr None a is = subst (Goes (Unmap addr)) (sym is) (omega arith)

goes : (d : DeviceState) (c : Command) (wire : List ℕ) (held : List Held) (a : Answer) → FitsCall c → Performs d c wire held a → Goes c a
goes d OpenSession wire held a fits performs = subst (Goes OpenSession) (sym performs.1) (open_goes performs.0 held d)
goes d (CloseSession id) wire held a fits performs = subst (Goes (CloseSession id)) (sym performs) (close_goes d id held (session_of d id))
goes d (Ioctl id code payload) wire held a fits performs =
    subst (Goes (Ioctl id code payload)) (sym performs.1) (session_goes performs.0 d id (session_of d id) code payload wire held fits)
goes d (Map id writable offset) wire held a fits performs = map_goes d held id offset writable (frame_in (session_of d id) offset) a performs
goes d (Unmap addr) wire held a fits performs = unmap_goes d held addr (range_at addr d.region.ranges) a performs

-- a command that is asked is spelled
asked_spells : (descs : List Desc) (p : Parcel) (c : Command) → asked_by descs p.pages ≡ Ok c → Spells (readable_of descs p.pages) (writable_bytes descs) c
asked_spells descs p c asked =
    let P : Result Command CmdFault → Type 0 = λ o. IfOk o (λ d. Spells (readable_of descs p.pages) (writable_bytes descs) d) in
    subst P asked (judged_ok (readable_of descs p.pages) (writable_bytes descs) (asked_by descs p.pages) refl)

-- a chain that asks a command has room for a status
roomy : (descs : List Desc) (p : Parcel) (c : Command) → asked_by descs p.pages ≡ Ok c → nat_lt (writable_bytes descs) 8 ≡ false
roomy descs p c asked =
    let least = some_reply c in
    let fits = (asked_spells descs p c asked).1 in
    let enough : 8 ≤ writable_bytes descs = omega (arith, least, fits) in
    grind (arith, nat_tests, enough)

-- the response to a command that was asked goes into what may be written
response_goes : (d : DeviceState) (p : Parcel) (descs : List Desc) (c : Command) (wire : List ℕ) (held : List Held) (a : Answer) → asked_by descs p.pages ≡ Ok c → Performs d c wire held a
    → length (response_bytes a.response) ≤ writable_bytes descs
response_goes d p descs c wire held a asked performs =
    let spells = asked_spells descs p c asked in
    let fits : FitsCall c = spelled_fits (readable_of descs p.pages) (writable_bytes descs) c spells in
    let small = goes d c wire held a fits performs in
    let room = spells.1 in
    omega (arith, small, room)

-- ---- what a chain asks

pub asks_command : (p : Parcel) (descs : List Desc) (c : Command) → chain_in p ≡ Ok descs → asked_by descs p.pages ≡ Ok c → ask_by (chain_in p) p ≡ Judged (Ok c)
asks_command p descs c walked asked =
    ap (λ o. ask_by o p) walked ∙ ap (λ b. if b then Unusable else Judged (asked_by descs p.pages)) (roomy descs p c asked) ∙ ap Judged asked

-- a command that is done is done by the part
completed : (d d' : DeviceState) (p : Parcel) (descs : List Desc) (c : Command) (sent : Sent) → chain_in p ≡ Ok descs → asked_by descs p.pages ≡ Ok c → (does : Completes d p descs c sent d')
    → Completed (posting_in p) c d (returning (posting_in p) (response_bytes does.0.response) does.0.held) d'
completed d d' p descs c sent walked asked does =
    let rest : behind_by (chain_in p) p ≡ behind c descs p.pages = ap (λ o. behind_by o p) walked ∙ ap (λ o. behind_asked o descs p) asked in
    (does.0, subst (λ bs. Performs d c bs p.held does.0) (sym rest) does.1, refl, does.3)

-- ---- what comes back

who_is : (n : ℕ) (sending : Sending) (p : Parcel) → Carries n sending p → p.who ≡ n
who_is n sending p carries = ap (λ (x : Parcel). x.who) (posted n sending p carries).is

with_reply : (n head : ℕ) (sending : Sending) (p : Parcel) (descs : List Desc) (bytes : List ℕ) (held : List Held) → n < process_limit → IsFit sending → Carries n sending p
    → chain_in p ≡ Ok descs → length bytes ≤ writable_bytes descs → ComesBack n sending head (sent_with p descs bytes held) (returning (posting_in p) bytes held)
with_reply n head sending p descs bytes held few fits carries walked small =
    let P : ℕ → Type 0 = λ who. ComesBack n sending head (sent_with p descs bytes held) (record { reply = record { who = who; bytes = bytes }; held = held }) in
    subst P (sym (who_is n sending p carries)) (returned n head sending p descs bytes held few fits carries walked small)

without_reply : (n head : ℕ) (sending : Sending) (p : Parcel) → Carries n sending p → ComesBack n sending head (sent_empty p) (returning (posting_in p) [] p.held)
without_reply n head sending p carries =
    let P : ℕ → Type 0 = λ who. ComesBack n sending head (sent_empty p) (record { reply = record { who = who; bytes = [] }; held = p.held }) in
    subst P (sym (who_is n sending p carries)) (returned_empty n head sending p carries)

-- the chain of a command that is done comes back with its response
with_answer : (n head : ℕ) (sending : Sending) (p : Parcel) (descs : List Desc) (c : Command) (d d' : DeviceState) (sent : Sent) → n < process_limit → IsFit sending → Carries n sending p
    → chain_in p ≡ Ok descs → asked_by descs p.pages ≡ Ok c → (does : Completes d p descs c sent d')
    → ComesBack n sending head sent (returning (posting_in p) (response_bytes does.0.response) does.0.held)
with_answer n head sending p descs c d d' sent few fits carries walked asked does =
    let small = response_goes d p descs c (behind c descs p.pages) p.held does.0 asked does.1 in
    let P : Sent → Type 0 = λ s. ComesBack n sending head s (returning (posting_in p) (response_bytes does.0.response) does.0.held) in
    subst P (sym does.2) (with_reply n head sending p descs (response_bytes does.0.response) does.0.held few fits carries walked small)

-- ---- the calls that wait, without their chains

put_if : (b : Bool) (call w : Waiting) (ws : List Waiting) → map call_of (with_call call ws) ≡ put_in (λ c. c.session) (call_of call) (map call_of ws)
    → map call_of (if b then w ∷ with_call call ws else call ∷ (w ∷ ws)) ≡ (if b then call_of w ∷ put_in (λ c. c.session) (call_of call) (map call_of ws) else call_of call ∷ (call_of w ∷ map call_of ws))
put_if true call w ws rest = ap (λ cs. call_of w ∷ cs) rest
put_if false call w ws rest = refl

put_calls : (call : Waiting) (ws : List Waiting) → map call_of (with_call call ws) ≡ put_in (λ c. c.session) (call_of call) (map call_of ws)
put_calls call [] = refl
put_calls call (w ∷ ws) = put_if (nat_lt w.session call.session) call w ws (put_calls call ws)

out_if : (b : Bool) (session : ℕ) (w : Waiting) (ws : List Waiting) → map call_of (without_call session ws) ≡ taken_out (λ c. c.session) session (map call_of ws)
    → map call_of (if b then ws else w ∷ without_call session ws) ≡ (if b then map call_of ws else call_of w ∷ taken_out (λ c. c.session) session (map call_of ws))
out_if true session w ws rest = refl
out_if false session w ws rest = ap (λ cs. call_of w ∷ cs) rest

out_calls : (session : ℕ) (ws : List Waiting) → map call_of (without_call session ws) ≡ taken_out (λ c. c.session) session (map call_of ws)
out_calls session [] = refl
out_calls session (w ∷ ws) = out_if (w.session == session) session w ws (out_calls session ws)

found_if : (b : Bool) (session : ℕ) (w x : Waiting) (ws : List Waiting) → (waiting_for session ws ≡ Some x → call_for session (map call_of ws) ≡ Some (call_of x))
    → (if b then Some w else waiting_for session ws) ≡ Some x → (if b then Some (call_of w) else call_for session (map call_of ws)) ≡ Some (call_of x)
found_if true session w x ws rest is = (let same : w ≡ x = cc in ap (λ (v : Waiting). Some (call_of v)) same)
found_if false session w x ws rest is = rest is

found_call : (session : ℕ) (ws : List Waiting) (x : Waiting) → waiting_for session ws ≡ Some x → call_for session (map call_of ws) ≡ Some (call_of x)
found_call session [] x is = cc
found_call session (w ∷ ws) x is = found_if (w.session == session) session w x ws (found_call session ws x) is

-- ---- a chain is served

-- the step is the part's over what the chain asks, and what is returned comes back
abbrev Serving : ℕ → Sending → ℕ → Parcel → Posting → HostState → Option Sent → HostState → Type 0
Serving n sending head p m h sent h' = (out : Option Returning) × Executed m (part_of h) out (part_of h') × ComesBackIf n sending head p h h' out sent

serves_posted : (n head : ℕ) (sending : Sending) (p : Parcel) (h h' : HostState) (sent : Option Sent) → n < process_limit → IsFit sending → Carries n sending p
    → Serves (chain_in p) h p head sent h' → Serving n sending head p (posting_in p) h sent h'
serves_posted n head sending p h h' sent few fits carries serves = by_chain (chain_in p) refl serves
  where
    by_ask : (ask : Ask) (out : Option Returning) → ask_by (chain_in p) p ≡ ask → ExecutedAsk ask (posting_in p) (part_of h) out (part_of h') → ComesBackIf n sending head p h h' out sent
        → Serving n sending head p (posting_in p) h sent h'
    by_ask ask out says does back = (out, subst (λ a. ExecutedAsk a (posting_in p) (part_of h) out (part_of h')) (sym says) does, back)

    empty : ask_by (chain_in p) p ≡ Unusable → sent ≡ Some (sent_empty p) → h' ≡ h → Serving n sending head p (posting_in p) h sent h'
    empty says is same =
        by_ask Unusable (Some (returning (posting_in p) [] p.held)) says (refl, ap part_of same)
        (sent_empty p, is, without_reply n head sending p carries, ap (λ (x : HostState). x.waiting) same)

    by_wait : (b : Bool) (descs : List Desc) (c : Command) → chain_in p ≡ Ok descs → asked_by descs p.pages ≡ Ok c → must_wait h.device c ≡ b → ServesCommand b h p head descs c sent h'
        → Serving n sending head p (posting_in p) h sent h'
    by_wait true descs c walked asked must does =
        let call : Waiting = record { session = does.1.0; head = head; parcel = p } in
        let same : part_of h' ≡ record (part_of h) { calls = put_in (λ w. w.session) (call_of call) (part_of h).calls } =
        ap part_of does.1.2 ∙ ap (λ cs. record { device = h.device; calls = cs }) (put_calls call h.waiting) in
        by_ask (Judged (Ok c)) None (asks_command p descs c walked asked)
        (subst (λ b. ExecutedCommand b (posting_in p) c (part_of h) None (part_of h')) (sym must) (refl, (does.1.0, does.1.1, same)))
        (does.0, (does.1.0, ap (λ (x : HostState). x.waiting) does.1.2))
    by_wait false descs c walked asked must does =
        let r : Returning = returning (posting_in p) (response_bytes does.2.0.response) does.2.0.held in
        let done : Completed (posting_in p) c h.device r does.1 = completed h.device does.1 p descs c does.0 walked asked does.2 in
        by_ask (Judged (Ok c)) (Some r) (asks_command p descs c walked asked)
        (subst (λ b. ExecutedCommand b (posting_in p) c (part_of h) (Some r) (part_of h')) (sym must) (r, does.1, done, refl, ap part_of does.4))
        (does.0, does.3, with_answer n head sending p descs c h.device does.1 does.0 few fits carries walked asked does.2, ap (λ (x : HostState). x.waiting) does.4)

    by_asked : (o : Result Command CmdFault) (descs : List Desc) → chain_in p ≡ Ok descs → nat_lt (writable_bytes descs) 8 ≡ false → asked_by descs p.pages ≡ o
        → ServesAsked o h p head descs sent h' → Serving n sending head p (posting_in p) h sent h'
    by_asked (Ok c) descs walked room asked does = by_wait (must_wait h.device c) descs c walked asked refl does
    by_asked (Err f) descs walked room asked does =
        let bytes : List ℕ = response_bytes (refusal_of_fault f) in
        let says : ask_by (chain_in p) p ≡ Judged (Err f) =
        ap (λ o. ask_by o p) walked ∙ ap (λ b. if b then Unusable else Judged (asked_by descs p.pages)) room ∙ ap Judged asked in
        let status : 8 ≤ writable_bytes descs = grind (arith, nat_tests, room) in
        by_ask (Judged (Err f)) (Some (returning (posting_in p) bytes p.held)) says (refl, ap part_of does.1)
        (sent_with p descs bytes p.held, does.0, with_reply n head sending p descs bytes p.held few fits carries walked status, ap (λ (x : HostState). x.waiting) does.1)

    by_room : (b : Bool) (descs : List Desc) → chain_in p ≡ Ok descs → nat_lt (writable_bytes descs) 8 ≡ b → ServesRoom b h p head descs sent h'
        → Serving n sending head p (posting_in p) h sent h'
    by_room true descs walked room does =
        empty (ap (λ o. ask_by o p) walked ∙ ap (λ b. if b then Unusable else Judged (asked_by descs p.pages)) room) does.0 does.1
    by_room false descs walked room does = by_asked (asked_by descs p.pages) descs walked room refl does

    by_chain : (o : Result (List Desc) ChainFault) → chain_in p ≡ o → Serves o h p head sent h' → Serving n sending head p (posting_in p) h sent h'
    by_chain (Err fault) is does = empty (ap (λ o. ask_by o p) is) does.0 does.1
    by_chain (Ok descs) is does = by_room (nat_lt (writable_bytes descs) 8) descs is refl does

pub is_served : (n head : ℕ) (sending : Sending) (p : Parcel) (h h' : HostState) (sent : Option Sent) → n < process_limit → IsFit sending → Carries n sending p
    → Serves (chain_in p) h p head sent h' → Serving n sending head p (posting_of n sending) h sent h'
is_served n head sending p h h' sent few fits carries serves =
    let P : Posting → Type 0 = λ m. Serving n sending head p m h sent h' in
    subst P (is_read n sending p few fits carries) (serves_posted n head sending p h h' sent few fits carries serves)

-- ---- a call that waited goes on

-- the chain of the call is finished with what is returned
abbrev Resuming : ℕ → ℕ → Sending → Waiting → HostState → Queue → HostState → Queue → Type 0
Resuming session n sending w h q h' q' =
    (r : Returning) × (sent : Sent) × Resumed session (part_of h) r (part_of h') × ComesBack n sending w.head sent r
    × (q' ≡ finished q (record { head = w.head; used = sent.used; parcel = sent.parcel }))

pub is_resumed : (session n : ℕ) (sending : Sending) (w : Waiting) (h h' : HostState) (q q' : Queue) → n < process_limit → IsFit sending → waiting_for session h.waiting ≡ Some w
    → Carries n sending w.parcel → Resumes session h q Did h' q' → Resuming session n sending w h q h' q'
is_resumed session n sending w h h' q q' few fits found carries resumes =
    by_rest (is_at_rest (session_of h.device session)) refl (subst (λ o. ResumesCall (is_at_rest (session_of h.device session)) o h q Did h' q') found resumes)
  where
    by_rest : (b : Bool) → is_at_rest (session_of h.device session) ≡ b → ResumesCall b (Some w) h q Did h' q' → Resuming session n sending w h q h' q'
    by_rest true rest does =
        let on = does.1.2 in
        let m : Posting = posting_in w.parcel in
        let r : Returning = returning m (response_bytes on.4.0.response) on.4.0.held in
        let done : Completed m on.1 h.device r does.1.1 = completed h.device does.1.1 w.parcel on.0 on.1 does.1.0 on.2 on.3 on.4 in
        let same : part_of h' ≡ record { device = does.1.1; calls = taken_out (λ c. c.session) w.session (part_of h).calls } =
        ap part_of does.1.3 ∙ ap (λ cs. record { device = does.1.1; calls = cs }) (out_calls w.session h.waiting) in
        let asks = asks_command w.parcel on.0 on.1 on.2 on.3 in
        let here : ResumedCall (Some (call_of w)) (part_of h) r (part_of h') = (on.1, does.1.1, asks, done, same) in (
          r,
          does.1.0,
          (rest, subst (λ o. ResumedCall o (part_of h) r (part_of h')) (sym (found_call session h.waiting w found)) here),
          with_answer n w.head sending w.parcel on.0 on.1 h.device does.1.1 does.1.0 few fits carries on.2 on.3 on.4,
          does.1.4,
        )
    by_rest false rest does = (let never = does.0 in cc)

-- ---- an event is sent

-- the event chain brings what is announced
abbrev Announcing : ℕ → ℕ → HostState → Sent → HostState → Type 0
Announcing k head h sent h' = (d : Delivery) × Announced (part_of h) d (part_of h') × BringsBack k head sent d

pub is_announced : (k head : ℕ) (p : Parcel) (descs : List Desc) (h h' : HostState) (sent : Sent) → IsEventChain k [] p → chain_in p ≡ Ok descs → SendsFit h h'
    → Announce p descs head h sent h' → Announcing k head h sent h'
is_announced k head p descs h h' sent chain walked fits does = by_ids h.device.unsent refl
  where
    by_ids : (ids : List ℕ) → h.device.unsent ≡ ids → Announcing k head h sent h'
    by_ids [] is =
        let sends = subst (λ ids. Sends h.device ids (Some (does.0, does.1)) h'.device) is does.2 in
        let never = sends.0 in
        cc
    by_ids (session ∷ sessions) is =
        let d : Delivery = record { session = session; msg = does.0; held = does.1 } in
        let calls : (part_of h').calls ≡ (part_of h).calls = ap (λ ws. map call_of ws) does.3 in
        let here : AnnouncedTo (session ∷ sessions) (part_of h) d (part_of h') = (refl, does.2, calls) in
        let goes_out : Announced (part_of h) d (part_of h') = subst (λ ids. AnnouncedTo ids (part_of h) d (part_of h')) (sym is) here in
        let good = fits d goes_out in
        (d, goes_out, subst (λ s. BringsBack k head s d) (sym does.4) (brought_back k head p descs d chain walked does.5 good))
