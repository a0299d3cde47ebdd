-- A step opens one session at most, makes one mapping, begins one job, and makes 32 frames.
use Rattle.std.proofs.Common.{◌≡◌, ℕ, ◌≤◌, ◌+◌, ◌*◌, ◌<◌, ◌-◌, ◌^◌, ◌∙◌, ◌++◌, Bool, true, false, Option, Some, None, Result, Ok, Err, List, [], ◌∷◌, length, nat_lt, refl, sym, subst, arith, zero, suc, get_or, set, ap, inl, inr}
use Rattle.std.specs.Prelude.{IfOk}
use Rattle.std.proofs.lemmas.List.{length-set, length-append}
use Rattle.v4l_const.specs.declared.errno.Errno.{Errno}
use Rattle.v4l_const.specs.declared.ioctl_code.IoctlCode.{IoctlCode}
use Rattle.v4l_const.specs.declared.model.Model.{Model}
use Rattle.vm_chain.specs.Chain.{writable_bytes}
use Rattle.vm_chain.specs.declared.desc.Desc.{Desc}
use Rattle.vm_chain.specs.declared.fault.ChainFault.{ChainFault}
use Rattle.vm_frame.specs.declared.mem.Held.{Held}
use Rattle.vm_job.specs.Job.{JobParts, DoneParts}
use Rattle.vm_link.specs.Queue.{Queue}
use Rattle.vm_link.specs.declared.link.Turn.{Turn}
use Rattle.vm_link.specs.declared.parcel.Parcel.{Parcel}
use Rattle.vm_region.specs.Region.{RegionState, Maps, map_count, range_at, range_of}
use Rattle.vm_region.specs.declared.live_range.LiveRange.{LiveRange}
use Rattle.vm_region.proofs.JournalLemmas.{maps_push, maps_drop}
use Rattle.vm_wire.specs.declared.command.Command.{Command}
use Rattle.vm_wire.specs.declared.command.Command.TheVariants.{OpenSession, CloseSession, Ioctl, Map, Unmap}
use Rattle.vm_wire.specs.declared.command.CmdFault.{CmdFault}
use Rattle.vm_wire.specs.declared.event.EventMsg.{EventMsg}
use Rattle.vm_wire.specs.declared.event.EventMsg.TheVariants.{Dequeued, Happened}
use Rattle.vm_session.specs.Rows.{IoctlRow, IoctlAnswer, ioctl_row, ioctl_outcome, refusal_of, refused_or}
use Rattle.vm_session.specs.State.{SessionState, opening_session}
use Rattle.vm_session.specs.Streaming.{begun, finished, finished_by, sent, sent_of, with_returned}
use Rattle.vm_session.specs.declared.running.Running.{Running}
use Rattle.vm_session.specs.declared.unsent.Unsent.{Unsent}
use Rattle.vm_session.proofs.CallLemmas.{made_most}
use Rattle.vm_device.specs.Brought.{comes_with}
use Rattle.vm_device.specs.Device.{DeviceState, session_of, fresh_device, is_at_rest}
use Rattle.vm_device.specs.Mappings.{frame_in, pages_of}
use Rattle.vm_device.specs.Perform.{Answer, Performs, HasPlaceFor, MadeFew, EachMadeFew, MapsFound, UnmapsAt, opened, closed, called, called_with, in_session, with_region, must_wait}
use Rattle.vm_device.specs.Stream.{Begins as BeginsIn, Finishes as FinishesIn, Sends}
use Rattle.vm_host.specs.Chains.{Sent, chain_in, asked_by}
use Rattle.vm_host.specs.Growth.{HasDone, MadeMost}
use Rattle.vm_host.specs.Host.{HostState, waiting_for, waits}
use Rattle.vm_host.specs.Steps.{AsksOf, Announces, AnnouncesIf, Begins, BeginsUnless, Executes, Finishes, GoesOn, HasPlace, Resumes, ResumesCall, Serves, ServesAsked, ServesCommand, ServesRoom, Completes}
use Rattle.vm_host.specs.declared.waiting.Waiting.{Waiting}

-- ---- what stays

more_made : (n : ℕ) (o : Option SessionState) → MadeMost (32 * n) o → MadeMost (32 * (n + 1)) o
more_made n None most = tt
more_made n (Some s) most = omega (arith, most)

pub stays_done : (n places : ℕ) (d : DeviceState) → HasDone n places d → HasDone (n + 1) places d
stays_done n places d was = record {
  opens = was.opens;
  opened = (let most = was.opened in omega (arith, most));
  mapped = (let most = was.mapped in omega (arith, most));
  begun = (let most = was.begun in omega (arith, most));
  made = λ id. more_made n (session_of d id) (was.made id);
}

set_most : (n : ℕ) (xs : List (Option SessionState)) (i : ℕ) (o : Option SessionState) → MadeMost n o → ((j : ℕ) → MadeMost n (get_or xs j None)) → (j : ℕ) → MadeMost n (get_or (set xs i o) j None)
set_most n [] i o here all j = all j
set_most n (x ∷ xs) zero o here all zero = here
set_most n (x ∷ xs) zero o here all (suc j) = all (suc j)
set_most n (x ∷ xs) (suc i) o here all zero = all zero
set_most n (x ∷ xs) (suc i) o here all (suc j) = set_most n xs i o here (λ k. all (suc k)) j

push_most : (n : ℕ) (xs : List (Option SessionState)) (o : Option SessionState) → MadeMost n o → ((j : ℕ) → MadeMost n (get_or xs j None)) → (j : ℕ) → MadeMost n (get_or (xs ++ o ∷ []) j None)
push_most n [] o here all zero = here
push_most n [] o here all (suc j) = tt
push_most n (x ∷ xs) o here all zero = all zero
push_most n (x ∷ xs) o here all (suc j) = push_most n xs o here (λ k. all (suc k)) j

-- a session in its place, or none, that made few enough frames
slot_done : (n places : ℕ) (d : DeviceState) (id : ℕ) (slot : Option SessionState) → MadeMost (32 * n) slot → HasDone n places d → HasDone n places (record d { sessions = set d.sessions id slot })
slot_done n places d id slot here was = record {
  opens = was.opens;
  opened = (let most = was.opened in let same = length-set d.sessions id slot in omega (arith, most, same));
  mapped = was.mapped;
  begun = was.begun;
  made = set_most (32 * n) d.sessions id slot here was.made;
}

-- ---- each command

opened_done : (n places : ℕ) (memory : Bool) (held : List Held) (d : DeviceState) → HasDone n places d → HasDone (n + 1) places (opened memory held d).device
opened_done n places false held d was = stays_done n places d was
opened_done n places true held d was =
    let fresh : Option SessionState = Some (opening_session d.model (length d.sessions)) in
    let more = stays_done n places d was in
    record {
      opens = was.opens;
      opened = (let most = was.opened in let pushed = length-append d.sessions (fresh ∷ []) in omega (arith, most, pushed));
      mapped = more.mapped;
      begun = more.begun;
      made = push_most (32 * (n + 1)) d.sessions fresh (omega arith) more.made;
    }

closed_done : (n places : ℕ) (d : DeviceState) (id : ℕ) (held : List Held) (o : Option SessionState) → HasDone n places d → HasDone (n + 1) places (closed d id held o).device
closed_done n places d id held None was = stays_done n places d was
closed_done n places d id held (Some s) was = slot_done (n + 1) places d id None tt (stays_done n places d was)

abbrev next_of : Result IoctlAnswer Errno → SessionState → SessionState
next_of (Ok a) s = a.next
next_of (Err e) s = s

outcome_next : (o : Option Errno) (row : IoctlRow) (a : IoctlAnswer) → refused_or o (record { payload = row.payload; back = row.back; next = row.next }) ≡ Ok a → a.next ≡ row.next
outcome_next None row a is = sym (ap (λ r. next_of r row.next) is)
outcome_next (Some e) row a is = cc

next_most : (n : ℕ) (memory : Bool) (s : SessionState) (code : IoctlCode) (payload : List ℕ) (come : List Held) (a : IoctlAnswer) → s.made ≤ n → ioctl_outcome memory s code payload come ≡ Ok a → a.next.made ≤ n + 32
next_most n memory s code payload come a few is =
    let same : a.next ≡ (ioctl_row s code payload come).next = outcome_next (refusal_of memory (ioctl_row s code payload come)) (ioctl_row s code payload come) a is in
    let most = made_most s code payload come in
    let made : a.next.made ≡ (ioctl_row s code payload come).next.made = ap (λ x. x.made) same in
    omega (arith, few, most, made)

called_done : (n places : ℕ) (d : DeviceState) (id : ℕ) (memory : Bool) (s : SessionState) (code : IoctlCode) (payload : List ℕ) (come : List Held) (o : Result IoctlAnswer Errno) → s.made ≤ 32 * n
    → ioctl_outcome memory s code payload come ≡ o → HasDone n places d → HasDone (n + 1) places (called d id code come o).device
called_done n places d id memory s code payload come (Err e) few is was = stays_done n places d was
called_done n places d id memory s code payload come (Ok a) few is was =
    slot_done (n + 1) places d id (Some a.next) (let most = next_most (32 * n) memory s code payload come a few is in omega (arith, most)) (stays_done n places d was)

with_done : (n places : ℕ) (memory : Bool) (d : DeviceState) (id : ℕ) (s : SessionState) (code : IoctlCode) (payload : List ℕ) (held : List Held) (o : Result (List Held) Errno) → s.made ≤ 32 * n
    → HasDone n places d → HasDone (n + 1) places (called_with memory d id s code payload held o).device
with_done n places memory d id s code payload held (Ok come) few was = called_done n places d id memory s code payload come (ioctl_outcome memory s code payload come) few refl was
with_done n places memory d id s code payload held (Err errno) few was = stays_done n places d was

in_session_done : (n places : ℕ) (memory : Bool) (d : DeviceState) (id : ℕ) (o : Option SessionState) (code : IoctlCode) (payload wire : List ℕ) (held : List Held) → MadeMost (32 * n) o
    → HasDone n places d → HasDone (n + 1) places (in_session memory d id o code payload wire held).device
in_session_done n places memory d id None code payload wire held few was = stays_done n places d was
in_session_done n places memory d id (Some s) code payload wire held few was = with_done n places memory d id s code payload held (comes_with s code payload wire held) few was

region_done : (n places : ℕ) (d : DeviceState) (region : RegionState) → map_count region.journal ≤ map_count d.region.journal + 1 → HasDone n places d → HasDone (n + 1) places (with_region d region)
region_done n places d region few was =
    let more = stays_done n places d was in
    record {
      opens = was.opens;
      opened = more.opened;
      mapped = (let most = was.mapped in omega (arith, most, few));
      begun = more.begun;
      made = more.made;
    }

one_more : (o : Option LiveRange) (old new : RegionState) (tag pages addr : ℕ) → Maps o old tag pages addr new → map_count new.journal ≡ map_count old.journal + 1
one_more None old new tag pages addr maps = ap map_count maps.1.journal ∙ maps_push old.journal addr pages 1
one_more (Some r) old new tag pages addr maps = ap map_count maps.1.journal ∙ maps_push old.journal addr pages (r.count + 1)

-- the device that an answer leaves
after : (n places : ℕ) (a b : Answer) → a ≡ b → HasDone n places b.device → HasDone n places a.device
after n places a b same done = subst (λ (x : Answer). HasDone n places x.device) (sym same) done

mapped_done : (n places : ℕ) (d : DeviceState) (held : List Held) (frame : Result (ℕ × ℕ) Errno) (a : Answer) → MapsFound d held frame a → HasDone n places d → HasDone (n + 1) places a.device
mapped_done n places d held (Err errno) a maps was = after (n + 1) places a _ maps (stays_done n places d was)
mapped_done n places d held (Ok frame) a (inl lacks) was = after (n + 1) places a _ lacks (stays_done n places d was)
mapped_done n places d held (Ok frame) a (inr maps) was =
    let region : RegionState = maps.1 in
    let more = one_more (range_of frame.0 d.region.ranges) d.region region frame.0 (pages_of frame.1) maps.0 maps.2 in
    after (n + 1) places a _ maps.3 (region_done n places d region (omega (arith, more)) was)

unmapped_done : (n places : ℕ) (d : DeviceState) (held : List Held) (addr : ℕ) (o : Option LiveRange) (a : Answer) → UnmapsAt d held addr o a → HasDone n places d → HasDone (n + 1) places a.device
unmapped_done n places d held addr None a unmaps was = after (n + 1) places a _ unmaps (stays_done n places d was)
unmapped_done n places d held addr (Some r) a unmaps was =
    let same = ap map_count unmaps.1.journal ∙ maps_drop d.region.journal addr (r.count - 1) in
    after (n + 1) places a _ unmaps.2 (region_done n places d unmaps.0 (omega (arith, same)) was)

performed_done : (n places : ℕ) (d : DeviceState) (c : Command) (wire : List ℕ) (held : List Held) (a : Answer) → Performs d c wire held a → HasDone n places d → HasDone (n + 1) places a.device
performed_done n places d OpenSession wire held a does was = after (n + 1) places a _ does.1 (opened_done n places does.0 held d was)
performed_done n places d (CloseSession id) wire held a does was = after (n + 1) places a _ does (closed_done n places d id held (session_of d id) was)
performed_done n places d (Ioctl id code payload) wire held a does was =
    after (n + 1) places a _ does.1 (in_session_done n places does.0 d id (session_of d id) code payload wire held (was.made id) was)
performed_done n places d (Map id writable offset) wire held a does was = mapped_done n places d held (frame_in (session_of d id) offset) a does was
performed_done n places d (Unmap addr) wire held a does was = unmapped_done n places d held addr (range_at addr d.region.ranges) a does was

-- ---- a chain

same_done : (n places : ℕ) (d d' : DeviceState) → d' ≡ d → HasDone n places d → HasDone n places d'
same_done n places d d' same was = subst (HasDone n places) (sym same) was

completed_done : (n places : ℕ) (d d' : DeviceState) (p : Parcel) (descs : List Desc) (c : Command) (sent : Sent) → Completes d p descs c sent d' → HasDone n places d → HasDone (n + 1) places d'
completed_done n places d d' p descs c sent does was = same_done (n + 1) places does.0.device d' does.3 (performed_done n places d c _ p.held does.0 does.1 was)

served_done : (n places : ℕ) (p : Parcel) (h h' : HostState) (head : ℕ) (sent : Option Sent) (o : Result (List Desc) ChainFault) → Serves o h p head sent h' → HasDone n places h.device
    → HasDone (n + 1) places h'.device
served_done n places p h h' head sent (Err fault) serves was = same_done (n + 1) places h.device h'.device (ap (λ (x : HostState). x.device) serves.1) (stays_done n places h.device was)
served_done n places p h h' head sent (Ok descs) serves was = by_room (nat_lt (writable_bytes descs) 8) serves
  where
    by_wait : (b : Bool) (c : Command) → ServesCommand b h p head descs c sent h' → HasDone (n + 1) places h'.device
    by_wait true c does = same_done (n + 1) places h.device h'.device (ap (λ (x : HostState). x.device) does.1.2) (stays_done n places h.device was)
    by_wait false c does =
        same_done (n + 1) places does.1 h'.device (ap (λ (x : HostState). x.device) does.4) (completed_done n places h.device does.1 p descs c does.0 does.2 was)

    by_asked : (o : Result Command CmdFault) → ServesAsked o h p head descs sent h' → HasDone (n + 1) places h'.device
    by_asked (Ok c) does = by_wait (must_wait h.device c) c does
    by_asked (Err f) does = same_done (n + 1) places h.device h'.device (ap (λ (x : HostState). x.device) does.1) (stays_done n places h.device was)

    by_room : (b : Bool) → ServesRoom b h p head descs sent h' → HasDone (n + 1) places h'.device
    by_room true does = same_done (n + 1) places h.device h'.device (ap (λ (x : HostState). x.device) does.1) (stays_done n places h.device was)
    by_room false does = by_asked (asked_by descs p.pages) does

-- one chain more is served at most
pub executes_done : (n places : ℕ) (waiting : List Parcel) (h h' : HostState) (q q' : Queue) (turn : Turn) → Executes waiting h q turn h' q' → HasDone n places h.device → HasDone (n + 1) places h'.device
executes_done n places [] h h' q q' turn executes was = same_done (n + 1) places h.device h'.device (ap (λ (x : HostState). x.device) executes.1) (stays_done n places h.device was)
executes_done n places (p ∷ ps) h h' q q' turn executes was = served_done n places p h h' executes.1.0 executes.1.1 (chain_in p) executes.1.3 was

pub resumes_done : (n places session : ℕ) (h h' : HostState) (q q' : Queue) (turn : Turn) → Resumes session h q turn h' q' → HasDone n places h.device → HasDone (n + 1) places h'.device
resumes_done n places session h h' q q' turn resumes was = by_both (is_at_rest (session_of h.device session)) (waiting_for session h.waiting) resumes
  where
    same : h' ≡ h → HasDone (n + 1) places h'.device
    same is = same_done (n + 1) places h.device h'.device (ap (λ (x : HostState). x.device) is) (stays_done n places h.device was)

    goes : (p : Parcel) (sent : Sent) (d' : DeviceState) → GoesOn h.device p sent d' → HasDone (n + 1) places d'
    goes p sent d' on = completed_done n places h.device d' p on.0 on.1 sent on.4 was

    by_both : (b : Bool) (o : Option Waiting) → ResumesCall b o h q turn h' q' → HasDone (n + 1) places h'.device
    by_both true (Some w) does = same_done (n + 1) places does.1.1 h'.device (ap (λ (x : HostState). x.device) does.1.3) (goes w.parcel does.1.0 does.1.1 does.1.2)
    by_both true None does = same does.1
    by_both false (Some w) does = same does.1
    by_both false None does = same does.1

-- ---- jobs and events

made_of : (n : ℕ) (o : Option SessionState) (s s' : SessionState) → o ≡ Some s → s'.made ≡ s.made → MadeMost n o → MadeMost n (Some s')
made_of n o s s' is same most = (let there : MadeMost n (Some s) = subst (MadeMost n) is most in omega (arith, there, same))

begins_in_done : (n places id : ℕ) (d d' : DeviceState) (job : Option JobParts) → BeginsIn d id job d' → HasDone n places d → HasDone (n + 1) places d'
begins_in_done n places id d d' None begins was = same_done (n + 1) places d d' begins.1 (stays_done n places d was)
begins_in_done n places id d d' (Some job) begins was =
    let s : SessionState = begins.1.0 in
    let there = slot_done n places d id (Some (begun s d.begun)) (made_of (32 * n) (session_of d id) s (begun s d.begun) begins.1.2 refl (was.made id)) was in
    let more = stays_done n places _ there in
    same_done (n + 1) places _ d' begins.1.5 (record {
      opens = more.opens;
      opened = more.opened;
      mapped = more.mapped;
      begun = (let most = was.begun in omega (arith, most));
      made = more.made;
    })

pub begins_done : (n places id : ℕ) (h h' : HostState) (job : Option JobParts) → Begins id h job h' → HasDone n places h.device → HasDone (n + 1) places h'.device
begins_done n places id h h' job begins was = by_wait (waits h id) begins
  where
    by_wait : (b : Bool) → BeginsUnless b id h job h' → HasDone (n + 1) places h'.device
    by_wait true does = same_done (n + 1) places h.device h'.device (ap (λ (x : HostState). x.device) does.1) (stays_done n places h.device was)
    by_wait false does = begins_in_done n places id h.device h'.device job does.0 was

made_finished : (o : Option Running) (s : SessionState) (done : DoneParts) → (finished_by o s done).made ≡ s.made
made_finished None s done = refl
made_finished (Some r) s done = refl

finishes_in_done : (n places : ℕ) (d d' : DeviceState) (done : DoneParts) → FinishesIn d done d' → HasDone n places d → HasDone n places d'
finishes_in_done n places d d' done finishes was =
    let s : SessionState = finishes.0 in
    let id : ℕ = done.job.spec.session in
    let there = slot_done n places d id (Some (finished s done)) (made_of (32 * n) (session_of d id) s (finished s done) finishes.2 (made_finished s.running s done) (was.made id)) was in
    same_done n places _ d' finishes.3 (record {
      opens = there.opens;
      opened = there.opened;
      mapped = there.mapped;
      begun = there.begun;
      made = there.made;
    })

pub finishes_done : (n places : ℕ) (h h' : HostState) (done : DoneParts) → Finishes h done h' → HasDone n places h.device → HasDone n places h'.device
finishes_done n places h h' done finishes was = finishes_in_done n places h.device h'.device done finishes.0 was

made_returned : (s : SessionState) (msg : EventMsg) → (with_returned s msg).made ≡ s.made
made_returned s (Dequeued session b) = refl
made_returned s (Happened session event) = refl

made_sent : (events : List Unsent) (s : SessionState) → (sent_of events s).made ≡ s.made
made_sent [] s = refl
made_sent (e ∷ es) s = made_returned (record s { unsent = es }) e.msg

sends_done : (n places : ℕ) (d d' : DeviceState) (ids : List ℕ) (event : Option (EventMsg × Option Held)) → Sends d ids event d' → HasDone n places d → HasDone n places d'
sends_done n places d d' [] event sends was = same_done n places d d' sends.1 was
sends_done n places d d' (id ∷ ids) event sends was =
    let s : SessionState = sends.0 in
    let there = slot_done n places d id (Some (sent s)) (made_of (32 * n) (session_of d id) s (sent s) sends.1 (made_sent s.unsent s) (was.made id)) was in
    same_done n places _ d' sends.4 (record {
      opens = there.opens;
      opened = there.opened;
      mapped = there.mapped;
      begun = there.begun;
      made = there.made;
    })

pub announces_done : (n places : ℕ) (h h' : HostState) (q q' : Queue) (turn : Turn) → Announces h q turn h' q' → HasDone n places h.device → HasDone n places h'.device
announces_done n places h h' q q' turn announces was = by_both (nat_lt 0 (length h.device.unsent)) q.waiting announces
  where
    same : h' ≡ h → HasDone n places h'.device
    same is = same_done n places h.device h'.device (ap (λ (x : HostState). x.device) is) was

    by_both : (b : Bool) (waiting : List Parcel) → AnnouncesIf b waiting h q turn h' q' → HasDone n places h'.device
    by_both true (p ∷ ps) does = sends_done n places h.device h'.device h.device.unsent _ does.1.5.2 was
    by_both true [] does = same does.1
    by_both false waiting does = same does.1

-- ---- what such a device may do

pub fresh_done : (m : Model) (places : ℕ) → HasDone 0 places (fresh_device m places)
fresh_done m places = record { opens = refl; opened = omega arith; mapped = omega arith; begun = omega arith; made = λ id. tt }

few_of : (n : ℕ) (o : Option SessionState) → n < 2 ^ 32 - 32 → MadeMost n o → MadeFew o
few_of n None small most = tt
few_of n (Some s) small most = omega (arith, small, most)

pub few_frames : (n places : ℕ) (d : DeviceState) → n < 16384 → HasDone n places d → EachMadeFew d
few_frames n places d few done id = few_of (32 * n) (session_of d id) (omega (arith, few)) (done.made id)

place_for : (n places : ℕ) (d : DeviceState) (c : Command) → n < places → n < 16384 → HasDone n places d → HasPlaceFor d c
place_for n places d OpenSession some few done = (let same = done.opens in let most = done.opened in omega (arith, some, same, most))
place_for n places d (Map id writable offset) some few done = (let most = done.mapped in omega (arith, few, most))
place_for n places d (CloseSession id) some few done = tt
place_for n places d (Ioctl id code payload) some few done = tt
place_for n places d (Unmap addr) some few done = tt

by_command : (P : Command → Type 0) (o : Result Command CmdFault) → ((c : Command) → P c) → IfOk o P
by_command P (Ok c) all = all c
by_command P (Err f) all = tt

by_chain : (P : Command → Type 0) (p : Parcel) (o : Result (List Desc) ChainFault) → ((c : Command) → P c) → IfOk o (λ descs. IfOk (asked_by descs p.pages) P)
by_chain P p (Ok descs) all = by_command P (asked_by descs p.pages) all
by_chain P p (Err fault) all = tt

pub asks_all : (P : Command → Type 0) (waiting : List Parcel) → ((c : Command) → P c) → AsksOf P waiting
asks_all P [] all = tt
asks_all P (p ∷ ps) all = by_chain P p (chain_in p) all

-- there is a place for whatever is asked
pub place_left : (n places : ℕ) (d : DeviceState) (waiting : List Parcel) → n < places → n < 16384 → HasDone n places d → HasPlace d waiting
place_left n places d waiting some few done = asks_all (HasPlaceFor d) waiting (λ c. place_for n places d c some few done)
