-- After each step the numbers of jobs and of frames are small.
use Rattle.std.proofs.Common.{Bool, Err, List, None, Ok, Option, Result, Some, [], ap, arith, false, get_or, inl, inr, length, refl, set, subst, suc, sym, true, zero, ℕ, ◌*◌, ◌++◌, ◌+◌, ◌<◌, ◌∷◌, ◌≡◌, ◌≤◌, ◌⊎◌}
use Rattle.std.proofs.lemmas.Bool.{cases_eq, cases_lt}
use Rattle.std.proofs.lemmas.List.{get_or-set_other, get_or-set_same, set_past}
use Rattle.v4l_const.specs.declared.errno.Errno.{Errno}
use Rattle.v4l_const.specs.declared.ioctl_code.IoctlCode.{IoctlCode}
use Rattle.vm_device.specs.Brought.{comes_with}
use Rattle.vm_device.specs.Device.{DeviceState, session_of}
use Rattle.vm_device.specs.Mappings.{frame_in}
use Rattle.vm_device.specs.Perform.{Answer, MapsFound, Performs, UnmapsAt, called, called_with, closed, in_session, opened}
use Rattle.vm_device.specs.Stream.{with_done, with_job, with_sent}
use Rattle.vm_frame.specs.declared.mem.Held.{Held}
use Rattle.vm_host.specs.Part.{Part}
use Rattle.vm_job.specs.Job.{DoneParts}
use Rattle.vm_region.specs.Region.{range_at}
use Rattle.vm_region.specs.declared.live_range.LiveRange.{LiveRange}
use Rattle.vm_session.proofs.CallLemmas.{made_most}
use Rattle.vm_session.specs.Rows.{IoctlAnswer, IoctlRow, ioctl_outcome, ioctl_row, refusal_of, refused_or}
use Rattle.vm_session.specs.State.{SessionState, opening_session}
use Rattle.vm_session.specs.Streaming.{begun, finished, finished_by, sent, sent_of, with_returned}
use Rattle.vm_session.specs.declared.running.Running.{Running}
use Rattle.vm_session.specs.declared.unsent.Unsent.{Unsent}
use Rattle.vm_wire.specs.Message.{Returning}
use Rattle.vm_wire.specs.declared.command.Command.{Command}
use Rattle.vm_wire.specs.declared.command.Command.TheVariants.{CloseSession, Ioctl, Map, OpenSession, Unmap}
use Rattle.vm_wire.specs.declared.event.EventMsg.{EventMsg}
use Rattle.vm_wire.specs.declared.event.EventMsg.TheVariants.{Dequeued, Happened}
use Rattle.vm_realm.proofs.AfterLemmas.{HasDone, IsAnnounced, IsAnsweredFirst, IsExecuted, IsFinished, IsJobBegun, IsKeptFirst, IsResumed, is_announced, is_collected, is_executed, is_finished, is_given_back, is_issued, is_job_begun, is_leased_to, is_resumed}
use Rattle.vm_realm.proofs.GrowLemmas.{script_stays}
use Rattle.vm_realm.proofs.LeftLemmas.{left_falls}
use Rattle.vm_realm.specs.Left.{left_of}
use Rattle.vm_realm.specs.SliceSteps.{TakesNone}
use Rattle.vm_realm.specs.Sound.{IsSound, IsWithin, MadeWithin}
use Rattle.vm_realm.specs.Steps.{Steps}
use Rattle.vm_realm.specs.World.{WorldState, statement_count}
use Rattle.vm_realm.specs.declared.step.Step.{Step}
use Rattle.vm_realm.specs.declared.step.Step.TheVariants.{Announce, Begin, Collect, Execute, Finish, GiveBack, Issue, Lease, Pump, Resume}

-- ---- what a step of the device adds

abbrev made_of : Option SessionState → ℕ
made_of None = 0
made_of (Some s) = s.made

-- at most one job more, and 32 frames more in each session
record AddsFew (d d' : DeviceState) : Type 0 where
  begun : d'.begun ≤ d.begun + 1
  made : (id : ℕ) → made_of (session_of d' id) ≤ made_of (session_of d id) + 32

few_same : (d d' : DeviceState) → d'.begun ≡ d.begun → d'.sessions ≡ d.sessions → AddsFew d d'
few_same d d' begun sessions = record {
  begun = omega (arith, begun);
  made = λ id. (let same : made_of (session_of d' id) ≡ made_of (session_of d id) = ap (λ ss. made_of (get_or ss id None)) sessions in omega (arith, same));
}

made_set : (ss : List (Option SessionState)) (k id : ℕ) (o : Option SessionState) → made_of o ≤ made_of (get_or ss k None) + 32 → made_of (get_or (set ss k o) id None) ≤ made_of (get_or ss id None) + 32
made_set ss k id o few = elim (cases_eq id k) [
  | inl same ↦ subst (λ i. made_of (get_or (set ss k o) i None) ≤ made_of (get_or ss i None) + 32) (sym same) here
  | inr other ↦ (let kept : made_of (get_or (set ss k o) id None) ≡ made_of (get_or ss id None) = ap made_of (get_or-set_other ss k id o None other) in omega (arith, kept))
]
  where
    here : made_of (get_or (set ss k o) k None) ≤ made_of (get_or ss k None) + 32
    here = elim (cases_lt k (length ss)) [
      | inl within ↦ (let now : made_of (get_or (set ss k o) k None) ≡ made_of o = ap made_of (get_or-set_same ss k o None within) in omega (arith, now, few))
      | inr past ↦ (let kept : made_of (get_or (set ss k o) k None) ≡ made_of (get_or ss k None) = ap (λ xs. made_of (get_or xs k None)) (set_past ss k o past) in omega (arith, kept))
    ]

few_set : (d d' : DeviceState) (k : ℕ) (o : Option SessionState) → d'.begun ≤ d.begun + 1 → d'.sessions ≡ set d.sessions k o → made_of o ≤ made_of (session_of d k) + 32 → AddsFew d d'
few_set d d' k o begun is few = record {
  begun = begun;
  made = λ id. (
      let same : made_of (session_of d' id) ≡ made_of (get_or (set d.sessions k o) id None) = ap (λ ss. made_of (get_or ss id None)) is in
      omega (arith, same, made_set d.sessions k id o few));
}

made_push : (ss : List (Option SessionState)) (o : Option SessionState) (id : ℕ) → made_of o ≡ 0 → made_of (get_or (ss ++ o ∷ []) id None) ≤ made_of (get_or ss id None) + 32
made_push [] o zero none = omega (arith, none)
made_push [] o (suc id) none = omega arith
made_push (s ∷ ss) o zero none = omega arith
made_push (s ∷ ss) o (suc id) none = made_push ss o id none

-- ---- commands

open_few : (memory : Bool) (held : List Held) (d : DeviceState) → AddsFew d (opened memory held d).device
open_few true held d = record { begun = omega arith; made = λ id. made_push d.sessions (Some (opening_session d.model (length d.sessions))) id refl }
open_few false held d = few_same d d refl refl

close_few : (d : DeviceState) (id : ℕ) (held : List Held) (o : Option SessionState) → AddsFew d (closed d id held o).device
close_few d id held None = few_same d d refl refl
close_few d id held (Some s) = few_set d (closed d id held (Some s)).device id None (omega arith) refl (omega arith)

ok_same : {A : Type 0} (o : Option Errno) (x a : A) → ◌≡◌ {A = Result A Errno} (refused_or o x) (Ok a) → x ≡ a
ok_same None x a is = cc
ok_same (Some e) x a is = cc

called_few : (memory : Bool) (d : DeviceState) (id : ℕ) (s : SessionState) (code : IoctlCode) (p : List ℕ) (come : List Held) (r : Result IoctlAnswer Errno) → session_of d id ≡ Some s → ioctl_outcome memory s code p come ≡ r → AddsFew d (called d id code come r).device
called_few memory d id s code p come (Err errno) is out = few_same d d refl refl
called_few memory d id s code p come (Ok a) is out =
    let row : IoctlRow = ioctl_row s code p come in
    let next : row.next ≡ a.next = ap (λ (x : IoctlAnswer). x.next) (ok_same (refusal_of memory row) (record { payload = row.payload; back = row.back; next = row.next }) a out) in
    let most : row.next.made ≤ s.made + 32 = made_most s code p come in
    let same : ◌≡◌ {A = ℕ} row.next.made a.next.made = ap (λ (x : SessionState). x.made) next in
    let was : made_of (session_of d id) ≡ s.made = ap made_of is in
    few_set d (called d id code come (Ok a)).device id (Some a.next) (omega arith) refl (omega (arith, most, same, was))

come_few : (memory : Bool) (d : DeviceState) (id : ℕ) (s : SessionState) (code : IoctlCode) (p : List ℕ) (held : List Held) (r : Result (List Held) Errno) → session_of d id ≡ Some s → AddsFew d (called_with memory d id s code p held r).device
come_few memory d id s code p held (Err errno) is = few_same d d refl refl
come_few memory d id s code p held (Ok come) is = called_few memory d id s code p come (ioctl_outcome memory s code p come) is refl

call_few : (memory : Bool) (d : DeviceState) (id : ℕ) (code : IoctlCode) (p wire : List ℕ) (held : List Held) (o : Option SessionState) → session_of d id ≡ o → AddsFew d (in_session memory d id o code p wire held).device
call_few memory d id code p wire held None is = few_same d d refl refl
call_few memory d id code p wire held (Some s) is = come_few memory d id s code p held (comes_with s code p wire held) is

map_few : (d : DeviceState) (held : List Held) (r : Result (ℕ × ℕ) Errno) (a : Answer) → MapsFound d held r a → AddsFew d a.device
map_few d held (Err errno) a is = subst (λ (x : Answer). AddsFew d x.device) (sym is) (few_same d d refl refl)
map_few d held (Ok frame) a maps = elim maps [
  | inl is ↦ subst (λ (x : Answer). AddsFew d x.device) (sym is) (few_same d d refl refl)
  | inr goes ↦ subst (λ (x : Answer). AddsFew d x.device) (sym goes.3) (few_same d (record d { region = goes.1 }) refl refl)
]

unmap_few : (d : DeviceState) (held : List Held) (addr : ℕ) (o : Option LiveRange) (a : Answer) → UnmapsAt d held addr o a → AddsFew d a.device
unmap_few d held addr None a is = subst (λ (x : Answer). AddsFew d x.device) (sym is) (few_same d d refl refl)
unmap_few d held addr (Some r) a (region, unmaps, is) = subst (λ (x : Answer). AddsFew d x.device) (sym is) (few_same d (record d { region = region }) refl refl)

performs_few : (d : DeviceState) (c : Command) (wire : List ℕ) (held : List Held) (a : Answer) → Performs d c wire held a → AddsFew d a.device
performs_few d OpenSession wire held a (memory, is) = subst (λ (x : Answer). AddsFew d x.device) (sym is) (open_few memory held d)
performs_few d (CloseSession id) wire held a is = subst (λ (x : Answer). AddsFew d x.device) (sym is) (close_few d id held (session_of d id))
performs_few d (Ioctl id code p) wire held a (memory, is) = subst (λ (x : Answer). AddsFew d x.device) (sym is) (call_few memory d id code p wire held (session_of d id) refl)
performs_few d (Map id writable offset) wire held a maps = map_few d held (frame_in (session_of d id) offset) a maps
performs_few d (Unmap addr) wire held a unmaps = unmap_few d held addr (range_at addr d.region.ranges) a unmaps

-- ---- frames

finished_made : (o : Option Running) (s : SessionState) (done : DoneParts) → (finished_by o s done).made ≡ s.made
finished_made None s done = refl
finished_made (Some r) s done = refl

returned_made : (s : SessionState) (msg : EventMsg) → (with_returned s msg).made ≡ s.made
returned_made s (Dequeued session b) = refl
returned_made s (Happened session event) = refl

sent_made : (es : List Unsent) (s : SessionState) → (sent_of es s).made ≡ s.made
sent_made [] s = refl
sent_made (e ∷ es) s = returned_made (record s { unsent = es }) e.msg

-- ---- each step

executed_few : (w w' : WorldState) → IsExecuted w w' → AddsFew w.host.device w'.host.device
executed_few w w' e = by_shape e.shape
  where
    by_device : (d : DeviceState) (r : Returning) → HasDone w.host.device e.posting r d ⊎ (d ≡ w.host.device) → AddsFew w.host.device d
    by_device d r (inl has) = subst (AddsFew w.host.device) (sym has.device) (performs_few w.host.device has.command e.posting.behind e.posting.held has.answer has.does)
    by_device d r (inr same) = subst (AddsFew w.host.device) (sym same) (few_same w.host.device w.host.device refl refl)

    by_shape : IsAnsweredFirst w e.posting e.rest w' ⊎ IsKeptFirst w e.posting e.rest w' → AddsFew w.host.device w'.host.device
    by_shape (inl a) = subst (λ (v : WorldState). AddsFew w.host.device v.host.device) (sym a.after) (by_device a.device a.told a.does)
    by_shape (inr k) = subst (λ (v : WorldState). AddsFew w.host.device v.host.device) (sym k.after) (few_same w.host.device w.host.device refl refl)

device_stays : (w w' : WorldState) → w'.host ≡ w.host → AddsFew w.host.device w'.host.device
device_stays w w' same = subst (λ (h : Part). AddsFew w.host.device h.device) (sym same) (few_same w.host.device w.host.device refl refl)

step_few : (w w' : WorldState) (s : Step) → TakesNone w s → Steps w s w' → AddsFew w.host.device w'.host.device
step_few w w' (Issue n) none does = device_stays w w' (ap (λ (v : WorldState). v.host) (is_issued w w' n none does).after)
step_few w w' Execute none does = executed_few w w' (is_executed w w' does)
step_few w w' (Resume session) none does =
    let r : IsResumed w session w' = is_resumed w w' session does in
    subst (λ (v : WorldState). AddsFew w.host.device v.host.device) (sym r.after) (performs_few w.host.device r.command r.call.posting.behind r.call.posting.held r.answer r.does)
step_few w w' (Begin session) none does =
    let b : IsJobBegun w session w' = is_job_begun w w' session does in
    let was : made_of (session_of w.host.device session) ≡ b.state.made = ap made_of b.is in
    subst (λ (v : WorldState). AddsFew w.host.device v.host.device) (sym b.after)
    (few_set w.host.device (with_job w.host.device session b.state b.entry) session (Some (begun b.state w.host.device.begun)) (omega arith) refl (omega (arith, was)))
step_few w w' (Finish number) none does =
    let f : IsFinished w w' = is_finished w w' number does in
    let was : made_of (session_of w.host.device f.session) ≡ f.state.made = ap made_of f.is in
    subst (λ (v : WorldState). AddsFew w.host.device v.host.device) (sym f.after)
    (few_set w.host.device (with_done w.host.device f.session f.state f.done) f.session (Some (finished f.state f.done)) (omega arith) refl (omega (arith, was, finished_made f.state.running f.state f.done)))
step_few w w' Announce none does =
    let a : IsAnnounced w w' = is_announced w w' does in
    let was : made_of (session_of w.host.device a.delivery.session) ≡ a.state.made = ap made_of a.is in
    subst (λ (v : WorldState). AddsFew w.host.device v.host.device) (sym a.after)
    (few_set w.host.device (with_sent w.host.device a.delivery.session a.state a.ids) a.delivery.session (Some (sent a.state)) (omega arith) refl (omega (arith, was, sent_made a.state.unsent a.state)))
step_few w w' Collect none does = device_stays w w' (ap (λ (v : WorldState). v.host) (is_collected w w' none does).after)
step_few w w' Pump none (may, (g, left, posted, does, after)) = device_stays w w' (ap (λ (v : WorldState). v.host) after)
step_few w w' (Lease n) none does = device_stays w w' (ap (λ (v : WorldState). v.host) (is_leased_to w w' n does).after)
step_few w w' (GiveBack n) none does = device_stays w w' (ap (λ (v : WorldState). v.host) (is_given_back w w' n does).after)

-- ---- the numbers

made_within : (left statements : ℕ) (o : Option SessionState) → made_of o + 32 * left ≤ 384 * statements → MadeWithin left statements o
made_within left statements None few = tt
made_within left statements (Some s) few = few

made_bound : (begun left statements : ℕ) (o : Option SessionState) → begun + left ≤ 12 * statements → MadeWithin left statements o → made_of o + 32 * left ≤ 384 * statements
made_bound begun left statements None jobs made = omega (arith, jobs)
made_bound begun left statements (Some s) jobs made = made

numbers_fall : (a b l m c d : ℕ) → b ≤ a + 32 → m < l → d ≡ c → a + 32 * l ≤ 384 * c → b + 32 * m ≤ 384 * d
numbers_fall a b l m c d few falls same was = omega (arith, few, falls, same, was)

jobs_fall : (a b l m c d : ℕ) → b ≤ a + 1 → m < l → d ≡ c → a + l ≤ 12 * c → b + m ≤ 12 * d
jobs_fall a b l m c d few falls same was = omega (arith, few, falls, same, was)

within_by : (w w' : WorldState) → w'.script ≡ w.script → left_of w' < left_of w → AddsFew w.host.device w'.host.device → IsWithin w → IsWithin w'
within_by w w' script falls few within = record {
  jobs = jobs_fall w.host.device.begun w'.host.device.begun (left_of w) (left_of w') (statement_count w.script) (statement_count w'.script) few.begun falls (ap statement_count script) within.jobs;
  frames = λ id. made_within (left_of w') (statement_count w'.script) (session_of w'.host.device id)
      (numbers_fall (made_of (session_of w.host.device id)) (made_of (session_of w'.host.device id)) (left_of w) (left_of w') (statement_count w.script) (statement_count w'.script) (few.made id) falls (ap statement_count script)
      (made_bound w.host.device.begun (left_of w) (statement_count w.script) (session_of w.host.device id) within.jobs (within.frames id)));
}

pub within_next : (w w' : WorldState) (s : Step) → IsSound w → TakesNone w s → Steps w s w' → IsWithin w'
within_next w w' s (rows, sound) none does = within_by w w' (script_stays w w' s does) (left_falls w w' s (rows, sound) does) (step_few w w' s none does) sound.within
