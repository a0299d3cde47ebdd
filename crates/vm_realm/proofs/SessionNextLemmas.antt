-- The sessions of the device stay sound in each step.
use Rattle.std.proofs.Common.{◌≡◌, ◌≢◌, inl, inr, ℕ, ◌<◌, ◌≤◌, Bool, true, false, not, nat_lt, List, [], ◌∷◌, ◌++◌, Option, Some, None, Result, Ok, Err, is_some, length, get_or, set, map, zero, suc, eqb, eqb-true, refl, sym, ap, ◌∙◌, subst, arith}
use Rattle.std.specs.Prelude.{◌&&◌, All}
use Rattle.std.specs.Option.{option_map}
use Rattle.std.proofs.lemmas.Bool.{false≢true, true≢false, cases_lt, le-ltb}
use Rattle.std.proofs.lemmas.List.{length-map}
use Rattle.std.proofs.lemmas.List.Elements.{All-append, All-nil, All-cons}
use Rattle.std.proofs.lemmas.Option.{none-some, same_Some}
use Rattle.v4l_const.specs.Model.{queues as types_of, source_queue, picture_queue, has_inputs}
use Rattle.v4l_const.specs.declared.errno.Errno.{Errno}
use Rattle.v4l_const.specs.declared.errno.Errno.TheVariants.{Einval, Enotty, Ebusy}
use Rattle.v4l_const.specs.declared.ioctl_code.IoctlCode.{IoctlCode}
use Rattle.v4l_const.specs.declared.ioctl_code.IoctlCode.TheVariants.{QueryCap, EnumFmt, GFmt, SFmt, TryFmt, ReqBufs, QueryBuf, QBuf, StreamOn, StreamOff, EnumInput, GInput, SInput, SubscribeEvent, UnsubscribeEvent}
use Rattle.v4l_format.specs.Pattern.{patterns}
use Rattle.v4l_layout.specs.declared.buffer_rec.BufferRec.{BufferRec}
use Rattle.v4l_rules.specs.Queues.{place_in}
use Rattle.v4l_rules.specs.Refusals.{first_refusal}
use Rattle.vm_frame.specs.declared.mem.Held.{Held}
use Rattle.vm_job.specs.Job.{DoneParts}
use Rattle.vm_job.specs.declared.job_out.JobOut.{JobOut}
use Rattle.vm_job.specs.declared.spec.JobSpec.{JobSpec}
use Rattle.vm_mem.specs.Lists.{first_of, occurrences}
use Rattle.vm_queue.specs.declared.queued.Queued.{Queued}
use Rattle.vm_wire.specs.Buffers.{buffer_in}
use Rattle.vm_wire.specs.Message.{Ask, Posting, Returning}
use Rattle.vm_wire.specs.Message.Ask.{Unusable, Judged}
use Rattle.vm_wire.specs.Wire.{number_at}
use Rattle.vm_wire.specs.declared.command.Command.{Command}
use Rattle.vm_wire.specs.declared.command.Command.TheVariants.{OpenSession, CloseSession, Ioctl, Map as MapFrame, Unmap}
use Rattle.vm_wire.specs.declared.event.EventMsg.{EventMsg}
use Rattle.vm_wire.specs.declared.event.EventMsg.TheVariants.{Dequeued, Happened}
use Rattle.vm_region.specs.declared.live_range.LiveRange.{LiveRange}
use Rattle.vm_region.specs.Region.{range_at}
use Rattle.vm_session.specs.Buffers.{granted, renewed_queue, stopped_queue, kept_record, queue_with, started}
use Rattle.vm_session.specs.Rows.{IoctlRow, IoctlAnswer, ioctl_row, ioctl_outcome, refused_or, or_no_memory, puts_back, stops, querycap_row, enumfmt_row, gfmt_row, tryfmt_row, sfmt_row, enuminput_row, ginput_row, sinput_row, reqbufs_row, querybuf_row, qbuf_row, streamon_row, streamoff_row, subscribe_row, unsubscribe_row}
use Rattle.vm_session.specs.Sound.{IsSound as IsSoundSession, gives_back}
use Rattle.vm_session.specs.State.{SessionQueue, SessionState, opening_session, queue_of, adjusted_for, is_quiet, is_streaming}
use Rattle.vm_session.specs.Streaming.{can_begin, begun, counted, finished, finished_by, events_of, sent, sent_of, with_returned}
use Rattle.vm_session.specs.declared.running.Running.{Running}
use Rattle.vm_session.specs.declared.unsent.Unsent.{Unsent}
use Rattle.vm_session.proofs.FormatLemmas.{takes_size, sound_formats}
use Rattle.vm_session.proofs.OutLemmas.{paired_append}
use Rattle.vm_session.proofs.SentLemmas.{told_sound, returned_after}
use Rattle.vm_session.proofs.SoundLemmas.{none_queued, quiet_out, sound_after, sound_opening, sound_input}
use Rattle.vm_session.proofs.StreamLemmas.{map_keeps, size_kept, begun_sound, can_begin_is, job_paired, job_gives, finished_at}
use Rattle.vm_device.specs.Brought.{comes_with}
use Rattle.vm_device.specs.Device.{DeviceState, session_of, is_ready, is_at_rest}
use Rattle.vm_device.specs.Mappings.{frame_in}
use Rattle.vm_device.specs.Perform.{Answer, Performs, MapsFound, UnmapsAt, opened, closed, called, called_with, in_session, is_busy, stops_in, must_wait}
use Rattle.vm_device.specs.Stream.{Sends}
use Rattle.vm_device.proofs.StepLemmas.{IsRunning, out_runs}
use Rattle.vm_host.specs.Part.{Part, Call as WaitingCall, call_for, ExecutedCommand, ExecutedAsk, ResumedCall, Resumed, AnnouncedTo}
use Rattle.vm_realm.specs.declared.step.Step.{Step}
use Rattle.vm_realm.specs.declared.step.Step.TheVariants.{Issue, Execute, Resume, Begin, Finish, Announce, Collect, Pump, Lease, GiveBack}
use Rattle.vm_realm.specs.World.{WorldState}
use Rattle.vm_realm.specs.Inner.{Inner}
use Rattle.vm_realm.specs.Slice.{Slice, job_in, slice_at}
use Rattle.vm_realm.specs.Steps.{Steps, DoesExecute, DoesBegin, DoesFinish, DoesAnnounce}
use Rattle.vm_realm.specs.Sound.{IsSeated, IsSound, IsSoundBy, inner_at}
use Rattle.vm_realm.proofs.CommandLemmas.{one_kept}
use Rattle.vm_realm.proofs.DeviceNextLemmas.{kept_free}
use Rattle.vm_realm.proofs.DoneFewLemmas.{done_few}
use Rattle.vm_realm.proofs.FramesLemmas.{SeatedAt, seated_at}
use Rattle.vm_realm.proofs.MoveLemmas.{entry_parts, job_of}
use Rattle.vm_realm.proofs.OutOnceLemmas.{out_once}
use Rattle.vm_realm.proofs.PartLemmas.{find_in}

-- each live session is sound
abbrev pub AreSound : List (Option SessionState) → Type 0
AreSound sessions = (id : ℕ) (s : SessionState) → get_or sessions id None ≡ Some s → IsSoundSession s

-- ---- in a sound world

seated_sound : (w : WorldState) (rows : List (List Inner)) (id : ℕ) (s : SessionState) → IsSoundBy w rows → SeatedAt w id s → IsSoundSession s
seated_sound w rows id s sound at =
    let x : Slice = slice_at w at.process at.handle in
    let v : Inner = inner_at w rows at.process at.handle in
    let seated : IsSeated (Some s) x v = subst (λ o. IsSeated o x v) at.session (sound.slices at.process at.handle at.is_handle).seated in
    seated.sound

pub sessions_are : (w : WorldState) (rows : List (List Inner)) → IsSoundBy w rows → AreSound w.host.device.sessions
sessions_are w rows sound = λ id s is. seated_sound w rows id s sound (seated_at w rows id s sound is)

-- ---- one session more, or another one

at_first : (o : Option SessionState) (os : List (Option SessionState)) → ((s : SessionState) → o ≡ Some s → IsSoundSession s) → ((id : ℕ) (s : SessionState) → get_or os id None ≡ Some s → IsSoundSession s) → AreSound (o ∷ os)
at_first o os first rest zero s is = first s is
at_first o os first rest (suc id) s is = rest id s is

set_sound : (os : List (Option SessionState)) (k : ℕ) (o : Option SessionState) → AreSound os → ((s : SessionState) → o ≡ Some s → IsSoundSession s) → AreSound (set os k o)
set_sound [] k o all new = all
set_sound (x ∷ os) zero o all new = at_first o os new (λ id s is. all (suc id) s is)
set_sound (x ∷ os) (suc k) o all new = at_first x (set os k o) (λ s is. all 0 s is) (set_sound os k o (λ i z at. all (suc i) z at) new)

push_sound : (os : List (Option SessionState)) (x : SessionState) → AreSound os → IsSoundSession x → AreSound (os ++ Some x ∷ [])
push_sound [] x all new = at_first (Some x) [] (λ s is. subst IsSoundSession (same_Some x s is) new) (λ id s is. absurd (none-some s is))
push_sound (o ∷ os) x all new = at_first o (os ++ Some x ∷ []) (λ s is. all 0 s is) (push_sound os x (λ i z at. all (suc i) z at) new)

put_sound : (os : List (Option SessionState)) (k : ℕ) (x : SessionState) → AreSound os → IsSoundSession x → AreSound (set os k (Some x))
put_sound os k x all new = set_sound os k (Some x) all (λ s is. subst IsSoundSession (same_Some x s is) new)

-- ---- a call

-- a call with an answer isn't refused
passed_by : (o : Option Errno) (lacks : Bool) (a b : IoctlAnswer) → refused_or (or_no_memory o lacks) a ≡ Ok b → (o ≡ None) × (a ≡ b)
passed_by None true a b is = cc
passed_by None false a b is = (refl, cc)
passed_by (Some e) lacks a b is = cc

second_free : (a b : Bool) (e f : Errno) (rs : List (Bool × Errno)) → first_refusal ((a, e) ∷ (b, f) ∷ rs) ≡ None → b ≡ false
second_free true b e f rs is = cc
second_free false true e f rs is = cc
second_free false false e f rs is = refl

-- the state after a call that isn't refused is sound; one that stops queues is of a session that is quiet
row_sound : (s : SessionState) (code : IoctlCode) (p : List ℕ) (held : List Held) → IsSoundSession s → first_refusal (ioctl_row s code p held).refusals ≡ None → (puts_back code ≡ true → is_quiet s ≡ true) →
    IsSoundSession (ioctl_row s code p held).next
unfolding querycap_row enumfmt_row gfmt_row tryfmt_row sfmt_row enuminput_row ginput_row sinput_row reqbufs_row querybuf_row qbuf_row streamon_row streamoff_row subscribe_row unsubscribe_row
row_sound s QueryCap p held sound passed quiet = sound
row_sound s EnumFmt p held sound passed quiet = sound
row_sound s GFmt p held sound passed quiet = sound
row_sound s TryFmt p held sound passed quiet = sound
row_sound s SFmt p held sound passed quiet = sound_formats s (number_at 0 p) (adjusted_for s (number_at 0 p) _ _ _) _ sound (takes_size s (number_at 0 p) _ _ _) refl
row_sound s EnumInput p held sound passed quiet = sound
row_sound s GInput p held sound passed quiet = sound
row_sound s SInput p held sound passed quiet = sound_input s (number_at 0 p) sound (within (second_free (not (has_inputs s.model)) (not (nat_lt (number_at 0 p) (length patterns))) Enotty Einval ((is_streaming s, Ebusy) ∷ []) passed))
  where
    within : not (nat_lt (number_at 0 p) (length patterns)) ≡ false → number_at 0 p < length patterns
    within free = elim (cases_lt (number_at 0 p) (length patterns)) [
      | inl less ↦ less
      | inr most ↦ absurd (true≢false (sym (ap not (le-ltb (number_at 0 p) (length patterns) most)) ∙ free))
    ]
row_sound s ReqBufs p held sound passed quiet =
    let t : ℕ = number_at 4 p in
    sound_after s t (renewed_queue (queue_of s t) (number_at 8 p) (granted (number_at 0 p)) s.made) _ _ sound refl refl (sym (quiet_out s sound (quiet refl) t)) (none_queued t)
row_sound s QueryBuf p held sound passed quiet = sound
row_sound s QBuf p held sound passed quiet =
    let b : BufferRec = buffer_in p in
    sound_after s b.kind (queue_with (queue_of s b.kind) b held) s.made _ sound refl refl refl
    (All-append (λ (q : Queued). q.buffer.kind ≡ b.kind) (queue_of s b.kind).queued _ (sound.each b.kind).kinds (brought_kinds b held))
  where
    brought_kinds : (b : BufferRec) (held : List Held) → All (λ (q : Queued). q.buffer.kind ≡ b.kind) (map (λ h. record { buffer = kept_record b; held = h }) held)
    brought_kinds b [] = All-nil (λ (q : Queued). q.buffer.kind ≡ b.kind)
    brought_kinds b (h ∷ hs) = All-cons (λ (q : Queued). q.buffer.kind ≡ b.kind) (record { buffer = kept_record b; held = h }) (map (λ h. record { buffer = kept_record b; held = h }) hs) refl (brought_kinds b hs)
row_sound s StreamOn p held sound passed quiet =
    let t : ℕ = number_at 0 p in
    sound_after s t (started (queue_of s t)) s.made _ sound refl refl refl (sound.each t).kinds
row_sound s StreamOff p held sound passed quiet =
    let t : ℕ = number_at 0 p in
    sound_after s t (stopped_queue (queue_of s t)) s.made _ sound refl refl refl (none_queued t)
row_sound s SubscribeEvent p held sound passed quiet = sound
row_sound s UnsubscribeEvent p held sound passed quiet = sound

busy_quiet : (s : SessionState) (a b : Bool) → a ≡ true → b ≡ true → ((a && b) && is_busy (Some s)) ≡ false → is_quiet s ≡ true
busy_quiet s a b first second free = not_not (is_quiet s) (sym (λ j. (first j && second j) && is_busy (Some s)) ∙ free)
  where
    not_not : (q : Bool) → not q ≡ false → q ≡ true
    not_not true is = refl
    not_not false is = absurd (true≢false is)

-- the refusals of a stopping call look at no memories
no_memories : (s : SessionState) (code : IoctlCode) (p : List ℕ) (held : List Held) → puts_back code ≡ true → ioctl_row s code p [] ≡ ioctl_row s code p held
no_memories s ReqBufs p held puts = refl
no_memories s StreamOff p held puts = refl
no_memories s code p held puts = absurd (false≢true puts)

outcome_sound : (memory : Bool) (s : SessionState) (code : IoctlCode) (p : List ℕ) (held : List Held) (a : IoctlAnswer) → IsSoundSession s → (stops s code p && is_busy (Some s)) ≡ false →
    ioctl_outcome memory s code p held ≡ Ok a → IsSoundSession a.next
outcome_sound memory s code p held a sound free is =
    let r : IoctlRow = ioctl_row s code p held in
    let passed : _ = passed_by (first_refusal r.refusals) (r.may_lack_memory && not memory) (record { payload = r.payload; back = r.back; next = r.next }) a is in
    let quiet : puts_back code ≡ true → is_quiet s ≡ true = λ puts.
    busy_quiet s (puts_back code) (not (is_some (first_refusal (ioctl_row s code p []).refusals))) puts
    (ap (λ (x : IoctlRow). not (is_some (first_refusal x.refusals))) (no_memories s code p held puts) ∙ ap (λ o. not (is_some o)) passed.0) free in
    subst IsSoundSession (ap (λ (x : IoctlAnswer). x.next) passed.1) (row_sound s code p held sound passed.0 quiet)

-- ---- a command

performs_sessions : (d : DeviceState) (c : Command) (wire : List ℕ) (held : List Held) (a : Answer) → AreSound d.sessions → must_wait d c ≡ false → Performs d c wire held a → AreSound a.device.sessions
performs_sessions d OpenSession wire held a all free (memory, is) = subst (λ (z : Answer). AreSound z.device.sessions) (sym is) (by_memory memory)
  where
    by_memory : (b : Bool) → AreSound (opened b held d).device.sessions
    by_memory true = push_sound d.sessions (opening_session d.model (length d.sessions)) all (sound_opening d.model (length d.sessions) _ refl)
    by_memory false = all
performs_sessions d (CloseSession id) wire held a all free is = subst (λ (z : Answer). AreSound z.device.sessions) (sym is) (by_session (session_of d id))
  where
    by_session : (o : Option SessionState) → AreSound (closed d id held o).device.sessions
    by_session None = all
    by_session (Some s) = set_sound d.sessions id None all (λ z none. absurd (none-some z none))
performs_sessions d (Ioctl id code payload) wire held a all free (memory, is) = subst (λ (z : Answer). AreSound z.device.sessions) (sym is) (by_session (session_of d id) refl free)
  where
    by_outcome : (s : SessionState) (come : List Held) (o : Result IoctlAnswer Errno) → IsSoundSession s → (stops s code payload && is_busy (Some s)) ≡ false → ioctl_outcome memory s code payload come ≡ o →
        AreSound (called d id code come o).device.sessions
    by_outcome s come (Ok b) sound free at = put_sound d.sessions id b.next all (outcome_sound memory s code payload come b sound free at)
    by_outcome s come (Err errno) sound free at = all

    by_come : (s : SessionState) (o : Result (List Held) Errno) → IsSoundSession s → (stops s code payload && is_busy (Some s)) ≡ false → AreSound (called_with memory d id s code payload held o).device.sessions
    by_come s (Ok come) sound free = by_outcome s come (ioctl_outcome memory s code payload come) sound free refl
    by_come s (Err errno) sound free = all

    by_session : (o : Option SessionState) → session_of d id ≡ o → (stops_in o code payload && is_busy o) ≡ false → AreSound (in_session memory d id o code payload wire held).device.sessions
    by_session None at free = all
    by_session (Some s) at free = by_come s (comes_with s code payload wire held) (all id s at) free
performs_sessions d (MapFrame id writable offset) wire held a all free does = by_frame (frame_in (session_of d id) offset) does
  where
    by_frame : (o : Result (ℕ × ℕ) Errno) → MapsFound d held o a → AreSound a.device.sessions
    by_frame (Err errno) is = subst (λ (z : Answer). AreSound z.device.sessions) (sym is) all
    by_frame (Ok frame) (inl is) = subst (λ (z : Answer). AreSound z.device.sessions) (sym is) all
    by_frame (Ok frame) (inr (addr, region, maps, is)) = subst (λ (z : Answer). AreSound z.device.sessions) (sym is) all
performs_sessions d (Unmap addr) wire held a all free does = by_range (range_at addr d.region.ranges) does
  where
    by_range : (o : Option LiveRange) → UnmapsAt d held addr o a → AreSound a.device.sessions
    by_range None is = subst (λ (z : Answer). AreSound z.device.sessions) (sym is) all
    by_range (Some r) (region, unmaps, is) = subst (λ (z : Answer). AreSound z.device.sessions) (sym is) all

-- ---- Execute

executed_sessions : (w : WorldState) (m : Posting) (ask : Ask) (out : Option Returning) (host : Part) → AreSound w.host.device.sessions → ExecutedAsk ask m w.host out host → AreSound host.device.sessions
executed_sessions w m Unusable out host all (told, after) = subst (λ (p : Part). AreSound p.device.sessions) (sym after) all
executed_sessions w m (Judged (Err f)) out host all (told, after) = subst (λ (p : Part). AreSound p.device.sessions) (sym after) all
executed_sessions w m (Judged (Ok c)) out host all does = by_waiting (must_wait w.host.device c) refl does
  where
    by_waiting : (b : Bool) → must_wait w.host.device c ≡ b → ExecutedCommand b m c w.host out host → AreSound host.device.sessions
    by_waiting true waits (none, (session, named, after)) = subst (λ (p : Part). AreSound p.device.sessions) (sym after) all
    by_waiting false free (r, d, (a, performs, told, next), returned, after) =
        subst (λ (p : Part). AreSound p.device.sessions) (sym after)
        (subst (λ (z : DeviceState). AreSound z.sessions) (sym next) (performs_sessions w.host.device c m.behind m.held a all free performs))

execute_sessions : (w w' : WorldState) (requests : List Posting) → AreSound w.host.device.sessions → DoesExecute requests w w' → AreSound w'.host.device.sessions
execute_sessions w w' [] all does = absurd does
execute_sessions w w' (m ∷ ms) all (out, host, does, after) =
    subst (λ (z : WorldState). AreSound z.host.device.sessions) (sym after) (executed_sessions w m m.request.asks out host all does)

-- ---- Resume

resumed_sessions : (w : WorldState) (rows : List (List Inner)) (session : ℕ) (r : Returning) (host : Part) → IsSoundBy w rows → Resumed session w.host r host → AreSound host.device.sessions
resumed_sessions w rows session r host sound (rest, does) = by_call (call_for session w.host.calls) refl does
  where
    by_call : (o : Option WaitingCall) → call_for session w.host.calls ≡ o → ResumedCall o w.host r host → AreSound host.device.sessions
    by_call None finds does = absurd does
    by_call (Some call) finds (c, d, asks, (a, performs, told, next), after) =
        let there : _ = find_in (λ (y : WaitingCall). eqb y.session session) w.host.calls call finds in
        let same : call.session ≡ session = eqb-true call.session session there.1 in
        let one : _ = one_kept w rows call sound there.0 in
        let free = kept_free w rows call c one.0 one.1 sound one.2 (ap (λ i. is_at_rest (session_of w.host.device i)) same ∙ rest) asks in
        subst (λ (p : Part). AreSound p.device.sessions) (sym after)
        (subst (λ (z : DeviceState). AreSound z.sessions) (sym next)
        (performs_sessions w.host.device c call.posting.behind call.posting.held a (sessions_are w rows sound) free.0 performs))

-- ---- frames

begin_sessions : (w w' : WorldState) (rows : List (List Inner)) (session : ℕ) → IsSoundBy w rows → DoesBegin session w w' → AreSound w'.host.device.sessions
begin_sessions w w' rows session sound (job, d, (ready, (s, entry, there, next, of, begins)), after) =
    let can : can_begin s ≡ true = ap is_ready (sym there) ∙ ready in
    let parts : _ = can_begin_is s can in
    let all : AreSound w.host.device.sessions = sessions_are w rows sound in
    subst (λ (z : WorldState). AreSound z.host.device.sessions) (sym after)
    (subst (λ (z : DeviceState). AreSound z.sessions) (sym begins)
    (put_sound w.host.device.sessions session (begun s w.host.device.begun) all (begun_sound s w.host.device.begun parts.0 parts.1 (all session s there))))

-- the session once its job came back
finished_whole : (s : SessionState) (r : Running) (done : DoneParts) → s.running ≡ Some r → length (s.unsent ++ events_of s r done) ≤ 64 → IsSoundSession s → IsSoundSession (finished_by (Some r) s done)
finished_whole s r done runs few sound =
    let s' : SessionState = finished_by (Some r) s done in
    let format : (u : ℕ) → (queue_of s' u).format ≡ (queue_of s u).format = λ u. map_keeps (λ (q : SessionQueue). q.format) counted (λ q. refl) s.queues (place_in (types_of s.model) u) in
    record {
      queues = length-map s.queues counted ∙ sound.queues;
      input = sound.input;
      size = size_kept s s' format (picture_queue s.model) (source_queue s.model) sound.size;
      each = finished_at s r done runs sound;
      paired = paired_append s.unsent (events_of s r done) sound.paired (job_paired s r done);
      eventless = λ silent. All-append (λ (e : Unsent). gives_back e ≡ true) s.unsent (events_of s r done) (sound.eventless silent) (job_gives s r done silent);
      few = few;
    }

finish_sessions : (w w' : WorldState) (rows : List (List Inner)) (number : ℕ) → IsSoundBy w rows → DoesFinish number w w' → AreSound w'.host.device.sessions
finish_sessions w w' rows number sound (done, (e, d, out, comes, (s, is_out, there, ends), after)) =
    let dev : DeviceState = w.host.device in
    let spec : JobSpec = done.job.spec in
    let k : ℕ = spec.session in
    let run : IsRunning dev spec.number spec = out_runs dev spec.number spec sound.device.sound is_out in
    let t : SessionState = run.session in
    let same : t ≡ s = same_Some t s (sym run.live ∙ there) in
    let at : SeatedAt w k t = seated_at w rows k t sound run.live in
    let x : Slice = slice_at w at.process at.handle in
    let found : _ = find_in (λ (y : JobOut). eqb y.spec.number number) dev.jobs e out in
    let own : e.spec.session ≡ k = ap (λ (y : JobSpec). y.session) (comes.out.0 ∙ sym comes.back.spec) in
    let job : x.job ≡ Some comes.job = ap (job_in dev.jobs) at.id_is ∙ (job_of w rows e k sound found.0 own ∙ ap Some (entry_parts e comes.job comes.out)) in
    let many = done_few x (inner_at w rows at.process at.handle) t run.job comes.job done (sound.slices at.process at.handle at.is_handle) at.session job run.runs comes.back comes.picture in
    let few : length (t.unsent ++ events_of t run.job done) ≤ 64 = omega (arith, many) in
    let all : AreSound dev.sessions = sessions_are w rows sound in
    let whole : IsSoundSession (finished t done) =
    subst (λ o. IsSoundSession (finished_by o t done)) (sym run.runs) (finished_whole t run.job done run.runs few (all k t run.live)) in
    subst (λ (z : WorldState). AreSound z.host.device.sessions) (sym after)
    (subst (λ (z : DeviceState). AreSound z.sessions) (sym ends)
    (put_sound dev.sessions k (finished s done) all (subst (λ z. IsSoundSession (finished z done)) same whole)))

-- the session once its oldest message was sent
sent_sound : (s : SessionState) (e : Unsent) (es : List Unsent) → s.unsent ≡ e ∷ es → IsSoundSession s → ((t i : ℕ) → occurrences i (queue_of s t).out ≤ 1) → IsSoundSession (sent s)
sent_sound s e es oldest sound once = subst (λ us. IsSoundSession (sent_of us s)) (sym oldest) (by_msg e.msg refl)
  where
    by_msg : (msg : EventMsg) → e.msg ≡ msg → IsSoundSession (with_returned (record s { unsent = es }) e.msg)
    by_msg (Happened session event) is =
        subst (λ m. IsSoundSession (with_returned (record s { unsent = es }) m)) (sym is)
        (told_sound s session event e.held es (oldest ∙ (λ j. record { msg = is j; held = e.held } ∷ es)) sound)
    by_msg (Dequeued session b) is =
        subst (λ m. IsSoundSession (with_returned (record s { unsent = es }) m)) (sym is)
        (returned_after s session b e.held es (oldest ∙ (λ j. record { msg = is j; held = e.held } ∷ es)) sound (once b.kind b.index) _ refl)

announce_sessions : (w w' : WorldState) (rows : List (List Inner)) → IsSoundBy w rows → DoesAnnounce w w' → AreSound w'.host.device.sessions
announce_sessions w w' rows sound (delivery, host, does, after) =
    subst (λ (z : WorldState). AreSound z.host.device.sessions) (sym after) (by_list w.host.device.unsent refl does)
  where
    sends_some : (us : List Unsent) (x : EventMsg × Option Held) → Some x ≡ option_map (λ (e : Unsent). (e.msg, e.held)) (first_of us) → (e : Unsent) × (es : List Unsent) × (us ≡ e ∷ es)
    sends_some [] x some = absurd (none-some x (sym some))
    sends_some (e ∷ es) x some = (e, es, refl)

    not_nil : (e : Unsent) (es us : List Unsent) → us ≡ e ∷ es → us ≢ []
    not_nil e es us is none = cc

    by_list : (ids : List ℕ) → w.host.device.unsent ≡ ids → AnnouncedTo ids w.host delivery host → AreSound host.device.sessions
    by_list [] at does = absurd does
    by_list (id ∷ ids) at (named, goes, calls) =
        let by : Sends w.host.device (id ∷ ids) (Some (delivery.msg, delivery.held)) host.device =
        subst (λ us. Sends w.host.device us (Some (delivery.msg, delivery.held)) host.device) at goes in
        let s : SessionState = by.0 in
        let place : SeatedAt w id s = seated_at w rows id s sound by.1 in
        let first : _ = sends_some s.unsent (delivery.msg, delivery.held) by.3 in
        let some : s.unsent ≢ [] = not_nil first.0 first.1 s.unsent first.2 in
        let x : Slice = slice_at w place.process place.handle in
        let once : (t i : ℕ) → occurrences i (queue_of s t).out ≤ 1 =
        λ t i. out_once x (inner_at w rows place.process place.handle) s t i (sound.slices place.process place.handle place.is_handle) place.session some in
        subst (λ (z : DeviceState). AreSound z.sessions) (sym by.4)
        (put_sound w.host.device.sessions id (sent s) (sessions_are w rows sound) (sent_sound s first.0 first.1 first.2 (seated_sound w rows id s sound place) once))

-- ---- each step

stays : (w w' z : WorldState) → w' ≡ z → z.host ≡ w.host → AreSound w.host.device.sessions → AreSound w'.host.device.sessions
stays w w' z after same all = subst (λ (u : WorldState). AreSound u.host.device.sessions) (sym after) (subst (λ (p : Part). AreSound p.device.sessions) (sym same) all)

pub sessions_next : (w w' : WorldState) (s : Step) → IsSound w → Steps w s w' → AreSound w'.host.device.sessions
sessions_next w w' (Issue n) sound (may, (g, left, posted, does, after)) = stays w w' _ after refl (sessions_are w sound.0 sound.1)
sessions_next w w' Execute sound (may, does) = execute_sessions w w' w.requests (sessions_are w sound.0 sound.1) does
sessions_next w w' (Resume session) sound (may, (r, host, does, after)) =
    subst (λ (z : WorldState). AreSound z.host.device.sessions) (sym after) (resumed_sessions w sound.0 session r host sound.1 does)
sessions_next w w' (Begin session) sound (may, does) = begin_sessions w w' sound.0 session sound.1 does
sessions_next w w' (Finish number) sound (may, does) = finish_sessions w w' sound.0 number sound.1 does
sessions_next w w' Announce sound (may, does) = announce_sessions w w' sound.0 sound.1 does
sessions_next w w' Collect sound (may, (g, left, posted, does, after)) = stays w w' _ after refl (sessions_are w sound.0 sound.1)
sessions_next w w' Pump sound (may, (g, left, posted, does, after)) = stays w w' _ after refl (sessions_are w sound.0 sound.1)
sessions_next w w' (Lease n) sound (may, (leased, g, does, after)) = stays w w' _ after refl (sessions_are w sound.0 sound.1)
sessions_next w w' (GiveBack n) sound (may, (entry, lease, is, comes, after)) = stays w w' _ after refl (sessions_are w sound.0 sound.1)
