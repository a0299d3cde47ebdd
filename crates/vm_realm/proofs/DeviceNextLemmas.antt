-- In a sound world the device keeps to itself, whatever step is done.
use Rattle.std.proofs.Common.{◌≡◌, inl, inr, ℕ, ◌≤◌, ◌==◌, ◌&&◌, Bool, true, false, not, List, [], ◌∷◌, ◌++◌, Option, Some, None, Result, Ok, Err, length, filter, replicate, set, eqb, refl, if◌then◌else◌, sym, ap, ◌∙◌, subst, arith}
use Rattle.std.proofs.lemmas.Bool.{false≢true, eqb-true}
use Rattle.std.proofs.lemmas.Option.{none-some, same_Some}
use Rattle.v4l_const.specs.declared.errno.Errno.{Errno}
use Rattle.v4l_const.specs.declared.ioctl_code.IoctlCode.TheVariants.{ReqBufs as ReqBufsCode, StreamOff as StreamOffCode}
use Rattle.v4l_layout.specs.Records.{request_bytes}
use Rattle.vm_frame.specs.declared.mem.Held.{Held}
use Rattle.vm_job.specs.declared.job_out.JobOut.{JobOut}
use Rattle.vm_job.specs.declared.spec.JobSpec.{JobSpec}
use Rattle.vm_local.specs.declared.call.Call.{Call}
use Rattle.vm_local.specs.declared.call.Call.TheVariants.{CloseHandle, ReqBufs, StreamOff}
use Rattle.vm_local.specs.State.{LocalState}
use Rattle.vm_home.specs.Moves.{is_stopping}
use Rattle.vm_log.specs.LegalLog.{state_of}
use Rattle.vm_exchange.specs.Exchange.{from_open, sends, crossing, crossing_of}
use Rattle.vm_exchange.specs.declared.crossing.Crossing.{Crossing}
use Rattle.vm_exchange.specs.declared.way.Way.TheVariants.{AnsweredHere}
use Rattle.vm_handle.specs.Handle.{id_of}
use Rattle.vm_region.specs.Region.{AreApart, Maps, range_at, range_of}
use Rattle.vm_region.specs.declared.live_range.LiveRange.{LiveRange}
use Rattle.vm_session.specs.State.{SessionState, opening_session}
use Rattle.vm_session.specs.Buffers.{frame_tag}
use Rattle.vm_session.specs.Streaming.{events_of, finished, finished_by, sent}
use Rattle.vm_session.specs.declared.running.Running.{Running}
use Rattle.vm_wire.specs.Buffers.{reqbufs_request}
use Rattle.vm_wire.specs.Wire.{le}
use Rattle.vm_wire.specs.Message.{Ask, Posting, Returning}
use Rattle.vm_wire.specs.Message.Ask.{Unusable, Judged}
use Rattle.vm_wire.specs.declared.command.Command.{Command}
use Rattle.vm_wire.specs.declared.command.Command.TheVariants.{OpenSession, CloseSession, Ioctl, Map, Unmap}
use Rattle.vm_device.specs.Device.{DeviceState, session_of, is_ready, is_at_rest}
use Rattle.vm_device.specs.Keeps.{IsSound as IsSoundDevice}
use Rattle.vm_device.specs.Mappings.{frame_in, pages_of}
use Rattle.vm_device.specs.Perform.{Answer, opened, closed, MapsFound, UnmapsAt, Performs, is_busy, stops_in, must_wait, HasPlaceFor, EachMadeFew}
use Rattle.vm_device.specs.Stream.{Sends, events_more, with_done}
use Rattle.vm_device.proofs.CallLemmas.{call_keeps}
use Rattle.vm_device.proofs.CloseLemmas.{close_keeps, open_keeps, fits_begun, send_keeps, finish_keeps}
use Rattle.vm_device.proofs.FoundLemmas.{IsFound, is_found}
use Rattle.vm_device.proofs.MappingLemmas.{few_made, fits_mapped, fits_unmapped}
use Rattle.vm_device.proofs.StepLemmas.{region_sound, begun_sound, IsRunning, out_runs}
use Rattle.vm_host.specs.Part.{Part, Call as WaitingCall, call_for, ExecutedCommand, ExecutedAsk, Executed, ResumedCall, Resumed, AnnouncedTo}
use Rattle.vm_realm.specs.declared.step.Step.{Step}
use Rattle.vm_realm.specs.declared.step.Step.TheVariants.{Issue, Execute, Resume, Begin, Finish, Announce, Collect, Pump, Lease, GiveBack}
use Rattle.vm_realm.specs.World.{WorldState}
use Rattle.vm_realm.specs.Inner.{Inner}
use Rattle.vm_realm.specs.Slice.{Slice, job_in, slice_at}
use Rattle.vm_realm.specs.Steps.{DoesExecute, DoesBegin, DoesFinish, DoesAnnounce, Steps}
use Rattle.vm_realm.specs.Sound.{IsKept, IsOut, IsSound, IsSoundBy, inner_at}
use Rattle.vm_realm.proofs.CommandLemmas.{IsOneKept, one_kept}
use Rattle.vm_realm.proofs.DoneFewLemmas.{done_few}
use Rattle.vm_realm.proofs.FramesLemmas.{SeatedAt, seated_at}
use Rattle.vm_realm.proofs.MoveLemmas.{entry_parts, job_of}
use Rattle.vm_realm.proofs.PartLemmas.{find_in}
use Rattle.vm_realm.proofs.RoomLemmas.{has_place, made_few}
use Rattle.vm_realm.proofs.WaitingLemmas.{command_same}

-- ---- a command is done

pub performs_sound : (d : DeviceState) (c : Command) (wire : List ℕ) (held : List Held) (a : Answer) → IsSoundDevice d → AreApart d.region.ranges → HasPlaceFor d c → EachMadeFew d →
    must_wait d c ≡ false → Performs d c wire held a → IsSoundDevice a.device
performs_sound d OpenSession wire held a sound apart place few waits (memory, is) = subst (λ (z : Answer). IsSoundDevice z.device) (sym is) (by_memory memory)
  where
    by_memory : (b : Bool) → IsSoundDevice (opened b held d).device
    by_memory true =
        let s : SessionState = opening_session d.model (length d.sessions) in
        open_keeps d s (d.sessions ++ Some s ∷ []) d.unsent sound place refl refl refl
    by_memory false = sound
performs_sound d (CloseSession id) wire held a sound apart place few waits is = subst (λ (z : Answer). IsSoundDevice z.device) (sym is) (by_session (session_of d id) refl)
  where
    by_session : (o : Option SessionState) → session_of d id ≡ o → IsSoundDevice (closed d id held o).device
    by_session None at = sound
    by_session (Some s) at = close_keeps d id s (set d.sessions id None) sound at waits refl
performs_sound d (Ioctl id code payload) wire held a sound apart place few waits (memory, is) =
    subst (λ (z : Answer). IsSoundDevice z.device) (sym is) (call_keeps d memory id code payload wire held sound (few id))
performs_sound d (Map id writable offset) wire held a sound apart place few waits does = by_frame (frame_in (session_of d id) offset) refl does
  where
    by_frame : (o : Result (ℕ × ℕ) Errno) → frame_in (session_of d id) offset ≡ o → MapsFound d held o a → IsSoundDevice a.device
    by_frame (Err errno) at is = subst (λ (z : Answer). IsSoundDevice z.device) (sym is) sound
    by_frame (Ok frame) at (inl is) = subst (λ (z : Answer). IsSoundDevice z.device) (sym is) sound
    by_frame (Ok frame) at (inr (addr, region, maps, is)) =
        let f : IsFound d.sessions d.region.ranges id frame = is_found d.sessions d.region.ranges id offset frame sound.ids sound.fits at in
        let own : Maps (range_of (frame_tag id f.k) d.region.ranges) d.region (frame_tag id f.k) (pages_of frame.1) addr region =
        subst (λ t. Maps (range_of t d.region.ranges) d.region t (pages_of frame.1) addr region) f.tag maps in
        subst (λ (z : Answer). IsSoundDevice z.device) (sym is)
        (region_sound d region sound (fits_mapped d.sessions d.region region id f.k frame.1 addr f.session sound.fits (few_made d.sessions few) f.live f.has own))
performs_sound d (Unmap addr) wire held a sound apart place few waits does = by_range (range_at addr d.region.ranges) refl does
  where
    by_range : (o : Option LiveRange) → range_at addr d.region.ranges ≡ o → UnmapsAt d held addr o a → IsSoundDevice a.device
    by_range None at is = subst (λ (z : Answer). IsSoundDevice z.device) (sym is) sound
    by_range (Some r) at (region, unmaps, is) = subst (λ (z : Answer). IsSoundDevice z.device) (sym is)
        (region_sound d region sound (fits_unmapped d.sessions d.region region addr r sound.fits (apart.by_address addr r at).1 unmaps))

-- ---- Execute

executed_sound : (w : WorldState) (rows : List (List Inner)) (m : Posting) (ms : List Posting) (out : Option Returning) (host : Part) → IsSoundBy w rows → w.requests ≡ m ∷ ms →
    Executed m w.host out host → IsSoundDevice host.device
executed_sound w rows m ms out host sound is does = by_ask m.request.asks refl does
  where
    by_command : (c : Command) (b : Bool) → m.request.asks ≡ Judged (Ok c) → must_wait w.host.device c ≡ b → ExecutedCommand b m c w.host out host → IsSoundDevice host.device
    by_command c true asks waits (none, (session, named, after)) = subst (λ (p : Part). IsSoundDevice p.device) (sym after) sound.device.sound
    by_command c false asks waits (r, d, (a, performs, told, next), returned, after) =
        subst (λ (p : Part). IsSoundDevice p.device) (sym after)
        (subst IsSoundDevice (sym next)
        (performs_sound w.host.device c m.behind m.held a sound.device.sound sound.mapped.apart (has_place w rows m ms c sound is asks) (made_few w rows sound) waits performs))

    by_ask : (asks : Ask) → m.request.asks ≡ asks → ExecutedAsk asks m w.host out host → IsSoundDevice host.device
    by_ask Unusable at (told, after) = subst (λ (p : Part). IsSoundDevice p.device) (sym after) sound.device.sound
    by_ask (Judged (Err f)) at (told, after) = subst (λ (p : Part). IsSoundDevice p.device) (sym after) sound.device.sound
    by_ask (Judged (Ok c)) at does = by_command c (must_wait w.host.device c) at refl does

execute_next : (w w' : WorldState) (rows : List (List Inner)) (requests : List Posting) → IsSoundBy w rows → w.requests ≡ requests → DoesExecute requests w w' → IsSoundDevice w'.host.device
execute_next w w' rows [] sound is does = absurd does
execute_next w w' rows (m ∷ ms) sound is (out, host, does, after) =
    subst (λ (z : WorldState). IsSoundDevice z.host.device) (sym after) (executed_sound w rows m ms out host sound is does)

-- ---- Resume

by_open : (P : Command → Type 0) (s : LocalState) (d : Command) (c : Crossing) → crossing (from_open s (sends d)) ≡ Some c → P d → P c.command
by_open P s d c is here = by_opened s.opened is
  where
    by_opened : (b : Bool) → crossing (if b then sends d else AnsweredHere) ≡ Some c → P c.command
    by_opened true is = subst (λ (x : Crossing). P x.command) (same_Some _ c is) here
    by_opened false is = absurd (none-some c is)

rest_free : (o : Option SessionState) → is_at_rest o ≡ true → is_busy o ≡ false
rest_free None rest = refl
rest_free (Some s) rest = ap not rest

and_free : (a b : Bool) → b ≡ false → (a && b) ≡ false
and_free true b is = is
and_free false b is = refl

-- A command that stops queues in a session at rest needn't wait, and adds nothing.
abbrev IsFree : DeviceState → Command → Type 0
IsFree d c = (must_wait d c ≡ false) × HasPlaceFor d c

stopping_free : (d : DeviceState) (id : ℕ) (s : LocalState) (call : Call) (c : Crossing) → is_stopping call ≡ true → crossing_of id s call ≡ Some c → is_at_rest (session_of d id) ≡ true → IsFree d c.command
stopping_free d id s CloseHandle c stops is rest = by_open (IsFree d) s (CloseSession id) c is (rest_free (session_of d id) rest, tt)
stopping_free d id s (ReqBufs t m n) c stops is rest =
    let p : List ℕ = request_bytes (reqbufs_request t m n) in
    by_open (IsFree d) s (Ioctl id ReqBufsCode p) c is (and_free (stops_in (session_of d id) ReqBufsCode p) (is_busy (session_of d id)) (rest_free (session_of d id) rest), tt)
stopping_free d id s (StreamOff t) c stops is rest =
    by_open (IsFree d) s (Ioctl id StreamOffCode (le t)) c is (and_free (stops_in (session_of d id) StreamOffCode (le t)) (is_busy (session_of d id)) (rest_free (session_of d id) rest), tt)
stopping_free d id s call c stops is rest = absurd (false≢true stops)

-- so is that of a call that waits, once its session is at rest
pub kept_free : (w : WorldState) (rows : List (List Inner)) (call : WaitingCall) (c : Command) (n h : ℕ) → IsSoundBy w rows → IsOneKept w rows n h call → is_at_rest (session_of w.host.device call.session) ≡ true →
    call.posting.request.asks ≡ Judged (Ok c) → (must_wait w.host.device c ≡ false) × HasPlaceFor w.host.device c
kept_free w rows call c n h sound k rest asks =
    let x : Slice = slice_at w n h in
    let v : Inner = inner_at w rows n h in
    let kept : IsKept x call.posting = (subst (λ o. IsOut o x v) k.out (sound.slices n h k.named).out).1 in
    let says : call.posting.request.asks ≡ Judged (Ok kept.posted.crossing.command) = ap (λ (y : Posting). y.request.asks) kept.posted.says in
    let same : c ≡ kept.posted.crossing.command = command_same c kept.posted.crossing.command (sym asks ∙ says) in
    let id : id_of x.handle.session ≡ call.session = ap id_of (sym k.own ∙ k.id) in
    let quiet : is_at_rest (session_of w.host.device (id_of x.handle.session)) ≡ true = ap (λ i. is_at_rest (session_of w.host.device i)) id ∙ rest in
    subst (IsFree w.host.device) (sym same)
    (stopping_free w.host.device (id_of x.handle.session) (state_of x.handle.log) kept.posted.call kept.posted.crossing kept.stops kept.posted.crosses quiet)

resumed_sound : (w : WorldState) (rows : List (List Inner)) (session : ℕ) (r : Returning) (host : Part) → IsSoundBy w rows → Resumed session w.host r host → IsSoundDevice host.device
resumed_sound w rows session r host sound (rest, does) = by_call (call_for session w.host.calls) refl does
  where
    by_call : (o : Option WaitingCall) → call_for session w.host.calls ≡ o → ResumedCall o w.host r host → IsSoundDevice host.device
    by_call None finds does = absurd does
    by_call (Some call) finds (c, d, asks, (a, performs, told, next), after) =
        let there : _ = find_in (λ (y : WaitingCall). eqb y.session session) w.host.calls call finds in
        let same : call.session ≡ session = eqb-true call.session session there.1 in
        let one : _ = one_kept w rows call sound there.0 in
        let free : (must_wait w.host.device c ≡ false) × HasPlaceFor w.host.device c =
        kept_free w rows call c one.0 one.1 sound one.2 (ap (λ i. is_at_rest (session_of w.host.device i)) same ∙ rest) asks in
        subst (λ (p : Part). IsSoundDevice p.device) (sym after)
        (subst IsSoundDevice (sym next)
        (performs_sound w.host.device c call.posting.behind call.posting.held a sound.device.sound sound.mapped.apart free.1 (made_few w rows sound) free.0 performs))

-- ---- frames

begin_next : (w w' : WorldState) (rows : List (List Inner)) (session : ℕ) → IsSoundBy w rows → DoesBegin session w w' → IsSoundDevice w'.host.device
begin_next w w' rows session sound (job, d, (ready, (s, entry, there, next, of, begins)), after) =
    subst (λ (z : WorldState). IsSoundDevice z.host.device) (sym after)
    (subst IsSoundDevice (sym begins)
    (begun_sound w.host.device session s job entry sound.device.sound there (ap is_ready (sym there) ∙ ready) next of (fits_begun w.host.device session s sound.device.sound there)))

finish_next : (w w' : WorldState) (rows : List (List Inner)) (number : ℕ) → IsSoundBy w rows → DoesFinish number w w' → IsSoundDevice w'.host.device
finish_next w w' rows number sound (done, (e, d, out, comes, (s, is_out, there, ends), after)) =
    let dev : DeviceState = w.host.device in
    let spec : JobSpec = done.job.spec in
    let k : ℕ = spec.session in
    let run : IsRunning dev spec.number spec = out_runs dev spec.number spec sound.device.sound is_out in
    let t : SessionState = run.session in
    let same : t ≡ s = same_Some t s (sym run.live ∙ there) in
    let at : SeatedAt w k t = seated_at w rows k t sound run.live in
    let x : Slice = slice_at w at.process at.handle in
    let found : _ = find_in (λ (y : JobOut). eqb y.spec.number number) dev.jobs e out in
    let own : e.spec.session ≡ k = ap (λ (y : JobSpec). y.session) (comes.out.0 ∙ sym comes.back.spec) in
    let job : x.job ≡ Some comes.job = ap (job_in dev.jobs) at.id_is ∙ (job_of w rows e k sound found.0 own ∙ ap Some (entry_parts e comes.job comes.out)) in
    let many = done_few x (inner_at w rows at.process at.handle) t run.job comes.job done (sound.slices at.process at.handle at.is_handle) at.session job run.runs comes.back comes.picture in
    let few : length (t.unsent ++ events_of t run.job done) ≤ 64 = omega (arith, many) in
    let small : length (finished t done).unsent ≤ 64 = subst (λ (o : Option Running). length (finished_by o t done).unsent ≤ 64) (sym run.runs) few in
    let n : ℕ = events_more t done in
    subst (λ (z : WorldState). IsSoundDevice z.host.device) (sym after)
    (subst IsSoundDevice (sym (ends ∙ ap (λ z. with_done dev k z done) (sym same)))
    (finish_keeps dev spec.number spec done (set dev.sessions k (Some (finished t done))) (filter (λ y. not (y.spec.session == k)) dev.jobs) (dev.unsent ++ replicate n k) n
    sound.device.sound run refl small refl refl refl))

announce_next : (w w' : WorldState) (rows : List (List Inner)) → IsSoundBy w rows → DoesAnnounce w w' → IsSoundDevice w'.host.device
announce_next w w' rows sound (delivery, host, does, after) =
    subst (λ (z : WorldState). IsSoundDevice z.host.device) (sym after) (by_list w.host.device.unsent refl does)
  where
    by_list : (ids : List ℕ) → w.host.device.unsent ≡ ids → AnnouncedTo ids w.host delivery host → IsSoundDevice host.device
    by_list [] at does = absurd does
    by_list (id ∷ ids) at (named, goes, calls) =
        let by : Sends w.host.device (id ∷ ids) (Some (delivery.msg, delivery.held)) host.device =
        subst (λ us. Sends w.host.device us (Some (delivery.msg, delivery.held)) host.device) at goes in
        subst IsSoundDevice (sym by.4) (send_keeps w.host.device id ids by.0 (sent by.0) sound.device.sound at by.1 refl)

-- ---- each step

stays : (w w' z : WorldState) → w' ≡ z → z.host ≡ w.host → IsSoundDevice w.host.device → IsSoundDevice w'.host.device
stays w w' z after same sound = subst (λ (u : WorldState). IsSoundDevice u.host.device) (sym after) (subst (λ (p : Part). IsSoundDevice p.device) (sym same) sound)

pub device_next : (w w' : WorldState) (s : Step) → IsSound w → Steps w s w' → IsSoundDevice w'.host.device
device_next w w' (Issue n) sound (may, (g, left, posted, does, after)) = stays w w' _ after refl sound.1.device.sound
device_next w w' Execute sound (may, does) = execute_next w w' sound.0 w.requests sound.1 refl does
device_next w w' (Resume session) sound (may, (r, host, does, after)) =
    subst (λ (z : WorldState). IsSoundDevice z.host.device) (sym after) (resumed_sound w sound.0 session r host sound.1 does)
device_next w w' (Begin session) sound (may, does) = begin_next w w' sound.0 session sound.1 does
device_next w w' (Finish number) sound (may, does) = finish_next w w' sound.0 number sound.1 does
device_next w w' Announce sound (may, does) = announce_next w w' sound.0 sound.1 does
device_next w w' Collect sound (may, (g, left, posted, does, after)) = stays w w' _ after refl sound.1.device.sound
device_next w w' Pump sound (may, (g, left, posted, does, after)) = stays w w' _ after refl sound.1.device.sound
device_next w w' (Lease n) sound (may, (leased, g, does, after)) = stays w w' _ after refl sound.1.device.sound
device_next w w' (GiveBack n) sound (may, (entry, lease, is, comes, after)) = stays w w' _ after refl sound.1.device.sound
