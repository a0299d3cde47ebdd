-- A frame that begins or comes back, and an event that is sent, keep a slice sound.
use Rattle.std.proofs.Common.{◌≡◌, ℕ, zero, suc, true, false, Bool, ◌&&◌, List, [], ◌∷◌, ◌++◌, map, set, get_or, Option, Some, None, refl, sym, ap, ◌∙◌, subst, append_assoc, true≢false, if◌then◌else◌, length}
use Rattle.std.proofs.lemmas.Bool.{false≢true}
use Rattle.std.proofs.lemmas.Option.{none-some}
use Rattle.std.proofs.lemmas.List.Elements.{All-nil, All-cons, All-append, All-head, All-tail}
use Rattle.std.specs.List.{flat_map, filter_map, cons_option}
use Rattle.std.specs.Prelude.{IfSome, IsTrue, All, take, drop}
use Rattle.std.specs.Option.{option_map, option_and_then, option_to_list}
use Rattle.v4l_const.specs.declared.errno.Errno.{Errno}
use Rattle.v4l_const.specs.Model.{queues as types_of, source_queue, picture_queue, has_events}
use Rattle.v4l_layout.specs.declared.buffer_rec.BufferRec.{BufferRec}
use Rattle.v4l_rules.specs.Queues.{place_in}
use Rattle.vm_frame.specs.Mem.{mem_bytes, mem_rest}
use Rattle.vm_frame.specs.declared.mem.Held.{Held}
use Rattle.vm_job.specs.Job.{JobParts, DoneParts, CameBack, HasPicture}
use Rattle.vm_job.specs.declared.spec.JobSpec.{JobSpec}
use Rattle.vm_local.specs.declared.call.Call.{Call}
use Rattle.vm_local.specs.declared.entry.Entry.{Entry}
use Rattle.vm_local.specs.declared.entry.Entry.TheVariants.{Called}
use Rattle.vm_local.specs.declared.reply.Reply.{Reply}
use Rattle.vm_local.specs.declared.reply.Reply.TheVariants.{Refused}
use Rattle.vm_local.specs.State.{LocalState}
use Rattle.vm_local.specs.Queue.{can_finish}
use Rattle.vm_local.specs.Log.{IsCall, IsLegal, after, replay, replay_from}
use Rattle.vm_local.proofs.KeptLemmas.{some_same, refused_call}
use Rattle.vm_commute.proofs.ReachedLemmas.{reached_after}
use Rattle.vm_home.specs.Moves.{memory_at, is_refusal, is_stopping, ComeWith}
use Rattle.vm_home.specs.Reached.{IsReached}
use Rattle.vm_handle.specs.Handle.{id_of}
use Rattle.vm_mem.specs.Lists.{first_of}
use Rattle.vm_queue.specs.Buffers.{memories}
use Rattle.vm_queue.specs.declared.queued.Queued.{Queued}
use Rattle.vm_wire.specs.Buffers.{frame_event}
use Rattle.vm_wire.specs.Message.{Returning}
use Rattle.vm_wire.specs.declared.delivery.Delivery.{Delivery}
use Rattle.vm_wire.specs.declared.event.EventMsg.{EventMsg}
use Rattle.vm_wire.specs.declared.event.EventMsg.TheVariants.{Dequeued, Happened}
use Rattle.vm_exchange.specs.Messages.{flight_of}
use Rattle.vm_session.specs.Buffers.{queued_memories}
use Rattle.vm_session.specs.Sound.{IsSound as IsSoundSession}
use Rattle.vm_session.specs.State.{SessionQueue, SessionState, opening_queue, queue_of, pictures}
use Rattle.vm_session.specs.Streaming.{can_begin, next_src, next_dst, next_spec, job_with, running_with, next_job, headless, begun, counted, frame_time, returned, sync_events, src_events, dst_event, events_of, finished_by, finished, settled, with_returned, sent, sent_of}
use Rattle.vm_session.specs.declared.running.Running.{Running}
use Rattle.vm_session.specs.declared.unsent.Unsent.{Unsent}
use Rattle.vm_stands.specs.Ahead.{StopsNone}
use Rattle.vm_stands.specs.Flight.{stops_queues, LeadAll}
use Rattle.vm_stands.specs.Slice.{LeadWith, LeadAhead, IsSlice}
use Rattle.vm_stands.proofs.BegunLemmas.{begins_alike, IsFull, can_full}
use Rattle.vm_stands.proofs.FlightLemmas.{all_replay}
use Rattle.vm_stands.proofs.SliceLemmas.{all_reached, slice_sends, slice_begins, slice_finishes, slice_finishes_refused}
use Rattle.vm_realm.specs.Inner.{Inner, driver_state, id_in, under_way, unsent_in}
use Rattle.vm_realm.specs.Laws.{GoesOnSoundly}
use Rattle.vm_realm.specs.Places.{stops_last, told_state, told_state_if, stopped_by as stopped_many, queued_held, job_held}
use Rattle.vm_realm.specs.Slice.{Slice, Out, id_ahead, unsent_by, earlier_of}
use Rattle.vm_realm.specs.Slice.Out.{Nowhere, Asked, Kept, Told, Astray}
use Rattle.vm_realm.specs.SliceSteps.{Begins, Finishes, Sends}
use Rattle.vm_realm.specs.Sound.{IsBefore, IsTold, IsOut, IsSeated, IsSoundSlice, IsWholeSlice, spec_running, stopped_last}
use Rattle.vm_realm.specs.Users.{IsUsers, AreUsers}
use Rattle.vm_realm.proofs.CanHoldLemmas.{hold_like}
use Rattle.vm_realm.proofs.KeepStateLemmas.{IsAlike, alike_then, alike_back, lead_alike, held_alike}
use Rattle.vm_realm.proofs.KeepOutLemmas.{on_soundly, moved, posted_moved, moved_sound}
use Rattle.vm_realm.proofs.KeepOwnLemmas.{still_free}
use Rattle.vm_realm.proofs.KeepTakeLemmas.{some_of}
use Rattle.vm_realm.proofs.KeepStopLemmas.{HasStopped, IsHalf, half_of, half_unready, half_lead, half_ahead, stops_all, stops_some, last_stopped}

-- ---- an event is sent

-- What is left of a session whose oldest message was sent.
record IsRest (s t : SessionState) : Type 0 where
  unsent : t.unsent ≡ s.unsent
  id : t.id ≡ s.id
  running : t.running ≡ s.running
  memories : queued_memories t.queues ≡ queued_memories s.queues

pub flat_set : {A B : Type 0} (f : A → List B) (xs : List A) (p : ℕ) (d y : A) → f y ≡ f (get_or xs p d) → flat_map f (set xs p y) ≡ flat_map f xs
flat_set f [] p d y same = refl
flat_set f (x ∷ xs) zero d y same = ap (λ zs. zs ++ flat_map f xs) same
flat_set f (x ∷ xs) (suc p) d y same = ap (λ zs. f x ++ zs) (flat_set f xs p d y same)

returned_rest : (s : SessionState) (msg : EventMsg) → IsRest s (with_returned s msg)
returned_rest s (Happened session event) = record { unsent = refl; id = refl; running = refl; memories = refl }
returned_rest s (Dequeued session b) = record {
  unsent = refl;
  id = refl;
  running = refl;
  memories = flat_set (λ (q : SessionQueue). memories q.queued) s.queues (place_in (types_of s.model) b.kind) opening_queue (settled (queue_of s b.kind) b.index) refl;
}

sent_is : (s : SessionState) (e : Unsent) (es : List Unsent) → s.unsent ≡ e ∷ es → sent s ≡ with_returned (record s { unsent = es }) e.msg
sent_is s e es is = ap (λ us. sent_of us s) is

oldest_is : (us : List Unsent) (p : EventMsg × Option Held) → option_map {U = EventMsg × Option Held} (λ (e : Unsent). (e.msg, e.held)) (first_of us) ≡ Some p →
    (es : List Unsent) × (us ≡ record { msg = p.0; held = p.1 } ∷ es)
oldest_is [] p is = absurd (none-some p is)
oldest_is (e ∷ es) p is =
    let q : EventMsg × Option Held = (e.msg, e.held) in
    let first : EventMsg × Option Held → Unsent = λ o. record { msg = o.0; held = o.1 } in
    let same : q ≡ p = some_same q p p is in
    (es, ap (λ o. first o ∷ es) same)

map_behind : (xs ys : List Delivery) (d : Delivery) → map unsent_by (xs ++ (ys ++ d ∷ [])) ≡ map unsent_by (xs ++ ys) ++ unsent_by d ∷ []
map_behind [] [] d = refl
map_behind [] (y ∷ ys) d = ap (λ zs. unsent_by y ∷ zs) (map_behind [] ys d)
map_behind (x ∷ xs) ys d = ap (λ zs. unsent_by x ∷ zs) (map_behind xs ys d)

nonempty : {A : Type 0} (x : A) (xs : List A) → x ∷ xs ≡ [] → ⊥
nonempty x xs is = cc

sends_sound : (x : Slice) (v : Inner) (s : SessionState) (msg : EventMsg) (held : Option Held) (es : List Unsent) → IsSoundSlice x v → x.session ≡ Some s →
    s.unsent ≡ record { msg = msg; held = held } ∷ es → IsSoundSession (sent s) →
    IsSoundSlice (moved x x.held (x.events ++ record { session = s.id; msg = msg; held = held } ∷ []) (Some (sent s)) x.job) v
sends_sound x v s msg held es sound is unsent whole =
    let d : Delivery = record { session = s.id; msg = msg; held = held } in
    let e : Unsent = record { msg = msg; held = held } in
    let rest : IsRest (record s { unsent = es }) (sent s) = subst (λ t. IsRest (record s { unsent = es }) t) (sym (sent_is s e es unsent)) (returned_rest (record s { unsent = es }) msg) in
    let earlier : map unsent_by (x.held ++ (x.events ++ d ∷ [])) ≡ earlier_of x ++ e ∷ [] = map_behind x.held x.events d in
    let slice : IsSlice v.frames s x.job (earlier_of x) v.executed (driver_state x) v.ahead = subst (λ o. IsSeated o x v) is sound.seated in
    let own : IsSlice v.frames (sent s) x.job (earlier_of x ++ e ∷ []) v.executed (driver_state x) v.ahead =
    slice_sends v.frames s x.job (earlier_of x) v.executed (driver_state x) v.ahead e es slice unsent whole in
    moved_sound x v x.held (x.events ++ d ∷ []) (Some (sent s)) x.job sound (record {
      under = ap (λ (xs : List Unsent). xs ++ (sent s).unsent) earlier
          ∙ (append_assoc (earlier_of x) (e ∷ []) (sent s).unsent
          ∙ (ap (λ (us : List Unsent). earlier_of x ++ us) (ap (λ (us : List Unsent). e ∷ us) rest.unsent ∙ sym unsent)
          ∙ ap (λ o. earlier_of x ++ unsent_in o) (sym is)));
      live = λ m at live. refl;
      quiet = λ quiet line call reply executed stops done.
          absurd (nonempty e es (sym unsent ∙ (ap unsent_in (sym is) ∙ (quiet line call reply executed stops done).0)));
      seated = subst (λ es. IsSlice v.frames (sent s) x.job es v.executed (driver_state x) v.ahead) (sym earlier) own;
      named = subst (λ o. IfSome o (λ t. id_ahead x.handle x.out ≡ Some t.id)) is sound.named ∙ ap Some (sym rest.id);
      runs = ap (λ o. option_map (λ r. r.spec) o) rest.running ∙ (ap spec_running (sym is) ∙ sound.runs);
      holds = sound.held;
      queued = subst (AreUsers v.ahead) (ap queued_held (is) ∙ sym rest.memories) sound.users.queued;
      taken = sound.users.job;
    })

pub announce_keeps : (x x' : Slice) (v : Inner) → IsSoundSlice x v → Sends x x' → IsWholeSlice x' → GoesOnSoundly x' v
announce_keeps x x' v sound (s, msg, held, is, old, after) whole =
    let by : (es : List Unsent) × (s.unsent ≡ record { msg = msg; held = held } ∷ es) = oldest_is s.unsent (msg, held) old in
    let y : Slice = moved x x.held (x.events ++ record { session = s.id; msg = msg; held = held } ∷ []) (Some (sent s)) x.job in
    let own : IsSoundSession (sent s) = (subst IsWholeSlice after whole).session in
    on_soundly x' v v refl (subst (λ z. IsSoundSlice z v) (sym after) (sends_sound x v s msg held by.0 sound is by.1 own))

-- ---- a job begins

all_parts : {A : Type 0} (P : A → Type 0) (xs ys : List A) → All P (xs ++ ys) → All P xs × All P ys
all_parts P [] ys all = (All-nil P, all)
all_parts P (x ∷ xs) ys all =
    let rest : All P xs × All P ys = all_parts P xs ys (All-tail P x (xs ++ ys) all) in
    (All-cons P x xs (All-head P x (xs ++ ys) all) rest.0, rest.1)

drop_all : (P : Held → Type 0) (xs : List Queued) → All P (memories xs) → All P (memories (drop 1 xs))
drop_all P [] all = all
drop_all P (x ∷ xs) all = All-tail P x.held (memories xs) all

headless_all : (P : Held → Type 0) (qs : List SessionQueue) → All P (queued_memories qs) → All P (queued_memories (map headless qs))
headless_all P [] all = all
headless_all P (q ∷ qs) all =
    let parts : All P (memories q.queued) × All P (queued_memories qs) = all_parts P (memories q.queued) (queued_memories qs) all in
    All-append P (memories (drop 1 q.queued)) (queued_memories (map headless qs)) (drop_all P q.queued parts.0) (headless_all P qs parts.1)

first_held : (P : Held → Type 0) (xs : List Queued) (b : Queued) → first_of xs ≡ Some b → All P (memories xs) → P b.held
first_held P [] b is all = absurd (none-some b is)
first_held P (x ∷ xs) b is all = subst (λ (y : Queued). P y.held) (some_same x b b is) (All-head P x.held (memories xs) all)

first_all : (P : Held → Type 0) (qs : List SessionQueue) (p : ℕ) (b : Queued) → first_of (get_or qs p opening_queue).queued ≡ Some b → All P (queued_memories qs) → P b.held
first_all P [] p b is all = absurd (none-some b is)
first_all P (q ∷ qs) zero b is all = first_held P q.queued b is (all_parts P (memories q.queued) (queued_memories qs) all).0
first_all P (q ∷ qs) (suc p) b is all = first_all P qs p b is (all_parts P (memories q.queued) (queued_memories qs) all).1

source_all : (P : Held → Type 0) (s : SessionState) (o : Option ℕ) (b : Queued) → option_and_then (λ t. first_of (queue_of s t).queued) o ≡ Some b → All P (queued_memories s.queues) → P b.held
source_all P s None b is all = absurd (none-some b is)
source_all P s (Some t) b is all = first_all P s.queues (place_in (types_of s.model) t) b is all

job_parts : (P : Held → Type 0) (spec : JobSpec) (src dst : Option Queued) (job : JobParts) → ((b : Queued) → src ≡ Some b → P b.held) → ((b : Queued) → dst ≡ Some b → P b.held) →
    option_map (job_with spec src) dst ≡ Some job → All P (job_held (Some job))
job_parts P spec src None job first second is = absurd (none-some job is)
job_parts P spec None (Some d) job first second is =
    subst (λ j. All P (job_held (Some j))) (some_same (job_with spec None d) job job is) (All-cons P d.held [] (second d refl) (All-nil P))
job_parts P spec (Some b) (Some d) job first second is =
    subst (λ j. All P (job_held (Some j))) (some_same (job_with spec (Some b) d) job job is)
    (All-cons P b.held (d.held ∷ []) (first b refl) (All-cons P d.held [] (second d refl) (All-nil P)))

spec_same : (spec : JobSpec) (src dst : Option Queued) (job : JobParts) → option_map (job_with spec src) dst ≡ Some job →
    option_map (λ (r : Running). r.spec) (option_map (running_with spec src) dst) ≡ Some job.spec
spec_same spec src None job is = absurd (none-some job is)
spec_same spec src (Some d) job is = ap (λ o. option_map (λ (j : JobParts). j.spec) o) is

-- behind a stopping call that was done no job can begin
never_begins : (frames : List ℕ) (s : SessionState) (job : Option JobParts) (earlier : List Unsent) (r ahead : LocalState) (line : ℕ) (call : Call) (reply : Reply) →
    IsSlice frames s job earlier (Some (Called line call reply)) r ahead → is_stopping call ≡ true → is_refusal reply ≡ false → can_begin s ≡ true → ⊥
never_begins frames s job earlier r ahead line call reply slice halts done can =
    let by : LeadWith true s.id r (Called line call reply) (earlier ++ s.unsent) ahead = subst (λ b. LeadWith b s.id r (Called line call reply) (earlier ++ s.unsent) ahead) halts slice.leads in
    let there : IsReached by.0 = all_reached s.id r by.0 (earlier ++ s.unsent) slice.reached by.1 in
    let behind : IsReached ahead = reached_after by.0 ahead (Called line call reply) there by.2 in
    let one : (u : ℕ) × HasStopped ahead u = stops_some by.0 ahead call halts (stops_all by.0 ahead line call reply there done by.2) in
    let full : (s.running ≡ None) × IsFull s = can_full s slice.sound can in
    half_unready ahead one.0 behind (half_of ahead one.0 one.1) (sym (begins_alike frames s ahead slice.stands slice.sound full.0) ∙ can)

begins_sound : (x : Slice) (v : Inner) (s : SessionState) (number : ℕ) (job : JobParts) → IsSoundSlice x v → x.session ≡ Some s → can_begin s ≡ true → next_job s number ≡ Some job →
    IsSoundSession (begun s number) → IsSoundSlice (moved x x.held x.events (Some (begun s number)) (Some job)) v
begins_sound x v s number job sound is can next whole =
    let slice : IsSlice v.frames s x.job (earlier_of x) v.executed (driver_state x) v.ahead = subst (λ o. IsSeated o x v) is sound.seated in
    let by : (new : JobParts) × (next_job s number ≡ Some new) × IsSlice v.frames (begun s number) (Some new) (earlier_of x) v.executed (driver_state x) v.ahead =
    slice_begins v.frames s x.job (earlier_of x) v.executed (driver_state x) v.ahead number slice can whole in
    let P : Held → Type 0 = λ h. IsUsers v.ahead (memory_at v.ahead h.queue h.index) h.mem in
    let queued : All P (queued_memories s.queues) = subst (λ o. AreUsers v.ahead (queued_held o)) is sound.users.queued in
    moved_sound x v x.held x.events (Some (begun s number)) (Some job) sound (record {
      under = ap (λ o. earlier_of x ++ unsent_in o) (sym is);
      live = λ m at live. refl;
      quiet = λ quiet line call reply executed halts done.
          absurd (never_begins v.frames s x.job (earlier_of x) (driver_state x) v.ahead line call reply
          (subst (λ e. IsSlice v.frames s x.job (earlier_of x) e (driver_state x) v.ahead) executed slice) halts done can);
      seated = subst (λ j. IsSlice v.frames (begun s number) (Some j) (earlier_of x) v.executed (driver_state x) v.ahead) (some_same by.0 job job (sym by.1 ∙ next)) by.2;
      named = subst (λ o. IfSome o (λ t. id_ahead x.handle x.out ≡ Some t.id)) is sound.named;
      runs = spec_same (next_spec s number) (next_src s) (next_dst s) job next;
      holds = sound.held;
      queued = headless_all P s.queues queued;
      taken = job_parts P (next_spec s number) (next_src s) (next_dst s) job (λ b at. source_all P s (source_queue s.model) b at queued)
          (λ b at. first_all P s.queues (place_in (types_of s.model) (picture_queue s.model)) b at queued) next;
    })

pub begin_keeps : (x x' : Slice) (v : Inner) → IsSoundSlice x v → Begins x x' → IsWholeSlice x' → GoesOnSoundly x' v
begin_keeps x x' v sound (s, number, job, is, waits, can, next, after) whole =
    let own : IsSoundSession (begun s number) = (subst IsWholeSlice after whole).session in
    on_soundly x' v v refl (subst (λ z. IsSoundSlice z v) (sym after) (begins_sound x v s number job sound is can next own))

-- ---- a job comes back

pub ahead_reached : (id : ℕ) (r s : LocalState) (executed : Option Entry) (es : List Unsent) → IsReached r → LeadAhead id r executed es s → IsReached s
ahead_reached id r s None es reached leads = all_reached id r s es reached leads
ahead_reached id r s (Some e) es reached leads = by_stop (stops_queues e) leads
  where
    by_stop : (b : Bool) → LeadWith b id r e es s → IsReached s
    by_stop true by = reached_after by.0 s e (all_reached id r by.0 es reached by.1) by.2
    by_stop false by = all_reached id by.0 s es (reached_after r by.0 e reached by.1) by.2

-- the states ahead are alike, whatever messages lead there
ahead_alike : (id other : ℕ) (r s t : LocalState) (executed : Option Entry) (es fs : List Unsent) → IsReached r → StopsNone executed → LeadAhead id r executed es s → LeadAhead other r executed fs t → IsAlike s t
ahead_alike id other r s t None es fs reached none first second =
    alike_then s r t (alike_back r s (lead_alike id r s es reached first)) (lead_alike other r t fs reached second)
ahead_alike id other r s t (Some e) es fs reached none first second =
    let one : LeadWith false id r e es s = subst (λ b. LeadWith b id r e es s) none first in
    let two : LeadWith false other r e fs t = subst (λ b. LeadWith b other r e fs t) none second in
    let same : two.0 ≡ one.0 = some_same two.0 one.0 r (sym two.1 ∙ one.1) in
    let there : IsReached one.0 = reached_after r one.0 e reached one.1 in
    alike_then s one.0 t (alike_back one.0 s (lead_alike id one.0 s es there one.2))
    (lead_alike other one.0 t fs there (subst (λ u. LeadAll other u fs t) same two.2))

held_more : (P : Held → Type 0) (o : Option Held) (xs ys : List Held) → (All P xs → All P ys) → All P (cons_option o xs) → All P (cons_option o ys)
held_more P None xs ys more all = more all
held_more P (Some h) xs ys more all = All-cons P h ys (All-head P h xs all) (more (All-tail P h xs all))

held_both : (P : Held → Type 0) (es fs : List Unsent) → All P (filter_map (λ (e : Unsent). e.held) es) → All P (filter_map (λ (e : Unsent). e.held) fs) → All P (filter_map (λ (e : Unsent). e.held) (es ++ fs))
held_both P [] fs first second = second
held_both P (e ∷ es) fs first second =
    held_more P e.held (filter_map (λ (x : Unsent). x.held) es) (filter_map (λ (x : Unsent). x.held) (es ++ fs)) (λ rest. held_both P es fs rest second) first

-- the memories of a done job's events are those of the job
events_held : (P : Held → Type 0) (s : SessionState) (r : Running) (done : DoneParts) → ((h : Held) → done.job.src ≡ Some h → P h) → P done.job.dst →
    All P (filter_map (λ (e : Unsent). e.held) (events_of s r done))
events_held P s r done src dst =
    held_both P (sync_events s done.good) (src_events s r done ++ dst_event s r done ∷ []) (sync (has_events s.model && done.good))
    (held_both P (src_events s r done) (dst_event s r done ∷ []) (source r.src) (All-cons P done.job.dst [] dst (All-nil P)))
  where
    sync : (b : Bool) → All P (filter_map (λ (e : Unsent). e.held) (if b then record { msg = Happened s.id (frame_event (pictures s).sequence (frame_time (pictures s).sequence)); held = None } ∷ [] else []))
    sync true = All-nil P
    sync false = All-nil P

    one : (o : Option Held) → ((h : Held) → o ≡ Some h → P h) → All P (cons_option o [])
    one None from = All-nil P
    one (Some h) from = All-cons P h [] (from h refl) (All-nil P)

    source : (o : Option BufferRec) → All P (filter_map (λ (e : Unsent). e.held) (option_to_list (option_map (λ b. returned s r done.good b b.bytesused done.job.src) o)))
    source None = All-nil P
    source (Some b) = one done.job.src src

counted_same : (qs : List SessionQueue) → queued_memories (map counted qs) ≡ queued_memories qs
counted_same [] = refl
counted_same (q ∷ qs) = ap (λ hs. memories q.queued ++ hs) (counted_same qs)

running_is : (o : Option Running) (spec : JobSpec) → option_map (λ (r : Running). r.spec) o ≡ Some spec → (r : Running) × (o ≡ Some r)
running_is None spec is = absurd (none-some spec is)
running_is (Some r) spec is = (r, refl)

-- no queue of a handle whose job runs was stopped by the last call
none_stopped : (x : Slice) (v : Inner) → IsLegal x.handle.log.model x.handle.log.entries → IsReached v.ahead → can_finish v.ahead ≡ true → ((t : ℕ) → HasStopped (driver_state x) t → IsHalf v.ahead t) → stopped_last x ≡ []
none_stopped x v legal reached ready half =
    by_list (stopped_last x) (last_stopped x.handle.log.model x.handle.log.entries (driver_state x) (some_of x.handle.log.model (replay x.handle.log.model x.handle.log.entries) legal))
  where
    by_list : (ts : List ℕ) → All (HasStopped (driver_state x)) ts → ts ≡ []
    by_list [] all = refl
    by_list (t ∷ ts) all = absurd (half_unready v.ahead t reached (half t (All-head (HasStopped (driver_state x)) t ts all)) ready)

abbrev done_slice : Slice → SessionState → Slice
done_slice x f = moved x x.held x.events (Some f) None

-- What is so once the job came back, in the state ahead t.
record IsDone (x : Slice) (v : Inner) (s : SessionState) (r : Running) (done : DoneParts) (b t : LocalState) : Type 0 where
  whole : IsSoundSession (finished_by (Some r) s done)
  slice : IsSlice v.frames (finished_by (Some r) s done) None (earlier_of x) v.executed (driver_state x) t
  out : IsOut x.out (done_slice x (finished_by (Some r) s done)) (record v { before = b; ahead = t })
  alike : IsAlike v.ahead t
  told : told_state (record v { before = b; ahead = t }) ≡ t
  told_before : told_state v ≡ v.ahead
  back : (m : Returning) → x.out ≡ Told m → AreUsers b (take (stopped_many b v.executed) m.held)
  half : (u : ℕ) → HasStopped (driver_state x) u → IsHalf v.ahead u

done_sound : (x : Slice) (v : Inner) (s : SessionState) (r : Running) (job : JobParts) (done : DoneParts) (b t : LocalState) → IsSoundSlice x v → x.session ≡ Some s → x.job ≡ Some job →
    CameBack job done → IsReached v.ahead → can_finish v.ahead ≡ true → IsDone x v s r done b t → IsSoundSlice (done_slice x (finished_by (Some r) s done)) (record v { before = b; ahead = t })
done_sound x v s r job done b t sound is has back reached ready by =
    let f : SessionState = finished_by (Some r) s done in
    let y : Slice = done_slice x f in
    let P : Held → Type 0 = λ h. IsUsers t (memory_at t h.queue h.index) h.mem in
    let old : All P (filter_map (λ (e : Unsent). e.held) (earlier_of x ++ s.unsent)) =
    subst (λ o. All P (filter_map (λ (e : Unsent). e.held) (earlier_of x ++ unsent_in o))) is
    (held_alike v.ahead t (filter_map (λ (e : Unsent). e.held) (under_way x)) by.alike
    (subst (λ z. AreUsers z (filter_map (λ (e : Unsent). e.held) (under_way x))) by.told_before sound.users.messages)) in
    let taken : AreUsers t (job_held (Some job)) = held_alike v.ahead t (job_held (Some job)) by.alike (subst (λ o. AreUsers v.ahead (job_held o)) has sound.users.job) in
    let events : All P (filter_map (λ (e : Unsent). e.held) (events_of s r done)) = events_held P s r done
    (λ h at. source_of job.src job.dst taken h (sym back.src ∙ at))
    (dest_of t job.src job.dst done.job.dst taken back.dst.queue back.dst.index back.dst.rest back.dst.size) in
    let messages : All P (filter_map (λ (e : Unsent). e.held) (earlier_of x ++ (s.unsent ++ events_of s r done))) =
    subst (λ es. All P (filter_map (λ (e : Unsent). e.held) es)) (append_assoc (earlier_of x) s.unsent (events_of s r done)) (held_both P (earlier_of x ++ s.unsent) (events_of s r done) old events) in
    record {
      log = sound.log;
      handle = sound.handle;
      out = by.out;
      seated = by.slice;
      named = subst (λ o. IfSome o (λ z. id_ahead x.handle x.out ≡ Some z.id)) is sound.named;
      runs = refl;
      still = still_free y (none_stopped x v sound.handle.legal reached ready by.half);
      held = sound.held;
      users = record {
        home = sound.users.home;
        lent = sound.users.lent;
        along = sound.users.along;
        back = by.back;
        messages = subst (λ z. AreUsers z (filter_map (λ (e : Unsent). e.held) (under_way y))) (sym by.told) messages;
        queued = subst (AreUsers t) (sym (counted_same s.queues)) (held_alike v.ahead t (queued_memories s.queues) by.alike (subst (λ o. AreUsers v.ahead (queued_held o)) is sound.users.queued));
        job = All-nil P;
      };
    }
  where
    source_of : (src : Option Held) (dst : Held) → AreUsers t (option_to_list src ++ dst ∷ []) → (h : Held) → src ≡ Some h → IsUsers t (memory_at t h.queue h.index) h.mem
    source_of None dst all h at = absurd (none-some h at)
    source_of (Some k) dst all h at =
        subst (λ (z : Held). IsUsers t (memory_at t z.queue z.index) z.mem) (some_same k h h at) (All-head (λ (z : Held). IsUsers t (memory_at t z.queue z.index) z.mem) k (dst ∷ []) all)

    last_of : (src : Option Held) (dst : Held) → AreUsers t (option_to_list src ++ dst ∷ []) → IsUsers t (memory_at t dst.queue dst.index) dst.mem
    last_of None dst all = All-head (λ (z : Held). IsUsers t (memory_at t z.queue z.index) z.mem) dst [] all
    last_of (Some k) dst all = All-head (λ (z : Held). IsUsers t (memory_at t z.queue z.index) z.mem) dst [] (All-tail (λ (z : Held). IsUsers t (memory_at t z.queue z.index) z.mem) k (dst ∷ []) all)

    dest_of : (t : LocalState) (src : Option Held) (dst new : Held) → AreUsers t (option_to_list src ++ dst ∷ []) → new.queue ≡ dst.queue → new.index ≡ dst.index → mem_rest new.mem ≡ mem_rest dst.mem →
        length (mem_bytes new.mem) ≡ length (mem_bytes dst.mem) → IsUsers t (memory_at t new.queue new.index) new.mem
    dest_of t src dst new all queue index rest size = subst (λ n. IsUsers t n new.mem) (λ j. memory_at t (sym queue j) (sym index j)) (record {
      pages = λ b line off there owns kind. rest ∙ (last_by t src dst all).pages b line off there owns kind;
      holds = hold_like dst.mem new.mem rest size (last_by t src dst all).holds;
    })
      where
        last_by : (t : LocalState) (src : Option Held) (dst : Held) → AreUsers t (option_to_list src ++ dst ∷ []) → IsUsers t (memory_at t dst.queue dst.index) dst.mem
        last_by t None dst all = All-head (λ (z : Held). IsUsers t (memory_at t z.queue z.index) z.mem) dst [] all
        last_by t (Some k) dst all = All-head (λ (z : Held). IsUsers t (memory_at t z.queue z.index) z.mem) dst [] (All-tail (λ (z : Held). IsUsers t (memory_at t z.queue z.index) z.mem) k (dst ∷ []) all)

-- nothing was executed that stops queues
out_done : (x : Slice) (v : Inner) (o : Out) (f : SessionState) (t : LocalState) → StopsNone v.executed → x.out ≡ o → IsOut o x v → IsOut o (done_slice x f) (record v { ahead = t })
out_done x v Nowhere f t none at out = (record { executed = out.0.executed; before = out.0.before }, out.1)
out_done x v (Asked m) f t none at out = (record { executed = out.0.executed; before = out.0.before }, posted_moved x x.held x.events (Some f) None m out.1)
out_done x v (Kept m) f t none at out = (
  record { executed = out.0.executed; before = out.0.before },
  record {
    posted = posted_moved x x.held x.events (Some f) None m out.1.posted;
    stops = out.1.stops;
    live = refl;
  },
)
out_done x v (Told r) f t none at out =
    let never : is_stopping out.call ≡ false = subst StopsNone out.executed none in
    record {
      line = out.line;
      call = out.call;
      reply = out.reply;
      next = out.next;
      underway = out.underway;
      crosses = out.crosses;
      first = out.first;
      executed = out.executed;
      before = subst (λ b. IsBefore b (done_slice x f) v.before) (sym never) (subst (λ b. IsBefore b x v.before) never out.before);
      is_call = out.is_call;
      who = out.who;
      bytes = out.bytes;
      small = out.small;
      address = out.address;
      memories = out.memories;
      quiet = λ halts done. absurd (true≢false (sym halts ∙ never));
    }
out_done x v Astray f t none at out = absurd out

pub told_none : (v : Inner) (t : LocalState) → StopsNone v.executed → told_state (record v { ahead = t }) ≡ t
told_none v t none = by_executed v.executed none
  where
    by_executed : (e : Option Entry) → StopsNone e → told_state (record v { executed = e; ahead = t }) ≡ t
    by_executed None none = refl
    by_executed (Some e) none = ap (λ b. told_state_if b (record v { executed = Some e; ahead = t })) none

half_none : (x : Slice) (v : Inner) (id : ℕ) (es : List Unsent) (o : Out) → IsReached (driver_state x) → StopsNone v.executed → IsOut o x v → LeadAhead id (driver_state x) v.executed es v.ahead →
    (u : ℕ) → HasStopped (driver_state x) u → IsHalf v.ahead u
half_none x v id es o reached none out leads u is = by_out o out
  where
    plain : v.executed ≡ None → IsHalf v.ahead u
    plain at = half_lead id (driver_state x) v.ahead es u reached (subst (λ e. LeadAhead id (driver_state x) e es v.ahead) at leads) (half_of (driver_state x) u is)

    by_out : (o : Out) → IsOut o x v → IsHalf v.ahead u
    by_out Nowhere out = plain out.0.executed
    by_out (Asked m) out = plain out.0.executed
    by_out (Kept m) out = plain out.0.executed
    by_out (Told r) out =
        half_ahead id (driver_state x) v.ahead out.line out.call out.reply es u reached (subst StopsNone out.executed none)
        (subst (λ e. LeadAhead id (driver_state x) e es v.ahead) out.executed leads) is
    by_out Astray out = absurd out

finish_none : (x : Slice) (v : Inner) (s : SessionState) (r : Running) (job : JobParts) (done : DoneParts) → IsSoundSlice x v → x.session ≡ Some s → x.job ≡ Some job → s.running ≡ Some r →
    CameBack job done → (IsTrue done.good → HasPicture done.job) → IsSoundSession (finished_by (Some r) s done) → StopsNone v.executed →
    GoesOnSoundly (done_slice x (finished_by (Some r) s done)) v
finish_none x v s r job done sound is has runs back picture whole none =
    let f : SessionState = finished_by (Some r) s done in
    let same : finished s done ≡ f = ap (λ o. finished_by o s done) runs in
    let slice : IsSlice v.frames s (Some job) (earlier_of x) v.executed (driver_state x) v.ahead =
    subst (λ j. IsSlice v.frames s j (earlier_of x) v.executed (driver_state x) v.ahead) has (subst (λ o. IsSeated o x v) is sound.seated) in
    let by : (t : LocalState) × IsSlice v.frames (finished s done) None (earlier_of x) v.executed (driver_state x) t =
    slice_finishes v.frames s r job done (earlier_of x) v.executed (driver_state x) v.ahead slice none runs back picture (subst IsSoundSession (sym same) whole) in
    let t : LocalState = by.0 in
    let new : IsSlice v.frames f None (earlier_of x) v.executed (driver_state x) t = subst (λ z. IsSlice v.frames z None (earlier_of x) v.executed (driver_state x) t) same by.1 in
    let there : IsReached v.ahead = ahead_reached s.id (driver_state x) v.ahead v.executed (earlier_of x ++ s.unsent) slice.reached slice.leads in
    on_soundly (done_slice x f) v (record v { ahead = t }) refl (done_sound x v s r job done v.before t sound is has back there slice.next.possible (record {
      whole = whole;
      slice = new;
      out = out_done x v x.out f t none refl sound.out;
      alike = ahead_alike s.id f.id (driver_state x) v.ahead t v.executed (earlier_of x ++ s.unsent) (earlier_of x ++ f.unsent) slice.reached none slice.leads new.leads;
      told = told_none v t none;
      told_before = told_none v v.ahead none;
      back = sound.users.back;
      half = half_none x v s.id (earlier_of x ++ s.unsent) x.out slice.reached none sound.out slice.leads;
    }))

-- a stopping call was refused
pub refusal_is : (reply : Reply) → is_refusal reply ≡ true → (errno : Errno) × (reply ≡ Refused errno)
refusal_is (Refused errno) is = (errno, refl)
refusal_is reply is = absurd (false≢true is)

pub take_none : (n : ℕ) → ◌≡◌ {A = List Held} (take n []) []
take_none zero = refl
take_none (suc n) = refl

pub lead_same : (id other : ℕ) (r s t : LocalState) (es fs : List Unsent) → es ≡ fs → LeadAll id r es s → LeadAll other r fs t → s ≡ t
lead_same id other r s t es fs same first second =
    some_same s t s (sym (all_replay id r s es first) ∙ (ap (λ us. replay_from r (flight_of r.model (map (λ (e : Unsent). e.msg) us))) same ∙ all_replay other r t fs second))

pub told_first : (v : Inner) (e : Entry) → v.executed ≡ Some e → stops_queues e ≡ true → told_state v ≡ v.before
told_first v e executed halts = ap (λ o. told_state_if (stops_last o) v) executed ∙ ap (λ b. told_state_if b v) halts

pub id_is : (o : Option ℕ) (n : ℕ) → o ≡ Some n → id_of o ≡ n
id_is o n is = ap id_of is

finish_refused : (x : Slice) (v : Inner) (s : SessionState) (r : Running) (job : JobParts) (done : DoneParts) (m : Returning) (errno : Errno) (told : IsTold x v m) → IsSoundSlice x v → x.session ≡ Some s →
    x.job ≡ Some job → s.running ≡ Some r → CameBack job done → (IsTrue done.good → HasPicture done.job) → IsSoundSession (finished_by (Some r) s done) →
    x.out ≡ Told m → is_stopping told.call ≡ true → told.reply ≡ Refused errno → GoesOnSoundly (done_slice x (finished_by (Some r) s done)) v
finish_refused x v s r job done m errno told sound is has runs back picture whole at halts refused =
    let f : SessionState = finished_by (Some r) s done in
    let same : finished s done ≡ f = ap (λ o. finished_by o s done) runs in
    let state : LocalState = driver_state x in
    let e : Entry = Called told.line told.call (Refused errno) in
    let executed : v.executed ≡ Some e = told.executed ∙ ap (λ q. Some (Called told.line told.call q)) refused in
    let slice : IsSlice v.frames s (Some job) (earlier_of x) v.executed state v.ahead =
    subst (λ j. IsSlice v.frames s j (earlier_of x) v.executed state v.ahead) has (subst (λ o. IsSeated o x v) is sound.seated) in
    let by : (t : LocalState) × IsSlice v.frames (finished s done) None (earlier_of x) (Some e) state t =
    slice_finishes_refused v.frames s r job done (earlier_of x) told.line told.call errno state v.ahead
    (subst (λ q. IsSlice v.frames s (Some job) (earlier_of x) q state v.ahead) executed slice) halts runs back picture (subst IsSoundSession (sym same) whole) in
    let t : LocalState = by.0 in
    let new : IsSlice v.frames f None (earlier_of x) (Some e) state t = subst (λ z. IsSlice v.frames z None (earlier_of x) (Some e) state t) same by.1 in
    let after : LeadWith true f.id state e (earlier_of x ++ f.unsent) t = subst (λ b. LeadWith b f.id state e (earlier_of x ++ f.unsent) t) halts new.leads in
    let b : LocalState = after.0 in
    let before : LeadWith true s.id state e (earlier_of x ++ s.unsent) v.ahead = subst (λ q. LeadWith q s.id state e (earlier_of x ++ s.unsent) v.ahead) halts
    (subst (λ q. LeadAhead s.id state q (earlier_of x ++ s.unsent) v.ahead) executed slice.leads) in
    let t_is : t ≡ b = refused_call b told.line told.call errno t after.2 in
    let ahead_is : v.ahead ≡ before.0 = refused_call before.0 told.line told.call errno v.ahead before.2 in
    let under : under_way x ≡ earlier_of x ++ s.unsent = ap (λ o. earlier_of x ++ unsent_in o) is in
    let first : LeadAll (id_in x) state (under_way x) v.before = subst (λ q. IsBefore q x v.before) halts told.before in
    let before_is : v.before ≡ v.ahead = lead_same (id_in x) s.id state v.before before.0 (under_way x) (earlier_of x ++ s.unsent) under first before.1 ∙ sym ahead_is in
    let there : IsReached before.0 = all_reached s.id state before.0 (earlier_of x ++ s.unsent) slice.reached before.1 in
    let id : id_in x ≡ s.id = id_is (id_ahead x.handle x.out) s.id (subst (λ o. IfSome o (λ z. id_ahead x.handle x.out ≡ Some z.id)) is sound.named) in
    let none : m.held ≡ [] = subst (λ q. ComeWith v.before told.next told.call q m.held) refused told.memories in
    let w : Inner = record v { before = b; ahead = t } in
    let y : Slice = done_slice x f in
    let out : IsTold y w m = record {
      line = told.line;
      call = told.call;
      reply = told.reply;
      next = t;
      underway = told.underway;
      crosses = told.crosses;
      first = told.first;
      executed = told.executed;
      before = subst (λ q. IsBefore q y b) (sym halts) (subst (λ n. LeadAll n state (earlier_of x ++ f.unsent) b) (sym id) after.1);
      is_call = subst (λ q. IsCall b told.line told.call q t) (sym refused) after.2;
      who = told.who;
      bytes = told.bytes;
      small = told.small;
      address = told.address;
      memories = subst (λ q. ComeWith b t told.call q m.held) (sym refused) none;
      quiet = λ stops done. absurd (true≢false (ap is_refusal (sym refused) ∙ done));
    } in
    on_soundly y v w refl (done_sound x v s r job done b t sound is has back (subst IsReached (sym ahead_is) there) slice.next.possible (record {
      whole = whole;
      slice = subst (λ q. IsSlice v.frames f None (earlier_of x) q state t) (sym executed) new;
      out = subst (λ o. IsOut o y w) (sym at) out;
      alike = alike_then v.ahead state t (alike_back state v.ahead (subst (IsAlike state) (sym ahead_is) (lead_alike s.id state before.0 (earlier_of x ++ s.unsent) slice.reached before.1)))
          (subst (IsAlike state) (sym t_is) (lead_alike f.id state b (earlier_of x ++ f.unsent) slice.reached after.1));
      told = told_first w e executed halts ∙ sym t_is;
      told_before = told_first v e executed halts ∙ before_is;
      back = λ n told_at. subst (AreUsers b) (sym (ap (λ hs. take (stopped_many b v.executed) hs) (held_of m n at told_at none) ∙ take_none (stopped_many b v.executed))) (All-nil _);
      half = λ u stopped. subst (λ z. IsHalf z u) (sym ahead_is) (half_lead s.id state before.0 (earlier_of x ++ s.unsent) u slice.reached before.1 (half_of state u stopped));
    }))
  where
    held_of : (m n : Returning) → x.out ≡ Told m → x.out ≡ Told n → m.held ≡ [] → n.held ≡ []
    held_of m n at told_at none = subst (λ (k : Returning). k.held ≡ []) (same_reply m n (sym at ∙ told_at)) none
      where
        same_reply : (m n : Returning) → Told m ≡ Told n → m ≡ n
        same_reply m n is = cc

-- whatever is out
finish_out : (x : Slice) (v : Inner) (s : SessionState) (r : Running) (job : JobParts) (done : DoneParts) (o : Out) → x.out ≡ o → IsOut o x v → IsSoundSlice x v → x.session ≡ Some s → x.job ≡ Some job →
    s.running ≡ Some r → CameBack job done → (IsTrue done.good → HasPicture done.job) → IsSoundSession (finished_by (Some r) s done) →
    GoesOnSoundly (done_slice x (finished_by (Some r) s done)) v
finish_out x v s r job done Nowhere at out sound is has runs back picture whole =
    finish_none x v s r job done sound is has runs back picture whole (subst StopsNone (sym out.0.executed) tt)
finish_out x v s r job done (Asked m) at out sound is has runs back picture whole =
    finish_none x v s r job done sound is has runs back picture whole (subst StopsNone (sym out.0.executed) tt)
finish_out x v s r job done (Kept m) at out sound is has runs back picture whole =
    finish_none x v s r job done sound is has runs back picture whole (subst StopsNone (sym out.0.executed) tt)
finish_out x v s r job done (Told m) at out sound is has runs back picture whole = by_stop (is_stopping out.call) (is_refusal out.reply) refl refl
  where
    by_stop : (halts refused : Bool) → is_stopping out.call ≡ halts → is_refusal out.reply ≡ refused → GoesOnSoundly (done_slice x (finished_by (Some r) s done)) v
    by_stop false refused never any = finish_none x v s r job done sound is has runs back picture whole (subst StopsNone (sym out.executed) never)
    by_stop true true halts refused =
        let by : (errno : Errno) × (out.reply ≡ Refused errno) = refusal_is out.reply refused in
        finish_refused x v s r job done m by.0 out sound is has runs back picture whole at halts by.1
    by_stop true false halts done = absurd (none-some job (sym (out.quiet halts done).1 ∙ has))
finish_out x v s r job done Astray at out sound is has runs back picture whole = absurd out

pub finish_keeps : (x x' : Slice) (v : Inner) → IsSoundSlice x v → Finishes x x' → IsWholeSlice x' → GoesOnSoundly x' v
finish_keeps x x' v sound (s, job, done, is, has, back, picture, after) whole =
    let by : (r : Running) × (s.running ≡ Some r) = running_is s.running job.spec (ap spec_running (sym is) ∙ (sound.runs ∙ ap (λ o. option_map (λ (j : JobParts). j.spec) o) has)) in
    let same : finished s done ≡ finished_by (Some by.0) s done = ap (λ o. finished_by o s done) by.1 in
    let own : IsSoundSession (finished_by (Some by.0) s done) = subst IsSoundSession same (subst IsWholeSlice after whole).session in
    subst (λ z. GoesOnSoundly z v) (sym (after ∙ ap (λ f. done_slice x f) same)) (finish_out x v s by.0 job done x.out refl sound.out sound is has by.1 back picture own)
