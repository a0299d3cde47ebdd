-- A job that came back: its messages lead to the state behind the frame, and the session stands for that.
use Rattle.std.proofs.Common.{◌≡◌, inl, inr, ℕ, ◌<◌, ◌≤◌, Bool, true, false, List, [], ◌∷◌, ◌++◌, length, get_or, map, drop, Option, Some, None, unwrap_or, refl, sym, ap, ◌∙◌, subst, arith, get_or-set_same, if◌then◌else◌}
use Rattle.std.specs.Prelude.{IfSome, IsTrue}
use Rattle.std.specs.Option.{option_and_then}
use Rattle.std.proofs.lemmas.Bool.{cases_eq, cases_Bool, ltb-true, ltb-false}
use Rattle.std.proofs.lemmas.List.{length-map, get_or-map, get_or_past}
use Rattle.v4l_const.specs.Model.{queues as types_of, picture_queue}
use Rattle.v4l_format.specs.Fmt.{picture_size}
use Rattle.v4l_layout.specs.declared.buffer_rec.BufferRec.{BufferRec}
use Rattle.v4l_rules.specs.Queues.{place_in, has_type}
use Rattle.vm_frame.specs.Mem.{mem_bytes}
use Rattle.vm_frame.specs.declared.mem.Held.{Held}
use Rattle.vm_job.specs.Job.{JobParts, DoneParts, HasPicture, CameBack}
use Rattle.vm_queue.specs.declared.queued.Queued.{Queued}
use Rattle.vm_local.specs.declared.buffer.BufferState.TheVariants.{Queued as AsQueued}
use Rattle.vm_local.specs.declared.entry.Entry.TheVariants.{Finish, Bad}
use Rattle.vm_local.specs.declared.owed.Owed.{Owed as OwedEntry}
use Rattle.vm_local.specs.State.{LocalState, opening_queue, queue_of}
use Rattle.vm_local.specs.Kinds.{is_idle}
use Rattle.vm_local.specs.Memory.{bytes_of}
use Rattle.vm_local.specs.Queue.{can_finish}
use Rattle.vm_local.specs.Listed.{IsThere}
use Rattle.vm_local.specs.Live.{is_of_device}
use Rattle.vm_local.specs.Steps.{head, head_buffer, number_of, target, next_timestamp, next_picture, sync_of, buffers_taken, finished as frame_finished, marked_bad}
use Rattle.vm_local.specs.Log.{after, replay_from}
use Rattle.vm_local.proofs.StepLemmas.{frame_made, frame_failed}
use Rattle.vm_commute.proofs.KeptLemmas.{outline_kept}
use Rattle.vm_commute.proofs.OutlineLemmas.{outline}
use Rattle.vm_commute.proofs.ReachedLemmas.{many_queues, front_there, reached_after}
use Rattle.vm_home.specs.Moves.{memory_at}
use Rattle.vm_home.specs.Reached.{IsReached}
use Rattle.vm_home.proofs.PlaceLemmas.{HasAt}
use Rattle.vm_home.proofs.FactLemmas.{Facts, facts_of}
use Rattle.vm_home.proofs.OwnLemmas.{number_made}
use Rattle.vm_session.specs.declared.running.Running.{Running}
use Rattle.vm_session.specs.State.{SessionQueue, SessionState, opening_queue as session_opening, queue_of as session_queue, pictures}
use Rattle.vm_session.specs.Sound.{IsSound, taken_by}
use Rattle.vm_session.specs.Streaming.{counted, dst_event, events_of, finished_by, finished}
use Rattle.vm_stands.specs.Stands.{of_type, IsMemoryAt, StandsOn, Stands, IsNext}
use Rattle.vm_stands.specs.Flight.{GivesBuffer, LeadAll}
use Rattle.vm_stands.proofs.SeenLemmas.{seen_stands}
use Rattle.vm_stands.proofs.LeadLemmas.{Given}
use Rattle.vm_stands.proofs.NextLemmas.{format_is}
use Rattle.vm_stands.proofs.FrameLemmas.{frame_queue, After, after_made, after_failed}
use Rattle.vm_stands.proofs.TookLemmas.{OneEach, one_of, IsTaken, taken_is}
use Rattle.vm_stands.proofs.DoneLemmas.{device_after, target_there, numbers_after, done_on, bare_on}
use Rattle.vm_stands.proofs.ReturnLemmas.{IsStamped, returned_gives, step_by, dst_held, picture_bytes}

-- ---- the state behind the frame

abbrev pub frame_by : Bool → LocalState → LocalState
frame_by true s = frame_made s
frame_by false s = frame_failed s

abbrev pub used_by : Bool → LocalState → ℕ
used_by good s = if good then picture_size (target s).format else 0

abbrev pub owed_by : Bool → LocalState → List OwedEntry
owed_by true s = sync_of s ++ buffers_taken s
owed_by false s = buffers_taken s

pub record Framed (s : LocalState) (good : Bool) : Type 0 where
  pub step : replay_from s (step_by good ∷ []) ≡ Some (frame_by good s)
  pub reached : IsReached (frame_by good s)
  pub after : After s (frame_by good s) good (used_by good s) (owed_by good s)
  pub device : (m : ℕ) → is_of_device (frame_by good s) m ≡ is_of_device s m
  pub drawn : outline (frame_by good s) ≡ outline s

pub finish_step : (s : LocalState) → can_finish s ≡ true → after s Finish ≡ Some (frame_made s)
unfolding frame_finished
finish_step s ready = ap (λ b. if b then Some (frame_made s) else None) ready

pub bad_step : (s : LocalState) → can_finish s ≡ true → after s Bad ≡ Some (frame_failed s)
unfolding marked_bad
bad_step s ready = ap (λ b. if b then Some (frame_failed s) else None) ready

pub framed : (s : LocalState) (good : Bool) → IsReached s → can_finish s ≡ true → Framed s good
framed s true reached ready = record {
  step = ap (λ o. option_and_then (λ (t : LocalState). Some t) o) (finish_step s ready);
  reached = reached_after s (frame_made s) Finish reached (finish_step s ready);
  after = after_made s reached ready;
  device = device_after s (frame_made s) (outline_kept s (frame_made s) Finish refl reached (finish_step s ready));
  drawn = outline_kept s (frame_made s) Finish refl reached (finish_step s ready);
}
framed s false reached ready = record {
  step = ap (λ o. option_and_then (λ (t : LocalState). Some t) o) (bad_step s ready);
  reached = reached_after s (frame_failed s) Bad reached (bad_step s ready);
  after = after_failed s reached ready;
  device = device_after s (frame_failed s) (outline_kept s (frame_failed s) Bad refl reached (bad_step s ready));
  drawn = outline_kept s (frame_failed s) Bad refl reached (bad_step s ready);
}

-- ---- the session

abbrev pub done_by : Running → SessionState → DoneParts → SessionState
done_by r session done = finished_by (Some r) session done

queue_behind : (s t : LocalState) (u n : ℕ) (good : Bool) (entries : List OwedEntry) → After s t good n entries → has_type s.model u ≡ true →
    (k : ℕ) × (queue_of t u ≡ frame_queue good (next_timestamp s) k (queue_of s u))
queue_behind s t u n good entries a has =
    let c : ℕ = picture_queue s.model in
    let k : ℕ = place_in (types_of s.model) u in
    let p : ℕ = place_in (types_of s.model) c in
    elim (cases_eq k p) as (λ _. (k : ℕ) × (queue_of t u ≡ frame_queue good (next_timestamp s) k (queue_of s u))) [
      | inl same ↦ (
        n,
        ap (λ m. get_or t.queues (place_in (types_of m) u) opening_queue) a.model
            ∙ (ap (λ j. get_or t.queues j opening_queue) same
            ∙ (ap (λ m. get_or t.queues (place_in (types_of m) c) opening_queue) (sym a.model)
            ∙ (a.picture ∙ ap (λ j. frame_queue good (next_timestamp s) n (get_or s.queues j opening_queue)) (sym same)))),
      )
      | inr apart ↦ ((head_buffer (queue_of s u)).used, a.other u has apart)
    ]

pub first_there : (s : LocalState) (u : ℕ) → IsReached s → can_finish s ≡ true → has_type s.model u ≡ true → IsThere AsQueued (queue_of s u) (head (queue_of s u))
first_there s u reached ready has =
    let k : ℕ = place_in (types_of s.model) u in
    front_there s reached ready k opening_queue (omega (arith, ltb-true k (length (types_of s.model)) has, many_queues s reached))

done_queue : (frames : List ℕ) (session : SessionState) (s t : LocalState) (r : Running) (done : DoneParts) (good : Bool) (n : ℕ) (entries : List OwedEntry) (u : ℕ) →
    Stands frames session s → IsSound session → IsReached s → session.running ≡ Some r → OneEach s.model (taken_by (Some r)) → can_finish s ≡ true →
    After s t good n entries → ((m : ℕ) → is_of_device t m ≡ is_of_device s m) → StandsOn frames (done_by r session done) t u
done_queue frames session s t r done good n entries u stands sound reached running took ready a device =
    let x : SessionState = done_by r session done in
    let k : ℕ = place_in (types_of session.model) u in
    let type : has_type session.model u ≡ has_type s.model u = ap (λ m. has_type m u) stands.model in
    elim (cases_Bool (has_type session.model u)) as (λ _. StandsOn frames x t u) [
      | inl has ↦
          let there : has_type s.model u ≡ true = sym type ∙ has in
          let w : (b : BufferRec) × (of_type u (taken_by (Some r)) ≡ b ∷ []) = one_of s.model (taken_by (Some r)) u took there in
          let taken : IsTaken session s u w.0 = taken_is frames session s u w.0 reached (stands.each u) (ap (λ o. of_type u (taken_by o)) running ∙ w.1) in
          let behind : (k : ℕ) × (queue_of t u ≡ frame_queue good (next_timestamp s) k (queue_of s u)) = queue_behind s t u n good entries a there in
          let within : k < length session.queues = omega (arith, ltb-true k (length (types_of session.model)) has, sound.queues) in
          done_on frames session x s t u n good entries w.0 reached ready (stands.each u) taken a device
          (get_or-map counted session.queues k session_opening session_opening within) refl behind.0 behind.1 (first_there s u reached ready there)
      | inr hasnt ↦
          let past : length session.queues ≤ k = omega (arith, ltb-false k (length (types_of session.model)) hasnt, sound.queues) in
          let here : session_queue x u ≡ session_opening =
          get_or_past (map counted session.queues) k session_opening (omega (arith, past, length-map session.queues counted)) in
          bare_on frames x t u (ap (λ (y : SessionQueue). map (λ (b : Queued). b.buffer) y.queued) here) here (a.none u (sym type ∙ hasnt))
    ]

pub done_stands : (frames : List ℕ) (session : SessionState) (s t : LocalState) (r : Running) (done : DoneParts) (good : Bool) (n : ℕ) (entries : List OwedEntry) →
    Stands frames session s → IsSound session → IsReached s → session.running ≡ Some r → OneEach s.model (taken_by (Some r)) → can_finish s ≡ true →
    After s t good n entries → ((m : ℕ) → is_of_device t m ≡ is_of_device s m) → Stands frames (done_by r session done) t
done_stands frames session s t r done good n entries stands sound reached running took ready a device = record {
  opened = a.opened ∙ stands.opened;
  model = stands.model ∙ sym a.model;
  input = stands.input ∙ sym a.input;
  count = length-map session.queues counted ∙ (stands.count ∙ sym a.count);
  made = stands.made;
  took = tt;
  each = λ u. done_queue frames session s t r done good n entries u stands sound reached running took ready a device;
}

-- ---- the job

-- what is known of a job that came back
pub record Finishing (frames : List ℕ) (session : SessionState) (s : LocalState) (r : Running) (job : JobParts) (done : DoneParts) : Type 0 where
  pub stands : Stands frames session s
  pub sound : IsSound session
  pub reached : IsReached s
  pub owed : s.owed ≡ []
  pub running : session.running ≡ Some r
  pub next : IsNext s job
  pub back : CameBack job done
  pub picture : IsTrue done.good → HasPicture done.job

abbrev pub Ends : List ℕ → SessionState → LocalState → Running → DoneParts → Type 0
Ends frames session s r done =
    (t : LocalState) × LeadAll session.id s (events_of session r done) t × Stands frames (finished session done) t × (t.owed ≡ [])

pub took_each : (frames : List ℕ) (session : SessionState) (s : LocalState) (r : Running) (job : JobParts) (done : DoneParts) → Finishing frames session s r job done →
    OneEach s.model (taken_by (Some r))
took_each frames session s r job done h =
    let P : Option Running → Type 0 = λ o. IfSome o (λ x. map (λ (b : BufferRec). b.kind) (taken_by (Some x)) ≡ types_of s.model) in
    subst P h.running h.stands.took

pub ends_by : (frames : List ℕ) (session : SessionState) (s : LocalState) (r : Running) (job : JobParts) (done : DoneParts) → Finishing frames session s r job done →
    Framed s done.good → Given session.id s (frame_by done.good s) (events_of session r done) → Ends frames session s r done
ends_by frames session s r job done h f g =
    let x : SessionState = done_by r session done in
    let t : LocalState = frame_by done.good s in
    let here : Stands frames x t = done_stands frames session s t r done done.good (used_by done.good s) (owed_by done.good s) h.stands h.sound h.reached h.running
    (took_each frames session s r job done h) h.next.possible f.after f.device in
    let there : Stands frames x g.last = seen_stands frames x t g.last g.same here in
    (g.last, g.leads, subst (λ y. Stands frames y g.last) (ap (λ o. finished_by o session done) (sym h.running)) there, g.owed)

-- ---- the buffer of the picture

bytes_behind : (s : LocalState) (job : JobParts) (done : DoneParts) (good : Bool) → done.good ≡ good → IsReached s → IsNext s job → CameBack job done →
    (IsTrue done.good → HasPicture done.job) → mem_bytes done.job.dst.mem ≡ bytes_of (frame_by good s) (number_of (head_buffer (target s)))
bytes_behind s job done true is reached next back has =
    let m : ℕ = number_of (head_buffer (target s)) in
    let p : ℕ = place_in (types_of s.model) (picture_queue s.model) in
    let f : Facts s = facts_of s reached in
    let mine : (k : ℕ) × HasAt s.queues p (head (target s)) k = f.owns.has p (head (target s)) (ap is_idle (target_there s reached next.possible).1) in
    let number : m ≡ mine.0 = ap (λ o. unwrap_or o 0) mine.1 in
    let made : mine.0 < length s.memories = number_made s f.sound p (head (target s)) mine.0 mine.1 in
    let picture : List ℕ = next_picture s ++ drop (picture_size (target s).format) (bytes_of s m) in
    picture_bytes s job done next back (has is) ∙ sym (get_or-set_same s.memories m picture [] (omega (arith, made, number)))
bytes_behind s job done false is reached next back has = ap (λ (h : Held). mem_bytes h.mem) (back.bad is) ∙ next.dst.memory.bytes

-- its message, where it is the one that the job took for its picture
pub dst_gives : (frames : List ℕ) (session : SessionState) (s : LocalState) (r : Running) (job : JobParts) (done : DoneParts) → Finishing frames session s r job done →
    Framed s done.good → IsTaken session s (picture_queue s.model) r.dst → IsStamped session s r →
    GivesBuffer session.id (frame_by done.good s) (picture_queue s.model) (head (target s)) (dst_event session r done)
dst_gives frames session s r job done h f took stamped =
    let t : LocalState = frame_by done.good s in
    let c : ℕ = picture_queue s.model in
    let n : ℕ = used_by done.good s in
    let there : IsThere AsQueued (target s) (head (target s)) = target_there s h.reached h.next.possible in
    let used : (if done.good then picture_size (pictures session).format else 0) ≡ n =
    ap (λ x. if done.good then picture_size x else 0) (format_is frames session s h.stands) in
    let number : memory_at t c (head (target s)) ≡ number_of (head_buffer (target s)) =
    ap (λ o. unwrap_or o 0) (numbers_after s t c n done.good f.after.picture (head (target s))) in
    let held : IsMemoryAt t c (head (target s)) done.job.dst =
    dst_held s t (picture_size job.spec.dst) job.dst done.job.dst h.next.dst h.back.dst
    (bytes_behind s job done done.good refl h.reached h.next h.back h.picture) number f.device in
    returned_gives frames session s t c n (if done.good then picture_size (pictures session).format else 0) done.good r.dst r (Some done.job.dst)
    (h.stands.model ∙ sym f.after.model) (h.stands.each c) took f.after.picture there used stamped held
