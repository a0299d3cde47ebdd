-- A session stays sound as a job begins and comes back, and as its events are sent.
use Rattle.std.proofs.Common.{◌≡◌, ℕ, zero, suc, ◌+◌, ◌≤◌, ◌==◌, ◌&&◌, ◌++◌, Bool, true, false, nat_lt, not, if◌then◌else◌, List, [], ◌∷◌, length, map, take, drop, get_or, Option, Some, None, is_some, refl, sym, ap, ◌∙◌, subst, arith}
use Rattle.std.specs.Prelude.{IfSome, All}
use Rattle.std.specs.List.{list_all}
use Rattle.std.specs.Option.{option_map, option_and_then, option_to_list}
use Rattle.std.proofs.lemmas.Bool.Decides.{nat_tests}
use Rattle.std.proofs.lemmas.List.{length-map}
use Rattle.std.proofs.lemmas.List.Elements.{All-nil, All-cons, All-head, All-tail, All-append}
use Rattle.v4l_const.specs.declared.model.Model.{Model}
use Rattle.v4l_const.specs.declared.model.Model.TheVariants.{Capture, Convert}
use Rattle.v4l_const.specs.Model.{queues as types_of, source_queue, picture_queue, has_events}
use Rattle.v4l_format.specs.Fmt.{picture_size}
use Rattle.v4l_layout.specs.declared.buffer_rec.BufferRec.{BufferRec}
use Rattle.v4l_rules.specs.Queues.{place_in, queue_at}
use Rattle.vm_job.specs.declared.spec.JobSpec.{JobSpec}
use Rattle.vm_job.specs.Job.{DoneParts}
use Rattle.vm_mem.specs.Lists.{first_of}
use Rattle.vm_queue.specs.declared.queued.Queued.{Queued}
use Rattle.vm_wire.specs.Buffers.{dequeued_buffer, frame_event}
use Rattle.vm_wire.specs.declared.buffers.PictureNote.{PictureNote}
use Rattle.vm_wire.specs.declared.event.EventMsg.TheVariants.{Happened}
use Rattle.vm_session.specs.declared.running.Running.{Running}
use Rattle.vm_session.specs.declared.unsent.Unsent.{Unsent}
use Rattle.vm_session.specs.Sound.{IsSound, IsSoundAt, SameSize, indices_of, returning, taken_by, gives_back, ArePaired}
use Rattle.vm_session.specs.State.{SessionQueue, SessionState, opening_queue, queue_kind, queue_of, pictures}
use Rattle.vm_session.specs.Streaming.{is_ready, can_begin, headless, begun, counted, running_with, next_spec, next_src, next_dst, returned, frame_time, note_of, sync_events, dst_event, events_of, finished_by}
use Rattle.vm_session.proofs.OutLemmas.{indices_append, index_cons, one_index, returning_append, paired_append, few_unsent}

-- ---- all queues changed at once

-- what of each queue is as it was where each is changed into one that has the same of it
pub map_keeps : {A : Type 0} (part : SessionQueue → A) (g : SessionQueue → SessionQueue) → ((q : SessionQueue) → part (g q) ≡ part q)
    → (qs : List SessionQueue) (i : ℕ) → part (get_or (map g qs) i opening_queue) ≡ part (get_or qs i opening_queue)
map_keeps part g same [] i = refl
map_keeps part g same (q ∷ qs) zero = same q
map_keeps part g same (q ∷ qs) (suc i) = map_keeps part g same qs i

pub map_at : (g : SessionQueue → SessionQueue) → opening_queue ≡ g opening_queue → (qs : List SessionQueue) (i : ℕ)
    → get_or (map g qs) i opening_queue ≡ g (get_or qs i opening_queue)
map_at g same [] i = same
map_at g same (q ∷ qs) zero = refl
map_at g same (q ∷ qs) (suc i) = map_at g same qs i

pub size_kept : (s s' : SessionState) → ((u : ℕ) → (queue_of s' u).format ≡ (queue_of s u).format) → (t : ℕ) (o : Option ℕ)
    → IfSome o (λ u. SameSize (queue_of s u).format (queue_of s t).format) → IfSome o (λ u. SameSize (queue_of s' u).format (queue_of s' t).format)
size_kept s s' same t None h = tt
size_kept s s' same t (Some u) h = rw (same u, same t) h

-- ---- a job begins

-- the records of the buffers that leave a queue
abbrev heads_of : List Queued → List BufferRec
heads_of bs = map (λ (b : Queued). b.buffer) (take 1 bs)

abbrev first_indices : List Queued → List ℕ
first_indices bs = map (λ (b : Queued). b.buffer.index) (take 1 bs)

chosen : (e : Bool) (n : ℕ) → (if e then n ∷ [] else []) ≡ (if e then n ∷ [] else [])
chosen e n = refl

append_none : (xs : List BufferRec) → xs ++ [] ≡ xs
append_none [] = refl
append_none (x ∷ xs) = ap (λ ys. x ∷ ys) (append_none xs)

head_indices : (t u : ℕ) (bs : List Queued) (e : Bool) → (u == t) ≡ e → All (λ (b : Queued). b.buffer.kind ≡ u) bs
    → indices_of t (heads_of bs) ≡ (if e then first_indices bs else [])
head_indices t u [] true is kinds = refl
head_indices t u [] false is kinds = refl
head_indices t u (b ∷ bs) e is kinds =
    let kind = All-head (λ (b : Queued). b.buffer.kind ≡ u) b bs kinds in
    one_index t b.buffer e (ap (λ n. n == t) kind ∙ is) ∙ chosen e b.buffer.index

-- the indices of the buffers that leave the queue of a type, among those of all queues
capture_heads : (q : SessionQueue) (t : ℕ) (e : Bool) → (1 == t) ≡ e → All (λ (b : Queued). b.buffer.kind ≡ 1) q.queued
    → first_indices (get_or (q ∷ []) (if e then 0 else 0 + 1) opening_queue).queued ≡ indices_of t (heads_of q.queued)
capture_heads q t true is kinds = sym (head_indices t 1 q.queued true is kinds)
capture_heads q t false is kinds = sym (head_indices t 1 q.queued false is kinds)

append_nil : (xs : List ℕ) → xs ++ [] ≡ xs
append_nil [] = refl
append_nil (x ∷ xs) = ap (λ ys. x ∷ ys) (append_nil xs)

convert_heads : (o c : SessionQueue) (t : ℕ) (e f : Bool) → (2 == t) ≡ e → (1 == t) ≡ f
    → All (λ (b : Queued). b.buffer.kind ≡ 2) o.queued → All (λ (b : Queued). b.buffer.kind ≡ 1) c.queued
    → first_indices (get_or (o ∷ c ∷ []) (if e then 0 else (if f then 0 else 0 + 1) + 1) opening_queue).queued ≡ indices_of t (heads_of o.queued ++ heads_of c.queued)
convert_heads o c t true true is is' kinds kinds' = absurd (grind (arith, nat_tests, is, is'))
convert_heads o c t true false is is' kinds kinds' =
    sym (indices_append t (heads_of o.queued) (heads_of c.queued) ∙ rw (head_indices t 2 o.queued true is kinds, head_indices t 1 c.queued false is' kinds') (append_nil _))
convert_heads o c t false true is is' kinds kinds' =
    sym (indices_append t (heads_of o.queued) (heads_of c.queued) ∙ rw (head_indices t 2 o.queued false is kinds, head_indices t 1 c.queued true is' kinds') refl)
convert_heads o c t false false is is' kinds kinds' =
    sym (indices_append t (heads_of o.queued) (heads_of c.queued) ∙ rw (head_indices t 2 o.queued false is kinds, head_indices t 1 c.queued false is' kinds') refl)

-- what a job takes is what leaves the queues
capture_taken : (spec : JobSpec) (bs : List Queued) → nat_lt 0 (length bs) ≡ true → taken_by (option_map (running_with spec None) (first_of bs)) ≡ heads_of bs
capture_taken spec [] some = cc
capture_taken spec (b ∷ bs) some = refl

convert_taken : (spec : JobSpec) (xs ys : List Queued) → nat_lt 0 (length xs) ≡ true → nat_lt 0 (length ys) ≡ true
    → taken_by (option_map (running_with spec (first_of xs)) (first_of ys)) ≡ heads_of xs ++ heads_of ys
convert_taken spec [] ys some other = cc
convert_taken spec (x ∷ xs) [] some other = cc
convert_taken spec (x ∷ xs) (y ∷ ys) some other = refl

both_are : (a b c : Bool) → ((a && b) && c) ≡ true → (b ≡ true) × (c ≡ true)
both_are true true true h = (refl, refl)
both_are true true false h = cc
both_are true false c h = cc
both_are false b c h = cc

pub head_of : List SessionQueue → Model → ℕ → Option Queued
head_of qs m t = first_of (queue_at queue_kind m qs t).queued

begun_out : (m : Model) (qs : List SessionQueue) (spec : JobSpec) (t : ℕ) → length qs ≡ length (types_of m) → list_all is_ready qs ≡ true
    → ((u : ℕ) → All (λ (b : Queued). b.buffer.kind ≡ u) (queue_at queue_kind m qs u).queued)
    → first_indices (queue_at queue_kind m qs t).queued
    ≡ indices_of t (taken_by (option_map (running_with spec (option_and_then (λ u. first_of (queue_at queue_kind m qs u).queued) (source_queue m))) (first_of (queue_at queue_kind m qs (picture_queue m)).queued)))
begun_out Capture (q ∷ []) spec t is ready kinds =
    let some = both_are q.streaming (nat_lt 0 (length q.queued)) true ready in
    capture_heads q t (1 == t) refl (kinds 1) ∙ ap (λ bs. indices_of t bs) (sym (capture_taken spec q.queued some.0))
begun_out Convert (o ∷ c ∷ []) spec t is ready kinds =
    let some = both_are o.streaming (nat_lt 0 (length o.queued)) (is_ready c && true) ready in
    let more = both_are c.streaming (nat_lt 0 (length c.queued)) true some.1 in
    convert_heads o c t (2 == t) (1 == t) refl refl (kinds 2) (kinds 1) ∙ ap (λ bs. indices_of t bs) (sym (convert_taken spec o.queued c.queued some.0 more.0))
begun_out Capture [] spec t is ready kinds = absurd (omega (arith, is))
begun_out Capture (q ∷ r ∷ qs) spec t is ready kinds = absurd (omega (arith, is))
begun_out Convert [] spec t is ready kinds = absurd (omega (arith, is))
begun_out Convert (q ∷ []) spec t is ready kinds = absurd (omega (arith, is))
begun_out Convert (o ∷ c ∷ q ∷ qs) spec t is ready kinds = absurd (omega (arith, is))

kinds_behind : (t : ℕ) (bs : List Queued) → All (λ (b : Queued). b.buffer.kind ≡ t) bs → All (λ (b : Queued). b.buffer.kind ≡ t) (drop 1 bs)
kinds_behind t [] kinds = kinds
kinds_behind t (b ∷ bs) kinds = All-tail (λ (b : Queued). b.buffer.kind ≡ t) b bs kinds

begun_at : (s : SessionState) (number t : ℕ) → s.running ≡ None → list_all is_ready s.queues ≡ true → IsSound s → IsSoundAt (begun s number) t
begun_at s number t idle ready sound =
    let here = map_at headless refl s.queues (place_in (types_of s.model) t) in
    let before : (queue_of s t).out ≡ indices_of t (returning s.unsent ++ []) = (sound.each t).out ∙ ap (λ r. indices_of t (returning s.unsent ++ taken_by r)) idle in
    let taken = begun_out s.model s.queues (next_spec s number) t sound.queues ready (λ u. (sound.each u).kinds) in
    record {
      out =
          ap (λ (q : SessionQueue). q.out) here
          ∙ ap (λ xs. xs ++ first_indices (queue_of s t).queued) (before ∙ indices_append t (returning s.unsent) [] ∙ append_nil _)
          ∙ ap (λ xs. indices_of t (returning s.unsent) ++ xs) taken
          ∙ sym (indices_append t (returning s.unsent) (taken_by (begun s number).running));
      kinds = subst (λ (q : SessionQueue). All (λ (b : Queued). b.buffer.kind ≡ t) q.queued) (sym here) (kinds_behind t (queue_of s t).queued (sound.each t).kinds);
    }

pub begun_sound : (s : SessionState) (number : ℕ) → s.running ≡ None → list_all is_ready s.queues ≡ true → IsSound s → IsSound (begun s number)
begun_sound s number idle ready sound =
    let format : (u : ℕ) → (queue_of (begun s number) u).format ≡ (queue_of s u).format = λ u. map_keeps (λ (q : SessionQueue). q.format) headless (λ q. refl) s.queues (place_in (types_of s.model) u) in
    record {
      queues = length-map s.queues headless ∙ sound.queues;
      input = sound.input;
      size = size_kept s (begun s number) format (picture_queue s.model) (source_queue s.model) sound.size;
      each = λ t. begun_at s number t idle ready sound;
      paired = sound.paired;
      eventless = sound.eventless;
      few = sound.few;
    }

-- ---- a job comes back

-- the record that goes back has the type and the index of the one that was queued
told_alike : (m : Model) (b : BufferRec) (note : PictureNote) → ((dequeued_buffer m b note).kind ≡ b.kind) × ((dequeued_buffer m b note).index ≡ b.index)
unfolding dequeued_buffer
told_alike m b note = (refl, refl)

same_cons : (t : ℕ) (b c : BufferRec) (bs cs : List BufferRec) → c.kind ≡ b.kind → c.index ≡ b.index → indices_of t cs ≡ indices_of t bs
    → indices_of t (c ∷ cs) ≡ indices_of t (b ∷ bs)
same_cons t b c bs cs kind index rest =
    index_cons t c cs (b.kind == t) (ap (λ n. n == t) kind)
    ∙ rw (index, rest) (sym (index_cons t b bs (b.kind == t) refl))

-- the events of a job, by whether the frame is told of and which buffer was read
module _ (s : SessionState) (r : Running) (done : DoneParts) where
  abbrev events_by : Bool → Option BufferRec → List Unsent
  events_by tells src =
      (if tells then record { msg = Happened s.id (frame_event (pictures s).sequence (frame_time (pictures s).sequence)); held = None } ∷ [] else [])
      ++ (option_to_list (option_map (λ b. returned s r done.good b b.bytesused done.job.src) src) ++ dst_event s r done ∷ [])

  events_paired : (tells : Bool) (src : Option BufferRec) → ArePaired (events_by tells src)
  events_paired true None = (refl, (refl, tt))
  events_paired true (Some b) = (refl, (refl, (refl, tt)))
  events_paired false None = (refl, tt)
  events_paired false (Some b) = (refl, (refl, tt))

  pub job_paired : ArePaired (events_of s r done)
  job_paired = events_paired (has_events s.model && done.good) r.src

  last_gives : All (λ (e : Unsent). gives_back e ≡ true) (dst_event s r done ∷ [])
  last_gives = All-cons (λ (e : Unsent). gives_back e ≡ true) (dst_event s r done) [] refl (All-nil (λ (e : Unsent). gives_back e ≡ true))

  events_give : (tells : Bool) (src : Option BufferRec) → tells ≡ false → All (λ (e : Unsent). gives_back e ≡ true) (events_by tells src)
  events_give true src silent = cc
  events_give false None silent = last_gives
  events_give false (Some b) silent =
      All-cons (λ (e : Unsent). gives_back e ≡ true) (returned s r done.good b b.bytesused done.job.src) (dst_event s r done ∷ []) refl last_gives

  pub job_gives : has_events s.model ≡ false → All (λ (e : Unsent). gives_back e ≡ true) (events_of s r done)
  job_gives silent = events_give (has_events s.model && done.good) r.src (rw silent refl)

  -- the buffers that come back are those that were taken
  abbrev told : BufferRec → ℕ → BufferRec
  told b n = dequeued_buffer s.model b (note_of s r done.good b n)

  abbrev in_use : ℕ
  in_use = if done.good then picture_size (pictures s).format else 0

  last_returns : (t : ℕ) → indices_of t (told r.dst in_use ∷ []) ≡ indices_of t (r.dst ∷ [])
  last_returns t =
      let same = told_alike s.model r.dst (note_of s r done.good r.dst in_use) in
      same_cons t r.dst (told r.dst in_use) [] [] same.0 same.1 refl

  both_return : (t : ℕ) (b : BufferRec) → indices_of t (told b b.bytesused ∷ told r.dst in_use ∷ []) ≡ indices_of t (b ∷ r.dst ∷ [])
  both_return t b =
      let same = told_alike s.model b (note_of s r done.good b b.bytesused) in
      same_cons t b (told b b.bytesused) (r.dst ∷ []) (told r.dst in_use ∷ []) same.0 same.1 (last_returns t)

  events_return : (t : ℕ) (tells : Bool) (src : Option BufferRec)
      → indices_of t (returning (events_by tells src)) ≡ indices_of t (option_to_list src ++ r.dst ∷ [])
  events_return t true None = last_returns t
  events_return t true (Some b) = both_return t b
  events_return t false None = last_returns t
  events_return t false (Some b) = both_return t b

  pub job_returns : (t : ℕ) → indices_of t (returning (events_of s r done)) ≡ indices_of t (taken_by (Some r))
  job_returns t = events_return t (has_events s.model && done.good) r.src

  pub finished_at : s.running ≡ Some r → IsSound s → (t : ℕ) → IsSoundAt (finished_by (Some r) s done) t
  finished_at runs sound t =
      let place = place_in (types_of s.model) t in
      let out = map_keeps (λ (q : SessionQueue). q.out) counted (λ q. refl) s.queues place in
      let queued = map_keeps (λ (q : SessionQueue). q.queued) counted (λ q. refl) s.queues place in
      let events = events_of s r done in
      record {
        out =
            out ∙ (sound.each t).out
            ∙ ap (λ x. indices_of t (returning s.unsent ++ taken_by x)) runs
            ∙ indices_append t (returning s.unsent) (taken_by (Some r))
            ∙ ap (λ xs. indices_of t (returning s.unsent) ++ xs) (sym (job_returns t))
            ∙ sym (indices_append t (returning s.unsent) (returning events))
            ∙ ap (λ bs. indices_of t bs) (sym (returning_append s.unsent events) ∙ sym (append_none (returning (s.unsent ++ events))));
        kinds = subst (λ (bs : List Queued). All (λ (b : Queued). b.buffer.kind ≡ t) bs) (sym queued) (sound.each t).kinds;
      }

  pub finished_sound : s.running ≡ Some r → All (λ (q : SessionQueue). length q.out ≤ 32) (map counted s.queues) → IsSound s → IsSound (finished_by (Some r) s done)
  finished_sound runs few sound =
      let s' : SessionState = finished_by (Some r) s done in
      let format : (u : ℕ) → (queue_of s' u).format ≡ (queue_of s u).format = λ u. map_keeps (λ (q : SessionQueue). q.format) counted (λ q. refl) s.queues (place_in (types_of s.model) u) in
      let same = length-map s.queues counted ∙ sound.queues in
      let pairs = paired_append s.unsent (events_of s r done) sound.paired job_paired in
      let giving : has_events s.model ≡ false → All (λ (e : Unsent). gives_back e ≡ true) s'.unsent =
      λ silent. All-append (λ (e : Unsent). gives_back e ≡ true) s.unsent (events_of s r done) (sound.eventless silent) (job_gives silent) in
      let own : (t : ℕ) → IsSoundAt s' t = finished_at runs sound in
      let out : (t : ℕ) → (queue_of s' t).out ≡ indices_of t (returning s'.unsent) = λ t. (own t).out ∙ ap (λ bs. indices_of t bs) (append_none (returning s'.unsent)) in
      record {
        queues = same;
        input = sound.input;
        size = size_kept s s' format (picture_queue s.model) (source_queue s.model) sound.size;
        each = own;
        paired = pairs;
        eventless = giving;
        few = few_unsent s.model s'.queues s'.unsent same few out pairs giving;
      }

-- ---- what the bodies meet

first_there : (bs : List Queued) → nat_lt 0 (length bs) ≡ true → is_some (first_of bs) ≡ true
first_there [] some = cc
first_there (b ∷ bs) some = refl

-- where all queues are ready, the pictures' has a buffer
pub ready_head : (m : Model) (qs : List SessionQueue) → length qs ≡ length (types_of m) → list_all is_ready qs ≡ true
    → is_some (first_of (queue_at queue_kind m qs (picture_queue m)).queued) ≡ true
ready_head Capture (q ∷ []) is ready =
    let some = both_are q.streaming (nat_lt 0 (length q.queued)) true ready in
    first_there q.queued some.0
ready_head Convert (o ∷ c ∷ []) is ready =
    let some = both_are o.streaming (nat_lt 0 (length o.queued)) (is_ready c && true) ready in
    let more = both_are c.streaming (nat_lt 0 (length c.queued)) true some.1 in
    first_there c.queued more.0
ready_head Capture [] is ready = absurd (omega (arith, is))
ready_head Capture (q ∷ r ∷ qs) is ready = absurd (omega (arith, is))
ready_head Convert [] is ready = absurd (omega (arith, is))
ready_head Convert (q ∷ []) is ready = absurd (omega (arith, is))
ready_head Convert (o ∷ c ∷ q ∷ qs) is ready = absurd (omega (arith, is))

pub begun_after : (s : SessionState) (number : ℕ) (qs : List SessionQueue) (running : Option Running) → s.running ≡ None → list_all is_ready s.queues ≡ true → IsSound s
    → qs ≡ map headless s.queues → running ≡ (begun s number).running → IsSound (record s { queues = qs; running = running })
begun_after s number qs running idle ready sound heads runs = rw (heads, runs) (begun_sound s number idle ready sound)

pub finished_after : (s : SessionState) (r : Running) (done : DoneParts) (qs : List SessionQueue) (es : List Unsent) → s.running ≡ Some r → IsSound s
    → qs ≡ map counted s.queues → All (λ (q : SessionQueue). length q.out ≤ 32) qs → es ≡ s.unsent ++ events_of s r done
    → IsSound (record s { queues = qs; running = None; unsent = es })
finished_after s r done qs es runs sound counts few events =
    rw (counts, events) (finished_sound s r done runs (subst (λ (qs : List SessionQueue). All (λ (q : SessionQueue). length q.out ≤ 32) qs) counts few) sound)

pub events_are : (s now : SessionState) (r : Running) (done : DoneParts) (sync src : Option Unsent) (dst : Unsent) → s ≡ now → option_to_list sync ≡ sync_events now done.good
    → src ≡ option_map (λ b. returned now r done.good b b.bytesused done.job.src) r.src → dst ≡ dst_event now r done
    → option_to_list sync ++ (option_to_list src ++ dst ∷ []) ≡ events_of s r done
events_are s now r done sync src dst same begins read made = rw (same, begins, read, made) refl

idle_and : (o : Option Running) (ready : Bool) → (not (is_some o) && ready) ≡ true → (o ≡ None) × (ready ≡ true)
idle_and None true can = (refl, refl)
idle_and None false can = cc
idle_and (Some r) ready can = cc

pub can_begin_is : (s : SessionState) → can_begin s ≡ true → (s.running ≡ None) × (list_all is_ready s.queues ≡ true)
can_begin_is s can = idle_and s.running (list_all is_ready s.queues) can

pub runs_is : (s : SessionState) (number : ℕ) (spec : JobSpec) (src : Option Queued) (dst : Queued) (running : Running) → spec ≡ next_spec s number
    → src ≡ next_src s → Some dst ≡ next_dst s → running ≡ running_with spec src dst → Some running ≡ (begun s number).running
runs_is s number spec src dst running is read made runs =
    ap Some (runs ∙ ap (λ x. running_with x src dst) is ∙ ap (λ x. running_with (next_spec s number) x dst) read)
    ∙ ap (λ x. option_map (running_with (next_spec s number) (next_src s)) x) made
