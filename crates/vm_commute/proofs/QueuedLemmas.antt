-- A step of the device follows a qbuf as it comes before it: the buffer joins the end of its queue, and the device takes
-- the first one.
use Rattle.std.proofs.Common.{◌≡◌, ◌≢◌, ℕ, ◌*◌, ◌<◌, Bool, true, false, List, [], ◌∷◌, ◌++◌, length, get_or, set, map, drop, Option, Some, None, refl, sym, ap, ◌∙◌, subst, get_or-set_other, if◌then◌else◌}
use Rattle.std.specs.Prelude.{slice_index}
use Rattle.std.proofs.lemmas.Bool.{false≢true}
use Rattle.v4l_const.specs.Model.{queues as types_of, source_queue, picture_queue, has_events}
use Rattle.v4l_format.specs.declared.fmt.Fmt.{Fmt}
use Rattle.v4l_format.specs.Fmt.{picture_size}
use Rattle.v4l_format.specs.Picture.{pattern_picture, converted_picture}
use Rattle.v4l_rules.specs.Queues.{place_in}
use Rattle.vm_local.specs.declared.buffer.Buffer.{Buffer}
use Rattle.vm_local.specs.declared.buffer.BufferState.TheVariants.{Done}
use Rattle.vm_local.specs.declared.owed.Owed.{Owed as OwedEntry}
use Rattle.vm_local.specs.declared.owed.OwedItem.TheVariants.{Buffer as OwedBuffer, Sync}
use Rattle.vm_local.specs.State.{QueueState, LocalState, opening_queue, queue_of, no_buffer, buffer_of}
use Rattle.vm_local.specs.Kinds.{is_idle}
use Rattle.vm_local.specs.Memory.{bytes_of}
use Rattle.vm_local.specs.Queue.{is_empty, can_finish}
use Rattle.vm_local.specs.Steps.{head, head_buffer, number_of, target, picture_from, next_picture, timestamp_from, next_timestamp, taken, taken_buffer, counted, with_used, sync_of, buffer_taken, buffers_taken, with_done}
use Rattle.vm_local.proofs.StepLemmas.{frame_made, frame_failed}
use Rattle.vm_commute.proofs.PlaceLemmas.{changed, changed_twice, changed_keeps, map_changed, map_alike}
use Rattle.vm_commute.proofs.ReachedLemmas.{Reached, ready_at, front_there}
use Rattle.vm_commute.proofs.FollowLemmas.{GivenAlike}

-- ---- one queue

-- a buffer in another state than one that is Idle is another one
pub other_buffer : (bs : List Buffer) (i j : ℕ) → is_idle (get_or bs i no_buffer).state ≡ true → is_idle (get_or bs j no_buffer).state ≡ false → i ≢ j
other_buffer bs i j idle busy e = false≢true (sym busy ∙ (ap (λ k. is_idle (get_or bs k no_buffer).state) (sym e) ∙ idle))

-- a queue whose i-th buffer is changed and queued behind the others
abbrev pub joined : (Buffer → Buffer) → ℕ → QueueState → QueueState
joined f i q = record q { buffers = changed no_buffer f i q.buffers; queued = q.queued ++ i ∷ [] }

joined_done : (f : Buffer → Buffer) (i j : ℕ) (q : QueueState) → i ≢ j → with_done (joined f i q) j ≡ joined f i (with_done q j)
joined_done f i j q apart =
    ap (λ bs. record q { buffers = bs; queued = q.queued ++ i ∷ []; done = q.done ++ j ∷ [] })
    (changed_twice no_buffer (λ b. record b { state = Done }) f j i q.buffers (λ e. absurd (apart (sym e))))

joined_used : (f : Buffer → Buffer) (i j n : ℕ) (q : QueueState) → i ≢ j → with_used (joined f i q) j n ≡ joined f i (with_used q j n)
joined_used f i j n q apart =
    ap (λ bs. record q { buffers = bs; queued = q.queued ++ i ∷ [] })
    (changed_twice no_buffer (λ b. record b { used = n }) f j i q.buffers (λ e. absurd (apart (sym e))))

first_stays : (xs : List ℕ) (i : ℕ) → is_empty xs ≡ false → slice_index (xs ++ i ∷ []) 0 ≡ slice_index xs 0
first_stays [] i some = absurd (false≢true (sym some))
first_stays (x ∷ xs) i some = refl

rest_stays : (xs : List ℕ) (i : ℕ) → is_empty xs ≡ false → drop 1 (xs ++ i ∷ []) ≡ drop 1 xs ++ i ∷ []
rest_stays [] i some = absurd (false≢true (sym some))
rest_stays (x ∷ xs) i some = refl

joined_taken : (f : Buffer → Buffer) (i : ℕ) (good : Bool) (ts : ℕ) (q : QueueState) → is_empty q.queued ≡ false → i ≢ head q →
    taken good ts (joined f i q) ≡ joined f i (taken good ts q)
joined_taken f i good ts q some apart =
    let take : Buffer → Buffer = taken_buffer good q.next_sequence ts in
    let now : ℕ → List ℕ → List Buffer → QueueState = λ h rest bs.
    record q { buffers = changed no_buffer take h bs; queued = rest; next_sequence = counted q.next_sequence } in
    let bs : List Buffer = changed no_buffer f i q.buffers in
    ap (λ h. now h (drop 1 (q.queued ++ i ∷ [])) bs) (first_stays q.queued i some) ∙
    (ap (λ rest. now (head q) rest bs) (rest_stays q.queued i some) ∙
    ap (λ cs. record q { buffers = cs; queued = drop 1 q.queued ++ i ∷ []; next_sequence = counted q.next_sequence })
    (changed_twice no_buffer take f (head q) i q.buffers (λ e. absurd (apart (sym e)))))

-- ---- the front of a queue, which a frame takes

record Front : Type 0 where
  format : Fmt
  next : ℕ
  index : ℕ
  buffer : Buffer

abbrev front : QueueState → Front
front q = record { format = q.format; next = q.next_sequence; index = head q; buffer = head_buffer q }

front_stays : (f : Buffer → Buffer) (i : ℕ) (q : QueueState) → is_empty q.queued ≡ false → i ≢ head q → front (joined f i q) ≡ front q
front_stays f i q some apart =
    let first : head (joined f i q) ≡ head q = first_stays q.queued i some in
    let one : get_or (changed no_buffer f i q.buffers) (head q) no_buffer ≡ head_buffer q =
    get_or-set_other q.buffers i (head q) (f (get_or q.buffers i no_buffer)) no_buffer (λ e. apart (sym e)) in
    ap (λ h. record { format = q.format; next = q.next_sequence; index = h; buffer = get_or (changed no_buffer f i q.buffers) h no_buffer }) first ∙
    ap (λ b. record { format = q.format; next = q.next_sequence; index = head q; buffer = b }) one

-- another state of the same device, of which each queue has the same front
abbrev SameFronts : LocalState → List QueueState → Type 0
SameFronts s qs = (t : ℕ) → front (get_or qs (place_in (types_of s.model) t) opening_queue) ≡ front (queue_of s t)

same_timestamp : (source : Option ℕ) (s : LocalState) (qs : List QueueState) → SameFronts s qs → timestamp_from source (record s { queues = qs }) ≡ timestamp_from source s
same_timestamp None s qs h = ap (λ (f : Front). f.next * 40000) (h (picture_queue s.model))
same_timestamp (Some t) s qs h = ap (λ (f : Front). f.buffer.timestamp) (h t)

same_picture : (source : Option ℕ) (s : LocalState) (qs : List QueueState) → SameFronts s qs → picture_from source (record s { queues = qs }) ≡ picture_from source s
same_picture None s qs h = ap (λ (f : Front). pattern_picture s.input f.next f.format) (h (picture_queue s.model))
same_picture (Some t) s qs h =
    let x : LocalState = record s { queues = qs } in
    ap (λ (f : Front). converted_picture f.format (bytes_of s (number_of f.buffer)) (target x).format) (h t) ∙
    ap (λ (f : Front). converted_picture (queue_of s t).format (bytes_of s (number_of (head_buffer (queue_of s t)))) f.format) (h (picture_queue s.model))

same_sync : (s : LocalState) (qs : List QueueState) → SameFronts s qs → sync_of (record s { queues = qs }) ≡ sync_of s
same_sync s qs h =
    ap (λ (f : Front). if has_events s.model then (record { queue = picture_queue s.model; item = Sync f.next }) ∷ [] else []) (h (picture_queue s.model))

same_taken : (s : LocalState) (qs : List QueueState) → SameFronts s qs → buffers_taken (record s { queues = qs }) ≡ buffers_taken s
same_taken s qs h =
    map_alike (buffer_taken (record s { queues = qs })) (buffer_taken s) (types_of s.model)
    (λ t. ap (λ (f : Front). record { queue = t; item = OwedBuffer f.index }) (h t))

-- ---- the queues

-- a buffer of the queue in place p is changed and queued
abbrev pub all_joined : (Buffer → Buffer) → ℕ → ℕ → List QueueState → List QueueState
all_joined f i p qs = changed opening_queue (joined f i) p qs

-- the i-th buffer of the queue in place p is Idle
abbrev pub IsIdleAt : LocalState → ℕ → ℕ → Type 0
IsIdleAt s p i = is_idle (buffer_of (get_or s.queues p opening_queue) i).state ≡ true

pub joined_given : (s : LocalState) (f : Buffer → Buffer) (i p : ℕ) → IsIdleAt s p i → GivenAlike s (all_joined f i p)
joined_given s f i p idle t j there =
    let k : ℕ = place_in (types_of s.model) t in
    changed_twice opening_queue (λ q. with_done q j) (joined f i) k p s.queues
    (λ e. joined_done f i j (get_or s.queues k opening_queue)
    (other_buffer (get_or s.queues k opening_queue).buffers i j (subst (λ n. IsIdleAt s n i) (sym e) idle) (ap is_idle there.1)))

abbrev CanJoin : LocalState → ℕ → ℕ → Type 0
CanJoin s p i = (p < length s.queues) × IsIdleAt s p i × (can_finish s ≡ true)

not_head : (s : LocalState) (p i : ℕ) → Reached s → CanJoin s p i → i ≢ head (get_or s.queues p opening_queue)
not_head s p i reached can =
    let q : QueueState = get_or s.queues p opening_queue in
    other_buffer q.buffers i (head q) can.1 (ap is_idle (front_there s reached can.2 p opening_queue can.0).1)

fronts_stay : (s : LocalState) (f : Buffer → Buffer) (i p : ℕ) → Reached s → CanJoin s p i → SameFronts s (all_joined f i p s.queues)
fronts_stay s f i p reached can t =
    changed_keeps opening_queue front (joined f i) p (place_in (types_of s.model) t) s.queues
    (front_stays f i (get_or s.queues p opening_queue) (ready_at s.queues p opening_queue can.2 can.0).1 (not_head s p i reached can))

-- the queues after a frame
abbrev framed : LocalState → Bool → ℕ → ℕ → ℕ → List QueueState → List QueueState
framed s good ts h n qs = changed opening_queue (λ q. with_used q h n) (place_in (types_of s.model) (picture_queue s.model)) (map (taken good ts) qs)

joined_framed : (s : LocalState) (f : Buffer → Buffer) (i p : ℕ) (good : Bool) (ts n : ℕ) → Reached s → CanJoin s p i →
    framed s good ts (head (target s)) n (all_joined f i p s.queues) ≡ all_joined f i p (framed s good ts (head (target s)) n s.queues)
joined_framed s f i p good ts n reached can =
    let k : ℕ = place_in (types_of s.model) (picture_queue s.model) in
    let q : QueueState = get_or s.queues p opening_queue in
    let apart : i ≢ head q = not_head s p i reached can in
    let uses : QueueState → QueueState = λ v. with_used v (head (target s)) n in
    ap (λ qs. changed opening_queue uses k qs)
    (map_changed opening_queue (taken good ts) (joined f i) p s.queues (joined_taken f i good ts q (ready_at s.queues p opening_queue can.2 can.0).1 apart)) ∙
    changed_twice opening_queue uses (joined f i) k p (map (taken good ts) s.queues)
    (λ e. joined_used f i (head (target s)) n (get_or (map (taken good ts) s.queues) k opening_queue)
    (subst (λ x. i ≢ head (get_or s.queues x opening_queue)) (sym e) apart))

-- ---- a frame

-- the state with these queues, owed entries and memories
abbrev filled : LocalState → List QueueState → List OwedEntry → List (List ℕ) → LocalState
filled s qs owed ms = record s { queues = qs; owed = owed; memories = ms }

pub joined_made : (s : LocalState) (f : Buffer → Buffer) (i p : ℕ) → Reached s → CanJoin s p i →
    frame_made (record s { queues = all_joined f i p s.queues }) ≡ record (frame_made s) { queues = all_joined f i p (frame_made s).queues }
joined_made s f i p reached can =
    let js : List QueueState = all_joined f i p s.queues in
    let x : LocalState = record s { queues = js } in
    let fronts : SameFronts s js = fronts_stay s f i p reached can in
    let here : front (target x) ≡ front (target s) = fronts (picture_queue s.model) in
    let queues : ℕ → ℕ → ℕ → List QueueState = λ ts h n. framed s true ts h n js in
    let written : ℕ → List ℕ → ℕ → List (List ℕ) = λ m bytes size. set s.memories m (bytes ++ drop size (bytes_of s m)) in
    let owed : List OwedEntry → List OwedEntry → List OwedEntry = λ sync took. s.owed ++ (sync ++ took) in
    let stamp : next_timestamp x ≡ next_timestamp s = same_timestamp (source_queue s.model) s js fronts in
    let index : head (target x) ≡ head (target s) = ap (λ (g : Front). g.index) here in
    let size : picture_size (target x).format ≡ picture_size (target s).format = ap (λ (g : Front). picture_size g.format) here in
    let number : number_of (head_buffer (target x)) ≡ number_of (head_buffer (target s)) = ap (λ (g : Front). number_of g.buffer) here in
    let qs : queues (next_timestamp x) (head (target x)) (picture_size (target x).format) ≡ all_joined f i p (frame_made s).queues =
    ap (λ ts. queues ts (head (target x)) (picture_size (target x).format)) stamp ∙
    (ap (λ h. queues (next_timestamp s) h (picture_size (target x).format)) index ∙
    (ap (λ n. queues (next_timestamp s) (head (target s)) n) size ∙
    joined_framed s f i p true (next_timestamp s) (picture_size (target s).format) reached can)) in
    let os : owed (sync_of x) (buffers_taken x) ≡ owed (sync_of s) (buffers_taken s) =
    ap (λ sync. owed sync (buffers_taken x)) (same_sync s js fronts) ∙ ap (λ took. owed (sync_of s) took) (same_taken s js fronts) in
    let ms : written (number_of (head_buffer (target x))) (next_picture x) (picture_size (target x).format) ≡
    written (number_of (head_buffer (target s))) (next_picture s) (picture_size (target s).format) =
    ap (λ m. written m (next_picture x) (picture_size (target x).format)) number ∙
    (ap (λ bytes. written (number_of (head_buffer (target s))) bytes (picture_size (target x).format)) (same_picture (source_queue s.model) s js fronts) ∙
    ap (λ n. written (number_of (head_buffer (target s))) (next_picture s) n) size) in
    ap (λ vs. filled s vs (owed (sync_of x) (buffers_taken x)) (written (number_of (head_buffer (target x))) (next_picture x) (picture_size (target x).format))) qs ∙
    (ap (λ entries. filled s (all_joined f i p (frame_made s).queues) entries (written (number_of (head_buffer (target x))) (next_picture x) (picture_size (target x).format))) os ∙
    ap (λ memories. filled s (all_joined f i p (frame_made s).queues) (owed (sync_of s) (buffers_taken s)) memories) ms)

pub joined_failed : (s : LocalState) (f : Buffer → Buffer) (i p : ℕ) → Reached s → CanJoin s p i →
    frame_failed (record s { queues = all_joined f i p s.queues }) ≡ record (frame_failed s) { queues = all_joined f i p (frame_failed s).queues }
joined_failed s f i p reached can =
    let js : List QueueState = all_joined f i p s.queues in
    let x : LocalState = record s { queues = js } in
    let fronts : SameFronts s js = fronts_stay s f i p reached can in
    let queues : ℕ → ℕ → List QueueState = λ ts h. framed s false ts h 0 js in
    let stamp : next_timestamp x ≡ next_timestamp s = same_timestamp (source_queue s.model) s js fronts in
    let index : head (target x) ≡ head (target s) = ap (λ (g : Front). g.index) (fronts (picture_queue s.model)) in
    let qs : queues (next_timestamp x) (head (target x)) ≡ all_joined f i p (frame_failed s).queues =
    ap (λ ts. queues ts (head (target x))) stamp ∙ (ap (λ h. queues (next_timestamp s) h) index ∙
    joined_framed s f i p false (next_timestamp s) 0 reached can) in
    ap (λ vs. filled s vs (s.owed ++ buffers_taken x) s.memories) qs ∙
    ap (λ took. filled s (all_joined f i p (frame_failed s).queues) (s.owed ++ took) s.memories) (same_taken s js fronts)
