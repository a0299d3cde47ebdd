-- What a frame does to the state of a handle, whether it was made or failed.
use Rattle.std.proofs.Common.{◌≡◌, ◌≢◌, ◌≤◌, ℕ, zero, suc, ◌<◌, Bool, true, false, List, [], ◌∷◌, ◌++◌, length, get_or, set, map, drop, refl, ap, ◌∙◌, arith, get_or-set_same, get_or-set_other, length-set}
use Rattle.std.proofs.lemmas.Bool.{ltb-true, ltb-false}
use Rattle.std.proofs.lemmas.List.{length-map, get_or-map, get_or_past}
use Rattle.v4l_const.specs.Model.{queues as types_of, picture_queue}
use Rattle.v4l_format.specs.Fmt.{picture_size}
use Rattle.v4l_rules.specs.Queues.{place_in, has_type}
use Rattle.v4l_rules.proofs.ModelLemmas.{has_target}
use Rattle.vm_local.specs.declared.buffer.Buffer.{Buffer}
use Rattle.vm_local.specs.declared.buffer.BufferState.TheVariants.{Queued}
use Rattle.vm_local.specs.declared.owed.Owed.{Owed as OwedEntry}
use Rattle.vm_local.specs.State.{QueueState, LocalState, opening_queue, queue_of, no_buffer, buffer_of}
use Rattle.vm_local.specs.Memory.{bytes_of}
use Rattle.vm_local.specs.Queue.{can_finish}
use Rattle.vm_local.specs.Listed.{IsThere}
use Rattle.vm_local.specs.Steps.{counted, head, head_buffer, number_of, target, taken_buffer, taken, with_used, with_target_used, heads_taken, sync_of, buffers_taken, next_timestamp, next_picture}
use Rattle.vm_local.proofs.StepLemmas.{frame_made, frame_failed}
use Rattle.vm_commute.proofs.ReachedLemmas.{many_queues, front_there}
use Rattle.vm_home.specs.Reached.{IsReached}

-- a buffer that a frame took, with so many bytes in use
abbrev pub frame_buffer : Bool → ℕ → ℕ → QueueState → Buffer
frame_buffer good ts n q = record (taken_buffer good q.next_sequence ts (head_buffer q)) { used = n }

-- a queue whose first buffer a frame took, which has so many bytes in use
abbrev pub frame_queue : Bool → ℕ → ℕ → QueueState → QueueState
frame_queue good ts n q = record q {
  buffers = set q.buffers (head q) (frame_buffer good ts n q);
  queued = drop 1 q.queued;
  next_sequence = counted q.next_sequence;
}

-- what a frame leaves
pub record After (s t : LocalState) (good : Bool) (n : ℕ) (entries : List OwedEntry) : Type 0 where
  pub model : t.model ≡ s.model
  pub opened : t.opened ≡ s.opened
  pub input : t.input ≡ s.input
  pub count : length t.queues ≡ length s.queues
  pub owed : t.owed ≡ s.owed ++ entries
  pub picture : queue_of t (picture_queue s.model) ≡ frame_queue good (next_timestamp s) n (target s)
  pub other : (u : ℕ) → has_type s.model u ≡ true → place_in (types_of s.model) u ≢ place_in (types_of s.model) (picture_queue s.model)
      → queue_of t u ≡ frame_queue good (next_timestamp s) (head_buffer (queue_of s u)).used (queue_of s u)
  pub none : (u : ℕ) → has_type s.model u ≡ false → queue_of t u ≡ opening_queue
  pub bytes : (m : ℕ) → m ≢ number_of (head_buffer (target s)) → bytes_of t m ≡ bytes_of s m

set_twice : {A : Type 0} (xs : List A) (i : ℕ) (x y : A) → set (set xs i x) i y ≡ set xs i y
set_twice [] i x y = refl
set_twice (z ∷ zs) zero x y = refl
set_twice (z ∷ zs) (suc i) x y = ap (λ ws. z ∷ ws) (set_twice zs i x y)

-- the bytes in use of the buffer that was taken
used_taken : (good : Bool) (ts n : ℕ) (q : QueueState) → head q < length q.buffers → with_used (taken good ts q) (head q) n ≡ frame_queue good ts n q
used_taken good ts n q within =
    let b : Buffer = taken_buffer good q.next_sequence ts (head_buffer q) in
    let bs : List Buffer = set q.buffers (head q) b in
    ap (λ xs. record q { buffers = xs; queued = drop 1 q.queued; next_sequence = counted q.next_sequence })
    (ap (λ (c : Buffer). set bs (head q) (record c { used = n })) (get_or-set_same q.buffers (head q) b no_buffer within)
    ∙ set_twice q.buffers (head q) b (record b { used = n }))

pub after_heads : (s : LocalState) (good : Bool) (n : ℕ) (entries : List OwedEntry) → IsReached s → can_finish s ≡ true →
    After s (with_target_used s n (heads_taken s good entries)) good n entries
after_heads s good n entries reached ready =
    let ts : ℕ = next_timestamp s in
    let f : QueueState → QueueState = taken good ts in
    let qs : List QueueState = map f s.queues in
    let p : ℕ = place_in (types_of s.model) (picture_queue s.model) in
    let v : QueueState = with_used (get_or qs p opening_queue) (head (target s)) n in
    let inside : p < length s.queues = omega (arith, has_target s.model, many_queues s reached) in
    let there : IsThere Queued (target s) (head (target s)) = front_there s reached ready p opening_queue inside in
    let long : length qs ≡ length s.queues = length-map s.queues f in
    record {
      model = refl;
      opened = refl;
      input = refl;
      count = length-set qs p v ∙ long;
      owed = refl;
      picture = get_or-set_same qs p v opening_queue (omega (arith, inside, long))
          ∙ (ap (λ (q : QueueState). with_used q (head (target s)) n) (get_or-map f s.queues p opening_queue opening_queue inside)
          ∙ used_taken good ts n (target s) there.0);
      other = λ u has apart.
          let k : ℕ = place_in (types_of s.model) u in
          let within : k < length s.queues = omega (arith, ltb-true k (length (types_of s.model)) has, many_queues s reached) in
          get_or-set_other qs p k v opening_queue apart ∙ get_or-map f s.queues k opening_queue opening_queue within;
      none = λ u hasnt.
          let k : ℕ = place_in (types_of s.model) u in
          let past : length s.queues ≤ k = omega (arith, ltb-false k (length (types_of s.model)) hasnt, many_queues s reached) in
          get_or_past (set qs p v) k opening_queue (omega (arith, past, length-set qs p v, long));
      bytes = λ m apart. refl;
    }

pub after_made : (s : LocalState) → IsReached s → can_finish s ≡ true →
    After s (frame_made s) true (picture_size (target s).format) (sync_of s ++ buffers_taken s)
after_made s reached ready =
    let a : After s (with_target_used s (picture_size (target s).format) (heads_taken s true (sync_of s ++ buffers_taken s))) true (picture_size (target s).format) (sync_of s ++ buffers_taken s) =
    after_heads s true (picture_size (target s).format) (sync_of s ++ buffers_taken s) reached ready in
    let m : ℕ = number_of (head_buffer (target s)) in
    record {
      model = a.model;
      opened = a.opened;
      input = a.input;
      count = a.count;
      owed = a.owed;
      picture = a.picture;
      other = a.other;
      none = a.none;
      bytes = λ k apart. get_or-set_other s.memories m k (next_picture s ++ drop (picture_size (target s).format) (bytes_of s m)) [] apart;
    }

pub after_failed : (s : LocalState) → IsReached s → can_finish s ≡ true → After s (frame_failed s) false 0 (buffers_taken s)
after_failed s reached ready = after_heads s false 0 (buffers_taken s) reached ready

-- ---- the buffers of a queue

-- another buffer than the one that was taken
pub frame_other : (good : Bool) (ts n : ℕ) (q : QueueState) (i : ℕ) → i ≢ head q → buffer_of (frame_queue good ts n q) i ≡ buffer_of q i
frame_other good ts n q i apart = get_or-set_other q.buffers (head q) i (frame_buffer good ts n q) no_buffer apart

-- and that one
pub frame_head : (good : Bool) (ts n : ℕ) (q : QueueState) → head q < length q.buffers → buffer_of (frame_queue good ts n q) (head q) ≡ frame_buffer good ts n q
frame_head good ts n q within = get_or-set_same q.buffers (head q) (frame_buffer good ts n q) no_buffer within
