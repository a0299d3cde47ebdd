-- A session whose job is done stands for the state behind the frame.
use Rattle.std.proofs.Common.{◌≡◌, ◌≢◌, inl, inr, ℕ, zero, suc, ◌+◌, ◌%◌, ◌^◌, ◌<◌, ◌==◌, ◌&&◌, Bool, true, false, not, List, [], ◌∷◌, ◌++◌, length, get_or, set, map, All, Some, None, unwrap_or, refl, sym, ap, ◌∙◌, subst, arith, slice_get, length-set}
use Rattle.std.specs.List.{list_any}
use Rattle.std.proofs.lemmas.Bool.{false≢true, cases_eq}
use Rattle.std.proofs.lemmas.List.{length-map, get_or-map}
use Rattle.std.proofs.lemmas.List.Elements.{All-nil}
use Rattle.std.proofs.Math.Seq.{map-set_same}
use Rattle.v4l_const.specs.Model.{queues as types_of, picture_queue}
use Rattle.v4l_layout.specs.declared.buffer_rec.BufferRec.{BufferRec}
use Rattle.v4l_rules.specs.Formats.{is_source}
use Rattle.v4l_rules.specs.Queues.{place_in, has_type}
use Rattle.v4l_rules.proofs.ModelLemmas.{has_target}
use Rattle.v4l_rules.proofs.SetLemmas.{set_keeps}
use Rattle.vm_frame.specs.declared.mem.Held.{Held}
use Rattle.vm_queue.specs.declared.queued.Queued.{Queued}
use Rattle.vm_local.specs.declared.buffer.Buffer.{Buffer}
use Rattle.vm_local.specs.declared.buffer.BufferState.TheVariants.{Queued as AsQueued}
use Rattle.vm_local.specs.declared.owed.Owed.{Owed as OwedEntry}
use Rattle.vm_local.specs.State.{QueueState, LocalState, opening_queue, queue_of, no_buffer, buffer_of}
use Rattle.vm_local.specs.Kinds.{is_idle}
use Rattle.vm_local.specs.Memory.{bytes_of, is_just}
use Rattle.vm_local.specs.Queue.{is_empty, is_user_ptr, can_finish}
use Rattle.vm_local.specs.Listed.{IsThere}
use Rattle.vm_local.specs.Live.{is_of_device}
use Rattle.vm_local.specs.Steps.{head, head_buffer, number_of, target, next_timestamp}
use Rattle.vm_commute.proofs.OutlineLemmas.{drawn, outlined, outline}
use Rattle.vm_commute.proofs.PlaceLemmas.{any_map}
use Rattle.vm_commute.proofs.ReachedLemmas.{many_queues, front_there}
use Rattle.vm_home.specs.Home.{IsMemory}
use Rattle.vm_home.specs.Moves.{memory_at}
use Rattle.vm_home.specs.Reached.{IsReached}
use Rattle.vm_home.proofs.PlaceLemmas.{HasAt}
use Rattle.vm_home.proofs.FactLemmas.{Facts, facts_of}
use Rattle.vm_exchange.specs.Exchange.{memory_number}
use Rattle.vm_session.specs.State.{SessionQueue, SessionState, opening_queue as session_opening, queue_of as session_queue}
use Rattle.vm_session.specs.Sound.{taken_by}
use Rattle.vm_session.specs.Streaming.{counted}
use Rattle.vm_stands.specs.Stands.{seconds_of, micros_of, of_type, waiting, IsPictureTold, IsRecordOf, IsMemoryAt, StandsOn}
use Rattle.vm_stands.proofs.FrameLemmas.{frame_buffer, frame_queue, After, frame_other, frame_head}
use Rattle.vm_stands.proofs.NextLemmas.{waiting_there}
use Rattle.vm_stands.proofs.TookLemmas.{behind, IsTaken}

-- ---- memories

device_drawn : (s : LocalState) (m : ℕ) → is_of_device (outline s) m ≡ is_of_device s m
device_drawn s m =
    let test : Buffer → Bool = λ b. is_just b.memory m in
    let at : QueueState → Bool = λ q. not (is_user_ptr q.memory) && list_any test q.buffers in
    any_map outlined at at s.queues (λ q. ap (λ b. not (is_user_ptr q.memory) && b) (any_map drawn test test q.buffers (λ b. refl)))

pub device_after : (s t : LocalState) → outline t ≡ outline s → (m : ℕ) → is_of_device t m ≡ is_of_device s m
device_after s t same m = sym (device_drawn t m) ∙ (ap (λ (x : LocalState). is_of_device x m) same ∙ device_drawn s m)

-- the buffer that the next frame's picture goes to
pub target_there : (s : LocalState) → IsReached s → can_finish s ≡ true → IsThere AsQueued (target s) (head (target s))
target_there s reached ready =
    front_there s reached ready (place_in (types_of s.model) (picture_queue s.model)) opening_queue (omega (arith, has_target s.model, many_queues s reached))

-- another buffer that isn't Idle has another memory
pub apart_memory : (s : LocalState) (u i : ℕ) → IsReached s → can_finish s ≡ true → is_idle (buffer_of (queue_of s u) i).state ≡ false →
    i ≢ head (queue_of s u) → memory_at s u i ≢ number_of (head_buffer (target s))
apart_memory s u i reached ready busy apart same =
    let f : Facts s = facts_of s reached in
    let c : ℕ = picture_queue s.model in
    let k : ℕ = place_in (types_of s.model) u in
    let p : ℕ = place_in (types_of s.model) c in
    let other : is_idle (head_buffer (target s)).state ≡ false = ap is_idle (target_there s reached ready).1 in
    let mine : (m : ℕ) × HasAt s.queues k i m = f.owns.has k i busy in
    let its : (m : ℕ) × HasAt s.queues p (head (target s)) m = f.owns.has p (head (target s)) other in
    let number : mine.0 ≡ its.0 = sym (ap (λ o. unwrap_or o 0) mine.1) ∙ (same ∙ ap (λ o. unwrap_or o 0) its.1) in
    let one : (k ≡ p) × (i ≡ head (target s)) = f.owns.busy k i p (head (target s)) mine.0 busy other mine.1 (its.1 ∙ ap (λ m. Some m) (sym number)) in
    apart (one.1 ∙ ap (λ n. head (get_or s.queues n opening_queue)) (sym one.0))

-- and on another queue
pub apart_queue : (s : LocalState) (u i : ℕ) → IsReached s → can_finish s ≡ true → is_idle (buffer_of (queue_of s u) i).state ≡ false →
    place_in (types_of s.model) u ≢ place_in (types_of s.model) (picture_queue s.model) → memory_at s u i ≢ number_of (head_buffer (target s))
apart_queue s u i reached ready busy apart same =
    let f : Facts s = facts_of s reached in
    let k : ℕ = place_in (types_of s.model) u in
    let p : ℕ = place_in (types_of s.model) (picture_queue s.model) in
    let other : is_idle (head_buffer (target s)).state ≡ false = ap is_idle (target_there s reached ready).1 in
    let mine : (m : ℕ) × HasAt s.queues k i m = f.owns.has k i busy in
    let its : (m : ℕ) × HasAt s.queues p (head (target s)) m = f.owns.has p (head (target s)) other in
    let number : mine.0 ≡ its.0 = sym (ap (λ o. unwrap_or o 0) mine.1) ∙ (same ∙ ap (λ o. unwrap_or o 0) its.1) in
    apart (f.owns.busy k i p (head (target s)) mine.0 busy other mine.1 (its.1 ∙ ap (λ m. Some m) (sym number))).0

-- ---- a queue of which a frame took a buffer

empty_set : (bs : List Buffer) (i : ℕ) (b : Buffer) → is_empty (set bs i b) ≡ is_empty bs
empty_set [] i b = refl
empty_set (x ∷ xs) zero b = refl
empty_set (x ∷ xs) (suc i) b = refl

record_after : (s t : LocalState) (u n : ℕ) (good : Bool) (r : BufferRec) → t.model ≡ s.model →
    queue_of t u ≡ frame_queue good (next_timestamp s) n (queue_of s u) → r.index ≢ head (queue_of s u) → IsRecordOf s u r → IsRecordOf t u r
record_after s t u n good r model queue apart is =
    let q : QueueState = queue_of s u in
    let b : buffer_of (queue_of t u) r.index ≡ buffer_of q r.index =
    ap (λ (x : QueueState). buffer_of x r.index) queue ∙ frame_other good (next_timestamp s) n q r.index apart in
    record {
      kind = is.kind;
      memory = is.memory ∙ ap (λ (x : QueueState). memory_number x.memory) (sym queue);
      place = is.place;
      size = is.size ∙ ap (λ (x : Buffer). x.length) (sym b);
      told = λ source.
          let told : IsPictureTold r (buffer_of q r.index) = is.told (ap (λ m. is_source m u) (sym model) ∙ source) in
          record {
            used = told.used ∙ ap (λ (x : Buffer). x.used) (sym b);
            seconds = told.seconds ∙ ap (λ (x : Buffer). seconds_of x.timestamp) (sym b);
            micros = told.micros ∙ ap (λ (x : Buffer). micros_of x.timestamp) (sym b);
          };
      unmarked = ap (λ (x : Buffer). x.is_bad) b ∙ is.unmarked;
    }

-- the memory of a buffer, where its bytes stayed
pub memory_after : (s t : LocalState) (u i : ℕ) (h : Held) → memory_at t u i ≡ memory_at s u i → bytes_of t (memory_at s u i) ≡ bytes_of s (memory_at s u i) →
    ((m : ℕ) → is_of_device t m ≡ is_of_device s m) → IsMemoryAt s u i h → IsMemoryAt t u i h
memory_after s t u i h number bytes device is =
    let P : ℕ → Type 0 = λ m. IsMemory t m h.mem in
    let here : IsMemory t (memory_at s u i) h.mem = record {
      bytes = is.memory.bytes ∙ sym bytes;
      frame = λ of_device. is.memory.frame (sym (device (memory_at s u i)) ∙ of_device);
    } in
    record { queue = is.queue; index = is.index; memory = subst P (sym number) here }

-- the numbers of the buffers' memories stay
pub numbers_after : (s t : LocalState) (u n : ℕ) (good : Bool) → queue_of t u ≡ frame_queue good (next_timestamp s) n (queue_of s u) → (i : ℕ) →
    (buffer_of (queue_of t u) i).memory ≡ (buffer_of (queue_of s u) i).memory
numbers_after s t u n good queue i =
    let q : QueueState = queue_of s u in
    ap (λ (x : QueueState). (buffer_of x i).memory) queue
    ∙ set_keeps no_buffer (λ (b : Buffer). b.memory) q.buffers (head q) (frame_buffer good (next_timestamp s) n q) refl i

-- the session's queue where the session counted its frames
pub record IsCounted (session x : SessionState) : Type 0 where
  pub queue : (u : ℕ) → has_type session.model u ≡ true → session_queue x u ≡ counted (session_queue session u)
  pub none : (u : ℕ) → has_type session.model u ≡ false → session_queue x u ≡ session_opening
  pub running : x.running ≡ None

pub done_on : (frames : List ℕ) (session x : SessionState) (s t : LocalState) (u n : ℕ) (good : Bool) (entries : List OwedEntry) (b : BufferRec) →
    IsReached s → can_finish s ≡ true → StandsOn frames session s u → IsTaken session s u b → After s t good n entries →
    ((m : ℕ) → is_of_device t m ≡ is_of_device s m) → session_queue x u ≡ counted (session_queue session u) → x.running ≡ None →
    (k : ℕ) → queue_of t u ≡ frame_queue good (next_timestamp s) k (queue_of s u) → IsThere AsQueued (queue_of s u) (head (queue_of s u)) →
    StandsOn frames x t u
done_on frames session x s t u n good entries b reached ready on took after device same idle k queue there =
    let q : QueueState = queue_of s u in
    let sq : SessionQueue = session_queue session u in
    let v : Buffer = frame_buffer good (next_timestamp s) k q in
    let waits : waiting x u ≡ behind session u =
    ap (λ o. of_type u (taken_by o) ++ behind x u) idle ∙ ap (λ (y : SessionQueue). map (λ (c : Queued). c.buffer) y.queued) same in
    let R : List BufferRec → Type 0 = λ rs. All (IsRecordOf t u) rs in
    let M : SessionQueue → Type 0 = λ y. All (λ (c : Queued). IsMemoryAt t u c.buffer.index c.held) y.queued in
    let those : All (λ (r : BufferRec). IsThere AsQueued q r.index) (b ∷ behind session u) =
    subst (λ rs. All (λ (r : BufferRec). IsThere AsQueued q r.index) rs) took.first (waiting_there frames session s u reached on) in
    let apart : (j : ℕ) (d : Queued) → j < length sq.queued → (get_or sq.queued j d).buffer.index ≢ head q = λ j d within.
    subst (λ (r : BufferRec). r.index ≢ head q) (get_or-map (λ (c : Queued). c.buffer) sq.queued j d d.buffer within)
    (took.apart j d.buffer (omega (arith, within, length-map sq.queued (λ (c : Queued). c.buffer)))) in
    let busy : (j : ℕ) (d : Queued) → j < length sq.queued → is_idle (buffer_of q (get_or sq.queued j d).buffer.index).state ≡ false = λ j d within.
    subst (λ (r : BufferRec). is_idle (buffer_of q r.index).state ≡ false) (get_or-map (λ (c : Queued). c.buffer) sq.queued j d d.buffer within)
    (ap is_idle (those (suc j) d.buffer (omega (arith, within, length-map sq.queued (λ (c : Queued). c.buffer)))).1) in
    record {
      format = ap (λ (y : SessionQueue). y.format) same ∙ (on.format ∙ ap (λ (y : QueueState). y.format) (sym queue));
      kind = λ some. ap (λ (y : SessionQueue). y.kind) same
          ∙ (on.kind (sym (empty_set q.buffers (head q) v) ∙ (ap (λ (y : QueueState). is_empty y.buffers) (sym queue) ∙ some))
          ∙ ap (λ (y : QueueState). memory_number y.memory) (sym queue));
      lengths = ap (λ (y : SessionQueue). y.lengths) same
          ∙ (on.lengths ∙ (sym (map-set_same (λ (c : Buffer). c.length) q.buffers (head q) v no_buffer refl)
          ∙ ap (λ (y : QueueState). map (λ (c : Buffer). c.length) y.buffers) (sym queue)));
      streaming = ap (λ (y : SessionQueue). y.streaming) same ∙ (on.streaming ∙ ap (λ (y : QueueState). y.streaming) (sym queue));
      sequence = ap (λ (y : SessionQueue). y.sequence) same
          ∙ (ap (λ i. (i + 1) % 2 ^ 32) on.sequence ∙ ap (λ (y : QueueState). y.next_sequence) (sym queue));
      order = ap (λ rs. map (λ (r : BufferRec). r.index) rs) waits ∙ (took.order ∙ ap (λ (y : QueueState). y.queued) (sym queue));
      records = subst R (sym waits)
          (λ j d within. record_after s t u k good (get_or (behind session u) j d) after.model queue (took.apart j d within) (took.records j d within));
      memories = subst M (sym same) (λ j d within.
          let c : Queued = get_or sq.queued j d in
          memory_after s t u c.buffer.index c.held (ap (λ o. unwrap_or o 0) (numbers_after s t u k good queue c.buffer.index))
          (after.bytes (memory_at s u c.buffer.index) (apart_memory s u c.buffer.index reached ready (busy j d within) (apart j d within)))
          device (on.memories j d within));
      out = λ i is.
          let was : is_idle (buffer_of q i).state ≡ false = on.out i (ap (λ (y : SessionQueue). list_any (λ j. j == i) y.out) (sym same) ∙ is) in
          let here : buffer_of (queue_of t u) i ≡ buffer_of (frame_queue good (next_timestamp s) k q) i = ap (λ (y : QueueState). buffer_of y i) queue in
          ap (λ (c : Buffer). is_idle c.state) here ∙ (elim (cases_eq i (head q)) as (λ _. is_idle (buffer_of (frame_queue good (next_timestamp s) k q) i).state ≡ false) [
            | inl at ↦ ap (λ j. is_idle (buffer_of (frame_queue good (next_timestamp s) k q) j).state) at
                ∙ ap (λ (c : Buffer). is_idle c.state) (frame_head good (next_timestamp s) k q there.0)
            | inr off ↦ ap (λ (c : Buffer). is_idle c.state) (frame_other good (next_timestamp s) k q i off) ∙ was
          ]);
      numbered = λ of_device i within.
          let inside : i < length q.buffers = omega (arith, within, ap (λ (y : QueueState). length y.buffers) queue, length-set q.buffers (head q) v) in
          numbers_after s t u k good queue i
          ∙ (on.numbered (ap (λ (y : QueueState). is_user_ptr y.memory) (sym queue) ∙ of_device) i inside
          ∙ ap (λ (y : SessionQueue). slice_get frames (y.first_frame + i)) (sym same));
    }

-- ---- a type that the model doesn't have

pub bare_on : (frames : List ℕ) (x : SessionState) (t : LocalState) (u : ℕ) → waiting x u ≡ [] → session_queue x u ≡ session_opening →
    queue_of t u ≡ opening_queue → StandsOn frames x t u
bare_on frames x t u none here there = record {
  format = ap (λ (y : SessionQueue). y.format) here ∙ ap (λ (y : QueueState). y.format) (sym there);
  kind = λ some. absurd (false≢true (sym some ∙ ap (λ (y : QueueState). is_empty y.buffers) there));
  lengths = ap (λ (y : SessionQueue). y.lengths) here ∙ ap (λ (y : QueueState). map (λ (c : Buffer). c.length) y.buffers) (sym there);
  streaming = ap (λ (y : SessionQueue). y.streaming) here ∙ ap (λ (y : QueueState). y.streaming) (sym there);
  sequence = ap (λ (y : SessionQueue). y.sequence) here ∙ ap (λ (y : QueueState). y.next_sequence) (sym there);
  order = ap (λ rs. map (λ (r : BufferRec). r.index) rs) none ∙ ap (λ (y : QueueState). y.queued) (sym there);
  records = subst (λ rs. All (IsRecordOf t u) rs) (sym none) (All-nil (IsRecordOf t u));
  memories = subst (λ (y : SessionQueue). All (λ (c : Queued). IsMemoryAt t u c.buffer.index c.held) y.queued) (sym here)
      (All-nil (λ (c : Queued). IsMemoryAt t u c.buffer.index c.held));
  out = λ i is. absurd (false≢true (ap (λ (y : SessionQueue). list_any (λ j. j == i) y.out) (sym here) ∙ is));
  numbered = λ device i within. absurd (omega (arith, within, ap (λ (y : QueueState). length y.buffers) there));
}
