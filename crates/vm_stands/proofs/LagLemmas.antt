-- Two states of a handle: that before, and that after a call which the driver answered by itself. The device makes the same
-- steps from both.
use Rattle.std.proofs.Common.{◌≡◌, ◌⊎◌, inl, inr, ℕ, ◌+◌, ◌*◌, ◌%◌, ◌^◌, ◌<◌, ◌&&◌, ◌||◌, Bool, true, false, not, List, length, get_or, drop, Option, Some, None, unwrap_or, refl, sym, ap, ◌∙◌, subst, arith, length-set}
use Rattle.std.specs.Prelude.{slice_index}
use Rattle.std.specs.List.{list_any}
use Rattle.std.proofs.lemmas.Bool.{false≢true, cases_eq, cases_Bool, ltb-true}
use Rattle.v4l_const.specs.Model.{queues as types_of, source_queue, picture_queue}
use Rattle.v4l_rules.specs.Queues.{place_in, has_type}
use Rattle.vm_local.specs.declared.buffer.Buffer.{Buffer}
use Rattle.vm_local.specs.declared.buffer.BufferState.{BufferState}
use Rattle.vm_local.specs.declared.buffer.BufferState.TheVariants.{Idle, Queued, Owed, Done}
use Rattle.vm_local.specs.declared.owed.Owed.{Owed as OwedEntry}
use Rattle.vm_local.specs.State.{QueueState, LocalState, opening_queue, queue_of, no_buffer, buffer_of}
use Rattle.vm_local.specs.Kinds.{is_idle}
use Rattle.vm_local.specs.Memory.{bytes_of, is_just}
use Rattle.vm_local.specs.Queue.{is_empty, is_user_ptr, can_finish, made_idle}
use Rattle.vm_local.specs.Listed.{IsThere}
use Rattle.vm_local.specs.Live.{is_of_device}
use Rattle.vm_local.specs.Steps.{head, head_buffer, number_of, target, next_timestamp, timestamp_from, next_picture, picture_from}
use Rattle.vm_commute.proofs.ReachedLemmas.{many_queues}
use Rattle.vm_home.specs.Moves.{memory_at}
use Rattle.vm_home.specs.Reached.{IsReached}
use Rattle.vm_home.proofs.PlaceLemmas.{HasAt}
use Rattle.vm_home.proofs.RowLemmas.{type_at}
use Rattle.vm_home.proofs.FactLemmas.{Facts, facts_of}
use Rattle.vm_stands.proofs.AlikeLemmas.{any_alike}
use Rattle.vm_stands.proofs.BegunLemmas.{all_alike}
use Rattle.vm_stands.proofs.NextLemmas.{has_picture, has_source}
use Rattle.vm_stands.proofs.FrameLemmas.{frame_buffer, frame_queue, After, frame_other, frame_head}
use Rattle.vm_stands.proofs.FinishedLemmas.{frame_by}
use Rattle.vm_stands.proofs.HoldLemmas.{place_same}
use Rattle.vm_stands.proofs.StayLemmas.{IsNextAlike, picture_alike, target_alike, first_there}

-- ---- the two states

-- a buffer is the same, or it was Done and is Idle now
abbrev pub IsLagBuffer : Buffer → Buffer → Type 0
IsLagBuffer b c = (c ≡ b) ⊎ ((b.state ≡ Done) × (c ≡ made_idle b))

pub record IsLagQueue (q v : QueueState) : Type 0 where
  pub format : v.format ≡ q.format
  pub memory : v.memory ≡ q.memory
  pub streaming : v.streaming ≡ q.streaming
  pub queued : v.queued ≡ q.queued
  pub sequence : v.next_sequence ≡ q.next_sequence
  pub many : length v.buffers ≡ length q.buffers
  pub buffers : (i : ℕ) → IsLagBuffer (buffer_of q i) (buffer_of v i)

pub lag_itself : (q : QueueState) → IsLagQueue q q
lag_itself q = record { format = refl; memory = refl; streaming = refl; queued = refl; sequence = refl; many = refl; buffers = λ i. inl refl }

-- The queues are the same but for buffers that the driver took, and so are the bytes of the memories of buffers that aren't
-- Idle.
pub record IsLag (s t : LocalState) : Type 0 where
  pub model : t.model ≡ s.model
  pub opened : t.opened ≡ s.opened
  pub input : t.input ≡ s.input
  pub owed : t.owed ≡ s.owed
  pub queues : (u : ℕ) → IsLagQueue (queue_of s u) (queue_of t u)
  pub bytes : (u i m : ℕ) → is_idle (buffer_of (queue_of t u) i).state ≡ false → (buffer_of (queue_of t u) i).memory ≡ Some m → bytes_of t m ≡ bytes_of s m

-- a buffer that isn't Done is the same
pub lag_busy : (b c : Buffer) → IsLagBuffer b c → (b.state ≡ Done → ⊥) → c ≡ b
lag_busy b c (inl same) apart = same
lag_busy b c (inr done) apart = absurd (apart done.0)

queued_apart : (st : BufferState) → st ≡ Queued → st ≡ Done → ⊥
queued_apart st is was = false≢true (ap is_done_state (sym is ∙ was))
  where
    is_done_state : BufferState → Bool
    is_done_state Idle = false
    is_done_state Queued = false
    is_done_state Owed = false
    is_done_state Done = true

owed_apart : (st : BufferState) → st ≡ Owed → st ≡ Done → ⊥
owed_apart st is was = false≢true (ap is_done_state (sym is ∙ was))
  where
    is_done_state : BufferState → Bool
    is_done_state Idle = false
    is_done_state Queued = false
    is_done_state Owed = false
    is_done_state Done = true

pub lag_queued : (s t : LocalState) (u i : ℕ) → IsLag s t → (buffer_of (queue_of s u) i).state ≡ Queued → buffer_of (queue_of t u) i ≡ buffer_of (queue_of s u) i
lag_queued s t u i lag is = lag_busy (buffer_of (queue_of s u) i) (buffer_of (queue_of t u) i) ((lag.queues u).buffers i) (queued_apart (buffer_of (queue_of s u) i).state is)

pub lag_owed : (s t : LocalState) (u i : ℕ) → IsLag s t → (buffer_of (queue_of s u) i).state ≡ Owed → buffer_of (queue_of t u) i ≡ buffer_of (queue_of s u) i
lag_owed s t u i lag is = lag_busy (buffer_of (queue_of s u) i) (buffer_of (queue_of t u) i) ((lag.queues u).buffers i) (owed_apart (buffer_of (queue_of s u) i).state is)

-- what of a buffer stays in any case
pub lag_length : (b c : Buffer) → IsLagBuffer b c → c.length ≡ b.length
lag_length b c (inl same) = ap (λ (x : Buffer). x.length) same
lag_length b c (inr done) = ap (λ (x : Buffer). x.length) done.1

pub lag_memory : (b c : Buffer) → IsLagBuffer b c → c.memory ≡ b.memory
lag_memory b c (inl same) = ap (λ (x : Buffer). x.memory) same
lag_memory b c (inr done) = ap (λ (x : Buffer). x.memory) done.1

-- ---- places

at_place : (s t : LocalState) → IsReached s → IsLag s t → (p : ℕ) → p < length s.queues → IsLagQueue (get_or s.queues p opening_queue) (get_or t.queues p opening_queue)
at_place s t reached lag p within =
    let u : ℕ = get_or (types_of s.model) p 0 in
    let here : place_in (types_of s.model) u ≡ p = type_at s.model p (omega (arith, within, many_queues s reached)) in
    let there : place_in (types_of t.model) u ≡ p = ap (λ m. place_in (types_of m) u) lag.model ∙ here in
    let P : ℕ → Type 0 = λ k. IsLagQueue (get_or s.queues k opening_queue) (queue_of t u) in
    let Q : ℕ → Type 0 = λ k. IsLagQueue (get_or s.queues p opening_queue) (get_or t.queues k opening_queue) in
    subst Q there (subst P here (lag.queues u))

many_alike : (s t : LocalState) → IsReached s → IsReached t → IsLag s t → length t.queues ≡ length s.queues
many_alike s t reached there lag = many_queues t there ∙ (ap (λ m. length (types_of m)) lag.model ∙ sym (many_queues s reached))

pub lag_device : (s t : LocalState) → IsReached s → IsReached t → IsLag s t → (m : ℕ) → is_of_device t m ≡ is_of_device s m
lag_device s t reached there lag m =
    let test : Buffer → Bool = λ b. is_just b.memory m in
    let at : QueueState → Bool = λ q. not (is_user_ptr q.memory) && list_any test q.buffers in
    let long : length t.queues ≡ length s.queues = many_alike s t reached there lag in
    any_alike at at opening_queue opening_queue t.queues s.queues long (λ p within.
    let q : QueueState = get_or s.queues p opening_queue in
    let v : QueueState = get_or t.queues p opening_queue in
    let l : IsLagQueue q v = at_place s t reached lag p (omega (arith, within, long)) in
    let some : list_any test v.buffers ≡ list_any test q.buffers =
    any_alike test test no_buffer no_buffer v.buffers q.buffers l.many (λ i inside. ap (λ o. is_just o m) (lag_memory (buffer_of q i) (buffer_of v i) (l.buffers i))) in
    λ j. not (is_user_ptr (l.memory j)) && some j)

pub lag_finish : (s t : LocalState) → IsReached s → IsReached t → IsLag s t → can_finish t ≡ can_finish s
lag_finish s t reached there lag =
    let test : QueueState → Bool = λ q. q.streaming && not (is_empty q.queued) in
    let long : length t.queues ≡ length s.queues = many_alike s t reached there lag in
    all_alike test test opening_queue opening_queue t.queues s.queues long (λ p within.
    let l : IsLagQueue (get_or s.queues p opening_queue) (get_or t.queues p opening_queue) = at_place s t reached lag p (omega (arith, within, long)) in
    λ j. l.streaming j && not (is_empty (l.queued j)))

-- ---- the next frame

pub head_same : (s t : LocalState) (u : ℕ) → IsLag s t → head (queue_of t u) ≡ head (queue_of s u)
head_same s t u lag = ap (λ xs. slice_index xs 0) (lag.queues u).queued

head_buffer_same : (s t : LocalState) (u : ℕ) → IsReached s → can_finish s ≡ true → has_type s.model u ≡ true → IsLag s t → head_buffer (queue_of t u) ≡ head_buffer (queue_of s u)
head_buffer_same s t u reached ready has lag =
    ap (λ i. buffer_of (queue_of t u) i) (head_same s t u lag)
    ∙ lag_queued s t u (head (queue_of s u)) lag (first_there s u reached ready has).1

-- the memory of a buffer that isn't Idle
pub busy_bytes : (s t : LocalState) (u i : ℕ) → IsReached s → IsLag s t → is_idle (buffer_of (queue_of s u) i).state ≡ false → buffer_of (queue_of t u) i ≡ buffer_of (queue_of s u) i →
    bytes_of t (memory_at s u i) ≡ bytes_of s (memory_at s u i)
busy_bytes s t u i reached lag busy same =
    let f : Facts s = facts_of s reached in
    let has : (m : ℕ) × HasAt s.queues (place_in (types_of s.model) u) i m = f.owns.has (place_in (types_of s.model) u) i busy in
    let number : memory_at s u i ≡ has.0 = ap (λ o. unwrap_or o 0) has.1 in
    ap (λ m. bytes_of t m) number
    ∙ (lag.bytes u i has.0 (ap (λ (b : Buffer). is_idle b.state) same ∙ busy) (ap (λ (b : Buffer). b.memory) same ∙ has.1) ∙ ap (λ m. bytes_of s m) (sym number))

pub lag_next : (s t : LocalState) → IsReached s → IsReached t → can_finish s ≡ true → IsLag s t → IsNextAlike s t
lag_next s t reached there ready lag = record {
  model = lag.model;
  input = lag.input;
  ready = lag_finish s t reached there lag ∙ ready;
  format = λ u has. (lag.queues u).format;
  sequence = λ u has. (lag.queues u).sequence;
  first = λ u has. head_same s t u lag;
  memory = λ u has. ap (λ (b : Buffer). number_of b) (lag_queued s t u (head (queue_of s u)) lag (first_there s u reached ready has).1);
  bytes = λ u has.
      let queued : (head_buffer (queue_of s u)).state ≡ Queued = (first_there s u reached ready has).1 in
      busy_bytes s t u (head (queue_of s u)) reached lag (ap is_idle queued) (lag_queued s t u (head (queue_of s u)) lag queued);
  device = λ m is. sym (lag_device s t reached there lag m) ∙ is;
}

-- the timestamp is the same
timestamp_same : (s t : LocalState) (o : Option ℕ) → IsReached s → can_finish s ≡ true → IsLag s t → ((u : ℕ) → o ≡ Some u → has_type s.model u ≡ true) →
    timestamp_from o t ≡ timestamp_from o s
timestamp_same s t None reached ready lag has =
    ap (λ n. n * 40000) (target_alike s t (λ q. q.next_sequence) lag.model (λ u has. (lag.queues u).sequence))
timestamp_same s t (Some u) reached ready lag has = ap (λ (b : Buffer). b.timestamp) (head_buffer_same s t u reached ready (has u refl) lag)

stamp_same : (s t : LocalState) → IsReached s → can_finish s ≡ true → IsLag s t → next_timestamp t ≡ next_timestamp s
stamp_same s t reached ready lag =
    ap (λ m. timestamp_from (source_queue m) t) lag.model
    ∙ timestamp_same s t (source_queue s.model) reached ready lag (λ u is. has_source s.model u is)

pub picture_same : (s t : LocalState) → IsReached s → IsReached t → can_finish s ≡ true → IsLag s t → next_picture t ≡ next_picture s
picture_same s t reached there ready lag =
    ap (λ m. picture_from (source_queue m) t) lag.model
    ∙ picture_alike s t (source_queue s.model) (lag_next s t reached there ready lag) (λ u is. has_source s.model u is)

-- ---- a frame

lag_frame : (good : Bool) (ts n : ℕ) (q v : QueueState) → IsLagQueue q v → head q < length q.buffers → head_buffer v ≡ head_buffer q → head v ≡ head q →
    IsLagQueue (frame_queue good ts n q) (frame_queue good ts n v)
lag_frame good ts n q v lag within same at =
    let b : frame_buffer good ts n v ≡ frame_buffer good ts n q =
    λ j. record { state = Owed; length = (same j).length; used = n; sequence = lag.sequence j; timestamp = ts; is_bad = (same j).is_bad || not good; memory = (same j).memory } in
    let inside : head v < length v.buffers = omega (arith, within, at, lag.many) in
    record {
      format = lag.format;
      memory = lag.memory;
      streaming = lag.streaming;
      queued = ap (λ xs. drop 1 xs) lag.queued;
      sequence = ap (λ k. (k + 1) % 2 ^ 32) lag.sequence;
      many = length-set v.buffers (head v) (frame_buffer good ts n v) ∙ (lag.many ∙ sym (length-set q.buffers (head q) (frame_buffer good ts n q)));
      buffers = λ i. elim (cases_eq i (head q)) as (λ _. IsLagBuffer (buffer_of (frame_queue good ts n q) i) (buffer_of (frame_queue good ts n v) i)) [
        | inl is ↦ inl (ap (λ k. buffer_of (frame_queue good ts n v) k) (is ∙ sym at)
            ∙ (frame_head good ts n v inside ∙ (b ∙ (sym (frame_head good ts n q within) ∙ ap (λ k. buffer_of (frame_queue good ts n q) k) (sym is)))))
        | inr far ↦
            let here : buffer_of (frame_queue good ts n q) i ≡ buffer_of q i = frame_other good ts n q i far in
            let there : buffer_of (frame_queue good ts n v) i ≡ buffer_of v i = frame_other good ts n v i (λ is. far (is ∙ at)) in
            let P : Buffer → Type 0 = λ x. IsLagBuffer x (buffer_of (frame_queue good ts n v) i) in
            let Q : Buffer → Type 0 = λ x. IsLagBuffer (buffer_of q i) x in
            subst P (sym here) (subst Q (sym there) (lag.buffers i))
      ];
    }

-- the queue of type u behind a frame, in both
pub lag_behind : (s t : LocalState) (good : Bool) (u n k : ℕ) (e es : List OwedEntry) → IsReached s → IsReached t → can_finish s ≡ true → IsLag s t →
    After s (frame_by good s) good n e → After t (frame_by good t) good k es → n ≡ k → IsLagQueue (queue_of (frame_by good s) u) (queue_of (frame_by good t) u)
lag_behind s t good u n k e es reached there ready lag a b used =
    let c : ℕ = picture_queue s.model in
    let types : has_type t.model u ≡ has_type s.model u = ap (λ m. has_type m u) lag.model in
    elim (cases_Bool (has_type s.model u)) as (λ _. IsLagQueue (queue_of (frame_by good s) u) (queue_of (frame_by good t) u)) [
      | inr hasnt ↦ subst (λ x. IsLagQueue x (queue_of (frame_by good t) u)) (sym (a.none u hasnt))
          (subst (λ y. IsLagQueue opening_queue y) (sym (b.none u (types ∙ hasnt))) (lag_itself opening_queue))
      | inl has ↦
          let here : IsThere Queued (queue_of s u) (head (queue_of s u)) = first_there s u reached ready has in
          let same : head_buffer (queue_of t u) ≡ head_buffer (queue_of s u) = head_buffer_same s t u reached ready has lag in
          let at : head (queue_of t u) ≡ head (queue_of s u) = head_same s t u lag in
          let first : (m : ℕ) × (queue_of (frame_by good s) u ≡ frame_queue good (next_timestamp s) m (queue_of s u)) × (queue_of (frame_by good t) u ≡ frame_queue good (next_timestamp t) m (queue_of t u)) =
          both s t good u n k e es lag a b used has same in
          let P : QueueState → Type 0 = λ x. IsLagQueue x (queue_of (frame_by good t) u) in
          let Q : QueueState → Type 0 = λ y. IsLagQueue (frame_queue good (next_timestamp s) first.0 (queue_of s u)) y in
          let R : ℕ → Type 0 = λ ts. IsLagQueue (frame_queue good (next_timestamp s) first.0 (queue_of s u)) (frame_queue good ts first.0 (queue_of t u)) in
          subst P (sym first.1) (subst Q (sym first.2) (subst R (sym (stamp_same s t reached ready lag))
          (lag_frame good (next_timestamp s) first.0 (queue_of s u) (queue_of t u) (lag.queues u) here.0 same at)))
    ]
  where
    both : (s t : LocalState) (good : Bool) (u n k : ℕ) (e es : List OwedEntry) → IsLag s t → After s (frame_by good s) good n e → After t (frame_by good t) good k es → n ≡ k →
        has_type s.model u ≡ true → head_buffer (queue_of t u) ≡ head_buffer (queue_of s u) →
        (m : ℕ) × (queue_of (frame_by good s) u ≡ frame_queue good (next_timestamp s) m (queue_of s u)) × (queue_of (frame_by good t) u ≡ frame_queue good (next_timestamp t) m (queue_of t u))
    both s t good u n k e es lag a b used has same =
        let c : ℕ = picture_queue s.model in
        let d : ℕ = picture_queue t.model in
        let types : has_type t.model u ≡ true = ap (λ m. has_type m u) lag.model ∙ has in
        elim (cases_eq (place_in (types_of s.model) u) (place_in (types_of s.model) c)) as (λ _. (m : ℕ) × (queue_of (frame_by good s) u ≡ frame_queue good (next_timestamp s) m (queue_of s u)) × (queue_of (frame_by good t) u ≡ frame_queue good (next_timestamp t) m (queue_of t u))) [
          | inl is ↦
              let mine : u ≡ c = place_same (types_of s.model) c u is (ltb-true (place_in (types_of s.model) c) (length (types_of s.model)) (has_picture s.model)) in
              let its : u ≡ d = mine ∙ ap (λ m. picture_queue m) (sym lag.model) in (
                n,
                subst (λ w. queue_of (frame_by good s) w ≡ frame_queue good (next_timestamp s) n (queue_of s w)) (sym mine) a.picture,
                subst (λ w. queue_of (frame_by good t) w ≡ frame_queue good (next_timestamp t) n (queue_of t w)) (sym its)
                    (b.picture ∙ ap (λ m. frame_queue good (next_timestamp t) m (target t)) (sym used)),
              )
          | inr far ↦ (
            (head_buffer (queue_of s u)).used,
            a.other u has far,
            b.other u types (λ is. far (sym (ap (λ m. place_in (types_of m) u) lag.model) ∙ (is ∙ ap (λ m. place_in (types_of m) (picture_queue m)) lag.model)))
                ∙ ap (λ (x : Buffer). frame_queue good (next_timestamp t) x.used (queue_of t u)) same,
          )
        ]
