-- A queue of a session that a call to another queue leaves as it was.
use Rattle.std.proofs.Common.{◌≡◌, inl, inr, ℕ, ◌+◌, ◌<◌, ◌==◌, true, false, not, List, [], ◌∷◌, ◌++◌, length, get_or, map, All, refl, sym, ap, ◌∙◌, subst, arith, slice_get, if◌then◌else◌}
use Rattle.std.specs.List.{list_any}
use Rattle.std.proofs.lemmas.Bool.{cases_Bool, eqb-true}
use Rattle.std.proofs.lemmas.List.Elements.{All-drop}
use Rattle.std.proofs.Math.Seq.{drop-append_seam}
use Rattle.v4l_layout.specs.declared.buffer_rec.BufferRec.{BufferRec}
use Rattle.v4l_rules.specs.Queues.{place_in}
use Rattle.vm_frame.specs.declared.mem.Held.{Held}
use Rattle.vm_queue.specs.declared.queued.Queued.{Queued}
use Rattle.vm_local.specs.declared.buffer.Buffer.{Buffer}
use Rattle.vm_local.specs.declared.buffer.BufferState.TheVariants.{Queued as AsQueued}
use Rattle.vm_local.specs.State.{QueueState, LocalState, queue_of, buffer_of}
use Rattle.vm_local.specs.Kinds.{is_idle}
use Rattle.vm_local.specs.Memory.{bytes_of}
use Rattle.vm_local.specs.Queue.{is_empty, is_user_ptr}
use Rattle.vm_local.specs.Listed.{IsThere}
use Rattle.vm_local.specs.Live.{is_of_device}
use Rattle.vm_local.specs.Steps.{number_of}
use Rattle.vm_home.specs.Home.{IsMemory}
use Rattle.vm_home.specs.Moves.{memory_at}
use Rattle.vm_home.specs.Reached.{IsReached}
use Rattle.vm_exchange.specs.Exchange.{memory_number}
use Rattle.vm_session.specs.State.{SessionQueue, SessionState, queue_of as session_queue}
use Rattle.vm_session.specs.Sound.{taken_by}
use Rattle.vm_stands.specs.Stands.{of_type, waiting, IsRecordOf, IsMemoryAt, StandsOn}
use Rattle.vm_stands.proofs.AlikeLemmas.{fixed_here, still_record}
use Rattle.vm_stands.proofs.NextLemmas.{of_images, waiting_there}

-- ---- the buffers that are queued

pub all_behind : {A : Type 0} (P : A → Type 0) (xs ys : List A) → All P (xs ++ ys) → All P ys
all_behind P xs ys all = subst (λ zs. All P zs) (drop-append_seam xs ys) (All-drop P (length xs) (xs ++ ys) all)

-- those that the session has queued are Queued
pub queued_there : (frames : List ℕ) (session : SessionState) (s : LocalState) (t : ℕ) → IsReached s → StandsOn frames session s t →
    All (λ (b : Queued). IsThere AsQueued (queue_of s t) b.buffer.index) (session_queue session t).queued
queued_there frames session s t reached on =
    let P : BufferRec → Type 0 = λ r. IsThere AsQueued (queue_of s t) r.index in
    let q : List Queued = (session_queue session t).queued in
    of_images P (λ (b : Queued). b.buffer) q
    (all_behind P (of_type t (taken_by session.running)) (map (λ (b : Queued). b.buffer) q) (waiting_there frames session s t reached on))

-- ---- a queue that stays

-- what a call leaves as it was of the queue of type u
pub record IsHeld (session x : SessionState) (s t : LocalState) (u : ℕ) : Type 0 where
  pub model : t.model ≡ s.model
  pub running : x.running ≡ session.running
  pub there : session_queue x u ≡ session_queue session u
  pub here : queue_of t u ≡ queue_of s u
  pub bytes : (i : ℕ) → is_idle (buffer_of (queue_of s u) i).state ≡ false → bytes_of t (memory_at s u i) ≡ bytes_of s (memory_at s u i)
  pub device : (i : ℕ) → is_idle (buffer_of (queue_of s u) i).state ≡ false → is_of_device t (memory_at s u i) ≡ true → is_of_device s (memory_at s u i) ≡ true

held_memory : (session x : SessionState) (s t : LocalState) (u i : ℕ) (h : Held) → IsHeld session x s t u → is_idle (buffer_of (queue_of s u) i).state ≡ false →
    IsMemoryAt s u i h → IsMemoryAt t u i h
held_memory session x s t u i h held busy is =
    let number : memory_at s u i ≡ memory_at t u i = ap (λ (q : QueueState). number_of (buffer_of q i)) (sym held.here) in
    let P : ℕ → Type 0 = λ m. IsMemory t m h.mem in
    let here : IsMemory t (memory_at s u i) h.mem = record {
      bytes = is.memory.bytes ∙ sym (held.bytes i busy);
      frame = λ device. is.memory.frame (held.device i busy device);
    } in
    record { queue = is.queue; index = is.index; memory = subst P number here }

pub held_on : (frames more : List ℕ) (session x : SessionState) (s t : LocalState) (u : ℕ) → IsReached s → StandsOn frames session s u → IsHeld session x s t u →
    (is_user_ptr (queue_of s u).memory ≡ false → (i : ℕ) → i < length (queue_of s u).buffers →
    slice_get more ((session_queue session u).first_frame + i) ≡ slice_get frames ((session_queue session u).first_frame + i)) → StandsOn more x t u
held_on frames more session x s t u reached on held numbers =
    let there : session_queue x u ≡ session_queue session u = held.there in
    let here : queue_of t u ≡ queue_of s u = held.here in
    let waits : waiting x u ≡ waiting session u =
    ap (λ o. of_type u (taken_by o) ++ map (λ (b : Queued). b.buffer) (session_queue x u).queued) held.running
    ∙ ap (λ (q : SessionQueue). of_type u (taken_by session.running) ++ map (λ (b : Queued). b.buffer) q.queued) there in
    let those : All (λ (b : Queued). IsThere AsQueued (queue_of s u) b.buffer.index) (session_queue session u).queued = queued_there frames session s u reached on in
    record {
      format = ap (λ (q : SessionQueue). q.format) there ∙ (on.format ∙ ap (λ (q : QueueState). q.format) (sym here));
      kind = λ some. ap (λ (q : SessionQueue). q.kind) there
          ∙ (on.kind (ap (λ (q : QueueState). is_empty q.buffers) (sym here) ∙ some) ∙ ap (λ (q : QueueState). memory_number q.memory) (sym here));
      lengths = ap (λ (q : SessionQueue). q.lengths) there ∙ (on.lengths ∙ ap (λ (q : QueueState). map (λ (b : Buffer). b.length) q.buffers) (sym here));
      streaming = ap (λ (q : SessionQueue). q.streaming) there ∙ (on.streaming ∙ ap (λ (q : QueueState). q.streaming) (sym here));
      sequence = ap (λ (q : SessionQueue). q.sequence) there ∙ (on.sequence ∙ ap (λ (q : QueueState). q.next_sequence) (sym here));
      order = ap (λ rs. map (λ (r : BufferRec). r.index) rs) waits ∙ (on.order ∙ ap (λ (q : QueueState). q.queued) (sym here));
      records = subst (λ rs. All (IsRecordOf t u) rs) (sym waits)
          (λ k d within. still_record s t u (get_or (waiting session u) k d) held.model (ap fixed_here here) (on.records k d within));
      memories = subst (λ (q : SessionQueue). All (λ (b : Queued). IsMemoryAt t u b.buffer.index b.held) q.queued) (sym there) (λ k d within.
          let b : Queued = get_or (session_queue session u).queued k d in
          held_memory session x s t u b.buffer.index b.held held (ap is_idle (those k d within).1) (on.memories k d within));
      out = λ i is. ap (λ (q : QueueState). is_idle (buffer_of q i).state) here ∙ on.out i (ap (λ (q : SessionQueue). list_any (λ j. j == i) q.out) (sym there) ∙ is);
      numbered = λ device i within.
          let its : is_user_ptr (queue_of s u).memory ≡ false = ap (λ (q : QueueState). is_user_ptr q.memory) (sym here) ∙ device in
          let inside : i < length (queue_of s u).buffers = subst (λ n. i < n) (ap (λ (q : QueueState). length q.buffers) here) within in
          ap (λ (q : QueueState). (buffer_of q i).memory) here
          ∙ (on.numbered its i inside ∙ (sym (numbers its i inside) ∙ ap (λ (q : SessionQueue). slice_get more (q.first_frame + i)) (sym there)));
    }

-- ---- types

-- types at one place are the same, where the model has one there
pub place_same : (types : List ℕ) (t u : ℕ) → place_in types u ≡ place_in types t → place_in types t < length types → u ≡ t
place_same [] t u same within = absurd (omega (arith, within))
place_same (x ∷ xs) t u same within = elim (cases_Bool (x == t)) as (λ _. u ≡ t) [
  | inl is ↦ elim (cases_Bool (x == u)) as (λ _. u ≡ t) [
    | inl was ↦ sym (eqb-true x u was) ∙ eqb-true x t is
    | inr not ↦ absurd (omega (arith, same, first x u (place_in xs u) not, here x t (place_in xs t) is))
  ]
  | inr other ↦ elim (cases_Bool (x == u)) as (λ _. u ≡ t) [
    | inl was ↦ absurd (omega (arith, same, here x u (place_in xs u) was, first x t (place_in xs t) other))
    | inr not ↦ place_same xs t u (omega (arith, same, first x u (place_in xs u) not, first x t (place_in xs t) other))
        (omega (arith, within, first x t (place_in xs t) other))
  ]
]
  where
    here : (a b n : ℕ) → (a == b) ≡ true → (if a == b then 0 else n + 1) ≡ 0
    here a b n is = rw is refl

    first : (a b n : ℕ) → (a == b) ≡ false → (if a == b then 0 else n + 1) ≡ n + 1
    first a b n is = rw is refl
