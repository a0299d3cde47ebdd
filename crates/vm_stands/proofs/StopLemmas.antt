-- The calls that stop queues, in a quiet session.
use Rattle.std.proofs.Common.{◌≡◌, ◌≢◌, inl, inr, ℕ, ◌+◌, ◌<◌, ◌==◌, nat_lt, true, false, not, List, [], ◌∷◌, ◌++◌, length, get_or, set, map, All, Option, Some, None, is_some, unwrap_or, refl, sym, ap, ◌∙◌, subst, arith, slice_get, get_or-set_other}
use Rattle.std.specs.List.{list_any}
use Rattle.std.proofs.lemmas.Bool.{false≢true, cases_eq, and_parts, ltb-true}
use Rattle.std.proofs.lemmas.List.Elements.{All-nil, All-cons, All-head, All-tail}
use Rattle.v4l_const.specs.Model.{queues as types_of}
use Rattle.v4l_layout.specs.declared.buffer_rec.BufferRec.{BufferRec}
use Rattle.v4l_rules.specs.Queues.{place_in, has_type}
use Rattle.vm_frame.specs.declared.mem.Held.{Held}
use Rattle.vm_queue.specs.Buffers.{memories}
use Rattle.vm_queue.specs.declared.queued.Queued.{Queued}
use Rattle.vm_local.specs.State.{QueueState, LocalState, opening_queue, queue_of, buffer_of}
use Rattle.vm_local.specs.Kinds.{is_idle}
use Rattle.vm_local.specs.Memory.{bytes_of}
use Rattle.vm_local.specs.Queue.{is_empty, is_user_ptr, is_owed}
use Rattle.vm_local.specs.Live.{is_of_device}
use Rattle.vm_home.specs.Moves.{Place, places_on, queued_on, memory_at, AreMemories}
use Rattle.vm_home.specs.Reached.{IsReached}
use Rattle.vm_home.proofs.PlaceLemmas.{HasAt}
use Rattle.vm_home.proofs.RowLemmas.{device_made}
use Rattle.vm_home.proofs.FactLemmas.{Facts, facts_of}
use Rattle.vm_home.proofs.OwnLemmas.{number_made}
use Rattle.vm_exchange.specs.Exchange.{memory_number}
use Rattle.vm_session.specs.State.{SessionQueue, SessionState, opening_queue as session_opening, queue_of as session_queue, is_quiet}
use Rattle.vm_session.specs.Sound.{IsSound, taken_by, returning, indices_of}
use Rattle.vm_session.specs.declared.unsent.Unsent.{Unsent}
use Rattle.vm_stands.specs.Stands.{waiting, IsRecordOf, IsMemoryAt, StandsOn, Stands}
use Rattle.vm_stands.proofs.BegunLemmas.{some_empty, waits_idle}
use Rattle.vm_stands.proofs.HoldLemmas.{held_on, place_same}

-- ---- a quiet session

pub record Quiet (session : SessionState) : Type 0 where
  pub idle : session.running ≡ None
  pub sent : session.unsent ≡ []

pub quiet_is : (session : SessionState) → is_quiet session ≡ true → Quiet session
quiet_is session quiet =
    let both : _ = and_parts (not (is_some session.running)) (not (nat_lt 0 (length session.unsent))) quiet in
    record { idle = none session.running both.0; sent = bare session.unsent both.1 }
  where
    none : {A : Type 0} (o : Option A) → not (is_some o) ≡ true → o ≡ None
    none None is = refl
    none (Some x) is = absurd (false≢true is)

    bare : (es : List Unsent) → not (nat_lt 0 (length es)) ≡ true → es ≡ []
    bare [] is = refl
    bare (e ∷ es) is = absurd (false≢true (sym (ap not (some_empty (e ∷ es))) ∙ is))

-- nothing of it is out
pub none_out : (session : SessionState) (t : ℕ) → IsSound session → Quiet session → (session_queue session t).out ≡ []
none_out session t sound quiet =
    (sound.each t).out ∙ (λ j. indices_of t (returning (quiet.sent j) ++ taken_by (quiet.idle j)))

-- ---- a queue that has nothing queued any more

pub emptied_on : (frames : List ℕ) (x : SessionState) (y : LocalState) (t : ℕ) → x.running ≡ None → (session_queue x t).queued ≡ [] →
    (session_queue x t).out ≡ [] → (queue_of y t).queued ≡ [] → (session_queue x t).format ≡ (queue_of y t).format →
    (is_empty (queue_of y t).buffers ≡ false → (session_queue x t).kind ≡ memory_number (queue_of y t).memory) →
    (session_queue x t).lengths ≡ map (λ b. b.length) (queue_of y t).buffers → (session_queue x t).streaming ≡ (queue_of y t).streaming →
    (session_queue x t).sequence ≡ (queue_of y t).next_sequence →
    (is_user_ptr (queue_of y t).memory ≡ false → (i : ℕ) → i < length (queue_of y t).buffers →
    (buffer_of (queue_of y t) i).memory ≡ slice_get frames ((session_queue x t).first_frame + i)) → StandsOn frames x y t
emptied_on frames x y t idle queued out order format kind lengths streaming sequence numbered =
    let waits : waiting x t ≡ [] = waits_idle x t idle ∙ ap (λ qs. map (λ (b : Queued). b.buffer) qs) queued in
    record {
      format = format;
      kind = kind;
      lengths = lengths;
      streaming = streaming;
      sequence = sequence;
      order = ap (λ rs. map (λ (r : BufferRec). r.index) rs) waits ∙ sym order;
      records = subst (λ rs. All (IsRecordOf y t) rs) (sym waits) (All-nil (IsRecordOf y t));
      memories = subst (λ qs. All (λ (b : Queued). IsMemoryAt y t b.buffer.index b.held) qs) (sym queued) (All-nil (λ (b : Queued). IsMemoryAt y t b.buffer.index b.held));
      out = λ i is. absurd (false≢true (ap (λ (xs : List ℕ). list_any (λ j. j == i) xs) (sym out) ∙ is));
      numbered = numbered;
    }

-- ---- the other queues

-- one queue is another; the memories that there were keep their bytes
pub record IsPut (frames more : List ℕ) (session x : SessionState) (s y : LocalState) (t : ℕ) (v : SessionQueue) (w : QueueState) : Type 0 where
  pub model : y.model ≡ s.model
  pub running : x.running ≡ session.running
  pub there : (u : ℕ) → session_queue x u ≡ get_or (set session.queues (place_in (types_of session.model) t) v) (place_in (types_of session.model) u) session_opening
  pub here : (u : ℕ) → queue_of y u ≡ get_or (set s.queues (place_in (types_of s.model) t) w) (place_in (types_of s.model) u) opening_queue
  pub bytes : (m : ℕ) → m < length s.memories → bytes_of y m ≡ bytes_of s m
  pub device : (m : ℕ) → m < length s.memories → is_of_device y m ≡ true → is_of_device s m ≡ true
  pub more_frames : (k m : ℕ) → slice_get frames k ≡ Some m → slice_get more k ≡ Some m

-- the memory of a buffer that isn't Idle was made
busy_made : (s : LocalState) (u i : ℕ) → IsReached s → is_idle (buffer_of (queue_of s u) i).state ≡ false → memory_at s u i < length s.memories
busy_made s u i reached busy =
    let f : Facts s = facts_of s reached in
    let p : ℕ = place_in (types_of s.model) u in
    let has : (m : ℕ) × HasAt s.queues p i m = f.owns.has p i busy in
    omega (arith, number_made s f.sound p i has.0 has.1, ap (λ o. unwrap_or o 0) has.1)

pub put_each : (frames more : List ℕ) (session x : SessionState) (s y : LocalState) (t : ℕ) (v : SessionQueue) (w : QueueState) → Stands frames session s → IsReached s →
    has_type s.model t ≡ true → IsPut frames more session x s y t v w → StandsOn more x y t → (u : ℕ) → StandsOn more x y u
put_each frames more session x s y t v w stands reached has put mine u =
    let p : ℕ = place_in (types_of s.model) t in
    let k : ℕ = place_in (types_of s.model) u in
    let f : Facts s = facts_of s reached in
    elim (cases_eq k p) as (λ _. StandsOn more x y u) [
      | inl same ↦ subst (λ z. StandsOn more x y z) (sym (place_same (types_of s.model) t u same (ltb-true p (length (types_of s.model)) has))) mine
      | inr far ↦
          let first : place_in (types_of session.model) u ≢ place_in (types_of session.model) t = λ same.
          far (sym (ap (λ m. place_in (types_of m) u) stands.model) ∙ (same ∙ ap (λ m. place_in (types_of m) t) stands.model)) in
          let on : StandsOn frames session s u = stands.each u in
          held_on frames more session x s y u reached on (record {
            model = put.model;
            running = put.running;
            there = put.there u ∙ get_or-set_other session.queues (place_in (types_of session.model) t) (place_in (types_of session.model) u) v session_opening first;
            here = put.here u ∙ get_or-set_other s.queues p k w opening_queue far;
            bytes = λ j busy. put.bytes (memory_at s u j) (busy_made s u j reached busy);
            device = λ j busy of_device. put.device (memory_at s u j) (busy_made s u j reached busy) of_device;
          }) (λ bare j inside.
          let made : (buffer_of (queue_of s u) j).memory ≡ Some (unwrap_or (buffer_of (queue_of s u) j).memory 0) = device_made s f.sound u j inside bare in
          let was : slice_get frames ((session_queue session u).first_frame + j) ≡ Some (unwrap_or (buffer_of (queue_of s u) j).memory 0) = sym (on.numbered bare j inside) ∙ made in
          put.more_frames ((session_queue session u).first_frame + j) (unwrap_or (buffer_of (queue_of s u) j).memory 0) was ∙ sym was)
    ]

-- ---- the memories that come back

pub are_append : (s : LocalState) (ps qs : List Place) (hs ks : List Held) → AreMemories s ps hs → AreMemories s qs ks → AreMemories s (ps ++ qs) (hs ++ ks)
are_append s [] qs [] ks first second = second
are_append s [] qs (h ∷ hs) ks first second = absurd first
are_append s (p ∷ ps) qs [] ks first second = absurd first
are_append s (p ∷ ps) qs (h ∷ hs) ks first second = (first.0, first.1, first.2, are_append s ps qs hs ks first.3 second)

-- those of buffers that are queued
are_queued : (s : LocalState) (t : ℕ) (xs : List Queued) → All (λ (b : Queued). IsMemoryAt s t b.buffer.index b.held) xs →
    AreMemories s (places_on t (map (λ (r : BufferRec). r.index) (map (λ (b : Queued). b.buffer) xs))) (memories xs)
are_queued s t [] all = tt
are_queued s t (b ∷ bs) all =
    let P : Queued → Type 0 = λ x. IsMemoryAt s t x.buffer.index x.held in
    let one : P b = All-head P b bs all in
    (one.queue, one.index, one.memory, are_queued s t bs (All-tail P b bs all))

-- those of a queue, where no job runs
pub back_from : (frames : List ℕ) (session : SessionState) (s : LocalState) (t : ℕ) → StandsOn frames session s t → session.running ≡ None →
    AreMemories s (queued_on s t) (memories (session_queue session t).queued)
back_from frames session s t on idle =
    let xs : List Queued = (session_queue session t).queued in
    let order : map (λ (r : BufferRec). r.index) (map (λ (b : Queued). b.buffer) xs) ≡ (queue_of s t).queued =
    ap (λ rs. map (λ (r : BufferRec). r.index) rs) (sym (waits_idle session t idle)) ∙ on.order in
    subst (λ is. AreMemories s (places_on t is) (memories xs)) order (are_queued s t xs on.memories)

-- nothing is owed of a queue
pub none_owed : (s : LocalState) (ts : List ℕ) → s.owed ≡ [] → All (λ t. is_owed s t ≡ false) ts
none_owed s [] owed = All-nil (λ t. is_owed s t ≡ false)
none_owed s (t ∷ ts) owed = All-cons (λ u. is_owed s u ≡ false) t ts (ap (λ os. list_any (λ o. o.queue == t) os) owed) (none_owed s ts owed)
