-- What a session and the handle that it stands for have alike, and what goes on standing for what.
use Rattle.std.proofs.Common.{◌≡◌, ℕ, zero, suc, ◌+◌, ◌<◌, ◌==◌, ◌&&◌, nat_lt, Bool, false, not, List, [], ◌∷◌, ◌++◌, length, get_or, map, All, Option, Some, None, refl, sym, ap, ◌∙◌, subst, arith, slice_get}
use Rattle.std.specs.List.{list_any}
use Rattle.std.specs.Option.{option_map}
use Rattle.std.proofs.lemmas.List.{length-map}
use Rattle.std.proofs.Math.ListN.{get_or-map}
use Rattle.v4l_const.specs.declared.four_cc.FourCc.{FourCc}
use Rattle.v4l_const.specs.Model.{queues as types_of, source_queue}
use Rattle.v4l_layout.specs.declared.buffer_rec.BufferRec.{BufferRec}
use Rattle.v4l_rules.specs.Formats.{first_format, adjusted_from, is_source}
use Rattle.v4l_rules.specs.Queues.{place_in}
use Rattle.vm_frame.specs.declared.mem.Held.{Held}
use Rattle.vm_queue.specs.declared.queued.Queued.{Queued}
use Rattle.vm_local.specs.declared.buffer.Buffer.{Buffer}
use Rattle.vm_local.specs.State.{QueueState, LocalState, opening_queue, queue_of, no_buffer, buffer_of}
use Rattle.vm_local.specs.Kinds.{is_idle}
use Rattle.vm_local.specs.Memory.{is_just}
use Rattle.vm_local.specs.Queue.{is_empty, is_user_ptr, has_buffers, is_streaming, adjusted_for}
use Rattle.vm_local.specs.Live.{is_of_device}
use Rattle.vm_local.specs.Steps.{number_of}
use Rattle.vm_home.specs.Home.{IsMemory}
use Rattle.vm_home.specs.Moves.{memory_at}
use Rattle.vm_home.proofs.RowLemmas.{type_at}
use Rattle.vm_exchange.specs.Exchange.{memory_number}
use Rattle.vm_session.specs.State.{SessionQueue, SessionState, opening_queue as session_opening, queue_of as session_queue, queue_has_buffers, has_buffers as session_has, is_streaming as session_streams, adjusted_for as session_adjusted}
use Rattle.vm_session.specs.Sound.{IsSound, taken_by}
use Rattle.vm_stands.specs.Stands.{seconds_of, micros_of, of_type, waiting, IsPictureTold, IsRecordOf, IsMemoryAt, StandsOn, Stands}
use Rattle.vm_stands.proofs.BegunLemmas.{some_empty}

-- ---- lists

pub any_alike : {A B : Type 0} (p : A → Bool) (q : B → Bool) (d : A) (e : B) (xs : List A) (ys : List B) → length xs ≡ length ys →
    ((k : ℕ) → k < length xs → p (get_or xs k d) ≡ q (get_or ys k e)) → list_any p xs ≡ list_any q ys
any_alike p q d e [] [] long same = refl
any_alike p q d e [] (y ∷ ys) long same = absurd (omega (arith, long))
any_alike p q d e (x ∷ xs) [] long same = absurd (omega (arith, long))
any_alike p q d e (x ∷ xs) (y ∷ ys) long same =
    rw (same zero (omega arith), any_alike p q d e xs ys (omega (arith, long)) (λ k within. same (suc k) (omega (arith, within)))) refl

-- what is so of the queues of each type is so of those at each place
pub at_place : (frames : List ℕ) (session : SessionState) (s : LocalState) → Stands frames session s → IsSound session → (P : SessionQueue → QueueState → Type 0) →
    ((t : ℕ) → P (session_queue session t) (queue_of s t)) → (k : ℕ) → k < length session.queues → P (get_or session.queues k session_opening) (get_or s.queues k opening_queue)
at_place frames session s stands sound P each k within =
    let t : ℕ = get_or (types_of s.model) k 0 in
    let long : length (types_of session.model) ≡ length (types_of s.model) = ap (λ m. length (types_of m)) stands.model in
    let there : place_in (types_of s.model) t ≡ k = type_at s.model k (omega (arith, within, sound.queues, long)) in
    let here : place_in (types_of session.model) t ≡ k = ap (λ m. place_in (types_of m) t) stands.model ∙ there in
    let Q : ℕ → Type 0 = λ p. P (get_or session.queues p session_opening) (get_or s.queues k opening_queue) in
    let R : ℕ → Type 0 = λ p. P (session_queue session t) (get_or s.queues p opening_queue) in
    subst Q here (subst R there (each t))

-- ---- buffers, streaming, formats

pub many_alike : (frames : List ℕ) (session : SessionState) (s : LocalState) (t : ℕ) → StandsOn frames session s t →
    length (session_queue session t).lengths ≡ length (queue_of s t).buffers
many_alike frames session s t on = ap (λ xs. length xs) on.lengths ∙ length-map (queue_of s t).buffers (λ b. b.length)

pub empty_map : {A B : Type 0} (f : A → B) (xs : List A) → is_empty (map f xs) ≡ is_empty xs
empty_map f [] = refl
empty_map f (x ∷ xs) = refl

pub some_alike : (frames : List ℕ) (session : SessionState) (s : LocalState) (t : ℕ) → StandsOn frames session s t →
    queue_has_buffers (session_queue session t) ≡ not (is_empty (queue_of s t).buffers)
some_alike frames session s t on =
    ap (λ xs. nat_lt 0 (length xs)) on.lengths
    ∙ (some_empty (map (λ (b : Buffer). b.length) (queue_of s t).buffers) ∙ ap not (empty_map (λ (b : Buffer). b.length) (queue_of s t).buffers))

pub has_alike : (frames : List ℕ) (session : SessionState) (s : LocalState) → Stands frames session s → IsSound session → session_has session ≡ has_buffers s
has_alike frames session s stands sound =
    any_alike queue_has_buffers (λ (q : QueueState). not (is_empty q.buffers)) session_opening opening_queue session.queues s.queues stands.count
    (at_place frames session s stands sound (λ x q. queue_has_buffers x ≡ not (is_empty q.buffers)) (λ t. some_alike frames session s t (stands.each t)))

pub streams_alike : (frames : List ℕ) (session : SessionState) (s : LocalState) → Stands frames session s → IsSound session → session_streams session ≡ is_streaming s
streams_alike frames session s stands sound =
    any_alike (λ (x : SessionQueue). x.streaming) (λ (q : QueueState). q.streaming) session_opening opening_queue session.queues s.queues stands.count
    (at_place frames session s stands sound (λ x q. x.streaming ≡ q.streaming) (λ t. (stands.each t).streaming))

source_alike : (frames : List ℕ) (session : SessionState) (s : LocalState) → Stands frames session s → (o : Option ℕ) →
    option_map (λ u. (session_queue session u).format) o ≡ option_map (λ u. (queue_of s u).format) o
source_alike frames session s stands None = refl
source_alike frames session s stands (Some u) = ap (λ f. Some f) (stands.each u).format

pub adjusted_alike : (frames : List ℕ) (session : SessionState) (s : LocalState) (t : ℕ) (f : FourCc) (w h : ℕ) → Stands frames session s →
    adjusted_for s t f w h ≡ session_adjusted session t f w h
adjusted_alike frames session s t f w h stands =
    ap (λ m. adjusted_from (option_map (λ u. (queue_of s u).format) (source_queue m)) m t f w h) (sym stands.model)
    ∙ ap (λ o. adjusted_from o session.model t f w h) (sym (source_alike frames session s stands (source_queue session.model)))

-- the length of a buffer
pub length_alike : (frames : List ℕ) (session : SessionState) (s : LocalState) (t i : ℕ) → StandsOn frames session s t →
    get_or (session_queue session t).lengths i 0 ≡ (buffer_of (queue_of s t) i).length
length_alike frames session s t i on =
    ap (λ xs. get_or xs i 0) on.lengths ∙ get_or-map (λ (b : Buffer). b.length) (queue_of s t).buffers i no_buffer

-- ---- what a session stands for, where formats and streaming alone change

-- a queue without what may change
abbrev pub fixed_there : SessionQueue → SessionQueue
fixed_there q = record q { format = first_format; streaming = false; sequence = 0 }

abbrev pub fixed_here : QueueState → QueueState
fixed_here q = record q { format = first_format; streaming = false; done = []; next_sequence = 0 }

pub record IsStill (session x : SessionState) (s t : LocalState) : Type 0 where
  pub model : t.model ≡ s.model
  pub running : x.running ≡ session.running
  pub memories : t.memories ≡ s.memories
  pub count : length t.queues ≡ length s.queues
  pub fixed : (p : ℕ) → fixed_here (get_or t.queues p opening_queue) ≡ fixed_here (get_or s.queues p opening_queue)

device_still : (session x : SessionState) (s t : LocalState) → IsStill session x s t → (m : ℕ) → is_of_device t m ≡ is_of_device s m
device_still session x s t still m =
    let test : QueueState → Bool = λ q. not (is_user_ptr q.memory) && list_any (λ b. is_just b.memory m) q.buffers in
    any_alike test test opening_queue opening_queue t.queues s.queues still.count (λ k within. ap (λ (q : QueueState). test q) (still.fixed k))

pub still_memory : (session x : SessionState) (s t : LocalState) (u i : ℕ) (h : Held) → IsStill session x s t → fixed_here (queue_of t u) ≡ fixed_here (queue_of s u) →
    IsMemoryAt s u i h → IsMemoryAt t u i h
still_memory session x s t u i h still same is =
    let number : memory_at s u i ≡ memory_at t u i = ap (λ (q : QueueState). number_of (buffer_of q i)) (sym same) in
    let P : ℕ → Type 0 = λ m. IsMemory t m h.mem in
    let here : IsMemory t (memory_at s u i) h.mem = record {
      bytes = is.memory.bytes ∙ ap (λ ms. get_or ms (memory_at s u i) []) (sym still.memories);
      frame = λ device. is.memory.frame (sym (device_still session x s t still (memory_at s u i)) ∙ device);
    } in
    record { queue = is.queue; index = is.index; memory = subst P number here }

pub still_record : (s t : LocalState) (u : ℕ) (r : BufferRec) → t.model ≡ s.model → fixed_here (queue_of t u) ≡ fixed_here (queue_of s u) → IsRecordOf s u r → IsRecordOf t u r
still_record s t u r model same is =
    let b : buffer_of (queue_of s u) r.index ≡ buffer_of (queue_of t u) r.index = ap (λ (q : QueueState). buffer_of q r.index) (sym same) in
    record {
      kind = is.kind;
      memory = is.memory ∙ ap (λ (q : QueueState). memory_number q.memory) (sym same);
      place = is.place;
      size = is.size ∙ ap (λ (c : Buffer). c.length) b;
      told = λ source.
          let told : IsPictureTold r (buffer_of (queue_of s u) r.index) = is.told (ap (λ m. is_source m u) (sym model) ∙ source) in
          record {
            used = told.used ∙ ap (λ (c : Buffer). c.used) b;
            seconds = told.seconds ∙ ap (λ (c : Buffer). seconds_of c.timestamp) b;
            micros = told.micros ∙ ap (λ (c : Buffer). micros_of c.timestamp) b;
          };
      unmarked = ap (λ (c : Buffer). c.is_bad) (sym b) ∙ is.unmarked;
    }

pub still_on : (frames : List ℕ) (session x : SessionState) (s t : LocalState) (u : ℕ) → StandsOn frames session s u → IsStill session x s t →
    fixed_there (session_queue x u) ≡ fixed_there (session_queue session u) → fixed_here (queue_of t u) ≡ fixed_here (queue_of s u) →
    (session_queue x u).format ≡ (queue_of t u).format → (session_queue x u).streaming ≡ (queue_of t u).streaming →
    (session_queue x u).sequence ≡ (queue_of t u).next_sequence → StandsOn frames x t u
still_on frames session x s t u on still there here format streaming sequence =
    let waits : waiting x u ≡ waiting session u =
    ap (λ o. of_type u (taken_by o) ++ map (λ (b : Queued). b.buffer) (session_queue x u).queued) still.running
    ∙ ap (λ (q : SessionQueue). of_type u (taken_by session.running) ++ map (λ (b : Queued). b.buffer) q.queued) there in
    record {
      format = format;
      kind = λ some. ap (λ (q : SessionQueue). q.kind) there
          ∙ (on.kind (ap (λ (q : QueueState). is_empty q.buffers) (sym here) ∙ some) ∙ ap (λ (q : QueueState). memory_number q.memory) (sym here));
      lengths = ap (λ (q : SessionQueue). q.lengths) there ∙ (on.lengths ∙ ap (λ (q : QueueState). map (λ (b : Buffer). b.length) q.buffers) (sym here));
      streaming = streaming;
      sequence = sequence;
      order = ap (λ rs. map (λ (r : BufferRec). r.index) rs) waits ∙ (on.order ∙ ap (λ (q : QueueState). q.queued) (sym here));
      records = subst (λ rs. All (IsRecordOf t u) rs) (sym waits)
          (λ k d within. still_record s t u (get_or (waiting session u) k d) still.model here (on.records k d within));
      memories = subst (λ (q : SessionQueue). All (λ (b : Queued). IsMemoryAt t u b.buffer.index b.held) q.queued) (sym there)
          (λ k d within. let b : Queued = get_or (session_queue session u).queued k d in still_memory session x s t u b.buffer.index b.held still here (on.memories k d within));
      out = λ i is. ap (λ (q : QueueState). is_idle (buffer_of q i).state) here ∙ on.out i (ap (λ (q : SessionQueue). list_any (λ j. j == i) q.out) (sym there) ∙ is);
      numbered = λ device i within.
          ap (λ (q : QueueState). (buffer_of q i).memory) here
          ∙ (on.numbered (ap (λ (q : QueueState). is_user_ptr q.memory) (sym here) ∙ device) i (subst (λ n. i < n) (ap (λ (q : QueueState). length q.buffers) here) within)
          ∙ ap (λ (q : SessionQueue). slice_get frames (q.first_frame + i)) (sym there));
    }
