-- What of a handle's state a session looks at.
use Rattle.std.proofs.Common.{◌≡◌, ◌<◌, ℕ, Bool, false, not, ◌&&◌, List, [], ◌∷◌, length, map, Some, refl, sym, ap, ◌∙◌, subst}
use Rattle.std.specs.Prelude.{IfSome}
use Rattle.std.specs.List.{list_any}
use Rattle.std.proofs.lemmas.List.{length-map}
use Rattle.std.proofs.lemmas.List.Elements.{All-weaker}
use Rattle.std.proofs.Math.ListN.{get_or-map}
use Rattle.v4l_const.specs.Model.{queues as types_of}
use Rattle.v4l_layout.specs.declared.buffer_rec.BufferRec.{BufferRec}
use Rattle.v4l_rules.specs.Formats.{is_source}
use Rattle.v4l_rules.specs.Queues.{place_in}
use Rattle.vm_frame.specs.declared.mem.Held.{Held}
use Rattle.vm_queue.specs.declared.queued.Queued.{Queued as QueuedThere}
use Rattle.vm_local.specs.declared.buffer.Buffer.{Buffer}
use Rattle.vm_local.specs.declared.buffer.BufferState.{BufferState}
use Rattle.vm_local.specs.declared.buffer.BufferState.TheVariants.{Idle, Queued, Owed, Done}
use Rattle.vm_local.specs.State.{QueueState, LocalState, opening_queue, queue_of, no_buffer, buffer_of}
use Rattle.vm_local.specs.Kinds.{is_idle}
use Rattle.vm_local.specs.Memory.{bytes_of, is_just}
use Rattle.vm_local.specs.Queue.{is_empty, is_user_ptr}
use Rattle.vm_local.specs.Steps.{number_of}
use Rattle.vm_local.specs.Live.{is_of_device}
use Rattle.vm_commute.proofs.PlaceLemmas.{any_map}
use Rattle.vm_commute.proofs.OutlineLemmas.{drawn_state}
use Rattle.vm_home.specs.Home.{IsMemory}
use Rattle.vm_home.specs.Moves.{memory_at}
use Rattle.vm_exchange.specs.Exchange.{memory_number}
use Rattle.vm_session.specs.State.{SessionState, queue_of as session_queue}
use Rattle.vm_session.specs.Sound.{taken_by}
use Rattle.vm_stands.specs.Stands.{seconds_of, micros_of, waiting, IsPictureTold, IsRecordOf, IsMemoryAt, StandsOn, Stands}

-- ---- what is seen

-- a buffer, whose state is Idle or not
abbrev pub seen_buffer : Buffer → Buffer
seen_buffer b = record b { state = drawn_state b.state }

-- a queue but for its done list
abbrev pub seen_queue : QueueState → QueueState
seen_queue q = record q { buffers = map seen_buffer q.buffers; done = [] }

abbrev pub seen : LocalState → LocalState
seen s = record s {
  blocking = false;
  subscribed = false;
  events = [];
  next_event = 0;
  owed = [];
  queues = map seen_queue s.queues;
  bound = [];
}

queue_seen : (s : LocalState) (t : ℕ) → queue_of (seen s) t ≡ seen_queue (queue_of s t)
queue_seen s t = get_or-map seen_queue s.queues (place_in (types_of s.model) t) opening_queue

buffer_seen : (q : QueueState) (i : ℕ) → buffer_of (seen_queue q) i ≡ seen_buffer (buffer_of q i)
buffer_seen q i = get_or-map seen_buffer q.buffers i no_buffer

-- ---- two states that look the same

pub queue_alike : (s t : LocalState) → seen s ≡ seen t → (u : ℕ) → seen_queue (queue_of s u) ≡ seen_queue (queue_of t u)
queue_alike s t same u = sym (queue_seen s u) ∙ (ap (λ (x : LocalState). queue_of x u) same ∙ queue_seen t u)

pub buffer_alike : (p q : QueueState) → seen_queue p ≡ seen_queue q → (i : ℕ) → seen_buffer (buffer_of p i) ≡ seen_buffer (buffer_of q i)
buffer_alike p q same i = sym (buffer_seen p i) ∙ (ap (λ (x : QueueState). buffer_of x i) same ∙ buffer_seen q i)

pub idle_seen : (st : BufferState) → is_idle (drawn_state st) ≡ is_idle st
idle_seen Idle = refl
idle_seen Queued = refl
idle_seen Owed = refl
idle_seen Done = refl

pub idle_alike : (b c : Buffer) → seen_buffer b ≡ seen_buffer c → is_idle b.state ≡ is_idle c.state
idle_alike b c same = sym (idle_seen b.state) ∙ (ap (λ (x : Buffer). is_idle x.state) same ∙ idle_seen c.state)

empty_seen : (bs : List Buffer) → is_empty (map seen_buffer bs) ≡ is_empty bs
empty_seen [] = refl
empty_seen (b ∷ bs) = refl

pub empty_alike : (p q : QueueState) → seen_queue p ≡ seen_queue q → is_empty p.buffers ≡ is_empty q.buffers
empty_alike p q same = sym (empty_seen p.buffers) ∙ (ap (λ (x : QueueState). is_empty x.buffers) same ∙ empty_seen q.buffers)

pub many_alike : (p q : QueueState) → seen_queue p ≡ seen_queue q → length p.buffers ≡ length q.buffers
many_alike p q same =
    sym (length-map p.buffers seen_buffer) ∙ (ap (λ (x : QueueState). length x.buffers) same ∙ length-map q.buffers seen_buffer)

lengths_seen : (bs : List Buffer) → map (λ b. b.length) (map seen_buffer bs) ≡ map (λ b. b.length) bs
lengths_seen [] = refl
lengths_seen (b ∷ bs) = ap (λ xs. b.length ∷ xs) (lengths_seen bs)

pub lengths_alike : (p q : QueueState) → seen_queue p ≡ seen_queue q → map (λ b. b.length) p.buffers ≡ map (λ b. b.length) q.buffers
lengths_alike p q same =
    sym (lengths_seen p.buffers) ∙ (ap (λ (x : QueueState). map (λ (b : Buffer). b.length) x.buffers) same ∙ lengths_seen q.buffers)

device_seen : (s : LocalState) (m : ℕ) → is_of_device (seen s) m ≡ is_of_device s m
device_seen s m =
    let test : Buffer → Bool = λ b. is_just b.memory m in
    let at : QueueState → Bool = λ q. not (is_user_ptr q.memory) && list_any test q.buffers in
    any_map seen_queue at at s.queues (λ q. ap (λ b. not (is_user_ptr q.memory) && b) (any_map seen_buffer test test q.buffers (λ b. refl)))

pub device_alike : (s t : LocalState) → seen s ≡ seen t → (m : ℕ) → is_of_device s m ≡ is_of_device t m
device_alike s t same m = sym (device_seen s m) ∙ (ap (λ (x : LocalState). is_of_device x m) same ∙ device_seen t m)

-- ---- what a session stands for

pub memory_seen : (s t : LocalState) (m : ℕ) (mem : _) → seen s ≡ seen t → IsMemory s m mem → IsMemory t m mem
memory_seen s t m mem same is = record {
  bytes = is.bytes ∙ ap (λ (x : LocalState). bytes_of x m) same;
  frame = λ device. is.frame (device_alike s t same m ∙ device);
}

pub memory_at_seen : (s t : LocalState) (u i : ℕ) (h : Held) → seen s ≡ seen t → IsMemoryAt s u i h → IsMemoryAt t u i h
memory_at_seen s t u i h same is =
    let number : memory_at s u i ≡ memory_at t u i =
    ap (λ (b : Buffer). number_of b) (buffer_alike (queue_of s u) (queue_of t u) (queue_alike s t same u) i) in
    let P : ℕ → Type 0 = λ m. IsMemory t m h.mem in
    record { queue = is.queue; index = is.index; memory = subst P number (memory_seen s t (memory_at s u i) h.mem same is.memory) }

record_seen : (s t : LocalState) (u : ℕ) (r : BufferRec) → seen s ≡ seen t → IsRecordOf s u r → IsRecordOf t u r
record_seen s t u r same is =
    let q : seen_queue (queue_of s u) ≡ seen_queue (queue_of t u) = queue_alike s t same u in
    let b : seen_buffer (buffer_of (queue_of s u) r.index) ≡ seen_buffer (buffer_of (queue_of t u) r.index) =
    buffer_alike (queue_of s u) (queue_of t u) q r.index in
    record {
      kind = is.kind;
      memory = is.memory ∙ ap (λ (x : QueueState). memory_number x.memory) q;
      place = is.place;
      size = is.size ∙ ap (λ (x : Buffer). x.length) b;
      told = λ source.
          let told : IsPictureTold r (buffer_of (queue_of s u) r.index) = is.told (ap (λ (x : LocalState). is_source x.model u) same ∙ source) in
          record {
            used = told.used ∙ ap (λ (x : Buffer). x.used) b;
            seconds = told.seconds ∙ ap (λ (x : Buffer). seconds_of x.timestamp) b;
            micros = told.micros ∙ ap (λ (x : Buffer). micros_of x.timestamp) b;
          };
      unmarked = sym (ap (λ (x : Buffer). x.is_bad) b) ∙ is.unmarked;
    }

on_seen : (frames : List ℕ) (session : SessionState) (s t : LocalState) (u : ℕ) → seen s ≡ seen t → StandsOn frames session s u →
    StandsOn frames session t u
on_seen frames session s t u same on =
    let q : seen_queue (queue_of s u) ≡ seen_queue (queue_of t u) = queue_alike s t same u in
    record {
      format = on.format ∙ ap (λ (x : QueueState). x.format) q;
      kind = λ some. on.kind (empty_alike (queue_of s u) (queue_of t u) q ∙ some) ∙ ap (λ (x : QueueState). memory_number x.memory) q;
      lengths = on.lengths ∙ lengths_alike (queue_of s u) (queue_of t u) q;
      streaming = on.streaming ∙ ap (λ (x : QueueState). x.streaming) q;
      sequence = on.sequence ∙ ap (λ (x : QueueState). x.next_sequence) q;
      order = on.order ∙ ap (λ (x : QueueState). x.queued) q;
      records = All-weaker (IsRecordOf s u) (IsRecordOf t u) (λ r is. record_seen s t u r same is) (waiting session u) on.records;
      memories = All-weaker (λ (x : QueuedThere). IsMemoryAt s u x.buffer.index x.held) (λ (x : QueuedThere). IsMemoryAt t u x.buffer.index x.held)
          (λ x is. memory_at_seen s t u x.buffer.index x.held same is) (session_queue session u).queued on.memories;
      out = λ i is. sym (idle_alike (buffer_of (queue_of s u) i) (buffer_of (queue_of t u) i) (buffer_alike (queue_of s u) (queue_of t u) q i)) ∙ on.out i is;
      numbered = λ device i within.
          sym (ap (λ (x : Buffer). x.memory) (buffer_alike (queue_of s u) (queue_of t u) q i))
          ∙ on.numbered (ap (λ (x : QueueState). is_user_ptr x.memory) q ∙ device) i (subst (λ n. i < n) (sym (many_alike (queue_of s u) (queue_of t u) q)) within);
    }

pub seen_stands : (frames : List ℕ) (session : SessionState) (s t : LocalState) → seen s ≡ seen t → Stands frames session s → Stands frames session t
seen_stands frames session s t same stands = record {
  opened = sym (ap (λ (x : LocalState). x.opened) same) ∙ stands.opened;
  model = stands.model ∙ ap (λ (x : LocalState). x.model) same;
  input = stands.input ∙ ap (λ (x : LocalState). x.input) same;
  count = stands.count ∙ (sym (length-map s.queues seen_queue) ∙ (ap (λ (x : LocalState). length x.queues) same ∙ length-map t.queues seen_queue));
  made = stands.made;
  took = subst (λ m. IfSome session.running (λ r. map (λ (x : BufferRec). x.kind) (taken_by (Some r)) ≡ types_of m)) (ap (λ (x : LocalState). x.model) same) stands.took;
  each = λ u. on_seen frames session s t u same (stands.each u);
}
