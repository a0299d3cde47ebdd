-- The call that queues a buffer.
use Rattle.std.proofs.Common.{◌≡◌, ◌≢◌, inl, inr, ℕ, zero, suc, ◌+◌, ◌<◌, ◌==◌, ◌&&◌, ◌||◌, nat_lt, Bool, true, false, not, List, [], ◌∷◌, ◌++◌, length, get_or, set, map, All, Option, Some, None, is_some, unwrap_or, Ok, refl, sym, ap, ◌∙◌, subst, arith, slice_get, eq-eqb, get_or-set_same, get_or-set_other, length-set, if◌then◌else◌}
use Rattle.std.specs.List.{list_any}
use Rattle.std.specs.Option.{option_map_or}
use Rattle.std.proofs.lemmas.Bool.{false≢true, true≢false, cases_eq, cases_Bool, eqb-true, not-false, ltb-true}
use Rattle.std.proofs.lemmas.List.{map-set, map-append, append_assoc}
use Rattle.std.proofs.lemmas.List.Elements.{All-push, All-head, All-tail}
use Rattle.v4l_const.specs.declared.errno.Errno.TheVariants.{Einval}
use Rattle.v4l_const.specs.declared.model.Model.{Model}
use Rattle.v4l_const.specs.declared.numbers.TheConstants.{MEMORY_MMAP, MEMORY_USERPTR}
use Rattle.v4l_const.specs.Model.{queues as types_of, source_queue}
use Rattle.v4l_format.specs.Fmt.{picture_size}
use Rattle.v4l_layout.specs.declared.buffer_rec.BufferRec.{BufferRec}
use Rattle.v4l_rules.specs.Formats.{is_source}
use Rattle.v4l_rules.specs.Queues.{place_in, has_type}
use Rattle.v4l_rules.specs.Refusals.{first_refusal}
use Rattle.v4l_rules.proofs.SetLemmas.{set_keeps}
use Rattle.vm_frame.specs.declared.mem.Held.{Held}
use Rattle.vm_queue.specs.declared.queued.Queued.{Queued}
use Rattle.vm_wire.specs.Buffers.{buffer_offset, told_from, told_of, qbuf_request}
use Rattle.vm_local.specs.declared.bound.MemoryKind.{MemoryKind}
use Rattle.vm_local.specs.declared.bound.MemoryKind.TheVariants.{Mmap, UserPtr}
use Rattle.vm_local.specs.declared.buffer.Buffer.{Buffer}
use Rattle.vm_local.specs.declared.buffer.BufferState.TheVariants.{Queued as AsQueued}
use Rattle.vm_local.specs.declared.call.Call.TheVariants.{QBuf}
use Rattle.vm_local.specs.State.{QueueState, LocalState, opening_queue, queue_of, with_queue, no_buffer, buffer_of}
use Rattle.vm_local.specs.Kinds.{is_idle}
use Rattle.vm_local.specs.Memory.{is_just}
use Rattle.vm_local.specs.Queue.{is_user_ptr, brought, length_from, memory_from, queued_buffer, with_queued}
use Rattle.vm_local.specs.Calls.{row_of, qbuf_row}
use Rattle.vm_local.specs.Listed.{IsThere}
use Rattle.vm_local.specs.Live.{is_of_device}
use Rattle.vm_local.specs.Steps.{number_of}
use Rattle.vm_local.proofs.StepLemmas.{passes}
use Rattle.vm_commute.proofs.ReachedLemmas.{many_queues}
use Rattle.vm_home.specs.Home.{IsMemory}
use Rattle.vm_home.specs.Moves.{memory_at}
use Rattle.vm_home.specs.Reached.{IsReached}
use Rattle.vm_exchange.specs.Exchange.{memory_number, memory_place, user_named, buffer_queued}
use Rattle.vm_session.specs.State.{SessionQueue, SessionState, opening_queue as session_opening, queue_of as session_queue, with_queue as session_with_queue}
use Rattle.vm_session.specs.Buffers.{is_at_home, kept_record, queue_with, with_queued as session_queued}
use Rattle.vm_session.specs.Rows.{IoctlRow, IoctlAnswer, refused_or, or_no_memory, outcome_of, qbuf_row as session_row}
use Rattle.vm_session.specs.Sound.{IsSound, taken_by}
use Rattle.vm_stands.specs.Stands.{seconds_of, micros_of, of_type, waiting, IsPictureTold, IsRecordOf, IsMemoryAt, StandsOn, Stands}
use Rattle.vm_stands.specs.Laws.{AnswersAs, GoesAlong}
use Rattle.vm_stands.proofs.AlikeLemmas.{many_alike}
use Rattle.vm_stands.proofs.AnswerLemmas.{IsAlike, by_row, nothing_back, no_frames}
use Rattle.vm_stands.proofs.HoldLemmas.{queued_there, held_on, place_same}
use Rattle.vm_stands.proofs.NextLemmas.{waiting_there}
use Rattle.vm_stands.proofs.PlainLemmas.{within_some}

-- ---- what is asked

-- the record that a qbuf crosses with
pub record IsAsked (s : LocalState) (t i : ℕ) (user : Option (List ℕ)) (used ts : ℕ) (b : BufferRec) : Type 0 where
  pub kind : b.kind ≡ t
  pub index : b.index ≡ i
  pub memory : b.memory ≡ memory_number (queue_of s t).memory
  pub place : user ≡ None → b.m ≡ buffer_offset t i
  pub size : b.length ≡ length_from s (brought s user) (buffer_of (queue_of s t) i)
  pub bytes : is_source s.model t ≡ true → b.bytesused ≡ used
  pub seconds : is_source s.model t ≡ true → b.seconds ≡ seconds_of ts
  pub micros : is_source s.model t ≡ true → b.micros ≡ micros_of ts

told_is : (m : Model) (t n : ℕ) → is_source m t ≡ true → told_of m t n ≡ n
told_is m t n is = by_source (source_queue m) is
  where
    by_source : (o : Option ℕ) → option_map_or (λ source. source == t) o false ≡ true → told_from o t n ≡ n
    by_source None source = absurd (false≢true source)
    by_source (Some u) source = ap (λ b. if b then n else 0) source

pub asked_is : (s : LocalState) (t i : ℕ) (user : Option (List ℕ)) (used ts : ℕ) → IsAsked s t i user used ts (qbuf_request s.model (buffer_queued s t i user used ts))
unfolding qbuf_request buffer_queued
asked_is s t i user used ts = record {
  kind = refl;
  index = refl;
  memory = refl;
  place = λ none. ap (λ o. memory_place (user_named s o) t i) none;
  size = refl;
  bytes = λ source. told_is s.model t used source;
  seconds = λ source. told_is s.model t (seconds_of ts) source;
  micros = λ source. told_is s.model t (micros_of ts) source;
}

-- what is so where the driver doesn't refuse the call
pub record IsQueueing (s : LocalState) (t i : ℕ) (user : Option (List ℕ)) (used : ℕ) : Type 0 where
  pub has : has_type s.model t ≡ true
  pub inside : nat_lt i (length (queue_of s t).buffers) ≡ true
  pub idle : is_idle (buffer_of (queue_of s t) i).state ≡ true
  pub bare : is_user_ptr (queue_of s t).memory ≡ false → user ≡ None
  pub named : (not (is_some user) && is_user_ptr (queue_of s t).memory) ≡ false
  pub long : (is_some user && nat_lt (length_from s (brought s user) (buffer_of (queue_of s t) i)) (picture_size (queue_of s t).format)) ≡ false
  pub enough : (is_source s.model t && nat_lt (length_from s (brought s user) (buffer_of (queue_of s t) i)) used) ≡ false

bare_is : (user : Option (List ℕ)) (b : Bool) → (is_some user && not b) ≡ false → b ≡ false → user ≡ None
bare_is None b never is = refl
bare_is (Some u) b never is = absurd (true≢false (ap not (sym is) ∙ never))

pub queueing_is : (s : LocalState) (t i : ℕ) (user : Option (List ℕ)) (used ts : ℕ) → first_refusal (qbuf_row s t i user used ts).refusals ≡ None →
    IsQueueing s t i user used
unfolding qbuf_row
queueing_is s t i user used ts pass =
    let so : (k : ℕ) → _ = passes (qbuf_row s t i user used ts).refusals pass in
    record {
      has = not-false _ (so 1);
      inside = not-false _ (so 2);
      idle = not-false _ (so 3);
      bare = bare_is user (is_user_ptr (queue_of s t).memory) (so 4);
      named = so 5;
      long = so 7;
      enough = so 9;
    }

-- ---- the session doesn't refuse it either

no_refusal : (a b c d e f : Bool) → a ≡ false → b ≡ false → c ≡ false → d ≡ false → e ≡ false → f ≡ false →
    first_refusal ((a, Einval) ∷ (b, Einval) ∷ (c, Einval) ∷ (d, Einval) ∷ (e, Einval) ∷ (f, Einval) ∷ []) ≡ None
no_refusal a b c d e f na nb nc nd ne nf = rw (na, nb, nc, nd, ne, nf) refl

user_long : (kind : MemoryKind) (some less : Bool) → (not some && is_user_ptr kind) ≡ false → (some && less) ≡ false →
    (memory_number kind == MEMORY_USERPTR && less) ≡ false
user_long Mmap some less named long = refl
user_long UserPtr true less named long = long
user_long UserPtr false less named long = absurd (true≢false named)

told_less : (source less other : Bool) → (source ≡ true → other ≡ less) → (source && less) ≡ false → (source && other) ≡ false
told_less true less other same enough = same refl ∙ enough
told_less false less other same enough = refl

-- none passes, where none of them is that one
none_queued : (q : QueueState) (i : ℕ) (xs : List Queued) → is_idle (buffer_of q i).state ≡ true → All (λ (b : Queued). IsThere AsQueued q b.buffer.index) xs →
    list_any (λ (b : Queued). b.buffer.index == i) xs ≡ false
none_queued q i [] idle there = refl
none_queued q i (b ∷ bs) idle there =
    let P : Queued → Type 0 = λ x. IsThere AsQueued q x.buffer.index in
    elim (cases_Bool (b.buffer.index == i)) as (λ _. (b.buffer.index == i || list_any (λ (x : Queued). x.buffer.index == i) bs) ≡ false) [
      | inl is ↦ absurd (true≢false (sym idle ∙ (ap (λ j. is_idle (buffer_of q j).state) (sym (eqb-true b.buffer.index i is)) ∙ ap is_idle (All-head P b bs there).1)))
      | inr not ↦ rw (not, none_queued q i bs idle (All-tail P b bs there)) refl
    ]

home_is : (frames : List ℕ) (session : SessionState) (s : LocalState) (t i : ℕ) → IsReached s → StandsOn frames session s t →
    is_idle (buffer_of (queue_of s t) i).state ≡ true → is_at_home (session_queue session t) i ≡ true
home_is frames session s t i reached on idle =
    let q : SessionQueue = session_queue session t in
    let first : list_any (λ (b : Queued). b.buffer.index == i) q.queued ≡ false = none_queued (queue_of s t) i q.queued idle (queued_there frames session s t reached on) in
    let second : list_any (λ j. j == i) q.out ≡ false = elim (cases_Bool (list_any (λ j. j == i) q.out)) as (λ _. list_any (λ j. j == i) q.out ≡ false) [
      | inl is ↦ absurd (true≢false (sym idle ∙ on.out i is))
      | inr not ↦ not
    ] in
    rw (first, second) refl

pub none_refused : (frames : List ℕ) (session : SessionState) (s : LocalState) (t i : ℕ) (user : Option (List ℕ)) (used ts : ℕ) (b : BufferRec) (held : List Held) →
    Stands frames session s → IsReached s → IsQueueing s t i user used → IsAsked s t i user used ts b → first_refusal (session_row session b held).refusals ≡ None
unfolding session_row
none_refused frames session s t i user used ts b held stands reached queueing asked =
    let on : StandsOn frames session s t = stands.each t in
    let q : QueueState = queue_of s t in
    let x : SessionQueue = session_queue session t in
    let kind : b.kind ≡ t = asked.kind in
    let has : has_type session.model b.kind ≡ true = (λ j. has_type (stands.model j) (kind j)) ∙ queueing.has in
    let inside : nat_lt b.index (length (session_queue session b.kind).lengths) ≡ true =
    (λ j. nat_lt (asked.index j) (length (session_queue session (kind j)).lengths)) ∙ (ap (λ n. nat_lt i n) (many_alike frames session s t on) ∙ queueing.inside) in
    let home : is_at_home (session_queue session b.kind) b.index ≡ true =
    (λ j. is_at_home (session_queue session (kind j)) (asked.index j)) ∙ home_is frames session s t i reached on queueing.idle in
    let same : b.memory ≡ (session_queue session b.kind).kind =
    asked.memory ∙ (sym (on.kind (within_some q.buffers i queueing.inside)) ∙ ap (λ u. (session_queue session u).kind) (sym kind)) in
    let long : (b.memory == MEMORY_USERPTR && nat_lt b.length (picture_size (session_queue session b.kind).format)) ≡ false =
    (λ j. asked.memory j == MEMORY_USERPTR && nat_lt (asked.size j) (picture_size (session_queue session (kind j)).format))
    ∙ (ap (λ f. memory_number q.memory == MEMORY_USERPTR && nat_lt (length_from s (brought s user) (buffer_of q i)) (picture_size f)) on.format
    ∙ user_long q.memory (is_some user) (nat_lt (length_from s (brought s user) (buffer_of q i)) (picture_size q.format)) queueing.named queueing.long) in
    let enough : (is_source session.model b.kind && nat_lt b.length b.bytesused) ≡ false =
    (λ j. is_source (stands.model j) (kind j) && nat_lt (asked.size j) b.bytesused)
    ∙ told_less (is_source s.model t) (nat_lt (length_from s (brought s user) (buffer_of q i)) used) (nat_lt (length_from s (brought s user) (buffer_of q i)) b.bytesused)
    (λ source. ap (λ n. nat_lt (length_from s (brought s user) (buffer_of q i)) n) (asked.bytes source)) queueing.enough in
    no_refusal _ _ _ _ _ _ (ap not has) (ap not inside) (ap not home) (ap not (eq-eqb b.memory (session_queue session b.kind).kind same)) long enough

-- ---- the session after it

-- a test of some element, of which one is replaced by one that passes alike
pub any_set : {A : Type 0} (test : A → Bool) (d : A) (xs : List A) (i : ℕ) (y : A) → test y ≡ test (get_or xs i d) → list_any test (set xs i y) ≡ list_any test xs
any_set test d [] i y same = refl
any_set test d (x ∷ xs) zero y same = ap (λ b. b || list_any test xs) same
any_set test d (x ∷ xs) (suc i) y same = ap (λ b. test x || b) (any_set test d xs i y same)

none_brought : (s : LocalState) (user : Option (List ℕ)) (b : Buffer) → user ≡ None → memory_from (brought s user) b ≡ b.memory
none_brought s user b none = ap (λ o. memory_from (brought s o) b) none

mmap_bare : (kind : MemoryKind) → memory_number kind ≡ MEMORY_MMAP → is_user_ptr kind ≡ false
mmap_bare Mmap is = refl
mmap_bare UserPtr is = absurd (omega (arith, is))

-- the memory that the device made for the buffer stays
pub queued_memory : (s : LocalState) (t i used ts : ℕ) (user : Option (List ℕ)) → IsQueueing s t i user used → is_user_ptr (queue_of s t).memory ≡ false →
    (queued_buffer s t (brought s user) used ts (buffer_of (queue_of s t) i)).memory ≡ (buffer_of (queue_of s t) i).memory
unfolding queued_buffer
queued_memory s t i used ts user queueing bare = none_brought s user (buffer_of (queue_of s t) i) (queueing.bare bare)

-- and so do the device's memories
pub queued_device : (s : LocalState) (t i used ts : ℕ) (user : Option (List ℕ)) → IsQueueing s t i user used → (m : ℕ) →
    is_of_device (with_queued s t i (brought s user) used ts) m ≡ is_of_device s m
queued_device s t i used ts user queueing m =
    let test : Buffer → Bool = λ c. is_just c.memory m in
    let at : QueueState → Bool = λ q. not (is_user_ptr q.memory) && list_any test q.buffers in
    any_set at opening_queue s.queues (place_in (types_of s.model) t) (record (queue_of s t) {
      buffers = set (queue_of s t).buffers i (queued_buffer s t (brought s user) used ts (buffer_of (queue_of s t) i));
      queued = (queue_of s t).queued ++ i ∷ [];
    }) (by_kind (is_user_ptr (queue_of s t).memory) refl)
  where
    by_kind : (mine : Bool) → is_user_ptr (queue_of s t).memory ≡ mine →
        (not mine && list_any (λ c. is_just c.memory m) (set (queue_of s t).buffers i (queued_buffer s t (brought s user) used ts (buffer_of (queue_of s t) i))))
        ≡ (not mine && list_any (λ c. is_just c.memory m) (queue_of s t).buffers)
    by_kind true is = refl
    by_kind false is = any_set (λ c. is_just c.memory m) no_buffer (queue_of s t).buffers i
        (queued_buffer s t (brought s user) used ts (buffer_of (queue_of s t) i)) (ap (λ o. is_just o m) (queued_memory s t i used ts user queueing is))

module _ (frames : List ℕ) (session : SessionState) (s : LocalState) (t i used ts : ℕ) (user : Option (List ℕ)) (b : BufferRec) (h : Held)
    (stands : Stands frames session s) (reached : IsReached s) (queueing : IsQueueing s t i user used) (asked : IsAsked s t i user used ts b)
    (along : GoesAlong s (QBuf t i user used ts) t i h) where
  -- the buffer, and the queues with it
  abbrev buffer : Buffer
  buffer = queued_buffer s t (brought s user) used ts (buffer_of (queue_of s t) i)

  abbrev queue : QueueState
  queue = record (queue_of s t) { buffers = set (queue_of s t).buffers i buffer; queued = (queue_of s t).queued ++ i ∷ [] }

  abbrev served : SessionQueue
  served = queue_with (session_queue session t) b (h ∷ [])

  abbrev x : SessionState
  x = session_with_queue session t served

  abbrev y : LocalState
  y = with_queue s t queue

  place : ℕ
  place = place_in (types_of s.model) t

  within : place_in (types_of s.model) t < length s.queues
  within = omega (arith, ltb-true (place_in (types_of s.model) t) (length (types_of s.model)) queueing.has, many_queues s reached)

  inside : i < length (queue_of s t).buffers
  inside = ltb-true i (length (queue_of s t).buffers) queueing.inside

  here : queue_of y t ≡ queue
  here = get_or-set_same s.queues (place_in (types_of s.model) t) queue opening_queue within

  there : session_queue x t ≡ served
  there =
      let first : place_in (types_of session.model) t ≡ place_in (types_of s.model) t = ap (λ m. place_in (types_of m) t) stands.model in
      get_or-set_same session.queues (place_in (types_of session.model) t) served session_opening (omega (arith, within, first, stands.count))

  mine : buffer_of queue i ≡ buffer
  mine = get_or-set_same (queue_of s t).buffers i buffer no_buffer inside

  other : (j : ℕ) → j ≢ i → buffer_of queue j ≡ buffer_of (queue_of s t) j
  other j apart = get_or-set_other (queue_of s t).buffers i j buffer no_buffer apart

  kept : is_user_ptr (queue_of s t).memory ≡ false → buffer.memory ≡ (buffer_of (queue_of s t) i).memory
  kept bare = queued_memory s t i used ts user queueing bare

  device : (m : ℕ) → is_of_device y m ≡ is_of_device s m
  device m = queued_device s t i used ts user queueing m

  -- a buffer that is Queued is another one
  apart : (j : ℕ) → IsThere AsQueued (queue_of s t) j → j ≢ i
  apart j there same = true≢false (sym queueing.idle ∙ (ap (λ k. is_idle (buffer_of (queue_of s t) k).state) (sym same) ∙ ap is_idle there.1))

  old_record : (r : BufferRec) → r.index ≢ i → IsRecordOf s t r → IsRecordOf y t r
  old_record r far is =
      let same : buffer_of (queue_of s t) r.index ≡ buffer_of (queue_of y t) r.index = sym (ap (λ q. buffer_of q r.index) here ∙ other r.index far) in
      record {
        kind = is.kind;
        memory = is.memory ∙ ap (λ (q : QueueState). memory_number q.memory) (sym here);
        place = is.place;
        size = is.size ∙ ap (λ (c : Buffer). c.length) same;
        told = λ source.
            let told : IsPictureTold r (buffer_of (queue_of s t) r.index) = is.told source in
            record {
              used = told.used ∙ ap (λ (c : Buffer). c.used) same;
              seconds = told.seconds ∙ ap (λ (c : Buffer). seconds_of c.timestamp) same;
              micros = told.micros ∙ ap (λ (c : Buffer). micros_of c.timestamp) same;
            };
        unmarked = ap (λ (c : Buffer). c.is_bad) (sym same) ∙ is.unmarked;
      }

  new_record : IsRecordOf y t (kept_record b)
  unfolding queued_buffer
  new_record =
      let same : buffer ≡ buffer_of (queue_of y t) b.index = sym ((λ j. buffer_of (here j) (asked.index j)) ∙ mine) in
      let memory : b.memory ≡ memory_number (queue_of y t).memory = asked.memory ∙ ap (λ (q : QueueState). memory_number q.memory) (sym here) in
      let len : ℕ = length_from s (brought s user) (buffer_of (queue_of s t) i) in
      record {
        kind = asked.kind;
        memory = memory;
        place = λ mmap. asked.place (queueing.bare (mmap_bare (queue_of s t).memory (sym asked.memory ∙ mmap))) ∙ ap (λ j. buffer_offset t j) (sym asked.index);
        size = asked.size ∙ ap (λ (c : Buffer). c.length) same;
        told = λ source. record {
          used = (λ j. if asked.bytes source j == 0 then asked.size j else asked.bytes source j)
              ∙ (ap (λ k. if k then (if used == 0 then len else used) else (buffer_of (queue_of s t) i).used) (sym source) ∙ ap (λ (c : Buffer). c.used) same);
          seconds = asked.seconds source ∙ (ap (λ k. seconds_of (if k then ts else (buffer_of (queue_of s t) i).timestamp)) (sym source) ∙ ap (λ (c : Buffer). seconds_of c.timestamp) same);
          micros = asked.micros source ∙ (ap (λ k. micros_of (if k then ts else (buffer_of (queue_of s t) i).timestamp)) (sym source) ∙ ap (λ (c : Buffer). micros_of c.timestamp) same);
        };
        unmarked = ap (λ (c : Buffer). c.is_bad) (sym same);
      }

  old_memory : (j : ℕ) (held : Held) → j ≢ i → IsMemoryAt s t j held → IsMemoryAt y t j held
  old_memory j held far is =
      let number : memory_at s t j ≡ memory_at y t j = ap (λ (c : Buffer). number_of c) (sym (ap (λ q. buffer_of q j) here ∙ other j far)) in
      let P : ℕ → Type 0 = λ m. IsMemory y m held.mem in
      let now : IsMemory y (memory_at s t j) held.mem = record {
        bytes = is.memory.bytes;
        frame = λ of_device. is.memory.frame (sym (device (memory_at s t j)) ∙ of_device);
      } in
      record { queue = is.queue; index = is.index; memory = subst P number now }

  new_memory : IsMemoryAt y t b.index h
  unfolding queued_buffer
  new_memory =
      let number : along.number ≡ memory_at y t b.index =
      ap (λ o. unwrap_or o 0) (sym along.along) ∙ ap (λ (c : Buffer). number_of c) (sym ((λ j. buffer_of (here j) (asked.index j)) ∙ mine)) in
      let P : ℕ → Type 0 = λ m. IsMemory y m h.mem in
      let now : IsMemory y along.number h.mem = record {
        bytes = along.memory.bytes;
        frame = λ of_device. along.memory.frame (sym (device along.number) ∙ of_device);
      } in
      record { queue = along.queue; index = along.index ∙ sym asked.index; memory = subst P number now }

  on_queued : StandsOn frames x y t
  unfolding queued_buffer
  on_queued =
      let on : StandsOn frames session s t = stands.each t in
      let q : QueueState = queue_of s t in
      let sq : SessionQueue = session_queue session t in
      let new : Queued = record { buffer = kept_record b; held = h } in
      let took : List BufferRec = of_type t (taken_by session.running) in
      let buffers : List Queued → List BufferRec = λ xs. map (λ (c : Queued). c.buffer) xs in
      let waits : waiting x t ≡ waiting session t ++ kept_record b ∷ [] =
      ap (λ (c : SessionQueue). took ++ buffers c.queued) there
      ∙ (ap (λ rs. took ++ rs) (map-append (λ (c : Queued). c.buffer) sq.queued (new ∷ [])) ∙ sym (append_assoc took (buffers sq.queued) (kept_record b ∷ []))) in
      let R : List BufferRec → Type 0 = λ rs. All (IsRecordOf y t) rs in
      let M : Queued → Type 0 = λ c. IsMemoryAt y t c.buffer.index c.held in
      let S : SessionQueue → Type 0 = λ c. All M c.queued in
      let those : All (λ (r : BufferRec). IsThere AsQueued q r.index) (waiting session t) = waiting_there frames session s t reached on in
      let these : All (λ (c : Queued). IsThere AsQueued q c.buffer.index) sq.queued = queued_there frames session s t reached on in
      record {
        format = ap (λ (c : SessionQueue). c.format) there ∙ (on.format ∙ ap (λ (c : QueueState). c.format) (sym here));
        kind = λ some. ap (λ (c : SessionQueue). c.kind) there
            ∙ (on.kind (within_some q.buffers i queueing.inside) ∙ ap (λ (c : QueueState). memory_number c.memory) (sym here));
        lengths = ap (λ (c : SessionQueue). c.lengths) there
            ∙ ((λ j. set (on.lengths j) (asked.index j) (asked.size j))
            ∙ (sym (map-set (λ (c : Buffer). c.length) q.buffers i buffer) ∙ ap (λ (c : QueueState). map (λ (d : Buffer). d.length) c.buffers) (sym here)));
        streaming = ap (λ (c : SessionQueue). c.streaming) there ∙ (on.streaming ∙ ap (λ (c : QueueState). c.streaming) (sym here));
        sequence = ap (λ (c : SessionQueue). c.sequence) there ∙ (on.sequence ∙ ap (λ (c : QueueState). c.next_sequence) (sym here));
        order = ap (λ rs. map (λ (r : BufferRec). r.index) rs) waits
            ∙ (map-append (λ (r : BufferRec). r.index) (waiting session t) (kept_record b ∷ [])
            ∙ ((λ j. on.order j ++ asked.index j ∷ []) ∙ ap (λ (c : QueueState). c.queued) (sym here)));
        records = subst R (sym waits) (All-push (IsRecordOf y t) (waiting session t) (kept_record b)
            (λ k d inside. let r : BufferRec = get_or (waiting session t) k d in old_record r (apart r.index (those k d inside)) (on.records k d inside)) new_record);
        memories = subst S (sym there) (All-push M sq.queued new
            (λ k d inside. let c : Queued = get_or sq.queued k d in old_memory c.buffer.index c.held (apart c.buffer.index (these k d inside)) (on.memories k d inside)) new_memory);
        out = λ j is.
            let was : is_idle (buffer_of q j).state ≡ false = on.out j (ap (λ (c : SessionQueue). list_any (λ k. k == j) c.out) (sym there) ∙ is) in
            ap (λ c. is_idle (buffer_of c j).state) here ∙ (elim (cases_eq j i) as (λ _. is_idle (buffer_of queue j).state ≡ false) [
              | inl same ↦ absurd (true≢false (sym queueing.idle ∙ (ap (λ k. is_idle (buffer_of q k).state) (sym same) ∙ was)))
              | inr far ↦ ap (λ (c : Buffer). is_idle c.state) (other j far) ∙ was
            ]);
        numbered = λ of_device j inside.
            let its : is_user_ptr q.memory ≡ false = ap (λ (c : QueueState). is_user_ptr c.memory) (sym here) ∙ of_device in
            let long : j < length q.buffers = omega (arith, inside, ap (λ (c : QueueState). length c.buffers) here, length-set q.buffers i buffer) in
            ap (λ c. (buffer_of c j).memory) here
            ∙ (set_keeps no_buffer (λ (c : Buffer). c.memory) q.buffers i buffer (kept its) j
            ∙ (on.numbered its j long ∙ ap (λ (c : SessionQueue). slice_get frames (c.first_frame + j)) (sym there)));
      }

  on_other : (u : ℕ) → place_in (types_of s.model) u ≢ place_in (types_of s.model) t → StandsOn frames x y u
  on_other u far =
      let first : place_in (types_of session.model) u ≢ place_in (types_of session.model) t = λ same.
      far (sym (ap (λ m. place_in (types_of m) u) stands.model) ∙ (same ∙ ap (λ m. place_in (types_of m) t) stands.model)) in
      held_on frames frames session x s y u reached (stands.each u) (record {
        model = refl;
        running = refl;
        there = get_or-set_other session.queues (place_in (types_of session.model) t) (place_in (types_of session.model) u) served session_opening first;
        here = get_or-set_other s.queues (place_in (types_of s.model) t) (place_in (types_of s.model) u) queue opening_queue far;
        bytes = λ j busy. refl;
        device = λ j busy of_device. sym (device (memory_at s u j)) ∙ of_device;
      }) (λ bare j inside. refl)

  on_each : (u : ℕ) → StandsOn frames x y u
  on_each u = elim (cases_eq (place_in (types_of s.model) u) (place_in (types_of s.model) t)) as (λ _. StandsOn frames x y u) [
    | inl same ↦
        let is : u ≡ t = place_same (types_of s.model) t u same (ltb-true (place_in (types_of s.model) t) (length (types_of s.model)) queueing.has) in
        subst (λ k. StandsOn frames x y k) (sym is) on_queued
    | inr far ↦ on_other u far
  ]

  pub queued_stands : Stands frames (session_queued session b (h ∷ [])) (with_queued s t i (brought s user) used ts)
  queued_stands =
      let kind : t ≡ b.kind = sym asked.kind in
      let same : x ≡ session_queued session b (h ∷ []) = λ j. session_with_queue session (kind j) (queue_with (session_queue session (kind j)) b (h ∷ [])) in
      subst (λ z. Stands frames z y) same (record {
        opened = stands.opened;
        model = stands.model;
        input = stands.input;
        count = length-set session.queues (place_in (types_of session.model) t) served ∙ (stands.count ∙ sym (length-set s.queues (place_in (types_of s.model) t) queue));
        made = stands.made;
        took = stands.took;
        each = on_each;
      })

qbuf_alike : (frames : List ℕ) (session : SessionState) (s : LocalState) (t i used ts : ℕ) (user : Option (List ℕ)) (h : Held) →
    Stands frames session s → IsReached s → first_refusal (qbuf_row s t i user used ts).refusals ≡ None → GoesAlong s (QBuf t i user used ts) t i h →
    IsAlike frames session s (QBuf t i user used ts) (qbuf_row s t i user used ts) (session_row session (qbuf_request s.model (buffer_queued s t i user used ts)) (h ∷ []))
unfolding qbuf_row session_row
qbuf_alike frames session s t i used ts user h stands reached pass along =
    let b : BufferRec = qbuf_request s.model (buffer_queued s t i user used ts) in
    let queueing : IsQueueing s t i user used = queueing_is s t i user used ts pass in
    let asked : IsAsked s t i user used ts b = asked_is s t i user used ts in
    let next : LocalState = with_queued s t i (brought s user) used ts in
    record {
      refusals = pass ∙ sym (none_refused frames session s t i user used ts b (h ∷ []) stands reached queueing asked);
      lacks = refl;
      waits = refl;
      told = refl;
      done = λ _. record {
        payload = refl;
        back = nothing_back s next (QBuf t i user used ts) refl refl;
        stands = no_frames frames (session_queued session b (h ∷ [])) next (queued_stands frames session s t i used ts user b h stands reached queueing asked along);
      };
    }

served_is : (memory : Bool) (served : IoctlRow) → first_refusal served.refusals ≡ None → served.may_lack_memory ≡ false →
    outcome_of memory served ≡ Ok (record { payload = served.payload; back = served.back; next = served.next })
served_is memory served none never =
    let answer : IoctlAnswer = record { payload = served.payload; back = served.back; next = served.next } in
    ap (λ o. refused_or (or_no_memory o (served.may_lack_memory && not memory)) answer) none
    ∙ ap (λ b. refused_or (or_no_memory None (b && not memory)) answer) never

never_lacks : (session : SessionState) (b : BufferRec) (held : List Held) → (session_row session b held).may_lack_memory ≡ false
unfolding session_row
never_lacks session b held = refl

pub qbuf_served : (frames : List ℕ) (session : SessionState) (line : ℕ) (s : LocalState) (memory : Bool) (t i used ts : ℕ) (user : Option (List ℕ)) (h : Held) →
    Stands frames session s → IsSound session → IsReached s → first_refusal (row_of s line 0 (QBuf t i user used ts)).refusals ≡ None →
    GoesAlong s (QBuf t i user used ts) t i h →
    (a : IoctlAnswer) × (outcome_of memory (session_row session (qbuf_request s.model (buffer_queued s t i user used ts)) (h ∷ [])) ≡ Ok a)
    × AnswersAs frames session line s (QBuf t i user used ts) (Ok a)
qbuf_served frames session line s memory t i used ts user h stands sound reached pass along =
    let b : BufferRec = qbuf_request s.model (buffer_queued s t i user used ts) in
    let served : IoctlRow = session_row session b (h ∷ []) in
    let none : first_refusal served.refusals ≡ None =
    none_refused frames session s t i user used ts b (h ∷ []) stands reached (queueing_is s t i user used ts pass) (asked_is s t i user used ts) in
    let is : outcome_of memory served ≡ Ok (record { payload = served.payload; back = served.back; next = served.next }) =
    served_is memory served none (never_lacks session b (h ∷ [])) in
    let answers : AnswersAs frames session line s (QBuf t i user used ts) (outcome_of memory served) =
    by_row frames session line s (QBuf t i user used ts) (qbuf_row s t i user used ts) served memory (λ reply. refl) (qbuf_alike frames session s t i used ts user h stands reached pass along) in (
      record { payload = served.payload; back = served.back; next = served.next },
      is,
      subst (λ r. AnswersAs frames session line s (QBuf t i user used ts) r) is answers,
    )
