-- Memories are as long as their buffers, and a picture goes into them.
use Rattle.std.proofs.Common.{◌≡◌, inl, inr, ℕ, ◌+◌, ◌-◌, ◌*◌, ◌%◌, ◌<◌, ◌≤◌, ◌&&◌, ◌||◌, nat_lt, Bool, true, false, not, List, [], ◌∷◌, ◌++◌, length, get_or, set, take, drop, replicate, Option, Some, None, is_some, unwrap_or, refl, sym, ap, ◌∙◌, subst, arith, get_or-set_same, get_or-set_other, length-set, length-append}
use Rattle.std.proofs.lemmas.Bool.{false≢true, cases_eq, cases_Bool, not-false, ltb-true, ltb-false, lt-ltb}
use Rattle.std.proofs.lemmas.List.{length-map, length-replicate, length-take-le, length-drop, get_or_past, get_or_append_left, get_or-append-add, get_or-replicate}
use Rattle.std.proofs.lemmas.List.FromFn.{length-map-range_with_len, get_or-map-range_with_len}
use Rattle.std.proofs.lemmas.Option.{none-some}
use Rattle.std.proofs.Math.ListN.{get_or-map}
use Rattle.v4l_const.specs.declared.model.Model.{Model}
use Rattle.v4l_const.specs.Model.{queues as types_of, picture_queue}
use Rattle.v4l_format.specs.Fmt.{picture_size}
use Rattle.v4l_rules.specs.Queues.{place_in, has_type}
use Rattle.v4l_rules.specs.Refusals.{first_refusal}
use Rattle.v4l_rules.proofs.SetLemmas.{set_keeps, formatted_keeps}
use Rattle.vm_mem.specs.Seeded.{seeded}
use Rattle.vm_local.specs.declared.bound.MemoryKind.{MemoryKind}
use Rattle.vm_local.specs.declared.bound.MemoryKind.TheVariants.{Mmap as MmapKind, UserPtr}
use Rattle.vm_local.specs.declared.buffer.Buffer.{Buffer}
use Rattle.vm_local.specs.declared.buffer.BufferState.TheVariants.{Queued as AsQueued}
use Rattle.vm_local.specs.declared.call.Call.{Call}
use Rattle.vm_local.specs.declared.call.Call.TheVariants.{OpenHandle, CloseHandle, QueryCap, EnumFmt, GFmt, TryFmt, SFmt, EnumInput, GInput, SInput, ReqBufs, QueryBuf, UAlloc, QBuf, StreamOn, StreamOff, DqBuf, Mmap, Munmap, Peek, Hash, Poke, Fill, Subscribe, Unsubscribe, DqEvent}
use Rattle.vm_local.specs.declared.entry.Entry.{Entry}
use Rattle.vm_local.specs.declared.entry.Entry.TheVariants.{Called, Finish, Bad, Give}
use Rattle.vm_local.specs.State.{QueueState, LocalState, opening, opening_queue, queue_kind, queue_of, with_queue, no_buffer, buffer_of}
use Rattle.vm_local.specs.Kinds.{is_idle}
use Rattle.vm_local.specs.Memory.{named, memory_of, bytes_of}
use Rattle.vm_local.specs.Same.{address_in}
use Rattle.vm_local.specs.Queue.{is_user_ptr, has_buffers, can_finish, memory_from, first_done, taken_back, made_idle, stopped_queue, stopped, memory_kind, fresh_buffer, fresh_buffers, fresh_memories, granted, with_buffers, with_set_format, adjusted_for, started, brought, length_from, queued_buffer, with_queued}
use Rattle.vm_local.specs.Calls.{Row, row_of, opened_anew, closed, querycap_row, enumfmt_row, gfmt_row, tryfmt_row, sfmt_row, enuminput_row, ginput_row, sinput_row, reqbufs_row, querybuf_row, ualloc_row, qbuf_row, streamon_row, streamoff_row, dqbuf_row, mmap_row, munmap_row, read_row, hash_row, write_row, fill_row, subscribe_row, unsubscribe_row, dqevent_row}
use Rattle.vm_local.specs.Listed.{IsThere}
use Rattle.vm_local.specs.Log.{row_for, called, after}
use Rattle.vm_local.specs.Steps.{head, head_buffer, number_of, target}
use Rattle.vm_local.proofs.StepLemmas.{passes, answered_by, kept_by_all, frame_made, finished_by, failed_by}
use Rattle.vm_local.proofs.WithoutBytesLemmas.{fronted, fronted_long}
use Rattle.vm_commute.specs.Commute.{is_step}
use Rattle.vm_commute.proofs.KeptLemmas.{outline_kept}
use Rattle.vm_commute.proofs.OutlineLemmas.{drawn, outlined, outline, queue_drawn, buffer_drawn}
use Rattle.vm_commute.proofs.ReachedLemmas.{many_queues, reached_after}
use Rattle.vm_home.specs.Reached.{IsReached}
use Rattle.vm_home.proofs.PlaceLemmas.{HasAt}
use Rattle.vm_home.proofs.FactLemmas.{Facts, facts_of}
use Rattle.vm_home.proofs.OwnLemmas.{number_made}
use Rattle.vm_home.proofs.RowLemmas.{device_made}
use Rattle.vm_local.proofs.KeptLemmas.{some_same}
use Rattle.vm_stands.specs.Laws.{is_held, HasLengths}
use Rattle.vm_stands.proofs.SeenLemmas.{idle_seen}
use Rattle.vm_stands.proofs.GivenLemmas.{given_seen}
use Rattle.vm_stands.proofs.DoneLemmas.{target_there}
use Rattle.vm_stands.proofs.OverStepLemmas.{none_there}
use Rattle.vm_stands.proofs.QBufLemmas.{IsQueueing, queueing_is}
use Rattle.vm_stands.proofs.ReqBufsLemmas.{fresh_many}

-- ---- a state whose buffers and memories are no more

-- what is held in the later queue is held in the first one, as long as before
pub record IsShortQueue (q v : QueueState) : Type 0 where
  pub format : v.format ≡ q.format
  pub many : length v.buffers ≡ length q.buffers
  pub held : (i : ℕ) → is_held v i ≡ true → is_held q i ≡ true
  pub size : (i : ℕ) → (buffer_of v i).length ≡ (buffer_of q i).length
  pub memory : (i : ℕ) → (buffer_of v i).memory ≡ (buffer_of q i).memory

pub short_itself : (q : QueueState) → IsShortQueue q q
short_itself q = record { format = refl; many = refl; held = λ i is. is; size = λ i. refl; memory = λ i. refl }

-- the number of a buffer's memory was made
made_number : (s : LocalState) (u i m : ℕ) → IsReached s → (buffer_of (queue_of s u) i).memory ≡ Some m → m < length s.memories
made_number s u i m reached has = number_made s (facts_of s reached).sound (place_in (types_of s.model) u) i m has

pub short_lengths : (s t : LocalState) → IsReached s → HasLengths s → ((u : ℕ) → IsShortQueue (queue_of s u) (queue_of t u)) →
    ((m : ℕ) → m < length s.memories → length (bytes_of t m) ≡ length (bytes_of s m)) → HasLengths t
short_lengths s t reached has short bytes = record {
  fits = λ u i within held.
      let k : IsShortQueue (queue_of s u) (queue_of t u) = short u in
      let was : picture_size (queue_of s u).format ≤ (buffer_of (queue_of s u) i).length = has.fits u i (omega (arith, within, k.many)) (k.held i held) in
      omega (arith, was, k.size i, ap (λ f. picture_size f) k.format);
  long = λ u i m held is.
      let k : IsShortQueue (queue_of s u) (queue_of t u) = short u in
      let its : (buffer_of (queue_of s u) i).memory ≡ Some m = sym (k.memory i) ∙ is in
      bytes m (made_number s u i m reached its) ∙ (has.long u i m (k.held i held) its ∙ sym (k.size i));
}

-- ---- the device's steps

drawn_short : (s t : LocalState) → outline t ≡ outline s → (u : ℕ) → IsShortQueue (queue_of s u) (queue_of t u)
drawn_short s t same u =
    let q : QueueState = queue_of s u in
    let v : QueueState = queue_of t u in
    let all : outlined v ≡ outlined q = sym (queue_drawn t u) ∙ (ap (λ (x : LocalState). queue_of x u) same ∙ queue_drawn s u) in
    let each : (i : ℕ) → drawn (buffer_of v i) ≡ drawn (buffer_of q i) = λ i. sym (buffer_drawn v i) ∙ (ap (λ (x : QueueState). buffer_of x i) all ∙ buffer_drawn q i) in
    record {
      format = ap (λ (x : QueueState). x.format) all;
      many = sym (length-map v.buffers drawn) ∙ (ap (λ (x : QueueState). length x.buffers) all ∙ length-map q.buffers drawn);
      held = λ i is.
          let idle : is_idle (buffer_of v i).state ≡ is_idle (buffer_of q i).state =
          sym (idle_seen (buffer_of v i).state) ∙ (ap (λ (b : Buffer). is_idle b.state) (each i) ∙ idle_seen (buffer_of q i).state) in
          (λ j. not (is_user_ptr (sym all j).memory) || not (sym idle j)) ∙ is;
      size = λ i. ap (λ (b : Buffer). b.length) (each i);
      memory = λ i. ap (λ (b : Buffer). b.memory) (each i);
    }

frame_length : (s : LocalState) (m : ℕ) → IsReached s → HasLengths s → can_finish s ≡ true → length (bytes_of (frame_made s) m) ≡ length (bytes_of s m)
frame_length s m reached has ready =
    let d : ℕ = number_of (head_buffer (target s)) in
    let c : ℕ = picture_queue s.model in
    let p : ℕ = place_in (types_of s.model) c in
    let f : Facts s = facts_of s reached in
    let there : IsThere AsQueued (target s) (head (target s)) = target_there s reached ready in
    let busy : is_idle (head_buffer (target s)).state ≡ false = ap is_idle there.1 in
    let held : is_held (target s) (head (target s)) ≡ true = ap (λ b. not (is_user_ptr (target s).memory) || not b) busy ∙ always (not (is_user_ptr (target s).memory)) in
    let mine : (k : ℕ) × HasAt s.queues p (head (target s)) k = f.owns.has p (head (target s)) busy in
    let number : d ≡ mine.0 = ap (λ o. unwrap_or o 0) mine.1 in
    let made : mine.0 < length s.memories = number_made s f.sound p (head (target s)) mine.0 mine.1 in
    let fits : picture_size (target s).format ≤ (head_buffer (target s)).length = has.fits c (head (target s)) there.0 held in
    let long : length (bytes_of s mine.0) ≡ (head_buffer (target s)).length = has.long c (head (target s)) mine.0 held mine.1 in
    let was : length (bytes_of s d) ≡ (head_buffer (target s)).length = ap (λ k. length (bytes_of s k)) number ∙ long in
    let front : length (fronted s) ≡ length (bytes_of s d) = omega (arith, fronted_long s, fits, was) in
    elim (cases_eq m d) as (λ _. length (get_or (set s.memories d (fronted s)) m []) ≡ length (bytes_of s m)) [
      | inl is ↦ ap (λ k. length (get_or (set s.memories d (fronted s)) k [])) is
          ∙ (ap (λ bytes. length bytes) (get_or-set_same s.memories d (fronted s) [] (omega (arith, made, number))) ∙ (front ∙ ap (λ k. length (bytes_of s k)) (sym is)))
      | inr far ↦ ap (λ bytes. length bytes) (get_or-set_other s.memories d m (fronted s) [] far)
    ]
  where
    always : (a : Bool) → (a || true) ≡ true
    always true = refl
    always false = refl

-- ---- one queue is another

put_lengths : (s t : LocalState) (w : ℕ) (v : QueueState) → IsReached s → HasLengths s → t.model ≡ s.model → t.queues ≡ set s.queues (place_in (types_of s.model) w) v →
    place_in (types_of s.model) w < length s.queues → ((m : ℕ) → m < length s.memories → length (bytes_of t m) ≡ length (bytes_of s m)) →
    ((i : ℕ) → i < length v.buffers → is_held v i ≡ true → picture_size v.format ≤ (buffer_of v i).length) →
    ((i m : ℕ) → is_held v i ≡ true → (buffer_of v i).memory ≡ Some m → length (bytes_of t m) ≡ (buffer_of v i).length) → HasLengths t
put_lengths s t w v reached has model queues within bytes fits long =
    let p : ℕ = place_in (types_of s.model) w in
    let there : (u : ℕ) → queue_of t u ≡ get_or (set s.queues p v) (place_in (types_of s.model) u) opening_queue = λ u. λ j. get_or (queues j) (place_in (types_of (model j)) u) opening_queue in
    record {
      fits = λ u. subst (λ x. (i : ℕ) → i < length x.buffers → is_held x i ≡ true → picture_size x.format ≤ (buffer_of x i).length) (sym (there u))
          (elim (cases_eq (place_in (types_of s.model) u) p) as (λ _. (i : ℕ) → i < length (get_or (set s.queues p v) (place_in (types_of s.model) u) opening_queue).buffers
          → is_held (get_or (set s.queues p v) (place_in (types_of s.model) u) opening_queue) i ≡ true
          → picture_size (get_or (set s.queues p v) (place_in (types_of s.model) u) opening_queue).format ≤ (buffer_of (get_or (set s.queues p v) (place_in (types_of s.model) u) opening_queue) i).length) [
            | inl same ↦ subst (λ x. (i : ℕ) → i < length x.buffers → is_held x i ≡ true → picture_size x.format ≤ (buffer_of x i).length)
                (sym (ap (λ k. get_or (set s.queues p v) k opening_queue) same ∙ get_or-set_same s.queues p v opening_queue within)) fits
            | inr far ↦ subst (λ x. (i : ℕ) → i < length x.buffers → is_held x i ≡ true → picture_size x.format ≤ (buffer_of x i).length)
                (sym (get_or-set_other s.queues p (place_in (types_of s.model) u) v opening_queue far)) (has.fits u)
          ]);
      long = λ u. subst (λ x. (i m : ℕ) → is_held x i ≡ true → (buffer_of x i).memory ≡ Some m → length (bytes_of t m) ≡ (buffer_of x i).length) (sym (there u))
          (elim (cases_eq (place_in (types_of s.model) u) p) as (λ _. (i m : ℕ) → is_held (get_or (set s.queues p v) (place_in (types_of s.model) u) opening_queue) i ≡ true
          → (buffer_of (get_or (set s.queues p v) (place_in (types_of s.model) u) opening_queue) i).memory ≡ Some m
          → length (bytes_of t m) ≡ (buffer_of (get_or (set s.queues p v) (place_in (types_of s.model) u) opening_queue) i).length) [
            | inl same ↦ subst (λ x. (i m : ℕ) → is_held x i ≡ true → (buffer_of x i).memory ≡ Some m → length (bytes_of t m) ≡ (buffer_of x i).length)
                (sym (ap (λ k. get_or (set s.queues p v) k opening_queue) same ∙ get_or-set_same s.queues p v opening_queue within)) long
            | inr far ↦ subst (λ x. (i m : ℕ) → is_held x i ≡ true → (buffer_of x i).memory ≡ Some m → length (bytes_of t m) ≡ (buffer_of x i).length)
                (sym (get_or-set_other s.queues p (place_in (types_of s.model) u) v opening_queue far))
                (λ i m held is. bytes m (made_number s u i m reached is) ∙ has.long u i m held is)
          ]);
    }

idle_short : (q : QueueState) → IsShortQueue q (stopped_queue q)
idle_short q =
    let at : (i : ℕ) → buffer_of (stopped_queue q) i ≡ made_idle (buffer_of q i) = λ i. get_or-map made_idle q.buffers i no_buffer in
    record {
      format = refl;
      many = length-map q.buffers made_idle;
      held = λ i is. first (not (is_user_ptr q.memory)) (not (is_idle (buffer_of q i).state)) (sym (ap (λ (b : Buffer). not (is_user_ptr q.memory) || not (is_idle b.state)) (at i)) ∙ is);
      size = λ i. ap (λ (b : Buffer). b.length) (at i);
      memory = λ i. ap (λ (b : Buffer). b.memory) (at i);
    }
  where
    first : (a b : Bool) → (a || false) ≡ true → (a || b) ≡ true
    first true b is = refl
    first false b is = absurd (false≢true is)

-- a queue that is put for another is no more than it
put_short : (s t : LocalState) (w : ℕ) (v : QueueState) → IsReached s → HasLengths s → t.model ≡ s.model → t.queues ≡ set s.queues (place_in (types_of s.model) w) v →
    t.memories ≡ s.memories → place_in (types_of s.model) w < length s.queues → IsShortQueue (queue_of s w) v → HasLengths t
put_short s t w v reached has model queues memories within short =
    put_lengths s t w v reached has model queues within (λ m made. ap (λ ms. length (get_or ms m [])) memories)
    (λ i inside held.
    let was : picture_size (queue_of s w).format ≤ (buffer_of (queue_of s w) i).length = has.fits w i (omega (arith, inside, short.many)) (short.held i held) in
    omega (arith, was, short.size i, ap (λ f. picture_size f) short.format))
    (λ i m held is. ap (λ ms. length (get_or ms m [])) memories ∙ (has.long w i m (short.held i held) (sym (short.memory i) ∙ is) ∙ sym (short.size i)))

within_of : (s : LocalState) (w : ℕ) → IsReached s → has_type s.model w ≡ true → place_in (types_of s.model) w < length s.queues
within_of s w reached has = omega (arith, ltb-true (place_in (types_of s.model) w) (length (types_of s.model)) has, many_queues s reached)

-- ---- calls

has_within : (q : QueueState) (i m : ℕ) → (buffer_of q i).memory ≡ Some m → i < length q.buffers
has_within q i m is = elim (cases_Bool (nat_lt i (length q.buffers))) as (λ _. i < length q.buffers) [
  | inl inside ↦ ltb-true i (length q.buffers) inside
  | inr past ↦ absurd (none-some m (sym (ap (λ (b : Buffer). b.memory) (get_or_past q.buffers i no_buffer (ltb-false i (length q.buffers) past))) ∙ is))
]

-- no queue has buffers
bare_lengths : (t : LocalState) → ((u i : ℕ) → i < length (queue_of t u).buffers → ⊥) → HasLengths t
bare_lengths t none = record {
  fits = λ u i within held. absurd (none u i within);
  long = λ u i m held is. absurd (none u i (has_within (queue_of t u) i m is));
}

set_format_lengths : (s : LocalState) (w : ℕ) (f : _) → has_buffers s ≡ false → HasLengths (with_set_format s w f)
set_format_lengths s w f none =
    let y : LocalState = with_set_format s w f in
    bare_lengths y (λ u i within.
    let same : length (queue_of y u).buffers ≡ length (queue_of s u).buffers =
    formatted_keeps queue_kind (λ (q : QueueState). length q.buffers) (λ q g. refl) s.model s.queues w f (place_in (types_of s.model) u) in
    none_there s u none (lt-ltb 0 (length (queue_of s u).buffers) (omega (arith, within, same))))

fresh_lengths : (s : LocalState) (w : ℕ) (kind : MemoryKind) (n : ℕ) → IsReached s → HasLengths s → has_type s.model w ≡ true → HasLengths (with_buffers s w kind n)
unfolding with_buffers
fresh_lengths s w kind n reached has type =
    let size : ℕ = picture_size (queue_of s w).format in
    let first : ℕ = length s.memories in
    let v : QueueState = record (stopped_queue (queue_of s w)) { memory = kind; buffers = fresh_buffers kind size first n } in
    put_lengths s (with_buffers s w kind n) w v reached has refl refl (within_of s w reached type)
    (λ m made. ap (λ bytes. length bytes) (get_or_append_left s.memories (fresh_memories kind size n) [] m made))
    (λ i inside held. by_fits kind i (omega (arith, inside, fresh_many kind size first n)) held)
    (λ i m held is. by_long kind i m (omega (arith, has_within v i m is, fresh_many kind size first n)) held is)
  where
    by_fits : (k : MemoryKind) (i : ℕ) → i < n →
        (not (is_user_ptr k) || not (is_idle (get_or (fresh_buffers k (picture_size (queue_of s w).format) (length s.memories) n) i no_buffer).state)) ≡ true →
        picture_size (queue_of s w).format ≤ (get_or (fresh_buffers k (picture_size (queue_of s w).format) (length s.memories) n) i no_buffer).length
    by_fits MmapKind i inside held =
        let size : ℕ = picture_size (queue_of s w).format in
        omega (arith, ap (λ (b : Buffer). b.length) (get_or-map-range_with_len (λ m. fresh_buffer size (Some m)) (length s.memories) n i (length s.memories + i) no_buffer inside refl))
    by_fits UserPtr i inside held =
        let size : ℕ = picture_size (queue_of s w).format in
        omega (arith, ap (λ (b : Buffer). b.length) (get_or-replicate n i (fresh_buffer size None) no_buffer inside))

    by_long : (k : MemoryKind) (i m : ℕ) → i < n →
        (not (is_user_ptr k) || not (is_idle (get_or (fresh_buffers k (picture_size (queue_of s w).format) (length s.memories) n) i no_buffer).state)) ≡ true →
        (get_or (fresh_buffers k (picture_size (queue_of s w).format) (length s.memories) n) i no_buffer).memory ≡ Some m →
        length (get_or (s.memories ++ fresh_memories k (picture_size (queue_of s w).format) n) m []) ≡ (get_or (fresh_buffers k (picture_size (queue_of s w).format) (length s.memories) n) i no_buffer).length
    by_long MmapKind i m inside held is =
        let size : ℕ = picture_size (queue_of s w).format in
        let b : get_or (fresh_buffers MmapKind size (length s.memories) n) i no_buffer ≡ fresh_buffer size (Some (length s.memories + i)) =
        get_or-map-range_with_len (λ m. fresh_buffer size (Some m)) (length s.memories) n i (length s.memories + i) no_buffer inside refl in
        let number : m ≡ length s.memories + i = some_same m (length s.memories + i) m (sym is ∙ ap (λ (x : Buffer). x.memory) b) in
        ap (λ k. length (get_or (s.memories ++ fresh_memories MmapKind size n) k [])) number
        ∙ (ap (λ bytes. length bytes) (get_or-append-add s.memories (fresh_memories MmapKind size n) i [] ∙ get_or-replicate n i (replicate size 0) [] inside)
        ∙ (length-replicate size 0 ∙ sym (ap (λ (x : Buffer). x.length) b)))
    by_long UserPtr i m inside held is =
        absurd (none-some m (sym (ap (λ (x : Buffer). x.memory) (get_or-replicate n i (fresh_buffer (picture_size (queue_of s w).format) None) no_buffer inside)) ∙ is))

queued_lengths : (s : LocalState) (w i used ts : ℕ) (user : Option (List ℕ)) → IsReached s → HasLengths s → IsQueueing s w i user used → HasLengths (with_queued s w i (brought s user) used ts)
unfolding queued_buffer
queued_lengths s w i used ts user reached has queueing =
    let q : QueueState = queue_of s w in
    let b : Buffer = queued_buffer s w (brought s user) used ts (buffer_of q i) in
    let v : QueueState = record q { buffers = set q.buffers i b; queued = q.queued ++ i ∷ [] } in
    let inside : i < length q.buffers = ltb-true i (length q.buffers) queueing.inside in
    let mine : buffer_of v i ≡ b = get_or-set_same q.buffers i b no_buffer inside in
    let long : length (bytes_of s (unwrap_or (memory_from (brought s user) (buffer_of q i)) 0)) ≡ b.length = by_user user refl in
    put_lengths s (with_queued s w i (brought s user) used ts) w v reached has refl refl (within_of s w reached queueing.has) (λ m made. refl)
    (λ k within held. elim (cases_eq k i) as (λ _. picture_size q.format ≤ (buffer_of v k).length) [
      | inl is ↦ subst (λ j. picture_size q.format ≤ (buffer_of v j).length) (sym is) (subst (λ c. picture_size q.format ≤ c.length) (sym mine) (fits_user user refl))
      | inr far ↦
          let same : buffer_of v k ≡ buffer_of q k = get_or-set_other q.buffers i k b no_buffer far in
          subst (λ c. picture_size q.format ≤ c.length) (sym same)
          (has.fits w k (omega (arith, within, length-set q.buffers i b)) (ap (λ (c : Buffer). not (is_user_ptr q.memory) || not (is_idle c.state)) (sym same) ∙ held))
    ])
    (λ k m held is. elim (cases_eq k i) as (λ _. length (bytes_of s m) ≡ (buffer_of v k).length) [
      | inl at ↦
          let number : memory_from (brought s user) (buffer_of q i) ≡ Some m = sym (ap (λ (c : Buffer). c.memory) (ap (λ j. buffer_of v j) at ∙ mine)) ∙ is in
          ap (λ n. length (bytes_of s n)) (sym (ap (λ o. unwrap_or o 0) number)) ∙ (long ∙ sym (ap (λ (c : Buffer). c.length) (ap (λ j. buffer_of v j) at ∙ mine)))
      | inr far ↦
          let same : buffer_of v k ≡ buffer_of q k = get_or-set_other q.buffers i k b no_buffer far in
          has.long w k m (ap (λ (c : Buffer). not (is_user_ptr q.memory) || not (is_idle c.state)) (sym same) ∙ held) (sym (ap (λ (c : Buffer). c.memory) same) ∙ is)
          ∙ sym (ap (λ (c : Buffer). c.length) same)
    ])
  where
    device : user ≡ None → is_user_ptr (queue_of s w).memory ≡ false
    device none = bare (is_user_ptr (queue_of s w).memory) (ap (λ o. not (is_some o) && is_user_ptr (queue_of s w).memory) (sym none) ∙ queueing.named)
      where
        bare : (a : Bool) → a ≡ false → a ≡ false
        bare a is = is

    by_user : (o : Option (List ℕ)) → user ≡ o → length (bytes_of s (unwrap_or (memory_from (brought s o) (buffer_of (queue_of s w) i)) 0)) ≡ length_from s (brought s o) (buffer_of (queue_of s w) i)
    by_user None is =
        let kind : is_user_ptr (queue_of s w).memory ≡ false = device is in
        let inside : i < length (queue_of s w).buffers = ltb-true i (length (queue_of s w).buffers) queueing.inside in
        has.long w i (unwrap_or (buffer_of (queue_of s w) i).memory 0) (ap (λ k. not k || not (is_idle (buffer_of (queue_of s w) i).state)) kind)
        (device_made s (facts_of s reached).sound w i inside kind)
    by_user (Some u) is = refl

    fits_user : (o : Option (List ℕ)) → user ≡ o → picture_size (queue_of s w).format ≤ length_from s (brought s o) (buffer_of (queue_of s w) i)
    fits_user None is =
        has.fits w i (ltb-true i (length (queue_of s w).buffers) queueing.inside) (ap (λ k. not k || not (is_idle (buffer_of (queue_of s w) i).state)) (device is))
    fits_user (Some u) is =
        ltb-false (length_from s (brought s (Some u)) (buffer_of (queue_of s w) i)) (picture_size (queue_of s w).format)
        (ap (λ o. is_some o && nat_lt (length_from s (brought s o) (buffer_of (queue_of s w) i)) (picture_size (queue_of s w).format)) (sym is) ∙ queueing.long)

-- a memory is written to
written_lengths : (s : LocalState) (n : ℕ) (new : List ℕ) → IsReached s → HasLengths s → length new ≡ length (bytes_of s n) →
    HasLengths (record s { memories = set s.memories n new })
written_lengths s n new reached has same =
    let y : LocalState = record s { memories = set s.memories n new } in
    short_lengths s y reached has (λ u. short_itself (queue_of s u)) (λ m made. elim (cases_eq m n) as (λ _. length (bytes_of y m) ≡ length (bytes_of s m)) [
      | inl is ↦
          let inside : n < length s.memories = omega (arith, made, is) in
          ap (λ k. length (get_or (set s.memories n new) k [])) is
          ∙ (ap (λ bytes. length bytes) (get_or-set_same s.memories n new [] inside) ∙ (same ∙ ap (λ k. length (bytes_of s k)) (sym is)))
      | inr far ↦ ap (λ bytes. length bytes) (get_or-set_other s.memories n m new [] far)
    ])

still_lengths : (s t : LocalState) → IsReached s → HasLengths s → t.model ≡ s.model → t.queues ≡ s.queues → t.memories ≡ s.memories → HasLengths t
still_lengths s t reached has model queues memories =
    let same : (u : ℕ) → queue_of t u ≡ queue_of s u = λ u. λ j. get_or (queues j) (place_in (types_of (model j)) u) opening_queue in
    short_lengths s t reached has (λ u. subst (λ v. IsShortQueue (queue_of s u) v) (sym (same u)) (short_itself (queue_of s u))) (λ m made. ap (λ ms. length (get_or ms m [])) memories)

opened_lengths : (s : LocalState) (nonblock : Bool) → HasLengths (opened_anew s nonblock)
opened_lengths s nonblock =
    let y : LocalState = opened_anew s nonblock in
    bare_lengths y (λ u i within.
    let bare : queue_of y u ≡ opening_queue = get_or-map (λ (t : ℕ). opening_queue) (types_of s.model) (place_in (types_of s.model) u) 0 in
    absurd (omega (arith, within, ap (λ (q : QueueState). length q.buffers) bare)))

closed_lengths : (s : LocalState) → IsReached s → HasLengths s → HasLengths (closed s)
closed_lengths s reached has =
    short_lengths s (closed s) reached has
    (λ u. subst (λ v. IsShortQueue (queue_of s u) v) (sym (get_or-map stopped_queue s.queues (place_in (types_of s.model) u) opening_queue)) (idle_short (queue_of s u)))
    (λ m made. refl)

started_short : (q : QueueState) → IsShortQueue q (started q)
started_short q = record { format = refl; many = refl; held = λ i is. is; size = λ i. refl; memory = λ i. refl }

taken_short : (q : QueueState) (i : ℕ) → IsShortQueue q (record q { buffers = set q.buffers i (made_idle (buffer_of q i)); done = drop 1 q.done })
taken_short q i =
    let b : Buffer = made_idle (buffer_of q i) in
    record {
      format = refl;
      many = length-set q.buffers i b;
      held = λ k is. idle_set q i k is;
      size = set_keeps no_buffer (λ (x : Buffer). x.length) q.buffers i b refl;
      memory = set_keeps no_buffer (λ (x : Buffer). x.memory) q.buffers i b refl;
    }
  where
    or_bare : (a : Bool) → (a || false) ≡ a
    or_bare true = refl
    or_bare false = refl

    idle_set : (q : QueueState) (i k : ℕ) → (not (is_user_ptr q.memory) || not (is_idle (get_or (set q.buffers i (made_idle (buffer_of q i))) k no_buffer).state)) ≡ true → is_held q k ≡ true
    idle_set q i k is = elim (cases_eq k i) as (λ _. is_held q k ≡ true) [
      | inl same ↦ by_device (is_user_ptr q.memory) (at_i (nat_lt i (length q.buffers)) refl same is)
      | inr far ↦ ap (λ (x : Buffer). not (is_user_ptr q.memory) || not (is_idle x.state)) (sym (get_or-set_other q.buffers i k (made_idle (buffer_of q i)) no_buffer far)) ∙ is
    ]
      where
        by_device : (user : Bool) → not user ≡ true → (not user || not (is_idle (buffer_of q k).state)) ≡ true
        by_device true is = absurd (false≢true is)
        by_device false is = refl

        at_i : (inside : Bool) → nat_lt i (length q.buffers) ≡ inside → k ≡ i → (not (is_user_ptr q.memory) || not (is_idle (get_or (set q.buffers i (made_idle (buffer_of q i))) k no_buffer).state)) ≡ true → not (is_user_ptr q.memory) ≡ true
        at_i true inside same is =
            let here : get_or (set q.buffers i (made_idle (buffer_of q i))) k no_buffer ≡ made_idle (buffer_of q i) =
            ap (λ j. get_or (set q.buffers i (made_idle (buffer_of q i))) j no_buffer) same ∙ get_or-set_same q.buffers i (made_idle (buffer_of q i)) no_buffer (ltb-true i (length q.buffers) inside) in
            sym (or_bare (not (is_user_ptr q.memory))) ∙ (ap (λ (x : Buffer). not (is_user_ptr q.memory) || not (is_idle x.state)) (sym here) ∙ is)
        at_i false past same is =
            let here : get_or (set q.buffers i (made_idle (buffer_of q i))) k no_buffer ≡ no_buffer =
            get_or_past (set q.buffers i (made_idle (buffer_of q i))) k no_buffer
            (omega (arith, same, ltb-false i (length q.buffers) past, length-set q.buffers i (made_idle (buffer_of q i)))) in
            sym (or_bare (not (is_user_ptr q.memory))) ∙ (ap (λ (x : Buffer). not (is_user_ptr q.memory) || not (is_idle x.state)) (sym here) ∙ is)

cut_long : (off n : ℕ) (old bytes : List ℕ) → n ≡ length bytes → off + n ≤ length old → length (take off old ++ (bytes ++ drop (off + n) old)) ≡ length old
cut_long off n old bytes long within =
    let front : length (take off old) ≡ off = length-take-le off old (omega (arith, within)) in
    let rest : length (drop (off + n) old) ≡ length old - (off + n) = length-drop (off + n) old in
    omega (arith, length-append (take off old) (bytes ++ drop (off + n) old), length-append bytes (drop (off + n) old), front, rest, long, within)

row_lengths : (s : LocalState) (line addr : ℕ) (call : Call) → IsReached s → HasLengths s → first_refusal (row_of s line addr call).refusals ≡ None → HasLengths (row_of s line addr call).next
unfolding querycap_row enumfmt_row gfmt_row tryfmt_row sfmt_row enuminput_row ginput_row sinput_row reqbufs_row querybuf_row ualloc_row qbuf_row streamon_row streamoff_row dqbuf_row mmap_row munmap_row read_row hash_row write_row fill_row subscribe_row unsubscribe_row dqevent_row
row_lengths s line addr (OpenHandle nonblock) reached has pass = opened_lengths s nonblock
row_lengths s line addr CloseHandle reached has pass = closed_lengths s reached has
row_lengths s line addr QueryCap reached has pass = has
row_lengths s line addr (EnumFmt t i) reached has pass = has
row_lengths s line addr (GFmt t) reached has pass = has
row_lengths s line addr (TryFmt t f w h) reached has pass = has
row_lengths s line addr (SFmt t f w h) reached has pass = set_format_lengths s t (adjusted_for s t f w h) (passes (sfmt_row s t f w h).refusals pass 2)
row_lengths s line addr (EnumInput i) reached has pass = has
row_lengths s line addr GInput reached has pass = has
row_lengths s line addr (SInput i) reached has pass = still_lengths s (record s { input = i }) reached has refl refl refl
row_lengths s line addr (ReqBufs t m n) reached has pass =
    fresh_lengths s t (memory_kind m) (granted n) reached has (not-false _ (passes (reqbufs_row s t m n).refusals pass 1))
row_lengths s line addr (QueryBuf t i) reached has pass = has
row_lengths s line addr (UAlloc u len off) reached has pass =
    short_lengths s (ualloc_row s line u len off).next reached has (λ w. short_itself (queue_of s w))
    (λ m made. ap (λ bytes. length bytes) (get_or_append_left s.memories (replicate len 0 ∷ []) [] m made))
row_lengths s line addr (QBuf t i user used ts) reached has pass = queued_lengths s t i used ts user reached has (queueing_is s t i user used ts pass)
row_lengths s line addr (StreamOn t) reached has pass =
    put_short s (with_queue s t (started (queue_of s t))) t (started (queue_of s t)) reached has refl refl refl
    (within_of s t reached (not-false _ (passes (streamon_row s t).refusals pass 1))) (started_short (queue_of s t))
row_lengths s line addr (StreamOff t) reached has pass =
    put_short s (stopped s t) t (stopped_queue (queue_of s t)) reached has refl refl refl
    (within_of s t reached (not-false _ (passes (streamoff_row s t).refusals pass 1))) (idle_short (queue_of s t))
row_lengths s line addr (DqBuf t) reached has pass =
    put_short s (dqbuf_row s t).next t (taken_back (queue_of s t)) reached has refl refl refl
    (within_of s t reached (not-false _ (passes (dqbuf_row s t).refusals pass 1))) (taken_short (queue_of s t) (first_done (queue_of s t)))
row_lengths s line addr (Mmap m t i ro) reached has pass = still_lengths s (mmap_row s addr m t i ro).next reached has refl refl refl
row_lengths s line addr (Munmap m) reached has pass = still_lengths s (munmap_row s m).next reached has refl refl refl
row_lengths s line addr (Peek m off len) reached has pass = has
row_lengths s line addr (Hash m) reached has pass = has
row_lengths s line addr (Poke m off bytes) reached has pass =
    let n : ℕ = memory_of (named s m) in
    let old : List ℕ = bytes_of s n in
    written_lengths s n (take off old ++ (bytes ++ drop (off + length bytes) old)) reached has
    (cut_long off (length bytes) old bytes refl (ltb-false (length old) (off + length bytes) (passes (write_row s m off bytes).refusals pass 1)))
row_lengths s line addr (Fill m seed) reached has pass =
    let n : ℕ = memory_of (named s m) in
    written_lengths s n (seeded seed (length (bytes_of s n))) reached has (length-map-range_with_len (λ i. (7 * i + seed) % 256) 0 (length (bytes_of s n)))
row_lengths s line addr (Subscribe e) reached has pass = still_lengths s (subscribe_row s e).next reached has refl refl refl
row_lengths s line addr (Unsubscribe e) reached has pass = still_lengths s (unsubscribe_row s e).next reached has refl refl refl
row_lengths s line addr DqEvent reached has pass = still_lengths s (dqevent_row s).next reached has refl refl refl

-- ---- all entries

entry_lengths : (s t : LocalState) (e : Entry) → IsReached s → HasLengths s → after s e ≡ Some t → HasLengths t
unfolding called
entry_lengths s t (Called line call reply) reached has leads =
    let r : Row = row_for s line call reply in
    elim (answered_by (first_refusal r.refusals) r s reply t leads) as (λ _. HasLengths t) [
      | inl same ↦ subst HasLengths (sym same) has
      | inr went ↦ subst HasLengths (sym went.3) (row_lengths s line (address_in reply) call reached has went.0)
    ]
entry_lengths s t Finish reached has leads =
    let by : (can_finish s ≡ true) × (t ≡ frame_made s) = finished_by s t leads in
    short_lengths s t reached has (drawn_short s t (outline_kept s t Finish refl reached leads))
    (λ m made. ap (λ x. length (bytes_of x m)) by.1 ∙ frame_length s m reached has by.0)
entry_lengths s t Bad reached has leads =
    short_lengths s t reached has (drawn_short s t (outline_kept s t Bad refl reached leads)) (λ m made. ap (λ x. length (bytes_of x m)) (failed_by s t leads).1)
entry_lengths s t Give reached has leads =
    short_lengths s t reached has (drawn_short s t (outline_kept s t Give refl reached leads))
    (λ m made. ap (λ (x : LocalState). length (bytes_of x m)) (given_seen s t reached leads))

begins : (m : Model) → HasLengths (opening m)
begins m =
    bare_lengths (opening m) (λ u i within.
    let bare : queue_of (opening m) u ≡ opening_queue = get_or-map (λ (t : ℕ). opening_queue) (types_of m) (place_in (types_of m) u) 0 in
    absurd (omega (arith, within, ap (λ (q : QueueState). length q.buffers) bare)))

pub lengths_are : (s : LocalState) → IsReached s → HasLengths s
lengths_are s (m, log, leads) =
    (kept_by_all (λ x. IsReached x × HasLengths x) (λ x y e both goes. (reached_after x y e both.0 goes, entry_lengths x y e both.0 both.1 goes)) log (opening m) s
    ((m, [], refl), begins m) leads).1

-- a step of the device leaves the lengths of memories
pub step_lengths : (s t : LocalState) (e : Entry) (m : ℕ) → is_step e ≡ true → IsReached s → after s e ≡ Some t → length (bytes_of t m) ≡ length (bytes_of s m)
step_lengths s t (Called line call reply) m step reached leads = absurd (false≢true step)
step_lengths s t Finish m step reached leads =
    let by : (can_finish s ≡ true) × (t ≡ frame_made s) = finished_by s t leads in
    ap (λ x. length (bytes_of x m)) by.1 ∙ frame_length s m reached (lengths_are s reached) by.0
step_lengths s t Bad m step reached leads = ap (λ x. length (bytes_of x m)) (failed_by s t leads).1
step_lengths s t Give m step reached leads = ap (λ (x : LocalState). length (bytes_of x m)) (given_seen s t reached leads)
