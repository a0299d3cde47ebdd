-- The memories that a handle's buffers and names have were made.
use Rattle.std.proofs.Common.{◌≡◌, ◌⊎◌, inl, inr, ℕ, zero, suc, ◌+◌, ◌<◌, ◌≤◌, Bool, true, false, not, ◌&&◌, ◌||◌, ◌==◌, nat_lt, if◌then◌else◌, List, [], ◌∷◌, ◌++◌, length, get_or, set, map, replicate, All, Option, Some, None, refl, sym, ap, ◌∙◌, subst, arith, true≢false, bytes_eq, length-set, length-append}
use Rattle.std.specs.Prelude.{⊤}
use Rattle.std.specs.List.{list_any, range_with_len}
use Rattle.std.specs.Option.{unwrap_or}
use Rattle.std.proofs.lemmas.Bool.{false≢true, ltb-true, eqb-true}
use Rattle.std.proofs.lemmas.List.{length-replicate}
use Rattle.std.proofs.lemmas.List.Elements.{All-nil, All-cons, All-head, All-tail, All-set, All-map, All-weaker, All-push, All-replicate, All-filter}
use Rattle.v4l_const.specs.declared.errno.Errno.TheVariants.{Enomem}
use Rattle.v4l_const.specs.declared.model.Model.{Model}
use Rattle.v4l_const.specs.Model.{queues as types_of, picture_queue}
use Rattle.v4l_format.specs.declared.fmt.Fmt.{Fmt}
use Rattle.v4l_format.specs.Fmt.{picture_size}
use Rattle.vm_local.specs.declared.bound.Bound.{Bound}
use Rattle.vm_local.specs.declared.bound.BoundKind.TheVariants.{Mapping, User}
use Rattle.vm_local.specs.declared.bound.MemoryKind.{MemoryKind}
use Rattle.vm_local.specs.declared.bound.MemoryKind.TheVariants.{Mmap, UserPtr}
use Rattle.vm_local.specs.declared.buffer.Buffer.{Buffer}
use Rattle.vm_local.specs.declared.buffer.BufferState.TheVariants.{Done}
use Rattle.vm_local.specs.declared.call.Call.{Call}
use Rattle.vm_local.specs.declared.call.Call.TheVariants.{OpenHandle, CloseHandle, QueryCap, EnumFmt, GFmt, TryFmt, SFmt, EnumInput, GInput, SInput, ReqBufs, QueryBuf, UAlloc, QBuf, StreamOn, StreamOff, DqBuf, Mmap as MapCall, Munmap, Peek, Hash, Poke, Fill, Subscribe, Unsubscribe, DqEvent}
use Rattle.vm_local.specs.declared.entry.Entry.{Entry}
use Rattle.vm_local.specs.declared.entry.Entry.TheVariants.{Called, Finish, Bad, Give}
use Rattle.vm_local.specs.declared.owed.Owed.{Owed as OwedEntry}
use Rattle.vm_local.specs.declared.owed.OwedItem.{OwedItem}
use Rattle.vm_local.specs.declared.owed.OwedItem.TheVariants.{Buffer as OwedBuffer, Sync}
use Rattle.vm_local.specs.State.{QueueState, LocalState, opening, opening_queue, queue_kind, queue_of, no_buffer, buffer_of}
use Rattle.vm_local.specs.Same.{address_in}
use Rattle.vm_local.specs.Memory.{named, named_in, is_user, memory_of, without_name, is_just, is_in_use}
use Rattle.vm_local.specs.Kinds.{is_idle}
use Rattle.vm_local.specs.Queue.{is_user_ptr, with_set_format, adjusted_for, made_idle, stopped_queue, memory_kind, fresh_buffer, fresh_buffers, fresh_memories, granted, with_buffers, brought, queued_buffer, with_queued, started, taken_back, first_done}
use Rattle.vm_local.specs.Steps.{head, head_buffer, target, taken, taken_buffer, with_used, with_target_used, heads_taken, next_timestamp, with_done, item_given, counted, sync_of, buffers_taken}
use Rattle.vm_local.specs.Calls.{Row, row_of, names_no_user, querycap_row, enumfmt_row, gfmt_row, tryfmt_row, sfmt_row, enuminput_row, ginput_row, sinput_row, reqbufs_row, querybuf_row, ualloc_row, qbuf_row, streamon_row, streamoff_row, dqbuf_row, mmap_row, munmap_row, read_row, hash_row, write_row, fill_row, subscribe_row, unsubscribe_row, dqevent_row}
use Rattle.v4l_rules.specs.Queues.{place_in}
use Rattle.v4l_rules.specs.Formats.{is_source, sized_as, with_format_at, with_source_format, with_set_format_at}
use Rattle.v4l_rules.specs.Refusals.{first_refusal}
use Rattle.vm_local.specs.Log.{row_for, called, after, replay}
use Rattle.vm_local.specs.Live.{IsMade, IsBacked, AreBacked, is_of_device, is_named, is_live}
use Rattle.vm_local.proofs.StepLemmas.{passes, answered_by, frame_made, frame_failed, finished_by, failed_by, given_by, Gave, kept_by_all}

not_not : (b : Bool) → not b ≡ false → b ≡ true
not_not true h = refl
not_not false h = absurd (false≢true (sym h))

-- ---- one memory, over the number of memories

abbrev Backed : ℕ → MemoryKind → Option ℕ → Type 0
Backed n Mmap None = ⊥
Backed n Mmap (Some m) = m < n
Backed n UserPtr None = ⊤
Backed n UserPtr (Some m) = m < n

-- the buffers of a queue
abbrev IsQueueBacked : ℕ → QueueState → Type 0
IsQueueBacked n q = All (λ (b : Buffer). Backed n q.memory b.memory) q.buffers

abbrev AreNamesMade : ℕ → List Bound → Type 0
AreNamesMade n bound = All (λ (b : Bound). b.memory < n) bound

-- a handle's memories
abbrev Sound : ℕ → List QueueState → List Bound → Type 0
Sound n qs bound = All (IsQueueBacked n) qs × AreNamesMade n bound

abbrev IsSound : LocalState → Type 0
IsSound s = Sound (length s.memories) s.queues s.bound

more_backed : (n m : ℕ) → n ≤ m → (kind : MemoryKind) (memory : Option ℕ) → Backed n kind memory → Backed m kind memory
more_backed n m le Mmap None h = absurd h
more_backed n m le Mmap (Some k) h = omega (arith, le, h)
more_backed n m le UserPtr None h = tt
more_backed n m le UserPtr (Some k) h = omega (arith, le, h)

more_queue : (n m : ℕ) → n ≤ m → (q : QueueState) → IsQueueBacked n q → IsQueueBacked m q
more_queue n m le q h =
    All-weaker (λ (b : Buffer). Backed n q.memory b.memory) (λ (b : Buffer). Backed m q.memory b.memory)
    (λ b. more_backed n m le q.memory b.memory) q.buffers h

more_sound : (n m : ℕ) → n ≤ m → (qs : List QueueState) (bound : List Bound) → Sound n qs bound → Sound m qs bound
more_sound n m le qs bound h = (
  All-weaker (IsQueueBacked n) (IsQueueBacked m) (more_queue n m le) qs h.0,
  All-weaker (λ (b : Bound). b.memory < n) (λ (b : Bound). b.memory < m) (λ b l. omega (arith, le, l)) bound h.1,
)

-- ---- elements of lists of which all are so

pub all_at : {A : Type 0} (P : A → Type 0) (xs : List A) (i : ℕ) (d : A) → P d → All P xs → P (get_or xs i d)
all_at P [] i d h all = h
all_at P (x ∷ xs) zero d h all = All-head P x xs all
all_at P (x ∷ xs) (suc i) d h all = all_at P xs i d h (All-tail P x xs all)

bare_queue : (n : ℕ) → IsQueueBacked n opening_queue
bare_queue n = All-nil _

queue_at : (n : ℕ) (qs : List QueueState) (p : ℕ) → All (IsQueueBacked n) qs → IsQueueBacked n (get_or qs p opening_queue)
queue_at n qs p h = all_at (IsQueueBacked n) qs p opening_queue (bare_queue n) h

-- a buffer of a queue, by a place that is one of the queue's
buffer_at : (n : ℕ) (q : QueueState) (i : ℕ) → IsQueueBacked n q → i < length q.buffers → Backed n q.memory (buffer_of q i).memory
buffer_at n q i h within = h i no_buffer within

-- one buffer is changed, and has the memory that it had
same_memory : (kind : MemoryKind) (n : ℕ) (bs : List Buffer) (i : ℕ) (b : Buffer) → b.memory ≡ (get_or bs i no_buffer).memory →
    All (λ (c : Buffer). Backed n kind c.memory) bs → All (λ (c : Buffer). Backed n kind c.memory) (set bs i b)
same_memory kind n [] i b same h = h
same_memory kind n (c ∷ cs) zero b same h =
    let P : Buffer → Type 0 = λ x. Backed n kind x.memory in
    All-cons P b cs (subst (Backed n kind) (sym same) (All-head P c cs h)) (All-tail P c cs h)
same_memory kind n (c ∷ cs) (suc i) b same h =
    let P : Buffer → Type 0 = λ x. Backed n kind x.memory in
    All-cons P c (set cs i b) (All-head P c cs h) (same_memory kind n cs i b same (All-tail P c cs h))

sound_set : (n : ℕ) (qs : List QueueState) (p : ℕ) (v : QueueState) (bound : List Bound) → IsQueueBacked n v → Sound n qs bound → Sound n (set qs p v) bound
sound_set n qs p v bound here h = (All-set (IsQueueBacked n) qs p v here h.0, h.1)

sound_map : (n : ℕ) (f : QueueState → QueueState) (qs : List QueueState) (bound : List Bound) →
    ((q : QueueState) → IsQueueBacked n q → IsQueueBacked n (f q)) → Sound n qs bound → Sound n (map f qs) bound
sound_map n f qs bound keeps h = (All-map (IsQueueBacked n) f qs (All-weaker (IsQueueBacked n) (λ q. IsQueueBacked n (f q)) keeps qs h.0), h.1)

backed_idle : (n : ℕ) (q : QueueState) → IsQueueBacked n q → IsQueueBacked n (stopped_queue q)
backed_idle n q h = All-map (λ (b : Buffer). Backed n q.memory b.memory) made_idle q.buffers h

-- ---- names

named_made : (n : ℕ) (bound : List Bound) (name : List ℕ) → AreNamesMade n bound → is_user (named_in bound name) ≡ true → memory_of (named_in bound name) < n
named_made n [] name h user = absurd (false≢true user)
named_made n (b ∷ bs) name h user =
    elim (bytes_eq b.name name) as (λ t. is_user (if t then Some b else named_in bs name) ≡ true → memory_of (if t then Some b else named_in bs name) < n) [
      | true ↦ λ u. All-head (λ (c : Bound). c.memory < n) b bs h
      | false ↦ λ u. named_made n bs name (All-tail (λ (c : Bound). c.memory < n) b bs h) u
    ] user

sound_bound : (n : ℕ) (qs : List QueueState) (bound : List Bound) (b : Bound) → b.memory < n → Sound n qs bound → Sound n qs (without_name bound b.name ++ b ∷ [])
sound_bound n qs bound b made h =
    (h.0, All-push (λ (c : Bound). c.memory < n) (without_name bound b.name) b (All-filter _ (λ (c : Bound). c.memory < n) bound h.1) made)

-- ---- buffers

fresh_backed : (size first n k : ℕ) → first + k ≤ n → All (λ (b : Buffer). Backed n Mmap b.memory) (map (λ m. fresh_buffer size (Some m)) (range_with_len first k))
fresh_backed size first n zero le = All-nil _
fresh_backed size first n (suc k) le =
    All-cons (λ (b : Buffer). Backed n Mmap b.memory) (fresh_buffer size (Some first)) (map (λ m. fresh_buffer size (Some m)) (range_with_len (first + 1) k))
    (omega (arith, le)) (fresh_backed size (first + 1) n k (omega (arith, le)))

sound_renewed : (kind : MemoryKind) (size k : ℕ) (q : QueueState) (qs : List QueueState) (p : ℕ) (bound : List Bound) (memories : List (List ℕ)) →
    Sound (length memories) qs bound →
    Sound (length (memories ++ fresh_memories kind size k))
    (set qs p (record (stopped_queue q) { memory = kind; buffers = fresh_buffers kind size (length memories) k })) bound
sound_renewed Mmap size k q qs p bound memories h =
    let zeros : List (List ℕ) = replicate k (replicate size 0) in
    let n : ℕ = length (memories ++ zeros) in
    let long : n ≡ length memories + k = length-append memories zeros ∙ ap (λ j. length memories + j) (length-replicate k (replicate size 0)) in
    sound_set n qs p (record (stopped_queue q) { memory = Mmap; buffers = fresh_buffers Mmap size (length memories) k }) bound
    (fresh_backed size (length memories) n k (omega (arith, long))) (more_sound (length memories) n (omega (arith, long)) qs bound h)
sound_renewed UserPtr size k q qs p bound memories h =
    let n : ℕ = length (memories ++ []) in
    let long : n ≡ length memories + 0 = length-append memories [] in
    sound_set n qs p (record (stopped_queue q) { memory = UserPtr; buffers = fresh_buffers UserPtr size (length memories) k }) bound
    (All-replicate (λ (b : Buffer). Backed n UserPtr b.memory) k (fresh_buffer size None) tt) (more_sound (length memories) n (omega (arith, long)) qs bound h)

kind_backed : (n m : ℕ) (kind : MemoryKind) → m < n → Backed n kind (Some m)
kind_backed n m Mmap h = h
kind_backed n m UserPtr h = h

-- a buffer as its qbuf leaves it
backed_queued : (s : LocalState) (t : ℕ) (user : Option (List ℕ)) (used ts : ℕ) (b : Buffer) (kind : MemoryKind) → AreNamesMade (length s.memories) s.bound →
    names_no_user s user ≡ false → Backed (length s.memories) kind b.memory → Backed (length s.memories) kind (queued_buffer s t (brought s user) used ts b).memory
unfolding queued_buffer
backed_queued s t None used ts b kind names bare h = h
backed_queued s t (Some u) used ts b kind names bare h =
    kind_backed (length s.memories) (memory_of (named s u)) kind (named_made (length s.memories) s.bound u names (not_not (is_user (named s u)) bare))

sound_queued : (s : LocalState) (t i : ℕ) (user : Option (List ℕ)) (used ts : ℕ) → nat_lt i (length (queue_of s t).buffers) ≡ true →
    names_no_user s user ≡ false → IsSound s → IsSound (with_queued s t i (brought s user) used ts)
sound_queued s t i user used ts index bare h =
    let n : ℕ = length s.memories in
    let p : ℕ = place_in (types_of s.model) t in
    let q : QueueState = queue_of s t in
    let b : Buffer = queued_buffer s t (brought s user) used ts (buffer_of q i) in
    let all : IsQueueBacked n q = queue_at n s.queues p h.0 in
    let one : Backed n q.memory b.memory = backed_queued s t user used ts (buffer_of q i) q.memory h.1 bare (buffer_at n q i all (ltb-true i (length q.buffers) index)) in
    sound_set n s.queues p (record q { buffers = set q.buffers i b; queued = q.queued ++ i ∷ [] }) s.bound
    (All-set (λ (c : Buffer). Backed n q.memory c.memory) q.buffers i b one all) h

-- a queue of the state with one buffer changed that keeps its memory
sound_buffer : (n : ℕ) (qs : List QueueState) (p i : ℕ) (b : Buffer) (v : QueueState) (bound : List Bound) →
    b.memory ≡ (buffer_of (get_or qs p opening_queue) i).memory → v.memory ≡ (get_or qs p opening_queue).memory →
    v.buffers ≡ set (get_or qs p opening_queue).buffers i b → Sound n qs bound → Sound n (set qs p v) bound
sound_buffer n qs p i b v bound same kind buffers h =
    let q : QueueState = get_or qs p opening_queue in
    let now : All (λ (c : Buffer). Backed n q.memory c.memory) (set q.buffers i b) = same_memory q.memory n q.buffers i b same (queue_at n qs p h.0) in
    sound_set n qs p v bound (rw (kind, buffers) now) h

backed_taken : (n : ℕ) (good : Bool) (ts : ℕ) (q : QueueState) → IsQueueBacked n q → IsQueueBacked n (taken good ts q)
backed_taken n good ts q h = same_memory q.memory n q.buffers (head q) (taken_buffer good q.next_sequence ts (head_buffer q)) refl h

-- ---- the calls

sound_format : (s : LocalState) (t : ℕ) (f : Fmt) → IsSound s → IsSound (with_set_format s t f)
unfolding with_set_format_at
sound_format s t f h =
    let m : Model = s.model in
    let n : ℕ = length s.memories in
    let P : List QueueState → Type 0 = λ qs. Sound n qs s.bound in
    let g : Fmt = sized_as f (queue_of s (picture_queue m)).format in
    let set_one : (qs : List QueueState) (u : ℕ) (k : Fmt) → P qs → P (with_format_at queue_kind m qs u k) =
    λ qs u k was.
    let p : ℕ = place_in (types_of m) u in
    sound_set n qs p (record (get_or qs p opening_queue) { format = k }) s.bound (queue_at n qs p was.0) was in
    elim (is_source m t) as (λ b. P (if b then with_source_format queue_kind m s.queues t f else with_format_at queue_kind m s.queues t f)) [
      | true ↦ set_one (with_format_at queue_kind m s.queues t f) (picture_queue m) g (set_one s.queues t f h)
      | false ↦ set_one s.queues t f h
    ]

-- a mapped buffer has a memory
mapped_made : (n : ℕ) (kind : MemoryKind) (memory : Option ℕ) → is_user_ptr kind ≡ false → Backed n kind memory → unwrap_or memory 0 < n
mapped_made n Mmap None device h = absurd h
mapped_made n Mmap (Some m) device h = h
mapped_made n UserPtr memory device h = absurd (true≢false device)

written : (s : LocalState) (memories : List (List ℕ)) → length memories ≡ length s.memories → IsSound s → IsSound (record s { memories = memories })
written s memories long h = let P : ℕ → Type 0 = λ n. Sound n s.queues s.bound in subst P (sym long) h

abbrev Passes : Row → Type 0
Passes r = first_refusal r.refusals ≡ None

sound_row : (s : LocalState) (line addr : ℕ) (call : Call) → Passes (row_of s line addr call) → IsSound s → IsSound (row_of s line addr call).next
unfolding querycap_row enumfmt_row gfmt_row tryfmt_row sfmt_row enuminput_row ginput_row sinput_row reqbufs_row querybuf_row ualloc_row qbuf_row streamon_row streamoff_row dqbuf_row mmap_row munmap_row read_row hash_row write_row fill_row subscribe_row unsubscribe_row dqevent_row with_buffers
sound_row s line addr (OpenHandle nonblock) pass h =
    (All-map (IsQueueBacked 0) (λ (t : ℕ). opening_queue) (types_of s.model) (λ k d l. bare_queue 0), All-nil _)
sound_row s line addr CloseHandle pass h = sound_map (length s.memories) stopped_queue s.queues s.bound (backed_idle (length s.memories)) h
sound_row s line addr QueryCap pass h = h
sound_row s line addr (EnumFmt t i) pass h = h
sound_row s line addr (GFmt t) pass h = h
sound_row s line addr (TryFmt t f w v) pass h = h
sound_row s line addr (SFmt t f w v) pass h = sound_format s t (adjusted_for s t f w v) h
sound_row s line addr (EnumInput i) pass h = h
sound_row s line addr GInput pass h = h
sound_row s line addr (SInput i) pass h = h
sound_row s line addr (ReqBufs t m n) pass h =
    sound_renewed (memory_kind m) (picture_size (queue_of s t).format) (granted n) (queue_of s t) s.queues (place_in (types_of s.model) t) s.bound s.memories h
sound_row s line addr (QueryBuf t i) pass h = h
sound_row s line addr (UAlloc u len off) pass h =
    let n : ℕ = length (s.memories ++ replicate len 0 ∷ []) in
    let long : n ≡ length s.memories + 1 = length-append s.memories (replicate len 0 ∷ []) in
    sound_bound n s.queues s.bound (record { name = u; memory = length s.memories; kind = User line off }) (omega (arith, long))
    (more_sound (length s.memories) n (omega (arith, long)) s.queues s.bound h)
sound_row s line addr (QBuf t i user used ts) pass h =
    let so : (k : ℕ) → (get_or (qbuf_row s t i user used ts).refusals k (false, Enomem)).0 ≡ false = passes (qbuf_row s t i user used ts).refusals pass in
    sound_queued s t i user used ts (not_not _ (so 2)) (so 6) h
sound_row s line addr (StreamOn t) pass h =
    sound_set (length s.memories) s.queues (place_in (types_of s.model) t) (started (queue_of s t)) s.bound
    (queue_at (length s.memories) s.queues (place_in (types_of s.model) t) h.0) h
sound_row s line addr (StreamOff t) pass h =
    sound_set (length s.memories) s.queues (place_in (types_of s.model) t) (stopped_queue (queue_of s t)) s.bound
    (backed_idle (length s.memories) (queue_of s t) (queue_at (length s.memories) s.queues (place_in (types_of s.model) t) h.0)) h
sound_row s line addr (DqBuf t) pass h =
    let q : QueueState = queue_of s t in
    sound_buffer (length s.memories) s.queues (place_in (types_of s.model) t) (first_done q) (made_idle (buffer_of q (first_done q))) (taken_back q) s.bound refl refl refl h
sound_row s line addr (MapCall m t i ro) pass h =
    let so : (k : ℕ) → (get_or (mmap_row s addr m t i ro).refusals k (false, Enomem)).0 ≡ false = passes (mmap_row s addr m t i ro).refusals pass in
    let n : ℕ = length s.memories in
    let q : QueueState = queue_of s t in
    let made : unwrap_or (buffer_of q i).memory 0 < n =
    mapped_made n q.memory (buffer_of q i).memory (so 3) (buffer_at n q i (queue_at n s.queues (place_in (types_of s.model) t) h.0) (ltb-true i (length q.buffers) (not_not _ (so 2)))) in
    sound_bound n s.queues s.bound (record { name = m; memory = unwrap_or (buffer_of q i).memory 0; kind = Mapping addr (buffer_of q i).length (not ro) }) made h
sound_row s line addr (Munmap m) pass h = (h.0, All-filter _ (λ (c : Bound). c.memory < length s.memories) s.bound h.1)
sound_row s line addr (Peek m off len) pass h = h
sound_row s line addr (Hash m) pass h = h
sound_row s line addr (Poke m off bytes) pass h = written s _ (length-set s.memories _ _) h
sound_row s line addr (Fill m seed) pass h = written s _ (length-set s.memories _ _) h
sound_row s line addr (Subscribe v) pass h = h
sound_row s line addr (Unsubscribe v) pass h = h
sound_row s line addr DqEvent pass h = h

-- ---- the steps of the device

sound_heads : (s : LocalState) (good : Bool) (entries : List OwedEntry) → IsSound s → IsSound (heads_taken s good entries)
sound_heads s good entries h =
    sound_map (length s.memories) (taken good (next_timestamp s)) s.queues s.bound (backed_taken (length s.memories) good (next_timestamp s)) h

sound_used : (s x : LocalState) (n : ℕ) → IsSound x → IsSound (with_target_used s n x)
sound_used s x n h =
    let q : QueueState = queue_of x (picture_queue s.model) in
    let i : ℕ = head (target s) in
    sound_buffer (length x.memories) x.queues (place_in (types_of x.model) (picture_queue s.model)) i (record (buffer_of q i) { used = n }) (with_used q i n) x.bound refl refl refl h

sound_made : (s : LocalState) → IsSound s → IsSound (frame_made s)
sound_made s h =
    let x : LocalState = with_target_used s (picture_size (target s).format) (heads_taken s true (sync_of s ++ buffers_taken s)) in
    written x _ (length-set x.memories _ _) (sound_used s (heads_taken s true (sync_of s ++ buffers_taken s)) (picture_size (target s).format) (sound_heads s true (sync_of s ++ buffers_taken s) h))

sound_failed : (s : LocalState) → IsSound s → IsSound (frame_failed s)
sound_failed s h = sound_used s (heads_taken s false (buffers_taken s)) 0 (sound_heads s false (buffers_taken s) h)

sound_given : (s : LocalState) (t : ℕ) (item : OwedItem) (rest : List OwedEntry) → IsSound s → IsSound (item_given (record s { owed = rest }) t item)
sound_given s t (OwedBuffer i) rest h =
    let q : QueueState = queue_of s t in
    sound_buffer (length s.memories) s.queues (place_in (types_of s.model) t) i (record (buffer_of q i) { state = Done }) (with_done q i) s.bound refl refl refl h
sound_given s t (Sync frame) rest h =
    elim s.subscribed as (λ b. IsSound (if b then record s {
      owed = rest;
      events = s.events ++ (record { frame = frame; number = s.next_event }) ∷ [];
      next_event = counted s.next_event;
    } else record s { owed = rest })) [
      | true ↦ h
      | false ↦ h
    ]

sound_step : (s t : LocalState) (e : Entry) → IsSound s → after s e ≡ Some t → IsSound t
unfolding called
sound_step s t (Called line call reply) h leads =
    let r : Row = row_for s line call reply in
    elim (answered_by (first_refusal r.refusals) r s reply t leads) as (λ _. IsSound t) [
      | inl same ↦ subst IsSound (sym same) h
      | inr w ↦ subst IsSound (sym w.3) (sound_row s line (address_in reply) call w.0 h)
    ]
sound_step s t Finish h leads = subst IsSound (sym (finished_by s t leads).1) (sound_made s h)
sound_step s t Bad h leads = subst IsSound (sym (failed_by s t leads).1) (sound_failed s h)
sound_step s t Give h leads =
    let w : Gave s s.owed t = given_by s t leads in
    subst IsSound (sym w.3) (sound_given s w.0.queue w.0.item w.1 h)

sound_log : (m : Model) (log : List Entry) (s : LocalState) → replay m log ≡ Some s → IsSound s
sound_log m log s leads =
    kept_by_all IsSound sound_step log (opening m) s (All-map (IsQueueBacked 0) (λ (t : ℕ). opening_queue) (types_of m) (λ k d l. bare_queue 0), All-nil _) leads

-- ---- what it tells

as_made : (s : LocalState) (kind : MemoryKind) (memory : Option ℕ) → Backed (length s.memories) kind memory → IsBacked s kind memory
as_made s Mmap None h = h
as_made s Mmap (Some m) h = h
as_made s UserPtr None h = h
as_made s UserPtr (Some m) h = h

pub backed_log : (m : Model) (log : List Entry) (s : LocalState) → replay m log ≡ Some s → AreBacked s
backed_log m log s leads =
    let h : IsSound s = sound_log m log s leads in (
      All-weaker (IsQueueBacked (length s.memories)) (λ (q : QueueState). All (λ (b : Buffer). IsBacked s q.memory b.memory) q.buffers)
          (λ q all. All-weaker (λ (b : Buffer). Backed (length s.memories) q.memory b.memory) (λ (b : Buffer). IsBacked s q.memory b.memory)
          (λ b. as_made s q.memory b.memory) q.buffers all) s.queues h.0,
      h.1,
    )

-- one element passes the test, of which all are so
one_passes : {A : Type 0} (P : A → Type 0) (R : Type 0) (test : A → Bool) → ((x : A) → P x → test x ≡ true → R) → (xs : List A) → All P xs → list_any test xs ≡ true → R
one_passes P R test tells [] all some = absurd (false≢true some)
one_passes P R test tells (x ∷ xs) all some =
    elim (test x) as (λ b. test x ≡ b → (b || list_any test xs) ≡ true → R) [
      | true ↦ λ is k. tells x (All-head P x xs all) is
      | false ↦ λ is k. one_passes P R test tells xs (All-tail P x xs all) k
    ] refl some

just_made : (n m : ℕ) (kind : MemoryKind) (memory : Option ℕ) → Backed n kind memory → is_just memory m ≡ true → m < n
just_made n m kind None h is = absurd (false≢true is)
just_made n m Mmap (Some k) h is = omega (arith, h, eqb-true k m is)
just_made n m UserPtr (Some k) h is = omega (arith, h, eqb-true k m is)

first_of_both : (a b : Bool) → (a && b) ≡ true → (a ≡ true) × (b ≡ true)
first_of_both true b h = (refl, h)
first_of_both false b h = absurd (false≢true h)

either_of : (a b : Bool) → (a || b) ≡ true → (a ≡ true) ⊎ (b ≡ true)
either_of true b h = inl refl
either_of false b h = inr h

pub live_made : (m : Model) (log : List Entry) (s : LocalState) → replay m log ≡ Some s → (k : ℕ) → is_live s k ≡ true → IsMade s k
live_made m log s leads k live =
    let h : IsSound s = sound_log m log s leads in
    let n : ℕ = length s.memories in
    let used : is_in_use s k ≡ true → k < n = λ uses.
    one_passes (IsQueueBacked n) (k < n) (λ (q : QueueState). list_any (λ (b : Buffer). is_just b.memory k && not (is_idle b.state)) q.buffers)
    (λ q all any. one_passes (λ (b : Buffer). Backed n q.memory b.memory) (k < n) (λ (b : Buffer). is_just b.memory k && not (is_idle b.state))
    (λ b one is. just_made n k q.memory b.memory one (first_of_both (is_just b.memory k) (not (is_idle b.state)) is).0) q.buffers all any) s.queues h.0 uses in
    let device : is_of_device s k ≡ true → k < n = λ owns.
    one_passes (IsQueueBacked n) (k < n) (λ (q : QueueState). not (is_user_ptr q.memory) && list_any (λ (b : Buffer). is_just b.memory k) q.buffers)
    (λ q all any. one_passes (λ (b : Buffer). Backed n q.memory b.memory) (k < n) (λ (b : Buffer). is_just b.memory k)
    (λ b one is. just_made n k q.memory b.memory one is) q.buffers all (first_of_both (not (is_user_ptr q.memory)) (list_any (λ (b : Buffer). is_just b.memory k) q.buffers) any).1) s.queues h.0 owns in
    let named : is_named s k ≡ true → k < n = λ is.
    one_passes (λ (b : Bound). b.memory < n) (k < n) (λ (b : Bound). b.memory == k) (λ b one at. omega (arith, one, eqb-true b.memory k at)) s.bound h.1 is in
    elim (either_of (is_in_use s k) (is_of_device s k || is_named s k) live) as (λ _. k < n) [
      | inl uses ↦ used uses
      | inr rest ↦ elim (either_of (is_of_device s k) (is_named s k) rest) as (λ _. k < n) [
        | inl owns ↦ device owns
        | inr is ↦ named is
      ]
    ]
