-- After a legal log each buffer that isn't Idle has a memory.
use Rattle.std.proofs.Common.{◌≡◌, inl, inr, ℕ, zero, suc, ◌<◌, Bool, true, false, not, ◌&&◌, ◌||◌, List, [], ◌∷◌, ◌++◌, length, get_or, set, All, Option, Some, None, refl, sym, ap, ◌∙◌, subst, if◌then◌else◌}
use Rattle.std.specs.Prelude.{is_some}
use Rattle.std.specs.List.{range_with_len}
use Rattle.std.proofs.lemmas.Bool.{false≢true, ltb-true}
use Rattle.std.proofs.lemmas.List.Elements.{All-nil, All-cons, All-head, All-tail, All-set, All-map, All-weaker, All-replicate}
use Rattle.v4l_const.specs.declared.errno.Errno.TheVariants.{Enomem}
use Rattle.v4l_const.specs.declared.model.Model.{Model}
use Rattle.v4l_const.specs.Model.{queues as types_of, picture_queue}
use Rattle.v4l_format.specs.declared.fmt.Fmt.{Fmt}
use Rattle.v4l_format.specs.Fmt.{picture_size}
use Rattle.v4l_rules.specs.Formats.{is_source, sized_as, with_format_at, with_source_format, with_set_format_at}
use Rattle.v4l_rules.specs.Queues.{place_in}
use Rattle.v4l_rules.specs.Refusals.{first_refusal}
use Rattle.vm_local.specs.declared.bound.MemoryKind.{MemoryKind}
use Rattle.vm_local.specs.declared.bound.MemoryKind.TheVariants.{Mmap, UserPtr}
use Rattle.vm_local.specs.declared.buffer.Buffer.{Buffer}
use Rattle.vm_local.specs.declared.buffer.BufferState.TheVariants.{Queued, Done}
use Rattle.vm_local.specs.declared.call.Call.{Call}
use Rattle.vm_local.specs.declared.call.Call.TheVariants.{OpenHandle, CloseHandle, QueryCap, EnumFmt, GFmt, TryFmt, SFmt, EnumInput, GInput, SInput, ReqBufs, QueryBuf, UAlloc, QBuf, StreamOn, StreamOff, DqBuf, Mmap as MapCall, Munmap, Peek, Hash, Poke, Fill, Subscribe, Unsubscribe, DqEvent}
use Rattle.vm_local.specs.declared.entry.Entry.{Entry}
use Rattle.vm_local.specs.declared.entry.Entry.TheVariants.{Called, Finish, Bad, Give}
use Rattle.vm_local.specs.declared.owed.Owed.{Owed as OwedEntry}
use Rattle.vm_local.specs.declared.owed.OwedItem.{OwedItem}
use Rattle.vm_local.specs.declared.owed.OwedItem.TheVariants.{Buffer as OwedBuffer, Sync}
use Rattle.vm_local.specs.State.{QueueState, LocalState, opening, opening_queue, queue_kind, queue_of, no_buffer, buffer_of}
use Rattle.vm_local.specs.Same.{address_in}
use Rattle.vm_local.specs.Kinds.{is_idle}
use Rattle.vm_local.specs.Queue.{is_user_ptr, with_set_format, adjusted_for, stopped_queue, made_idle, memory_kind, fresh_buffer, fresh_buffers, granted, with_buffers, brought, queued_buffer, with_queued, started, taken_back, first_done, can_finish}
use Rattle.vm_local.specs.Calls.{Row, row_of, querycap_row, enumfmt_row, gfmt_row, tryfmt_row, sfmt_row, enuminput_row, ginput_row, sinput_row, reqbufs_row, querybuf_row, ualloc_row, qbuf_row, streamon_row, streamoff_row, dqbuf_row, mmap_row, munmap_row, read_row, hash_row, write_row, fill_row, subscribe_row, unsubscribe_row, dqevent_row}
use Rattle.vm_local.specs.Steps.{head, target, taken, taken_buffer, head_buffer, with_used, with_target_used, heads_taken, sync_of, buffers_taken, next_timestamp, with_done, item_given, counted}
use Rattle.vm_local.specs.Log.{row_for, called, after}
use Rattle.vm_local.specs.Listed.{IsThere, IsOwedThere}
use Rattle.vm_local.proofs.CountLemmas.{within_of}
use Rattle.vm_local.proofs.LiveLemmas.{all_at}
use Rattle.vm_local.proofs.StepLemmas.{passes, answered_by, finished_by, failed_by, given_by, Gave, kept_by_all}
use Rattle.vm_commute.proofs.ReachedLemmas.{Reached, reached_after, front_there, owed_there}

-- the buffer has a memory; or it is Idle, and for user memory
abbrev is_loaded : MemoryKind → Buffer → Bool
is_loaded kind b = is_some b.memory || (is_user_ptr kind && is_idle b.state)

abbrev IsLoaded : QueueState → Type 0
IsLoaded q = All (λ b. is_loaded q.memory b ≡ true) q.buffers

abbrev AreLoaded : LocalState → Type 0
AreLoaded s = All IsLoaded s.queues

-- ---- one buffer

has_loaded : (kind : MemoryKind) (b : Buffer) → is_some b.memory ≡ true → is_loaded kind b ≡ true
has_loaded kind b has = rw has refl

busy_has : (kind : MemoryKind) (b : Buffer) → is_idle b.state ≡ false → is_loaded kind b ≡ true → is_some b.memory ≡ true
busy_has kind b busy loaded = without (is_some b.memory) (is_user_ptr kind) (rw busy at loaded)
  where
    without : (a c : Bool) → (a || (c && false)) ≡ true → a ≡ true
    without true c h = refl
    without false true h = h
    without false false h = h

own_has : (kind : MemoryKind) (b : Buffer) → is_user_ptr kind ≡ false → is_loaded kind b ≡ true → is_some b.memory ≡ true
own_has kind b own loaded = without (is_some b.memory) (rw own at loaded)
  where
    without : (a : Bool) → (a || false) ≡ true → a ≡ true
    without true h = refl
    without false h = h

idle_loaded : (kind : MemoryKind) (b : Buffer) → is_loaded kind b ≡ true → is_loaded kind (made_idle b) ≡ true
idle_loaded kind b loaded = either (is_some b.memory) (is_user_ptr kind) (is_idle b.state) loaded
  where
    either : (a c d : Bool) → (a || (c && d)) ≡ true → (a || (c && true)) ≡ true
    either true c d h = refl
    either false true d h = refl
    either false false d h = h

fresh_loaded : (kind : MemoryKind) (size first n : ℕ) → All (λ b. is_loaded kind b ≡ true) (fresh_buffers kind size first n)
fresh_loaded Mmap size first n =
    All-map (λ (b : Buffer). is_loaded Mmap b ≡ true) (λ m. fresh_buffer size (Some m)) (range_with_len first n) (λ k d l. refl)
fresh_loaded UserPtr size first n = All-replicate (λ (b : Buffer). is_loaded UserPtr b ≡ true) n (fresh_buffer size None) refl

-- ---- queues

loaded_at : (qs : List QueueState) (p : ℕ) → All IsLoaded qs → IsLoaded (get_or qs p opening_queue)
loaded_at qs p h = all_at IsLoaded qs p opening_queue (All-nil _) h

has_memory : (q : QueueState) (i : ℕ) → IsLoaded q → is_idle (buffer_of q i).state ≡ false → is_some (buffer_of q i).memory ≡ true
has_memory q i h busy = busy_has q.memory (buffer_of q i) busy (h i no_buffer (within_of q.buffers i busy))

idle_queue : (q : QueueState) → IsLoaded q → IsLoaded (stopped_queue q)
idle_queue q h =
    let P : Buffer → Type 0 = λ b. is_loaded q.memory b ≡ true in
    All-map P made_idle q.buffers (All-weaker P (λ b. P (made_idle b)) (idle_loaded q.memory) q.buffers h)

-- a queue that is changed in one buffer
loaded_set : (q : QueueState) (i : ℕ) (b : Buffer) → is_loaded q.memory b ≡ true → IsLoaded q → All (λ c. is_loaded q.memory c ≡ true) (set q.buffers i b)
loaded_set q i b one h = All-set (λ (c : Buffer). is_loaded q.memory c ≡ true) q.buffers i b one h

loaded_format : (s : LocalState) (t : ℕ) (f : Fmt) → AreLoaded s → AreLoaded (with_set_format s t f)
unfolding with_set_format_at
loaded_format s t f h =
    let m : Model = s.model in
    let g : Fmt = sized_as f (queue_of s (picture_queue m)).format in
    let set_one : (qs : List QueueState) (u : ℕ) (k : Fmt) → All IsLoaded qs → All IsLoaded (with_format_at queue_kind m qs u k) =
    λ qs u k was. All-set IsLoaded qs (place_in (types_of m) u) (record (get_or qs (place_in (types_of m) u) opening_queue) { format = k })
    (loaded_at qs (place_in (types_of m) u) was) was in
    elim (is_source m t) as (λ b. All IsLoaded (if b then with_source_format queue_kind m s.queues t f else with_format_at queue_kind m s.queues t f)) [
      | true ↦ set_one (with_format_at queue_kind m s.queues t f) (picture_queue m) g (set_one s.queues t f h)
      | false ↦ set_one s.queues t f h
    ]

-- ---- the calls

not_not : (b : Bool) → not b ≡ false → b ≡ true
not_not true h = refl
not_not false h = absurd (false≢true (sym h))

queued_loaded : (s : LocalState) (t : ℕ) (user : Option (List ℕ)) (used ts : ℕ) (kind : MemoryKind) (b : Buffer) →
    (not (is_some user) && is_user_ptr kind) ≡ false → is_loaded kind b ≡ true →
    is_loaded kind (queued_buffer s t (brought s user) used ts b) ≡ true
unfolding queued_buffer
queued_loaded s t None used ts kind b own loaded = has_loaded kind (queued_buffer s t None used ts b) (own_has kind b own loaded)
queued_loaded s t (Some u) used ts kind b own loaded = refl

loaded_queued : (s : LocalState) (t i : ℕ) (user : Option (List ℕ)) (used ts : ℕ) → i < length (queue_of s t).buffers →
    (not (is_some user) && is_user_ptr (queue_of s t).memory) ≡ false → AreLoaded s → AreLoaded (with_queued s t i (brought s user) used ts)
loaded_queued s t i user used ts within own h =
    let p : ℕ = place_in (types_of s.model) t in
    let q : QueueState = queue_of s t in
    let b : Buffer = queued_buffer s t (brought s user) used ts (buffer_of q i) in
    let all : IsLoaded q = loaded_at s.queues p h in
    let one : is_loaded q.memory b ≡ true = queued_loaded s t user used ts q.memory (buffer_of q i) own (all i no_buffer within) in
    All-set IsLoaded s.queues p (record q { buffers = set q.buffers i b; queued = q.queued ++ i ∷ [] }) (loaded_set q i b one all) h

-- dqbuf makes a buffer Idle: one behind the last isn't there
loaded_back : (q : QueueState) → IsLoaded q → IsLoaded (taken_back q)
loaded_back q h = loaded_idle q.memory q.buffers (first_done q) h
  where
    loaded_idle : (kind : MemoryKind) (bs : List Buffer) (i : ℕ) → All (λ b. is_loaded kind b ≡ true) bs →
        All (λ b. is_loaded kind b ≡ true) (set bs i (made_idle (get_or bs i no_buffer)))
    loaded_idle kind [] i h = h
    loaded_idle kind (b ∷ bs) zero h =
        let P : Buffer → Type 0 = λ x. is_loaded kind x ≡ true in
        All-cons P (made_idle b) bs (idle_loaded kind b (All-head P b bs h)) (All-tail P b bs h)
    loaded_idle kind (b ∷ bs) (suc i) h =
        let P : Buffer → Type 0 = λ x. is_loaded kind x ≡ true in
        All-cons P b (set bs i (made_idle (get_or bs i no_buffer))) (All-head P b bs h) (loaded_idle kind bs i (All-tail P b bs h))

loaded_row : (s : LocalState) (line addr : ℕ) (call : Call) → first_refusal (row_of s line addr call).refusals ≡ None → AreLoaded s →
    AreLoaded (row_of s line addr call).next
unfolding querycap_row enumfmt_row gfmt_row tryfmt_row sfmt_row enuminput_row ginput_row sinput_row reqbufs_row querybuf_row ualloc_row qbuf_row streamon_row streamoff_row dqbuf_row mmap_row munmap_row read_row hash_row write_row fill_row subscribe_row unsubscribe_row dqevent_row with_buffers
loaded_row s line addr (OpenHandle nonblock) pass h = All-map IsLoaded (λ (t : ℕ). opening_queue) (types_of s.model) (λ k d l. All-nil _)
loaded_row s line addr CloseHandle pass h =
    All-map IsLoaded stopped_queue s.queues (All-weaker IsLoaded (λ q. IsLoaded (stopped_queue q)) idle_queue s.queues h)
loaded_row s line addr QueryCap pass h = h
loaded_row s line addr (EnumFmt t i) pass h = h
loaded_row s line addr (GFmt t) pass h = h
loaded_row s line addr (TryFmt t f w v) pass h = h
loaded_row s line addr (SFmt t f w v) pass h = loaded_format s t (adjusted_for s t f w v) h
loaded_row s line addr (EnumInput i) pass h = h
loaded_row s line addr GInput pass h = h
loaded_row s line addr (SInput i) pass h = h
loaded_row s line addr (ReqBufs t m n) pass h =
    let kind : MemoryKind = memory_kind m in
    let size : ℕ = picture_size (queue_of s t).format in
    All-set IsLoaded s.queues (place_in (types_of s.model) t)
    (record (stopped_queue (queue_of s t)) { memory = kind; buffers = fresh_buffers kind size (length s.memories) (granted n) })
    (fresh_loaded kind size (length s.memories) (granted n)) h
loaded_row s line addr (QueryBuf t i) pass h = h
loaded_row s line addr (UAlloc u len off) pass h = h
loaded_row s line addr (QBuf t i user used ts) pass h =
    let so : (k : ℕ) → (get_or (qbuf_row s t i user used ts).refusals k (false, Enomem)).0 ≡ false = passes (qbuf_row s t i user used ts).refusals pass in
    loaded_queued s t i user used ts (ltb-true i (length (queue_of s t).buffers) (not_not _ (so 2))) (so 5) h
loaded_row s line addr (StreamOn t) pass h =
    let p : ℕ = place_in (types_of s.model) t in
    All-set IsLoaded s.queues p (started (queue_of s t)) (loaded_at s.queues p h) h
loaded_row s line addr (StreamOff t) pass h =
    let p : ℕ = place_in (types_of s.model) t in
    All-set IsLoaded s.queues p (stopped_queue (queue_of s t)) (idle_queue (queue_of s t) (loaded_at s.queues p h)) h
loaded_row s line addr (DqBuf t) pass h =
    let p : ℕ = place_in (types_of s.model) t in
    All-set IsLoaded s.queues p (taken_back (queue_of s t)) (loaded_back (queue_of s t) (loaded_at s.queues p h)) h
loaded_row s line addr (MapCall m t i ro) pass h = h
loaded_row s line addr (Munmap m) pass h = h
loaded_row s line addr (Peek m off len) pass h = h
loaded_row s line addr (Hash m) pass h = h
loaded_row s line addr (Poke m off bytes) pass h = h
loaded_row s line addr (Fill m seed) pass h = h
loaded_row s line addr (Subscribe v) pass h = h
loaded_row s line addr (Unsubscribe v) pass h = h
loaded_row s line addr DqEvent pass h = h

-- ---- the steps of the device

-- a buffer of a queue that isn't Idle, in another state
loaded_moved : (q : QueueState) (i : ℕ) (b : Buffer) → is_idle (buffer_of q i).state ≡ false → b.memory ≡ (buffer_of q i).memory → IsLoaded q →
    All (λ c. is_loaded q.memory c ≡ true) (set q.buffers i b)
loaded_moved q i b busy same h = loaded_set q i b (has_loaded q.memory b (ap is_some same ∙ has_memory q i h busy)) h

loaded_heads : (s : LocalState) (good : Bool) (entries : List OwedEntry) → Reached s → can_finish s ≡ true → AreLoaded s → AreLoaded (heads_taken s good entries)
loaded_heads s good entries reached ready h =
    let f : QueueState → QueueState = taken good (next_timestamp s) in
    All-map IsLoaded f s.queues (λ k d l.
    let q : QueueState = get_or s.queues k d in
    let there : IsThere Queued q (head q) = front_there s reached ready k d l in
    loaded_moved q (head q) (taken_buffer good q.next_sequence (next_timestamp s) (head_buffer q)) (ap is_idle there.1) refl (h k d l))

loaded_used : (s x : LocalState) (n : ℕ) → AreLoaded x → AreLoaded (with_target_used s n x)
loaded_used s x n h =
    let p : ℕ = place_in (types_of x.model) (picture_queue s.model) in
    let q : QueueState = get_or x.queues p opening_queue in
    All-set IsLoaded x.queues p (with_used q (head (target s)) n) (same_one q.memory q.buffers (head (target s)) (loaded_at x.queues p h)) h
  where
    same_one : (kind : MemoryKind) (bs : List Buffer) (i : ℕ) → All (λ b. is_loaded kind b ≡ true) bs →
        All (λ b. is_loaded kind b ≡ true) (set bs i (record (get_or bs i no_buffer) { used = n }))
    same_one kind [] i h = h
    same_one kind (b ∷ bs) zero h =
        let P : Buffer → Type 0 = λ x. is_loaded kind x ≡ true in
        All-cons P (record b { used = n }) bs (All-head P b bs h) (All-tail P b bs h)
    same_one kind (b ∷ bs) (suc i) h =
        let P : Buffer → Type 0 = λ x. is_loaded kind x ≡ true in
        All-cons P b (set bs i (record (get_or bs i no_buffer) { used = n })) (All-head P b bs h) (same_one kind bs i (All-tail P b bs h))

loaded_given : (s : LocalState) (t : ℕ) (item : OwedItem) (rest : List OwedEntry) → IsOwedThere s t item → AreLoaded s →
    AreLoaded (item_given (record s { owed = rest }) t item)
loaded_given s t (OwedBuffer i) rest there h =
    let p : ℕ = place_in (types_of s.model) t in
    let q : QueueState = queue_of s t in
    All-set IsLoaded s.queues p (with_done q i)
    (loaded_moved q i (record (buffer_of q i) { state = Done }) (ap is_idle there.1) refl (loaded_at s.queues p h)) h
loaded_given s t (Sync frame) rest there h =
    elim s.subscribed as (λ b. AreLoaded (if b then record s {
      owed = rest;
      events = s.events ++ (record { frame = frame; number = s.next_event }) ∷ [];
      next_event = counted s.next_event;
    } else record s { owed = rest })) [
      | true ↦ h
      | false ↦ h
    ]

loaded_step : (s t : LocalState) (e : Entry) → Reached s → AreLoaded s → after s e ≡ Some t → AreLoaded t
unfolding called
loaded_step s t (Called line call reply) reached h leads =
    let r : Row = row_for s line call reply in
    elim (answered_by (first_refusal r.refusals) r s reply t leads) as (λ _. AreLoaded t) [
      | inl same ↦ subst AreLoaded (sym same) h
      | inr w ↦ subst AreLoaded (sym w.3) (loaded_row s line (address_in reply) call w.0 h)
    ]
loaded_step s t Finish reached h leads =
    let w : _ = finished_by s t leads in
    let entries : List OwedEntry = sync_of s ++ buffers_taken s in
    subst AreLoaded (sym w.1) (loaded_used s (heads_taken s true entries) (picture_size (target s).format) (loaded_heads s true entries reached w.0 h))
loaded_step s t Bad reached h leads =
    let w : _ = failed_by s t leads in
    subst AreLoaded (sym w.1) (loaded_used s (heads_taken s false (buffers_taken s)) 0 (loaded_heads s false (buffers_taken s) reached w.0 h))
loaded_step s t Give reached h leads =
    let w : Gave s s.owed t = given_by s t leads in
    subst AreLoaded (sym w.3) (loaded_given s w.0.queue w.0.item w.1 (owed_there s w.0 w.1 reached w.2) h)

are_loaded : (s : LocalState) → Reached s → AreLoaded s
are_loaded s (m, log, leads) =
    (kept_by_all (λ x. Reached x × AreLoaded x)
    (λ x y e both one. (reached_after x y e both.0 one, loaded_step x y e both.0 both.1 one))
    log (opening m) s ((m, [], refl), All-map IsLoaded (λ (t : ℕ). opening_queue) (types_of m) (λ k d l. All-nil _)) leads).1

-- after a legal log a buffer that isn't Idle has a memory
pub has_number : (s : LocalState) → Reached s → (t i : ℕ) → is_idle (buffer_of (queue_of s t) i).state ≡ false →
    is_some (buffer_of (queue_of s t) i).memory ≡ true
has_number s reached t i busy = has_memory (queue_of s t) i (loaded_at s.queues (place_in (types_of s.model) t) (are_loaded s reached)) busy
