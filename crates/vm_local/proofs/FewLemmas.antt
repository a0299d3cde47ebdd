-- A queue has at most 32 buffers, and so its lists are no longer.
use Rattle.std.proofs.Common.{◌≡◌, inl, inr, ℕ, ◌≤◌, Bool, true, false, min, List, [], ◌∷◌, ◌++◌, None, length, map, set, replicate, All, Some, refl, sym, ap, subst, arith, length-set, if◌then◌else◌}
use Rattle.std.specs.Prelude.{slice_index_or}
use Rattle.std.proofs.Math.Nat.{min-le_right}
use Rattle.std.proofs.lemmas.List.{length-replicate, length-map}
use Rattle.std.proofs.lemmas.List.Elements.{All-set, All-map, All-weaker}
use Rattle.std.proofs.lemmas.List.FromFn.{length-map-range_with_len}
use Rattle.v4l_const.specs.declared.model.Model.{Model}
use Rattle.v4l_const.specs.Model.{queues as types_of, picture_queue}
use Rattle.v4l_format.specs.declared.fmt.Fmt.{Fmt}
use Rattle.v4l_format.specs.Fmt.{picture_size}
use Rattle.v4l_rules.specs.Formats.{is_source, sized_as, with_format_at, with_source_format, with_set_format_at}
use Rattle.v4l_rules.specs.Queues.{place_in}
use Rattle.v4l_rules.specs.Refusals.{first_refusal}
use Rattle.vm_local.specs.declared.bound.MemoryKind.{MemoryKind}
use Rattle.vm_local.specs.declared.bound.MemoryKind.TheVariants.{Mmap, UserPtr}
use Rattle.vm_local.specs.declared.call.Call.{Call}
use Rattle.vm_local.specs.declared.call.Call.TheVariants.{OpenHandle, CloseHandle, QueryCap, EnumFmt, GFmt, TryFmt, SFmt, EnumInput, GInput, SInput, ReqBufs, QueryBuf, UAlloc, QBuf, StreamOn, StreamOff, DqBuf, Mmap as MapCall, Munmap, Peek, Hash, Poke, Fill, Subscribe, Unsubscribe, DqEvent}
use Rattle.vm_local.specs.declared.entry.Entry.{Entry}
use Rattle.vm_local.specs.declared.entry.Entry.TheVariants.{Called, Finish, Bad, Give}
use Rattle.vm_local.specs.declared.owed.Owed.{Owed as OwedEntry}
use Rattle.vm_local.specs.declared.owed.OwedItem.{OwedItem}
use Rattle.vm_local.specs.declared.owed.OwedItem.TheVariants.{Buffer as OwedBuffer, Sync}
use Rattle.vm_local.specs.State.{QueueState, LocalState, opening, opening_queue, queue_kind, queue_of}
use Rattle.vm_local.specs.Same.{address_in}
use Rattle.vm_local.specs.Queue.{adjusted_for, with_set_format, stopped_queue, made_idle, memory_kind, fresh_buffer, fresh_buffers, granted, with_buffers}
use Rattle.vm_local.specs.Calls.{Row, row_of, querycap_row, enumfmt_row, gfmt_row, tryfmt_row, sfmt_row, enuminput_row, ginput_row, sinput_row, reqbufs_row, querybuf_row, ualloc_row, qbuf_row, streamon_row, streamoff_row, dqbuf_row, mmap_row, munmap_row, read_row, hash_row, write_row, fill_row, subscribe_row, unsubscribe_row, dqevent_row}
use Rattle.vm_local.specs.Steps.{head, target, taken, with_done, item_given, counted, next_timestamp, with_target_used, heads_taken, sync_of, buffers_taken}
use Rattle.vm_local.specs.Log.{row_for, called, after, replay}
use Rattle.vm_local.specs.Listed.{AreListed, times_owed}
use Rattle.vm_local.proofs.StepLemmas.{answered_by, finished_by, failed_by, given_by, Gave, kept_by_all}
use Rattle.vm_local.proofs.ListedLemmas.{listed_log}
use Rattle.vm_local.proofs.LiveLemmas.{all_at}
use Rattle.vm_local.proofs.ShortLemmas.{queued_short, done_short}

-- ---- queues

abbrev IsFew : QueueState → Type 0
IsFew q = length q.buffers ≤ 32

abbrev AreFew : LocalState → Type 0
AreFew s = All IsFew s.queues

few_at : (s : LocalState) (p : ℕ) → AreFew s → IsFew (slice_index_or s.queues p opening_queue)
few_at s p h = all_at IsFew s.queues p opening_queue (omega arith) h

-- one queue has as many buffers as before
few_alike : (s : LocalState) (p : ℕ) (v : QueueState) → length v.buffers ≡ length (slice_index_or s.queues p opening_queue).buffers →
    AreFew s → All IsFew (set s.queues p v)
few_alike s p v same h = All-set IsFew s.queues p v (omega (arith, same, few_at s p h)) h

few_map : (f : QueueState → QueueState) (qs : List QueueState) → ((q : QueueState) → length (f q).buffers ≡ length q.buffers) →
    All IsFew qs → All IsFew (map f qs)
few_map f qs same h = All-map IsFew f qs (All-weaker IsFew (λ q. IsFew (f q)) (λ q few. omega (arith, same q, few)) qs h)

few_fresh : (kind : MemoryKind) (size first n : ℕ) → n ≤ 32 → length (fresh_buffers kind size first n) ≤ 32
few_fresh Mmap size first n few = omega (arith, few, length-map-range_with_len (λ m. fresh_buffer size (Some m)) first n)
few_fresh UserPtr size first n few = omega (arith, few, length-replicate n (fresh_buffer size None))

few_format : (s : LocalState) (t : ℕ) (f : Fmt) → AreFew s → AreFew (with_set_format s t f)
unfolding with_set_format_at
few_format s t f h =
    let m : Model = s.model in
    let g : Fmt = sized_as f (queue_of s (picture_queue m)).format in
    let set_one : (qs : List QueueState) (u : ℕ) (k : Fmt) → All IsFew qs → All IsFew (with_format_at queue_kind m qs u k) =
    λ qs u k was. few_alike (record s { queues = qs }) (place_in (types_of m) u) _ refl was in
    elim (is_source m t) as (λ b. All IsFew (if b then with_source_format queue_kind m s.queues t f else with_format_at queue_kind m s.queues t f)) [
      | true ↦ set_one (with_format_at queue_kind m s.queues t f) (picture_queue m) g (set_one s.queues t f h)
      | false ↦ set_one s.queues t f h
    ]

-- ---- entries

few_row : (s : LocalState) (line addr : ℕ) (call : Call) → AreFew s → AreFew (row_of s line addr call).next
unfolding querycap_row enumfmt_row gfmt_row tryfmt_row sfmt_row enuminput_row ginput_row sinput_row reqbufs_row querybuf_row ualloc_row qbuf_row streamon_row streamoff_row dqbuf_row mmap_row munmap_row read_row hash_row write_row fill_row subscribe_row unsubscribe_row dqevent_row with_buffers
few_row s line addr (OpenHandle nonblock) h = All-map IsFew (λ (u : ℕ). opening_queue) (types_of s.model) (λ k d l. omega arith)
few_row s line addr CloseHandle h = few_map stopped_queue s.queues (λ q. length-map q.buffers made_idle) h
few_row s line addr QueryCap h = h
few_row s line addr (EnumFmt t i) h = h
few_row s line addr (GFmt t) h = h
few_row s line addr (TryFmt t f w v) h = h
few_row s line addr (SFmt t f w v) h = few_format s t (adjusted_for s t f w v) h
few_row s line addr (EnumInput i) h = h
few_row s line addr GInput h = h
few_row s line addr (SInput i) h = h
few_row s line addr (ReqBufs t m n) h = All-set IsFew s.queues (place_in (types_of s.model) t) _
    (few_fresh (memory_kind m) (picture_size (queue_of s t).format) (length s.memories) (granted n) (min-le_right n 32)) h
few_row s line addr (QueryBuf t i) h = h
few_row s line addr (UAlloc u len off) h = h
few_row s line addr (QBuf t i user used ts) h = few_alike s (place_in (types_of s.model) t) _ (length-set (queue_of s t).buffers i _) h
few_row s line addr (StreamOn t) h = few_alike s (place_in (types_of s.model) t) _ refl h
few_row s line addr (StreamOff t) h = few_alike s (place_in (types_of s.model) t) _ (length-map (queue_of s t).buffers made_idle) h
few_row s line addr (DqBuf t) h = few_alike s (place_in (types_of s.model) t) _ (length-set (queue_of s t).buffers _ _) h
few_row s line addr (MapCall m t i ro) h = h
few_row s line addr (Munmap m) h = h
few_row s line addr (Peek m off len) h = h
few_row s line addr (Hash m) h = h
few_row s line addr (Poke m off bytes) h = h
few_row s line addr (Fill m seed) h = h
few_row s line addr (Subscribe v) h = h
few_row s line addr (Unsubscribe v) h = h
few_row s line addr DqEvent h = h

few_taken : (s : LocalState) (good : Bool) (entries : List OwedEntry) → AreFew s → AreFew (heads_taken s good entries)
few_taken s good entries h = few_map (taken good (next_timestamp s)) s.queues (λ q. length-set q.buffers (head q) _) h

few_used : (s x : LocalState) (n : ℕ) → AreFew x → AreFew (with_target_used s n x)
few_used s x n h = few_alike x (place_in (types_of x.model) (picture_queue s.model)) _ (length-set (queue_of x (picture_queue s.model)).buffers _ _) h

few_given : (s : LocalState) (t : ℕ) (item : OwedItem) → AreFew s → AreFew (item_given s t item)
few_given s t (OwedBuffer i) h = few_alike s (place_in (types_of s.model) t) (with_done (queue_of s t) i) (length-set (queue_of s t).buffers i _) h
few_given s t (Sync frame) h =
    elim s.subscribed as (λ b. AreFew (if b then record s { events = s.events ++ (record { frame = frame; number = s.next_event }) ∷ []; next_event = counted s.next_event } else s)) [
      | true ↦ h
      | false ↦ h
    ]

few_step : (s t : LocalState) (e : Entry) → AreFew s → after s e ≡ Some t → AreFew t
unfolding called
few_step s t (Called line call reply) h leads =
    let r : Row = row_for s line call reply in
    elim (answered_by (first_refusal r.refusals) r s reply t leads) as (λ _. AreFew t) [
      | inl same ↦ subst AreFew (sym same) h
      | inr w ↦ subst AreFew (sym w.3) (few_row s line (address_in reply) call h)
    ]
few_step s t Finish h leads = subst AreFew (sym (finished_by s t leads).1) (few_used s (heads_taken s true (sync_of s ++ buffers_taken s)) (picture_size (target s).format) (few_taken s true (sync_of s ++ buffers_taken s) h))
few_step s t Bad h leads = subst AreFew (sym (failed_by s t leads).1) (few_used s (heads_taken s false (buffers_taken s)) 0 (few_taken s false (buffers_taken s) h))
few_step s t Give h leads =
    let w : Gave s s.owed t = given_by s t leads in
    subst AreFew (sym w.3) (few_given (record s { owed = w.1 }) w.0.queue w.0.item h)

-- ---- logs

pub few_buffers : (m : Model) (log : List Entry) (s : LocalState) → replay m log ≡ Some s → (t : ℕ) → length (queue_of s t).buffers ≤ 32
few_buffers m log s leads t =
    few_at s (place_in (types_of s.model) t)
    (kept_by_all AreFew few_step log (opening m) s (All-map IsFew (λ (u : ℕ). opening_queue) (types_of m) (λ k d l. omega arith)) leads)

pub few_queued : (m : Model) (log : List Entry) (s : LocalState) → replay m log ≡ Some s → (t : ℕ) → length (queue_of s t).queued ≤ 32
few_queued m log s leads t =
    omega (arith, few_buffers m log s leads t, queued_short (queue_of s t) (λ i. times_owed s.owed t i) (listed_log m log s leads t))

pub few_done : (m : Model) (log : List Entry) (s : LocalState) → replay m log ≡ Some s → (t : ℕ) → length (queue_of s t).done ≤ 32
few_done m log s leads t =
    omega (arith, few_buffers m log s leads t, done_short (queue_of s t) (λ i. times_owed s.owed t i) (listed_log m log s leads t))
