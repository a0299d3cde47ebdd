-- How many entries are to come, and how many memories are made, after an entry.
use Rattle.std.proofs.Common.{◌≡◌, inl, inr, ℕ, zero, suc, ◌+◌, ◌*◌, ◌≤◌, Bool, true, false, not, ◌&&◌, ◌==◌, List, [], ◌∷◌, ◌++◌, length, get_or, set, map, drop, replicate, Some, refl, sym, ap, subst, arith, lit≤, if◌then◌else◌, length-set, length-append}
use Rattle.std.specs.Prelude.{sum_by}
use Rattle.std.specs.List.{list_all}
use Rattle.std.proofs.lemmas.Bool.{false≢true, and_parts, not-true}
use Rattle.std.proofs.lemmas.List.{length-replicate}
use Rattle.std.proofs.lemmas.List.Sums.{sum_by-cons, length-filter, count_by-le-length}
use Rattle.v4l_const.specs.declared.model.Model.{Model}
use Rattle.v4l_const.specs.declared.model.Model.TheVariants.{Capture, Convert}
use Rattle.v4l_const.specs.Model.{queues as types_of, picture_queue, has_events}
use Rattle.v4l_format.specs.declared.fmt.Fmt.{Fmt}
use Rattle.v4l_format.specs.Fmt.{picture_size}
use Rattle.v4l_rules.specs.Formats.{is_source, sized_as, with_format_at, with_source_format, with_set_format_at}
use Rattle.v4l_rules.specs.Queues.{place_in}
use Rattle.v4l_rules.specs.Refusals.{first_refusal}
use Rattle.vm_local.specs.declared.bound.MemoryKind.{MemoryKind}
use Rattle.vm_local.specs.declared.bound.MemoryKind.TheVariants.{Mmap, UserPtr}
use Rattle.vm_local.specs.declared.call.Call.{Call}
use Rattle.vm_local.specs.declared.call.Call.TheVariants.{OpenHandle, CloseHandle, SFmt, ReqBufs, UAlloc, QBuf, StreamOn, StreamOff, DqBuf, Poke, Fill}
use Rattle.vm_local.specs.declared.entry.Entry.{Entry}
use Rattle.vm_local.specs.declared.entry.Entry.TheVariants.{Called, Finish, Bad, Give}
use Rattle.vm_local.specs.declared.owed.Owed.{Owed}
use Rattle.vm_local.specs.declared.owed.OwedItem.{OwedItem}
use Rattle.vm_local.specs.declared.owed.OwedItem.TheVariants.{Buffer as OwedBuffer, Sync}
use Rattle.vm_local.specs.declared.reply.Reply.{Reply}
use Rattle.vm_local.specs.State.{QueueState, LocalState, opening_queue, queue_kind, queue_of, with_queue}
use Rattle.vm_local.specs.Same.{address_in}
use Rattle.vm_local.specs.Queue.{is_empty, with_set_format, adjusted_for, stopped_queue, owed_by_others, memory_kind, fresh_memories, granted, with_buffers, started, taken_back, can_finish}
use Rattle.vm_local.specs.Steps.{buffer_taken, taken, with_used, head, target, heads_taken, with_target_used, sync_of, buffers_taken, next_timestamp, with_done, item_given, counted}
use Rattle.vm_local.specs.Calls.{row_of, querycap_row, enumfmt_row, gfmt_row, tryfmt_row, sfmt_row, enuminput_row, ginput_row, sinput_row, reqbufs_row, querybuf_row, ualloc_row, qbuf_row, streamon_row, streamoff_row, dqbuf_row, mmap_row, munmap_row, read_row, hash_row, write_row, fill_row, subscribe_row, unsubscribe_row, dqevent_row}
use Rattle.vm_local.specs.Log.{row_for, called, after}
use Rattle.vm_local.proofs.StepLemmas.{answered_by, frame_made, frame_failed, finished_by, failed_by, given_by, Gave}
use Rattle.vm_home.specs.ToCome.{entries_to_come, entries_added, IsStep}

-- ---- how many buffers are queued

abbrev pub queued_in : List QueueState → ℕ
queued_in qs = sum_by (λ q. length q.queued) qs

queued_cons : (q : QueueState) (qs : List QueueState) → queued_in (q ∷ qs) ≡ length q.queued + queued_in qs
queued_cons q qs = sum_by-cons (λ (x : QueueState). length x.queued) q qs

-- a queue is changed, and has at most n queued buffers more
queued_set : (n : ℕ) (qs : List QueueState) (p : ℕ) (v : QueueState) → length v.queued ≤ length (get_or qs p opening_queue).queued + n →
    queued_in (set qs p v) ≤ queued_in qs + n
queued_set n [] p v few = omega arith
queued_set n (q ∷ qs) zero v few = omega (arith, few, queued_cons q qs, queued_cons v qs)
queued_set n (q ∷ qs) (suc p) v few = omega (arith, queued_set n qs p v few, queued_cons q qs, queued_cons q (set qs p v))

-- no queue has one
none_queued : {A : Type 0} (f : A → QueueState) → ((x : A) → (f x).queued ≡ []) → (xs : List A) → queued_in (map f xs) ≡ 0
none_queued f none [] = refl
none_queued f none (x ∷ xs) = omega (arith, queued_cons (f x) (map f xs), none_queued f none xs, ap length (none x))

-- a frame takes one of each
queued_taken : (good : Bool) (ts : ℕ) (qs : List QueueState) → list_all (λ q. q.streaming && not (is_empty q.queued)) qs ≡ true →
    queued_in (map (taken good ts) qs) + length qs ≡ queued_in qs
queued_taken good ts [] ready = refl
queued_taken good ts (q ∷ qs) ready =
    let both : ((q.streaming && not (is_empty q.queued)) ≡ true) × (list_all (λ r. r.streaming && not (is_empty r.queued)) qs ≡ true) =
    and_parts (q.streaming && not (is_empty q.queued)) (list_all (λ r. r.streaming && not (is_empty r.queued)) qs) ready in
    let one : length (drop 1 q.queued) + 1 ≡ length q.queued =
    one_less q.queued (not-true (is_empty q.queued) (and_parts q.streaming (not (is_empty q.queued)) both.0).1) in
    omega (arith, queued_cons q qs, queued_cons (taken good ts q) (map (taken good ts) qs), queued_taken good ts qs both.1, one)
  where
    one_less : (xs : List ℕ) → is_empty xs ≡ false → length (drop 1 xs) + 1 ≡ length xs
    one_less [] some = absurd (false≢true (sym some))
    one_less (x ∷ xs) some = omega arith

-- ---- a call

-- at most 32 memories more, and at most so many entries to come more
abbrev pub Grows : LocalState → LocalState → ℕ → Type 0
Grows s t more = (length t.memories ≤ length s.memories + 32) × (entries_to_come t ≤ entries_to_come s + more)

grows_written : (s : LocalState) (memories : List (List ℕ)) → length memories ≡ length s.memories → Grows s (record s { memories = memories }) 0
grows_written s memories same = (omega (arith, same), omega arith)

grows_set : (s : LocalState) (more t : ℕ) (v : QueueState) → length v.queued ≤ length (queue_of s t).queued + more →
    Grows s (with_queue s t v) (3 * more)
grows_set s more t v few =
    (omega arith, omega (arith, queued_set more s.queues (place_in (types_of s.model) t) v few))

-- the queue has no queued buffer any more, and what else is owed stays
grows_stopped : (s : LocalState) (t : ℕ) (v : QueueState) (memories : List (List ℕ)) → v.queued ≡ [] → length memories ≤ length s.memories + 32 →
    Grows s (record (with_queue s t v) { owed = owed_by_others s t; memories = memories }) 0
grows_stopped s t v memories none few =
    let fewer : length v.queued ≤ length (queue_of s t).queued + 0 = omega (arith, ap length none) in
    (few, omega (arith, queued_set 0 s.queues (place_in (types_of s.model) t) v fewer, length-filter (λ (o : Owed). not (o.queue == t)) s.owed, count_by-le-length (λ (o : Owed). not (o.queue == t)) s.owed))

fresh_few : (kind : MemoryKind) (size n : ℕ) (memories : List (List ℕ)) → length (memories ++ fresh_memories kind size (granted n)) ≤ length memories + 32
fresh_few Mmap size n memories =
    let zeros : List ℕ = replicate size 0 in
    omega (arith, length-append memories (replicate (granted n) zeros), length-replicate (granted n) zeros)
fresh_few UserPtr size n memories = let none : List (List ℕ) = [] in omega (arith, length-append memories none)

grows_format : (s : LocalState) (t : ℕ) (f : Fmt) → Grows s (with_set_format s t f) 0
unfolding with_set_format_at
grows_format s t f =
    let m : Model = s.model in
    let one : (qs : List QueueState) (u : ℕ) (g : Fmt) → queued_in (with_format_at queue_kind m qs u g) ≤ queued_in qs = λ qs u g.
    omega (arith, queued_set 0 qs (place_in (types_of m) u) (record (get_or qs (place_in (types_of m) u) opening_queue) { format = g }) (omega arith)) in
    let g : Fmt = sized_as f (queue_of s (picture_queue m)).format in
    elim (is_source m t) as (λ b. Grows s (record s { queues = if b then with_source_format queue_kind m s.queues t f else with_format_at queue_kind m s.queues t f }) 0) [
      | true ↦ (omega arith, omega (arith, one s.queues t f, one (with_format_at queue_kind m s.queues t f) (picture_queue m) g))
      | false ↦ (omega arith, omega (arith, one s.queues t f))
    ]

grows_row : (s : LocalState) (line addr : ℕ) (call : Call) → Grows s (row_of s line addr call).next (entries_added call)
unfolding querycap_row enumfmt_row gfmt_row tryfmt_row sfmt_row enuminput_row ginput_row sinput_row reqbufs_row querybuf_row ualloc_row qbuf_row streamon_row streamoff_row dqbuf_row mmap_row munmap_row read_row hash_row write_row fill_row subscribe_row unsubscribe_row dqevent_row with_buffers
grows_row s line addr (OpenHandle nonblock) =
    (omega arith, omega (arith, none_queued (λ (t : ℕ). opening_queue) (λ t. refl) (types_of s.model)))
grows_row s line addr CloseHandle = (omega arith, omega (arith, none_queued stopped_queue (λ q. refl) s.queues))
grows_row s line addr (SFmt t f w h) = grows_format s t (adjusted_for s t f w h)
grows_row s line addr (ReqBufs t m n) =
    grows_stopped s t _ _ refl (fresh_few (memory_kind m) (picture_size (queue_of s t).format) n s.memories)
grows_row s line addr (UAlloc u len off) = (omega (arith, length-append s.memories (replicate len 0 ∷ [])), omega arith)
grows_row s line addr (QBuf t i user used ts) = grows_set s 1 t _ (omega (arith, length-append (queue_of s t).queued (i ∷ [])))
grows_row s line addr (StreamOn t) = grows_set s 0 t (started (queue_of s t)) (omega arith)
grows_row s line addr (StreamOff t) = grows_stopped s t (stopped_queue (queue_of s t)) s.memories refl (omega arith)
grows_row s line addr (DqBuf t) = grows_set s 0 t (taken_back (queue_of s t)) (omega arith)
grows_row s line addr (Poke m off bytes) = grows_written s _ (length-set s.memories _ _)
grows_row s line addr (Fill m seed) = grows_written s _ (length-set s.memories _ _)
grows_row s line addr call = (omega arith, omega arith)

-- only a call that queues a buffer adds entries to come, and those are three at most
pub call_grows : (s t : LocalState) (line : ℕ) (call : Call) (reply : Reply) → called s line call reply ≡ Some t → Grows s t (entries_added call)
unfolding called
call_grows s t line call reply leads =
    elim (answered_by (first_refusal (row_for s line call reply).refusals) (row_for s line call reply) s reply t leads) as (λ _. Grows s t (entries_added call)) [
      | inl same ↦ subst (λ (x : LocalState). Grows s x (entries_added call)) (sym same) (omega arith, omega arith)
      | inr w ↦ subst (λ (x : LocalState). Grows s x (entries_added call)) (sym w.3) (grows_row s line (address_in reply) call)
    ]

-- ---- the steps of the device

-- no memory is made, and there is at least one entry fewer to come
abbrev pub Shrinks : LocalState → LocalState → Type 0
Shrinks s t = (length t.memories ≡ length s.memories) × (entries_to_come t + 1 ≤ entries_to_come s)

abbrev pub HasQueues : LocalState → Type 0
HasQueues s = length s.queues ≡ length (types_of s.model)

-- a frame leaves fewer entries than three for each queue
few_left : (s : LocalState) → length (sync_of s ++ buffers_taken s) + 1 ≤ 3 * length (types_of s.model)
few_left s =
    elim s.model as (λ m. length ((if has_events m then (record { queue = picture_queue m; item = Sync (target s).next_sequence }) ∷ [] else []) ++ map (buffer_taken s) (types_of m)) + 1 ≤ 3 * length (types_of m)) [
      | Capture ↦ lit≤ tt
      | Convert ↦ lit≤ tt
    ]

-- a frame was taken from each queue, and what it leaves is owed
shrinks_heads : (s x : LocalState) (good : Bool) (entries : List Owed) (n : ℕ) → HasQueues s → can_finish s ≡ true →
    length entries + 1 ≤ 3 * length (types_of s.model) → x ≡ heads_taken s good entries →
    (length (with_target_used s n x).memories ≡ length s.memories) × (entries_to_come (with_target_used s n x) + 1 ≤ entries_to_come s)
shrinks_heads s x good entries n long ready few is =
    let P : LocalState → Type 0 = λ y. (length (with_target_used s n y).memories ≡ length s.memories) × (entries_to_come (with_target_used s n y) + 1 ≤ entries_to_come s) in
    let y : LocalState = heads_taken s good entries in
    let u : ℕ = picture_queue s.model in
    subst P (sym is) (
      refl,
      omega (
        arith,
        queued_taken good (next_timestamp s) s.queues ready,
        few,
        long,
        length-append s.owed entries,
        queued_set 0 y.queues (place_in (types_of s.model) u) (with_used (queue_of y u) (head (target s)) n) (omega arith),
      ),
    )

pub step_shrinks : (s t : LocalState) (e : Entry) → HasQueues s → IsStep e → after s e ≡ Some t → Shrinks s t
step_shrinks s t Finish long step leads =
    let w : (can_finish s ≡ true) × (t ≡ frame_made s) = finished_by s t leads in
    let x : LocalState = heads_taken s true (sync_of s ++ buffers_taken s) in
    let few : Shrinks s (with_target_used s (picture_size (target s).format) x) =
    shrinks_heads s x true (sync_of s ++ buffers_taken s) (picture_size (target s).format) long w.0 (few_left s) refl in
    subst (Shrinks s) (sym w.1) (length-set s.memories _ _, few.1)
step_shrinks s t Bad long step leads =
    let w : (can_finish s ≡ true) × (t ≡ frame_failed s) = failed_by s t leads in
    let few : length (buffers_taken s) + 1 ≤ 3 * length (types_of s.model) = omega (arith, few_left s, length-append (sync_of s) (buffers_taken s)) in
    subst (Shrinks s) (sym w.1) (shrinks_heads s (heads_taken s false (buffers_taken s)) false (buffers_taken s) 0 long w.0 few refl)
step_shrinks s t Give long step leads =
    let w : Gave s s.owed t = given_by s t leads in
    subst (Shrinks s) (sym w.3) (shrinks_item s w.1 w.0.queue w.0.item (ap length w.2))
  where
    shrinks_item : (s : LocalState) (rest : List Owed) (t : ℕ) (item : OwedItem) → length s.owed ≡ suc (length rest) →
        Shrinks s (item_given (record s { owed = rest }) t item)
    shrinks_item s rest t (OwedBuffer i) less =
        (refl, omega (arith, less, queued_set 0 s.queues (place_in (types_of s.model) t) (with_done (queue_of s t) i) (omega arith)))
    shrinks_item s rest t (Sync frame) less =
        let x : LocalState = record s { owed = rest } in
        elim s.subscribed as (λ b. Shrinks s (if b then record x {
          events = s.events ++ (record { frame = frame; number = s.next_event }) ∷ [];
          next_event = counted s.next_event;
        } else x)) [
          | true ↦ (refl, omega (arith, less))
          | false ↦ (refl, omega (arith, less))
        ]
step_shrinks s t (Called line call reply) long step leads = absurd step
