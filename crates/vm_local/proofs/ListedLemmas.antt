-- The lists of a handle have its buffers where their states say.
use Rattle.std.proofs.Common.{◌≡◌, ◌≢◌, inl, inr, ℕ, zero, suc, ◌+◌, ◌<◌, ◌≤◌, Bool, true, false, not, ◌&&◌, ◌==◌, nat_lt, if◌then◌else◌, List, [], ◌∷◌, ◌++◌, length, get_or, set, map, replicate, Option, Some, None, refl, sym, ap, ◌∙◌, subst, arith, eq-eqb, ne_eqb, lit≤, get_or-set_same, get_or-set_other, length-set}
use Rattle.std.specs.Prelude.{⊤}
use Rattle.std.specs.List.{list_all, range_with_len}
use Rattle.std.proofs.lemmas.Bool.{false≢true, ltb-true}
use Rattle.std.proofs.lemmas.Bool.Decides.{eqb_tells, leb_tells}
use Rattle.std.proofs.lemmas.List.{length-map, get_or-map, get_or_past}
use Rattle.std.proofs.lemmas.List.Sums.{AllPass-from_list_all}
use Rattle.v4l_const.specs.declared.errno.Errno.TheVariants.{Enomem}
use Rattle.v4l_const.specs.declared.model.Model.{Model}
use Rattle.v4l_const.specs.declared.model.Model.TheVariants.{Capture, Convert}
use Rattle.v4l_const.specs.Model.{queues as types_of, picture_queue, has_events}
use Rattle.v4l_format.specs.declared.fmt.Fmt.{Fmt}
use Rattle.v4l_format.specs.Fmt.{picture_size}
use Rattle.vm_local.specs.declared.bound.MemoryKind.{MemoryKind}
use Rattle.vm_local.specs.declared.bound.MemoryKind.TheVariants.{Mmap, UserPtr}
use Rattle.vm_local.specs.declared.buffer.Buffer.{Buffer}
use Rattle.vm_local.specs.declared.buffer.BufferState.TheVariants.{Idle, Owed}
use Rattle.vm_local.specs.declared.call.Call.{Call}
use Rattle.vm_local.specs.declared.call.Call.TheVariants.{OpenHandle, CloseHandle, QueryCap, EnumFmt, GFmt, TryFmt, SFmt, EnumInput, GInput, SInput, ReqBufs, QueryBuf, UAlloc, QBuf, StreamOn, StreamOff, DqBuf, Mmap as MapCall, Munmap, Peek, Hash, Poke, Fill, Subscribe, Unsubscribe, DqEvent}
use Rattle.vm_local.specs.declared.entry.Entry.{Entry}
use Rattle.vm_local.specs.declared.entry.Entry.TheVariants.{Called, Finish, Bad, Give}
use Rattle.vm_local.specs.declared.owed.Owed.{Owed as OwedEntry}
use Rattle.vm_local.specs.declared.owed.OwedItem.{OwedItem}
use Rattle.vm_local.specs.declared.owed.OwedItem.TheVariants.{Buffer as OwedBuffer, Sync}
use Rattle.vm_local.specs.State.{QueueState, LocalState, opening, opening_queue, queue_kind, queue_of, with_queue, no_buffer, buffer_of, with_buffer}
use Rattle.vm_local.specs.Same.{address_in}
use Rattle.vm_local.specs.Kinds.{is_idle}
use Rattle.vm_local.specs.Queue.{is_empty, with_set_format, adjusted_for, made_idle, stopped_queue, memory_kind, fresh_buffer, fresh_buffers, granted, with_buffers, owed_by_others, brought, queued_buffer, with_queued, started, taken_back, can_finish}
use Rattle.vm_local.specs.Steps.{head, target, taken, with_used, sync_of, buffers_taken, heads_taken, with_target_used, next_timestamp, with_done, item_given, counted}
use Rattle.vm_local.specs.Calls.{Row, row_of, querycap_row, enumfmt_row, gfmt_row, tryfmt_row, sfmt_row, enuminput_row, ginput_row, sinput_row, reqbufs_row, querybuf_row, ualloc_row, qbuf_row, streamon_row, streamoff_row, dqbuf_row, mmap_row, munmap_row, read_row, hash_row, write_row, fill_row, subscribe_row, unsubscribe_row, dqevent_row}
use Rattle.v4l_rules.specs.Queues.{place_in, has_type}
use Rattle.v4l_rules.specs.Formats.{is_source, sized_as, with_format_at, with_source_format, with_set_format_at}
use Rattle.v4l_rules.specs.Refusals.{first_refusal}
use Rattle.vm_local.specs.Log.{row_for, called, after, replay}
use Rattle.vm_local.specs.Listed.{times_owed, once, IsInPlace, AreListed}
use Rattle.vm_local.proofs.CountLemmas.{owed_cons, owed_append, never_at, none_of_queue, same_of_others, owed_once, idle_is, place_queued, place_taken_back, place_taken, place_given}
use Rattle.vm_local.proofs.StepLemmas.{passes, answered_by, frame_made, frame_failed, finished_by, failed_by, given_by, Gave, kept_by_all}

-- ---- queues in whose lists nothing changes, and queues with nothing in them

abbrev SameStates : List Buffer → List Buffer → Type 0
SameStates bs cs = (i : ℕ) → (get_or cs i no_buffer).state ≡ (get_or bs i no_buffer).state

abbrev IsAlike : QueueState → QueueState → Type 0
IsAlike q v = (v.queued ≡ q.queued) × (v.done ≡ q.done) × SameStates q.buffers v.buffers

place_alike : (q v : QueueState) (n i : ℕ) → IsAlike q v → IsInPlace q n i → IsInPlace v n i
place_alike q v n i a h = rw (a.0, a.1, a.2 i) h

states_set : (bs : List Buffer) (p : ℕ) (b : Buffer) → b.state ≡ (get_or bs p no_buffer).state → SameStates bs (set bs p b)
states_set [] p b h i = refl
states_set (c ∷ cs) zero b h zero = h
states_set (c ∷ cs) zero b h (suc i) = refl
states_set (c ∷ cs) (suc p) b h zero = refl
states_set (c ∷ cs) (suc p) b h (suc i) = states_set cs p b h i

abbrev pub AreIdle : List Buffer → Type 0
AreIdle bs = (i : ℕ) → (get_or bs i no_buffer).state ≡ Idle

abbrev pub IsBare : QueueState → Type 0
IsBare v = (v.queued ≡ []) × (v.done ≡ []) × AreIdle v.buffers

place_bare : (v : QueueState) (n i : ℕ) → IsBare v → n ≡ 0 → IsInPlace v n i
place_bare v n i b none = rw (b.0, b.1, b.2 i, none) (refl, refl, refl)

idle_map : {A : Type 0} (f : A → Buffer) → ((x : A) → (f x).state ≡ Idle) → (xs : List A) → AreIdle (map f xs)
idle_map f h [] i = refl
idle_map f h (x ∷ xs) zero = h x
idle_map f h (x ∷ xs) (suc i) = idle_map f h xs i

idle_replicate : (b : Buffer) → b.state ≡ Idle → (n : ℕ) → AreIdle (replicate n b)
idle_replicate b h zero i = refl
idle_replicate b h (suc n) zero = h
idle_replicate b h (suc n) (suc i) = idle_replicate b h n i

pub idle_fresh : (kind : MemoryKind) (size first n : ℕ) → AreIdle (fresh_buffers kind size first n)
idle_fresh Mmap size first n = idle_map (λ m. fresh_buffer size (Some m)) (λ m. refl) (range_with_len first n)
idle_fresh UserPtr size first n = idle_replicate (fresh_buffer size None) refl n

idle_made : (bs : List Buffer) → AreIdle (map made_idle bs)
idle_made bs = idle_map made_idle (λ b. refl) bs

bare_stopped : (q : QueueState) → IsBare (stopped_queue q)
bare_stopped q = (refl, refl, idle_made q.buffers)

bare_opening : IsBare opening_queue
bare_opening = (refl, refl, λ i. refl)

bare_map : {A : Type 0} (f : A → QueueState) → ((x : A) → IsBare (f x)) → (xs : List A) (p : ℕ) → IsBare (get_or (map f xs) p opening_queue)
bare_map f h [] p = bare_opening
bare_map f h (x ∷ xs) zero = h x
bare_map f h (x ∷ xs) (suc p) = bare_map f h xs p

-- ---- the queues of a handle

-- the handle has the queues of its model, and its lists have its buffers in place
abbrev pub IsSound : LocalState → Type 0
IsSound s = (length s.queues ≡ length (types_of s.model)) × AreListed s

abbrev InPlaces : List ℕ → List QueueState → List OwedEntry → Type 0
InPlaces us qs owed = (t i : ℕ) → IsInPlace (get_or qs (place_in us t) opening_queue) (times_owed owed t i) i

place_apart : (us : List ℕ) (t u : ℕ) → u ≢ t → place_in us t < length us → place_in us u ≢ place_in us t
place_apart [] t u apart within = absurd (omega (arith, within))
place_apart (v ∷ vs) t u apart within =
    elim (eqb_tells v t) as (λ _. place_in (v ∷ vs) u ≢ place_in (v ∷ vs) t) [
      | inl is ↦ elim (eqb_tells v u) as (λ _. place_in (v ∷ vs) u ≢ place_in (v ∷ vs) t) [
        | inl same ↦ absurd (apart (sym same.1 ∙ is.1))
        | inr not ↦ rw (is.0, not.0) (λ e. omega (arith, e))
      ]
      | inr never ↦
          let less : place_in vs t < length vs = omega (arith, (rw never.0 at within)) in
          elim (eqb_tells v u) as (λ _. place_in (v ∷ vs) u ≢ place_in (v ∷ vs) t) [
            | inl same ↦ rw (never.0, same.0) (λ e. omega (arith, e))
            | inr not ↦ rw (never.0, not.0) (λ e. place_apart vs t u apart less (omega (arith, e)))
          ]
    ]

-- one queue is changed, and of the owed list what is owed of it
places_set : (us : List ℕ) (qs : List QueueState) (owed owed' : List OwedEntry) (t : ℕ) (v : QueueState) →
    length qs ≡ length us → place_in us t < length us →
    ((i : ℕ) → IsInPlace v (times_owed owed' t i) i) →
    ((u i : ℕ) → u ≢ t → times_owed owed' u i ≡ times_owed owed u i) →
    InPlaces us qs owed → InPlaces us (set qs (place_in us t) v) owed'
places_set us qs owed owed' t v long within here others old u i =
    let p : ℕ = place_in us t in
    elim (eqb_tells u t) as (λ _. IsInPlace (get_or (set qs p v) (place_in us u) opening_queue) (times_owed owed' u i) i) [
      | inl is ↦
          let P : ℕ → Type 0 = λ k. IsInPlace (get_or (set qs p v) (place_in us k) opening_queue) (times_owed owed' k i) i in
          let Q : QueueState → Type 0 = λ q. IsInPlace q (times_owed owed' t i) i in
          subst P (sym is.1) (subst Q (sym (get_or-set_same qs p v opening_queue (omega (arith, long, within)))) (here i))
      | inr not ↦
          let Q : QueueState → Type 0 = λ q. IsInPlace q (times_owed owed' u i) i in
          let R : ℕ → Type 0 = λ n. IsInPlace (get_or qs (place_in us u) opening_queue) n i in
          let same : get_or (set qs p v) (place_in us u) opening_queue ≡ get_or qs (place_in us u) opening_queue = get_or-set_other qs p (place_in us u) v opening_queue (place_apart us t u not.1 within) in
          subst Q (sym same) (subst R (sym (others u i not.1)) (old u i))
    ]

alike_set : (qs : List QueueState) (p : ℕ) (v : QueueState) → IsAlike (get_or qs p opening_queue) v →
    (k : ℕ) → IsAlike (get_or qs k opening_queue) (get_or (set qs p v) k opening_queue)
alike_set [] p v h k = (refl, refl, λ i. refl)
alike_set (q ∷ qs) zero v h zero = h
alike_set (q ∷ qs) zero v h (suc k) = (refl, refl, λ i. refl)
alike_set (q ∷ qs) (suc p) v h zero = (refl, refl, λ i. refl)
alike_set (q ∷ qs) (suc p) v h (suc k) = alike_set qs p v h k

places_alike : (us : List ℕ) (qs : List QueueState) (owed : List OwedEntry) (p : ℕ) (v : QueueState) →
    IsAlike (get_or qs p opening_queue) v → InPlaces us qs owed → InPlaces us (set qs p v) owed
places_alike us qs owed p v h old t i =
    place_alike (get_or qs (place_in us t) opening_queue) (get_or (set qs p v) (place_in us t) opening_queue) (times_owed owed t i) i
    (alike_set qs p v h (place_in us t)) (old t i)

-- a queue of the state is changed in what the lists don't tell
sound_alike : (s : LocalState) (t : ℕ) (v : QueueState) → IsAlike (queue_of s t) v → IsSound s → IsSound (with_queue s t v)
sound_alike s t v h old =
    let p : ℕ = place_in (types_of s.model) t in
    (length-set s.queues p v ∙ old.0, places_alike (types_of s.model) s.queues s.owed p v h old.1)

-- a queue of the state has nothing in it any more, and nothing is owed of it
pub sound_bare : (s : LocalState) (t : ℕ) (v : QueueState) (owed : List OwedEntry) → has_type s.model t ≡ true → IsBare v →
    ((i : ℕ) → times_owed owed t i ≡ 0) → ((u i : ℕ) → u ≢ t → times_owed owed u i ≡ times_owed s.owed u i) →
    IsSound s → IsSound (record (with_queue s t v) { owed = owed })
sound_bare s t v owed has bare none others old =
    let us : List ℕ = types_of s.model in
    let p : ℕ = place_in us t in (
      length-set s.queues p v ∙ old.0,
      places_set us s.queues s.owed owed t v old.0 (ltb-true p (length us) has) (λ i. place_bare v (times_owed owed t i) i bare (none i)) others old.1,
    )

-- ---- the calls

pub sound_format : (s : LocalState) (t : ℕ) (f : Fmt) → IsSound s → IsSound (with_set_format s t f)
unfolding with_set_format_at
sound_format s t f h =
    let m : Model = s.model in
    let P : List QueueState → Type 0 = λ qs. IsSound (record s { queues = qs }) in
    let g : Fmt = sized_as f (queue_of s (picture_queue m)).format in
    let set_one : (qs : List QueueState) (u : ℕ) (k : Fmt) → P qs → P (with_format_at queue_kind m qs u k) =
    λ qs u k was.
    let x : LocalState = record s { queues = qs } in
    sound_alike x u (record (queue_of x u) { format = k }) (refl, refl, λ i. refl) was in
    elim (is_source m t) as (λ b. P (if b then with_source_format queue_kind m s.queues t f else with_format_at queue_kind m s.queues t f)) [
      | true ↦ set_one (with_format_at queue_kind m s.queues t f) (picture_queue m) g (set_one s.queues t f h)
      | false ↦ set_one s.queues t f h
    ]

pub sound_queued : (s : LocalState) (t i : ℕ) (memory : Option ℕ) (used ts : ℕ) → has_type s.model t ≡ true →
    nat_lt i (length (queue_of s t).buffers) ≡ true → is_idle (buffer_of (queue_of s t) i).state ≡ true → IsSound s →
    IsSound (with_queued s t i memory used ts)
unfolding queued_buffer
sound_queued s t i memory used ts has index idle old =
    let us : List ℕ = types_of s.model in
    let q : QueueState = queue_of s t in
    let b : Buffer = queued_buffer s t memory used ts (buffer_of q i) in
    let v : QueueState = record (with_buffer q i b) { queued = q.queued ++ i ∷ [] } in (
      length-set s.queues (place_in us t) v ∙ old.0,
      places_set us s.queues s.owed s.owed t v old.0 (ltb-true (place_in us t) (length us) has)
          (λ j. place_queued q (times_owed s.owed t j) i b (ltb-true i (length q.buffers) index) (idle_is (buffer_of q i).state idle) refl j (old.1 t j))
          (λ u j apart. refl) old.1,
    )

-- a queue with a done buffer, or with one that isn't Idle, is one of the handle's
has_done : (qs : List QueueState) (p : ℕ) → is_empty (get_or qs p opening_queue).done ≡ false → p < length qs
has_done [] p h = absurd (false≢true (sym h))
has_done (q ∷ qs) zero h = omega arith
has_done (q ∷ qs) (suc p) h = omega (arith, has_done qs p h)

pub has_buffer : (qs : List QueueState) (p i : ℕ) → is_idle (get_or (get_or qs p opening_queue).buffers i no_buffer).state ≡ false → p < length qs
has_buffer [] p i h = absurd (false≢true (sym h))
has_buffer (q ∷ qs) zero i h = omega arith
has_buffer (q ∷ qs) (suc p) i h = omega (arith, has_buffer qs p i h)

pub sound_taken_back : (s : LocalState) (t : ℕ) → is_empty (queue_of s t).done ≡ false → IsSound s → IsSound (with_queue s t (taken_back (queue_of s t)))
sound_taken_back s t some old =
    let us : List ℕ = types_of s.model in
    let p : ℕ = place_in us t in
    let q : QueueState = queue_of s t in
    let within : p < length us = omega (arith, old.0, has_done s.queues p some) in (
      length-set s.queues p (taken_back q) ∙ old.0,
      places_set us s.queues s.owed s.owed t (taken_back q) old.0 within (λ i. place_taken_back q (times_owed s.owed t i) some i (old.1 t i)) (λ u i apart. refl) old.1,
    )

pub sound_opened : (m : Model) (s : LocalState) → s.model ≡ m → s.queues ≡ map (λ (t : ℕ). opening_queue) (types_of m) → s.owed ≡ [] → IsSound s
sound_opened m s is queues owed =
    let long : length s.queues ≡ length (types_of s.model) =
    ap (λ (qs : List QueueState). length qs) queues ∙ (length-map (types_of m) (λ (t : ℕ). opening_queue) ∙ ap (λ k. length (types_of k)) (sym is)) in (
      long,
      λ t i.
          let bare : IsBare (get_or (map (λ (u : ℕ). opening_queue) (types_of m)) (place_in (types_of s.model) t) opening_queue) =
          bare_map (λ (u : ℕ). opening_queue) (λ u. bare_opening) (types_of m) (place_in (types_of s.model) t) in
          rw (queues, owed) (place_bare (get_or (map (λ (u : ℕ). opening_queue) (types_of m)) (place_in (types_of s.model) t) opening_queue) 0 i bare refl),
    )

pub sound_closed : (s : LocalState) (owed : List OwedEntry) → owed ≡ [] → IsSound s → IsSound (record s { opened = false; queues = map stopped_queue s.queues; owed = owed })
sound_closed s owed none old = (
  length-map s.queues stopped_queue ∙ old.0,
  λ t i.
      place_bare (get_or (map stopped_queue s.queues) (place_in (types_of s.model) t) opening_queue) (times_owed owed t i) i
      (bare_map stopped_queue bare_stopped s.queues (place_in (types_of s.model) t)) (ap (λ xs. times_owed xs t i) none),
)

not_not : (b : Bool) → not b ≡ false → b ≡ true
not_not true h = refl
not_not false h = absurd (false≢true (sym h))

-- no refusal applies, and so the call may go on
abbrev Passes : Row → Type 0
Passes r = first_refusal r.refusals ≡ None

pub sound_row : (s : LocalState) (line addr : ℕ) (call : Call) → Passes (row_of s line addr call) → (row_of s line addr call).waits ≡ false → IsSound s →
    IsSound (row_of s line addr call).next
unfolding querycap_row enumfmt_row gfmt_row tryfmt_row sfmt_row enuminput_row ginput_row sinput_row reqbufs_row querybuf_row ualloc_row qbuf_row streamon_row streamoff_row dqbuf_row mmap_row munmap_row read_row hash_row write_row fill_row subscribe_row unsubscribe_row dqevent_row with_buffers
sound_row s line addr (OpenHandle nonblock) pass go old = sound_opened s.model (record (opening s.model) { opened = true; blocking = not nonblock }) refl refl refl
sound_row s line addr CloseHandle pass go old = sound_closed s [] refl old
sound_row s line addr QueryCap pass go old = old
sound_row s line addr (EnumFmt t i) pass go old = old
sound_row s line addr (GFmt t) pass go old = old
sound_row s line addr (TryFmt t f w h) pass go old = old
sound_row s line addr (SFmt t f w h) pass go old = sound_format s t (adjusted_for s t f w h) old
sound_row s line addr (EnumInput i) pass go old = old
sound_row s line addr GInput pass go old = old
sound_row s line addr (SInput i) pass go old = old
sound_row s line addr (ReqBufs t m n) pass go old =
    let so : (k : ℕ) → (get_or (reqbufs_row s t m n).refusals k (false, Enomem)).0 ≡ false = passes (reqbufs_row s t m n).refusals pass in
    let kind : MemoryKind = memory_kind m in
    let size : ℕ = picture_size (queue_of s t).format in
    let v : QueueState = record (stopped_queue (queue_of s t)) { memory = kind; buffers = fresh_buffers kind size (length s.memories) (granted n) } in
    sound_bare s t v (owed_by_others s t) (not_not (has_type s.model t) (so 1)) (refl, refl, idle_fresh kind size (length s.memories) (granted n))
    (none_of_queue s.owed t) (same_of_others s.owed t) old
sound_row s line addr (QueryBuf t i) pass go old = old
sound_row s line addr (UAlloc u len off) pass go old = old
sound_row s line addr (QBuf t i user used ts) pass go old =
    let so : (k : ℕ) → (get_or (qbuf_row s t i user used ts).refusals k (false, Enomem)).0 ≡ false = passes (qbuf_row s t i user used ts).refusals pass in
    sound_queued s t i (brought s user) used ts (not_not (has_type s.model t) (so 1)) (not_not _ (so 2)) (not_not _ (so 3)) old
sound_row s line addr (StreamOn t) pass go old = sound_alike s t (started (queue_of s t)) (refl, refl, λ i. refl) old
sound_row s line addr (StreamOff t) pass go old =
    let so : (k : ℕ) → (get_or (streamoff_row s t).refusals k (false, Enomem)).0 ≡ false = passes (streamoff_row s t).refusals pass in
    sound_bare s t (stopped_queue (queue_of s t)) (owed_by_others s t) (not_not (has_type s.model t) (so 1)) (bare_stopped (queue_of s t))
    (none_of_queue s.owed t) (same_of_others s.owed t) old
sound_row s line addr (DqBuf t) pass go old = sound_taken_back s t go old
sound_row s line addr (MapCall m t i ro) pass go old = old
sound_row s line addr (Munmap m) pass go old = old
sound_row s line addr (Peek m off len) pass go old = old
sound_row s line addr (Hash m) pass go old = old
sound_row s line addr (Poke m off bytes) pass go old = old
sound_row s line addr (Fill m seed) pass go old = old
sound_row s line addr (Subscribe v) pass go old = old
sound_row s line addr (Unsubscribe v) pass go old = old
sound_row s line addr DqEvent pass go old = old

-- ---- the steps of the device

-- what a frame leaves: it takes the head of the queue of each type
abbrev Left : (ℕ → ℕ) → List ℕ → List OwedEntry
Left heads us = map (λ t. record { queue = t; item = OwedBuffer (heads t) }) us

-- each type once
abbrev AreApart : List ℕ → Type 0
AreApart [] = ⊤
AreApart (u ∷ us) = (length us ≤ place_in us u) × AreApart us

apart_in : (m : Model) → AreApart (types_of m)
apart_in Capture = (lit≤ tt, tt)
apart_in Convert = (lit≤ tt, (lit≤ tt, tt))

left_cons : (heads : ℕ → ℕ) (u : ℕ) (us : List ℕ) (t i : ℕ) →
    times_owed (Left heads (u ∷ us)) t i ≡ once (u == t && heads u == i) + times_owed (Left heads us) t i
left_cons heads u us t i = owed_cons (record { queue = u; item = OwedBuffer (heads u) }) (Left heads us) t i

left_past : (heads : ℕ → ℕ) (us : List ℕ) (t i : ℕ) → length us ≤ place_in us t → times_owed (Left heads us) t i ≡ 0
left_past heads [] t i past = refl
left_past heads (u ∷ us) t i past =
    elim (eqb_tells u t) as (λ _. times_owed (Left heads (u ∷ us)) t i ≡ 0) [
      | inl is ↦ absurd (omega (arith, (rw is.0 at past)))
      | inr not ↦
          let rec : times_owed (Left heads us) t i ≡ 0 = left_past heads us t i (omega (arith, (rw not.0 at past))) in
          omega (arith, left_cons heads u us t i, never_at u t (heads u == i) not.0, rec)
    ]

left_at : (heads : ℕ → ℕ) (us : List ℕ) (t i : ℕ) → AreApart us → place_in us t < length us → times_owed (Left heads us) t i ≡ once (heads t == i)
left_at heads [] t i apart within = absurd (omega (arith, within))
left_at heads (u ∷ us) t i apart within =
    let all : times_owed (Left heads (u ∷ us)) t i ≡ once (u == t && heads u == i) + times_owed (Left heads us) t i = left_cons heads u us t i in
    elim (eqb_tells u t) as (λ _. times_owed (Left heads (u ∷ us)) t i ≡ once (heads t == i)) [
      | inl is ↦
          let P : ℕ → Type 0 = λ k. length us ≤ place_in us k in
          let none : times_owed (Left heads us) t i ≡ 0 = left_past heads us t i (subst P is.1 apart.0) in
          let one : once (u == t && heads u == i) ≡ once (heads u == i) = rw is.0 refl in
          let Q : ℕ → Type 0 = λ k. once (heads u == i) ≡ once (heads k == i) in
          let same : once (heads u == i) ≡ once (heads t == i) = subst Q is.1 refl in
          omega (arith, all, none, one, same)
      | inr not ↦
          let rec : times_owed (Left heads us) t i ≡ once (heads t == i) = left_at heads us t i apart.1 (omega (arith, (rw not.0 at within))) in
          omega (arith, all, never_at u t (heads u == i) not.0, rec)
    ]

never_both : (b : Bool) → once (b && false) ≡ 0
never_both true = refl
never_both false = refl

both_ready : (a b : Bool) → (a && not b) ≡ true → b ≡ false
both_ready true true h = absurd (false≢true h)
both_ready true false h = refl
both_ready false b h = absurd (false≢true h)

-- an event is no buffer
pub no_sync : (s : LocalState) (t i : ℕ) → times_owed (sync_of s) t i ≡ 0
no_sync s t i =
    let o : OwedEntry = record { queue = picture_queue s.model; item = Sync (target s).next_sequence } in
    elim (has_events s.model) as (λ b. times_owed (if b then o ∷ [] else []) t i ≡ 0) [
      | true ↦ owed_cons o [] t i ∙ ap (λ n. n + 0) (never_both (picture_queue s.model == t))
      | false ↦ refl
    ]

ready_at : (qs : List QueueState) (p : ℕ) → list_all (λ q. q.streaming && not (is_empty q.queued)) qs ≡ true → p < length qs →
    is_empty (get_or qs p opening_queue).queued ≡ false
ready_at qs p ready within =
    both_ready (get_or qs p opening_queue).streaming (is_empty (get_or qs p opening_queue).queued)
    (AllPass-from_list_all (λ q. q.streaming && not (is_empty q.queued)) qs ready p opening_queue within)

-- a frame took the head of each queue, and owes these buffers
abbrev pub IsFrame : LocalState → List OwedEntry → Type 0
IsFrame s entries = (t i : ℕ) → times_owed entries t i ≡ times_owed (buffers_taken s) t i

pub sound_heads : (s : LocalState) (good : Bool) (entries : List OwedEntry) → can_finish s ≡ true → IsFrame s entries → IsSound s →
    IsSound (heads_taken s good entries)
sound_heads s good entries ready owes old =
    let us : List ℕ = types_of s.model in
    let f : QueueState → QueueState = taken good (next_timestamp s) in
    let heads : ℕ → ℕ = λ t. head (queue_of s t) in (
      length-map s.queues f ∙ old.0,
      λ t i.
          let p : ℕ = place_in us t in
          let q : QueueState = get_or s.queues p opening_queue in
          let n : ℕ = times_owed s.owed t i in
          let sum : times_owed (s.owed ++ entries) t i ≡ n + times_owed (Left heads us) t i =
          owed_append s.owed entries t i ∙ ap (λ k. n + k) (owes t i) in
          let P : QueueState → Type 0 = λ v. IsInPlace v (times_owed (s.owed ++ entries) t i) i in
          let Q : QueueState → ℕ → Type 0 = λ v k. IsInPlace v k i in
          elim (leb_tells (length us) p) as (λ _. IsInPlace (get_or (map f s.queues) p opening_queue) (times_owed (s.owed ++ entries) t i) i) [
            | inl past ↦
                let behind : length s.queues ≤ p = omega (arith, old.0, past.1) in
                let behind' : length (map f s.queues) ≤ p = omega (arith, length-map s.queues f, behind) in
                let same : times_owed (s.owed ++ entries) t i ≡ n = omega (arith, sum, left_past heads us t i past.1) in
                let was : IsInPlace opening_queue n i = subst (λ v. Q v n) (get_or_past s.queues p opening_queue behind) (old.1 t i) in
                subst P (sym (get_or_past (map f s.queues) p opening_queue behind')) (subst (Q opening_queue) (sym same) was)
            | inr within ↦
                let inside : p < length s.queues = omega (arith, old.0, within.1) in
                let more : times_owed (s.owed ++ entries) t i ≡ n + once (head q == i) = sum ∙ ap (λ k. n + k) (left_at heads us t i (apart_in s.model) within.1) in
                let now : IsInPlace (f q) (n + once (head q == i)) i = place_taken good (next_timestamp s) q n (ready_at s.queues p ready inside) i (old.1 t i) in
                subst P (sym (get_or-map f s.queues p opening_queue opening_queue inside)) (subst (Q (f q)) (sym more) now)
          ],
    )

pub sound_used : (s x : LocalState) (n : ℕ) → IsSound x → IsSound (with_target_used s n x)
sound_used s x n old =
    let q : QueueState = queue_of x (picture_queue s.model) in
    sound_alike x (picture_queue s.model) (with_used q (head (target s)) n)
    (refl, refl, states_set q.buffers (head (target s)) (record (buffer_of q (head (target s))) { used = n }) refl) old

pub sound_made : (s : LocalState) → can_finish s ≡ true → IsSound s → IsSound (frame_made s)
sound_made s ready old =
    let entries : List OwedEntry = sync_of s ++ buffers_taken s in
    let owes : IsFrame s entries = λ t i. omega (arith, owed_append (sync_of s) (buffers_taken s) t i, no_sync s t i) in
    sound_used s (heads_taken s true entries) (picture_size (target s).format) (sound_heads s true entries ready owes old)

pub sound_failed : (s : LocalState) → can_finish s ≡ true → IsSound s → IsSound (frame_failed s)
sound_failed s ready old = sound_used s (heads_taken s false (buffers_taken s)) 0 (sound_heads s false (buffers_taken s) ready (λ t i. refl) old)

pub at_itself : (t : ℕ) (b : Bool) → once (t == t && b) ≡ once b
at_itself t b = rw (eq-eqb t t refl) refl

pub sound_given : (s : LocalState) (t : ℕ) (item : OwedItem) (rest : List OwedEntry) → s.owed ≡ record { queue = t; item = item } ∷ rest →
    IsSound s → IsSound (item_given (record s { owed = rest }) t item)
sound_given s t (OwedBuffer i) rest owed old =
    let us : List ℕ = types_of s.model in
    let p : ℕ = place_in us t in
    let q : QueueState = queue_of s t in
    let o : OwedEntry = record { queue = t; item = OwedBuffer i } in
    let less : (u j : ℕ) → times_owed s.owed u j ≡ once (t == u && i == j) + times_owed rest u j =
    λ u j. ap (λ xs. times_owed xs u j) owed ∙ owed_cons o rest u j in
    let here : (j : ℕ) → times_owed s.owed t j ≡ once (i == j) + times_owed rest t j =
    λ j. omega (arith, less t j, at_itself t (i == j)) in
    let one : once (i == i) ≡ 1 = ap once (eq-eqb i i refl) in
    let was : ((buffer_of q i).state ≡ Owed) × (times_owed rest t i ≡ 0) =
    owed_once (buffer_of q i).state (times_owed rest t i) (omega (arith, here i, one, (old.1 t i).1)) in
    let inside : p < length s.queues = has_buffer s.queues p i (ap is_idle was.0) in
    let others : (u j : ℕ) → u ≢ t → times_owed rest u j ≡ times_owed s.owed u j =
    λ u j apart. omega (arith, less u j, never_at t u (i == j) (ne_eqb t u (λ e. apart (sym e)))) in (
      length-set s.queues p (with_done q i) ∙ old.0,
      places_set us s.queues s.owed rest t (with_done q i) old.0 (omega (arith, old.0, inside))
          (λ j. place_given q (times_owed s.owed t j) i (times_owed rest t j) j (here j) (old.1 t j)) others old.1,
    )
sound_given s t (Sync frame) rest owed old =
    let o : OwedEntry = record { queue = t; item = Sync frame } in
    let same : (u j : ℕ) → times_owed s.owed u j ≡ times_owed rest u j =
    λ u j. ap (λ xs. times_owed xs u j) owed ∙ omega (arith, owed_cons o rest u j, never_both (t == u)) in
    let now : IsSound (record s { owed = rest }) =
    (old.0, λ u j. let P : ℕ → Type 0 = λ n. IsInPlace (queue_of s u) n j in subst P (same u j) (old.1 u j)) in
    elim s.subscribed as (λ b. IsSound (if b then record s {
      owed = rest;
      events = s.events ++ (record { frame = frame; number = s.next_event }) ∷ [];
      next_event = counted s.next_event;
    } else record s { owed = rest })) [
      | true ↦ now
      | false ↦ now
    ]

pub sound_step : (s t : LocalState) (e : Entry) → IsSound s → after s e ≡ Some t → IsSound t
unfolding called
sound_step s t (Called line call reply) old leads =
    let r : Row = row_for s line call reply in
    elim (answered_by (first_refusal r.refusals) r s reply t leads) as (λ _. IsSound t) [
      | inl same ↦ subst IsSound (sym same) old
      | inr w ↦ subst IsSound (sym w.3) (sound_row s line (address_in reply) call w.0 w.1 old)
    ]
sound_step s t Finish old leads =
    let w : (can_finish s ≡ true) × (t ≡ frame_made s) = finished_by s t leads in
    subst IsSound (sym w.1) (sound_made s w.0 old)
sound_step s t Bad old leads =
    let w : (can_finish s ≡ true) × (t ≡ frame_failed s) = failed_by s t leads in
    subst IsSound (sym w.1) (sound_failed s w.0 old)
sound_step s t Give old leads =
    let w : Gave s s.owed t = given_by s t leads in
    subst IsSound (sym w.3) (sound_given s w.0.queue w.0.item w.1 w.2 old)

pub sound_log : (m : Model) (log : List Entry) (s : LocalState) → replay m log ≡ Some s → IsSound s
sound_log m log s leads = kept_by_all IsSound sound_step log (opening m) s (sound_opened m (opening m) refl refl refl) leads

pub listed_log : (m : Model) (log : List Entry) (s : LocalState) → replay m log ≡ Some s → AreListed s
listed_log m log s leads = (sound_log m log s leads).1
