-- The queues of a record and what is owed stay in order.
use Rattle.std.proofs.Common.{◌≡◌, ℕ, ◌+◌, ◌<◌, Bool, true, false, not, ◌==◌, if◌then◌else◌, List, [], ◌∷◌, ◌++◌, length, get_or, set, map, drop, Option, Some, None, slice_get, refl, sym, ap, ◌∙◌, subst, arith, eq-eqb, append_assoc}
use Rattle.std.proofs.lemmas.Bool.{false≢true, ltb-true}
use Rattle.std.proofs.lemmas.Option.{none-some}
use Rattle.v4l_const.specs.declared.errno.Errno.TheVariants.{Enomem}
use Rattle.v4l_const.specs.declared.model.Model.{Model}
use Rattle.v4l_const.specs.Model.{queues as types_of}
use Rattle.v4l_rules.specs.Queues.{place_in, has_type}
use Rattle.v4l_rules.specs.Refusals.{first_refusal}
use Rattle.vm_local.specs.declared.bound.MemoryKind.{MemoryKind}
use Rattle.vm_local.specs.declared.buffer.Buffer.{Buffer}
use Rattle.vm_local.specs.declared.buffer.BufferState.TheVariants.{Owed}
use Rattle.vm_local.specs.declared.owed.Owed.{Owed as OwedEntry}
use Rattle.vm_local.specs.declared.owed.OwedItem.TheVariants.{Buffer as OwedBuffer}
use Rattle.vm_local.specs.State.{QueueState, LocalState, opening_queue, queue_of, with_queue, buffer_of}
use Rattle.vm_local.specs.Kinds.{is_idle}
use Rattle.vm_local.specs.Queue.{can_finish, stopped_queue, owed_by_others, fresh_buffers}
use Rattle.vm_local.specs.Steps.{head, sync_of, buffers_taken, heads_taken, with_target_used}
use Rattle.vm_local.specs.Calls.{reqbufs_row, qbuf_row}
use Rattle.vm_local.specs.Listed.{times_owed, once}
use Rattle.vm_local.specs.Record.{RecordState, IsOrderly}
use Rattle.vm_local.proofs.CountLemmas.{owed_cons, owed_append, owed_once, idle_is, none_of_queue, same_of_others}
use Rattle.vm_local.proofs.StepLemmas.{passes}
use Rattle.vm_local.proofs.ListedLemmas.{IsSound, AreIdle, idle_fresh, sound_bare, IsFrame, no_sync, has_buffer, at_itself, sound_heads, sound_used}
use Rattle.vm_local.proofs.ShortLemmas.{room_to_queue, room_to_give}

-- the queues of a record's state, seen by its fields, with one changed
pub set_seen : (f : QueueState → QueueState) (vs : List QueueState) (s : LocalState) → vs ≡ s.queues → (t p : ℕ) (qs : List QueueState) →
    p ≡ place_in (types_of s.model) t → qs ≡ set vs p (f (get_or vs p opening_queue)) →
    qs ≡ set s.queues (place_in (types_of s.model) t) (f (queue_of s t))
set_seen f vs s same t p qs place changed =
    let g : List QueueState → ℕ → List QueueState = λ xs k. set xs k (f (get_or xs k opening_queue)) in
    changed ∙ (ap (λ (xs : List QueueState). g xs p) same ∙ ap (λ k. g s.queues k) place)

pub at_place : (vs : List QueueState) (s : LocalState) → vs ≡ s.queues → (t p : ℕ) → p ≡ place_in (types_of s.model) t →
    get_or vs p opening_queue ≡ queue_of s t
at_place vs s same t p place =
    ap (λ (xs : List QueueState). get_or xs p opening_queue) same ∙ ap (λ k. get_or s.queues k opening_queue) place

-- the fields of a state that is sound
pub orderly_as : (next : LocalState) (m : Model) (qs : List QueueState) (owed : List OwedEntry) →
    m ≡ next.model → qs ≡ next.queues → owed ≡ next.owed → IsSound next → IsOrderly m qs owed
orderly_as next m qs owed models queues entries sound = rw (models, queues, entries) sound

-- the state that a record's fields show is sound
pub sound_shown : (v r : RecordState) → v ≡ r → IsOrderly v.local.model v.local.queues v.local.owed → IsSound r.local
sound_shown v r same orderly = subst (λ (x : RecordState). IsSound x.local) same orderly

not_not : (b : Bool) → not b ≡ false → b ≡ true
not_not true h = refl
not_not false h = absurd (false≢true (sym h))

-- ---- room in the lists of a queue

-- where a qbuf passes, the queue has room for one more queued buffer
pub room_queued : (s : LocalState) (t i : ℕ) (user : Option (List ℕ)) (used ts : ℕ) → first_refusal (qbuf_row s t i user used ts).refusals ≡ None →
    IsSound s → length (queue_of s t).queued < length (queue_of s t).buffers
unfolding qbuf_row
room_queued s t i user used ts pass sound =
    let so : (k : ℕ) → (get_or (qbuf_row s t i user used ts).refusals k (false, Enomem)).0 ≡ false = passes (qbuf_row s t i user used ts).refusals pass in
    let q : QueueState = queue_of s t in
    room_to_queue q (λ j. times_owed s.owed t j) i (ltb-true i (length q.buffers) (not_not _ (so 2))) (idle_is (buffer_of q i).state (not_not _ (so 3))) (sound.1 t)

pub first_is : {A : Type 0} (xs : List A) (x : A) → slice_get xs 0 ≡ Some x → xs ≡ x ∷ drop 1 xs
first_is [] x h = absurd (none-some x h)
first_is (y ∷ ys) x h = ap (λ z. z ∷ ys) (some_is y x h)
  where
    some_is : {A : Type 0} (y x : A) → Some y ≡ Some x → y ≡ x
    some_is y x h = cc

-- where a buffer is owed first, its queue is one of the handle's and has room for one more done buffer
pub room_given : (s : LocalState) (t i : ℕ) (rest : List OwedEntry) → s.owed ≡ record { queue = t; item = OwedBuffer i } ∷ rest → IsSound s →
    (place_in (types_of s.model) t < length s.queues) × (length (queue_of s t).done < length (queue_of s t).buffers)
room_given s t i rest owed sound =
    let q : QueueState = queue_of s t in
    let o : OwedEntry = record { queue = t; item = OwedBuffer i } in
    let less : (j : ℕ) → times_owed s.owed t j ≡ once (i == j) + times_owed rest t j =
    λ j. ap (λ xs. times_owed xs t j) owed ∙ (owed_cons o rest t j ∙ ap (λ n. n + times_owed rest t j) (at_itself t (i == j))) in
    let one : once (i == i) ≡ 1 = ap once (eq-eqb i i refl) in
    let was : ((buffer_of q i).state ≡ Owed) × (times_owed rest t i ≡ 0) =
    owed_once (buffer_of q i).state (times_owed rest t i) (omega (arith, less i, one, (sound.1 t i).1)) in (
      has_buffer s.queues (place_in (types_of s.model) t) i (ap is_idle was.0),
      room_to_give q (λ j. times_owed s.owed t j) (λ j. times_owed rest t j) i less (sound.1 t),
    )

-- ---- a frame

-- the state after the buffers of a frame were taken
abbrev pub taken_for : LocalState → Bool → ℕ → LocalState
taken_for s good used = with_target_used s used (heads_taken s good ((if good then sync_of s else []) ++ buffers_taken s))

pub sound_taken : (s : LocalState) (good : Bool) (used : ℕ) → can_finish s ≡ true → IsSound s → IsSound (taken_for s good used)
sound_taken s true used ready sound =
    let entries : List OwedEntry = sync_of s ++ buffers_taken s in
    let owes : IsFrame s entries = λ t i. omega (arith, owed_append (sync_of s) (buffers_taken s) t i, no_sync s t i) in
    sound_used s (heads_taken s true entries) used (sound_heads s true entries ready owes sound)
sound_taken s false used ready sound =
    sound_used s (heads_taken s false (buffers_taken s)) used (sound_heads s false (buffers_taken s) ready (λ t i. refl) sound)

-- what is owed then, seen by a record's fields
pub owed_seen : (s : LocalState) (good : Bool) (owed : List OwedEntry) (qs : List QueueState) (us : List ℕ) (sync more most : List OwedEntry) →
    owed ≡ s.owed → qs ≡ s.queues → us ≡ types_of s.model → sync ≡ (if good then sync_of s else []) → more ≡ owed ++ sync →
    most ≡ more ++ map (λ t. record { queue = t; item = OwedBuffer (head (get_or qs (place_in us t) opening_queue)) }) us →
    most ≡ (taken_for s good 0).owed
owed_seen s good owed qs us sync more most same queues types told pushed heads =
    rw (heads, pushed, same, queues, types, told) (append_assoc s.owed (if good then sync_of s else []) (buffers_taken s))

-- ---- buffers that are made anew

pub sound_renewed : (s : LocalState) (t m n : ℕ) (kind : MemoryKind) (size first k : ℕ) (bs : List Buffer) →
    first_refusal (reqbufs_row s t m n).refusals ≡ None → bs ≡ fresh_buffers kind size first k → IsSound s →
    IsSound (record (with_queue s t (record (stopped_queue (queue_of s t)) { memory = kind; buffers = bs })) { owed = owed_by_others s t })
unfolding reqbufs_row
sound_renewed s t m n kind size first k bs pass fresh sound =
    let so : (k : ℕ) → (get_or (reqbufs_row s t m n).refusals k (false, Enomem)).0 ≡ false = passes (reqbufs_row s t m n).refusals pass in
    sound_bare s t (record (stopped_queue (queue_of s t)) { memory = kind; buffers = bs }) (owed_by_others s t) (not_not (has_type s.model t) (so 1))
    (refl, refl, subst AreIdle (sym fresh) (idle_fresh kind size first k)) (none_of_queue s.owed t) (same_of_others s.owed t) sound
