-- Each memory has one owner.
use Rattle.std.proofs.Common.{◌≡◌, ◌≢◌, ◌⊎◌, inl, inr, ℕ, zero, suc, ◌<◌, ◌+◌, Bool, true, false, not, ◌&&◌, ◌||◌, ◌==◌, List, [], ◌∷◌, ◌++◌, length, get_or, set, map, replicate, Option, Some, None, IsSome, refl, sym, ap, ◌∙◌, subst, arith, unwrap_or, add-one, if◌then◌else◌, get_or-set_same, get_or-set_other}
use Rattle.std.specs.List.{list_any, range_with_len}
use Rattle.std.specs.Option.{option_and_then}
use Rattle.std.proofs.lemmas.Bool.{false≢true, true≢false, eqb-true, or_cases, and_parts, not-false, ltb-true, cases_Bool, cases_eq}
use Rattle.std.proofs.lemmas.Option.{none-some}
use Rattle.v4l_const.specs.declared.errno.Errno.TheVariants.{Enomem}
use Rattle.v4l_const.specs.declared.model.Model.{Model}
use Rattle.v4l_const.specs.Model.{queues as types_of}
use Rattle.v4l_format.specs.Fmt.{picture_size}
use Rattle.v4l_rules.specs.Queues.{place_in}
use Rattle.v4l_rules.specs.Refusals.{first_refusal}
use Rattle.v4l_rules.proofs.SetLemmas.{set_keeps}
use Rattle.vm_local.specs.declared.bound.Bound.{Bound}
use Rattle.vm_local.specs.declared.bound.BoundKind.TheVariants.{User}
use Rattle.vm_local.specs.declared.bound.MemoryKind.{MemoryKind}
use Rattle.vm_local.specs.declared.bound.MemoryKind.TheVariants.{Mmap, UserPtr}
use Rattle.vm_local.specs.declared.buffer.Buffer.{Buffer}
use Rattle.vm_local.specs.declared.call.Call.{Call}
use Rattle.vm_local.specs.declared.call.Call.TheVariants.{OpenHandle, CloseHandle, ReqBufs, UAlloc, QBuf, StreamOff, Poke, Fill}
use Rattle.vm_local.specs.declared.entry.Entry.{Entry}
use Rattle.vm_local.specs.declared.entry.Entry.TheVariants.{Called, Finish, Bad, Give}
use Rattle.vm_local.specs.declared.owed.Owed.{Owed as OwedEntry}
use Rattle.vm_local.specs.declared.owed.OwedItem.{OwedItem}
use Rattle.vm_local.specs.declared.owed.OwedItem.TheVariants.{Buffer as OwedBuffer, Sync}
use Rattle.vm_local.specs.State.{QueueState, LocalState, opening, opening_queue, queue_of, no_buffer, buffer_of}
use Rattle.vm_local.specs.Same.{address_in}
use Rattle.vm_local.specs.Kinds.{is_idle, is_mapping_kind}
use Rattle.vm_local.specs.Memory.{named, is_user, memory_of, is_in_use, with_bound}
use Rattle.vm_local.specs.Queue.{is_user_ptr, stopped_queue, memory_kind, fresh_buffer, fresh_buffers, granted, with_buffers, brought, memory_from, queued_buffer, with_queued, can_finish}
use Rattle.vm_local.specs.Steps.{target, counted, sync_of, buffers_taken, item_given}
use Rattle.vm_local.specs.Calls.{Row, row_of, reqbufs_row, ualloc_row, qbuf_row, streamoff_row, write_row, fill_row}
use Rattle.vm_local.specs.Live.{IsBacked, is_of_device, is_named}
use Rattle.vm_local.specs.Log.{row_for, called, after, replay, replay_from}
use Rattle.vm_local.proofs.KeptLemmas.{some_same}
use Rattle.vm_local.proofs.LogLemmas.{replay_from_push}
use Rattle.vm_local.proofs.StepLemmas.{passes, answered_by, frame_made, frame_failed, finished_by, failed_by, given_by, Gave}
use Rattle.vm_home.specs.Reached.{IsReached, HasOneOwner}
use Rattle.vm_home.proofs.PlaceLemmas.{or_left, or_right, map_relates, buffer_at, kind_at, HasAt, used_from, IsLess, QueueRelates, Relates, less_same, queue_same, relates_less, relates_set, has_less, busy_less}
use Rattle.vm_home.proofs.RowLemmas.{IsSound, sound_of, has_queue, backed_at, device_made, is_user_named, bound_some, named_user, Stays, stays_row, frame_relates, given_there, given_relates, stopped_relates}

-- ---- the invariant

abbrev pub IsBusyAt : List QueueState → ℕ → ℕ → Type 0
IsBusyAt qs p i = is_idle (buffer_at qs p i).state ≡ false

abbrev pub IsDeviceAt : List QueueState → ℕ → Type 0
IsDeviceAt qs p = is_user_ptr (kind_at qs p) ≡ false

-- A buffer that isn't Idle has a memory, which no other such buffer has. A memory that the device made is that of one
-- buffer alone, and no name is bound to it as the user's own.
pub record Owns (qs : List QueueState) (users : ℕ → Bool) : Type 0 where
  pub has : (p i : ℕ) → IsBusyAt qs p i → (m : ℕ) × HasAt qs p i m
  pub busy : (p i k j m : ℕ) → IsBusyAt qs p i → IsBusyAt qs k j → HasAt qs p i m → HasAt qs k j m → (p ≡ k) × (i ≡ j)
  pub frames : (p i k j m : ℕ) → IsDeviceAt qs p → HasAt qs p i m → HasAt qs k j m → (p ≡ k) × (i ≡ j)
  pub names : (p i m : ℕ) → IsDeviceAt qs p → HasAt qs p i m → users m ≡ false

abbrev pub OwnsAll : LocalState → Type 0
OwnsAll s = Owns s.queues (is_user_named s)

-- it stays so where buffers and names become less
pub owns_less : (qs vs : List QueueState) (old new : ℕ → Bool) → Relates IsLess qs vs → ((m : ℕ) → new m ≡ true → old m ≡ true) → Owns qs old → Owns vs new
owns_less qs vs old new less fewer h =
    let was : (p i : ℕ) → IsBusyAt vs p i → IsBusyAt qs p i = λ p i. busy_less (buffer_at qs p i) (buffer_at vs p i) ((less p).buffers i) in
    let had : (p i m : ℕ) → HasAt vs p i m → HasAt qs p i m = has_less qs vs less in
    let device : (p : ℕ) → IsDeviceAt vs p → IsDeviceAt qs p = λ p is. ap is_user_ptr (sym (less p).kind) ∙ is in
    record {
      has = λ p i busy. let w : (m : ℕ) × HasAt qs p i m = h.has p i (was p i busy) in (w.0, ((less p).buffers i).memory ∙ w.1);
      busy = λ p i k j m one two. λ a b. h.busy p i k j m (was p i one) (was k j two) (had p i m a) (had k j m b);
      frames = λ p i k j m made a b. h.frames p i k j m (device p made) (had p i m a) (had k j m b);
      names = λ p i m made a. elim (cases_Bool (new m)) as (λ _. new m ≡ false) [
        | inl is ↦ absurd (true≢false (sym (fewer m is) ∙ h.names p i m (device p made) (had p i m a)))
        | inr not ↦ not
      ];
    }

-- no buffers
pub owns_bare : (qs : List QueueState) (users : ℕ → Bool) → ((p i : ℕ) → buffer_at qs p i ≡ no_buffer) → Owns qs users
owns_bare qs users bare =
    let never : (p i m : ℕ) → HasAt qs p i m → ⊥ = λ p i m a. none-some m (sym (ap (λ (b : Buffer). b.memory) (bare p i)) ∙ a) in
    record {
      has = λ p i busy. absurd (true≢false (sym (ap (λ (b : Buffer). is_idle b.state) (bare p i)) ∙ busy));
      busy = λ p i k j m one two a b. absurd (never p i m a);
      frames = λ p i k j m made a b. absurd (never p i m a);
      names = λ p i m made a. absurd (never p i m a);
    }

pub bare_at : (types : List ℕ) (p i : ℕ) → buffer_at (map (λ (t : ℕ). opening_queue) types) p i ≡ no_buffer
bare_at [] p i = refl
bare_at (t ∷ ts) zero i = refl
bare_at (t ∷ ts) (suc p) i = bare_at ts p i

-- ---- buffers made anew

fresh_at : (size first n i m : ℕ) → (get_or (map (λ k. fresh_buffer size (Some k)) (range_with_len first n)) i no_buffer).memory ≡ Some m → m ≡ first + i
fresh_at size first zero i m is = absurd (none-some m is)
fresh_at size first (suc n) zero m is = omega (arith, some_same first m 0 is)
fresh_at size first (suc n) (suc i) m is = omega (arith, fresh_at size (first + 1) n i m is)

pub bare_user : (size n i : ℕ) → (get_or (replicate n (fresh_buffer size None)) i no_buffer).memory ≡ None
bare_user size zero i = refl
bare_user size (suc n) zero = refl
bare_user size (suc n) (suc i) = bare_user size n i

-- a fresh buffer's memory is a new one, by its index
pub fresh_memory : (kind : MemoryKind) (size first n i m : ℕ) → (get_or (fresh_buffers kind size first n) i no_buffer).memory ≡ Some m → (m ≡ first + i) × (is_user_ptr kind ≡ false)
fresh_memory Mmap size first n i m is = (fresh_at size first n i m is, refl)
fresh_memory UserPtr size first n i m is = absurd (none-some m (sym (bare_user size n i) ∙ is))

idle_at : (size first n i : ℕ) → is_idle (get_or (map (λ k. fresh_buffer size (Some k)) (range_with_len first n)) i no_buffer).state ≡ true
idle_at size first zero i = refl
idle_at size first (suc n) zero = refl
idle_at size first (suc n) (suc i) = idle_at size (first + 1) n i

idle_user : (size n i : ℕ) → is_idle (get_or (replicate n (fresh_buffer size None)) i no_buffer).state ≡ true
idle_user size zero i = refl
idle_user size (suc n) zero = refl
idle_user size (suc n) (suc i) = idle_user size n i

pub fresh_idle : (kind : MemoryKind) (size first n i : ℕ) → is_idle (get_or (fresh_buffers kind size first n) i no_buffer).state ≡ true
fresh_idle Mmap size first n i = idle_at size first n i
fresh_idle UserPtr size first n i = idle_user size n i

-- the numbers that buffers have are those of memories that were made
pub number_made : (s : LocalState) → IsSound s → (p i m : ℕ) → HasAt s.queues p i m → m < length s.memories
number_made s sound p i m has =
    let inside : i < length (get_or s.queues p opening_queue).buffers = some_within (get_or s.queues p opening_queue).buffers i has in
    let back : (kind : MemoryKind) (memory : Option ℕ) → memory ≡ Some m → IsBacked s kind memory → m < length s.memories = λ kind memory.
    elim kind as (λ k. memory ≡ Some m → IsBacked s k memory → m < length s.memories) [
      | Mmap ↦ elim memory as (λ o. o ≡ Some m → IsBacked s Mmap o → m < length s.memories) [
        | None ↦ λ is made. absurd made
        | Some k ↦ λ is made. subst (λ n. n < length s.memories) (some_same k m 0 is) made
      ]
      | UserPtr ↦ elim memory as (λ o. o ≡ Some m → IsBacked s UserPtr o → m < length s.memories) [
        | None ↦ λ is made. absurd (none-some m is)
        | Some k ↦ λ is made. subst (λ n. n < length s.memories) (some_same k m 0 is) made
      ]
    ] in
    back (kind_at s.queues p) (buffer_at s.queues p i).memory has (backed_at s sound p i (has_queue s.queues p i inside) inside)
  where
    some_within : (bs : List Buffer) (i : ℕ) → (get_or bs i no_buffer).memory ≡ Some m → i < length bs
    some_within [] i is = absurd (none-some m is)
    some_within (b ∷ bs) zero is = omega arith
    some_within (b ∷ bs) (suc i) is = omega (arith, some_within bs i is)

-- the queue at a place, where one was put at p
abbrev pub IsPut : List QueueState → ℕ → QueueState → ℕ → Type 0
IsPut qs p v k = (k ≡ p × get_or (set qs p v) k opening_queue ≡ v) ⊎ ((k ≢ p) × (get_or (set qs p v) k opening_queue ≡ get_or qs k opening_queue))

pub put_at : (qs : List QueueState) (p : ℕ) (v : QueueState) → p < length qs → (k : ℕ) → IsPut qs p v k
put_at qs p v within k =
    elim (cases_eq k p) as (λ _. IsPut qs p v k) [
      | inl is ↦ inl (is, subst (λ n. get_or (set qs p v) n opening_queue ≡ v) (sym is) (get_or-set_same qs p v opening_queue within))
      | inr apart ↦ inr (apart, get_or-set_other qs p k v opening_queue apart)
    ]

any_weaker : {A : Type 0} (f g : A → Bool) → ((x : A) → f x ≡ true → g x ≡ true) → (xs : List A) → list_any f xs ≡ true → list_any g xs ≡ true
any_weaker f g implies [] some = some
any_weaker f g implies (x ∷ xs) some = elim (or_cases (f x) (list_any f xs) some) as (λ _. (g x || list_any g xs) ≡ true) [
  | inl here ↦ or_left (g x) (list_any g xs) (implies x here)
  | inr rest ↦ or_right (g x) (list_any g xs) (any_weaker f g implies xs rest)
]

-- a memory of the user's own that has a name has one, and was made
pub user_named : (s : LocalState) (m : ℕ) → is_user_named s m ≡ true → is_named s m ≡ true
user_named s m is =
    any_weaker (λ (b : Bound). not (is_mapping_kind b.kind) && b.memory == m) (λ (b : Bound). b.memory == m)
    (λ b both. (and_parts (not (is_mapping_kind b.kind)) (b.memory == m) both).1) s.bound is

pub user_made : (s : LocalState) → IsSound s → (m : ℕ) → is_user_named s m ≡ true → m < length s.memories
user_made s sound m is =
    sound.live m (or_right (is_in_use s m) (is_of_device s m || is_named s m) (or_right (is_of_device s m) (is_named s m) (user_named s m is)))

-- a queue has other buffers, whose memories are new
pub owns_renewed : (qs : List QueueState) (users : ℕ → Bool) (p first size n : ℕ) (kind : MemoryKind) (v : QueueState) → p < length qs →
    v.memory ≡ kind → v.buffers ≡ fresh_buffers kind size first n → ((k j m : ℕ) → HasAt qs k j m → m < first) → ((m : ℕ) → users m ≡ true → m < first) →
    Owns qs users → Owns (set qs p v) users
owns_renewed qs users p first size n kind v within is_kind buffers made named h =
    let vs : List QueueState = set qs p v in
    let fresh : List Buffer = fresh_buffers kind size first n in
    let has_in : (k j m : ℕ) → HasAt vs k j m → ((k ≡ p) × (m ≡ first + j)) ⊎ ((k ≢ p) × HasAt qs k j m) = λ k j m has.
    elim (put_at qs p v within k) as (λ _. ((k ≡ p) × (m ≡ first + j)) ⊎ ((k ≢ p) × HasAt qs k j m)) [
      | inl here ↦ inl (
        here.0,
        (fresh_memory kind size first n j m
            (ap (λ bs. (get_or bs j no_buffer).memory) (sym buffers) ∙ (ap (λ (q : QueueState). (buffer_of q j).memory) (sym here.1) ∙ has))).0,
      )
      | inr other ↦ inr (other.0, ap (λ (q : QueueState). (buffer_of q j).memory) (sym other.1) ∙ has)
    ] in
    let busy_in : (k j : ℕ) → IsBusyAt vs k j → (k ≢ p) × (buffer_at vs k j ≡ buffer_at qs k j) = λ k j busy.
    elim (put_at qs p v within k) as (λ _. (k ≢ p) × (buffer_at vs k j ≡ buffer_at qs k j)) [
      | inl here ↦ absurd (true≢false (sym (fresh_idle kind size first n j)
          ∙ (ap (λ bs. is_idle (get_or bs j no_buffer).state) (sym buffers) ∙ (ap (λ (q : QueueState). is_idle (buffer_of q j).state) (sym here.1) ∙ busy))))
      | inr other ↦ (other.0, ap (λ (q : QueueState). buffer_of q j) other.1)
    ] in
    let device_in : (k : ℕ) → k ≢ p → IsDeviceAt vs k → IsDeviceAt qs k = λ k apart is.
    ap (λ (q : QueueState). is_user_ptr q.memory) (sym (get_or-set_other qs p k v opening_queue apart)) ∙ is in
    let was_busy : (k j : ℕ) → IsBusyAt vs k j → IsBusyAt qs k j = λ k j busy. ap (λ (b : Buffer). is_idle b.state) (sym (busy_in k j busy).1) ∙ busy in
    let was_has : (k j m : ℕ) → IsBusyAt vs k j → HasAt vs k j m → HasAt qs k j m = λ k j m busy has. ap (λ (b : Buffer). b.memory) (sym (busy_in k j busy).1) ∙ has in
    record {
      has = λ k j busy. let w : (m : ℕ) × HasAt qs k j m = h.has k j (was_busy k j busy) in (w.0, ap (λ (b : Buffer). b.memory) (busy_in k j busy).1 ∙ w.1);
      busy = λ k j l i m one two a b. h.busy k j l i m (was_busy k j one) (was_busy l i two) (was_has k j m one a) (was_has l i m two b);
      frames = λ k j l i m device a b. elim (has_in k j m a) as (λ _. (k ≡ l) × (j ≡ i)) [
        | inl here ↦ elim (has_in l i m b) as (λ _. (k ≡ l) × (j ≡ i)) [
          | inl also ↦ (here.0 ∙ sym also.0, omega (arith, here.1, also.1))
          | inr other ↦ absurd (omega (arith, here.1, made l i m other.1))
        ]
        | inr other ↦ elim (has_in l i m b) as (λ _. (k ≡ l) × (j ≡ i)) [
          | inl here ↦ absurd (omega (arith, here.1, made k j m other.1))
          | inr also ↦ h.frames k j l i m (device_in k other.0 device) other.1 also.1
        ]
      ];
      names = λ k j m device a. elim (has_in k j m a) as (λ _. users m ≡ false) [
        | inl here ↦ elim (cases_Bool (users m)) as (λ _. users m ≡ false) [
          | inl is ↦ absurd (omega (arith, here.1, named m is))
          | inr not ↦ not
        ]
        | inr other ↦ h.names k j m (device_in k other.0 device) other.1
      ];
    }

-- ---- a buffer queued

-- the number is that of no other buffer that isn't Idle, and where the device made it or another queue has the device's
-- memory, of no other buffer
pub record IsFree (qs : List QueueState) (users : ℕ → Bool) (p i n : ℕ) : Type 0 where
  pub busy : (k j : ℕ) → IsBusyAt qs k j → HasAt qs k j n → (k ≡ p) × (j ≡ i)
  pub frames : (k j : ℕ) → IsDeviceAt qs k → HasAt qs k j n → (k ≡ p) × (j ≡ i)
  pub mine : IsDeviceAt qs p → (k j : ℕ) → HasAt qs k j n → (k ≡ p) × (j ≡ i)
  pub name : IsDeviceAt qs p → users n ≡ false

-- the buffer at a place, where one was changed
abbrev pub IsChanged : List QueueState → List QueueState → ℕ → ℕ → Buffer → ℕ → ℕ → Type 0
IsChanged qs vs p i b k j = ((k ≡ p) × (j ≡ i) × (buffer_at vs k j ≡ b)) ⊎ ((k ≡ p → j ≡ i → ⊥) × (buffer_at vs k j ≡ buffer_at qs k j))

pub changed_at : (qs : List QueueState) (p i : ℕ) (b : Buffer) (v : QueueState) → i < length (get_or qs p opening_queue).buffers →
    v.buffers ≡ set (get_or qs p opening_queue).buffers i b → (k j : ℕ) → IsChanged qs (set qs p v) p i b k j
changed_at qs p i b v inside buffers k j =
    let q : QueueState = get_or qs p opening_queue in
    let vs : List QueueState = set qs p v in
    elim (put_at qs p v (has_queue qs p i inside) k) as (λ _. IsChanged qs vs p i b k j) [
      | inr other ↦ inr (λ at _. other.0 at, ap (λ (r : QueueState). buffer_of r j) other.1)
      | inl here ↦
          let is : buffer_at vs k j ≡ get_or (set q.buffers i b) j no_buffer = ap (λ (r : QueueState). buffer_of r j) here.1 ∙ ap (λ bs. get_or bs j no_buffer) buffers in
          elim (cases_eq j i) as (λ _. IsChanged qs vs p i b k j) [
            | inl at ↦ inl (here.0, at, is ∙ (ap (λ n. get_or (set q.buffers i b) n no_buffer) at ∙ get_or-set_same q.buffers i b no_buffer inside))
            | inr apart ↦ inr (
              λ _ at. apart at,
              is ∙ (get_or-set_other q.buffers i j b no_buffer apart ∙ ap (λ n. buffer_at qs n j) (sym here.0)),
            )
          ]
    ]

pub kind_kept : (qs : List QueueState) (p : ℕ) (v : QueueState) → v.memory ≡ (get_or qs p opening_queue).memory → (k : ℕ) → kind_at (set qs p v) k ≡ kind_at qs k
kind_kept qs p v same k = set_keeps opening_queue (λ (q : QueueState). q.memory) qs p v same k

pub owns_queued : (qs : List QueueState) (users : ℕ → Bool) (p i n : ℕ) (b : Buffer) (v : QueueState) → i < length (get_or qs p opening_queue).buffers →
    v.memory ≡ (get_or qs p opening_queue).memory → v.buffers ≡ set (get_or qs p opening_queue).buffers i b → b.memory ≡ Some n →
    IsFree qs users p i n → Owns qs users → Owns (set qs p v) users
owns_queued qs users p i n b v inside kind buffers number free h =
    let vs : List QueueState = set qs p v in
    let at : (k j : ℕ) → IsChanged qs vs p i b k j = changed_at qs p i b v inside buffers in
    let device : (k : ℕ) → IsDeviceAt vs k → IsDeviceAt qs k = λ k is. ap is_user_ptr (sym (kind_kept qs p v kind k)) ∙ is in
    let new : (k j m : ℕ) → buffer_at vs k j ≡ b → HasAt vs k j m → m ≡ n = λ k j m is has.
    some_same m n 0 (sym has ∙ (ap (λ (c : Buffer). c.memory) is ∙ number)) in
    let old : (k j m : ℕ) → buffer_at vs k j ≡ buffer_at qs k j → HasAt vs k j m → HasAt qs k j m = λ k j m is has. ap (λ (c : Buffer). c.memory) (sym is) ∙ has in
    let was : (k j : ℕ) → buffer_at vs k j ≡ buffer_at qs k j → IsBusyAt vs k j → IsBusyAt qs k j = λ k j is busy. ap (λ (c : Buffer). is_idle c.state) (sym is) ∙ busy in
    let of : (k j m : ℕ) → buffer_at vs k j ≡ buffer_at qs k j → HasAt vs k j m → m ≡ n → HasAt qs k j n = λ k j m is has same.
    subst (λ x. HasAt qs k j x) same (old k j m is has) in
    record {
      has = λ k j busy. elim (at k j) as (λ _. (m : ℕ) × HasAt vs k j m) [
        | inl here ↦ (n, ap (λ (c : Buffer). c.memory) here.2 ∙ number)
        | inr other ↦ let w : (m : ℕ) × HasAt qs k j m = h.has k j (was k j other.1 busy) in (w.0, ap (λ (c : Buffer). c.memory) other.1 ∙ w.1)
      ];
      busy = λ k j l o m one two a c. elim (at k j) as (λ _. (k ≡ l) × (j ≡ o)) [
        | inl here ↦ elim (at l o) as (λ _. (k ≡ l) × (j ≡ o)) [
          | inl also ↦ (here.0 ∙ sym also.0, here.1 ∙ sym also.1)
          | inr other ↦
              let w : (l ≡ p) × (o ≡ i) = free.busy l o (was l o other.1 two) (of l o m other.1 c (new k j m here.2 a)) in
              (here.0 ∙ sym w.0, here.1 ∙ sym w.1)
        ]
        | inr other ↦ elim (at l o) as (λ _. (k ≡ l) × (j ≡ o)) [
          | inl here ↦
              let w : (k ≡ p) × (j ≡ i) = free.busy k j (was k j other.1 one) (of k j m other.1 a (new l o m here.2 c)) in
              (w.0 ∙ sym here.0, w.1 ∙ sym here.1)
          | inr also ↦ h.busy k j l o m (was k j other.1 one) (was l o also.1 two) (old k j m other.1 a) (old l o m also.1 c)
        ]
      ];
      frames = λ k j l o m made a c. elim (at k j) as (λ _. (k ≡ l) × (j ≡ o)) [
        | inl here ↦ elim (at l o) as (λ _. (k ≡ l) × (j ≡ o)) [
          | inl also ↦ (here.0 ∙ sym also.0, here.1 ∙ sym also.1)
          | inr other ↦
              let mine : IsDeviceAt qs p = subst (λ x. IsDeviceAt qs x) here.0 (device k made) in
              let w : (l ≡ p) × (o ≡ i) = free.mine mine l o (of l o m other.1 c (new k j m here.2 a)) in
              (here.0 ∙ sym w.0, here.1 ∙ sym w.1)
        ]
        | inr other ↦ elim (at l o) as (λ _. (k ≡ l) × (j ≡ o)) [
          | inl here ↦
              let w : (k ≡ p) × (j ≡ i) = free.frames k j (device k made) (of k j m other.1 a (new l o m here.2 c)) in
              (w.0 ∙ sym here.0, w.1 ∙ sym here.1)
          | inr also ↦ h.frames k j l o m (device k made) (old k j m other.1 a) (old l o m also.1 c)
        ]
      ];
      names = λ k j m made a. elim (at k j) as (λ _. users m ≡ false) [
        | inl here ↦
            let mine : IsDeviceAt qs p = subst (λ x. IsDeviceAt qs x) here.0 (device k made) in
            subst (λ x. users x ≡ false) (sym (new k j m here.2 a)) (free.name mine)
        | inr other ↦ h.names k j m (device k made) (old k j m other.1 a)
      ];
    }
