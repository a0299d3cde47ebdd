-- The buffers of a handle by their places, and what the tests of memories tell of them.
use Rattle.std.proofs.Common.{◌≡◌, inl, inr, ℕ, zero, suc, ◌<◌, Bool, true, false, not, ◌&&◌, ◌||◌, List, [], ◌∷◌, length, get_or, set, map, Option, Some, None, refl, sym, ap, ◌∙◌, subst, arith, eq-eqb}
use Rattle.std.specs.List.{list_any}
use Rattle.std.proofs.lemmas.Bool.{false≢true, eqb-true, or_cases, and_parts, and_from, not-true}
use Rattle.std.proofs.lemmas.Option.{none-some}
use Rattle.vm_local.specs.declared.bound.MemoryKind.{MemoryKind}
use Rattle.vm_local.specs.declared.buffer.Buffer.{Buffer}
use Rattle.vm_local.specs.declared.buffer.BufferState.{BufferState}
use Rattle.vm_local.specs.declared.buffer.BufferState.TheVariants.{Idle, Queued, Owed, Done}
use Rattle.vm_local.specs.State.{QueueState, LocalState, opening_queue, no_buffer, buffer_of}
use Rattle.vm_local.specs.Kinds.{is_idle, is_away}
use Rattle.vm_local.specs.Memory.{is_just, some_buffer, is_lent, is_in_use}
use Rattle.vm_local.specs.Queue.{is_user_ptr}
use Rattle.vm_local.specs.Live.{is_of_device}
use Rattle.vm_local.proofs.KeptLemmas.{some_same}

-- ---- tests

pub or_left : (a b : Bool) → a ≡ true → (a || b) ≡ true
or_left true b is = refl
or_left false b is = absurd (false≢true is)

pub or_right : (a b : Bool) → b ≡ true → (a || b) ≡ true
or_right true b is = refl
or_right false b is = is

-- two tests that imply each other
pub same_test : (a b : Bool) → (a ≡ true → b ≡ true) → (b ≡ true → a ≡ true) → a ≡ b
same_test true b there back = sym (there refl)
same_test false true there back = back refl
same_test false false there back = refl

-- a test that implies one that fails
pub fails : (a b : Bool) → (a ≡ true → b ≡ true) → b ≡ false → a ≡ false
fails true b implies not = absurd (false≢true (sym not ∙ implies refl))
fails false b implies not = refl

pub just_is : (o : Option ℕ) (m : ℕ) → is_just o m ≡ true → o ≡ Some m
just_is None m is = absurd (false≢true is)
just_is (Some k) m is = ap (λ n. Some n) (eqb-true k m is)

pub just_from : (o : Option ℕ) (m : ℕ) → o ≡ Some m → is_just o m ≡ true
just_from None m is = absurd (none-some m is)
just_from (Some k) m is = eq-eqb k m (some_same k m k is)

-- an element that passes, of a list of which one does
pub any_at : {A : Type 0} (test : A → Bool) (d : A) (xs : List A) → list_any test xs ≡ true → (k : ℕ) × (test (get_or xs k d) ≡ true)
any_at test d [] some = absurd (false≢true some)
any_at test d (x ∷ xs) some =
    elim (or_cases (test x) (list_any test xs) some) as (λ _. (k : ℕ) × (test (get_or (x ∷ xs) k d) ≡ true)) [
      | inl is ↦ (zero, is)
      | inr rest ↦ let w : (k : ℕ) × (test (get_or xs k d) ≡ true) = any_at test d xs rest in (suc w.0, w.1)
    ]

pub any_from : {A : Type 0} (test : A → Bool) (d : A) → test d ≡ false → (xs : List A) (k : ℕ) → test (get_or xs k d) ≡ true → list_any test xs ≡ true
any_from test d bare [] k is = absurd (false≢true (sym bare ∙ is))
any_from test d bare (x ∷ xs) zero is = or_left (test x) (list_any test xs) is
any_from test d bare (x ∷ xs) (suc k) is = or_right (test x) (list_any test xs) (any_from test d bare xs k is)

-- ---- elements that are related to those of a list which is changed

pub set_relates : {A : Type 0} (R : A → A → Type 0) → ((x : A) → R x x) → (d : A) (xs : List A) (i : ℕ) (y : A) → R (get_or xs i d) y →
    (k : ℕ) → R (get_or xs k d) (get_or (set xs i y) k d)
set_relates R same d [] i y h k = same d
set_relates R same d (x ∷ xs) zero y h zero = h
set_relates R same d (x ∷ xs) zero y h (suc k) = same (get_or xs k d)
set_relates R same d (x ∷ xs) (suc i) y h zero = same x
set_relates R same d (x ∷ xs) (suc i) y h (suc k) = set_relates R same d xs i y h k

pub map_relates : {A : Type 0} (R : A → A → Type 0) (f : A → A) (d : A) → R d d → (xs : List A) →
    ((k : ℕ) → k < length xs → R (get_or xs k d) (f (get_or xs k d))) → (k : ℕ) → R (get_or xs k d) (get_or (map f xs) k d)
map_relates R f d bare [] h k = bare
map_relates R f d bare (x ∷ xs) h zero = h zero (omega arith)
map_relates R f d bare (x ∷ xs) h (suc k) = map_relates R f d bare xs (λ j within. h (suc j) (omega (arith, within))) k

-- ---- buffers by their places

-- the buffer with this index of the p-th queue
abbrev pub buffer_at : List QueueState → ℕ → ℕ → Buffer
buffer_at qs p i = buffer_of (get_or qs p opening_queue) i

abbrev pub kind_at : List QueueState → ℕ → MemoryKind
kind_at qs p = (get_or qs p opening_queue).memory

-- the memory of the buffer at a place has this number
abbrev pub HasAt : List QueueState → ℕ → ℕ → ℕ → Type 0
HasAt qs p i m = (buffer_at qs p i).memory ≡ Some m

-- a buffer passes the test, and so one at some place
pub buffer_some : (test : Buffer → Bool) (s : LocalState) → some_buffer test s ≡ true → (p : ℕ) × (i : ℕ) × (test (buffer_at s.queues p i) ≡ true)
buffer_some test s some =
    let w : (p : ℕ) × (list_any test (get_or s.queues p opening_queue).buffers ≡ true) =
    any_at (λ (q : QueueState). list_any test q.buffers) opening_queue s.queues some in
    let v : (i : ℕ) × (test (buffer_at s.queues w.0 i) ≡ true) = any_at test no_buffer (get_or s.queues w.0 opening_queue).buffers w.1 in
    (w.0, v.0, v.1)

pub buffer_from : (test : Buffer → Bool) → test no_buffer ≡ false → (s : LocalState) (p i : ℕ) → test (buffer_at s.queues p i) ≡ true → some_buffer test s ≡ true
buffer_from test bare s p i is =
    any_from (λ (q : QueueState). list_any test q.buffers) opening_queue refl s.queues p
    (any_from test no_buffer bare (get_or s.queues p opening_queue).buffers i is)

-- a memory that is lent, by its buffer
pub lent_at : (s : LocalState) (m : ℕ) → is_lent s m ≡ true → (p : ℕ) × (i : ℕ) × HasAt s.queues p i m × (is_away (buffer_at s.queues p i).state ≡ true)
lent_at s m is =
    let test : Buffer → Bool = λ b. is_just b.memory m && is_away b.state in
    let w : (p : ℕ) × (i : ℕ) × (test (buffer_at s.queues p i) ≡ true) = buffer_some test s is in
    let b : Buffer = buffer_at s.queues w.0 w.1 in
    let both : (is_just b.memory m ≡ true) × (is_away b.state ≡ true) = and_parts (is_just b.memory m) (is_away b.state) w.2 in
    (w.0, w.1, just_is b.memory m both.0, both.1)

pub lent_from : (s : LocalState) (p i m : ℕ) → HasAt s.queues p i m → is_away (buffer_at s.queues p i).state ≡ true → is_lent s m ≡ true
lent_from s p i m has away =
    let b : Buffer = buffer_at s.queues p i in
    buffer_from (λ b. is_just b.memory m && is_away b.state) refl s p i (and_from (is_just b.memory m) (is_away b.state) (just_from b.memory m has) away)

-- a memory that is in use
pub used_at : (s : LocalState) (m : ℕ) → is_in_use s m ≡ true → (p : ℕ) × (i : ℕ) × HasAt s.queues p i m × (is_idle (buffer_at s.queues p i).state ≡ false)
used_at s m is =
    let test : Buffer → Bool = λ b. is_just b.memory m && not (is_idle b.state) in
    let w : (p : ℕ) × (i : ℕ) × (test (buffer_at s.queues p i) ≡ true) = buffer_some test s is in
    let b : Buffer = buffer_at s.queues w.0 w.1 in
    let both : (is_just b.memory m ≡ true) × (not (is_idle b.state) ≡ true) = and_parts (is_just b.memory m) (not (is_idle b.state)) w.2 in
    (w.0, w.1, just_is b.memory m both.0, not-true (is_idle b.state) both.1)

pub used_from : (s : LocalState) (p i m : ℕ) → HasAt s.queues p i m → is_idle (buffer_at s.queues p i).state ≡ false → is_in_use s m ≡ true
used_from s p i m has busy =
    let b : Buffer = buffer_at s.queues p i in
    buffer_from (λ b. is_just b.memory m && not (is_idle b.state)) refl s p i
    (and_from (is_just b.memory m) (not (is_idle b.state)) (just_from b.memory m has) (ap not busy))

-- a buffer's memory that the device made
pub device_at : (s : LocalState) (m : ℕ) → is_of_device s m ≡ true → (p : ℕ) × (i : ℕ) × HasAt s.queues p i m × (is_user_ptr (kind_at s.queues p) ≡ false)
device_at s m is =
    let test : Buffer → Bool = λ b. is_just b.memory m in
    let w : (p : ℕ) × ((not (is_user_ptr (kind_at s.queues p)) && list_any test (get_or s.queues p opening_queue).buffers) ≡ true) =
    any_at (λ (q : QueueState). not (is_user_ptr q.memory) && list_any test q.buffers) opening_queue s.queues is in
    let both : (not (is_user_ptr (kind_at s.queues w.0)) ≡ true) × (list_any test (get_or s.queues w.0 opening_queue).buffers ≡ true) =
    and_parts (not (is_user_ptr (kind_at s.queues w.0))) (list_any test (get_or s.queues w.0 opening_queue).buffers) w.1 in
    let v : (i : ℕ) × (test (buffer_at s.queues w.0 i) ≡ true) = any_at test no_buffer (get_or s.queues w.0 opening_queue).buffers both.1 in
    (w.0, v.0, just_is (buffer_at s.queues w.0 v.0).memory m v.1, not-true (is_user_ptr (kind_at s.queues w.0)) both.0)

pub device_from : (s : LocalState) (p i m : ℕ) → HasAt s.queues p i m → is_user_ptr (kind_at s.queues p) ≡ false → is_of_device s m ≡ true
device_from s p i m has made =
    let test : Buffer → Bool = λ b. is_just b.memory m in
    let q : QueueState = get_or s.queues p opening_queue in
    any_from (λ (q : QueueState). not (is_user_ptr q.memory) && list_any test q.buffers) opening_queue refl s.queues p
    (and_from (not (is_user_ptr q.memory)) (list_any test q.buffers) (ap not made)
    (any_from test no_buffer refl q.buffers i (just_from (buffer_at s.queues p i).memory m has)))

-- a buffer that is away isn't Idle
pub away_busy : (st : BufferState) → is_away st ≡ true → is_idle st ≡ false
away_busy Idle away = absurd (false≢true away)
away_busy Queued away = refl
away_busy Owed away = refl
away_busy Done away = absurd (false≢true away)

pub lent_used : (s : LocalState) (m : ℕ) → is_lent s m ≡ true → is_in_use s m ≡ true
lent_used s m is =
    let w : (p : ℕ) × (i : ℕ) × HasAt s.queues p i m × (is_away (buffer_at s.queues p i).state ≡ true) = lent_at s m is in
    used_from s w.0 w.1 m w.2 (away_busy (buffer_at s.queues w.0 w.1).state w.3)

-- ---- queues of which buffers have become less

-- the buffer has the memory that it had; it is Idle where it was, and away only where it was
pub record IsLess (b c : Buffer) : Type 0 where
  pub memory : c.memory ≡ b.memory
  pub idle : is_idle b.state ≡ true → is_idle c.state ≡ true
  pub away : is_away c.state ≡ true → is_away b.state ≡ true

-- and it is still away where it was
pub record IsStill (b c : Buffer) : Type 0 where
  pub less : IsLess b c
  pub back : is_away b.state ≡ true → is_away c.state ≡ true

-- a queue of the same kind of memory, with related buffers
pub record QueueRelates (R : Buffer → Buffer → Type 0) (q v : QueueState) : Type 0 where
  pub kind : v.memory ≡ q.memory
  pub buffers : (i : ℕ) → R (buffer_of q i) (buffer_of v i)

abbrev pub Relates : (Buffer → Buffer → Type 0) → List QueueState → List QueueState → Type 0
Relates R qs vs = (p : ℕ) → QueueRelates R (get_or qs p opening_queue) (get_or vs p opening_queue)

pub less_same : (b : Buffer) → IsLess b b
less_same b = record { memory = refl; idle = λ is. is; away = λ is. is }

pub still_same : (b : Buffer) → IsStill b b
still_same b = record { less = less_same b; back = λ is. is }

pub still_then : (b c d : Buffer) → IsStill b c → IsStill c d → IsStill b d
still_then b c d h k = record {
  less = record {
    memory = k.less.memory ∙ h.less.memory;
    idle = λ is. k.less.idle (h.less.idle is);
    away = λ is. h.less.away (k.less.away is);
  };
  back = λ is. k.back (h.back is);
}

pub queue_same : (R : Buffer → Buffer → Type 0) → ((b : Buffer) → R b b) → (q : QueueState) → QueueRelates R q q
queue_same R same q = record { kind = refl; buffers = λ i. same (buffer_of q i) }

pub relates_less : (qs vs : List QueueState) → Relates IsStill qs vs → Relates IsLess qs vs
relates_less qs vs h p = record { kind = (h p).kind; buffers = λ i. ((h p).buffers i).less }

pub relates_then : (qs rs vs : List QueueState) → Relates IsStill qs rs → Relates IsStill rs vs → Relates IsStill qs vs
relates_then qs rs vs h k p = record {
  kind = (k p).kind ∙ (h p).kind;
  buffers = λ i. still_then (buffer_at qs p i) (buffer_at rs p i) (buffer_at vs p i) ((h p).buffers i) ((k p).buffers i);
}

-- one queue is changed
pub relates_set : (R : Buffer → Buffer → Type 0) → ((b : Buffer) → R b b) → (qs : List QueueState) (p : ℕ) (v : QueueState) →
    QueueRelates R (get_or qs p opening_queue) v → Relates R qs (set qs p v)
relates_set R same qs p v h = set_relates (QueueRelates R) (queue_same R same) opening_queue qs p v h

-- one buffer of a queue is changed
pub relates_buffer : (R : Buffer → Buffer → Type 0) → ((b : Buffer) → R b b) → (q v : QueueState) (i : ℕ) (b : Buffer) →
    v.memory ≡ q.memory → v.buffers ≡ set q.buffers i b → R (buffer_of q i) b → QueueRelates R q v
relates_buffer R same q v i b kind buffers h = record {
  kind = kind;
  buffers = λ k.
      let P : List Buffer → Type 0 = λ bs. R (buffer_of q k) (get_or bs k no_buffer) in
      subst P (sym buffers) (set_relates R same no_buffer q.buffers i b h k);
}

-- no buffer is changed
pub relates_kept : (R : Buffer → Buffer → Type 0) → ((b : Buffer) → R b b) → (q v : QueueState) → v.memory ≡ q.memory → v.buffers ≡ q.buffers → QueueRelates R q v
relates_kept R same q v kind buffers = record {
  kind = kind;
  buffers = λ k. let P : List Buffer → Type 0 = λ bs. R (buffer_of q k) (get_or bs k no_buffer) in subst P (sym buffers) (same (buffer_of q k));
}

-- ---- what it tells of memories

pub has_less : (qs vs : List QueueState) → Relates IsLess qs vs → (p i m : ℕ) → HasAt vs p i m → HasAt qs p i m
has_less qs vs less p i m has = sym ((less p).buffers i).memory ∙ has

pub busy_less : (b c : Buffer) → IsLess b c → is_idle c.state ≡ false → is_idle b.state ≡ false
busy_less b c less busy = fails (is_idle b.state) (is_idle c.state) less.idle busy

pub lent_less : (s t : LocalState) → Relates IsLess s.queues t.queues → (m : ℕ) → is_lent t m ≡ true → is_lent s m ≡ true
lent_less s t less m is =
    let w : (p : ℕ) × (i : ℕ) × HasAt t.queues p i m × (is_away (buffer_at t.queues p i).state ≡ true) = lent_at t m is in
    lent_from s w.0 w.1 m (has_less s.queues t.queues less w.0 w.1 m w.2) (((less w.0).buffers w.1).away w.3)

pub lent_still : (s t : LocalState) → Relates IsStill s.queues t.queues → (m : ℕ) → is_lent t m ≡ is_lent s m
lent_still s t still m =
    same_test (is_lent t m) (is_lent s m) (lent_less s t (relates_less s.queues t.queues still) m) (λ is.
    let w : (p : ℕ) × (i : ℕ) × HasAt s.queues p i m × (is_away (buffer_at s.queues p i).state ≡ true) = lent_at s m is in
    lent_from t w.0 w.1 m (((still w.0).buffers w.1).less.memory ∙ w.2) (((still w.0).buffers w.1).back w.3))

pub used_less : (s t : LocalState) → Relates IsLess s.queues t.queues → (m : ℕ) → is_in_use t m ≡ true → is_in_use s m ≡ true
used_less s t less m is =
    let w : (p : ℕ) × (i : ℕ) × HasAt t.queues p i m × (is_idle (buffer_at t.queues p i).state ≡ false) = used_at t m is in
    used_from s w.0 w.1 m (has_less s.queues t.queues less w.0 w.1 m w.2)
    (busy_less (buffer_at s.queues w.0 w.1) (buffer_at t.queues w.0 w.1) ((less w.0).buffers w.1) w.3)

pub device_less : (s t : LocalState) → Relates IsLess s.queues t.queues → (m : ℕ) → is_of_device t m ≡ true → is_of_device s m ≡ true
device_less s t less m is =
    let w : (p : ℕ) × (i : ℕ) × HasAt t.queues p i m × (is_user_ptr (kind_at t.queues p) ≡ false) = device_at t m is in
    device_from s w.0 w.1 m (has_less s.queues t.queues less w.0 w.1 m w.2) (ap is_user_ptr (sym (less w.0).kind) ∙ w.3)
