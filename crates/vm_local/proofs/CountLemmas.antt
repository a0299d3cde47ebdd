-- How often lists have a buffer, and what the buffer's state tells of it.
use Rattle.std.proofs.Common.{◌≡◌, ◌≢◌, inl, inr, ℕ, zero, suc, ◌+◌, ◌<◌, Bool, true, false, not, ◌&&◌, ◌==◌, cond, List, [], ◌∷◌, ◌++◌, length, get_or, set, drop, filter, slice_index, refl, sym, ap, ◌∙◌, subst, arith, get_or-set_same, get_or-set_other}
use Rattle.std.proofs.lemmas.Bool.{false≢true}
use Rattle.std.proofs.lemmas.Bool.Decides.{eqb_tells}
use Rattle.std.proofs.lemmas.List.Sums.{sum_by-cons, sum_by-append, sum_by_push}
use Rattle.vm_local.specs.declared.buffer.Buffer.{Buffer}
use Rattle.vm_local.specs.declared.buffer.BufferState.{BufferState}
use Rattle.vm_local.specs.declared.buffer.BufferState.TheVariants.{Idle, Queued, Owed, Done}
use Rattle.vm_local.specs.declared.owed.Owed.{Owed as OwedEntry}
use Rattle.vm_local.specs.State.{QueueState, buffer_of, no_buffer, with_buffer}
use Rattle.vm_local.specs.Kinds.{is_idle, is_done}
use Rattle.vm_local.specs.Queue.{is_empty, made_idle, taken_back, first_done}
use Rattle.vm_local.specs.Steps.{head, taken_buffer, taken, with_done}
use Rattle.vm_local.specs.Listed.{is_queued, is_with_device, is_index, times, times_owed, once, IsInPlace}

-- ---- counts

pub times_cons : (x : ℕ) (xs : List ℕ) (i : ℕ) → times (x ∷ xs) i ≡ once (x == i) + times xs i
times_cons x xs i = sum_by-cons (λ j. cond (j == i) 1 0) x xs

pub times_push : (xs : List ℕ) (x i : ℕ) → times (xs ++ x ∷ []) i ≡ times xs i + once (x == i)
times_push xs x i = sum_by_push (λ j. cond (j == i) 1 0) xs x

pub times_head : (xs : List ℕ) (i : ℕ) → is_empty xs ≡ false → times xs i ≡ once (slice_index xs 0 == i) + times (drop 1 xs) i
times_head [] i h = absurd (false≢true (sym h))
times_head (x ∷ xs) i h = times_cons x xs i

pub owed_cons : (o : OwedEntry) (rest : List OwedEntry) (t i : ℕ) →
    times_owed (o ∷ rest) t i ≡ once (o.queue == t && is_index o.item i) + times_owed rest t i
owed_cons o rest t i = sum_by-cons (λ x. cond (x.queue == t && is_index x.item i) 1 0) o rest

pub owed_append : (xs ys : List OwedEntry) (t i : ℕ) → times_owed (xs ++ ys) t i ≡ times_owed xs t i + times_owed ys t i
owed_append xs ys t i = sum_by-append (λ x. cond (x.queue == t && is_index x.item i) 1 0) xs ys

-- what is owed of other queues alone
abbrev others : List OwedEntry → ℕ → List OwedEntry
others owed t = filter (λ o. not (o.queue == t)) owed

others_drop : (o : OwedEntry) (rest : List OwedEntry) (t : ℕ) → (o.queue == t) ≡ true → others (o ∷ rest) t ≡ others rest t
others_drop o rest t h = rw h refl

others_keep : (o : OwedEntry) (rest : List OwedEntry) (t : ℕ) → (o.queue == t) ≡ false → others (o ∷ rest) t ≡ o ∷ others rest t
others_keep o rest t h = rw h refl

pub never_at : (q t : ℕ) (b : Bool) → (q == t) ≡ false → once (q == t && b) ≡ 0
never_at q t b h = rw h refl

pub none_of_queue : (owed : List OwedEntry) (t i : ℕ) → times_owed (others owed t) t i ≡ 0
none_of_queue [] t i = refl
none_of_queue (o ∷ rest) t i =
    elim (eqb_tells o.queue t) as (λ _. times_owed (others (o ∷ rest) t) t i ≡ 0) [
      | inl is ↦ ap (λ xs. times_owed xs t i) (others_drop o rest t is.0) ∙ none_of_queue rest t i
      | inr not ↦ ap (λ xs. times_owed xs t i) (others_keep o rest t not.0) ∙ (owed_cons o (others rest t) t i ∙
          omega (arith, never_at o.queue t (is_index o.item i) not.0, none_of_queue rest t i))
    ]

pub same_of_others : (owed : List OwedEntry) (t u i : ℕ) → u ≢ t → times_owed (others owed t) u i ≡ times_owed owed u i
same_of_others [] t u i apart = refl
same_of_others (o ∷ rest) t u i apart =
    let rec : times_owed (others rest t) u i ≡ times_owed rest u i = same_of_others rest t u i apart in
    let all : times_owed (o ∷ rest) u i ≡ once (o.queue == u && is_index o.item i) + times_owed rest u i = owed_cons o rest u i in
    elim (eqb_tells o.queue t) as (λ _. times_owed (others (o ∷ rest) t) u i ≡ times_owed (o ∷ rest) u i) [
      | inl is ↦
          let none : (o.queue == u) ≡ false = elim (eqb_tells o.queue u) as (λ _. (o.queue == u) ≡ false) [
            | inl same ↦ absurd (apart (sym same.1 ∙ is.1))
            | inr not ↦ not.0
          ] in
          ap (λ xs. times_owed xs u i) (others_drop o rest t is.0) ∙ omega (arith, rec, all, never_at o.queue u (is_index o.item i) none)
      | inr not ↦ ap (λ xs. times_owed xs u i) (others_keep o rest t not.0) ∙ (owed_cons o (others rest t) u i ∙
          (ap (λ n. once (o.queue == u && is_index o.item i) + n) rec ∙ sym all))
    ]

-- ---- states, by how often the lists have the buffer

pub queued_once : (st : BufferState) (n : ℕ) → 1 + n ≡ once (is_queued st) → (st ≡ Queued) × (n ≡ 0)
queued_once Idle n h = absurd (omega (arith, h))
queued_once Queued n h = (refl, omega (arith, h))
queued_once Owed n h = absurd (omega (arith, h))
queued_once Done n h = absurd (omega (arith, h))

pub owed_once : (st : BufferState) (n : ℕ) → 1 + n ≡ once (is_with_device st) → (st ≡ Owed) × (n ≡ 0)
owed_once Idle n h = absurd (omega (arith, h))
owed_once Queued n h = absurd (omega (arith, h))
owed_once Owed n h = (refl, omega (arith, h))
owed_once Done n h = absurd (omega (arith, h))

pub done_once : (st : BufferState) (n : ℕ) → 1 + n ≡ once (is_done st) → (st ≡ Done) × (n ≡ 0)
done_once Idle n h = absurd (omega (arith, h))
done_once Queued n h = absurd (omega (arith, h))
done_once Owed n h = absurd (omega (arith, h))
done_once Done n h = (refl, omega (arith, h))

pub idle_is : (st : BufferState) → is_idle st ≡ true → st ≡ Idle
idle_is Idle h = refl
idle_is Queued h = absurd (false≢true h)
idle_is Owed h = absurd (false≢true h)
idle_is Done h = absurd (false≢true h)

-- a buffer that isn't Idle is one of the list's
pub within_of : (bs : List Buffer) (i : ℕ) → is_idle (get_or bs i no_buffer).state ≡ false → i < length bs
within_of [] i h = absurd (false≢true (sym h))
within_of (b ∷ bs) zero h = omega arith
within_of (b ∷ bs) (suc i) h = omega (arith, within_of bs i h)

-- the buffer stands in the lists as one with this state
abbrev pub StandsAs : QueueState → ℕ → ℕ → BufferState → Type 0
StandsAs q n i st = (times q.queued i ≡ once (is_queued st)) × (n ≡ once (is_with_device st)) × (times q.done i ≡ once (is_done st))

pub as_known : (q : QueueState) (n i : ℕ) (st : BufferState) → (buffer_of q i).state ≡ st → IsInPlace q n i → StandsAs q n i st
as_known q n i st is h = subst (StandsAs q n i) is h

pub as_shown : (q : QueueState) (n i : ℕ) (st : BufferState) → (buffer_of q i).state ≡ st → StandsAs q n i st → IsInPlace q n i
as_shown q n i st is h = subst (StandsAs q n i) (sym is) h

-- ---- a queue of whose buffers one changes

-- queued: it was Idle
pub place_queued : (q : QueueState) (n i : ℕ) (b : Buffer) → i < length q.buffers → (buffer_of q i).state ≡ Idle → b.state ≡ Queued →
    (j : ℕ) → IsInPlace q n j → IsInPlace (record (with_buffer q i b) { queued = q.queued ++ i ∷ [] }) n j
place_queued q n i b within idle queued j h =
    let v : QueueState = record (with_buffer q i b) { queued = q.queued ++ i ∷ [] } in
    let more : times v.queued j ≡ times q.queued j + once (i == j) = times_push q.queued i j in
    elim (eqb_tells i j) as (λ _. IsInPlace v n j) [
      | inl is ↦
          let P : ℕ → Type 0 = λ k. (buffer_of q k).state ≡ Idle in
          let was : StandsAs q n j Idle = as_known q n j Idle (subst P is.1 idle) h in
          let Q : ℕ → Type 0 = λ k. (buffer_of v k).state ≡ Queued in
          let now : (buffer_of v i).state ≡ Queued = ap (λ (c : Buffer). c.state) (get_or-set_same q.buffers i b no_buffer within) ∙ queued in
          let one : once (i == j) ≡ 1 = ap once is.0 in
          as_shown v n j Queued (subst Q is.1 now) (omega (arith, more, was.0, one), was.1, was.2)
      | inr not ↦
          let same : buffer_of v j ≡ buffer_of q j = get_or-set_other q.buffers i j b no_buffer (λ e. not.1 (sym e)) in
          let none : once (i == j) ≡ 0 = ap once not.0 in
          as_shown v n j (buffer_of q j).state (ap (λ (c : Buffer). c.state) same) (omega (arith, more, none, h.0), h.1, h.2)
    ]

-- taken back: it was Done
pub place_taken_back : (q : QueueState) (n : ℕ) → is_empty q.done ≡ false → (j : ℕ) → IsInPlace q n j → IsInPlace (taken_back q) n j
place_taken_back q n some j h =
    let v : QueueState = taken_back q in
    let f : ℕ = first_done q in
    let less : times q.done j ≡ once (f == j) + times v.done j = times_head q.done j some in
    elim (eqb_tells f j) as (λ _. IsInPlace v n j) [
      | inl is ↦
          let one : once (f == j) ≡ 1 = ap once is.0 in
          let was : ((buffer_of q j).state ≡ Done) × (times v.done j ≡ 0) =
          done_once (buffer_of q j).state (times v.done j) (omega (arith, less, one, h.2)) in
          let st : StandsAs q n j Done = as_known q n j Done was.0 h in
          let Q : ℕ → Type 0 = λ k. (get_or (set q.buffers k (made_idle (buffer_of q k))) j no_buffer).state ≡ Idle in
          let now : (get_or (set q.buffers j (made_idle (buffer_of q j))) j no_buffer).state ≡ Idle =
          ap (λ (c : Buffer). c.state) (get_or-set_same q.buffers j (made_idle (buffer_of q j)) no_buffer (within_of q.buffers j (ap is_idle was.0))) in
          as_shown v n j Idle (subst Q (sym is.1) now) (st.0, st.1, was.1)
      | inr not ↦
          let same : buffer_of v j ≡ buffer_of q j = get_or-set_other q.buffers f j (made_idle (buffer_of q f)) no_buffer (λ e. not.1 (sym e)) in
          let none : once (f == j) ≡ 0 = ap once not.0 in
          let kept : times v.done j ≡ times q.done j = omega (arith, less, none) in
          as_shown v n j (buffer_of q j).state (ap (λ (c : Buffer). c.state) same) (h.0, h.1, kept ∙ h.2)
    ]

-- taken by a frame: it was Queued
pub place_taken : (good : Bool) (ts : ℕ) (q : QueueState) (n : ℕ) → is_empty q.queued ≡ false → (j : ℕ) → IsInPlace q n j →
    IsInPlace (taken good ts q) (n + once (head q == j)) j
place_taken good ts q n some j h =
    let v : QueueState = taken good ts q in
    let f : ℕ = head q in
    let less : times q.queued j ≡ once (f == j) + times v.queued j = times_head q.queued j some in
    elim (eqb_tells f j) as (λ _. IsInPlace v (n + once (f == j)) j) [
      | inl is ↦
          let one : once (f == j) ≡ 1 = ap once is.0 in
          let was : ((buffer_of q j).state ≡ Queued) × (times v.queued j ≡ 0) =
          queued_once (buffer_of q j).state (times v.queued j) (omega (arith, less, one, h.0)) in
          let st : StandsAs q n j Queued = as_known q n j Queued was.0 h in
          let Q : ℕ → Type 0 = λ k. (get_or (set q.buffers k (taken_buffer good q.next_sequence ts (buffer_of q k))) j no_buffer).state ≡ Owed in
          let now : (get_or (set q.buffers j (taken_buffer good q.next_sequence ts (buffer_of q j))) j no_buffer).state ≡ Owed =
          ap (λ (c : Buffer). c.state) (get_or-set_same q.buffers j (taken_buffer good q.next_sequence ts (buffer_of q j)) no_buffer (within_of q.buffers j (ap is_idle was.0))) in
          as_shown v (n + once (f == j)) j Owed (subst Q (sym is.1) now) (was.1, omega (arith, one, st.1), st.2)
      | inr not ↦
          let same : buffer_of v j ≡ buffer_of q j = get_or-set_other q.buffers f j (taken_buffer good q.next_sequence ts (buffer_of q f)) no_buffer (λ e. not.1 (sym e)) in
          let none : once (f == j) ≡ 0 = ap once not.0 in
          let kept : times v.queued j ≡ times q.queued j = omega (arith, less, none) in
          as_shown v (n + once (f == j)) j (buffer_of q j).state (ap (λ (c : Buffer). c.state) same) (kept ∙ h.0, omega (arith, none, h.1), h.2)
    ]

-- given to the guest: it was owed
pub place_given : (q : QueueState) (n i rest : ℕ) (j : ℕ) → n ≡ once (i == j) + rest → IsInPlace q n j → IsInPlace (with_done q i) rest j
place_given q n i rest j less h =
    let v : QueueState = with_done q i in
    let more : times v.done j ≡ times q.done j + once (i == j) = times_push q.done i j in
    elim (eqb_tells i j) as (λ _. IsInPlace v rest j) [
      | inl is ↦
          let one : once (i == j) ≡ 1 = ap once is.0 in
          let was : ((buffer_of q j).state ≡ Owed) × (rest ≡ 0) =
          owed_once (buffer_of q j).state rest (omega (arith, less, one, h.1)) in
          let st : StandsAs q n j Owed = as_known q n j Owed was.0 h in
          let Q : ℕ → Type 0 = λ k. (get_or (set q.buffers k (record (buffer_of q k) { state = Done })) j no_buffer).state ≡ Done in
          let now : (get_or (set q.buffers j (record (buffer_of q j) { state = Done })) j no_buffer).state ≡ Done =
          ap (λ (c : Buffer). c.state) (get_or-set_same q.buffers j (record (buffer_of q j) { state = Done }) no_buffer (within_of q.buffers j (ap is_idle was.0))) in
          as_shown v rest j Done (subst Q (sym is.1) now) (st.0, was.1, omega (arith, more, st.2, one))
      | inr not ↦
          let same : buffer_of v j ≡ buffer_of q j = get_or-set_other q.buffers i j (record (buffer_of q i) { state = Done }) no_buffer (λ e. not.1 (sym e)) in
          let none : once (i == j) ≡ 0 = ap once not.0 in
          let kept : rest ≡ n = omega (arith, less, none) in
          as_shown v rest j (buffer_of q j).state (ap (λ (c : Buffer). c.state) same) (h.0, kept ∙ h.1, omega (arith, more, none, h.2))
    ]
