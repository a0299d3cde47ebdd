-- The lists of a queue are no longer than its buffers are many.
use Rattle.std.proofs.Common.{◌≡◌, inl, inr, ℕ, zero, suc, ◌+◌, ◌<◌, ◌≤◌, Bool, true, false, not, ◌==◌, if◌then◌else◌, List, [], ◌∷◌, ◌++◌, length, filter, refl, ap, ◌∙◌, subst, arith, eq-eqb, zero-le, length-append, length-set}
use Rattle.std.proofs.lemmas.Bool.Decides.{eqb_tells}
use Rattle.std.proofs.lemmas.List.{get_or_past}
use Rattle.std.proofs.lemmas.List.Filters.{length-filter_both}
use Rattle.std.proofs.lemmas.List.Sums.{length-filter}
use Rattle.vm_local.specs.declared.buffer.Buffer.{Buffer}
use Rattle.vm_local.specs.declared.buffer.BufferState.TheVariants.{Idle, Queued, Done}
use Rattle.vm_local.specs.State.{QueueState, no_buffer, buffer_of, with_buffer}
use Rattle.vm_local.specs.Kinds.{is_done}
use Rattle.vm_local.specs.Steps.{with_done}
use Rattle.vm_local.specs.Listed.{is_queued, times, once, IsInPlace}
use Rattle.vm_local.proofs.CountLemmas.{times_cons, place_queued, place_given}

-- ---- a list of numbers below another, each once

abbrev others : List ℕ → ℕ → List ℕ
others xs n = filter (λ x. not (x == n)) xs

all_counted : (xs : List ℕ) (n : ℕ) → times xs n + length (others xs n) ≡ length xs
all_counted xs n =
    let parts : length (filter (λ x. x == n) xs) + length (others xs n) ≡ length xs =
    length-filter_both (λ x. x == n) (λ x. not (x == n)) (λ x. refl) xs in
    omega (arith, parts, length-filter (λ x. x == n) xs)

others_cons : (x : ℕ) (xs : List ℕ) (n : ℕ) (b : Bool) → (x == n) ≡ b → others (x ∷ xs) n ≡ (if b then others xs n else x ∷ others xs n)
others_cons x xs n true h = rw h refl
others_cons x xs n false h = rw h refl

no_more : (xs : List ℕ) (n i : ℕ) → times (others xs n) i ≤ times xs i
no_more [] n i = zero-le
no_more (x ∷ xs) n i =
    let rest : times (others xs n) i ≤ times xs i = no_more xs n i in
    elim (eqb_tells x n) as (λ _. times (others (x ∷ xs) n) i ≤ times (x ∷ xs) i) [
      | inl is ↦ rw (others_cons x xs n true is.0) (omega (arith, times_cons x xs i, rest))
      | inr never ↦ rw (others_cons x xs n false never.0) (omega (arith, times_cons x xs i, times_cons x (others xs n) i, rest))
    ]

none_left : (xs : List ℕ) (n : ℕ) → times (others xs n) n ≡ 0
none_left [] n = refl
none_left (x ∷ xs) n =
    elim (eqb_tells x n) as (λ _. times (others (x ∷ xs) n) n ≡ 0) [
      | inl is ↦ rw (others_cons x xs n true is.0) (none_left xs n)
      | inr never ↦
          let other : once (x == n) ≡ 0 = ap once never.0 in
          rw (others_cons x xs n false never.0) (omega (arith, times_cons x (others xs n) n, other, none_left xs n))
    ]

short : (n : ℕ) (xs : List ℕ) → ((i : ℕ) → times xs i ≤ 1) → ((i : ℕ) → n ≤ i → times xs i ≡ 0) → length xs ≤ n
short zero [] each past = zero-le
short zero (x ∷ xs) each past =
    let one : once (x == x) ≡ 1 = ap once (eq-eqb x x refl) in
    absurd (omega (arith, times_cons x xs x, one, past x zero-le))
short (suc n) xs each past =
    let less : length (others xs n) ≤ n =
    short n (others xs n) (λ i. omega (arith, no_more xs n i, each i))
    (λ i le. elim (eqb_tells n i) as (λ _. times (others xs n) i ≡ 0) [
      | inl is ↦ let P : ℕ → Type 0 = λ k. times (others xs n) k ≡ 0 in subst P is.1 (none_left xs n)
      | inr never ↦ omega (arith, no_more xs n i, past i (apart n i le never.1))
    ]) in
    omega (arith, all_counted xs n, each n, less)
  where
    apart : (n i : ℕ) → n ≤ i → (n ≡ i → ⊥) → suc n ≤ i
    apart n i le never = omega (arith, le, never)

-- ---- the lists of a queue

at_most_once : (b : Bool) → once b ≤ 1
at_most_once true = omega arith
at_most_once false = omega arith

-- the owed list has the queue's buffers in place, by how often it has each
abbrev pub ArePlaced : QueueState → (ℕ → ℕ) → Type 0
ArePlaced q owed = (i : ℕ) → IsInPlace q (owed i) i

none_past : (q : QueueState) (i : ℕ) → length q.buffers ≤ i → (buffer_of q i).state ≡ Idle
none_past q i past = ap (λ (b : Buffer). b.state) (get_or_past q.buffers i no_buffer past)

pub queued_short : (q : QueueState) (owed : ℕ → ℕ) → ArePlaced q owed → length q.queued ≤ length q.buffers
queued_short q owed h =
    short (length q.buffers) q.queued
    (λ i. omega (arith, (h i).0, at_most_once (is_queued (buffer_of q i).state)))
    (λ i past. (h i).0 ∙ ap (λ st. once (is_queued st)) (none_past q i past))

pub done_short : (q : QueueState) (owed : ℕ → ℕ) → ArePlaced q owed → length q.done ≤ length q.buffers
done_short q owed h =
    short (length q.buffers) q.done
    (λ i. omega (arith, (h i).2, at_most_once (is_done (buffer_of q i).state)))
    (λ i past. (h i).2 ∙ ap (λ st. once (is_done st)) (none_past q i past))

-- an Idle buffer may be queued: there is room for it in the queued list
pub room_to_queue : (q : QueueState) (owed : ℕ → ℕ) (i : ℕ) → i < length q.buffers → (buffer_of q i).state ≡ Idle → ArePlaced q owed →
    length q.queued < length q.buffers
room_to_queue q owed i within idle h =
    let b : Buffer = record no_buffer { state = Queued } in
    let v : QueueState = record (with_buffer q i b) { queued = q.queued ++ i ∷ [] } in
    let all : length v.queued ≤ length v.buffers = queued_short v owed (λ j. place_queued q (owed j) i b within idle refl j (h j)) in
    omega (arith, all, length-append q.queued (i ∷ []), length-set q.buffers i b)

-- a buffer that is owed may be given: there is room for it in the done list
pub room_to_give : (q : QueueState) (owed rest : ℕ → ℕ) (i : ℕ) → ((j : ℕ) → owed j ≡ once (i == j) + rest j) → ArePlaced q owed →
    length q.done < length q.buffers
room_to_give q owed rest i less h =
    let v : QueueState = with_done q i in
    let all : length v.done ≤ length v.buffers = done_short v rest (λ j. place_given q (owed j) i (rest j) j (less j) (h j)) in
    omega (arith, all, length-append q.done (i ∷ []), length-set q.buffers i (record (buffer_of q i) { state = Done }))
