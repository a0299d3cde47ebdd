-- What the queue keeps stays as buffers are pushed, popped, drained and settled.
use Rattle.std.proofs.Common.{◌≡◌, ℕ, ◌+◌, ◌<◌, ◌≤◌, ◌&&◌, Bool, true, false, not, nat_lt, List, [], ◌∷◌, ◌++◌, length, All, refl, arith, inl, inr, length-append}
use Rattle.std.proofs.lemmas.Grind.{common_steps}
use Rattle.std.proofs.lemmas.List.{map-append}
use Rattle.std.proofs.lemmas.List.Elements.{All-nil, All-cons}
use Rattle.std.proofs.lemmas.Bool.{cases_eq}
use Rattle.std.proofs.lemmas.Bool.Decides.{nat_tests}
use Rattle.v4l_layout.specs.declared.buffer_rec.BufferRec.{BufferRec}
use Rattle.vm_frame.specs.declared.mem.Held.{Held}
use Rattle.vm_queue.specs.declared.queued.Queued.{Queued}
use Rattle.vm_mem.specs.Lists.{occurrences}
use Rattle.vm_mem.proofs.OccurrenceLemmas.{occurrences-append, occurrences-one, occurrences-other}
use Rattle.vm_queue.specs.Buffers.{Buffers, IsSound, away, is_home, is_queued, is_out, pushed, settled, drained}
use Rattle.vm_queue.proofs.CountLemmas.{indices, not_found, found, found_nowhere, not_queued, queued_nowhere, taken_out, no_oftener, few_below}

-- how often an index is away
away_counts : (index : ℕ) (q : Buffers) → occurrences index (away q) ≡ occurrences index (indices q.queued) + occurrences index q.out
away_counts index q = occurrences-append index (indices q.queued) q.out

length_indices : (bs : List Queued) → length (indices bs) ≡ length bs
length_indices [] = refl
length_indices (b ∷ bs) = grind (arith, common_steps, length_indices bs)

-- no more buffers are away than there are
pub few_away : (q : Buffers) → IsSound q → length q.queued + length q.out ≤ q.count
few_away q sound =
    let all = few_below (away q) q.count sound.below sound.apart in
    let both = length-append (indices q.queued) q.out in
    let mapped : length (indices q.queued) ≡ length q.queued = length_indices q.queued in
    omega (arith, all, both, mapped)

-- where no index is away oftener than before, the queue is sound as before
fewer_away : (q r : Buffers) → r.count ≡ q.count → ((index : ℕ) → occurrences index (away r) ≤ occurrences index (away q)) → IsSound q → IsSound r
fewer_away q r same fewer sound = record {
  few = rw same (sound.few);
  below = λ index some. rw same (sound.below index (let less = fewer index in omega (arith, less, some)));
  apart = λ index. let less = fewer index in let once = sound.apart index in omega (arith, less, once);
}

-- what it means to be at home
record Home (q : Buffers) (index : ℕ) : Type 0 where
  within : index < q.count
  queued : is_queued q index ≡ false
  out : is_out q index ≡ false

tests_of : (within queued out : Bool) → (within && (not queued && not out)) ≡ true → (within ≡ true) × (queued ≡ false) × (out ≡ false)
tests_of true false false home = (refl, refl, refl)
tests_of true false true home = cc
tests_of true true out home = cc
tests_of false queued out home = cc

home_is : (q : Buffers) (index : ℕ) → is_home q index ≡ true → Home q index
home_is q index home =
    let tests = tests_of (nat_lt index q.count) (is_queued q index) (is_out q index) home in
    let less : nat_lt index q.count ≡ true = tests.0 in
    record { within = grind (arith, nat_tests, less); queued = tests.1; out = tests.2 }

pub pushed_sound : (q : Buffers) (b : BufferRec) (h : Held) → is_home q b.index ≡ true → IsSound q → IsSound (pushed q b h)
pushed_sound q b h home sound =
    let is = home_is q b.index home in
    let none_queued = not_queued b.index q.queued is.queued in
    let none_out = not_found b.index q.out is.out in
    let more : (index : ℕ) → occurrences index (away (pushed q b h)) ≡ occurrences index (away q) + occurrences index (b.index ∷ []) =
    λ index.
    let after = away_counts index (pushed q b h) in
    let before = away_counts index q in
    let one : Queued = record { buffer = b; held = h } in
    let behind : occurrences index (indices (q.queued ++ one ∷ [])) ≡ occurrences index (indices q.queued) + occurrences index (b.index ∷ []) =
    rw (map-append (λ (b : Queued). b.buffer.index) q.queued (one ∷ [])) (occurrences-append index (indices q.queued) (b.index ∷ [])) in
    omega (arith, after, before, behind)
    in
    let none : occurrences b.index (away q) ≡ 0 = let both = away_counts b.index q in omega (arith, both, none_queued, none_out) in
    record {
      few = sound.few;
      below = λ index some. elim (cases_eq index b.index) [
        | inl same ↦ rw same is.within
        | inr differs ↦
            let other = occurrences-other index b.index differs in
            let sum = more index in
            sound.below index (omega (arith, sum, other, some))
      ];
      apart = λ index. let sum = more index in elim (cases_eq index b.index) [
        | inl same ↦
            let here : occurrences b.index (away (pushed q b h)) ≤ 1 = let at = more b.index in let one = occurrences-one b.index in omega (arith, at, one, none) in
            rw same here
        | inr differs ↦
            let other = occurrences-other index b.index differs in
            let once = sound.apart index in
            omega (arith, sum, other, once)
      ];
    }

pub popped_sound : (q : Buffers) (b : Queued) (bs : List Queued) → q.queued ≡ b ∷ bs → IsSound q
    → IsSound (record q { queued = bs; out = q.out ++ b.buffer.index ∷ [] })
popped_sound q b bs first sound =
    let new : Buffers = record q { queued = bs; out = q.out ++ b.buffer.index ∷ [] } in
    let fewer : (index : ℕ) → occurrences index (away new) ≤ occurrences index (away q) =
    λ index.
    let after = away_counts index new in
    let before = away_counts index q in
    let ahead : occurrences index (indices q.queued) ≡ occurrences index (b.buffer.index ∷ []) + occurrences index (indices bs) =
    rw first (occurrences-append index (b.buffer.index ∷ []) (indices bs)) in
    let behind = occurrences-append index q.out (b.buffer.index ∷ []) in
    omega (arith, after, before, ahead, behind)
    in
    fewer_away q new refl fewer sound

pub drained_sound : (q : Buffers) → IsSound q → IsSound (drained q)
drained_sound q sound =
    let fewer : (index : ℕ) → occurrences index (away (drained q)) ≤ occurrences index (away q) =
    λ index. let before = away_counts index q in omega (arith, before)
    in
    fewer_away q (drained q) refl fewer sound

pub settled_sound : (q : Buffers) (index : ℕ) → IsSound q → IsSound (settled q index)
settled_sound q index sound =
    let fewer : (i : ℕ) → occurrences i (away (settled q index)) ≤ occurrences i (away q) =
    λ i.
    let after = away_counts i (settled q index) in
    let before = away_counts i q in
    let less = no_oftener i index q.out in
    omega (arith, after, before, less)
    in
    fewer_away q (settled q index) refl fewer sound

-- a buffer that is out is at home where it is settled
pub settled_home : (q : Buffers) (index : ℕ) → IsSound q → is_out q index ≡ true → is_home (settled q index) index ≡ true
settled_home q index sound out =
    let some = found index q.out out in
    let both = away_counts index q in
    let once = sound.apart index in
    let none : occurrences index (indices q.queued) ≡ 0 = omega (arith, some, both, once) in
    let not_queued : is_queued q index ≡ false = queued_nowhere index q.queued none in
    let not_out : is_out (settled q index) index ≡ false = taken_out index q.out in
    let within : index < q.count = sound.below index (omega (arith, some, both)) in
    let less : nat_lt index q.count ≡ true = grind (arith, nat_tests, within) in
    rw (less, not_queued, not_out) refl

-- buffers that are queued are at home where all are drained
queued_home : (q : Buffers) (bs : List Queued) → IsSound q → ((index : ℕ) → occurrences index (indices bs) ≤ occurrences index (indices q.queued))
    → All (λ (b : Queued). is_home (drained q) b.buffer.index ≡ true) bs
queued_home q [] sound part = All-nil (λ (b : Queued). is_home (drained q) b.buffer.index ≡ true)
queued_home q (b ∷ bs) sound part =
    let index = b.buffer.index in
    let ahead : (i : ℕ) → occurrences i (indices (b ∷ bs)) ≡ occurrences i (index ∷ []) + occurrences i (indices bs) =
    λ i. occurrences-append i (index ∷ []) (indices bs) in
    let rest = queued_home q bs sound (λ i. let here = ahead i in let all = part i in omega (arith, here, all)) in
    let some : 1 ≤ occurrences index (indices q.queued) =
    let here = ahead index in let one = occurrences-one index in let all = part index in omega (arith, here, one, all) in
    let both = away_counts index q in
    let once = sound.apart index in
    let none : occurrences index q.out ≡ 0 = omega (arith, some, both, once) in
    let not_out : is_out q index ≡ false = found_nowhere index q.out none in
    let within : index < q.count = sound.below index (omega (arith, some, both)) in
    let less : nat_lt index q.count ≡ true = grind (arith, nat_tests, within) in
    let home : is_home (drained q) index ≡ true = rw (less, not_out) refl in
    All-cons (λ (b : Queued). is_home (drained q) b.buffer.index ≡ true) b bs home rest

pub drained_home : (q : Buffers) → IsSound q → All (λ (b : Queued). is_home (drained q) b.buffer.index ≡ true) q.queued
drained_home q sound = queued_home q q.queued sound (λ index. omega arith)
