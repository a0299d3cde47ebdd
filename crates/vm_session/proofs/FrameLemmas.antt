-- Lemmas on frames that are looked for, and on the memories that come back.
use Rattle.std.proofs.Common.{◌≡◌, ℕ, zero, suc, ◌+◌, ◌<◌, ◌==◌, Bool, true, false, Option, Some, None, is_some, List, ◌∷◌, ◌++◌, [], length, map, take, drop, get_or, set, refl, sym, ap, ◌∙◌, arith}
use Rattle.std.specs.List.{flat_map, find}
use Rattle.std.specs.Option.{option_map, option_or}
use Rattle.std.proofs.lemmas.List.{drop_more, take_more, flat_map_more}
use Rattle.std.proofs.lemmas.List.Concat.{flat_map-cons}
use Rattle.std.proofs.lemmas.List.Folds.{find-append}
use Rattle.vm_frame.specs.declared.mem.Held.{Held}
use Rattle.vm_queue.specs.Buffers.{memories}
use Rattle.vm_wire.specs.Buffers.{buffer_offset}
use Rattle.vm_session.specs.State.{SessionQueue, opening_queue}
use Rattle.vm_session.specs.Buffers.{stopped_queue, queued_memories}
use Rattle.vm_session.specs.Mapped.{MappableFrame, frames_from, frame_at}

-- ---- looking for a frame

-- a frame that isn't mapped from the offset is passed over
pub passed_over : (t first offset i n : ℕ) (lens : List ℕ) → i < length lens → n ≡ buffer_offset t i → (n == offset) ≡ false
    → frame_at offset (frames_from t first i (drop i lens)) ≡ frame_at offset (frames_from t first (i + 1) (drop (i + 1) lens))
passed_over t first offset i n lens within is differs =
    let here : (buffer_offset t i == offset) ≡ false = ap (λ m. m == offset) (sym is) ∙ differs in
    ap (λ ls. frame_at offset (frames_from t first i ls)) (drop_more lens i 0 within) ∙ rw here refl

abbrev tag_and_length : MappableFrame → ℕ × ℕ
tag_and_length f = (f.tag, f.len)

abbrev has_offset : ℕ → MappableFrame → Bool
has_offset offset f = f.offset == offset

either_found : (o p : Option MappableFrame) → option_map tag_and_length (option_or o p) ≡ option_or (option_map tag_and_length o) (option_map tag_and_length p)
either_found None p = refl
either_found (Some f) p = refl

found_in_both : (offset : ℕ) (xs ys : List MappableFrame) → frame_at offset (xs ++ ys) ≡ option_or (frame_at offset xs) (frame_at offset ys)
found_in_both offset xs ys =
    ap (option_map tag_and_length) (find-append (has_offset offset) xs ys) ∙ either_found (find (has_offset offset) xs) (find (has_offset offset) ys)

-- what is found from a type on is found at the type, or behind it
found_at : (offset : ℕ) (frames : ℕ → List MappableFrame) (types : List ℕ) (i : ℕ) → i < length types
    → frame_at offset (flat_map frames (drop i types)) ≡ option_or (frame_at offset (frames (get_or types i 0))) (frame_at offset (flat_map frames (drop (i + 1) types)))
found_at offset frames types i within =
    ap (λ ts. frame_at offset (flat_map frames ts)) (drop_more types i 0 within)
    ∙ ap (λ fs. frame_at offset fs) (flat_map-cons frames (get_or types i 0) (drop (i + 1) types))
    ∙ found_in_both offset (frames (get_or types i 0)) (flat_map frames (drop (i + 1) types))

some_first : (o p : Option (ℕ × ℕ)) → is_some o ≡ true → option_or o p ≡ o
some_first None p is = cc
some_first (Some x) p is = refl

none_first : (o p : Option (ℕ × ℕ)) → is_some o ≡ false → option_or o p ≡ p
none_first None p is = refl
none_first (Some x) p is = cc

pub found_here : (offset : ℕ) (frames : ℕ → List MappableFrame) (types : List ℕ) (i : ℕ) (found : Option (ℕ × ℕ)) → i < length types
    → frame_at offset (flat_map frames types) ≡ frame_at offset (flat_map frames (drop i types))
    → found ≡ frame_at offset (frames (get_or types i 0)) → is_some found ≡ true → found ≡ frame_at offset (flat_map frames types)
found_here offset frames types i found within before is some =
    let rest : Option (ℕ × ℕ) = frame_at offset (flat_map frames (drop (i + 1) types)) in
    sym (before ∙ found_at offset frames types i within ∙ ap (λ o. option_or o rest) (sym is) ∙ some_first found rest some)

pub found_behind : (offset : ℕ) (frames : ℕ → List MappableFrame) (types : List ℕ) (i : ℕ) (found : Option (ℕ × ℕ)) → i < length types
    → frame_at offset (flat_map frames types) ≡ frame_at offset (flat_map frames (drop i types))
    → found ≡ frame_at offset (frames (get_or types i 0)) → is_some found ≡ false
    → frame_at offset (flat_map frames types) ≡ frame_at offset (flat_map frames (drop (i + 1) types))
found_behind offset frames types i found within before is none =
    let rest : Option (ℕ × ℕ) = frame_at offset (flat_map frames (drop (i + 1) types)) in
    before ∙ found_at offset frames types i within ∙ ap (λ o. option_or o rest) (sym is) ∙ none_first found rest none

-- ---- stopping queue by queue

-- a queue that isn't stopped yet is as it was
pub still_there : (qs : List SessionQueue) (i : ℕ) (d : SessionQueue) → i < length qs → get_or (map stopped_queue (take i qs) ++ drop i qs) i d ≡ get_or qs i opening_queue
still_there [] i d within = absurd (omega (arith, within))
still_there (x ∷ xs) zero d within = refl
still_there (x ∷ xs) (suc i) d within = still_there xs i d (omega (arith, within))

stopped_next : (qs : List SessionQueue) (i : ℕ) (q q' : SessionQueue) → i < length qs → q ≡ get_or qs i opening_queue → q' ≡ stopped_queue q
    → set (map stopped_queue (take i qs) ++ drop i qs) i q' ≡ map stopped_queue (take (suc i) qs) ++ drop (suc i) qs
stopped_next [] i q q' within is stops = absurd (omega (arith, within))
stopped_next (x ∷ xs) zero q q' within is stops = ap (λ y. y ∷ xs) (stops ∙ ap stopped_queue is)
stopped_next (x ∷ xs) (suc i) q q' within is stops = ap (λ ys. stopped_queue x ∷ ys) (stopped_next xs i q q' (omega (arith, within)) is stops)

pub stopped_more : (qs : List SessionQueue) (i : ℕ) (q q' : SessionQueue) → i < length qs → q ≡ get_or qs i opening_queue → q' ≡ stopped_queue q
    → set (map stopped_queue (take i qs) ++ drop i qs) i q' ≡ map stopped_queue (take (i + 1) qs) ++ drop (i + 1) qs
stopped_more qs i q q' within is stops =
    let next : suc i ≡ i + 1 = omega arith in
    stopped_next qs i q q' within is stops ∙ ap (λ n. map stopped_queue (take n qs) ++ drop n qs) next

-- the memories of one queue more
pub one_more : (qs : List SessionQueue) (i : ℕ) (q : SessionQueue) (front back back' : List Held) → i < length qs → q ≡ get_or qs i opening_queue
    → back ≡ front ++ queued_memories (take i qs) → back' ≡ back ++ memories q.queued → back' ≡ front ++ queued_memories (take (i + 1) qs)
one_more qs i q front back back' within is before more =
    more ∙ ap (λ b. b ++ memories q.queued) before
    ∙ ap (λ (x : SessionQueue). (front ++ queued_memories (take i qs)) ++ memories x.queued) is
    ∙ flat_map_more (λ (x : SessionQueue). memories x.queued) front (take i qs) (get_or qs i opening_queue)
    ∙ ap (λ xs. front ++ queued_memories xs) (sym (take_more qs i opening_queue within))
