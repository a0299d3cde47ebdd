-- Pieces, words and echoes of lists of bytes.
use Rattle.std.proofs.Common.{◌≡◌, ℕ, ◌+◌, ◌<◌, Bool, List, [], ◌∷◌, ◌++◌, map, take, get_or, length, Bor, refl, sym, arith, tests, eqb, append_assoc}
use Rattle.std.specs.List.{slice_split, onto_first as std_onto_first, join_with_byte}
use Rattle.std.proofs.lemmas.List.{take_more, map-append, length-map, length-take}
use Rattle.vm_script.specs.Words.{pieces_by, onto_first, is_empty}

onto_first_same : (b : ℕ) (pieces : List (List ℕ)) → std_onto_first b pieces ≡ onto_first b pieces
onto_first_same b [] = refl
onto_first_same b (piece ∷ pieces) = refl

-- std's parts of a list are the pieces of the grammar
pub split_is_pieces : (parts : ℕ → Bool) (bs : List ℕ) → slice_split parts bs ≡ pieces_by parts bs
split_is_pieces parts [] = refl
split_is_pieces parts (b ∷ bs) = rw (split_is_pieces parts bs, onto_first_same b (pieces_by parts bs)) refl

pub empty_by_length : (w : List ℕ) → eqb (length w) 0 ≡ is_empty w
empty_by_length [] = refl
empty_by_length (b ∷ bs) = search (arith, tests)

-- one more word is joined behind the byte
pub join_push : (c : ℕ) (ws : List (List ℕ)) (w : List ℕ) → 0 < length ws → join_with_byte c (ws ++ w ∷ []) ≡ (join_with_byte c ws ++ c ∷ []) ++ w
join_push c [] w h = absurd (omega arith)
join_push c (x ∷ []) w h = sym (append_assoc x (c ∷ []) w)
join_push c (x ∷ y ∷ ws) w h = rw (join_push c (y ∷ ws) w (omega arith)) (simp append_assoc)

pub join_first : (c : ℕ) (ws : List (Bor (List ℕ))) (d : Bor (List ℕ)) → 0 < length ws → join_with_byte c (map (λ w. w.now) (take 1 ws)) ≡ (get_or ws 0 d).now
join_first c [] d h = absurd (omega arith)
join_first c (w ∷ ws) d h = refl

pub join_more : (c : ℕ) (ws : List (Bor (List ℕ))) (i : ℕ) (d : Bor (List ℕ)) → 0 < i → i < length ws → join_with_byte c (map (λ w. w.now) (take (i + 1) ws)) ≡ (join_with_byte c (map (λ w. w.now) (take i ws)) ++ c ∷ []) ++ (get_or ws i d).now
join_more c ws i d h k =
    let shown : Bor (List ℕ) → List ℕ = λ w. w.now in
    let some : 0 < length (map shown (take i ws)) = simp (length-map, length-take) (omega arith) in
    let e : map shown (take (i + 1) ws) ≡ map shown (take i ws) ++ shown (get_or ws i d) ∷ [] = rw (take_more ws i d k, map-append shown (take i ws) (get_or ws i d ∷ [])) refl in
    rw e (join_push c (map shown (take i ws)) (shown (get_or ws i d)) some)
