-- Lists that are made piece by piece.
use Rattle.std.proofs.Common.{◌≡◌, ◌≤◌, ℕ, zero, suc, ◌+◌, ◌*◌, List, ◌++◌, length, take, arith, ap, sym, ◌∙◌, append_assoc, add-one}
use Rattle.std.proofs.lemmas.Grind.{common_steps}
use Rattle.std.proofs.lemmas.List.{take_at, length-append, length-take-le}
use Rattle.std.specs.List.{flat_map, range_with_len}

-- one piece more
flat_map_next : {A : Type 0} (f : ℕ → List A) (a n : ℕ) → flat_map f (range_with_len a (suc n)) ≡ flat_map f (range_with_len a n) ++ f (a + n)
flat_map_next f a zero = grind (arith, common_steps)
flat_map_next f a (suc n) =
    let next = flat_map_next f (a + 1) n in
    let same : a + 1 + n ≡ a + suc n = omega arith in
    ap (λ xs. f a ++ xs) next
    ∙ sym (append_assoc (f a) (flat_map f (range_with_len (a + 1) n)) (f (a + 1 + n)))
    ∙ ap (λ k. (f a ++ flat_map f (range_with_len (a + 1) n)) ++ f k) same

pub flat_map_more : {A : Type 0} (f : ℕ → List A) (n : ℕ) → flat_map f (range_with_len 0 (n + 1)) ≡ flat_map f (range_with_len 0 n) ++ f n
flat_map_more f n =
    let same : 0 + n ≡ n = omega arith in
    let next = flat_map_next f 0 n in
    rw add-one (next ∙ ap (λ k. flat_map f (range_with_len 0 n) ++ f k) same)

-- pieces of one size
pub length_pieces : {A : Type 0} (f : ℕ → List A) (size a n : ℕ) → ((k : ℕ) → length (f k) ≡ size) → length (flat_map f (range_with_len a n)) ≡ size * n
length_pieces f size a zero each = omega arith
length_pieces f size a (suc n) each =
    length-append (f a) (flat_map f (range_with_len (a + 1) n))
    ∙ omega (arith, each a, length_pieces f size (a + 1) n each)

-- the step of a loop that writes the pieces one behind the other
pub written_more : (f : ℕ → List ℕ) (size k : ℕ) (xs piece rest : List ℕ) → take (size * k) xs ≡ flat_map f (range_with_len 0 k) → f k ≡ piece → length piece ≡ size → size * k ≤ length xs → take (size * (k + 1)) (take (size * k) xs ++ (piece ++ rest)) ≡ flat_map f (range_with_len 0 (k + 1))
written_more f size k xs piece rest before here long room =
    let front = take (size * k) xs in
    let end : length (front ++ piece) ≡ size * (k + 1) = length-append front piece ∙ omega (arith, length-take-le (size * k) xs room) in
    ap (take (size * (k + 1))) (sym (append_assoc front piece rest))
    ∙ take_at (front ++ piece) rest (size * (k + 1)) end
    ∙ ap (λ ys. ys ++ piece) before ∙ ap (λ p. flat_map f (range_with_len 0 k) ++ p) (sym here) ∙ sym (flat_map_more f k)
