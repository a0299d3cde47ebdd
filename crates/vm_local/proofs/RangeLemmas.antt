-- A list made from the numbers from 0 on, one after another.
use Rattle.std.proofs.Common.{◌≡◌, ℕ, ◌+◌, List, [], ◌∷◌, ◌++◌, map, refl, ap, sym, ◌∙◌, arith}
use Rattle.std.specs.List.{range_with_len}
use Rattle.std.proofs.lemmas.List.FromFn.{map-range_with_len_more}

pub mapped_more : (f : ℕ → ℕ) (xs ys : List ℕ) (v i : ℕ) → xs ≡ map f (range_with_len 0 i) → v ≡ f i → ys ≡ xs ++ v ∷ [] →
    ys ≡ map f (range_with_len 0 (i + 1))
mapped_more f xs ys v i front value pushed =
    let start : 0 + i ≡ i = omega arith in
    pushed ∙ (ap (λ zs. zs ++ v ∷ []) front ∙ (ap (λ u. map f (range_with_len 0 i) ++ u ∷ []) value ∙ sym (map-range_with_len_more f 0 i i start)))

-- the same of any things, from a number on
pub mapped_from : {X : Type 0} (f : ℕ → X) (a : ℕ) (xs ys : List X) (v : X) (i : ℕ) → xs ≡ map f (range_with_len a i) → v ≡ f (a + i) → ys ≡ xs ++ v ∷ [] →
    ys ≡ map f (range_with_len a (i + 1))
mapped_from {X} f a xs ys v i front value pushed =
    let more : map f (range_with_len a (i + 1)) ≡ map f (range_with_len a i) ++ f (a + i) ∷ [] = map-range_with_len_more f a i (a + i) refl in
    pushed ∙ (ap (λ (zs : List X). zs ++ v ∷ []) front ∙ (ap (λ (u : X). map f (range_with_len a i) ++ u ∷ []) value ∙ sym more))
