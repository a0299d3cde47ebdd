-- The memories of a record, by their lengths.
use Rattle.std.proofs.Common.{◌≡◌, ℕ, zero, suc, List, [], ◌∷◌, ◌++◌, length, get_or, map, replicate, refl, ap, ◌∙◌}
use Rattle.std.proofs.Math.ListN.{get_or-map}
use Rattle.std.proofs.lemmas.List.{length-replicate, length-map, map-append}
use Rattle.vm_local.specs.Record.{unwritten}

pub made : (ns : List ℕ) → length (map unwritten ns) ≡ length ns
made ns = length-map ns unwritten

pub unwritten_long : (ns : List ℕ) (m : ℕ) → length (get_or (map unwritten ns) m []) ≡ get_or ns m 0
unwritten_long ns m = ap (λ (xs : List ℕ). length xs) (get_or-map unwritten ns m 0) ∙ length-replicate (get_or ns m 0) 0

unwritten_many : (n size : ℕ) → map unwritten (replicate n size) ≡ replicate n (replicate size 0)
unwritten_many zero size = refl
unwritten_many (suc n) size = rw (unwritten_many n size) refl

pub unwritten_more : (ns : List ℕ) (n size : ℕ) → map unwritten (ns ++ replicate n size) ≡ map unwritten ns ++ replicate n (replicate size 0)
unwritten_more ns n size = map-append unwritten ns (replicate n size) ∙ ap (λ (xs : List (List ℕ)). map unwritten ns ++ xs) (unwritten_many n size)

pub unwritten_push : (ns : List ℕ) (n : ℕ) → map unwritten (ns ++ n ∷ []) ≡ map unwritten ns ++ replicate n 0 ∷ []
unwritten_push ns n = map-append unwritten ns (n ∷ [])
