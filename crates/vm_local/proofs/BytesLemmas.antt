-- The bytes of a memory that a fill writes one after another.
use Rattle.std.proofs.Common.{◌≡◌, ℕ, ◌+◌, ◌*◌, ◌%◌, ◌<◌, List, [], ◌∷◌, ◌++◌, set, length, take, ap, sym, ◌∙◌, arith}
use Rattle.std.proofs.lemmas.List.{take_more_set}
use Rattle.std.proofs.lemmas.List.FromFn.{map-range_with_len_more}
use Rattle.vm_mem.specs.Seeded.{seeded}

pub seeded_more : (bytes : List ℕ) (i seed v : ℕ) → v ≡ (7 * i + seed) % 256 → i < length bytes →
    take i bytes ≡ seeded seed i → take (i + 1) (set bytes i v) ≡ seeded seed (i + 1)
seeded_more bytes i seed v value within front =
    let start : 0 + i ≡ i = omega arith in
    take_more_set bytes i v within ∙ (ap (λ xs. xs ++ v ∷ []) front ∙ (ap (λ u. seeded seed i ++ u ∷ []) value ∙
    sym (map-range_with_len_more (λ k. (7 * k + seed) % 256) 0 i i start)))
