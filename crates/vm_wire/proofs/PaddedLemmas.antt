-- An array that holds a list at its front and zeros behind it.
use Rattle.std.proofs.Common.{◌≡◌, ℕ, ◌+◌, ◌-◌, ◌≤◌, List, ◌++◌, length, take, drop, replicate, arith, sym, ap, ◌∙◌, length-append}
use Rattle.std.proofs.lemmas.List.{drop-replicate, length-replicate}
use Rattle.std.proofs.Math.Seq.{take-append_seam}

pub padded_sound : (xs : List ℕ) (room : ℕ) → length xs ≤ room →
    (length xs ≤ room) × (length (xs ++ drop (length xs) (replicate room 0)) ≡ room) ×
    (xs ++ drop (length xs) (replicate room 0) ≡ take (length xs) (xs ++ drop (length xs) (replicate room 0)) ++ replicate (room - length xs) 0)
padded_sound xs room within =
    let rest : drop {A = ℕ} (length xs) (replicate room 0) ≡ replicate (room - length xs) 0 = drop-replicate (length xs) room 0 in
    let all : length xs + (room - length xs) ≡ room = omega (arith, within) in
    rw rest (
      within,
      length-append xs (replicate (room - length xs) 0) ∙ (ap (λ n. length xs + n) (length-replicate (room - length xs) 0) ∙ all),
      ap (λ ys. ys ++ replicate (room - length xs) 0) (sym (take-append_seam xs (replicate (room - length xs) 0))),
    )
