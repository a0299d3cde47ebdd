-- A fact of what is chosen by the place of a byte.
use Rattle.std.proofs.Common.{◌≡◌, ◌<◌, ◌≤◌, ℕ, ◌==◌, nat_lt, if◌then◌else◌, arith}
use Rattle.std.proofs.lemmas.Bool.{cond_both, eqb-true, eqb-false, ltb-true, ltb-false}
use Rattle.v4l_format.specs.declared.carried.Carried.{Carried}

-- before place n, or from it on
pub of_two_planes : (P : Carried → Type 0) (i n : ℕ) (one other : Carried) → (i < n → P one) → (n ≤ i → P other) → P (if nat_lt i n then one else other)
of_two_planes P i n one other p q =
    cond_both (nat_lt i n) one other P (λ e. p (ltb-true i n e)) (λ e. q (ltb-false i n e))

-- among two, three or four places
pub of_two : (P : Carried → Type 0) (n : ℕ) (a b : Carried) → n < 2 → (n ≡ 0 → P a) → (n ≡ 1 → P b) → P (if n == 0 then a else b)
of_two P n a b low p q =
    cond_both (n == 0) a b P (λ e. p (eqb-true n 0 e)) (λ e. let other = eqb-false n 0 e in q (omega arith))

pub of_three : (P : Carried → Type 0) (n : ℕ) (a b c : Carried) → n < 3 → (n ≡ 0 → P a) → (n ≡ 1 → P b) → (n ≡ 2 → P c) → P (if n == 0 then a else (if n == 1 then b else c))
of_three P n a b c low p q r =
    cond_both (n == 0) a _ P (λ e. p (eqb-true n 0 e)) (λ e. let other = eqb-false n 0 e in
    cond_both (n == 1) b c P (λ e'. q (eqb-true n 1 e')) (λ e'. let other' = eqb-false n 1 e' in r (omega arith)))

pub of_four : (P : Carried → Type 0) (n : ℕ) (a b c d : Carried) → n < 4 → (n ≡ 0 → P a) → (n ≡ 1 → P b) → (n ≡ 2 → P c) → (n ≡ 3 → P d) → P (if n == 0 then a else (if n == 1 then b else (if n == 2 then c else d)))
of_four P n a b c d low p q r s =
    cond_both (n == 0) a _ P (λ e. p (eqb-true n 0 e)) (λ e. let other = eqb-false n 0 e in
    cond_both (n == 1) b _ P (λ e'. q (eqb-true n 1 e')) (λ e'. let other' = eqb-false n 1 e' in
    cond_both (n == 2) c d P (λ e''. r (eqb-true n 2 e'')) (λ e''. let other'' = eqb-false n 2 e'' in s (omega arith))))
