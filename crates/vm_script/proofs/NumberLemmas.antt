-- Numbers, digit by digit.
use Rattle.std.proofs.Common.{◌≡◌, ℕ, zero, suc, ◌+◌, ◌*◌, ◌-◌, ◌<◌, ◌≤◌, Bool, true, false, ◌&&◌, List, [], ◌∷◌, length, get_or, drop, refl, arith, Option, Some, None, if◌then◌else◌}
use Rattle.std.specs.Prelude.{nat_le}
use Rattle.std.specs.List.{list_all}
use Rattle.std.specs.Option.{option_and_then}
use Rattle.std.proofs.lemmas.Bool.Decides.{nat_tests}
use Rattle.vm_script.specs.Words.{is_digit, number_after, number_in}

-- a number with the digit behind it; none where the byte is no digit, or the number is above the limit
abbrev pub digit_more : ℕ → ℕ → ℕ → Option ℕ
digit_more limit n b = if is_digit b && nat_le (10 * n + (b - 48)) limit then Some (10 * n + (b - 48)) else None

-- a number with these digits behind it; none where a byte is no digit, or the number is above the limit
abbrev pub digits_more : ℕ → ℕ → List ℕ → Option ℕ
digits_more limit n bs = if list_all is_digit bs && nat_le (number_after n bs) limit then Some (number_after n bs) else None

number_grows : (n : ℕ) (bs : List ℕ) → n ≤ number_after n bs
number_grows n [] = omega arith
number_grows n (b ∷ bs) = let more : 10 * n + (b - 48) ≤ number_after (10 * n + (b - 48)) bs = number_grows (10 * n + (b - 48)) bs in omega arith

above : (n limit : ℕ) (bs : List ℕ) → nat_le n limit ≡ false → nat_le (number_after n bs) limit ≡ false
above n limit bs h = let g : n ≤ number_after n bs = number_grows n bs in grind (arith, nat_tests)

both_none : (a : Bool) (n : ℕ) (b : Bool) → b ≡ false → (if a && b then Some n else None) ≡ None
both_none true n b e = rw e refl
both_none false n b e = refl

digits_cons : (limit n b : ℕ) (bs : List ℕ) (digit within : Bool) → is_digit b ≡ digit → nat_le (10 * n + (b - 48)) limit ≡ within
    → digits_more limit n (b ∷ bs) ≡ option_and_then (λ m. digits_more limit m bs) (if digit && within then Some (10 * n + (b - 48)) else None)
digits_cons limit n b bs false within e f = rw e refl
digits_cons limit n b bs true true e f = rw e refl
digits_cons limit n b bs true false e f = rw e (both_none (list_all is_digit bs) (number_after (10 * n + (b - 48)) bs) _ (above (10 * n + (b - 48)) limit bs f))

-- one digit further
pub digits_step : (limit n : ℕ) (word : List ℕ) (i d : ℕ) → i < length word
    → digits_more limit n (drop i word) ≡ option_and_then (λ m. digits_more limit m (drop (i + 1) word)) (digit_more limit n (get_or word i d))
digits_step limit n [] i d within = absurd (omega (arith, within))
digits_step limit n (b ∷ bs) zero d within = digits_cons limit n b bs (is_digit b) (nat_le (10 * n + (b - 48)) limit) refl refl
digits_step limit n (b ∷ bs) (suc i) d within = let next : suc i + 1 ≡ suc (i + 1) = omega arith in rw next (digits_step limit n bs i d (omega (arith, within)))

-- a word of 1 to so many bytes writes a number where its digits do
pub number_by_digits : (most limit : ℕ) (word : List ℕ) → 0 < length word → length word ≤ most → digits_more limit 0 word ≡ number_in most limit word
number_by_digits most limit word some few = let e : nat_le 1 (length word) ≡ true = grind (arith, nat_tests) in let f : nat_le (length word) most ≡ true = grind (arith, nat_tests) in rw (e, f) refl
