-- A word of digits begins with one of ten bytes.
use Rattle.std.proofs.Common.{◌≡◌, ℕ, ◌≤◌, ◌==◌, ◌&&◌, nat_le, Bool, true, false, Some, None, IsSome, List, [], ◌∷◌, if◌then◌else◌, length, refl, subst, arith}
use Rattle.std.specs.List.{list_all}
use Rattle.std.proofs.lemmas.Bool.Decides.{nat_tests}
use Rattle.vm_script.specs.Words.{is_digit, is_digits, number_after, number_in}

both : (a b : Bool) → (a && b) ≡ true → (a ≡ true) × (b ≡ true)
both true b h = (refl, h)
both false b h = absurd (cc)

-- a property that each digit has
pub record OfDigits (P : ℕ → Type 0) : Type 0 where
  pub d0 : P 48
  pub d1 : P 49
  pub d2 : P 50
  pub d3 : P 51
  pub d4 : P 52
  pub d5 : P 53
  pub d6 : P 54
  pub d7 : P 55
  pub d8 : P 56
  pub d9 : P 57

tried : (P : ℕ → Type 0) (b k : ℕ) → P k → ((b ≡ k → ⊥) → P b) → (same : Bool) → (b == k) ≡ same → P b
tried P b k here other true is = let e : k ≡ b = grind (arith, nat_tests) in subst P e here
tried P b k here other false is = other (λ e. (let n : b ≡ k = e in grind (arith, nat_tests)))

pub by_digit : (P : ℕ → Type 0) → OfDigits P → (b : ℕ) → is_digit b ≡ true → P b
by_digit P each b digit =
    let low : 48 ≤ b = grind (arith, nat_tests) in
    let high : b ≤ 57 = grind (arith, nat_tests) in
    tried P b 48 each.d0 (λ n0. tried P b 49 each.d1 (λ n1. tried P b 50 each.d2 (λ n2. tried P b 51 each.d3 (λ n3. tried P b 52 each.d4 (λ n4.
    tried P b 53 each.d5 (λ n5. tried P b 54 each.d6 (λ n6. tried P b 55 each.d7 (λ n7. tried P b 56 each.d8 (λ n8. tried P b 57 each.d9 (λ n9.
    absurd (omega (arith, low, high, n0, n1, n2, n3, n4, n5, n6, n7, n8, n9)))
    (b == 57) refl) (b == 56) refl) (b == 55) refl) (b == 54) refl) (b == 53) refl) (b == 52) refl) (b == 51) refl) (b == 50) refl) (b == 49) refl) (b == 48) refl

-- a word that writes a number, by its first byte
pub record Written (word : List ℕ) : Type 0 where
  pub first : ℕ
  pub rest : List ℕ
  pub is : word ≡ first ∷ rest
  pub digit : is_digit first ≡ true

written_by : (most : ℕ) (word : List ℕ) → is_digits most word ≡ true → Written word
written_by most [] digits = absurd (cc)
written_by most (b ∷ bs) digits =
    let all = (both (nat_le 1 (length (b ∷ bs)) && nat_le (length (b ∷ bs)) most) (list_all is_digit (b ∷ bs)) digits).1 in
    record { first = b; rest = bs; is = refl; digit = (both (is_digit b) (list_all is_digit bs) all).0 }

some_only : {A : Type 0} (test : Bool) (x : A) → IsSome (if test then Some x else None) → test ≡ true
some_only true x some = refl
some_only false x some = absurd (cc)

pub written : (most limit : ℕ) (word : List ℕ) → IsSome (number_in most limit word) → Written word
written most limit word some =
    written_by most word (both (is_digits most word) (nat_le (number_after 0 word) limit)
    (some_only (is_digits most word && nat_le (number_after 0 word) limit) (number_after 0 word) some)).0
