-- Numbers, digits and names: each is read from the word that is printed of it, and from no other.
use Rattle.std.proofs.Common.{◌≡◌, ℕ, ◌+◌, ◌-◌, ◌*◌, ◌/◌, ◌%◌, ◌^◌, ◌<◌, ◌≤◌, Bool, true, false, ◌&&◌, List, [], ◌∷◌, ◌++◌, length, refl, ◌∙◌, subst, arith, Option, Some, None, if◌then◌else◌}
use Rattle.std.specs.Prelude.{nat_le}
use Rattle.std.specs.Fmt.{decimal}
use Rattle.std.specs.List.{list_all}
use Rattle.std.specs.Str.{bytes_eq}
use Rattle.std.proofs.lemmas.Bool.Decides.{nat_tests}
use Rattle.std.proofs.lemmas.Fmt.{decimal_by_steps, length-decimal-le, decimal_nonempty}
use Rattle.std.proofs.lemmas.Slice.Eq.{bytes_eq-Decides}
use Rattle.vm_script.specs.Words.{is_digit, number_after, is_digits, number_in}
use Rattle.vm_report.specs.Reading.{exact, number_told}

-- ---- equal words

pub same_word : (xs ys : List ℕ) → bytes_eq xs ys ≡ true → xs ≡ ys
same_word xs ys e = (bytes_eq-Decides xs ys).0 e

pub word_same : (xs : List ℕ) → bytes_eq xs xs ≡ true
word_same xs = (bytes_eq-Decides xs xs).1 refl

pub both : (a b : Bool) → (a && b) ≡ true → (a ≡ true) × (b ≡ true)
both true b h = (refl, h)
both false b h = absurd (cc)

-- ---- numbers

all_append : (p : ℕ → Bool) (xs ys : List ℕ) → list_all p xs ≡ true → list_all p ys ≡ true → list_all p (xs ++ ys) ≡ true
all_append p [] ys h k = k
all_append p (x ∷ xs) ys h k =
    let parted = both (p x) (list_all p xs) h in
    rw (parted.0, all_append p xs ys parted.1 k) refl

digit_is : (n : ℕ) → n < 10 → is_digit (48 + n) ≡ true
digit_is n h = grind (arith, nat_tests)

pub decimal_digits : (n : ℕ) → n < 2 ^ 64 → list_all is_digit (decimal n) ≡ true
decimal_digits n h =
    decimal_by_steps (λ n ds. list_all is_digit ds ≡ true)
    (λ n few. rw (digit_is n few) refl)
    (λ n ds many all. all_append is_digit ds ((48 + n % 10) ∷ []) all (rw (digit_is (n % 10) (omega arith)) refl))
    n h

after_append : (n : ℕ) (xs : List ℕ) (b : ℕ) → number_after n (xs ++ b ∷ []) ≡ 10 * number_after n xs + (b - 48)
after_append n [] b = refl
after_append n (x ∷ xs) b = after_append (10 * n + (x - 48)) xs b

pub decimal_number : (n : ℕ) → n < 2 ^ 64 → number_after 0 (decimal n) ≡ n
decimal_number n h =
    decimal_by_steps (λ n ds. number_after 0 ds ≡ n)
    (λ n few. (let e : 10 * 0 + (48 + n - 48) ≡ n = omega arith in e))
    (λ n ds many is. after_append 0 ds (48 + n % 10) ∙ rw is (let e : 10 * (n / 10) + (48 + n % 10 - 48) ≡ n = omega arith in e))
    n h

told_by : (word : List ℕ) (o : Option ℕ) (n : ℕ) → exact word o ≡ Some n → (decimal n ≡ word) × (o ≡ Some n)
told_by word None n e = absurd (cc)
told_by word (Some m) n e = by_test (bytes_eq (decimal m) word) refl e
  where
    by_test : (test : Bool) → bytes_eq (decimal m) word ≡ test → (if test then Some m else None) ≡ Some n → (decimal n ≡ word) × (Some m ≡ Some n)
    by_test true is e = (subst (λ k. decimal k ≡ word) (cc) (same_word (decimal m) word is), e)
    by_test false is e = absurd (cc)

in_limit : (most limit : ℕ) (word : List ℕ) (n : ℕ) → number_in most limit word ≡ Some n → n ≤ limit
in_limit most limit word n e = by_tests (is_digits most word) (nat_le (number_after 0 word) limit) refl e
  where
    by_tests : (digits small : Bool) → nat_le (number_after 0 word) limit ≡ small → (if digits && small then Some (number_after 0 word) else None) ≡ Some n → n ≤ limit
    by_tests true true is e = let same : number_after 0 word ≡ n = cc in grind (arith, nat_tests)
    by_tests true false is e = absurd (cc)
    by_tests false small is e = absurd (cc)

-- what is read from a word is printed as it, and is within the limit
pub number_fits : (limit : ℕ) (word : List ℕ) (n : ℕ) → number_told limit word ≡ Some n → (decimal n ≡ word) × (n ≤ limit)
number_fits limit word n e =
    let told = told_by word (number_in 20 limit word) n e in
    (told.0, in_limit 20 limit word n told.1)

-- a number is read from the word that is printed of it
pub number_again : (limit n : ℕ) → n ≤ limit → n < 2 ^ 64 → number_told limit (decimal n) ≡ Some n
number_again limit n fits small =
    let some : nat_le 1 (length (decimal n)) ≡ true = (let h = decimal_nonempty n small in grind (arith, nat_tests)) in
    let few : nat_le (length (decimal n)) 20 ≡ true = (let h = length-decimal-le 20 n (omega arith) (omega arith) small in grind (arith, nat_tests)) in
    let within : nat_le n limit ≡ true = grind (arith, nat_tests) in
    rw (some, few, decimal_digits n small, decimal_number n small, within, word_same (decimal n)) refl

-- ---- a chain of tests

pub same_either : (xs ys : List ℕ) → bytes_eq xs ys ≡ bytes_eq ys xs
same_either xs ys = by_tests (bytes_eq xs ys) (bytes_eq ys xs) refl refl
  where
    by_tests : (a b : Bool) → bytes_eq xs ys ≡ a → bytes_eq ys xs ≡ b → a ≡ b
    by_tests true true e f = refl
    by_tests false false e f = refl
    by_tests true false e f = absurd (let same = same_word xs ys e in let other : bytes_eq ys xs ≡ true = rw same (word_same ys) in cc)
    by_tests false true e f = absurd (let same = same_word ys xs f in let other : bytes_eq xs ys ≡ true = rw same (word_same xs) in cc)
