-- Lemmas on the list of the chains that are out, where one is taken out of it.
use Rattle.std.proofs.Common.{◌≡◌, ◌≢◌, ℕ, ◌+◌, ◌≤◌, List, [], ◌∷◌, ◌++◌, length, map, sum_by, All, refl, arith, inl, inr}
use Rattle.std.proofs.lemmas.Bool.{cases_eq}
use Rattle.std.proofs.lemmas.Bool.Decides.{nat_tests}
use Rattle.std.proofs.lemmas.List.Elements.{All-head, All-tail}
use Rattle.std.proofs.lemmas.List.Sums.{sum_by-cons}
use Rattle.vm_link.specs.declared.chains.OutChain.{OutChain}
use Rattle.vm_mem.specs.Lists.{occurrences}
use Rattle.vm_mem.proofs.OccurrenceLemmas.{occurrences-one}
use Rattle.vm_link.specs.Queue.{count_at, without}

abbrev pub heads_in : List OutChain → List ℕ
heads_in out = map (λ (c : OutChain). c.head) out

abbrev pub counts_in : List OutChain → ℕ
counts_in out = sum_by (λ (c : OutChain). c.count) out

-- each chain that is taken out had the head
pub length-without : (head : ℕ) (out : List OutChain) → length (without head out) + occurrences head (heads_in out) ≡ length out
length-without head [] = omega arith
length-without head (c ∷ cs) = grind (arith, nat_tests, length-without head cs)

-- a head that no chain has is not taken out
pub without-none : (head : ℕ) (out : List OutChain) → occurrences head (heads_in out) ≡ 0 → without head out ≡ out
without-none head [] none = refl
without-none head (c ∷ cs) none = elim (cases_eq c.head head) [
  | inl same ↦ grind (arith, nat_tests)
  | inr differs ↦ let rest : without head cs ≡ cs = without-none head cs (grind (arith, nat_tests)) in grind (arith, nat_tests, rest)
]

-- another head stays as often as it was
pub occurrences-without : (n head : ℕ) (out : List OutChain) → n ≢ head → occurrences n (heads_in (without head out)) ≡ occurrences n (heads_in out)
occurrences-without n head [] other = refl
occurrences-without n head (c ∷ cs) other = elim (cases_eq c.head head) [
  | inl same ↦ grind (arith, nat_tests, occurrences-without n head cs other)
  | inr differs ↦ grind (arith, nat_tests, occurrences-without n head cs other)
]

-- the head is there no more
occurrences-gone : (head : ℕ) (out : List OutChain) → occurrences head (heads_in (without head out)) ≡ 0
occurrences-gone head [] = refl
occurrences-gone head (c ∷ cs) = grind (arith, nat_tests, occurrences-gone head cs)

-- the head of the one that is taken out is the one by which the rest has fewer
pub occurrences-moved : (n head : ℕ) (out : List OutChain) → occurrences head (heads_in out) ≡ 1
    → occurrences n (heads_in (without head out)) + occurrences n (head ∷ []) ≡ occurrences n (heads_in out)
occurrences-moved n head out one = elim (cases_eq n head) [
  | inl same ↦ let gone = occurrences-gone head out in rw same (omega (arith, gone, occurrences-one head, one))
  | inr differs ↦
      let kept = occurrences-without n head out differs in
      let none : occurrences n (head ∷ []) ≡ 0 = grind (arith, nat_tests) in
      omega (arith, kept, none)
]

-- the descriptors of the one that is taken out are those by which the rest has fewer
pub counts-without : (head : ℕ) (out : List OutChain) → occurrences head (heads_in out) ≡ 1 → counts_in (without head out) + count_at head out ≡ counts_in out
counts-without head [] one = cc
counts-without head (c ∷ cs) one = elim (cases_eq c.head head) [
  | inl same ↦
      let rest : without head cs ≡ cs = without-none head cs (grind (arith, nat_tests)) in
      let sums = sum_by-cons (λ (c : OutChain). c.count) c cs in
      grind (arith, nat_tests, rest, sums)
  | inr differs ↦
      let rest : counts_in (without head cs) + count_at head cs ≡ counts_in cs = counts-without head cs (grind (arith, nat_tests)) in
      let sums = sum_by-cons (λ (c : OutChain). c.count) c cs in
      let kept = sum_by-cons (λ (c : OutChain). c.count) c (without head cs) in
      grind (arith, nat_tests, rest, sums, kept)
]

-- a chain that is there has a descriptor, where each has
pub some_at : (head : ℕ) (out : List OutChain) → 1 ≤ occurrences head (heads_in out) → All (λ c. 1 ≤ c.count) out → 1 ≤ count_at head out
some_at head [] there some = omega (arith, there)
some_at head (c ∷ cs) there some = elim (cases_eq c.head head) [
  | inl same ↦ let here = All-head (λ (c : OutChain). 1 ≤ c.count) c cs some in grind (arith, nat_tests, here)
  | inr differs ↦ let rest : 1 ≤ count_at head cs = some_at head cs (grind (arith, nat_tests)) (All-tail (λ (c : OutChain). 1 ≤ c.count) c cs some) in grind (arith, nat_tests, rest)
]

-- each has at least one, so they are no more than their sum
pub length-le-sum : {A : Type 0} (f : A → ℕ) (xs : List A) → All (λ x. 1 ≤ f x) xs → length xs ≤ sum_by f xs
length-le-sum f [] some = omega arith
length-le-sum f (x ∷ xs) some =
    let here = All-head (λ x. 1 ≤ f x) x xs some in
    let rest = length-le-sum f xs (All-tail (λ x. 1 ≤ f x) x xs some) in
    let sums = sum_by-cons f x xs in
    omega (arith, here, rest, sums)

-- a chain is found and taken out behind others with other heads
pub count_at-push : (out : List OutChain) (c : OutChain) → occurrences c.head (heads_in out) ≡ 0 → count_at c.head (out ++ c ∷ []) ≡ c.count
count_at-push [] c away = grind (arith, nat_tests)
count_at-push (o ∷ os) c away = elim (cases_eq o.head c.head) [
  | inl same ↦ grind (arith, nat_tests)
  | inr differs ↦ let rest : count_at c.head (os ++ c ∷ []) ≡ c.count = count_at-push os c (grind (arith, nat_tests)) in grind (arith, nat_tests, rest)
]

pub without-push : (out : List OutChain) (c : OutChain) → occurrences c.head (heads_in out) ≡ 0 → without c.head (out ++ c ∷ []) ≡ out
without-push [] c away = grind (arith, nat_tests)
without-push (o ∷ os) c away = elim (cases_eq o.head c.head) [
  | inl same ↦ grind (arith, nat_tests)
  | inr differs ↦ let rest : without c.head (os ++ c ∷ []) ≡ os = without-push os c (grind (arith, nat_tests)) in grind (arith, nat_tests, rest)
]
